-- The packs as they are held, and what the calls made of them.
use Rattle.std.proofs.Common.{◌≡◌, ℕ, ◌<◌, ◌≤◌, List, [], ◌∷◌, ◌++◌, Bool, true, false, cond, ◌==◌, Option, None, Some, refl, sym, ◌∙◌, ap, arith}
use Rattle.std.specs.Option.{option_map, is_some}
use Rattle.std.specs.FinMap.{get}
use Rattle.std.proofs.lemmas.Bool.{eqb-true}
use Rattle.pack_disk.specs.declared.history.Call.{Call}
use Rattle.pack_disk.specs.declared.history.Call.TheVariants.{Make, Append, Sync}
use Rattle.pack_disk.specs.Disk.{last_number}
use Rattle.pack_disk.specs.PackState.{PackState, begun, fresh, grown, settled}
use Rattle.pack_disk.specs.declared.remains.Remains.{Remains}
use Rattle.pack_disk.specs.Past.{Past, with_call, State, changed, state_after, state_from, state, at_number, IsHeld, ChangesHeld, told}
use Rattle.pack_disk.specs.Told.{IsPackTold, is_told}
use Rattle.pack_disk.proofs.Steps.{state-push}

-- two states that are the same at each pack stay so
state_alike : (call : Call) (s t : State) → ((n : ℕ) → s n ≡ t n) → (n : ℕ) → state_after call s n ≡ state_after call t n
state_alike (Make n) s t same m = ap (cond (m == n) (Some fresh)) (same m)
state_alike (Append n bytes) s t same m = ap (λ o. cond (m == n) (option_map (grown bytes) o) o) (same m)
state_alike (Sync n) s t same m = ap (λ o. cond (m == n) (option_map settled o) o) (same m)

pub shows_after : (past : Past) (call : Call) (old new : List (ℕ × PackState)) → ((n : ℕ) → at_number old n ≡ state past n) → ChangesHeld call old new
    → (n : ℕ) → at_number new n ≡ state (with_call past call) n
shows_after past call old new shown change n = change n ∙ state_alike call (at_number old) (state past) shown n ∙ sym (ap (λ s. s n) (state-push past call))

changed_none : (n : ℕ) (f : PackState → PackState) (s : State) (m : ℕ) → s m ≡ None → changed n f s m ≡ None
changed_none n f s m none = elim (m == n) as (λ b. cond b (option_map f (s m)) (s m) ≡ None) [
  | true ↦ ap (option_map f) none
  | false ↦ none
]

-- a pack with too great a number isn't made
abbrev pub InRange : Call → Type 0
InRange (Make n) = n ≤ last_number
InRange (Append n bytes) = Unit {0}
InRange (Sync n) = Unit {0}

none_after : (call : Call) (s : State) → InRange call → ((n : ℕ) → last_number < n → s n ≡ None) → (n : ℕ) → last_number < n → state_after call s n ≡ None
none_after (Make n) s le none m above = go (m == n) refl
  where
    go : (b : Bool) → (m == n) ≡ b → cond b (Some fresh) (s m) ≡ None
    go true e = absurd (omega (arith, le, above, eqb-true m n e))
    go false e = none m above
none_after (Append n bytes) s le none m above = changed_none n (grown bytes) s m (none m above)
none_after (Sync n) s le none m above = changed_none n settled s m (none m above)

-- what is held after a call that was done
pub held_after : (start : List (ℕ × Remains)) (done now : List Call) (call : Call) (old new : List (ℕ × PackState)) → InRange call → IsHeld start done old
    → now ≡ done ++ call ∷ [] → ChangesHeld call old new → IsHeld start now new
held_after start done now call old new range held more change = rw more (record {
  shown = shows_after (record { start = start; done = done }) call old new held.shown change;
  numbers = λ n above. change n ∙ none_after call (at_number old) range held.numbers n above;
})

-- the same, after a call that was taken back
pub held_still : (start : List (ℕ × Remains)) (done now : List Call) (old new : List (ℕ × PackState)) → IsHeld start done old → now ≡ done → new ≡ old → IsHeld start now new
held_still start done now old new held same alike = rw (same, alike) held

-- nothing is held before the first call on no packs
pub held_nothing : (start : List (ℕ × Remains)) (done : List Call) (held : List (ℕ × PackState)) → start ≡ [] → done ≡ [] → held ≡ [] → IsHeld start done held
unfolding state_from
held_nothing start done held none no_call nothing = rw (none, no_call, nothing) (record {
  shown = λ n. refl;
  numbers = λ n above. refl;
})

-- what is told of each pack is what is held of it
pub told_of : (past : Past) (held : List (ℕ × PackState)) → ((n : ℕ) → at_number held n ≡ state past n) → (n : ℕ) → get (told past) n ≡ option_map (λ p. p.now) (at_number held n)
told_of past held shown n = go (state past n) (get (told past) n) (is_told past n) ∙ ap (option_map (λ p. p.now)) (sym (shown n))
  where
    go : (o : Option PackState) (q : Option (List ℕ)) → IsPackTold o q → q ≡ option_map (λ p. p.now) o
    go None q t = t
    go (Some p) q t = t.0

some_of : (o : Option PackState) → is_some (option_map (λ p. p.now) o) ≡ true → is_some o ≡ true
some_of None is = is
some_of (Some p) is = refl

some_map : (o : Option PackState) → is_some o ≡ true → is_some (option_map (λ p. p.now) o) ≡ true
some_map None is = is
some_map (Some p) is = refl

-- a pack that is told is held
pub told_held : (past : Past) (held : List (ℕ × PackState)) → ((n : ℕ) → at_number held n ≡ state past n) → (n : ℕ) → is_some (get (told past) n) ≡ true → is_some (at_number held n) ≡ true
told_held past held shown n there = some_of (at_number held n) (sym (ap is_some (told_of past held shown n)) ∙ there)

-- and a pack that is held is told
pub held_told : (past : Past) (held : List (ℕ × PackState)) → ((n : ℕ) → at_number held n ≡ state past n) → (n : ℕ) → is_some (at_number held n) ≡ true → is_some (get (told past) n) ≡ true
held_told past held shown n there = ap is_some (told_of past held shown n) ∙ some_map (at_number held n) there

-- what is held before the first call
pub held_image : (start : List (ℕ × Remains)) (done : List Call) (held : List (ℕ × PackState)) → done ≡ []
    → ((n : ℕ) → at_number held n ≡ option_map begun (at_number start n)) → ((n : ℕ) → last_number < n → at_number start n ≡ None) → IsHeld start done held
unfolding state_from
held_image start done held no_call is numbers = rw no_call (record {
  shown = is;
  numbers = λ n above. is n ∙ ap (option_map begun) (numbers n above);
})
