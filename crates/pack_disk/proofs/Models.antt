-- The images of a disk in memory are those of the disk model.
use Rattle.std.proofs.Common.{◌≡◌, ◌⊎◌, ◌↔◌, inl, inr, ℕ, List, [], ◌∷◌, ◌++◌, length, Bool, true, false, cond, ◌||◌, ◌==◌, Option, None, Some, refl, sym, ◌∙◌, ap, subst, arith, append_assoc, length-append}
use Rattle.std.specs.List.{list_any}
use Rattle.std.specs.Option.{option_map}
use Rattle.std.proofs.lemmas.List.{append-nil}
use Rattle.pack_disk.specs.declared.history.Call.{Call}
use Rattle.pack_disk.specs.declared.history.Call.TheVariants.{Make, Append, Sync}
use Rattle.pack_disk.specs.PackState.{PackState, begun, fresh, grown, durable, settled, IsPackImage}
use Rattle.pack_disk.specs.declared.remains.Remains.{Remains}
use Rattle.pack_disk.specs.Past.{Past, State, state_after, state_from, first_state, state}
use Rattle.pack_disk.specs.Told.{IsPackTold, is_told}
use Rattle.pack_disk.specs.Model.{settles, Unsettled, added, Stay, MeetsModel}
use Rattle.pack_disk.proofs.Steps.{not_some, some_same, same_true}

state_from-append : (front rest : List Call) (s : State) → state_from s (front ++ rest) ≡ state_from (state_from s front) rest
unfolding state_from
state_from-append [] rest s = refl
state_from-append (c ∷ front) rest s = state_from-append front rest (state_after c s)

neither : (a b : Bool) → (a || b) ≡ false → (a ≡ false) × (b ≡ false)
neither true b is = absurd (cc is)
neither false b is = (refl, is)

-- a pack to which bytes were added since it had its last length
abbrev with_tail : PackState → List ℕ → PackState
with_tail p tail = record { now = p.now ++ tail; synced = p.synced; named = p.named; longest = length (p.now ++ tail) }

as_is : (p : PackState) → p.longest ≡ length p.now → Some p ≡ Some (with_tail p [])
as_is p long = ap (λ (e : List ℕ × ℕ). Some (record { now = e.0; synced = p.synced; named = p.named; longest = e.1 })) (pair p.now (p.now ++ []) p.longest (sym (append-nil p.now)) long)
  where
    pair : (x y : List ℕ) (n : ℕ) → x ≡ y → n ≡ length x → ◌≡◌ {A = List ℕ × ℕ} (x, n) (y, length y)
    pair x y n e f = ap (λ m. (x, m)) f ∙ ap (λ (z : List ℕ). (z, length z)) e

longer : (p : PackState) (bytes : List ℕ) → p.longest ≡ length p.now → (grown bytes p).longest ≡ length (p.now ++ bytes)
longer p bytes long = omega (arith, long, length-append p.now bytes)

run_some : (calls : List Call) (s : State) (n : ℕ) (p : PackState) → s n ≡ Some p → p.longest ≡ length p.now → Unsettled n calls
    → state_from s calls n ≡ Some (with_tail p (added n calls))
unfolding state_from
run_some [] s n p is long quiet = is ∙ as_is p long
run_some (Make m ∷ calls) s n p is long quiet =
    let parts = neither (n == m) (list_any (settles n) calls) quiet in
    run_some calls (state_after (Make m) s) n p (ap (λ b. cond b (Some fresh) (s n)) parts.0 ∙ is) long parts.1
run_some (Sync m ∷ calls) s n p is long quiet =
    let parts = neither (n == m) (list_any (settles n) calls) quiet in
    run_some calls (state_after (Sync m) s) n p (ap (λ b. cond b (option_map settled (s n)) (s n)) parts.0 ∙ is) long parts.1
run_some (Append m bytes ∷ calls) s n p is long quiet =
    elim (n == m) as (λ b. (n == m) ≡ b → state_from (state_after (Append m bytes) s) calls n ≡ Some (with_tail p (cond b bytes [] ++ added n calls))) [
      | true ↦ λ same.
          run_some calls (state_after (Append m bytes) s) n (grown bytes p) (ap (λ b. cond b (option_map (grown bytes) (s n)) (s n)) same ∙ ap (option_map (grown bytes)) is) (longer p bytes long) quiet
          ∙ ap (λ l. Some (record { now = l; synced = p.synced; named = p.named; longest = length l })) (append_assoc p.now bytes (added n calls))
      | false ↦ λ other.
          run_some calls (state_after (Append m bytes) s) n p (ap (λ b. cond b (option_map (grown bytes) (s n)) (s n)) other ∙ is) long quiet
    ] refl

run_none : (calls : List Call) (s : State) (n : ℕ) → s n ≡ None → Unsettled n calls → state_from s calls n ≡ None
unfolding state_from
run_none [] s n is quiet = is
run_none (Make m ∷ calls) s n is quiet =
    let parts = neither (n == m) (list_any (settles n) calls) quiet in
    run_none calls (state_after (Make m) s) n (ap (λ b. cond b (Some fresh) (s n)) parts.0 ∙ is) parts.1
run_none (Sync m ∷ calls) s n is quiet =
    let parts = neither (n == m) (list_any (settles n) calls) quiet in
    run_none calls (state_after (Sync m) s) n (ap (λ b. cond b (option_map settled (s n)) (s n)) parts.0 ∙ is) parts.1
run_none (Append m bytes ∷ calls) s n is quiet =
    run_none calls (state_after (Append m bytes) s) n
    (elim (n == m) as (λ b. cond b (option_map (grown bytes) (s n)) (s n) ≡ None) [ true ↦ ap (option_map (grown bytes)) is | false ↦ is ]) quiet

-- the images of a pack of which some bytes are durable
images_named : (had tail : List ℕ) (o : Option (List ℕ)) → IsPackImage (Some (with_tail (durable had) tail)) o ↔ Stay had tail o
images_named had tail o = (there o, back o)
  where
    there : (o : Option (List ℕ)) → IsPackImage (Some (with_tail (durable had) tail)) o → Stay had tail o
    there None i = absurd (cc i)
    there (Some bytes) i = (i.0, ap Some i.1, omega (arith, i.2, ap length i.1, length-append had i.0, length-append had tail))

    back : (o : Option (List ℕ)) → Stay had tail o → IsPackImage (Some (with_tail (durable had) tail)) o
    back None s = absurd (not_some _ s.1)
    back (Some bytes) s = (s.0, some_same _ _ s.1, omega (arith, s.2, ap length (some_same _ _ s.1), length-append had s.0, length-append had tail))

-- and of a pack of which none are
images_unnamed : (tail : List ℕ) (o : Option (List ℕ)) → IsPackImage (Some (with_tail fresh tail)) o ↔ (o ≡ None ⊎ Stay [] tail o)
images_unnamed tail o = (there o, back o)
  where
    there : (o : Option (List ℕ)) → IsPackImage (Some (with_tail fresh tail)) o → o ≡ None ⊎ Stay [] tail o
    there None i = inl refl
    there (Some bytes) i = inr (i.0, ap Some i.1, omega (arith, i.2, ap length i.1))

    back : (o : Option (List ℕ)) → o ≡ None ⊎ Stay [] tail o → IsPackImage (Some (with_tail fresh tail)) o
    back None s = refl
    back (Some bytes) (inl none) = absurd (not_some bytes (sym none))
    back (Some bytes) (inr s) = (s.0, some_same _ _ s.1, omega (arith, s.2, ap length (some_same _ _ s.1)))

-- and of a pack as a crash left it
images_begun : (had : Remains) (tail : List ℕ) (o : Option (List ℕ))
    → IsPackImage (Some (with_tail (begun had) tail)) o ↔ (((had.named ≡ false) × (o ≡ None)) ⊎ Stay had.synced (had.tail ++ tail) o)
images_begun had tail o = (there o, back o)
  where
    there : (o : Option (List ℕ)) → IsPackImage (Some (with_tail (begun had) tail)) o → ((had.named ≡ false) × (o ≡ None)) ⊎ Stay had.synced (had.tail ++ tail) o
    there None i = inl (i, refl)
    there (Some bytes) i = inr (
      i.0,
      ap Some i.1,
      omega (arith, i.2, ap length i.1, length-append had.synced i.0, length-append (had.synced ++ had.tail) tail, length-append had.synced had.tail, length-append had.tail tail),
    )

    back : (o : Option (List ℕ)) → ((had.named ≡ false) × (o ≡ None)) ⊎ Stay had.synced (had.tail ++ tail) o → IsPackImage (Some (with_tail (begun had) tail)) o
    back None (inl gone) = gone.0
    back None (inr s) = absurd (not_some _ s.1)
    back (Some bytes) (inl gone) = absurd (not_some bytes (sym gone.1))
    back (Some bytes) (inr s) = (
      s.0,
      some_same _ _ s.1,
      omega (arith, s.2, ap length (some_same _ _ s.1), length-append had.synced s.0, length-append (had.synced ++ had.tail) tail, length-append had.synced had.tail, length-append had.tail tail),
    )

images_none : (o : Option (List ℕ)) → IsPackImage None o ↔ (o ≡ None)
images_none o = (there o, back o)
  where
    there : (o : Option (List ℕ)) → IsPackImage None o → o ≡ None
    there None i = refl
    there (Some bytes) i = absurd i

    back : (o : Option (List ℕ)) → o ≡ None → IsPackImage None o
    back None e = tt
    back (Some bytes) e = absurd (not_some bytes (sym e))

by_state : (q r : Option PackState) (o : Option (List ℕ)) (P : Type 0) → q ≡ r → IsPackImage r o ↔ P → IsPackImage q o ↔ P
by_state q r o P e iff = subst (λ s. IsPackImage s o ↔ P) (sym e) iff

split_state : (past : Past) (n : ℕ) (front rest : List Call) (call : Call) → past.done ≡ front ++ call ∷ rest
    → state past n ≡ state_from (state_after call (state_from (first_state past) front)) rest n
unfolding state_from
split_state past n front rest call is = ap (λ calls. state_from (first_state past) calls n) is ∙ ap (λ s. s n) (state_from-append front (call ∷ rest) (first_state past))

-- a pack that is told is there
there_as : (o : Option PackState) (had : List ℕ) → IsPackTold o (Some had) → option_map settled o ≡ Some (durable had)
there_as None had t = absurd (not_some had (sym t))
there_as (Some p) had t = ap (λ l. Some (durable l)) (some_same _ _ (sym t.0))

pub meets_model : MeetsModel
meets_model = record {
  synced = λ past n front rest had o is quiet told_is.
      let s = state_from (first_state past) front in
      let before : IsPackTold (s n) (Some had) = subst (IsPackTold (s n)) told_is (is_told (record { start = past.start; done = front }) n) in
      let now = ap (λ b. cond b (option_map settled (s n)) (s n)) (same_true n) ∙ there_as (s n) had before in
      by_state _ _ o _ (split_state past n front rest (Sync n) is ∙ run_some rest (state_after (Sync n) s) n (durable had) now refl quiet) (images_named had (added n rest) o);
  unsynced = λ past n front rest o is quiet.
      let s = state_from (first_state past) front in
      let now = ap (λ b. cond b (Some fresh) (s n)) (same_true n) in
      by_state _ _ o _ (split_state past n front rest (Make n) is ∙ run_some rest (state_after (Make n) s) n fresh now refl quiet) (images_unnamed (added n rest) o);
  began = λ past n had o quiet is.
      by_state _ _ o _ (run_some past.done (first_state past) n (begun had) (ap (option_map begun) is) refl quiet) (images_begun had (added n past.done) o);
  absent = λ past n o quiet is.
      by_state _ _ o _ (run_none past.done (first_state past) n (ap (option_map begun) is) quiet) (images_none o);
}
