-- A seat of an index to which no more is shown than the Inserts of its history.
use Rattle.std.proofs.Common.{◌≡◌, refl, ap, sym, ◌∙◌, arith, ◌⊎◌, inl, inr, ⊎_elim, ℕ, ◌≤◌, List, [], ◌∷◌, ◌++◌, Bool, true, false, not, ◌&&◌, ◌||◌, eqb, ltb, nat_eq}
use Rattle.std.proofs.lemmas.List.{append-nil}
use Rattle.std.proofs.lemmas.Bool.{and_parts, and_from, eqb-true, eq-eqb, ltb-true, lt-ltb}
use Rattle.claim_verify.specs.Verifier.{Accepts}
use Rattle.histories.specs.declared.stamped.Stamped.{Stamped}
use Rattle.histories.specs.declared.events.IndexEvent.{IndexEvent}
use Rattle.histories.specs.declared.events.IndexEvent.TheVariants.{Take, Insert, Return}
use Rattle.histories.specs.History.{events, rises, is_legal_after}
use Rattle.histories.specs.declared.events.Insertion.{Insertion}
use Rattle.histories.specs.Indexes.{insertion_of, inserts, is_inserted, may_join_index, is_legal_index}
use Rattle.home_places.specs.Seats.{IndexSight, IsIndexSight, as_history}

-- such a seat
abbrev pub shown_alone : List (Stamped IndexEvent) → List ℕ → Accepts → IndexSight
shown_alone h turns accepts = record { history = h; turns = turns; shown = inserts h; accepts = accepts }

either : (a b : Bool) → (a || b) ≡ true → (a ≡ true) ⊎ (b ≡ true)
either true b e = inl refl
either false b e = inr e

or_left : (a b : Bool) → a ≡ true → (a || b) ≡ true
or_left true b e = refl
or_left false b e = absurd cc

or_right : (a b : Bool) → b ≡ true → (a || b) ≡ true
or_right true b e = refl
or_right false b e = e

-- ---- the turns rise

-- a turn may follow another one
abbrev follows : ℕ → ℕ → Bool
follows lo t = (eqb t 0 && eqb lo 0) || ltb lo t

follows_least : (lo t : ℕ) → follows lo t ≡ true → lo ≤ t
follows_least lo t e = ⊎_elim (λ zeros. let p = and_parts (eqb t 0) (eqb lo 0) zeros in let low = eqb-true lo 0 p.1 in omega (arith, low))
    (λ less. let l = ltb-true lo t less in omega (arith, l)) (either (eqb t 0 && eqb lo 0) (ltb lo t) e)

follows_lower : (lo m t : ℕ) → lo ≤ m → follows m t ≡ true → follows lo t ≡ true
follows_lower lo m t le e = ⊎_elim
    (λ zeros. let p = and_parts (eqb t 0) (eqb m 0) zeros in let zero_m = eqb-true m 0 p.1 in
    or_left (eqb t 0 && eqb lo 0) (ltb lo t) (and_from (eqb t 0) (eqb lo 0) p.0 (eq-eqb lo 0 (omega (arith, zero_m, le)))))
    (λ less. let l = ltb-true m t less in or_right (eqb t 0 && eqb lo 0) (ltb lo t) (lt-ltb lo t (omega (arith, l, le))))
    (either (eqb t 0 && eqb m 0) (ltb m t) e)

rises_lower : (lo m : ℕ) (h : List (Stamped IndexEvent)) → lo ≤ m → rises m h ≡ true → rises lo h ≡ true
rises_lower lo m [] le r = refl
rises_lower lo m (s ∷ ss) le r = let p = and_parts (follows m s.turn) (rises s.turn ss) r in
    and_from (follows lo s.turn) (rises s.turn ss) (follows_lower lo m s.turn le p.0) p.1

rises_step : (lo t : ℕ) (e : IndexEvent) (g : List Insertion) → follows lo t ≡ true → rises t (as_history g) ≡ true → rises lo (as_history (insertion_of t e ++ g)) ≡ true
rises_step lo t (Take n) g f r = rises_lower lo t (as_history g) (follows_least lo t f) r
rises_step lo t (Insert n r fact) g f rest = and_from (follows lo t) (rises t (as_history g)) f rest
rises_step lo t (Return n) g f r = rises_lower lo t (as_history g) (follows_least lo t f) r

inserts_rise : (lo : ℕ) (h : List (Stamped IndexEvent)) → rises lo h ≡ true → rises lo (as_history (inserts h)) ≡ true
inserts_rise lo [] r = refl
inserts_rise lo (s ∷ ss) r = let p = and_parts (follows lo s.turn) (rises s.turn ss) r in
    rises_step lo s.turn s.entry (inserts ss) p.0 (inserts_rise s.turn ss p.1)

-- ---- they are legal

or_assoc : (a b c : Bool) → (a || (b || c)) ≡ ((a || b) || c)
or_assoc true b c = refl
or_assoc false b c = refl

inserted_last : (n : ℕ) (xs : List IndexEvent) (e : IndexEvent) → is_inserted n (xs ++ e ∷ []) ≡ (is_inserted n xs || is_inserted n (e ∷ []))
inserted_last n [] e = refl
inserted_last n (Take m ∷ xs) e = inserted_last n xs e
inserted_last n (Insert m r fact ∷ xs) e = ap (λ b. nat_eq m n || b) (inserted_last n xs e) ∙ or_assoc (nat_eq m n) (is_inserted n xs) (is_inserted n (e ∷ []))
inserted_last n (Return m ∷ xs) e = inserted_last n xs e

or_false : (b : Bool) → (b || false) ≡ b
or_false true = refl
or_false false = refl

-- the Inserts of two lists of entries are of the same numbers
abbrev Same : List IndexEvent → List IndexEvent → Type 0
Same xs ys = (n : ℕ) → is_inserted n xs ≡ is_inserted n ys

legal_step : (before others : List IndexEvent) (t : ℕ) (e : IndexEvent) (g : List Insertion) → Same others before
    → may_join_index before e ≡ true → ((xs : List IndexEvent) → Same xs (before ++ e ∷ []) → is_legal_after may_join_index xs (events (as_history g)) ≡ true)
    → is_legal_after may_join_index others (events (as_history (insertion_of t e ++ g))) ≡ true
legal_step before others t (Take m) g same may rest = rest others (λ n. same n ∙ sym (inserted_last n before (Take m) ∙ or_false (is_inserted n before)))
legal_step before others t (Insert m r fact) g same may rest =
    and_from (not (is_inserted m others)) (is_legal_after may_join_index (others ++ Insert m r fact ∷ []) (events (as_history g))) (ap not (same m) ∙ may)
    (rest (others ++ Insert m r fact ∷ []) (λ n. inserted_last n others (Insert m r fact) ∙ (ap (λ b. b || is_inserted n (Insert m r fact ∷ [])) (same n) ∙ sym (inserted_last n before (Insert m r fact)))))
legal_step before others t (Return m) g same may rest = rest others (λ n. same n ∙ sym (inserted_last n before (Return m) ∙ or_false (is_inserted n before)))

legal_inserts : (before others : List IndexEvent) (h : List (Stamped IndexEvent)) → Same others before → is_legal_after may_join_index before (events h) ≡ true
    → is_legal_after may_join_index others (events (as_history (inserts h))) ≡ true
legal_inserts before others [] same ok = refl
legal_inserts before others (s ∷ ss) same ok = let p = and_parts (may_join_index before s.entry) (is_legal_after may_join_index (before ++ s.entry ∷ []) (events ss)) ok in
    legal_step before others s.turn s.entry (inserts ss) same p.0 (λ xs now. legal_inserts (before ++ s.entry ∷ []) xs ss now p.1)

-- a legal history whose turns rise is all that the seat needs
pub IsIndexSight-shown_alone : (h : List (Stamped IndexEvent)) (turns : List ℕ) (accepts : Accepts) → is_legal_index h ≡ true → rises 0 h ≡ true
    → IsIndexSight (shown_alone h turns accepts)
IsIndexSight-shown_alone h turns accepts legal rising = record {
  legal = legal;
  rising = rising;
  shown = ([], append-nil (inserts h));
  shown_legal = legal_inserts [] [] h (λ n. refl) legal;
  shown_rising = inserts_rise 0 h rising;
}
