-- Peers that have their turns one after the other.
use Rattle.std.proofs.Common.{◌≡◌, ℕ, ◌+◌, ◌-◌, ◌^◌, ◌<◌, min, suc, List, [], ◌∷◌, ◌++◌, length, take, drop, set, get_or, refl, sym, ap, ◌∙◌, arith, add-one, take-suc, drop-cons, length-take, subst}
use Rattle.std.proofs.lemmas.List.{take-append-drop, set_split, take_more_set}
use Rattle.ring_rounds.specs.Turns.{InTurn, CountsTurns, StopsInTurn}
use Rattle.ring_rounds.proofs.Places.{rest_more}

module _ {X : Type 0} where
  pub front_more : (xs : List X) (i : ℕ) (d : X) → i < length xs → take (i + 1) xs ≡ take i xs ++ get_or xs i d ∷ []
  front_more xs i d lt = ap (λ n. take n xs) (add-one i) ∙ take-suc xs i d lt

  pub parted : (xs : List X) (i : ℕ) (d : X) → i < length xs → xs ≡ take i xs ++ get_or xs i d ∷ drop (suc i) xs
  parted xs i d lt = sym (take-append-drop i xs) ∙ ap (λ l. take i xs ++ l) (drop-cons xs i d lt)

module _ {A P : Type 0} (R : A → A → P → P → ℕ → Type 0) where
  one_more : (hub mid now : A) (old new : List P) (p q : P) (total n : ℕ) → InTurn R hub mid old new total → R mid now p q n
      → InTurn R hub now (old ++ p ∷ []) (new ++ q ∷ []) (total + n)
  one_more hub mid now [] [] p q total n t r = (now, n, 0, subst (λ a. R a now p q n) t.0 r, (refl, refl), omega (arith, t.1))
  one_more hub mid now [] (y ∷ ys) p q total n t r = absurd t
  one_more hub mid now (x ∷ xs) [] p q total n t r = absurd t
  one_more hub mid now (x ∷ xs) (y ∷ ys) p q total n t r =
      (t.0, t.1, t.2 + n, t.3, one_more t.0 mid now xs ys p q t.2 n t.4 r, omega (arith, t.5))

  pub turns_none : (hub : A) → CountsTurns R hub hub [] [] 0
  turns_none hub = (0, (refl, refl), omega arith)

  -- one turn more
  pub turns_more : (hub mid now : A) (old new : List P) (p q : P) (n m k : ℕ) → CountsTurns R hub mid old new n → R mid now p q m → k ≡ min (n + m) (2 ^ 64 - 1)
      → CountsTurns R hub now (old ++ p ∷ []) (new ++ q ∷ []) k
  turns_more hub mid now old new p q n m k t r is =
      let before : n ≡ min t.0 (2 ^ 64 - 1) = t.2 in
      let all : k ≡ min (t.0 + m) (2 ^ 64 - 1) = omega (arith, is, before) in
      (t.0 + m, one_more hub mid now old new p q t.0 m t.1 r, all)

  -- the turn of the peer at a place
  pub turns_next : (hub mid now : A) (old peers : List P) (i : ℕ) (d x : P) (n m k : ℕ) → i < length old → i < length peers → CountsTurns R hub mid (take i old) (take i peers) n
      → R mid now (get_or old i d) x m → k ≡ min (n + m) (2 ^ 64 - 1) → CountsTurns R hub now (take (i + 1) old) (take (i + 1) (set peers i x)) k
  turns_next hub mid now old peers i d x n m k lt within t r is =
      subst (λ l. CountsTurns R hub now l (take (i + 1) (set peers i x)) k) (sym (front_more old i d lt))
      (subst (λ l. CountsTurns R hub now (take i old ++ get_or old i d ∷ []) l k) (sym (take_more_set peers i x within))
      (turns_more hub mid now (take i old) (take i peers) (get_or old i d) x n m k t r is))

  -- it stops at a turn
  pub turns_stop : (S : A → A → P → P → Type 0) (hub mid now : A) (old peers : List P) (k : ℕ) (d x : P) (n : ℕ) → k < length old → k < length peers
      → drop k peers ≡ drop k old → CountsTurns R hub mid (take k old) (take k peers) n → S mid now (get_or old k d) x → StopsInTurn R S hub now old (set peers k x) k
  turns_stop S hub mid now old peers k d x n lt within left before stops = record {
    front = take k old;
    front_now = take k peers;
    peer = get_or old k d;
    peer_now = x;
    rest = drop (suc k) old;
    old_is = parted old k d lt;
    now_is = set_split peers k x within ∙ ap (λ l. take k peers ++ x ∷ l) (rest_more peers old k left);
    place = omega (arith, lt, length-take k old);
    mid = mid;
    total = before.0;
    before = before.1;
    stops = stops;
  }
