-- What each change leaves of the front, and what is found from it.
use Rattle.std.proofs.Common.{◌≡◌, ℕ, ◌+◌, ◌<◌, ◌≤◌, Bool, true, false, not, ◌&&◌, ◌||◌, nat_eq, nat_lt, Option, Some, None, is_some, refl, sym, ap, subst, ◌∙◌, ◌⊎◌, inl, inr, arith}
use Rattle.std.proofs.lemmas.Bool.{cases_Bool, false≢true}
use Rattle.std.proofs.lemmas.Bool.Decides.{nat_tests}
use Rattle.std.specs.Bool.{then_some}
use Rattle.std.specs.FinMap.{contains_key, empty, get, insert, remove}
use Rattle.claim_model.specs.Facts.{passes}
use Rattle.histories.specs.IndexCalls.{IsLeast, NonePasses}
use Rattle.work_numbers.specs.Working.{InsertedNumbers, TakenNumbers, is_held, is_back, IsFront, Reaches, FindsLeast, FindsBelow}
use Rattle.work_numbers.proofs.Numbers.{has_given, has_taken, has_none}

pub front_fresh : (numbers : InsertedNumbers) (taken : TakenNumbers) → taken ≡ empty → IsFront numbers taken 0
front_fresh numbers taken e = record {
  low = λ n lt. absurd (omega (arith, lt));
  below = λ n h. absurd (false≢true (sym (none n) ∙ h));
  apart = λ n h. absurd (false≢true (sym (none n) ∙ h));
}
  where
    none : (n : ℕ) → contains_key taken n ≡ false
    none n = ap (λ (t : TakenNumbers). contains_key t n) e ∙ has_none Bool n

-- one of two numbers
lower : (m n : ℕ) → (m < n) ⊎ (n ≤ m)
lower m n = grind arith

module _ (numbers : InsertedNumbers) (taken : TakenNumbers) (front : ℕ) (f : IsFront numbers taken front) where
  -- it moves over inserted numbers
  pub front_moved : (below next : ℕ) → Reaches front below (contains_key numbers) next → IsFront numbers taken next
  front_moved below next r = record {
    low = λ n lt. at n lt (lower n front);
    below = λ n h. let on : front ≤ next = r.on in let lt : n < front = f.below n h in omega (arith, on, lt);
    apart = f.apart;
  }
    where
      at : (n : ℕ) → n < next → (n < front) ⊎ (front ≤ n) → (contains_key numbers n || contains_key taken n) ≡ true
      at n lt (inl low) = f.low n low
      at n lt (inr high) = ap (λ (b : Bool). b || contains_key taken n) (r.passed n high lt)

  or_given : (a b c : Bool) → (a || c) ≡ true → (a || (b || c)) ≡ true
  or_given true b c e = refl
  or_given false true c e = refl
  or_given false false c e = e

  -- a row is put in place of another
  pub front_held : (n : ℕ) (held : Bool) → contains_key taken n ≡ true → IsFront numbers (insert taken n held) front
  front_held n held had = record {
    low = λ m lt. ap (λ (b : Bool). contains_key numbers m || b) (has_given taken n held m) ∙ or_given (contains_key numbers m) (nat_eq n m) (contains_key taken m) (f.low m lt);
    below = λ m h. f.below m (there m h);
    apart = λ m h. f.apart m (there m h);
  }
    where
      by : (m : ℕ) (b : Bool) → nat_eq n m ≡ b → (b || contains_key taken m) ≡ true → contains_key taken m ≡ true
      by m true e h = let is : n ≡ m = grind (arith, nat_tests, e) in subst (λ (k : ℕ). contains_key taken k ≡ true) is had
      by m false e h = h

      there : (m : ℕ) → contains_key (insert taken n held) m ≡ true → contains_key taken m ≡ true
      there m h = by m (nat_eq n m) refl (sym (has_given taken n held m) ∙ h)

  -- the number at the front is taken
  pub front_taken : (held : Bool) → contains_key numbers front ≡ false → IsFront numbers (insert taken front held) (front + 1)
  front_taken held fresh = record {
    low = λ m lt. ap (λ (b : Bool). contains_key numbers m || b) (has_given taken front held m) ∙ low m lt (nat_eq front m) refl;
    below = λ m h. below m (nat_eq front m) refl (sym (has_given taken front held m) ∙ h);
    apart = λ m h. apart m (nat_eq front m) refl (sym (has_given taken front held m) ∙ h);
  }
    where
      or_true : (a b : Bool) → (a || (true || b)) ≡ true
      or_true true b = refl
      or_true false b = refl

      low : (m : ℕ) → m < front + 1 → (b : Bool) → nat_eq front m ≡ b → (contains_key numbers m || (b || contains_key taken m)) ≡ true
      low m lt true e = or_true (contains_key numbers m) (contains_key taken m)
      low m lt false e = let less : m < front = grind (arith, nat_tests, e, lt) in f.low m less

      below : (m : ℕ) (b : Bool) → nat_eq front m ≡ b → (b || contains_key taken m) ≡ true → m < front + 1
      below m true e h = let is : front ≡ m = grind (arith, nat_tests, e) in omega (arith, is)
      below m false e h = let lt : m < front = f.below m h in omega (arith, lt)

      apart : (m : ℕ) (b : Bool) → nat_eq front m ≡ b → (b || contains_key taken m) ≡ true → contains_key numbers m ≡ false
      apart m true e h = let is : front ≡ m = grind (arith, nat_tests, e) in subst (λ (k : ℕ). contains_key numbers k ≡ false) is fresh
      apart m false e h = f.apart m h

  -- a number is inserted, and taken no more
  pub front_inserted : (numbers' : InsertedNumbers) (n : ℕ) → ((m : ℕ) → contains_key numbers' m ≡ (nat_eq n m || contains_key numbers m))
      → IsFront numbers' (remove taken n) front
  front_inserted numbers' n more = record {
    low = λ m lt. (λ i. more m i || has_taken taken n m i) ∙ low (nat_eq n m) (contains_key numbers m) (contains_key taken m) (f.low m lt);
    below = λ m h. f.below m (there (nat_eq n m) (contains_key taken m) (sym (has_taken taken n m) ∙ h));
    apart = λ m h. more m ∙ apart (nat_eq n m) (contains_key taken m) (contains_key numbers m) (sym (has_taken taken n m) ∙ h) (f.apart m);
  }
    where
      low : (b c d : Bool) → (c || d) ≡ true → ((b || c) || (not b && d)) ≡ true
      low true c d e = refl
      low false c d e = e

      there : (b d : Bool) → (not b && d) ≡ true → d ≡ true
      there true d e = absurd (false≢true e)
      there false d e = e

      apart : (b d c : Bool) → (not b && d) ≡ true → (d ≡ true → c ≡ false) → (b || c) ≡ false
      apart true d c e g = absurd (false≢true e)
      apart false d c e g = g e

  -- ---- what is found

  abbrev waits : ℕ → Bool
  waits n = not (contains_key numbers n) && not (is_held taken n)

  -- what was taken and wasn't given back is in hand
  in_hand_else : (o : Option Bool) → is_some o ≡ true → passes not o ≡ false → passes (λ (b : Bool). b) o ≡ true
  in_hand_else None h e = absurd (false≢true h)
  in_hand_else (Some true) h e = refl
  in_hand_else (Some false) h e = absurd (false≢true (sym e))

  none_waits : (n : ℕ) → n < front → is_back taken n ≡ false → waits n ≡ false
  none_waits n lt back = by (contains_key numbers n) (get taken n) (f.low n lt) back
    where
      by : (a : Bool) (o : Option Bool) → (a || is_some o) ≡ true → passes not o ≡ false → (not a && not (passes (λ (b : Bool). b) o)) ≡ false
      by true o e back = refl
      by false o e back = ap not (in_hand_else o e back)

  is_there : (o : Option Bool) → passes not o ≡ true → (is_some o ≡ true) × (passes (λ (b : Bool). b) o ≡ false)
  is_there None e = absurd (false≢true e)
  is_there (Some true) e = absurd (false≢true e)
  is_there (Some false) e = (refl, refl)

  pub back_front : (n : ℕ) → is_back taken n ≡ true → contains_key taken n ≡ true
  back_front n back = (is_there (get taken n) back).0

  -- the least that was given back is the least that waits
  pub back_waits : (n : ℕ) → FindsLeast (is_back taken) (Some n) → (waits n ≡ true) × ((m : ℕ) → m < n → waits m ≡ false)
  back_waits n least =
      let there = is_there (get taken n) least.0 in
      let low : n < front = f.below n there.0 in
      ((λ i. not (f.apart n there.0 i) && not (there.1 i)), λ m lt. none_waits m (omega (arith, lt, low)) (least.1 m lt))

  -- where none was given back, that is the first that isn't inserted from the front on
  pub new_waits : FindsLeast (is_back taken) None → (below next : ℕ) → Reaches front below (contains_key numbers) next
      → ((m : ℕ) → m < next → waits m ≡ false) × (next < below → waits next ≡ true)
  new_waits none below next r = (λ m lt. early m lt (lower m front), λ lt. λ i. not (r.stopped lt i) && not (free i))
    where
      early : (m : ℕ) → m < next → (m < front) ⊎ (front ≤ m) → waits m ≡ false
      early m lt (inl low) = none_waits m low (none m)
      early m lt (inr high) = ap (λ (b : Bool). not b && not (is_held taken m)) (r.passed m high lt)

      held_there : (o : Option Bool) → passes (λ (b : Bool). b) o ≡ true → is_some o ≡ true
      held_there None e = e
      held_there (Some b) e = refl

      free : is_held taken next ≡ false
      free = at (cases_Bool (is_held taken next))
        where
          at : (is_held taken next ≡ true) ⊎ (is_held taken next ≡ false) → is_held taken next ≡ false
          at (inl held) = let lt : next < front = f.below next (held_there (get taken next) held) in let on : front ≤ next = r.on in absurd (omega (arith, lt, on))
          at (inr e) = e

  or_left : (a b : Bool) → (a || b) ≡ true → b ≡ false → a ≡ true
  or_left true b e h = refl
  or_left false b e h = absurd (false≢true (sym h ∙ e))

  -- the least that is taken is the least that isn't inserted
  pub taken_lacks : (n : ℕ) → FindsLeast (contains_key taken) (Some n)
      → (not (contains_key numbers n) ≡ true) × ((m : ℕ) → m < n → not (contains_key numbers m) ≡ false)
  taken_lacks n least =
      let low : n < front = f.below n least.0 in
      (ap not (f.apart n least.0), λ m lt. ap not (or_left (contains_key numbers m) (contains_key taken m) (f.low m (omega (arith, lt, low))) (least.1 m lt)))

  -- where none is taken, that is the first from the front on
  pub front_lacks : FindsLeast (contains_key taken) None → (below next : ℕ) → Reaches front below (contains_key numbers) next
      → ((m : ℕ) → m < next → not (contains_key numbers m) ≡ false) × (next < below → not (contains_key numbers next) ≡ true)
  front_lacks none below next r = (λ m lt. early m lt (lower m front), λ lt. ap not (r.stopped lt))
    where
      early : (m : ℕ) → m < next → (m < front) ⊎ (front ≤ m) → not (contains_key numbers m) ≡ false
      early m lt (inl low) = ap not (or_left (contains_key numbers m) (contains_key taken m) (f.low m low) (none m))
      early m lt (inr high) = ap not (r.passed m high lt)

-- the least of all that pass, and a bound
pub least_below : (below : ℕ) (test : ℕ → Bool) (n : ℕ) → n < below → test n ≡ true → ((m : ℕ) → m < n → test m ≡ false) → IsLeast below test n
least_below below test n lt passing least = record { low = lt; passing = passing; least = least }

pub none_below : (below : ℕ) (test : ℕ → Bool) (n : ℕ) → below ≤ n → ((m : ℕ) → m < n → test m ≡ false) → NonePasses below test
none_below below test n le least = λ m lt. least m (omega (arith, le, lt))

pub least_or_none : (below : ℕ) (test : ℕ → Bool) (n : ℕ) → ((m : ℕ) → m < n → test m ≡ false) → (n < below → test n ≡ true)
    → FindsBelow below test (then_some (nat_lt n below) n)
least_or_none below test n least passing = by (lower n below)
  where
    by : (n < below) ⊎ (below ≤ n) → FindsBelow below test (then_some (nat_lt n below) n)
    by (inl lt) =
        let yes : nat_lt n below ≡ true = grind (arith, nat_tests, lt) in
        subst (λ (b : Bool). FindsBelow below test (then_some b n)) (sym yes) (least_below below test n lt (passing lt) least)
    by (inr le) =
        let no : nat_lt n below ≡ false = grind (arith, nat_tests, le) in
        subst (λ (b : Bool). FindsBelow below test (then_some b n)) (sym no) (none_below below test n le least)
