-- What a contract sees of the numbers.
use Rattle.std.specs.Prelude.{◌≡◌, ℕ, ◌+◌, ◌<◌, ◌≤◌, Bool, true, false, not, ◌&&◌, ◌||◌, Option, Some, None, Result, Ok, Err}
use Rattle.std.specs.Coded.{Coded, code_by, coded_ℕ, coded×, coded_bool}
use base.Stored.{coded_unit}
use Rattle.std.specs.Ordering.{nat_cmp}
use Rattle.std.specs.FinMap.{FinMap, code, contains_key, get, insert, remove}
use Rattle.blobref.specs.declared.memory.NoMemory.{NoMemory}
use Rattle.claim_model.specs.Facts.{passes}
use Rattle.histories.specs.IndexCalls.{IsLeast, NonePasses}

-- numbers that were inserted
abbrev pub InsertedNumbers : Type 0
InsertedNumbers = FinMap nat_cmp (Unit {0})

-- numbers that were taken and aren't inserted, each with whether it is in hand: if it isn't, it was given back
abbrev pub TakenNumbers : Type 0
TakenNumbers = FinMap nat_cmp Bool

-- which numbers were inserted, how many these are, and the numbers that were taken
pub record Working : Type 0 where
  pub numbers : InsertedNumbers
  pub count : ℕ
  pub taken : TakenNumbers

abbrev pub working_code : Coded Working
working_code =
    code_by ((InsertedNumbers × TakenNumbers) × ℕ)
    (coded× (coded× (code coded_ℕ coded_unit) (code coded_ℕ coded_bool)) coded_ℕ)
    (λ w. ((w.numbers, w.taken), w.count))
    (λ p. record { numbers = p.0.0; count = p.1; taken = p.0.1 }) (λ w i. w)

abbrev pub is_held : TakenNumbers → ℕ → Bool
is_held taken n = passes (λ (held : Bool). held) (get taken n)

-- the number was taken and given back
abbrev pub is_back : TakenNumbers → ℕ → Bool
is_back taken n = passes not (get taken n)

-- the number was inserted
abbrev pub has_inserted : Working → ℕ → Bool
has_inserted w n = contains_key w.numbers n

-- the number is in hand
abbrev pub has_in_hand : Working → ℕ → Bool
has_in_hand w n = is_held w.taken n

-- the number is neither inserted nor in hand
abbrev pub is_waiting : Working → ℕ → Bool
is_waiting w n = not (has_inserted w n) && not (has_in_hand w n)

-- the number was taken in hand
abbrev pub with_taken : Working → ℕ → Working
with_taken w n = record { numbers = w.numbers; count = w.count; taken = insert w.taken n true }

-- the number was inserted, and is no longer taken
abbrev pub with_noted : Working → ℕ → Working
with_noted w n = record { numbers = insert w.numbers n tt; count = w.count + 1; taken = remove w.taken n }

-- the least number below a bound that passes; None if none does
abbrev pub FindsBelow : ℕ → (ℕ → Bool) → Option ℕ → Type 0
FindsBelow below test None = NonePasses below test
FindsBelow below test (Some n) = IsLeast below test n

-- the least number that passes; None if none does
abbrev pub FindsLeast : (ℕ → Bool) → Option ℕ → Type 0
FindsLeast test None = (n : ℕ) → test n ≡ false
FindsLeast test (Some n) = (test n ≡ true) × ((m : ℕ) → m < n → test m ≡ false)

-- Each number from `from` to below `next` passes, and `next` doesn't if it is below the bound.
pub record Reaches (from below : ℕ) (test : ℕ → Bool) (next : ℕ) : Type 0 where
  pub on : from ≤ next
  pub passed : (n : ℕ) → from ≤ n → n < next → test n ≡ true
  pub stopped : next < below → test next ≡ false

-- what a take does, by its result
abbrev pub Takes : Working → Working → ℕ → Result (Option ℕ) NoMemory → Type 0
Takes old new below (Ok None) = NonePasses below (is_waiting old) × (new ≡ old)
Takes old new below (Ok (Some n)) = IsLeast below (is_waiting old) n × (new ≡ with_taken old n)
Takes old new below (Err f) = new ≡ old

-- What holds for all numbers. Each below the front was inserted, or is taken. Those that are taken are below the front,
-- and aren't inserted.
pub record IsFront (numbers : InsertedNumbers) (taken : TakenNumbers) (front : ℕ) : Type 0 where
  pub low : (n : ℕ) → n < front → (contains_key numbers n || contains_key taken n) ≡ true
  pub below : (n : ℕ) → contains_key taken n ≡ true → n < front
  pub apart : (n : ℕ) → contains_key taken n ≡ true → contains_key numbers n ≡ false
