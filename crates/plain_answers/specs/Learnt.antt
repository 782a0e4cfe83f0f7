-- What is said by a look that goes only so deep: what it says is so is so at any depth, and what it denies isn't so within that depth.
use Rattle.std.specs.Prelude.{◌≡◌, Bool, true, false, List}
use Rattle.std.specs.List.{list_all}

-- the answer to a question, by how it is answered within the depth, and to the end
abbrev pub Says : Bool → Bool → Bool → Type 0
Says within whole true = whole ≡ true
Says within whole false = within ≡ false

-- the answer to whether all of these pass, by the test within the depth, and the one to the end
abbrev pub Finds : {A : Type 0} → (A → Bool) → (A → Bool) → List A → Bool → Type 0
Finds within whole asked answer = Says (list_all within asked) (list_all whole asked) answer
