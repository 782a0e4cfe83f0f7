-- For which permanodes the rows of holders have to be made again.
use Rattle.std.specs.Prelude.{◌≡◌, ℕ, ℤ, ◌&&◌, ◌||◌, true, false, List}
use Rattle.std.specs.List.{list_any}
use Rattle.std.specs.Str.{bytes_eq}
use Rattle.std.specs.FinMap.{get, contains_key, empty}
use Rattle.claim_model.specs.Facts.{Facts, passes}
use Rattle.claim_model.specs.Claims.{Moment}
use Rattle.index_rows.specs.Changes.{Changes}
use Rattle.index_rows.specs.Deletes.{Deletes}
use Rattle.index_rows.specs.States.{States, says_genuine}
use Rattle.index_rows.specs.Values.{IsListed}
use Rattle.index_rows.specs.Holders.{Holders, says_permanode, IsHeldBut}
use Rattle.index_meaning.specs.Meaning.{is_change_on}
use Rattle.index_meaning.specs.Progress.{Enters}
use Rattle.index_meaning.specs.Touching.{concerned_by}

-- each ref of the one list is in the other
abbrev pub AreAmong : List (List ℕ) → List (List ℕ) → Type 0
AreAmong rs more = (q : List ℕ) → list_any (bytes_eq q) rs ≡ true → list_any (bytes_eq q) more ≡ true

-- they may be made again for more permanodes, and it doesn't matter in which order
abbrev pub HeldButMore : Type 0
HeldButMore = (but more : List (List ℕ)) (facts : Facts) (state : States) (deletes : Deletes) (changes : Changes)
    (holders : Holders) → AreAmong but more → IsHeldBut but facts state deletes changes holders
    → IsHeldBut more facts state deletes changes holders

-- if there are none yet, they have to be made for all permanodes
abbrev pub NoneIsHeld : Type 0
NoneIsHeld = (but : List (List ℕ)) (facts : Facts) (state : States) (deletes : Deletes) (changes : Changes)
    → ((p : List ℕ) → says_permanode facts state p ≡ true → list_any (bytes_eq p) but ≡ true)
    → IsHeldBut but facts state deletes changes empty

-- x was judged: its row says what it is, and if it is a genuine claim its changes have rows
pub record WasJudged (facts : Facts) (before after : States) (changes listed : Changes) (x : List ℕ) : Type 0 where
  pub new : says_genuine before x ≡ false
  pub others : (y : List ℕ) → bytes_eq y x ≡ false → says_genuine after y ≡ says_genuine before y
  pub rows : (p : List ℕ) (k : Moment) → contains_key listed (p, k)
      ≡ (contains_key changes (p, k)
      || (bytes_eq k.1 x && (says_genuine after x && passes (λ fact. is_change_on p k fact.kind) (get facts x))))

-- then those that it touches are concerned, if it is genuine
abbrev pub JudgingConcerns : Type 0
JudgingConcerns = (but concerned : List (List ℕ)) (facts : Facts) (before after : States) (deletes : Deletes)
    (changes listed : Changes) (holders : Holders) (x : List ℕ)
    → WasJudged facts before after changes listed x → IsListed facts before changes
    → AreAmong but concerned → (says_genuine after x ≡ true → AreAmong (concerned_by facts after x) concerned)
    → IsHeldBut but facts before deletes changes holders → IsHeldBut concerned facts after deletes listed holders

-- and after delete claims were entered, those that are touched by the refs that are now deleted and weren't, or were
-- and aren't
abbrev pub EnteringConcerns : Type 0
EnteringConcerns = (but concerned changed : List (List ℕ)) (facts : Facts) (before after : States)
    (deletes entered : Deletes) (changes : Changes) (holders : Holders) (x d : List ℕ) (date : ℤ)
    → Enters facts before after deletes entered x d date changed → IsListed facts before changes
    → AreAmong but concerned
    → ((y : List ℕ) → list_any (bytes_eq y) changed ≡ true → AreAmong (concerned_by facts before y) concerned)
    → IsHeldBut but facts before deletes changes holders → IsHeldBut concerned facts after entered changes holders
