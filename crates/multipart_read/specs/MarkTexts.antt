-- What a mark is, as a text (RFC 2046).
use Rattle.std.specs.Prelude.{◌≡◌, ◌<◌, ◌≤◌, ℕ, true, List, ◌++◌, length, drop, codes}
use Rattle.std.specs.List.{list_all}
use Rattle.multipart_read.specs.declared.marks.Mark.{Mark}
use Rattle.multipart_read.specs.declared.marks.Mark.TheVariants.{Absent, Undecided, Delimiter, Close}
use Rattle.multipart_read.specs.Marks.{is_pad, mark_from, first_mark}

-- the text of a delimiter: CR LF, `--`, the boundary, at most 16 bytes of pad, CR LF
pub record IsDelimiterText (start text : List ℕ) : Type 0 where
  pub pad : List ℕ
  pub few : length pad ≤ 16
  pub blank : list_all is_pad pad ≡ true
  pub spelled : text ≡ start ++ (pad ++ codes "\r\n")

-- the text of the close
abbrev pub IsCloseText : List ℕ → List ℕ → Type 0
IsCloseText start text = text ≡ start ++ codes "--"

-- where a delimiter or the close stands, that is what is seen
abbrev pub MarksAreSeen : Type 0
MarksAreSeen =
    ((start text rest : List ℕ) → IsDelimiterText start text
    → mark_from 0 start (text ++ rest) ≡ Delimiter (length text))
    × ((start text rest : List ℕ) → IsCloseText start text → mark_from 0 start (text ++ rest) ≡ Close (length text))

-- at the front of the bytes stands a text of that length
abbrev pub Fronts : (List ℕ → Type 0) → List ℕ → ℕ → Type 0
Fronts IsText bytes n = (text : List ℕ) × (rest : List ℕ) × (bytes ≡ text ++ rest) × (n ≡ length text) × IsText text

-- where a delimiter or the close is seen, it stands
abbrev pub SeenMarksStand : Type 0
SeenMarksStand =
    ((start bytes : List ℕ) (n : ℕ) → mark_from 0 start bytes ≡ Delimiter n → Fronts (IsDelimiterText start) bytes n)
    × ((start bytes : List ℕ) (n : ℕ) → mark_from 0 start bytes ≡ Close n → Fronts (IsCloseText start) bytes n)

-- where none is seen, none stands, whatever follows the bytes
abbrev pub AbsentMarksStandNowhere : Type 0
AbsentMarksStandNowhere = (start bytes more : List ℕ) (n : ℕ) → mark_from 0 start bytes ≡ Absent
    → (Fronts (IsDelimiterText start) (bytes ++ more) n → ⊥) × (Fronts (IsCloseText start) (bytes ++ more) n → ⊥)

-- a delimiter or the close
abbrev pub IsSeen : Mark → Type 0
IsSeen Absent = ⊥
IsSeen Undecided = ⊥
IsSeen (Delimiter n) = Unit {0}
IsSeen (Close n) = Unit {0}

-- where it isn't known, some bytes that may follow make a mark of all bytes
abbrev pub UndecidedMayBecome : Type 0
UndecidedMayBecome = (start bytes : List ℕ) → mark_from 0 start bytes ≡ Undecided
    → (more : List ℕ) × IsSeen (mark_from 0 start (bytes ++ more))

-- before the first mark none is seen
abbrev pub FirstIsFirst : Type 0
FirstIsFirst = (start bytes : List ℕ) →
    ((k : ℕ) → k < (first_mark start bytes).sure → mark_from 0 start (drop k bytes) ≡ Absent)
