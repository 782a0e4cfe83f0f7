-- The grammar of search words (docs/formats/search_words.md), on whole lines.
use Rattle.std.specs.Prelude.{◌≡◌, ◌≢◌, ℕ, List, [], ◌∷◌, ◌++◌, codes, replicate, true, false, not, Bool, ◌&&◌, ◌||◌, nat_eq}
use Rattle.std.specs.List.{list_all}
use Rattle.blobref.specs.Blobref.{is_blobref}
use Rattle.search_query.specs.Mirror.{Asked}
use Rattle.search_words.specs.Asking.{both, either, negation, has_attr, has_value, has_title, has_prefix, children_of}

-- Texts

-- no space, `(`, `)`, `"` or `:`
abbrev pub is_bare : ℕ → Bool
is_bare x = not (nat_eq x 32 || nat_eq x 40 || nat_eq x 41 || nat_eq x 34 || nat_eq x 58)

-- `"` or `\`
abbrev pub is_escaped : ℕ → Bool
is_escaped x = nat_eq x 34 || nat_eq x 92

-- what stands between quotes, and the text that it stands for
pub data IsWithin : List ℕ → List ℕ → Type 0 where
  nothing : IsWithin [] []
  plain : (x : ℕ) {text v : List ℕ} → is_escaped x ≡ false → IsWithin text v → IsWithin (x ∷ text) (x ∷ v)
  escaped : (x : ℕ) {text v : List ℕ} → is_escaped x ≡ true → IsWithin text v → IsWithin (92 ∷ x ∷ text) (x ∷ v)

-- a bare text or a quoted one, and the text that it stands for
pub data IsText : List ℕ → List ℕ → Type 0 where
  bare : (v : List ℕ) → v ≢ [] → list_all is_bare v ≡ true → IsText v v
  quoted : {text v : List ℕ} → IsWithin text v → IsText (34 ∷ text ++ 34 ∷ []) v

-- Words

pub data IsWord : List ℕ → Asked → Type 0 where
  tag : {text v : List ℕ} → IsText text v → IsWord (codes "tag:" ++ text) (has_value (codes "tag") v)
  title : {text v : List ℕ} → IsText text v → IsWord (codes "title:" ++ text) (has_title v)
  attr : {name n text v : List ℕ} → IsText name n → n ≢ [] → IsText text v
      → IsWord (codes "attr:" ++ name ++ 58 ∷ text) (has_value n v)
  has : {name n : List ℕ} → IsText name n → n ≢ [] → IsWord (codes "has:" ++ name) (has_attr n)
  ref : {text v : List ℕ} → IsText text v → IsWord (codes "ref:" ++ text) (has_prefix v)
  childrenof : (r : List ℕ) → is_blobref r ≡ true → IsWord (codes "childrenof:" ++ r) (children_of r)

-- Lines

-- so many spaces
abbrev pub spaces : ℕ → List ℕ
spaces n = replicate n 32

mutual
  -- units joined by spaces, grouped to the left
  pub data IsAnd : List ℕ → Asked → Type 0 where
    unit : {text : List ℕ} {a : Asked} → IsUnit text a → IsAnd text a
    and : {left right : List ℕ} {a b : Asked} → IsAnd left a → (n : ℕ) → IsUnit right b
        → IsAnd (left ++ 32 ∷ spaces n ++ right) (both a b)

  -- an atom, or `-` and an atom
  pub data IsUnit : List ℕ → Asked → Type 0 where
    atom : {text : List ℕ} {a : Asked} → IsAtom text a → IsUnit text a
    minus : {text : List ℕ} {a : Asked} → IsAtom text a → IsUnit (45 ∷ text) (negation a)

  -- a word, or a form in parentheses
  pub data IsAtom : List ℕ → Asked → Type 0 where
    word : {text : List ℕ} {a : Asked} → IsWord text a → IsAtom text a
    group : (n : ℕ) {text : List ℕ} {a : Asked} → IsOr text a → (m : ℕ)
        → IsAtom (40 ∷ spaces n ++ text ++ spaces m ++ 41 ∷ []) a

  -- and-forms joined by `or` between spaces, grouped to the left
  pub data IsOr : List ℕ → Asked → Type 0 where
    one : {text : List ℕ} {a : Asked} → IsAnd text a → IsOr text a
    or : {left right : List ℕ} {a b : Asked} → IsOr left a → (n m : ℕ) → IsAnd right b
        → IsOr (left ++ 32 ∷ spaces n ++ 111 ∷ 114 ∷ 32 ∷ spaces m ++ right) (either a b)

-- an or-form, with spaces around it
pub data IsLine : List ℕ → Asked → Type 0 where
  line : (n : ℕ) {text : List ℕ} {a : Asked} → IsOr text a → (m : ℕ) → IsLine (spaces n ++ text ++ spaces m) a
