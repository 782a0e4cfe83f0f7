-- The head of a part.
use Rattle.std.specs.Prelude.{◌≡◌, ◌≤◌, ℕ, if◌then◌else◌, List, [], ◌∷◌, length, map, Option, Some, None, codes}
use Rattle.httparse.specs.Grammar.{Field, LineEnd, print_section, ReadsSection, HasNoSection, MayBecomeSection}
use Rattle.httparse.specs.Spans.{name_and_value, IsSectionWithin, IsSectionOf, SectionOverflows}
use Rattle.httparse.specs.declared.spans.HeaderSpan.{HeaderSpan}
use Rattle.multipart_read.specs.declared.heads.Section.{Section}
use Rattle.multipart_read.specs.declared.heads.Section.TheVariants.{Whole, Open, Hopeless}
use Rattle.multipart_read.specs.Parameters.{is_like, value_of}

-- the name that the first `Content-Disposition` gives
unfoldable pub part_name : List (List ℕ × List ℕ) → Option (List ℕ)
part_name [] = None
part_name (f ∷ fields) =
    if is_like f.0 (codes "content-disposition") then value_of (codes "form-data") (codes "name") f.1
    else part_name fields

-- the bytes begin with the head of a part: `len` bytes, with this name
pub record HeadAt (bytes : List ℕ) (name : List ℕ) (len : ℕ) : Type 0 where
  pub fields : List Field
  pub last : LineEnd
  pub rest : List ℕ
  pub reads : ReadsSection bytes fields last rest
  pub len_is : len ≡ length (print_section fields last)
  pub short : len ≤ 4096
  pub few : length fields ≤ 16
  pub name_is : part_name (map name_and_value fields) ≡ Some name

abbrev pub HasNoHead : List ℕ → Type 0
HasNoHead bytes = (name : List ℕ) (len : ℕ) → HeadAt bytes name len → ⊥

-- what was seen of the field lines at the front of the bytes
abbrev pub IsSectionSeen : List ℕ → ℕ → List HeaderSpan → Section → Type 0
IsSectionSeen front room headers (Whole len count) =
    IsSectionWithin front headers len count × IsSectionOf front 0 headers (len, count)
IsSectionSeen front room headers Open = HasNoSection front × MayBecomeSection front
IsSectionSeen front room headers Hopeless = SectionOverflows room front
