-- How a ref that became ready is judged.
use Rattle.std.specs.Prelude.{◌≡◌, ℕ, ◌&&◌, ◌||◌, Bool, true, false, not, List, ◌∷◌, Option, Some, None, ℤ}
use Rattle.std.specs.Prelude.{if◌then◌else◌, option_map, slice_get}
use Rattle.std.specs.List.{list_any}
use Rattle.std.specs.Str.{bytes_eq}
use Rattle.std.specs.Ordering.{is_eq, int_cmp}
use Rattle.std.specs.FinMap.{get, contains_key}
use Rattle.claim_verify.specs.Verifier.{Accepts}
use Rattle.schema_fact.specs.declared.kinds.Fact.{Fact}
use Rattle.schema_fact.specs.declared.kinds.What.{What}
use Rattle.schema_fact.specs.declared.kinds.What.TheVariants.{Set, Add, Del, Delete, Multi}
use Rattle.schema_fact.specs.declared.kinds.Kind.{Kind}
use Rattle.schema_fact.specs.declared.kinds.Kind.TheVariants.{Plain, Key, File, Bytes, Directory, StaticSet, Permanode}
use Rattle.schema_fact.specs.declared.kinds.Kind.TheVariants.{Claim, Unread}
use Rattle.claim_model.specs.Facts.{Facts, passes}
use Rattle.claim_model.specs.Ready.{is_ready}
use Rattle.claim_model.specs.Least.{IsWithin, has_all}
use Rattle.claim_model.specs.Genuine.{is_signed}
use Rattle.claim_model.specs.Trees.{parts_fit}
use Rattle.schema_fact.specs.Changes.{changes_of}
use Rattle.claim_model.specs.Claims.{Moment}
use Rattle.index_rows.specs.declared.rows.StateRow.{StateRow}
use Rattle.index_rows.specs.Changes.{Changes}
use Rattle.index_rows.specs.Removals.{Removals, has_mark}
use Rattle.index_rows.specs.States.{States}
use Rattle.index_meaning.specs.Meaning.{is_change_on}
use Rattle.row_answers.specs.Told.{says_sound}
use Rattle.claim_index.specs.declared.judging.Judged.{Judged}
use Rattle.claim_index.specs.declared.judging.Judged.TheVariants as judged

-- the result for a genuine claim
abbrev pub what_judged : What → Judged
what_judged (Set on attr value) = judged.Changes
what_judged (Add on attr value) = judged.Changes
what_judged (Del on attr value) = judged.Changes
what_judged (Delete target) = judged.Delete
what_judged (Multi changes) = judged.Changes

-- the result for a genuine blob of this kind
abbrev pub kind_judged : Kind → Judged
kind_judged Plain = judged.Nothing
kind_judged (Key name) = judged.Nothing
kind_judged (File name parts) = judged.Nothing
kind_judged (Bytes parts) = judged.Nothing
kind_judged (Directory name listing) = judged.Nothing
kind_judged (StaticSet members) = judged.Nothing
kind_judged (Permanode signed) = judged.Permanode
kind_judged (Claim signed date what) = what_judged what
kind_judged (Unread name) = judged.Nothing

abbrev pub fact_judged : Facts → Accepts → Option Fact → Judged
fact_judged facts accepts None = judged.Nothing
fact_judged facts accepts (Some fact) = if is_signed facts accepts fact then kind_judged fact.kind else judged.Nothing

-- the result for a ready ref
abbrev pub judged_in : Facts → Accepts → List ℕ → Judged
judged_in facts accepts x = fact_judged facts accepts (get facts x)

-- a row with what was found
abbrev pub with_marks : Bool → Bool → StateRow → StateRow
with_marks genuine sound row = record {
  ready = row.ready;
  genuine = genuine;
  sound = sound;
  missing = row.missing;
  deleters = row.deleters;
}

-- a row after the findings were written into it, if it is that of the ref. If neither was found, it is unchanged
abbrev pub marked : Bool → Bool → Bool → Option StateRow → Option StateRow
marked here genuine sound row = if here && (genuine || sound) then option_map (with_marks genuine sound) row else row

-- whether the key that the fact of x names accepts its signature
abbrev pub is_signed_at : Facts → Accepts → List ℕ → Bool
is_signed_at facts accepts x = passes (is_signed facts accepts) (get facts x)

-- whether the parts of x lie within their origins, by the rows that say which trees are sound
abbrev pub fits_at : Facts → States → List ℕ → Bool
fits_at facts state x = passes (parts_fit facts (says_sound state)) (get facts x)

-- the row of x says what was found about it, and the others are unchanged
abbrev pub IsMarked : Facts → Accepts → States → States → List ℕ → Type 0
IsMarked facts accepts before after x = (y : List ℕ)
    → get after y ≡ marked (bytes_eq y x) (is_signed_at facts accepts x) (fits_at facts before x) (get before y)

-- whether a claim of this date has a change on p at the place of the moment, and the moment is of its date
abbrev pub is_change_by : List ℕ → Moment → ℤ → What → Bool
is_change_by p k date what =
    is_eq (int_cmp k.0 date) && passes (λ change. bytes_eq p change.on) (slice_get (changes_of what) k.2)

-- the changes of x have rows if it is signed, and the other rows are unchanged
abbrev pub IsChanged : Facts → Accepts → Changes → Changes → List ℕ → Type 0
IsChanged facts accepts before after x = (p : List ℕ) (k : Moment) → contains_key after (p, k)
    ≡ (contains_key before (p, k)
    || (bytes_eq k.1 x && (is_signed_at facts accepts x && passes (λ fact. is_change_on p k fact.kind) (get facts x))))

-- whether a claim has a change at the place of the moment that may take values with the mark from p, and is of its date
abbrev pub is_removal_by : List ℕ → ℕ → Moment → ℤ → What → Bool
is_removal_by p mark k date what =
    is_eq (int_cmp k.0 date)
    && passes (λ change. bytes_eq p change.on && has_mark mark change) (slice_get (changes_of what) k.2)

abbrev pub is_removal_on : List ℕ → ℕ → Moment → Kind → Bool
is_removal_on p mark k Plain = false
is_removal_on p mark k (Key name) = false
is_removal_on p mark k (File name parts) = false
is_removal_on p mark k (Bytes parts) = false
is_removal_on p mark k (Directory name listing) = false
is_removal_on p mark k (StaticSet members) = false
is_removal_on p mark k (Permanode signed) = false
is_removal_on p mark k (Claim signed date what) = is_removal_by p mark k date what
is_removal_on p mark k (Unread name) = false

-- the changes of x that may take values away have rows if it is signed, and the other rows are unchanged
abbrev pub HasRemovals : Facts → Accepts → Removals → Removals → List ℕ → Type 0
HasRemovals facts accepts before after x = (p : List ℕ) (mark : ℕ) (k : Moment) → contains_key after (p, mark, k)
    ≡ (contains_key before (p, mark, k)
    || (bytes_eq k.1 x
    && (is_signed_at facts accepts x && passes (λ fact. is_removal_on p mark k fact.kind) (get facts x))))

-- while these refs are left to be judged after x, it can be judged by `facts`, a part of `more`: it is ready among
-- them, its dependencies aren't left, and these facts have rows
pub record CanJudge (facts more : Facts) (state : States) (left : List (List ℕ)) (x : List ℕ) : Type 0 where
  pub within : IsWithin facts more
  pub ready : is_ready facts x ≡ true
  pub known : (y : List ℕ) → contains_key facts y ≡ true → contains_key state y ≡ true
  pub before : has_all facts (λ d. not (list_any (bytes_eq d) (x ∷ left))) x ≡ true
  pub once : list_any (bytes_eq x) left ≡ false
