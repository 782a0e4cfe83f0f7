-- The effect of one more change on the rows of a permanode.
use Rattle.std.specs.Prelude.{◌≡◌, ◌≤◌, ℕ, ◌+◌, ◌*◌, ◌&&◌, ◌||◌, ◌==◌, Bool, true, false, not, List, [], ◌∷◌, ◌++◌}
use Rattle.std.specs.Prelude.{length}
use Rattle.std.specs.Prelude.{map, filter, nat_lt, Option, Some, None, if◌then◌else◌}
use Rattle.std.specs.List.{filter_map, list_any}
use Rattle.std.specs.Str.{bytes_eq}
use Rattle.std.specs.Ordering.{eq_by_cmp}
use Rattle.std.specs.FinMap.{contains_key, insert}
use Rattle.schema_date.specs.declared.date.When.TheVariants.{Always}
use Rattle.schema_fact.specs.declared.changes.Act.{Act}
use Rattle.schema_fact.specs.declared.changes.Act.TheVariants.{Set as sets, Add as adds, Del as removes}
use Rattle.schema_fact.specs.declared.changes.Change.{Change}
use Rattle.claim_model.specs.Facts.{Facts}
use Rattle.claim_model.specs.Changes.{gives, has_after}
use Rattle.claim_model.specs.Claims.{Moment}
use Rattle.index_rows.specs.Changes.{Changes, change_cmp, changes_after, changes_before}
use Rattle.index_rows.specs.Deletes.{Deletes, row_deleted}
use Rattle.index_rows.specs.Holders.{HolderKey, Holders, says_permanode, times_at}
use Rattle.index_rows.specs.Removals.{Removals, mark_of, removals_after}
use Rattle.index_rows.specs.States.{States}
use Rattle.index_rows.specs.Values.{change_at, moment_counts}
use Rattle.attr_fold.specs.Times.{times_after, times_from}

-- whether p is a permanode whose row says that it is genuine, and isn't deleted, by claims of every date
abbrev pub holds_values : Facts → States → Deletes → List ℕ → Bool
holds_values facts state deletes p = says_permanode facts state p && not (row_deleted facts deletes Always p)

-- those of the changes of some moments that count
abbrev pub counted : Facts → Deletes → List Moment → List Change
counted facts deletes ks = filter_map (change_at facts) (filter (moment_counts facts deletes Always) ks)

-- the changes of p before a moment that count
abbrev pub counted_before : Facts → Deletes → Changes → List ℕ → Moment → List Change
counted_before facts deletes changes p k = counted facts deletes (map (λ e. e.0.1) (changes_before changes p k))

-- those after it
abbrev pub counted_after : Facts → Deletes → Changes → List ℕ → Moment → List Change
counted_after facts deletes changes p k = counted facts deletes (map (λ e. e.0.1) (changes_after changes p (Some k)))

-- whether a change leaves no value of its attribute that was there before it
abbrev pub is_end : Act → List ℕ → Bool
is_end sets value = true
is_end adds value = false
is_end removes value = length value == 0

-- whether a change by itself decides if the attribute has the value after it, or with `all` if it has any value
abbrev pub decides : Bool → List ℕ → List ℕ → Change → Bool
decides all name value c = bytes_eq c.attr name && (is_end c.act c.value || (not all && bytes_eq c.value value))

-- the removals of p under a mark after a moment that count
abbrev pub counted_under : Facts → Deletes → Removals → List ℕ → ℕ → Moment → List Change
counted_under facts deletes removals p mark k =
    counted facts deletes (map (λ e. e.0.2) (removals_after removals p mark k))

abbrev pub is_addition : Act → Bool
is_addition sets = false
is_addition adds = true
is_addition removes = false

-- whether a change decides that, and not by adding the value
abbrev pub takes : List ℕ → List ℕ → Change → Bool
takes name value c = not (is_addition c.act) && decides false name value c

-- how many times a value was added with these changes, if n times before them; `None` if one of them takes it away
abbrev pub added_from : List ℕ → List ℕ → ℕ → List Change → Option ℕ
added_from name value n said = if list_any (takes name value) said then None else Some (times_from name value n said)

-- whether there is a row, by its number
abbrev pub is_row : Holders → HolderKey → Bool
is_row holders k = nat_lt 0 (times_at holders k)

-- no row changed but those of values of this attribute of p
abbrev pub AreOthers : List ℕ → List ℕ → Holders → Holders → Type 0
AreOthers attr p before after = (name value q : List ℕ) → (bytes_eq name attr && bytes_eq q p) ≡ false
    → times_at after (name, value, q) ≡ times_at before (name, value, q)

-- no row changed but those of values of this attribute of p, and the numbers of these are no greater than before
pub record AreFewer (attr p : List ℕ) (before after : Holders) : Type 0 where
  pub others : AreOthers attr p before after
  pub fewer : (value : List ℕ) → times_at after (attr, value, p) ≤ times_at before (attr, value, p)

-- each value with a row that is there after some changes was there before them; if these are all that matter, there is
-- none
abbrev pub IsTakenBack : List ℕ → List ℕ → List Change → Bool → Holders → Type 0
IsTakenBack attr p said done holders = (value : List ℕ) (front : List Change) → is_row holders (attr, value, p) ≡ true
    → has_after attr value (front ++ said) ≡ true → (done ≡ false) × (has_after attr value front ≡ true)

-- none of the rows is of a value that is there after these changes
abbrev pub AreGone : List ℕ → List ℕ → List Change → Holders → Type 0
AreGone attr p said holders = (value : List ℕ) → is_row holders (attr, value, p) ≡ true
    → has_after attr value said ≡ false

-- these are the changes before, and that of p at the moment
pub record IsOneMore (before changes : Changes) (p : List ℕ) (k : Moment) : Type 0 where
  pub fresh : contains_key before (p, k) ≡ false
  pub more : changes ≡ insert before (p, k) tt

-- the rows of p that were right after the first of two lists of changes are right after the second one, which has this
-- change more or less, and no row of another attribute or permanode changed
pub record AreRight (p : List ℕ) (c : Change) (was now : List Change) (before after : Holders) : Type 0 where
  pub others : AreOthers c.attr p before after
  pub own : (value : List ℕ) → times_at before (c.attr, value, p) ≡ times_after c.attr value was
      → times_at after (c.attr, value, p) ≡ times_after c.attr value now
  pub given : (value : List ℕ) → is_row after (c.attr, value, p) ≡ true
      → (is_row before (c.attr, value, p) || gives c.attr value c) ≡ true

-- they were right after some changes, and are right after one more change
abbrev pub IsFollowed : List ℕ → Change → List Change → Holders → Holders → Type 0
IsFollowed p c said before after = AreRight p c said (said ++ c ∷ []) before after

-- they were right without a change, and are right with it, between those before it and those after it
abbrev pub IsSettled : List ℕ → Change → List Change → List Change → Holders → Holders → Type 0
IsSettled p c front back before after = AreRight p c (front ++ back) (front ++ c ∷ back) before after

-- the same, or if the change is gone: right with it, and right without it
abbrev pub IsTurned : Bool → List ℕ → Change → List Change → List Change → Holders → Holders → Type 0
IsTurned true p c front back before after = AreRight p c (front ++ c ∷ back) (front ++ back) before after
IsTurned false p c front back before after = IsSettled p c front back before after

-- the claim of a moment was deleted by the earlier delete claims and isn't by the later ones, or the other way round;
-- no deletion of another change's claim changed, and none of a permanode
pub record IsFlipped (facts : Facts) (state : States) (changes : Changes) (before after : Deletes) (p : List ℕ)
    (k : Moment) : Type 0 where
  pub own : row_deleted facts before Always k.1 ≡ not (row_deleted facts after Always k.1)
  pub others : (q : List ℕ) (j : Moment) → contains_key changes (q, j) ≡ true
      → eq_by_cmp change_cmp (q, j) (p, k) ≡ false
      → row_deleted facts before Always j.1 ≡ row_deleted facts after Always j.1
  pub permanodes : (q : List ℕ) → says_permanode facts state q ≡ true
      → row_deleted facts before Always q ≡ row_deleted facts after Always q

-- three for each removal of p after a moment under the marks of an attribute alone, and of it with a value
abbrev pub taking_steps : Removals → List ℕ → List ℕ → List ℕ → Moment → ℕ
taking_steps removals p attr value k =
    3 * (length (removals_after removals p (mark_of attr []) k)
    + length (removals_after removals p (mark_of attr value) k))

-- seven, and four for each change of p
abbrev pub follow_steps : Changes → List ℕ → ℕ
follow_steps changes p = 7 + 4 * length (changes_after changes p None)
