-- The rows of the changes of genuine claims are listed.
use Rattle.std.proofs.Common.{◌≡◌, ℕ, Bool, true, not, ◌&&◌, List, Option, None, Some, refl, sym, ap, ◌∙◌, is_some}
use Rattle.std.specs.Prelude.{slice_get}
use Rattle.std.proofs.lemmas.Bool.{and_parts, false≢true}
use Rattle.std.proofs.lemmas.Slice.Eq.{bytes_eq-Decides}
use Rattle.std.specs.List.{list_any}
use Rattle.std.specs.Str.{bytes_eq}
use Rattle.std.specs.Ordering.{is_eq, int_cmp}
use Rattle.std.specs.FinMap.{int_cmp-IsAntisymmetric, get, contains_key}
use Rattle.claim_verify.specs.Verifier.{Accepts}
use Rattle.schema_fact.specs.declared.kinds.Fact.{Fact}
use Rattle.schema_fact.specs.declared.kinds.Signed.{Signed}
use Rattle.schema_fact.specs.declared.kinds.What.{What}
use Rattle.schema_fact.specs.declared.kinds.Kind.{Kind}
use Rattle.schema_fact.specs.declared.kinds.Kind.TheVariants.{Plain, Key, File, Bytes, Directory, StaticSet, Permanode, Claim, Unread}
use Rattle.claim_model.specs.Facts.{Facts, passes}
use Rattle.claim_model.specs.Genuine.{is_genuine}
use Rattle.schema_fact.specs.declared.changes.Change.{Change}
use Rattle.schema_fact.specs.Changes.{changes_of}
use Rattle.claim_model.specs.Claims.{Moment}
use Rattle.index_look.proofs.Order.{is_Equal}
use Rattle.index_rows.specs.declared.rows.StateRow.{StateRow}
use Rattle.index_rows.specs.Changes.{Changes}
use Rattle.index_rows.specs.States.{States, says_genuine}
use Rattle.index_rows.specs.Values.{IsListed}
use Rattle.index_meaning.specs.Meaning.{IsChangesOf, IsJudged, is_change_on, genuine_change}
use Rattle.index_meaning.specs.Laws.{RowsAreListed}

pub some_passes : {A : Type 0} (test : A → Bool) (o : Option A) → passes test o ≡ true
    → (x : A) × (o ≡ Some x) × (test x ≡ true)
some_passes test None h = absurd (false≢true h)
some_passes test (Some x) h = (x, refl, h)

-- what changes p at this moment
record Changing (p : List ℕ) (k : Moment) (kind : Kind) : Type 0 where
  signed : Signed
  what : What
  change : Change
  says : kind ≡ Claim signed k.0 what
  place : slice_get (changes_of what) k.2 ≡ Some change
  on : change.on ≡ p

changing : (p : List ℕ) (k : Moment) (kind : Kind) → is_change_on p k kind ≡ true → Changing p k kind
changing p k Plain h = absurd (false≢true h)
changing p k (Key name) h = absurd (false≢true h)
changing p k (File name parts) h = absurd (false≢true h)
changing p k (Bytes parts) h = absurd (false≢true h)
changing p k (Directory name listing) h = absurd (false≢true h)
changing p k (StaticSet members) h = absurd (false≢true h)
changing p k (Permanode signed) h = absurd (false≢true h)
changing p k (Claim signed date what) h =
    let test : Change → Bool = λ (c : Change). bytes_eq p c.on in
    let both = and_parts (is_eq (int_cmp k.0 date)) (passes test (slice_get (changes_of what) k.2)) h in
    let there = some_passes test (slice_get (changes_of what) k.2) both.1 in
    record {
      signed = signed;
      what = what;
      change = there.0;
      says = λ i. Claim signed (sym (int_cmp-IsAntisymmetric k.0 date (is_Equal (int_cmp k.0 date) both.0)) i) what;
      place = there.1;
      on = sym ((bytes_eq-Decides p there.0.on).0 there.2);
    }
changing p k (Unread name) h = absurd (false≢true h)

module _ (facts : Facts) (accepts : Accepts) (left : List (List ℕ)) (state : States) (changes : Changes)
    (arrived : (y : List ℕ) → contains_key state y ≡ contains_key facts y) (judged : IsJudged facts accepts left state)
    (changed : IsChangesOf facts accepts left changes) where
  said : (y : List ℕ) (fact : Fact) → get facts y ≡ Some fact
      → (is_genuine facts accepts y && not (list_any (bytes_eq y) left)) ≡ true → says_genuine state y ≡ true
  said y fact found h = by (get state y) refl (arrived y ∙ ap is_some found)
    where
      by : (o : Option StateRow) → get state y ≡ o → is_some o ≡ true
          → passes (λ (row : StateRow). row.genuine) o ≡ true
      by None is t = absurd (false≢true t)
      by (Some row) is t = judged.genuine y row is ∙ h

  listed : IsListed facts state changes
  listed p k h =
      let test : Fact → Bool = λ (fact : Fact). is_change_on p k fact.kind in
      let both = and_parts (genuine_change facts accepts p k) (not (list_any (bytes_eq k.1) left))
      (sym (changed p k) ∙ h) in
      let parts = and_parts (is_genuine facts accepts k.1) (passes test (get facts k.1)) both.0 in
      let fact = some_passes test (get facts k.1) parts.1 in
      let change = changing p k fact.0.kind fact.2 in
      record {
        fact = fact.0;
        signed = change.signed;
        what = change.what;
        change = change.change;
        found = fact.1;
        says = change.says;
        place = change.place;
        on = change.on;
        genuine = said k.1 fact.0 fact.1 (λ i. parts.0 i && both.1 i);
      }

pub rows_are_listed : RowsAreListed
rows_are_listed = listed
