-- Whom what was judged or entered concerns.
use Rattle.std.proofs.Common.{◌≡◌, ℕ, ℤ, zero, suc, Bool, true, false, not, ◌&&◌, ◌||◌, cond, List, [], ◌∷◌, map, Option, None, Some, refl, sym, ap, ◌∙◌, is_some}
use Rattle.std.specs.Prelude.{slice_get}
use Rattle.std.proofs.lemmas.Bool.{and_parts, false≢true, true≢false, false_from_ne_true, or_left, or_right}
use Rattle.std.proofs.lemmas.Slice.Eq.{bytes_eq-Decides}
use Rattle.std.specs.List.{list_any}
use Rattle.std.specs.Ordering.{is_eq, int_cmp}
use Rattle.std.specs.Str.{bytes_eq}
use Rattle.std.specs.FinMap.{get, contains_key, get-empty}
use Rattle.schema_date.specs.declared.date.When.TheVariants.{Always}
use Rattle.schema_fact.specs.declared.kinds.Fact.{Fact}
use Rattle.schema_fact.specs.declared.kinds.Signed.{Signed}
use Rattle.schema_fact.specs.declared.kinds.What.{What}
use Rattle.schema_fact.specs.declared.kinds.Kind.{Kind}
use Rattle.schema_fact.specs.declared.kinds.Kind.TheVariants.{Plain, Key, File, Bytes, Directory, StaticSet, Permanode, Claim, Unread}
use Rattle.claim_model.specs.Facts.{Facts, passes, is_permanode}
use Rattle.schema_fact.specs.declared.changes.Change.{Change}
use Rattle.schema_fact.specs.Changes.{changes_of}
use Rattle.claim_model.specs.Claims.{Moment}
use Rattle.index_rows.specs.Changes.{Changes}
use Rattle.index_rows.specs.Deletes.{Deletes, row_deleted}
use Rattle.index_rows.specs.States.{States, says_genuine}
use Rattle.index_rows.specs.Values.{IsListed}
use Rattle.index_rows.specs.Holders.{holder_cmp, says_permanode, row_holds}
use Rattle.index_rows.specs.Values.{row_values}
use Rattle.index_meaning.specs.Meaning.{is_change_on}
use Rattle.index_meaning.specs.Laws.{IsUnconcerned}
use Rattle.index_meaning.specs.Touching.{concerned_by, kind_concerns, fact_concerns}
use Rattle.index_meaning.specs.Concerns.{AreAmong, HeldButMore, NoneIsHeld, WasJudged, JudgingConcerns, EnteringConcerns}
use Rattle.index_meaning.specs.Progress.{beside_count, Enters}
use Rattle.index_meaning.proofs.Keeping.{genuine_kept}
use Rattle.index_meaning.proofs.Listing.{some_passes}
use Rattle.index_meaning.proofs.Growth.{held_stays}

-- what isn't in the longer list isn't in the other
not_among : (rs more : List (List ℕ)) → AreAmong rs more → (q : List ℕ) → list_any (bytes_eq q) more ≡ false
    → list_any (bytes_eq q) rs ≡ false
not_among rs more among q h = false_from_ne_true (list_any (bytes_eq q) rs) (λ t. true≢false (sym (among q t) ∙ h))

pub held_but_more : HeldButMore
held_but_more but more facts state deletes changes holders among was = record {
  held = λ name value p h. was.held name value p (not_among but more among p h);
  times = λ name value p n h e. was.times name value p n (not_among but more among p h) e;
  permanode = was.permanode;
  given = was.given;
}

pub none_is_held : NoneIsHeld
none_is_held but facts state deletes changes all = record {
  held = λ name value p h. ap is_some (get-empty holder_cmp (name, value, p))
      ∙ sym (unsaid name value p (false_from_ne_true (says_permanode facts state p)
      (λ t. true≢false (sym (all p t) ∙ h))));
  times = λ name value p n h e. absurd (false≢true (ap is_some (sym (get-empty holder_cmp (name, value, p)) ∙ e)));
  permanode = λ name value p h. absurd (false≢true (ap is_some (sym (get-empty holder_cmp (name, value, p))) ∙ h));
  given = λ name value p h. absurd (false≢true (ap is_some (sym (get-empty holder_cmp (name, value, p))) ∙ h));
}
  where
    unsaid : (name value p : List ℕ) → says_permanode facts state p ≡ false
        → row_holds facts state deletes changes name value p ≡ false
    unsaid name value p h =
        ap (λ (b : Bool). (b && not (row_deleted facts deletes Always p))
        && list_any (bytes_eq value) (row_values facts deletes changes Always p name)) h

-- ---- whom a ref touches

module _ (facts : Facts) (state : States) (y : List ℕ) where
  -- a permanode touches itself
  permanode_touches : (kind : Kind) → is_permanode kind ≡ true
      → list_any (bytes_eq y) (kind_concerns state y kind) ≡ true
  permanode_touches Plain h = absurd (false≢true h)
  permanode_touches (Key name) h = absurd (false≢true h)
  permanode_touches (File name parts) h = absurd (false≢true h)
  permanode_touches (Bytes parts) h = absurd (false≢true h)
  permanode_touches (Directory name listing) h = absurd (false≢true h)
  permanode_touches (StaticSet members) h = absurd (false≢true h)
  permanode_touches (Permanode signed) h = or_left (bytes_eq y y) false ((bytes_eq-Decides y y).1 refl)
  permanode_touches (Claim signed date what) h = absurd (false≢true h)
  permanode_touches (Unread name) h = absurd (false≢true h)

  itself : passes (λ (fact : Fact). is_permanode fact.kind) (get facts y) ≡ true
      → list_any (bytes_eq y) (concerned_by facts state y) ≡ true
  itself h = by (get facts y) h
    where
      by : (o : Option Fact) → passes (λ (fact : Fact). is_permanode fact.kind) o ≡ true
          → list_any (bytes_eq y) (fact_concerns state y o) ≡ true
      by None h = absurd (false≢true h)
      by (Some fact) h = permanode_touches fact.kind h

  -- a change is on one of those that it changes
  on_one : (q : List ℕ) (cs : List Change) (n : ℕ) (c : Change) → slice_get cs n ≡ Some c → bytes_eq q c.on ≡ true
      → list_any (bytes_eq q) (map (λ (d : Change). d.on) cs) ≡ true
  on_one q [] n c at on = absurd (let e : None ≡ Some c = at in cc e)
  on_one q (d ∷ cs) zero c at on =
      or_left (bytes_eq q d.on) (list_any (bytes_eq q) (map (λ (e : Change). e.on) cs))
      (ap (λ (o : Option Change). passes (λ (e : Change). bytes_eq q e.on) o) at ∙ on)
  on_one q (d ∷ cs) (suc n) c at on =
      or_right (bytes_eq q d.on) (list_any (bytes_eq q) (map (λ (e : Change). e.on) cs)) (on_one q cs n c at on)

  -- and a claim that is said to be genuine touches whom it changes
  claim_touches : says_genuine state y ≡ true
      → (q : List ℕ) (signed : Signed) (date : ℤ) (what : What) (n : ℕ) (c : Change)
      → slice_get (changes_of what) n ≡ Some c → bytes_eq q c.on ≡ true
      → list_any (bytes_eq q) (kind_concerns state y (Claim signed date what)) ≡ true
  claim_touches says q signed date what n c at on =
      ap (λ b. list_any (bytes_eq q) (cond b (map (λ (d : Change). d.on) (changes_of what)) [])) says
      ∙ on_one q (changes_of what) n c at on

  touched : says_genuine state y ≡ true → (q : List ℕ) (k : Moment) (kind : Kind) → is_change_on q k kind ≡ true
      → list_any (bytes_eq q) (kind_concerns state y kind) ≡ true
  touched says q k Plain h = absurd (false≢true h)
  touched says q k (Key name) h = absurd (false≢true h)
  touched says q k (File name parts) h = absurd (false≢true h)
  touched says q k (Bytes parts) h = absurd (false≢true h)
  touched says q k (Directory name listing) h = absurd (false≢true h)
  touched says q k (StaticSet members) h = absurd (false≢true h)
  touched says q k (Permanode signed) h = absurd (false≢true h)
  touched says q k (Claim signed date what) h =
      let test : Change → Bool = λ (c : Change). bytes_eq q c.on in
      let on = some_passes test (slice_get (changes_of what) k.2)
      (and_parts (is_eq (int_cmp k.0 date)) (passes test (slice_get (changes_of what) k.2)) h).1 in
      claim_touches says q signed date what k.2 on.0 on.1 on.2
  touched says q k (Unread name) h = absurd (false≢true h)

  pub whom_it_changes : says_genuine state y ≡ true → (q : List ℕ) (k : Moment)
      → passes (λ (fact : Fact). is_change_on q k fact.kind) (get facts y) ≡ true
      → list_any (bytes_eq q) (concerned_by facts state y) ≡ true
  whom_it_changes says q k h = by (get facts y) h
    where
      by : (o : Option Fact) → passes (λ (fact : Fact). is_change_on q k fact.kind) o ≡ true
          → list_any (bytes_eq q) (fact_concerns state y o) ≡ true
      by None h = absurd (false≢true h)
      by (Some fact) h = touched says q k fact.kind h

or_false : (b : Bool) → (b || false) ≡ b
or_false true = refl
or_false false = refl

-- ---- what was judged

module _ (concerned : List (List ℕ)) (facts : Facts) (before after : States) (deletes : Deletes)
    (changes listed : Changes) (x : List ℕ)
    (was : WasJudged facts before after changes listed x)
    (touches : says_genuine after x ≡ true → AreAmong (concerned_by facts after x) concerned) where
  grown : (y : List ℕ) → says_genuine before y ≡ true → says_genuine after y ≡ true
  grown y h = by (bytes_eq y x) refl
    where
      by : (b : Bool) → bytes_eq y x ≡ b → says_genuine after y ≡ true
      by true is = absurd (false≢true (sym was.new ∙ ap (says_genuine before) (sym ((bytes_eq-Decides y x).0 is)) ∙ h))
      by false is = was.others y is ∙ h

  module _ (q : List ℕ) (out : list_any (bytes_eq q) concerned ≡ false) where
    abbrev permanode : List ℕ → Bool
    permanode r = passes (λ (fact : Fact). is_permanode fact.kind) (get facts r)

    same_permanode : says_permanode facts after q ≡ says_permanode facts before q
    same_permanode = by (bytes_eq q x) refl
      where
        kinds : q ≡ x → says_genuine after x ≡ true → (p : Bool) → permanode x ≡ p
            → (permanode x && says_genuine after x) ≡ (permanode x && says_genuine before x)
        kinds own says true is =
            absurd (false≢true (sym out ∙ ap (λ r. list_any (bytes_eq r) concerned) own
            ∙ touches says x (itself facts after x is)))
        kinds own says false is = ap (λ (p : Bool). p && says_genuine after x) is
            ∙ sym (ap (λ (p : Bool). p && says_genuine before x) is)

        own_same : q ≡ x → (b : Bool) → says_genuine after x ≡ b
            → (permanode x && says_genuine after x) ≡ (permanode x && says_genuine before x)
        own_same own true says = kinds own says (permanode x) refl
        own_same own false says = ap (λ b. permanode x && b) (says ∙ sym was.new)

        by : (b : Bool) → bytes_eq q x ≡ b → says_permanode facts after q ≡ says_permanode facts before q
        by true is =
            let own : q ≡ x = (bytes_eq-Decides q x).0 is in
            ap (λ r. says_permanode facts after r) own ∙ own_same own (says_genuine after x) refl
            ∙ ap (λ r. says_permanode facts before r) (sym own)
        by false is = ap (λ b. permanode q && b) (was.others q is)

    same_group : (k : Moment) → contains_key listed (q, k) ≡ contains_key changes (q, k)
    same_group k = was.rows q k ∙ by (bytes_eq k.1 x && (says_genuine after x
        && passes (λ (fact : Fact). is_change_on q k fact.kind) (get facts x))) refl
      where
        by : (b : Bool) → (bytes_eq k.1 x && (says_genuine after x
            && passes (λ (fact : Fact). is_change_on q k fact.kind) (get facts x))) ≡ b
            → (contains_key changes (q, k) || b) ≡ contains_key changes (q, k)
        by true is =
            let on = passes (λ (fact : Fact). is_change_on q k fact.kind) (get facts x) in
            let parts = and_parts (says_genuine after x) on
            (and_parts (bytes_eq k.1 x) (says_genuine after x && on) is).1 in
            absurd (false≢true (sym out ∙ touches parts.0 q (whom_it_changes facts after x parts.0 q k parts.1)))
        by false is = or_false (contains_key changes (q, k))

    unconcerned : IsUnconcerned facts facts before after deletes deletes changes listed q
    unconcerned = record {
      permanode = same_permanode;
      deleted = λ says. refl;
      group = λ says. same_group;
      claims = λ says k h. refl;
    }

pub judging_concerns : JudgingConcerns
judging_concerns but concerned facts before after deletes changes listed holders x was rows among touches held =
    held_stays but concerned facts facts before after deletes deletes changes listed holders held rows
    (record {
      within = λ r fact h. h;
      genuine = grown concerned facts before after deletes changes listed x was touches;
      rows = λ p k h. was.rows p k ∙ or_left (contains_key changes (p, k)) _ h;
    })
    (not_among but concerned among) (unconcerned concerned facts before after deletes changes listed x was touches)

-- ---- what was entered

module _ (concerned changed : List (List ℕ)) (facts : Facts) (before after : States) (deletes entered : Deletes)
    (changes : Changes)
    (x d : List ℕ) (date : ℤ) (was : Enters facts before after deletes entered x d date changed)
    (rows : IsListed facts before changes)
    (touches : (y : List ℕ) → list_any (bytes_eq y) changed ≡ true → AreAmong (concerned_by facts before y) concerned)
    (q : List ℕ) (out : list_any (bytes_eq q) concerned ≡ false) where
  says_same : (y : List ℕ) → says_genuine after y ≡ says_genuine before y
  says_same = genuine_kept beside_count before after was.kept (λ t. t.1) (λ row. refl)

  -- what touches q wasn't deleted, and doesn't stand again
  as_it_was : (y : List ℕ) → list_any (bytes_eq q) (concerned_by facts before y) ≡ true
      → row_deleted facts entered Always y ≡ row_deleted facts deletes Always y
  as_it_was y h = was.turns y ∙ by (list_any (bytes_eq y) changed) refl
    where
      by : (b : Bool) → list_any (bytes_eq y) changed ≡ b
          → cond b (not (row_deleted facts deletes Always y)) (row_deleted facts deletes Always y)
          ≡ row_deleted facts deletes Always y
      by true is = absurd (false≢true (sym out ∙ touches y is q h))
      by false is = refl

  unturned : IsUnconcerned facts facts before after deletes entered changes changes q
  unturned = record {
    permanode = ap (λ b. passes (λ (fact : Fact). is_permanode fact.kind) (get facts q) && b) (says_same q);
    deleted = λ says. as_it_was q (itself facts before q
        (and_parts (passes (λ (fact : Fact). is_permanode fact.kind) (get facts q)) (says_genuine before q) says).0);
    group = λ says k. refl;
    claims = λ says k there.
        let row = rows q k there in
        as_it_was k.1
        (ap (λ o. list_any (bytes_eq q) (fact_concerns before k.1 o)) row.found
        ∙ ap (λ kind. list_any (bytes_eq q) (kind_concerns before k.1 kind)) row.says
        ∙ claim_touches facts before k.1 row.genuine q row.signed k.0 row.what k.2 row.change row.place
        (ap (bytes_eq q) row.on ∙ (bytes_eq-Decides q q).1 refl));
  }

pub entering_concerns : EnteringConcerns
entering_concerns but concerned changed facts before after deletes entered changes holders x d date was rows among touches held =
    held_stays but concerned facts facts before after deletes entered changes changes holders held rows
    (record {
      within = λ r fact h. h;
      genuine =
          λ y h. genuine_kept beside_count before after was.kept (λ t. t.1) (λ row. refl) y ∙ h;
      rows = λ p k h. h;
    })
    (not_among but concerned among)
    (unturned concerned changed facts before after deletes entered changes x d date was rows touches)
