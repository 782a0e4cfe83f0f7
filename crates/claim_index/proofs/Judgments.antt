-- A judgment is right where what the ref depends on was judged.
use Rattle.std.proofs.Common.{◌≡◌, ℕ, ◌+◌, Bool, true, false, ◌&&◌, ◌||◌, not, cond, List, [], ◌∷◌, Option, Some, None}
use Rattle.std.proofs.Common.{nat_le, is_some, refl, sym, ap, ◌∙◌, ◌⊎◌, inl, inr}
use Rattle.std.proofs.lemmas.Bool.{cases_Bool, false≢true, and_parts}
use Rattle.std.proofs.lemmas.Option.{same_Some}
use Rattle.std.proofs.lemmas.Slice.Eq.{bytes_eq-Decides}
use Rattle.std.specs.List.{list_all, list_any, cons_option, AllByRecursion}
use Rattle.std.specs.Str.{bytes_eq}
use Rattle.std.specs.FinMap.{get, contains_key}
use Rattle.claim_verify.specs.Verifier.{Accepts}
use Rattle.schema_fact.specs.declared.kinds.Fact.{Fact}
use Rattle.schema_fact.specs.declared.kinds.Kind.{Kind}
use Rattle.schema_fact.specs.declared.kinds.Kind.TheVariants.{Plain, Key, File, Bytes, Directory, StaticSet, Permanode}
use Rattle.schema_fact.specs.declared.kinds.Kind.TheVariants.{Claim, Unread}
use Rattle.schema_fact.specs.declared.parts.Part.{Part}
use Rattle.schema_fact.specs.declared.parts.Origin.{Origin}
use Rattle.schema_fact.specs.declared.parts.Origin.TheVariants.{Zeros, Blob, Tree}
use Rattle.schema_fact.specs.Dependencies.{dependencies, kind_dependencies, origin_ref, part_refs}
use Rattle.claim_model.specs.Facts.{Facts, passes}
use Rattle.claim_model.specs.Ready.{is_ready}
use Rattle.claim_model.specs.Genuine.{is_genuine}
use Rattle.claim_model.specs.Trees.{tree_parts, tree_size, origin_holds, part_fits, parts_fit, is_sound_tree}
use Rattle.claim_model.proofs.Rounds.{ready_is_settled}
use Rattle.claim_model.proofs.Least.{ready_grows}
use Rattle.claim_model.proofs.Stays.{genuine_stays, soundness_stays}
use Rattle.claim_model.proofs.Soundness.{soundness_is_settled}
use Rattle.index_rows.specs.declared.rows.StateRow.{StateRow}
use Rattle.index_rows.specs.Changes.{Changes}
use Rattle.index_rows.specs.States.{States}
use Rattle.index_meaning.specs.Meaning.{is_change_on, genuine_change, IsJudged, IsChangesOf}
use Rattle.row_answers.specs.Told.{says_sound}
use Rattle.claim_index.specs.Judging.{with_marks, marked, is_signed_at, fits_at, IsMarked, IsChanged, CanJudge}

-- tests that agree on what a fact depends on
module _ (facts : Facts) (p q : List ℕ → Bool) where
  abbrev Agree : List (List ℕ) → Type 0
  Agree rs = AllByRecursion (λ r. p r ≡ q r) rs

  origin_same : (end : ℕ) (origin : Origin) (rs : List (List ℕ)) → Agree (cons_option (origin_ref origin) rs)
      → origin_holds facts p end origin ≡ origin_holds facts q end origin
  origin_same end Zeros rs h = refl
  origin_same end (Blob r) rs h = refl
  origin_same end (Tree r) rs h = λ i. h.0 i && passes (nat_le end) (tree_size facts r)

  rest_agree : (o : Option (List ℕ)) (rs : List (List ℕ)) → Agree (cons_option o rs) → Agree rs
  rest_agree None rs h = h
  rest_agree (Some r) rs h = h.1

  parts_same : (parts : List Part) → Agree (part_refs parts)
      → list_all (part_fits facts p) parts ≡ list_all (part_fits facts q) parts
  parts_same [] h = refl
  parts_same (part ∷ parts) h = λ i.
      origin_same (part.offset + part.size) part.origin (part_refs parts) h i
      && parts_same parts (rest_agree (origin_ref part.origin) (part_refs parts) h) i

  kind_same : (kind : Kind) → Agree (kind_dependencies kind)
      → passes (list_all (part_fits facts p)) (tree_parts kind)
      ≡ passes (list_all (part_fits facts q)) (tree_parts kind)
  kind_same Plain h = refl
  kind_same (Key name) h = refl
  kind_same (File name parts) h = parts_same parts h
  kind_same (Bytes parts) h = parts_same parts h
  kind_same (Directory name listing) h = refl
  kind_same (StaticSet members) h = refl
  kind_same (Permanode signed) h = refl
  kind_same (Claim signed date what) h = refl
  kind_same (Unread name) h = refl

  agree_from : (test other : List ℕ → Bool) → ((r : List ℕ) → test r ≡ true → other r ≡ true → p r ≡ q r)
      → (rs : List (List ℕ)) → list_all test rs ≡ true → list_all other rs ≡ true → Agree rs
  agree_from test other f [] h o = tt
  agree_from test other f (r ∷ rs) h o =
      let now = and_parts (test r) (list_all test rs) h in
      let too = and_parts (other r) (list_all other rs) o in
      (f r now.0 too.0, agree_from test other f rs now.1 too.1)

pub has_fact : (facts : Facts) (r : List ℕ) → is_ready facts r ≡ true
    → (fact : Fact) × (get facts r ≡ Some fact) × (list_all (is_ready facts) (dependencies fact) ≡ true)
has_fact facts r h = by (get facts r) refl (sym (ready_is_settled facts r) ∙ h)
  where
    by : (o : Option Fact) → get facts r ≡ o
        → passes (λ fact. list_all (is_ready facts) (dependencies fact)) (get facts r) ≡ true
        → (fact : Fact) × (get facts r ≡ Some fact) × (list_all (is_ready facts) (dependencies fact) ≡ true)
    by None is t = absurd
        (false≢true (sym (ap (passes (λ (fact : Fact). list_all (is_ready facts) (dependencies fact))) is) ∙ t))
    by (Some fact) is t =
        (fact, is, sym (ap (passes (λ (fact : Fact). list_all (is_ready facts) (dependencies fact))) is) ∙ t)

and_true : (b : Bool) → (b && true) ≡ b
and_true true = refl
and_true false = refl

and_false : (b : Bool) → (b && false) ≡ false
and_false true = refl
and_false false = refl

or_false : (b : Bool) → (b || false) ≡ b
or_false true = refl
or_false false = refl

module _ (facts more : Facts) (accepts : Accepts) (state : States) (left : List (List ℕ)) (x : List ℕ)
    (can : CanJudge facts more state left x) where
  abbrev is_left : List ℕ → Bool
  is_left y = list_any (bytes_eq y) left

  ready_more : is_ready more x ≡ true
  ready_more = ready_grows facts more can.within x can.ready

  -- what is signed is genuine
  pub signed_is : is_signed_at more accepts x ≡ is_genuine facts accepts x
  signed_is = sym (ap (λ b. b && is_signed_at more accepts x) ready_more)
      ∙ genuine_stays facts more accepts can.within x can.ready

  -- what the rows say of the trees within
  sound_said : IsJudged facts accepts (x ∷ left) state → (d : List ℕ) → is_ready facts d ≡ true
      → not (list_any (bytes_eq d) (x ∷ left)) ≡ true → says_sound state d ≡ is_sound_tree more d
  sound_said judged d ready behind = by (get state d) refl (can.known d (ap is_some (has_fact facts d ready).1))
    where
      by : (o : Option StateRow) → get state d ≡ o → is_some (get state d) ≡ true
          → says_sound state d ≡ is_sound_tree more d
      by None is t = absurd (false≢true (sym (ap is_some is) ∙ t))
      by (Some row) is t =
          ap (passes (λ (r : StateRow). r.sound)) is ∙ judged.sound d row is
          ∙ ap (λ b. is_sound_tree facts d && b) behind ∙ and_true (is_sound_tree facts d)
          ∙ sym (soundness_stays facts more can.within d ready)

  -- what fits is sound
  fits_is : IsJudged facts accepts (x ∷ left) state → fits_at more state x ≡ is_sound_tree facts x
  fits_is judged =
      let own = has_fact facts x can.ready in
      let held : get more x ≡ Some own.0 = can.within x own.0 own.1 in
      let behind : list_all (λ d. not (list_any (bytes_eq d) (x ∷ left))) (dependencies own.0) ≡ true
      = sym (ap
      (passes (λ (fact : Fact). list_all (λ d. not (list_any (bytes_eq d) (x ∷ left))) (dependencies fact))) own.1)
      ∙ can.before in
      let agree = agree_from more (says_sound state) (is_sound_tree more) (is_ready facts)
      (λ d. not (list_any (bytes_eq d) (x ∷ left))) (sound_said judged) (dependencies own.0) own.2 behind in
      ap (passes (parts_fit more (says_sound state))) held
      ∙ kind_same more (says_sound state) (is_sound_tree more) own.0.kind agree
      ∙ sym (soundness_is_settled more x ∙ (λ i. ready_more i && passes (parts_fit more (is_sound_tree more)) (held i)))
      ∙ soundness_stays facts more can.within x can.ready

  -- a row of another ref, and that of x
  apart : (test : Bool) (y : List ℕ) → bytes_eq y x ≡ false
      → (test && not (list_any (bytes_eq y) (x ∷ left))) ≡ (test && not (is_left y))
  apart test y f = ap (λ b. test && not (b || is_left y)) f

  still : (test : Bool) (y : List ℕ) → bytes_eq y x ≡ true → (test && not (list_any (bytes_eq y) (x ∷ left))) ≡ false
  still test y t = ap (λ b. test && not (b || is_left y)) t ∙ and_false test

  not_left : (y : List ℕ) → bytes_eq y x ≡ true → not (is_left y) ≡ true
  not_left y t = ap (λ z. not (is_left z)) ((bytes_eq-Decides y x).0 t) ∙ ap not can.once

  pub judged_after : (after : States) → IsMarked more accepts state after x → IsJudged facts accepts (x ∷ left) state
      → IsJudged facts accepts left after
  judged_after after is judged = record { genuine = λ y row h. (told y row h).0; sound = λ y row h. (told y row h).1 }
    where
      IsTold : List ℕ → StateRow → Type 0
      IsTold y row = (row.genuine ≡ (is_genuine facts accepts y && not (is_left y))) × (row.sound
          ≡ (is_sound_tree facts y && not (is_left y)))

      -- what was found of x, as it is told of y
      here : (test : List ℕ → Bool) (y : List ℕ) (b : Bool) → bytes_eq y x ≡ true → b ≡ test x
          → (test y && not (is_left y)) ≡ b
      here test y b t h = (λ i. (ap test ((bytes_eq-Decides y x).0 t) ∙ sym h) i && not_left y t i) ∙ and_true b

      own : (y : List ℕ) → bytes_eq y x ≡ true → (row was : StateRow) → get state y ≡ Some was → (g s : Bool)
          → g ≡ is_genuine facts accepts x → s ≡ is_sound_tree facts x
          → Some row ≡ cond (g || s) (Some (with_marks g s was)) (Some was) → IsTold y row
      own y t row was had true s gs ss e = (
        ap (λ (r : StateRow). r.genuine) (same_Some row _ e)
            ∙ sym (here (is_genuine facts accepts) y true t gs),
        ap (λ (r : StateRow). r.sound) (same_Some row _ e)
            ∙ sym (here (is_sound_tree facts) y s t ss),
      )
      own y t row was had false true gs ss e = (
        ap (λ (r : StateRow). r.genuine) (same_Some row _ e)
            ∙ sym (here (is_genuine facts accepts) y false t gs),
        ap (λ (r : StateRow). r.sound) (same_Some row _ e)
            ∙ sym (here (is_sound_tree facts) y true t ss),
      )
      own y t row was had false false gs ss e = (
        ap (λ (r : StateRow). r.genuine) (same_Some row _ e) ∙ judged.genuine y was had
            ∙ still (is_genuine facts accepts y) y t ∙ sym (here (is_genuine facts accepts) y false t gs),
        ap (λ (r : StateRow). r.sound) (same_Some row _ e) ∙ judged.sound y was had ∙ still (is_sound_tree facts y) y t
            ∙ sym (here (is_sound_tree facts) y false t ss),
      )

      told : (y : List ℕ) (row : StateRow) → get after y ≡ Some row → IsTold y row
      told y row h = by (cases_Bool (bytes_eq y x))
        where
          by : (bytes_eq y x ≡ true) ⊎ (bytes_eq y x ≡ false) → IsTold y row
          by (inr f) =
              let had : get state y
              ≡ Some row = sym (is y
              ∙ ap (λ b. marked b (is_signed_at more accepts x) (fits_at more state x) (get state y)) f) ∙ h in (
                judged.genuine y row had ∙ apart (is_genuine facts accepts y) y f,
                judged.sound y row had
                    ∙ apart (is_sound_tree facts y) y f,
              )
          by (inl t) = at (get state y) refl
            where
              found : (o : Option StateRow) → get state y ≡ o
                  → Some row ≡ marked true (is_signed_at more accepts x) (fits_at more state x) o
              found o had = sym h ∙ is y
                  ∙ (λ i. marked (t i) (is_signed_at more accepts x) (fits_at more state x) (had i))

              no_row : (b : Bool) → Some row ≡ cond b None None → ⊥
              no_row true e = let d : Some row ≡ None = e in cc d
              no_row false e = let d : Some row ≡ None = e in cc d

              at : (o : Option StateRow) → get state y ≡ o → IsTold y row
              at None had = absurd (no_row (is_signed_at more accepts x || fits_at more state x) (found None had))
              at (Some was) had = own y t row was had (is_signed_at more accepts x) (fits_at more state x) signed_is
                  (fits_is judged) (found (Some was) had)

  pub changed_after : (before after : Changes) → IsChanged more accepts before after x
      → IsChangesOf facts accepts (x ∷ left) before → IsChangesOf facts accepts left after
  changed_after before after is changed p k = is p k ∙ by (cases_Bool (bytes_eq k.1 x))
    where
      change_in : Option Fact → Bool
      change_in found = passes (λ (fact : Fact). is_change_on p k fact.kind) found

      by : (bytes_eq k.1 x ≡ true) ⊎ (bytes_eq k.1 x ≡ false)
          → (contains_key before (p, k) || (bytes_eq k.1 x && (is_signed_at more accepts x && change_in (get more x))))
          ≡ (genuine_change facts accepts p k && not (list_any (bytes_eq k.1) left))
      by (inl t) =
          let own = has_fact facts x can.ready in
          let same : get more x ≡ get facts k.1 = can.within x own.0 own.1
          ∙ sym (ap (get facts) ((bytes_eq-Decides k.1 x).0 t) ∙ own.1) in
          (λ i. (changed p k ∙ still (genuine_change facts accepts p k) k.1 t) i
          || (t i && ((signed_is ∙ sym (ap (is_genuine facts accepts) ((bytes_eq-Decides k.1 x).0 t))) i
          && change_in (same i))))
          ∙ sym ((λ i. genuine_change facts accepts p k && not_left k.1 t i)
          ∙ and_true (genuine_change facts accepts p k))
      by (inr f) =
          ap (λ b. contains_key before (p, k) || (b && (is_signed_at more accepts x && change_in (get more x)))) f
          ∙ or_false (contains_key before (p, k))
          ∙ changed p k ∙ apart (genuine_change facts accepts p k) k.1 f
