-- What is added to the work for one ref that was judged.
use Rattle.std.proofs.Common.{◌≡◌, ◌≤◌, ◌<◌, ◌+◌, ℕ, Bool, true, false, ◌||◌, cond, List, [], ◌∷◌, ◌++◌, length, map, flat_map, take, get_or, add-one, Option, None, Some, refl, sym, ap, subst, ◌∙◌, ◌⊎◌, inl, inr, arith}
use Rattle.std.proofs.lemmas.Bool.{false≢true}
use Rattle.std.proofs.lemmas.Slice.Eq.{bytes_eq-Decides}
use Rattle.std.specs.List.{list_any, sum_by}
use Rattle.std.specs.Str.{bytes_eq}
use Rattle.std.specs.FinMap.{get}
use Rattle.schema_fact.specs.Changes.{changes_of}
use Rattle.schema_fact.specs.declared.kinds.Fact.{Fact}
use Rattle.schema_fact.specs.declared.kinds.What.{What}
use Rattle.schema_fact.specs.declared.kinds.Kind.{Kind}
use Rattle.schema_fact.specs.declared.kinds.Kind.TheVariants.{Plain, Key, File, Bytes, Directory, StaticSet, Permanode, Claim, Unread}
use Rattle.claim_verify.specs.Verifier.{Accepts}
use Rattle.claim_model.specs.Facts.{Facts, passes}
use Rattle.claim_model.specs.Genuine.{is_signed}
use Rattle.index_look.proofs.Texts.{take_one}
use Rattle.index_rows.specs.States.{States, says_genuine}
use Rattle.index_rows.specs.Touched.{fact_changes}
use Rattle.index_meaning.specs.Touching.{changes_concern, kind_concerns, fact_concerns, concerned_by}
use Rattle.claim_index.specs.declared.judging.Judged.{Judged}
use Rattle.claim_index.specs.declared.judging.Judged.TheVariants as judged
use Rattle.claim_index.specs.Judging.{kind_judged, fact_judged, judged_in, is_signed_at}
use Rattle.claim_index.specs.Costs.{changed_where, may_concern, look_steps, AddsFor}
use Rattle.claim_index.proofs.LoopTicks.{or_cases, left, right, in_either, in_first, in_second, adds_then, sum_next, sum_upto}
use Rattle.claim_index.proofs.Members.{among_all}

-- whom one ref concerns: itself, or what it changes
abbrev pub OneOf : List ℕ → List (List ℕ) → List (List ℕ) → Type 0
OneOf x changed cs = (p : List ℕ) → list_any (bytes_eq p) cs ≡ true → (list_any (bytes_eq p) (x ∷ []) || list_any (bytes_eq p) changed) ≡ true

module _ (state : States) (x : List ℕ) (test : Bool) (says : says_genuine state x ≡ true → test ≡ true) where
  of_what : (what : What) → OneOf x (cond test (map (λ change. change.on) (changes_of what)) []) (changes_concern state x what)
  of_what what = by (says_genuine state x) says
    where
      by : (b : Bool) → (b ≡ true → test ≡ true) → (p : List ℕ) → list_any (bytes_eq p) (cond b (map (λ change. change.on) (changes_of what)) []) ≡ true
          → (list_any (bytes_eq p) (x ∷ []) || list_any (bytes_eq p) (cond test (map (λ change. change.on) (changes_of what)) [])) ≡ true
      by true h p t = right (list_any (bytes_eq p) (x ∷ [])) (ap (λ b. list_any (bytes_eq p) (cond b (map (λ change. change.on) (changes_of what)) [])) (h refl) ∙ t)
      by false h p t = absurd (false≢true t)

  pub of_fact : (o : Option Fact) → OneOf x (cond test (map (λ change. change.on) (fact_changes o)) []) (fact_concerns state x o)
  of_fact None = λ p t. absurd (false≢true t)
  of_fact (Some fact) = of_kind fact.kind
    where
      of_kind : (kind : Kind) → OneOf x (cond test (map (λ change. change.on) (fact_changes (Some (record { size = fact.size; kind = kind })))) []) (kind_concerns state x kind)
      of_kind Plain = λ p t. absurd (false≢true t)
      of_kind (Key name) = λ p t. absurd (false≢true t)
      of_kind (File name parts) = λ p t. absurd (false≢true t)
      of_kind (Bytes parts) = λ p t. absurd (false≢true t)
      of_kind (Directory name listing) = λ p t. absurd (false≢true t)
      of_kind (StaticSet members) = λ p t. absurd (false≢true t)
      of_kind (Permanode signed) = λ p t. left _ t
      of_kind (Claim signed date what) = of_what what
      of_kind (Unread name) = λ p t. absurd (false≢true t)

-- what a ref concerns may be concerned
pub one_concerns : (facts : Facts) (test : List ℕ → Bool) (state : States) (x : List ℕ) → (says_genuine state x ≡ true → test x ≡ true) → (p : List ℕ)
    → list_any (bytes_eq p) (concerned_by facts state x) ≡ true → list_any (bytes_eq p) (may_concern facts test (x ∷ [])) ≡ true
one_concerns facts test state x says p t = by (or_cases _ _ (of_fact state x (test x) says (get facts x) p t))
  where
    by : (list_any (bytes_eq p) (x ∷ []) ≡ true) ⊎ (list_any (bytes_eq p) (changed_where facts test x) ≡ true) → list_any (bytes_eq p) (may_concern facts test (x ∷ [])) ≡ true
    by (inl u) = in_first p (x ∷ []) (flat_map (changed_where facts test) (x ∷ [])) u
    by (inr u) = in_second p (x ∷ []) (flat_map (changed_where facts test) (x ∷ [])) (in_first p (changed_where facts test x) [] u)

-- what is something to an index is signed
pub judged_signed : (facts : Facts) (accepts : Accepts) (x : List ℕ) (j : Judged) → j ≡ judged_in facts accepts x → (j ≡ judged.Permanode) ⊎ (j ≡ judged.Changes) → is_signed_at facts accepts x ≡ true
judged_signed facts accepts x j is some = by (get facts x) is
  where
    something : j ≡ judged.Nothing → ⊥
    something e = go some
      where
        go : (j ≡ judged.Permanode) ⊎ (j ≡ judged.Changes) → ⊥
        go (inl s) = let d : judged.Permanode ≡ judged.Nothing = sym s ∙ e in cc d
        go (inr s) = let d : judged.Changes ≡ judged.Nothing = sym s ∙ e in cc d

    by : (o : Option Fact) → j ≡ fact_judged facts accepts o → passes (is_signed facts accepts) o ≡ true
    by None e = absurd (something e)
    by (Some fact) e = go (is_signed facts accepts fact) e
      where
        go : (b : Bool) → j ≡ cond b (kind_judged fact.kind) judged.Nothing → b ≡ true
        go true h = refl
        go false h = absurd (something h)

module _ (facts : Facts) (accepts : Accepts) (x : List ℕ) (ds cs : List (List ℕ)) where
  pub adds_nothing : AddsFor facts accepts (x ∷ []) ds ds cs cs
  adds_nothing = record { deletes = λ d t. left _ t; concerned = λ p t. left _ t }

  pub adds_delete : (ds' : List (List ℕ)) → ds' ≡ ds ++ x ∷ [] → AddsFor facts accepts (x ∷ []) ds ds' cs cs
  adds_delete ds' is = record {
    deletes = λ d t. by d (in_either d ds (x ∷ []) (ap (list_any (bytes_eq d)) (sym is) ∙ t));
    concerned = λ p t. left _ t;
  }
    where
      by : (d : List ℕ) → (list_any (bytes_eq d) ds ≡ true) ⊎ (list_any (bytes_eq d) (x ∷ []) ≡ true) → (list_any (bytes_eq d) ds || list_any (bytes_eq d) (x ∷ [])) ≡ true
      by d (inl e) = left _ e
      by d (inr e) = right (list_any (bytes_eq d) ds) e

  pub adds_concerned : is_signed_at facts accepts x ≡ true → (now : Facts) (state : States) (cs' : List (List ℕ)) → now ≡ facts → cs' ≡ cs ++ concerned_by now state x
      → AddsFor facts accepts (x ∷ []) ds ds cs cs'
  adds_concerned signed now state cs' same is = record {
    deletes = λ d t. left _ t;
    concerned = λ p t. by p (in_either p cs (concerned_by facts state x) (ap (list_any (bytes_eq p)) (sym whole) ∙ t));
  }
    where
      whole : cs' ≡ cs ++ concerned_by facts state x
      whole = is ∙ ap (λ (f : Facts). cs ++ concerned_by f state x) same

      by : (p : List ℕ) → (list_any (bytes_eq p) cs ≡ true) ⊎ (list_any (bytes_eq p) (concerned_by facts state x) ≡ true)
          → (list_any (bytes_eq p) cs || list_any (bytes_eq p) (may_concern facts (is_signed_at facts accepts) (x ∷ []))) ≡ true
      by p (inl e) = left _ e
      by p (inr e) = right (list_any (bytes_eq p) cs) (one_concerns facts (is_signed_at facts accepts) state x (λ t. signed) p e)

pub all_map : (p : List ℕ) (f : List ℕ → List (List ℕ)) (xs ys : List (List ℕ)) → ((y : List ℕ) → list_any (bytes_eq y) xs ≡ true → list_any (bytes_eq y) ys ≡ true)
    → list_any (bytes_eq p) (flat_map f xs) ≡ true → list_any (bytes_eq p) (flat_map f ys) ≡ true
all_map p f [] ys h t = absurd (false≢true t)
all_map p f (x ∷ xs) ys h t = go (all_map p f xs ys (λ y u. h y (right (bytes_eq y x) u))) (in_either p (f x) (flat_map f xs) t)
  where
    go : (list_any (bytes_eq p) (flat_map f xs) ≡ true → list_any (bytes_eq p) (flat_map f ys) ≡ true)
        → (list_any (bytes_eq p) (f x) ≡ true) ⊎ (list_any (bytes_eq p) (flat_map f xs) ≡ true) → list_any (bytes_eq p) (flat_map f ys) ≡ true
    go later (inl e) = among_all f p x ys (h x (left (list_any (bytes_eq x) xs) ((bytes_eq-Decides x x).1 refl))) e
    go later (inr e) = later e

pub fits_in : (facts : Facts) (accepts : Accepts) (order wider ds ds' cs cs' : List (List ℕ)) → ((y : List ℕ) → list_any (bytes_eq y) order ≡ true → list_any (bytes_eq y) wider ≡ true)
    → AddsFor facts accepts order ds ds' cs cs' → AddsFor facts accepts wider ds ds' cs cs'
fits_in facts accepts order wider ds ds' cs cs' more is = record {
  deletes = λ d t. first d (or_cases _ _ (is.deletes d t));
  concerned = λ p t. second p (or_cases _ _ (is.concerned p t));
}
  where
    first : (d : List ℕ) → (list_any (bytes_eq d) ds ≡ true) ⊎ (list_any (bytes_eq d) order ≡ true) → (list_any (bytes_eq d) ds || list_any (bytes_eq d) wider) ≡ true
    first d (inl e) = left _ e
    first d (inr e) = right (list_any (bytes_eq d) ds) (more d e)

    second : (p : List ℕ) → (list_any (bytes_eq p) cs ≡ true) ⊎ (list_any (bytes_eq p) (may_concern facts (is_signed_at facts accepts) order) ≡ true)
        → (list_any (bytes_eq p) cs || list_any (bytes_eq p) (may_concern facts (is_signed_at facts accepts) wider)) ≡ true
    second p (inl e) = left _ e
    second p (inr e) = right (list_any (bytes_eq p) cs) (go (in_either p order (flat_map (changed_where facts (is_signed_at facts accepts)) order) e))
      where
        go : (list_any (bytes_eq p) order ≡ true) ⊎ (list_any (bytes_eq p) (flat_map (changed_where facts (is_signed_at facts accepts)) order) ≡ true)
            → list_any (bytes_eq p) (may_concern facts (is_signed_at facts accepts) wider) ≡ true
        go (inl u) = in_first p wider (flat_map (changed_where facts (is_signed_at facts accepts)) wider) (more p u)
        go (inr u) = in_second p wider (flat_map (changed_where facts (is_signed_at facts accepts)) wider) (all_map p (changed_where facts (is_signed_at facts accepts)) order wider more u)

-- refs that are judged one after another
module _ (at facts : Facts) (same : at ≡ facts) (accepts : Accepts) (order : List (List ℕ)) (i : ℕ) (x : List ℕ) (within : i < length order) (is : x ≡ get_or order i x) where
  pub judged_adds : (ds ds1 ds2 cs cs1 cs2 : List (List ℕ)) → AddsFor facts accepts (take i order) ds ds1 cs cs1 → AddsFor at accepts (x ∷ []) ds1 ds2 cs1 cs2
      → AddsFor facts accepts (take (i + 1) order) ds ds2 cs cs2
  judged_adds ds ds1 ds2 cs cs1 cs2 a b =
      subst (λ (xs : List (List ℕ)). AddsFor facts accepts xs ds ds2 cs cs2) (sym (ap (λ n. take n order) (add-one i) ∙ take_one order i x within is))
      (adds_then facts accepts (take i order) (x ∷ []) ds ds1 ds2 cs cs1 cs2 a (subst (λ (f : Facts). AddsFor f accepts (x ∷ []) ds1 ds2 cs1 cs2) same b))

  as_many : look_steps at accepts x ≡ look_steps facts accepts x
  as_many = ap (λ (f : Facts). look_steps f accepts x) same

  pub judged_ticks : (first now next : ℕ) → now ≤ first + sum_by (look_steps facts accepts) (take i order) → next ≤ now + look_steps at accepts x
      → next ≤ first + sum_by (look_steps facts accepts) (take (i + 1) order)
  judged_ticks first now next had step = let n = sum_next (look_steps facts accepts) order i x within is in let s = as_many in omega (arith, had, step, n, s)

  pub judged_upto : (first now next : ℕ) → now ≤ first + sum_by (look_steps facts accepts) (take i order) → next ≤ now + look_steps at accepts x
      → next ≤ first + sum_by (look_steps facts accepts) order
  judged_upto first now next had step = let n = sum_upto (look_steps facts accepts) order i x within is in let s = as_many in omega (arith, had, step, n, s)
