-- Marks: what is said of each ref of a list.
use Rattle.std.proofs.Common.{◌≡◌, ◌∙◌, ◌++◌, append-nil, Box, ◌&&◌, ◌||◌, ℕ, Bool, true, false, not, cond, List, [], ◌∷◌, map, zip, filter, Option, Some, None, refl, sym, ap, length, if◌then◌else◌}
use Rattle.std.specs.List.{list_all, list_any}
use Rattle.claim_verify.specs.Verifier.{Accepts}
use Rattle.schema_date.specs.declared.date.When.{When}
use Rattle.claim_model.specs.Facts.{Facts}
use Rattle.claim_model.specs.Claims.{values}
use Rattle.search_query.specs.declared.query.Op.{Op}
use Rattle.search_query.specs.declared.query.TextTest.{TextTest}
use Rattle.search_query.specs.declared.query.Constraint.{Constraint}
use Rattle.search_query.specs.Mirror.{Asked, TestLeaves}
use Rattle.search_query.specs.View.{asked_view, is_asked, view}
use Rattle.search_query.proofs.Layers.{asks}
use Rattle.std.proofs.lemmas.Option.{same_Some}
use Rattle.std.specs.declared.alloc.Global.{Global}
use Rattle.search_meets.specs.Computed.{is_candidate, set_refs, spread}
use Rattle.search_meets.specs.Meaning.{joins}
use Rattle.search_meets.specs.Tests.{int_meets}
use Rattle.search_meets.specs.Values.{each_or_any, is_in_set, is_live, is_ready_ref, live_meets, some_value, value_meets, where_asked}

-- ---- lists of marks

both : (op : Option Op) (f g : List ℕ → Bool) (rs : List (List ℕ)) → map (λ p. joins op p.0 p.1) (zip (map f rs) (map g rs)) ≡ map (λ r. joins op (f r) (g r)) rs
both op f g [] = refl
both op f g (r ∷ rs) = ap (λ bs. joins op (f r) (g r) ∷ bs) (both op f g rs)

-- marks of the same refs, joined
pub joined_both : (op : Option Op) (f g h : List ℕ → Bool) (rs : List (List ℕ)) (a b m : List Bool) → a ≡ map f rs → b ≡ map g rs
    → (λ r. joins op (f r) (g r)) ≡ h → m ≡ map (λ p. joins op p.0 p.1) (zip a b) → m ≡ map h rs
joined_both op f g h rs a b m a-is b-is same is = is ∙ (λ i. map (λ p. joins op p.0 p.1) (zip (a-is i) (b-is i))) ∙ both op f g rs ∙ ap (λ k. map k rs) same

-- the refs that a mark is true of
pub chosen_are : (f : List ℕ → Bool) (rs : List (List ℕ)) → map (λ (p : List ℕ × Bool). p.0) (filter (λ (p : List ℕ × Bool). p.1) (zip rs (map f rs))) ≡ filter f rs
chosen_are f [] = refl
chosen_are f (r ∷ rs) = by (f r) (chosen_are f rs)
  where
    rest : List (List ℕ × Bool)
    rest = filter (λ (p : List ℕ × Bool). p.1) (zip rs (map f rs))

    by : (b : Bool) → map (λ (p : List ℕ × Bool). p.0) rest ≡ filter f rs → map (λ (p : List ℕ × Bool). p.0) (cond b ((r, b) ∷ rest) rest) ≡ cond b (r ∷ filter f rs) (filter f rs)
    by true h = ap (λ zs. r ∷ zs) h
    by false h = h

spread_is : (f g : List ℕ → Bool) (rs : List (List ℕ)) → spread (map f rs) (map g (filter f rs)) ≡ map (λ r. f r && g r) rs
spread_is f g [] = refl
spread_is f g (r ∷ rs) = by (f r) (spread_is f g rs)
  where
    by : (b : Bool) → spread (map f rs) (map g (filter f rs)) ≡ map (λ x. f x && g x) rs
        → spread (b ∷ map f rs) (map g (cond b (r ∷ filter f rs) (filter f rs))) ≡ (b && g r) ∷ map (λ x. f x && g x) rs
    by true h = ap (λ zs. g r ∷ zs) h
    by false h = ap (λ zs. false ∷ zs) h

-- marks of the refs that an earlier mark is true of, put beside the earlier ones
pub spread_both : (f g h : List ℕ → Bool) (rs left : List (List ℕ)) (a all b m : List Bool) → a ≡ map f rs
    → left ≡ map (λ (p : List ℕ × Bool). p.0) (filter (λ (p : List ℕ × Bool). p.1) (zip rs a)) → b ≡ map g left → all ≡ map f rs → (λ r. f r && g r) ≡ h
    → m ≡ spread all b → m ≡ map h rs
spread_both f g h rs left a all b m a-is left-is b-is all-is same is =
    let left-are : left ≡ filter f rs = left-is ∙ ap (λ ms. map (λ (p : List ℕ × Bool). p.0) (filter (λ (p : List ℕ × Bool). p.1) (zip rs ms))) a-is ∙ chosen_are f rs in
    is ∙ (λ i. spread (all-is i) ((b-is ∙ ap (map g) left-are) i)) ∙ spread_is f g rs ∙ ap (λ k. map k rs) same

-- the refs that a mark is true of
pub chosen_right : (f : List ℕ → Bool) (rs m : List (List ℕ)) (a : List Bool) → a ≡ map f rs
    → m ≡ map (λ (p : List ℕ × Bool). p.0) (filter (λ (p : List ℕ × Bool). p.1) (zip rs a)) → m ≡ filter f rs
chosen_right f rs m a a-is is = is ∙ ap (λ ms. map (λ (p : List ℕ × Bool). p.0) (filter (λ (p : List ℕ × Bool). p.1) (zip rs ms))) a-is ∙ chosen_are f rs

-- ---- a set that a value is to be in

and_true : (b : Bool) → (b && true) ≡ b
and_true true = refl
and_true false = refl

and_false : (b : Bool) → (b && false) ≡ false
and_false true = refl
and_false false = refl

module _ (facts : Facts) (says : List ℕ → Bool) where
  any_candidate : (value : Option (List ℕ)) (matches : Option TextTest) (vs : List (List ℕ))
      → list_any says (filter (is_candidate facts value matches) vs) ≡ list_any (λ v. is_in_set facts (Some says) v && value_meets value matches v) vs
  any_candidate value matches [] = refl
  any_candidate value matches (v ∷ vs) = by (value_meets value matches v) (is_ready_ref facts v) (any_candidate value matches vs)
    where
      rest : List (List ℕ)
      rest = filter (is_candidate facts value matches) vs

      more : Bool
      more = list_any (λ w. is_in_set facts (Some says) w && value_meets value matches w) vs

      by : (a b : Bool) → list_any says rest ≡ more → list_any says (cond (a && b) (v ∷ rest) rest) ≡ (((b && says v) && a) || more)
      by true true h = ap (λ m. says v || m) h ∙ ap (λ b. b || more) (sym (and_true (says v)))
      by true false h = h
      by false true h = h ∙ ap (λ b. b || more) (sym (and_false (says v)))
      by false false h = h

  module _ (accepts : Accepts) (leaves : TestLeaves) (when : When) (name : List ℕ) where
    one_set : (r : List ℕ) → each_or_any false says (set_refs facts accepts leaves when name r) ≡ live_meets facts accepts leaves (Some says) when (Some name) r
    unfolding set_refs
    one_set r = by (is_live facts accepts when r) (int_meets leaves.num_value (length vs))
      where
        vs : List (List ℕ)
        vs = values facts accepts when r name

        kept : List (List ℕ)
        kept = filter (is_candidate facts leaves.value leaves.value_matches) vs

        by : (a b : Bool) → list_any says (if a then (if b then kept else []) else []) ≡ (a && (some_value facts leaves (Some says) vs && b))
        by true true = any_candidate leaves.value leaves.value_matches vs ∙ sym (and_true (some_value facts leaves (Some says) vs))
        by true false = sym (and_false (some_value facts leaves (Some says) vs))
        by false b = refl

    pub set_marked : (rs : List (List ℕ)) → map (each_or_any false says) (map (set_refs facts accepts leaves when name) rs) ≡ map (live_meets facts accepts leaves (Some says) when (Some name)) rs
    set_marked [] = refl
    set_marked (r ∷ rs) = λ i. one_set r i ∷ set_marked rs i

pub mapped : (f : List (List ℕ) → Bool) (g : List ℕ → List (List ℕ)) (rs : List (List ℕ)) → map f (map g rs) ≡ map (λ r. f (g r)) rs
mapped f g [] = refl
mapped f g (r ∷ rs) = ap (λ zs. f (g r) ∷ zs) (mapped f g rs)

-- one of the refs decides, or leaves it to the others
pub each_goes_on : (each : Bool) (f : List ℕ → Bool) (r : List ℕ) (rs : List (List ℕ)) → f r ≡ each → each_or_any each f (r ∷ rs) ≡ each_or_any each f rs
each_goes_on true f r rs e = ap (λ b. b && list_all f rs) e
each_goes_on false f r rs e = ap (λ b. b || list_any f rs) e

pub each_ends : (each : Bool) (f : List ℕ → Bool) (r : List ℕ) (rs : List (List ℕ)) → f r ≡ not each → each_or_any each f (r ∷ rs) ≡ not each
each_ends true f r rs e = ap (λ b. b && list_all f rs) e
each_ends false f r rs e = ap (λ b. b || list_any f rs) e

-- ---- a set that may not be asked

pub where_none : (set : Option (Box Constraint Global)) (says : Asked → List ℕ → Bool) → set ≡ None → None ≡ where_asked (is_asked (asked_view set)) (says (asked_view set))
where_none set says e = λ i. where_asked (is_asked (asked_view (sym e i))) (says (asked_view (sym e i)))

pub where_some : (set : Option (Box Constraint Global)) (c : Box Constraint Global) (says : Asked → List ℕ → Bool) → set ≡ Some c
    → Some (says (view c.value)) ≡ where_asked (is_asked (asked_view set)) (says (asked_view set))
where_some set c says e = (λ i. where_asked (sym (asks (Some c)) i) (says (view c.value))) ∙ (λ i. where_asked (is_asked (asked_view (sym e i))) (says (asked_view (sym e i))))

-- ---- a ref that is kept if it passes

pub some_kept : (b : Bool) (v r : List ℕ) (kept now : List (List ℕ)) → Some r ≡ (if b then Some v else None) → now ≡ kept ++ r ∷ [] → now ≡ kept ++ cond b (v ∷ []) []
some_kept true v r kept now e is = is ∙ ap (λ x. kept ++ x ∷ []) (same_Some r v e)
some_kept false v r kept now e is = absurd (let f : Some r ≡ None = e in cc f)

pub none_kept : (b : Bool) (v : List ℕ) (kept : List (List ℕ)) → None ≡ (if b then Some v else None) → kept ≡ kept ++ cond b (v ∷ []) []
none_kept true v kept e = absurd (let f : None ≡ Some v = e in cc f)
none_kept false v kept e = sym (append-nil kept)
