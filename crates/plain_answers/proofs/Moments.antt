-- The moments of counted claims, by a walk over all facts.
use Rattle.std.proofs.Common.{◌≡◌, ℕ, ◌&&◌, Bool, true, false, not, cond, List, [], ◌∷◌, ◌++◌, filter, Option, Some, None, refl, sym, ap, ◌∙◌, append_assoc, option_map, option_and_then, inl, inr, ◌⊎◌}
use Rattle.blobref.specs.Blobref.{is_after}
use Rattle.std.specs.Prelude.{option_to_list}
use Rattle.std.specs.List.{find, filter_map, cons_option}
use Rattle.std.specs.Map.{keys_of}
use Rattle.std.specs.Ordering.{is_lt}
use Rattle.std.specs.FinMap.{entries, keys}
use Rattle.std.proofs.lemmas.Bool.{cases_Bool, cond-true, cond-false}
use Rattle.claim_verify.specs.Verifier.{Accepts}
use Rattle.schema_date.specs.declared.date.When.{When}
use Rattle.schema_fact.specs.declared.kinds.What.{What}
use Rattle.claim_model.specs.Facts.{Facts, Entry}
use Rattle.claim_model.specs.Claims.{stands_at, has_value}
use Rattle.claim_model.specs.ByClaim.{claim_moment_cmp, claim_on}
use Rattle.claim_model.specs.Deleted.{is_deleted, live_permanodes}
use Rattle.claim_model.specs.Genuine.{is_genuine_permanode}
use Rattle.index_look.specs.Claims.{claims_about, standing_moment, is_holder}
use Rattle.index_look.specs.Latest.{later, later_of, latest}
use Rattle.index_look.proofs.Counting.{Moment, listed, moment, moments_are, filter_map-cond}
use Rattle.claim_model.proofs.ByClaim.{claim_moment_total}
use Rattle.index_look.proofs.Order.{less_too, is_Less}
use Rattle.index_look.proofs.Texts.{filter-twice}

module _ (facts : Facts) (accepts : Accepts) (when : When) (p : List ℕ) where
  abbrev pub standing : Entry → Option Moment
  standing = standing_moment facts accepts when p

  one : (b : Bool) (m : Option (Moment × What)) (tail : List (Moment × What)) (ms : List Moment) → keys_of tail ≡ ms
      → keys_of (cond b (cons_option m tail) tail) ≡ cons_option (option_and_then (λ (k : Moment). cond b (Some k) None) (option_map (λ (c : Moment × What). c.0) m)) ms
  one true None tail ms h = h
  one true (Some x) tail ms h = λ i. x.0 ∷ h i
  one false None tail ms h = h
  one false (Some x) tail ms h = h

  standing_listed : (es : List Entry) → keys_of (listed facts accepts when p es) ≡ filter_map standing es
  standing_listed [] = refl
  standing_listed (e ∷ es) =
      ap keys_of (filter_map-cond (λ (f : Entry). claim_on p when f.0 f.1.kind) (stands_at facts accepts when e.0) e (filter (λ (f : Entry). stands_at facts accepts when f.0) es))
      ∙ one (stands_at facts accepts when e.0) (claim_on p when e.0 e.1.kind) (listed facts accepts when p es) (filter_map standing es) (standing_listed es)

  -- a walk over all facts comes to the same moments as the claims on p
  pub standing_are : filter_map standing (entries facts) ≡ filter_map (moment facts accepts when p) (claims_about facts accepts p)
  standing_are = sym (standing_listed (entries facts)) ∙ moments_are facts accepts when p

-- ---- keeping what is found

pub kept_more : {X Y : Type 0} (h : X → Option Y) (x : X) (xs : List X) (old now all : List Y) → now ≡ old ++ option_to_list (h x) → old ++ filter_map h (x ∷ xs) ≡ all → now ++ filter_map h xs ≡ all
kept_more {X} {Y} h x xs old now all is so_far =
    ap (λ ys. ys ++ filter_map h xs) is ∙ append_assoc old (option_to_list (h x)) (filter_map h xs) ∙ ap (λ ys. old ++ ys) (by (h x)) ∙ so_far
  where
    by : (o : Option Y) → option_to_list o ++ filter_map h xs ≡ cons_option o (filter_map h xs)
    by None = refl
    by (Some y) = refl

-- ---- the latest

after_both : (a b c : Moment) → is_lt (claim_moment_cmp b a) ≡ false → is_lt (claim_moment_cmp c b) ≡ false → is_lt (claim_moment_cmp c a) ≡ false
after_both a b c h k = elim (cases_Bool (is_lt (claim_moment_cmp c a))) [
  | inl less ↦ absurd (let f : true ≡ false = sym (ap is_lt (less_too claim_moment_total b c a k (is_Less (claim_moment_cmp c a) less))) ∙ h in cc f)
  | inr off ↦ off
]

-- the later of two moments
abbrev latter : Moment → Moment → Moment
latter a b = cond (is_lt (claim_moment_cmp b a)) a b

latter_assoc : (a b c : Moment) → latter (latter a b) c ≡ latter a (latter b c)
latter_assoc a b c = by (cases_Bool (is_lt (claim_moment_cmp b a))) (cases_Bool (is_lt (claim_moment_cmp c b)))
  where
    by : (is_lt (claim_moment_cmp b a) ≡ true) ⊎ (is_lt (claim_moment_cmp b a) ≡ false) → (is_lt (claim_moment_cmp c b) ≡ true) ⊎ (is_lt (claim_moment_cmp c b) ≡ false) → latter (latter a b) c ≡ latter a (latter b c)
    by (inl ba) (inl cb) =
        let ca : is_lt (claim_moment_cmp c a) ≡ true = ap is_lt (claim_moment_total.trans c b a (is_Less (claim_moment_cmp c b) cb) (is_Less (claim_moment_cmp b a) ba)) in
        ap (λ m. latter m c) (cond-true (is_lt (claim_moment_cmp b a)) a b ba) ∙ cond-true (is_lt (claim_moment_cmp c a)) a c ca
        ∙ sym (ap (latter a) (cond-true (is_lt (claim_moment_cmp c b)) b c cb) ∙ cond-true (is_lt (claim_moment_cmp b a)) a b ba)
    by (inl ba) (inr cb) =
        ap (λ m. latter m c) (cond-true (is_lt (claim_moment_cmp b a)) a b ba) ∙ sym (ap (latter a) (cond-false (is_lt (claim_moment_cmp c b)) b c cb))
    by (inr ba) (inl cb) =
        ap (λ m. latter m c) (cond-false (is_lt (claim_moment_cmp b a)) a b ba) ∙ cond-true (is_lt (claim_moment_cmp c b)) b c cb
        ∙ sym (ap (latter a) (cond-true (is_lt (claim_moment_cmp c b)) b c cb) ∙ cond-false (is_lt (claim_moment_cmp b a)) a b ba)
    by (inr ba) (inr cb) =
        let ca : is_lt (claim_moment_cmp c a) ≡ false = after_both a b c ba cb in
        ap (λ m. latter m c) (cond-false (is_lt (claim_moment_cmp b a)) a b ba) ∙ cond-false (is_lt (claim_moment_cmp c b)) b c cb
        ∙ sym (ap (latter a) (cond-false (is_lt (claim_moment_cmp c b)) b c cb) ∙ cond-false (is_lt (claim_moment_cmp c a)) a c ca)

later-some : (a b : Moment) → later a (Some b) ≡ Some (latter a b)
later-some a b = by (is_lt (claim_moment_cmp b a))
  where
    by : (t : Bool) → cond t (Some a) (Some b) ≡ Some (cond t a b)
    by true = refl
    by false = refl

later_assoc : (a b c : Option Moment) → later_of (later_of a b) c ≡ later_of a (later_of b c)
later_assoc None b c = refl
later_assoc (Some a) None c = refl
later_assoc (Some a) (Some b) None = ap (λ o. later_of o None) (later-some a b) ∙ sym (later-some a b)
later_assoc (Some a) (Some b) (Some c) =
    ap (λ o. later_of o (Some c)) (later-some a b) ∙ later-some (latter a b) c ∙ ap Some (latter_assoc a b c)
    ∙ sym (ap (later a) (later-some b c) ∙ later-some a (latter b c))

pub latest_more : {X : Type 0} (h : X → Option Moment) (x : X) (xs : List X) (last now all : Option Moment) → now ≡ later_of last (h x)
    → later_of last (latest (filter_map h (x ∷ xs))) ≡ all → later_of now (latest (filter_map h xs)) ≡ all
latest_more h x xs last now all is so_far =
    ap (λ o. later_of o (latest (filter_map h xs))) is ∙ later_assoc last (h x) (latest (filter_map h xs)) ∙ ap (later_of last) (by (h x)) ∙ so_far
  where
    by : (o : Option Moment) → later_of o (latest (filter_map h xs)) ≡ latest (cons_option o (filter_map h xs))
    by None = refl
    by (Some m) = refl

pub latest_whole : (last : Option Moment) → later_of last None ≡ last
latest_whole None = refl
latest_whole (Some m) = refl

-- ---- permanodes

-- the first genuine one that is greater than o
pub found_swap : (t : List ℕ → Bool) (o : Option (List ℕ)) (es : List Entry)
    → option_map (λ (e : Entry). e.0) (find (λ e. t e.0) (filter (λ e. is_after o e.0) es)) ≡ find (is_after o) (filter t (keys_of es))
found_swap t o [] = refl
found_swap t o (e ∷ es) = by (is_after o e.0) refl (t e.0) refl (found_swap t o es)
  where
    by : (a : Bool) → is_after o e.0 ≡ a → (b : Bool) → t e.0 ≡ b → option_map (λ (e : Entry). e.0) (find (λ e. t e.0) (filter (λ e. is_after o e.0) es)) ≡ find (is_after o) (filter t (keys_of es))
        → option_map (λ (e : Entry). e.0) (find (λ e. t e.0) (cond a (e ∷ filter (λ e. is_after o e.0) es) (filter (λ e. is_after o e.0) es))) ≡ find (is_after o) (cond b (e.0 ∷ filter t (keys_of es)) (filter t (keys_of es)))
    by true ha true hb h = ap (λ c. option_map (λ (e : Entry). e.0) (cond c (Some e) (find (λ e. t e.0) (filter (λ e. is_after o e.0) es)))) hb ∙ sym (ap (λ c. cond c (Some e.0) (find (is_after o) (filter t (keys_of es)))) ha)
    by true ha false hb h = ap (λ c. option_map (λ (e : Entry). e.0) (cond c (Some e) (find (λ e. t e.0) (filter (λ e. is_after o e.0) es)))) hb ∙ h
    by false ha true hb h = h ∙ sym (ap (λ c. cond c (Some e.0) (find (is_after o) (filter t (keys_of es)))) ha)
    by false ha false hb h = h

-- the holders, tested one by one
pub holders_are : (facts : Facts) (accepts : Accepts) (when : When) (name value : List ℕ)
    → filter (is_holder facts accepts when name value) (keys facts) ≡ filter (has_value facts accepts when name value) (live_permanodes facts accepts when)
holders_are facts accepts when name value =
    filter-twice (λ r. is_genuine_permanode facts accepts r && not (is_deleted facts accepts when r)) (has_value facts accepts when name value) (keys facts)
    ∙ ap (filter (has_value facts accepts when name value)) (filter-twice (is_genuine_permanode facts accepts) (λ r. not (is_deleted facts accepts when r)) (keys facts))

pub holders_more : (t : List ℕ → Bool) (e : Entry) (es : List Entry) (old now all : List (List ℕ)) → now ≡ old ++ filter t (e.0 ∷ []) → old ++ filter t (keys_of (e ∷ es)) ≡ all → now ++ filter t (keys_of es) ≡ all
holders_more t e es old now all is so_far =
    ap (λ ys. ys ++ filter t (keys_of es)) is ∙ append_assoc old (filter t (e.0 ∷ [])) (filter t (keys_of es)) ∙ ap (λ ys. old ++ ys) (by (t e.0)) ∙ so_far
  where
    by : (b : Bool) → cond b (e.0 ∷ []) [] ++ filter t (keys_of es) ≡ cond b (e.0 ∷ filter t (keys_of es)) (filter t (keys_of es))
    by true = refl
    by false = refl
