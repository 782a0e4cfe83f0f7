-- Paths that are served, and what a share reaches.
use Rattle.std.proofs.Common.{◌≡◌, ◌⊎◌, inl, inr, ℕ, zero, suc, ◌+◌, ◌&&◌, ◌||◌, Bool, true, false, cond, not}
use Rattle.std.proofs.Common.{List, [], ◌∷◌, ◌++◌, Option, Some, None, refl, sym, ap, subst, ◌∙◌}
use Rattle.std.specs.Option.{is_some, option_and_then}
use Rattle.std.specs.List.{list_any}
use Rattle.std.specs.Str.{bytes_eq}
use Rattle.std.specs.Ordering.{eq_by_cmp}
use Rattle.std.specs.FinMap.{get, contains_key, keys, contains_key-keys}
use Rattle.std.proofs.lemmas.Bool.{or_left, or_right, or_cases, and_from, and_parts}
use Rattle.std.proofs.lemmas.Slice.Eq.{bytes_eq-Decides}
use Rattle.std.proofs.lemmas.Map.Text.{is_eq-slice_cmp}
use Rattle.blobref.specs.Blobref.{ref_cmp}
use Rattle.claim_verify.specs.Verifier.{Accepts}
use Rattle.claim_model.specs.Facts.{Content, passes}
use Rattle.share_model.specs.declared.share.Share.{Share}
use Rattle.share_model.specs.declared.verdict.Rule.{Rule}
use Rattle.share_model.specs.declared.verdict.Rule.TheVariants.{NoShare, NotGenuine, Deleted}
use Rattle.share_model.specs.declared.verdict.Rule.TheVariants.{WrongTarget, NotTransitive}
use Rattle.share_model.specs.declared.verdict.Verdict.{Verdict}
use Rattle.share_model.specs.declared.verdict.Verdict.TheVariants.{Served, Absent, Denied}
use Rattle.share_model.specs.Shares.{share_in, share_at}
use Rattle.share_model.specs.Reach.{has_link, is_within, Reaches}
use Rattle.share_model.specs.Verdicts.{is_empty, missing_link, is_genuine_in, is_deleted_in, path_verdict}
use Rattle.share_model.specs.Laws.{Begins, IsServed, SharesReach, ServedIsHeld}
use Rattle.share_model.proofs.Cases.{by_bool}
use Rattle.share_model.proofs.Stepwise.{if_counted, at_end, after_share, from_share, path_stepwise}

-- ---- small things

denied_not : {P : Type 0} (rule : Rule) → Denied rule ≡ Served → P
denied_not rule e = absurd (cc e)

same : (x y : List ℕ) → bytes_eq x y ≡ true → x ≡ y
same x y e = (bytes_eq-Decides x y).0 e

itself : (x : List ℕ) → bytes_eq x x ≡ true
itself x = (bytes_eq-Decides x x).1 refl

-- one of a list that passes
witness : (f : List ℕ → Bool) (xs : List (List ℕ)) → list_any f xs ≡ true → (p : List ℕ) × (f p ≡ true)
witness f [] e = absurd (cc e)
witness f (x ∷ xs) e = by_bool (f x) (λ yes. (x, yes))
    (λ none. witness f xs (sym (ap (λ b. b || list_any f xs) none) ∙ e))

-- a key that passes
passed : (f : List ℕ → Bool) (xs : List (List ℕ)) (p : List ℕ) → list_any (eq_by_cmp ref_cmp p) xs ≡ true
    → f p ≡ true → list_any f xs ≡ true
passed f [] p e h = e
passed f (x ∷ xs) p e h = by_bool (eq_by_cmp ref_cmp p x)
    (λ tied.
    or_left (f x) (list_any f xs) (ap f (sym (same p x (sym (is_eq-slice_cmp p x) ∙ tied))) ∙ h))
    (λ other.
    let e_more = sym (ap (λ b. b || list_any (eq_by_cmp ref_cmp p) xs) other) ∙ e in
    or_right (f x) (list_any f xs) (passed f xs p e_more h))

-- the last of some refs
abbrev last_or : List ℕ → List (List ℕ) → List ℕ
last_or d [] = d
last_or d (x ∷ xs) = last_or x xs

last_append : (d : List ℕ) (xs : List (List ℕ)) (x : List ℕ) → last_or d (xs ++ x ∷ []) ≡ x
last_append d [] x = refl
last_append d (y ∷ ys) x = last_append y ys x

-- all but the last one
front : (x : List ℕ) (xs : List (List ℕ)) → (ys : List (List ℕ)) × (ys ++ last_or x xs ∷ [] ≡ x ∷ xs)
front x [] = ([], refl)
front x (y ∷ ys) = let c = front y ys in (x ∷ c.0, ap (λ t. x ∷ t) c.1)

is_there : (o : Option (List ℕ)) (f : List ℕ → Bool) → passes f o ≡ true → is_some o ≡ true
is_there None f e = absurd (cc e)
is_there (Some x) f e = refl

is_held : (o : Option (List ℕ)) (share : Share) → option_and_then share_in o ≡ Some share → is_some o ≡ true
is_held None share e = absurd (cc e)
is_held (Some x) share e = refl

no_more : (b : Bool) → (b && not true) ≡ false
no_more true = refl
no_more false = refl

goes_on : (x : List ℕ) (xs : List (List ℕ)) (b : Bool) → (not (is_empty (x ∷ xs)) && not b) ≡ false → b ≡ true
goes_on x xs true e = refl
goes_on x xs false e = absurd (cc e)

module _ (held : Content) where
  -- ---- links along a path

  -- one link more
  one_more : (t p x : List ℕ) (n : ℕ) → is_within held t n p ≡ true → has_link held p x ≡ true
      → is_within held t (suc n) x ≡ true
  one_more t p x n near link =
      let key : list_any (eq_by_cmp ref_cmp p) (keys held) ≡ true =
      sym (contains_key-keys held p) ∙ is_there (get held p) _ link in
      let step : (is_within held t n p && has_link held p x) ≡ true =
      and_from (is_within held t n p) (has_link held p x) near link in
      or_right (is_within held t n x) _ (passed (λ q. is_within held t n q && has_link held q x) (keys held) p key step)

  -- a path that lacks no link leads to its last ref
  chain : (t p : List ℕ) (n i : ℕ) (more : List (List ℕ)) → is_within held t n p ≡ true
      → missing_link held i p more ≡ None → (m : ℕ) × (is_within held t m (last_or p more) ≡ true)
  chain t p n i [] near whole = (n, near)
  chain t p n i (x ∷ xs) near whole = by_bool (has_link held p x)
      (λ link. chain t x (suc n) (i + 1) xs (one_more t p x n near link)
      (sym (ap (λ b. cond b (missing_link held (i + 1) x xs) (Some i)) link) ∙ whole))
      (λ none. absurd (cc (sym (ap (λ b. cond b (missing_link held (i + 1) x xs) (Some i)) none) ∙ whole)))

  -- a path that goes on by a link
  longer : (i : ℕ) (p : List ℕ) (xs : List (List ℕ)) (r : List ℕ) → missing_link held i p xs ≡ None
      → has_link held (last_or p xs) r ≡ true → missing_link held i p (xs ++ r ∷ []) ≡ None
  longer i p [] r whole link = ap (λ b. cond b None (Some i)) link
  longer i p (x ∷ xs) r whole link = by_bool (has_link held p x)
      (λ here. ap (λ b. cond b (missing_link held (i + 1) x (xs ++ r ∷ [])) (Some i)) here
      ∙ longer (i + 1) x xs r (sym (ap (λ b. cond b (missing_link held (i + 1) x xs) (Some i)) here) ∙ whole) link)
      (λ none. absurd (cc (sym (ap (λ b. cond b (missing_link held (i + 1) x xs) (Some i)) none) ∙ whole)))

  -- a path from t to r that lacks no link
  record Walk (t r : List ℕ) : Type 0 where
    more : List (List ℕ)
    last : last_or t more ≡ r
    whole : (i : ℕ) → missing_link held i t more ≡ None

  step_on : (t p r : List ℕ) → Walk t p → has_link held p r ≡ true → Walk t r
  step_on t p r w link = record {
    more = w.more ++ r ∷ [];
    last = last_append t w.more r;
    whole = λ i. longer i t w.more r (w.whole i) (ap (λ q. has_link held q r) w.last ∙ link);
  }

  abbrev Walks : List ℕ → ℕ → Type 0
  Walks t n = (p : List ℕ) → is_within held t n p ≡ true → Walk t p

  further : (t : List ℕ) (n : ℕ) (r p : List ℕ) → Walks t n → (is_within held t n p && has_link held p r) ≡ true
      → Walk t r
  further t n r p walks both =
      let parts = and_parts (is_within held t n p) (has_link held p r) both in
      step_on t p r (walks p parts.0) parts.1

  within : (t : List ℕ) (n : ℕ) (r : List ℕ) → Walks t n
      → (is_within held t n r ≡ true) ⊎ (list_any (λ p. is_within held t n p && has_link held p r) (keys held) ≡ true)
      → Walk t r
  within t n r walks (inl nearer) = walks r nearer
  within t n r walks (inr some) =
      let w = witness (λ p. is_within held t n p && has_link held p r) (keys held) some in
      further t n r w.0 walks w.1

  walk : (t : List ℕ) (n : ℕ) (r : List ℕ) → is_within held t n r ≡ true → Walk t r
  walk t zero r near = record { more = []; last = sym (same r t near); whole = λ i. refl }
  walk t (suc n) r near = within t n r (λ p k. walk t n p k)
      (or_cases (is_within held t n r) (list_any (λ p. is_within held t n p && has_link held p r) (keys held)) near)

  module _ (accepts : Accepts) (s : List ℕ) (share : Share) (is : share_at held s ≡ Some share)
      (genuine : is_genuine_in held accepts share ≡ true) (live : is_deleted_in held accepts s ≡ false) where
    -- what is answered after the share
    counts : (r : List ℕ) (rest : List (List ℕ))
        → path_verdict held accepts r (s ∷ rest) ≡ after_share held share r rest
    counts r rest =
        path_stepwise held accepts r s rest
        ∙ ap (from_share held accepts r s rest) is
        ∙ ap (λ b. if_counted b (is_deleted_in held accepts s) (after_share held share r rest)) genuine
        ∙ ap (λ b. if_counted true b (after_share held share r rest)) live

    -- ---- what is served is reached

    abbrev IsReached : List ℕ → Type 0
    IsReached r = (contains_key held r ≡ true) × Reaches held s share r

    served_end : (r : List ℕ) (o : Option ℕ) → at_end held r o ≡ Served → (o ≡ None) × (contains_key held r ≡ true)
    served_end r (Some i) e = denied_not _ e
    served_end r None e = by_bool (contains_key held r) (λ yes. (refl, yes))
        (λ none. absurd (cc (sym (ap (λ b. cond b Served Absent) none) ∙ e)))

    reached_by : (r t : List ℕ) (more : List (List ℕ)) → t ≡ share.target → last_or t more ≡ r
        → (not (is_empty more) && not share.transitive) ≡ false → missing_link held 2 t more ≡ None
        → Reaches held s share r
    reached_by r t [] target last open_end whole = inr (inl (sym last ∙ target))
    reached_by r t (x ∷ xs) target last open_end whole =
        let c = chain t t zero 2 (x ∷ xs) (itself t) whole in
        let from_t : is_within held t c.0 r ≡ true = subst (λ q. is_within held t c.0 q ≡ true) last c.1 in
        inr (inr (
          goes_on x xs share.transitive open_end,
          (c.0, subst (λ q. is_within held q c.0 r ≡ true) target from_t),
        ))

    -- what is left to ask after the target
    abbrev after_target : List ℕ → List ℕ → List (List ℕ) → Verdict
    after_target r t more =
        cond (not (is_empty more) && not share.transitive) (Denied NotTransitive)
        (at_end held r (missing_link held 2 t more))

    served_target : (r t : List ℕ) (more : List (List ℕ)) → t ≡ share.target → last_or t more ≡ r
        → after_target r t more ≡ Served → IsReached r
    served_target r t more target last e = by_bool (not (is_empty more) && not share.transitive)
        (λ closed.
        denied_not NotTransitive
        (sym (ap (λ b. cond b (Denied NotTransitive) (at_end held r (missing_link held 2 t more))) closed) ∙ e))
        (λ open_end.
        let end = served_end r (missing_link held 2 t more)
        (sym (ap (λ b. cond b (Denied NotTransitive) (at_end held r (missing_link held 2 t more))) open_end) ∙ e) in
        (end.1, reached_by r t more target last open_end end.0))

    served_after : (r : List ℕ) (rest : List (List ℕ)) → last_or s rest ≡ r → after_share held share r rest ≡ Served
        → IsReached r
    served_after r [] last e =
        (subst (λ q. contains_key held q ≡ true) last (is_held (get held s) share is), inl (sym last))
    served_after r (t ∷ more) last e = by_bool (bytes_eq t share.target)
        (λ target.
        served_target r t more (same t share.target target) last
        (sym (ap (λ b. cond (not b) (Denied WrongTarget) (after_target r t more)) target) ∙ e))
        (λ other.
        denied_not WrongTarget (sym (ap (λ b. cond (not b) (Denied WrongTarget) (after_target r t more)) other) ∙ e))

    reached : (r : List ℕ) (via : List (List ℕ)) → Begins via r s
        → path_verdict held accepts r (via ++ r ∷ []) ≡ Served → IsReached r
    reached r via begins e =
        let last : last_or s begins.0 ≡ r = sym (ap (last_or s) begins.1) ∙ last_append s via r in
        served_after r begins.0 last (sym (ap (path_verdict held accepts r) begins.1 ∙ counts r begins.0) ∙ e)

    -- ---- what is reached is served

    by_path : (r : List ℕ) (rest : List (List ℕ)) → last_or s rest ≡ r → after_share held share r rest ≡ Served
        → IsServed held accepts s r
    by_path r rest last e =
        let c = front s rest in
        let path : c.0 ++ r ∷ [] ≡ s ∷ rest = ap (λ q. c.0 ++ q ∷ []) (sym last) ∙ c.1 in
        (c.0, ((rest, path), ap (path_verdict held accepts r) path ∙ counts r rest ∙ e))

    serves : (r t : List ℕ) (more : List (List ℕ)) → t ≡ share.target
        → (not (is_empty more) && not share.transitive) ≡ false → missing_link held 2 t more ≡ None
        → contains_key held r ≡ true → after_share held share r (t ∷ more) ≡ Served
    serves r t more target open_end whole there =
        ap (λ b. cond (not b) (Denied WrongTarget) (after_target r t more))
        (ap (λ q. bytes_eq q share.target) target ∙ itself share.target)
        ∙ ap (λ b. cond b (Denied NotTransitive) (at_end held r (missing_link held 2 t more))) open_end
        ∙ ap (at_end held r) whole
        ∙ ap (λ b. cond b Served Absent) there

    served : (r : List ℕ) → contains_key held r ≡ true → Reaches held s share r → IsServed held accepts s r
    served r there (inl itself_is) = by_path r [] (sym itself_is) refl
    served r there (inr (inl target)) = by_path r (r ∷ []) refl (serves r r [] target refl refl there)
    served r there (inr (inr far)) =
        let w = walk share.target far.1.0 r far.1.1 in
        let open_end = ap (λ b. not (is_empty w.more) && not b) far.0 ∙ no_more (not (is_empty w.more)) in
        by_path r (share.target ∷ w.more) w.last (serves r share.target w.more refl open_end (w.whole 2) there)

pub shares_reach : SharesReach
shares_reach held accepts s share is genuine live r = (
  λ (p : IsServed held accepts s r). reached held accepts s share is genuine live r p.0 p.1.0 p.1.1,
  λ q. served held accepts s share is genuine live r q.0 q.1,
)

-- ---- what is served is held

module _ (held : Content) (accepts : Accepts) (r s : List ℕ) (rest : List (List ℕ)) (last : last_or s rest ≡ r)
    (served : path_verdict held accepts r (s ∷ rest) ≡ Served) where
  stepped : (o : Option Share) → share_at held s ≡ o → from_share held accepts r s rest o ≡ Served
  stepped o is = sym (path_stepwise held accepts r s rest ∙ ap (from_share held accepts r s rest) is) ∙ served

  held_by : (o : Option Share) → share_at held s ≡ o → contains_key held r ≡ true
  held_by None is = denied_not NoShare (stepped None is)
  held_by (Some share) is = by_bool (is_genuine_in held accepts share)
      (λ genuine. by_bool (is_deleted_in held accepts s)
      (λ gone.
      denied_not Deleted
      (sym (ap (λ b. if_counted b (is_deleted_in held accepts s) (after_share held share r rest)) genuine
      ∙ ap (λ b. if_counted true b (after_share held share r rest)) gone) ∙ stepped (Some share) is))
      (λ live.
      (served_after held accepts s share is genuine live r rest last
      (sym (counts held accepts s share is genuine live r rest) ∙ served)).0))
      (λ other.
      denied_not NotGenuine
      (sym (ap (λ b. if_counted b (is_deleted_in held accepts s) (after_share held share r rest)) other)
      ∙ stepped (Some share) is))

pub served_is_held : ServedIsHeld
served_is_held held accepts r [] e = held_by held accepts r r [] refl e (share_at held r) refl
served_is_held held accepts r (s ∷ via) e =
    held_by held accepts r s (via ++ r ∷ []) (last_append s via r) e (share_at held s) refl
