-- The counted claims on a permanode, by the claims about it alone, and what they leave of the values.
use Rattle.std.proofs.Common.{◌≡◌, ℕ, ℤ, ◌&&◌, Bool, true, false, not, cond, List, [], ◌∷◌, filter, fold, map, Option, Some, None, refl, sym, ap, ◌∙◌, Ordering, subst, option_map, option_and_then, ◌||◌}
use Rattle.std.specs.declared.cmp.Ordering.TheVariants.{Less, Equal, Greater}
use Rattle.std.specs.List.{filter_map, cons_option, list_any, AllByRecursion, IsDistinct}
use Rattle.std.proofs.lemmas.List.Folds.{list_any-append}
use Rattle.std.specs.List.Sorted.{IsStrictlySortedBy, IsPermutation, IsSorted}
use Rattle.std.specs.Ordering.{is_eq, eq_by_cmp, int_cmp, ordering_then}
use Rattle.std.specs.Str.{bytes_eq}
use Rattle.std.specs.Map.{keys_of}
use Rattle.std.specs.FinMap.{get, entries, keys, from_entries}
use Rattle.std.proofs.lemmas.Map.Keys.{sorted_head, sorted_tail, IsDistinct-cons}
use Rattle.std.proofs.lemmas.Option.{same_Some}
use Rattle.blobref.specs.Blobref.{ref_cmp}
use Rattle.claim_verify.specs.Verifier.{Accepts}
use Rattle.schema_date.specs.declared.date.When.{When}
use Rattle.schema_fact.specs.Changes.{changes_of}
use Rattle.schema_fact.specs.Dependencies.{target_of}
use Rattle.schema_fact.specs.declared.changes.Change.{Change}
use Rattle.schema_fact.specs.declared.kinds.What.{What}
use Rattle.schema_fact.specs.declared.kinds.Kind.{Kind}
use Rattle.schema_fact.specs.declared.kinds.Kind.TheVariants.{Plain, Key, File, Bytes, Directory, StaticSet, Permanode, Claim, Unread}
use Rattle.claim_model.specs.Facts.{Facts, Entry}
use Rattle.claim_model.specs.Genuine.{is_genuine, is_genuine_permanode}
use Rattle.claim_model.specs.Deleted.{is_deleted, counts_at}
use Rattle.claim_model.specs.Claims.{stands_at, values}
use Rattle.claim_model.specs.ByClaim.{claim_moment_cmp, claim_on, is_attribute_claim_on, counted_claims, apply}
use Rattle.claim_model.proofs.ByClaim.{claim_moment_total, same_claim_moment, values_by_claim}
use Rattle.index_look.specs.Claims.{what_subjects, is_about, about, claims_about, counted_claim, claim_says, said, apply_said}
use Rattle.index_look.proofs.Entries.{entries_had, keys_ascend}
use Rattle.index_look.proofs.Stepping.{about-cons}
use Rattle.index_look.proofs.Keys.{keys_sorted, keys-empty, entries_told}

abbrev pub Pair : Type 0
Pair = List ℕ × List ℕ

abbrev pub Moment : Type 0
Moment = ℤ × List ℕ

-- ---- an attribute claim is on what it is about

any_on : (p : List ℕ) (cs : List Change) → list_any (bytes_eq p) (map (λ (c : Change). c.on) cs) ≡ list_any (λ (c : Change). bytes_eq p c.on) cs
any_on p [] = refl
any_on p (c ∷ cs) = ap (λ b. bytes_eq p c.on || b) (any_on p cs)

about_what : (p : List ℕ) (what : What) → list_any (bytes_eq p) (what_subjects what) ≡ (is_attribute_claim_on p what || list_any (bytes_eq p) (target_of what))
about_what p what = list_any-append (bytes_eq p) (map (λ (c : Change). c.on) (changes_of what)) (target_of what)
    ∙ ap (λ b. b || list_any (bytes_eq p) (target_of what)) (any_on p (changes_of what))

on_its_subject : (p : List ℕ) (when : When) (r : List ℕ) (kind : Kind) → claim_on p when r kind ≡ cond (is_about p kind) (claim_on p when r kind) None
on_its_subject p when r Plain = refl
on_its_subject p when r (Key name) = refl
on_its_subject p when r (File name parts) = refl
on_its_subject p when r (Bytes parts) = refl
on_its_subject p when r (Directory name listing) = refl
on_its_subject p when r (StaticSet members) = refl
on_its_subject p when r (Permanode signed) = refl
on_its_subject p when r (Claim signed date what) =
    by (is_attribute_claim_on p what) (list_any (bytes_eq p) (target_of what)) (counts_at when date)
    ∙ ap (λ b. cond b (claim_on p when r (Claim signed date what)) None) (sym (about_what p what))
  where
    made : Option (Moment × What)
    made = Some ((date, r), what)

    by : (own target counts : Bool) → cond (own && counts) made None ≡ cond (own || target) (cond (own && counts) made None) None
    by true target counts = refl
    by false true counts = refl
    by false false counts = refl
on_its_subject p when r (Unread name) = refl

-- ---- one entry

module _ (p : List ℕ) (read : Pair → Option Moment) (rest : List Pair) (tail : List (Moment × What)) (before : keys_of tail ≡ filter_map read rest) where
  nothing : (d : Bool) (m : Option (Moment × What)) → m ≡ None → keys_of (cond (not d) (cons_option m tail) tail) ≡ filter_map read rest
  nothing d m none = ap (λ o. keys_of (cond (not d) (cons_option o tail) tail)) none ∙ by d
    where
      by : (d : Bool) → keys_of (cond (not d) tail tail) ≡ filter_map read rest
      by true = before
      by false = before

  something : (d : Bool) (m : Option (Moment × What)) → keys_of (cond (not d) (cons_option m tail) tail) ≡ cons_option (option_map (λ x. x.0) (cond d None m)) (filter_map read rest)
  something true m = before
  something false None = before
  something false (Some x) = λ i. x.0 ∷ before i

  one : (g d b : Bool) (m : Option (Moment × What)) (r : List ℕ) → m ≡ cond b m None → read (p, r) ≡ option_map (λ x. x.0) (cond d None m)
      → keys_of (cond (g && not d) (cons_option m tail) tail) ≡ filter_map read (cond (g && b) ((p, r) ∷ rest) rest)
  one false d b m r h is = before
  one true d true m r h is = something d m ∙ ap (λ o. cons_option o (filter_map read rest)) (sym is)
  one true d false m r h is = nothing d m h

pub filter_map-cond : {X Y : Type 0} (h : X → Option Y) (b : Bool) (x : X) (xs : List X) → filter_map h (cond b (x ∷ xs) xs) ≡ cond b (cons_option (h x) (filter_map h xs)) (filter_map h xs)
filter_map-cond h true x xs = refl
filter_map-cond h false x xs = refl

module _ (facts : Facts) (accepts : Accepts) (when : When) (p : List ℕ) where
  -- the counted claims, as the definition lists them
  abbrev pub listed : List Entry → List (Moment × What)
  listed es = filter_map (λ e. claim_on p when e.0 e.1.kind) (filter (λ e. stands_at facts accepts when e.0) es)

  abbrev pub moment : Pair → Option Moment
  moment c = option_map (λ x. x.0) (counted_claim facts accepts when p c.1)

  moments_listed : (es : List Entry) → AllByRecursion (λ (e : Entry). get facts e.0 ≡ Some e.1) es
      → keys_of (listed es) ≡ filter_map moment (about (is_genuine facts accepts) p es)
  moments_listed [] had = refl
  moments_listed (e ∷ es) had =
      let deleted = is_deleted facts accepts when e.0 in
      ap keys_of (filter_map-cond (λ (f : Entry). claim_on p when f.0 f.1.kind) (stands_at facts accepts when e.0) e (filter (λ f. stands_at facts accepts when f.0) es))
      ∙ one p moment (about (is_genuine facts accepts) p es) (listed es) (moments_listed es had.1)
      (is_genuine facts accepts e.0) deleted (is_about p e.1.kind) (claim_on p when e.0 e.1.kind) e.0 (on_its_subject p when e.0 e.1.kind)
      (ap (λ o. option_map (λ (x : Moment × What). x.0) (cond deleted None (option_and_then (λ fact. claim_on p when e.0 fact.kind) o))) had.0)
      ∙ sym (ap (filter_map moment) (about-cons (is_genuine facts accepts) p e es))

  -- each under its own ref, saying what its fact says
  abbrev IsOf : List ℕ → Kind → Moment × What → Type 0
  IsOf r kind x = (x.0.1 ≡ r) × (claim_says kind ≡ Some x.1)

  claim_of : (r : List ℕ) (kind : Kind) (x : Moment × What) → claim_on p when r kind ≡ Some x → IsOf r kind x
  claim_of r Plain x h = absurd (let e : None ≡ Some x = h in cc e)
  claim_of r (Key name) x h = absurd (let e : None ≡ Some x = h in cc e)
  claim_of r (File name parts) x h = absurd (let e : None ≡ Some x = h in cc e)
  claim_of r (Bytes parts) x h = absurd (let e : None ≡ Some x = h in cc e)
  claim_of r (Directory name listing) x h = absurd (let e : None ≡ Some x = h in cc e)
  claim_of r (StaticSet members) x h = absurd (let e : None ≡ Some x = h in cc e)
  claim_of r (Permanode signed) x h = absurd (let e : None ≡ Some x = h in cc e)
  claim_of r (Claim signed date what) x h = by (is_attribute_claim_on p what && counts_at when date) h
    where
      by : (b : Bool) → cond b (Some ((date, r), what)) None ≡ Some x → IsOf r (Claim signed date what) x
      by true e = let is : ((date, r), what) ≡ x = same_Some ((date, r), what) x e in (ap (λ (y : Moment × What). y.0.1) (sym is), ap (λ (y : Moment × What). Some y.1) is)
      by false e = absurd (let f : None ≡ Some x = e in cc f)
  claim_of r (Unread name) x h = absurd (let e : None ≡ Some x = h in cc e)

  module _ {P : Moment × What → Type 0} where
    all_cons : (m : Option (Moment × What)) (xs : List (Moment × What)) → ((x : Moment × What) → m ≡ Some x → P x) → AllByRecursion P xs → AllByRecursion P (cons_option m xs)
    all_cons None xs f h = h
    all_cons (Some x) xs f h = (f x refl, h)

    all_cond : (b : Bool) (m : Option (Moment × What)) (xs : List (Moment × What)) → ((x : Moment × What) → m ≡ Some x → P x) → AllByRecursion P xs → AllByRecursion P (cond b (cons_option m xs) xs)
    all_cond true m xs f h = all_cons m xs f h
    all_cond false m xs f h = h

  said_listed : (es : List Entry) → AllByRecursion (λ (e : Entry). get facts e.0 ≡ Some e.1) es → AllByRecursion (λ (x : Moment × What). said facts x.0.1 ≡ Some x.1) (listed es)
  said_listed [] had = tt
  said_listed (e ∷ es) had =
      subst (AllByRecursion (λ (x : Moment × What). said facts x.0.1 ≡ Some x.1))
      (sym (filter_map-cond (λ (f : Entry). claim_on p when f.0 f.1.kind) (stands_at facts accepts when e.0) e (filter (λ f. stands_at facts accepts when f.0) es)))
      (all_cond (stands_at facts accepts when e.0) (claim_on p when e.0 e.1.kind) (listed es)
      (λ x is. let of = claim_of e.0 e.1.kind x is in ap (said facts) of.0 ∙ ap (option_and_then (λ fact. claim_says fact.kind)) had.0 ∙ of.1)
      (said_listed es had.1))

  above : (r : List ℕ) (es : List Entry) → AllByRecursion (λ y. ref_cmp r y ≡ Less) (keys_of es) → AllByRecursion (λ (x : Moment × What). ref_cmp r x.0.1 ≡ Less) (listed es)
  above r [] h = tt
  above r (e ∷ es) h =
      subst (AllByRecursion (λ (x : Moment × What). ref_cmp r x.0.1 ≡ Less))
      (sym (filter_map-cond (λ (f : Entry). claim_on p when f.0 f.1.kind) (stands_at facts accepts when e.0) e (filter (λ f. stands_at facts accepts when f.0) es)))
      (all_cond (stands_at facts accepts when e.0) (claim_on p when e.0 e.1.kind) (listed es) (λ x is. ap (ref_cmp r) (claim_of e.0 e.1.kind x is).0 ∙ h.0) (above r es h.1))

  less_then : (o : Ordering) → is_eq (ordering_then o Less) ≡ false
  less_then Less = refl
  less_then Equal = refl
  less_then Greater = refl

  apart : (k : Moment) (xs : List (Moment × What)) → AllByRecursion (λ (x : Moment × What). ref_cmp k.1 x.0.1 ≡ Less) xs → AllByRecursion (λ y. eq_by_cmp claim_moment_cmp k y ≡ false) (keys_of xs)
  apart k [] h = tt
  apart k (x ∷ xs) h = (ap (λ o. is_eq (ordering_then (int_cmp k.0 x.0.0) o)) h.0 ∙ less_then (int_cmp k.0 x.0.0), apart k xs h.1)

  distinct_cond : (b : Bool) (m : Option (Moment × What)) (r : List ℕ) (xs : List (Moment × What)) → ((x : Moment × What) → m ≡ Some x → x.0.1 ≡ r) → AllByRecursion (λ (x : Moment × What). ref_cmp r x.0.1 ≡ Less) xs
      → IsDistinct (eq_by_cmp claim_moment_cmp) (keys_of xs) → IsDistinct (eq_by_cmp claim_moment_cmp) (keys_of (cond b (cons_option m xs) xs))
  distinct_cond false m r xs f above h = h
  distinct_cond true None r xs f above h = h
  distinct_cond true (Some x) r xs f above h =
      IsDistinct-cons (eq_by_cmp claim_moment_cmp) x.0 (keys_of xs)
      (apart x.0 xs (subst (λ (q : List ℕ). AllByRecursion (λ (y : Moment × What). ref_cmp q y.0.1 ≡ Less) xs) (sym (f x refl)) above)) h

  distinct_listed : (es : List Entry) → IsStrictlySortedBy ref_cmp (keys_of es) → IsDistinct (eq_by_cmp claim_moment_cmp) (keys_of (listed es))
  unfolding IsDistinct
  distinct_listed [] h = tt
  distinct_listed (e ∷ es) h =
      subst (λ (xs : List (Moment × What)). IsDistinct (eq_by_cmp claim_moment_cmp) (keys_of xs))
      (sym (filter_map-cond (λ (f : Entry). claim_on p when f.0 f.1.kind) (stands_at facts accepts when e.0) e (filter (λ f. stands_at facts accepts when f.0) es)))
      (distinct_cond (stands_at facts accepts when e.0) (claim_on p when e.0 e.1.kind) e.0 (listed es) (λ x is. (claim_of e.0 e.1.kind x is).0)
      (above e.0 es (sorted_head ref_cmp e.0 (keys_of es) h)) (distinct_listed es (sorted_tail ref_cmp e.0 (keys_of es) h)))

  -- what is counted, where p is a genuine permanode, and where it is none
  pub moments_counted : (ms ks : List Moment) → true ≡ is_genuine_permanode facts accepts p → ms ≡ filter_map moment (claims_about facts accepts p) → IsPermutation ms ks → IsSorted claim_moment_cmp ks → ks ≡ keys (counted_claims facts accepts when p)
  moments_counted ms ks genuine is moved up =
      let all = listed (entries facts) in
      let own : ms ≡ keys_of all = is ∙ sym (moments_listed (entries facts) (entries_had facts)) in
      keys_sorted claim_moment_total same_claim_moment all ks (subst (λ (xs : List Moment). IsPermutation xs ks) own moved) up (distinct_listed (entries facts) (keys_ascend facts))
      ∙ ap (λ b. keys (from_entries {R = claim_moment_cmp} (cond b all []))) genuine

  pub none_counted : false ≡ is_genuine_permanode facts accepts p → [] ≡ keys (counted_claims facts accepts when p)
  none_counted other = sym (keys-empty claim_moment_cmp What) ∙ ap (λ b. keys (from_entries {R = claim_moment_cmp} (cond b (listed (entries facts)) []))) other

  said_cond : (b : Bool) → AllByRecursion (λ (x : Moment × What). said facts x.0.1 ≡ Some x.1) (cond b (listed (entries facts)) [])
  said_cond true = said_listed (entries facts) (entries_had facts)
  said_cond false = tt

  -- the fold of what the claims say, taken from their facts
  refold : (name : List ℕ) (es : List (Moment × What)) (found : List (List ℕ)) → AllByRecursion (λ (x : Moment × What). said facts x.0.1 ≡ Some x.1) es
      → fold (λ found m. apply_said p name found (said facts m.1)) found (keys_of es) ≡ fold (apply p name) found (map (λ x. x.1) es)
  refold name [] found h = refl
  refold name (x ∷ xs) found h =
      ap (λ o. fold (λ found (m : Moment). apply_said p name found (said facts m.1)) (apply_said p name found o) (keys_of xs)) h.0 ∙ refold name xs (apply p name found x.1) h.1

  pub values_folded : (name : List ℕ) → fold (λ found m. apply_said p name found (said facts m.1)) [] (keys (counted_claims facts accepts when p)) ≡ values facts accepts when p name
  values_folded name = refold name (entries (counted_claims facts accepts when p)) []
      (entries_told claim_moment_total same_claim_moment (λ (m : Moment). said facts m.1) _ (said_cond (is_genuine_permanode facts accepts p)))
      ∙ sym (values_by_claim facts accepts when p name)

  -- the counted list, where p is a genuine permanode, and where it is none
  pub counted_is : true ≡ is_genuine_permanode facts accepts p → from_entries {R = claim_moment_cmp} (listed (entries facts)) ≡ counted_claims facts accepts when p
  counted_is genuine = ap (λ b. from_entries {R = claim_moment_cmp} (cond b (listed (entries facts)) [])) genuine

  pub moments_are : keys_of (listed (entries facts)) ≡ filter_map moment (claims_about facts accepts p)
  moments_are = moments_listed (entries facts) (entries_had facts)
