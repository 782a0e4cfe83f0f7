-- The changes of genuine claims, counted by the refs that they are on.
use Rattle.std.proofs.Common.{◌≡◌, ◌≤◌, ◌<◌, ◌+◌, ℕ, ℤ, zero, suc, Bool, true, false, ◌&&◌, ◌||◌, cond, List, [], ◌∷◌, length, filter, map, flat_map, nat_lt, Option, None, Some, refl, sym, ap, ◌∙◌, ◌⊎◌, inl, inr, arith, length-append}
use Rattle.std.proofs.lemmas.Bool.{false≢true, and_parts, lt-ltb}
use Rattle.std.proofs.lemmas.List.{length-map}
use Rattle.std.proofs.lemmas.List.Sums.{sum_by-cons}
use Rattle.std.proofs.lemmas.Slice.Eq.{bytes_eq-Decides}
use Rattle.std.specs.List.{list_any, sum_by, AllByRecursion}
use Rattle.std.specs.Str.{bytes_eq}
use Rattle.std.specs.FinMap.{get, entries}
use Rattle.claim_verify.specs.Verifier.{Accepts}
use Rattle.schema_date.specs.declared.date.When.TheVariants.{Always}
use Rattle.schema_fact.specs.Changes.{changes_of}
use Rattle.schema_fact.specs.declared.changes.Change.{Change}
use Rattle.schema_fact.specs.declared.kinds.Fact.{Fact}
use Rattle.schema_fact.specs.declared.kinds.Signed.{Signed}
use Rattle.schema_fact.specs.declared.kinds.What.{What}
use Rattle.schema_fact.specs.declared.kinds.Kind.{Kind}
use Rattle.schema_fact.specs.declared.kinds.Kind.TheVariants.{Plain, Key, File, Bytes, Directory, StaticSet, Permanode, Claim, Unread}
use Rattle.claim_model.specs.Changes.{placed}
use Rattle.claim_model.specs.Claims.{Moment, changes_on}
use Rattle.claim_model.specs.Facts.{Facts, Entry}
use Rattle.claim_model.specs.Genuine.{is_genuine}
use Rattle.claim_model.specs.Ready.{is_ready}
use Rattle.index_look.proofs.Keys.{entries_held}
use Rattle.index_rows.proofs.Counting.{bit}
use Rattle.index_rows.proofs.Deleting.{any_get}
use Rattle.index_rows.proofs.Orders.{ref_total, ref_same}
use Rattle.index_rows.specs.Touched.{becomes, became, kind_changes, fact_changes, changes_in, changed_by}
use Rattle.claim_index.specs.Costs.{put_steps, change_count}
use Rattle.claim_index.specs.Judging.{is_signed_at}
use Rattle.claim_index.proofs.LoopTicks.{or_cases, left, right}
use Rattle.claim_index.proofs.TouchedSum.{sum_same, sum_both}

-- ---- the changes of one claim

-- those of some changes that are on p, with their places
abbrev own : List ℕ → ℕ → List Change → List (ℕ × Change)
own p n cs = filter (λ (c : ℕ × Change). bytes_eq p c.1.on) (placed n cs)

abbrev ons : List Change → List (List ℕ)
ons cs = map (λ (c : Change). c.on) cs

same_way : (x q : List ℕ) → bytes_eq x q ≡ true → bytes_eq q x ≡ true
same_way x q t = (bytes_eq-Decides q x).1 (sym ((bytes_eq-Decides x q).0 t))

-- a ref of a list counts there
one_of : (x : List ℕ) (ps : List (List ℕ)) → list_any (bytes_eq x) ps ≡ true → 1 ≤ sum_by (λ p. bit (bytes_eq p x)) ps
one_of x [] h = absurd (false≢true h)
one_of x (q ∷ ps) h = by (or_cases _ _ h) (one_of x ps)
  where
    by : (bytes_eq x q ≡ true) ⊎ (list_any (bytes_eq x) ps ≡ true) → (list_any (bytes_eq x) ps ≡ true → 1 ≤ sum_by (λ p. bit (bytes_eq p x)) ps)
        → 1 ≤ sum_by (λ p. bit (bytes_eq p x)) (q ∷ ps)
    by (inl t) more = let c = sum_by-cons (λ p. bit (bytes_eq p x)) q ps in let b : bit (bytes_eq q x) ≡ 1 = ap bit (same_way x q t) in omega (arith, c, b)
    by (inr t) more = let c = sum_by-cons (λ p. bit (bytes_eq p x)) q ps in let m = more t in omega (arith, c, m)

-- where all refs that they are on are in a list, changes are at most as many as their parts on these refs
own_count : (ps : List (List ℕ)) (n : ℕ) (cs : List Change) → ((p : List ℕ) → list_any (bytes_eq p) (ons cs) ≡ true → list_any (bytes_eq p) ps ≡ true)
    → length cs ≤ sum_by (λ p. length (own p n cs)) ps
own_count ps n [] h = omega arith
own_count ps n (c ∷ cs) h =
    let one = one_of c.on ps (h c.on (left (list_any (bytes_eq c.on) (ons cs)) ((bytes_eq-Decides c.on c.on).1 refl))) in
    let rest = own_count ps (suc n) cs (λ p t. h p (right (bytes_eq p c.on) t)) in
    let both = sum_both (λ p. bit (bytes_eq p c.on)) (λ p. length (own p (suc n) cs)) ps in
    let same = sum_same (λ p. length (own p n (c ∷ cs))) (λ p. bit (bytes_eq p c.on) + length (own p (suc n) cs)) split ps in
    omega (arith, one, rest, both, same)
  where
    split : (p : List ℕ) → length (own p n (c ∷ cs)) ≡ bit (bytes_eq p c.on) + length (own p (suc n) cs)
    split p = by (bytes_eq p c.on)
      where
        by : (b : Bool) → length (cond b ((n, c) ∷ own p (suc n) cs) (own p (suc n) cs)) ≡ bit b + length (own p (suc n) cs)
        by true = omega arith
        by false = omega arith

-- a change on p is one of those
own_some : (p : List ℕ) (n : ℕ) (cs : List Change) → list_any (bytes_eq p) (ons cs) ≡ true → 0 < length (own p n cs)
own_some p n [] h = absurd (false≢true h)
own_some p n (c ∷ cs) h = by (bytes_eq p c.on) h (own_some p (suc n) cs)
  where
    by : (b : Bool) → (b || list_any (bytes_eq p) (ons cs)) ≡ true → (list_any (bytes_eq p) (ons cs) ≡ true → 0 < length (own p (suc n) cs))
        → 0 < length (cond b ((n, c) ∷ own p (suc n) cs) (own p (suc n) cs))
    by true t more = omega arith
    by false t more = more t

module _ (p r : List ℕ) where
  own_length : (signed : Signed) (date : ℤ) (what : What) → length (changes_on p Always r (Claim signed date what)) ≡ length (own p 0 (changes_of what))
  own_length signed date what = length-map (own p 0 (changes_of what)) (λ (c : ℕ × Change). ((date, r, c.0), c.1))

  kind_some : (kind : Kind) → list_any (bytes_eq p) (ons (kind_changes kind)) ≡ true → 0 < length (changes_on p Always r kind)
  kind_some Plain h = absurd (false≢true h)
  kind_some (Key name) h = absurd (false≢true h)
  kind_some (File name parts) h = absurd (false≢true h)
  kind_some (Bytes parts) h = absurd (false≢true h)
  kind_some (Directory name listing) h = absurd (false≢true h)
  kind_some (StaticSet members) h = absurd (false≢true h)
  kind_some (Permanode signed) h = absurd (false≢true h)
  kind_some (Claim signed date what) h = let l = own_length signed date what in let s = own_some p 0 (changes_of what) h in omega (arith, l, s)
  kind_some (Unread name) h = absurd (false≢true h)

kind_count : (ps : List (List ℕ)) (r : List ℕ) (kind : Kind) → ((p : List ℕ) → list_any (bytes_eq p) (ons (kind_changes kind)) ≡ true → list_any (bytes_eq p) ps ≡ true)
    → length (kind_changes kind) ≤ sum_by (λ p. length (changes_on p Always r kind)) ps
kind_count ps r Plain h = omega arith
kind_count ps r (Key name) h = omega arith
kind_count ps r (File name parts) h = omega arith
kind_count ps r (Bytes parts) h = omega arith
kind_count ps r (Directory name listing) h = omega arith
kind_count ps r (StaticSet members) h = omega arith
kind_count ps r (Permanode signed) h = omega arith
kind_count ps r (Claim signed date what) h =
    let c = own_count ps 0 (changes_of what) h in
    let s = sum_same (λ p. length (changes_on p Always r (Claim signed date what))) (λ p. length (own p 0 (changes_of what))) (λ p. own_length p r signed date what) ps in
    omega (arith, c, s)
kind_count ps r (Unread name) h = omega arith

-- ---- of some claims

module _ {B : Type 0} (f : Entry → List B) (g : Entry → Bool) where
  flat_some : (es : List Entry) → list_any (λ e. g e && nat_lt 0 (length (f e))) es ≡ true → 0 < length (flat_map f (filter g es))
  flat_some [] h = absurd (false≢true h)
  flat_some (e ∷ es) h = by (g e) (length (f e)) refl h (flat_some es)
    where
      by : (b : Bool) (n : ℕ) → length (f e) ≡ n → ((b && nat_lt 0 n) || list_any (λ e. g e && nat_lt 0 (length (f e))) es) ≡ true
          → (list_any (λ e. g e && nat_lt 0 (length (f e))) es ≡ true → 0 < length (flat_map f (filter g es)))
          → 0 < length (flat_map f (cond b (e ∷ filter g es) (filter g es)))
      by true zero is t more = let m = more t in let l = length-append (f e) (flat_map f (filter g es)) in omega (arith, m, l)
      by true (suc n) is t more = let l = length-append (f e) (flat_map f (filter g es)) in omega (arith, is, l)
      by false n is t more = more t

module _ (facts : Facts) (accepts : Accepts) where
  -- what a genuine claim changes has a change
  pub group_some : (x p : List ℕ) → is_genuine facts accepts x ≡ true → list_any (bytes_eq p) (changed_by facts x) ≡ true → 0 < change_count facts accepts p
  group_some x p genuine h = by (get facts x) refl h
    where
      by : (o : Option Fact) → get facts x ≡ o → list_any (bytes_eq p) (ons (fact_changes o)) ≡ true → 0 < change_count facts accepts p
      by None e t = absurd (false≢true t)
      by (Some fact) e t =
          flat_some (λ (e : Entry). changes_on p Always e.0 e.1.kind) (λ (e : Entry). is_genuine facts accepts e.0) (entries facts)
          (any_get ref_total ref_same (λ (e : Entry). is_genuine facts accepts e.0 && nat_lt 0 (length (changes_on p Always e.0 e.1.kind))) facts x fact e
          (λ i. genuine i && lt-ltb 0 (length (changes_on p Always x fact.kind)) (kind_some p x fact.kind t) i))

  -- what is ready is genuine where it is signed
  pub signed_genuine : (x : List ℕ) → is_ready facts x ≡ true → is_genuine facts accepts x ≡ is_signed_at facts accepts x
  signed_genuine x ready = ap (λ b. b && is_signed_at facts accepts x) ready

module _ (facts more : Facts) (accepts : Accepts) (ps : List (List ℕ))
    (covered : (x : List ℕ) (fact : Fact) → get more x ≡ Some fact → becomes (is_ready facts) more x ≡ true
    → (p : List ℕ) → list_any (bytes_eq p) (changed_by more x) ≡ true → list_any (bytes_eq p) ps ≡ true) where
  abbrev fresh_test : List ℕ → Bool
  fresh_test = becomes (is_ready facts) more

  abbrev of_genuine : Entry → Bool
  of_genuine e = is_genuine more accepts e.0

  abbrev on : List ℕ → Entry → List (Moment × Change)
  on p e = changes_on p Always e.0 e.1.kind

  puts_one : (e : Entry) → get more e.0 ≡ Some e.1 → fresh_test e.0 ≡ true → put_steps more accepts e.0 ≤ sum_by (λ p. length (on p e)) ps
  puts_one e found t = by (is_signed_at more accepts e.0)
    where
      same : length (changes_in more e.0) ≡ length (kind_changes e.1.kind)
      same = ap (λ (o : Option Fact). length (fact_changes o)) found

      count : length (kind_changes e.1.kind) ≤ sum_by (λ p. length (on p e)) ps
      count = kind_count ps e.0 e.1.kind (λ p u. covered e.0 e.1 found t p (ap (λ (o : Option Fact). list_any (bytes_eq p) (ons (fact_changes o))) found ∙ u))

      by : (b : Bool) → cond b (length (changes_in more e.0)) 0 ≤ sum_by (λ p. length (on p e)) ps
      by true = let s = same in let c = count in omega (arith, s, c)
      by false = omega arith

  -- what is ready and isn't genuine has no rows to be put
  puts_none : (x : List ℕ) → fresh_test x ≡ true → is_genuine more accepts x ≡ false → put_steps more accepts x ≡ 0
  puts_none x t f = ap (λ b. cond b (length (changes_in more x)) 0) (sym (signed_genuine more accepts x (and_parts (is_ready more x) _ t).0) ∙ f)

  puts_among : (es : List Entry) → AllByRecursion (λ (e : Entry). get more e.0 ≡ Some e.1) es
      → sum_by (put_steps more accepts) (filter fresh_test (map (λ (e : Entry). e.0) es)) ≤ sum_by (λ p. length (flat_map (on p) (filter of_genuine es))) ps
  puts_among [] all = omega arith
  puts_among (e ∷ es) all = by (fresh_test e.0) refl (of_genuine e) refl (puts_among es all.1)
    where
      longer : sum_by (λ p. length (flat_map (on p) (e ∷ filter of_genuine es))) ps ≡ sum_by (λ p. length (on p e)) ps + sum_by (λ p. length (flat_map (on p) (filter of_genuine es))) ps
      longer = sum_same (λ p. length (flat_map (on p) (e ∷ filter of_genuine es))) (λ p. length (on p e) + length (flat_map (on p) (filter of_genuine es)))
          (λ p. length-append (on p e) (flat_map (on p) (filter of_genuine es))) ps
          ∙ sum_both (λ p. length (on p e)) (λ p. length (flat_map (on p) (filter of_genuine es))) ps

      by : (b : Bool) → fresh_test e.0 ≡ b → (g : Bool) → of_genuine e ≡ g
          → sum_by (put_steps more accepts) (filter fresh_test (map (λ (e : Entry). e.0) es)) ≤ sum_by (λ p. length (flat_map (on p) (filter of_genuine es))) ps
          → sum_by (put_steps more accepts) (cond b (e.0 ∷ filter fresh_test (map (λ (e : Entry). e.0) es)) (filter fresh_test (map (λ (e : Entry). e.0) es)))
          ≤ sum_by (λ p. length (flat_map (on p) (cond g (e ∷ filter of_genuine es) (filter of_genuine es)))) ps
      by true t true u rest =
          let l = sum_by-cons (put_steps more accepts) e.0 (filter fresh_test (map (λ (e : Entry). e.0) es)) in
          let o = puts_one e all.0 t in let w = longer in
          omega (arith, l, o, w, rest)
      by true t false u rest =
          let l = sum_by-cons (put_steps more accepts) e.0 (filter fresh_test (map (λ (e : Entry). e.0) es)) in
          let z = puts_none e.0 t u in
          omega (arith, l, z, rest)
      by false t true u rest = let w = longer in omega (arith, w, rest)
      by false t false u rest = rest

  -- the changes of the claims that are new and genuine are among those on the refs that they change
  pub puts_sum : sum_by (put_steps more accepts) (became (is_ready facts) more) ≤ sum_by (change_count more accepts) ps
  puts_sum = puts_among (entries more) (entries_held ref_total ref_same more)
