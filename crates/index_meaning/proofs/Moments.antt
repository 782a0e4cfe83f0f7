-- The counted changes of a permanode, looked up by their moments.
use Rattle.std.proofs.Common.{◌≡◌, ℕ, ℤ, zero, suc, ◌+◌, ◌<◌, ◌&&◌, Bool, true, false, cond, List, [], ◌∷◌, filter, flat_map, Option, Some, None, option_and_then, refl, sym, ap, ◌∙◌, arith, Ordering, is_some}
use Rattle.std.specs.Prelude.{slice_get}
use Rattle.std.proofs.lemmas.Bool.{cond-true, cond-false, false≢true}
use Rattle.std.proofs.lemmas.Cmp.{tied_itself}
use Rattle.std.specs.declared.cmp.Ordering.TheVariants.{Less, Equal, Greater}
use Rattle.std.specs.List.{AllByRecursion}
use Rattle.std.specs.Option.{option_or}
use Rattle.std.specs.Str.{bytes_eq}
use Rattle.std.specs.Ordering.{is_eq, eq_by_cmp, nat_cmp, int_cmp, ordering_then}
use Rattle.std.specs.Cmp.{nat_cmp_is, int_cmp_total}
use Rattle.std.specs.FinMap.{int_cmp-IsAntisymmetric, entries, find, from_entries, get, get-entries, get-from_entries}
use Rattle.blobref.specs.Blobref.{ref_cmp}
use Rattle.claim_verify.specs.Verifier.{Accepts}
use Rattle.schema_date.specs.declared.date.When.{When}
use Rattle.schema_fact.specs.declared.kinds.Fact.{Fact}
use Rattle.schema_fact.specs.declared.kinds.Signed.{Signed}
use Rattle.schema_fact.specs.declared.kinds.What.{What}
use Rattle.schema_fact.specs.declared.kinds.Kind.{Kind}
use Rattle.schema_fact.specs.declared.kinds.Kind.TheVariants.{Plain, Key, File, Bytes, Directory, StaticSet, Permanode, Claim, Unread}
use Rattle.claim_model.specs.Facts.{Facts, Entry, passes}
use Rattle.claim_model.specs.Genuine.{is_genuine_permanode}
use Rattle.claim_model.specs.Deleted.{counts_at}
use Rattle.schema_fact.specs.declared.changes.Change.{Change}
use Rattle.schema_fact.specs.Changes.{changes_of}
use Rattle.claim_model.specs.Claims.{Moment, moment_cmp, changes_on, stands_at, counted}
use Rattle.claim_model.proofs.Entries.{IsEntry, entries_found}
use Rattle.claim_model.proofs.ByClaim.{block, block-cons, find-append, find_other}
use Rattle.index_look.proofs.Order.{is_Equal}
use Rattle.index_rows.proofs.Orders.{ref_total, ref_same, moment_total}

-- in one claim moments are told apart by their places
in_claim : (date : ℤ) (r : List ℕ) (m n : ℕ) → moment_cmp (date, r, m) (date, r, n) ≡ nat_cmp m n
in_claim date r m n = λ i. ordering_then (tied_itself int_cmp_total date i)
    (ordering_then (tied_itself ref_total r i) (nat_cmp m n))

other_date : (a b : Ordering) → is_eq a ≡ false → is_eq (ordering_then a b) ≡ false
other_date Less b h = refl
other_date Equal b h = absurd (false≢true (sym h))
other_date Greater b h = refl

other_ref : (a b : Ordering) → is_eq b ≡ false → is_eq (ordering_then a b) ≡ false
other_ref Less b h = refl
other_ref Equal b h = h
other_ref Greater b h = refl

module _ (p : List ℕ) where
  -- the change, where it is on p
  abbrev pub on_p : Option Change → Option Change
  on_p o = cond (passes (λ (c : Change). bytes_eq p c.on) o) o None

  no_place : (date : ℤ) (r : List ℕ) (m n : ℕ) (cs : List Change) → m < n
      → find moment_cmp (date, r, m) (block p (date, r) n cs) ≡ None
  no_place date r m n [] lt = refl
  no_place date r m n (c ∷ cs) lt = ap (find moment_cmp (date, r, m)) (block-cons p (date, r) n c cs)
      ∙ by (bytes_eq p c.on) (no_place date r m (suc n) cs (omega arith))
    where
      by : (b : Bool) → find moment_cmp (date, r, m) (block p (date, r) (suc n) cs) ≡ None
          → find moment_cmp (date, r, m) (cond b (((date, r, n), c) ∷ block p (date, r) (suc n) cs)
          (block p (date, r) (suc n) cs)) ≡ None
      by true h =
          cond-false (is_eq (moment_cmp (date, r, m) (date, r, n))) (Some c)
          (find moment_cmp (date, r, m) (block p (date, r) (suc n) cs))
          (ap is_eq (in_claim date r m n ∙ sym (nat_cmp_is m n Less lt))) ∙ h
      by false h = h

  -- the change at a place
  at_place : (date : ℤ) (r : List ℕ) (m n j : ℕ) (cs : List Change) → m ≡ n + j
      → find moment_cmp (date, r, m) (block p (date, r) n cs) ≡ on_p (slice_get cs j)
  at_place date r m n j [] is = refl
  at_place date r m n zero (c ∷ cs) is = ap (find moment_cmp (date, r, m)) (block-cons p (date, r) n c cs)
      ∙ by (bytes_eq p c.on)
    where
      by : (b : Bool) → find moment_cmp (date, r, m) (cond b (((date, r, n), c) ∷ block p (date, r) (suc n) cs)
          (block p (date, r) (suc n) cs)) ≡ cond b (Some c) None
      by true =
          cond-true (is_eq (moment_cmp (date, r, m) (date, r, n))) (Some c)
          (find moment_cmp (date, r, m) (block p (date, r) (suc n) cs))
          (ap is_eq (in_claim date r m n ∙ sym (nat_cmp_is m n Equal (omega arith))))
      by false = no_place date r m (suc n) cs (omega arith)
  at_place date r m n (suc j) (c ∷ cs) is = ap (find moment_cmp (date, r, m)) (block-cons p (date, r) n c cs)
      ∙ by (bytes_eq p c.on) (at_place date r m (suc n) j cs (omega arith))
    where
      by : (b : Bool) → find moment_cmp (date, r, m) (block p (date, r) (suc n) cs) ≡ on_p (slice_get cs j)
          → find moment_cmp (date, r, m) (cond b (((date, r, n), c) ∷ block p (date, r) (suc n) cs)
          (block p (date, r) (suc n) cs)) ≡ on_p (slice_get cs j)
      by true h =
          cond-false (is_eq (moment_cmp (date, r, m) (date, r, n))) (Some c)
          (find moment_cmp (date, r, m) (block p (date, r) (suc n) cs))
          (ap is_eq (in_claim date r m n ∙ sym (nat_cmp_is m n Greater (omega arith)))) ∙ h
      by false h = h

  module _ (when : When) (q : Moment) where
    -- the change at this moment, of a claim of its ref
    abbrev pub own_change : Kind → Option Change
    own_change kind = find moment_cmp q (changes_on p when q.1 kind)

    pub claim_change : (signed : Signed) (date : ℤ) (what : What)
        → own_change (Claim signed date what) ≡ cond (is_eq (int_cmp q.0 date) && counts_at when q.0)
        (on_p (slice_get (changes_of what) q.2)) None
    claim_change signed date what = by (int_cmp q.0 date) refl
      where
        dated : (b : Bool) → find moment_cmp q (cond b (block p (q.0, q.1) 0 (changes_of what)) [])
            ≡ cond b (on_p (slice_get (changes_of what) q.2)) None
        dated true = at_place q.0 q.1 q.2 0 q.2 (changes_of what) (omega arith)
        dated false = refl

        never : (b : Bool) → is_eq (int_cmp q.0 date) ≡ false
            → find moment_cmp q (cond b (block p (date, q.1) 0 (changes_of what)) []) ≡ None
        never true off = find_other p q (date, q.1) (other_date (int_cmp q.0 date) (ref_cmp q.1 q.1) off) 0
            (changes_of what)
        never false off = refl

        by : (o : Ordering) → int_cmp q.0 date ≡ o
            → find moment_cmp q (cond (counts_at when date) (block p (date, q.1) 0 (changes_of what)) [])
            ≡ cond (is_eq o && counts_at when q.0) (on_p (slice_get (changes_of what) q.2)) None
        by Less is = never (counts_at when date) (ap is_eq is)
        by Equal is =
            ap (λ (d : ℤ). find moment_cmp q (cond (counts_at when d) (block p (d, q.1) 0 (changes_of what)) []))
            (sym (int_cmp-IsAntisymmetric q.0 date is))
            ∙ dated (counts_at when q.0)
        by Greater is = never (counts_at when date) (ap is_eq is)

    elsewhere : (r : List ℕ) (kind : Kind) → is_eq (ref_cmp q.1 r) ≡ false
        → find moment_cmp q (changes_on p when r kind) ≡ None
    elsewhere r Plain off = refl
    elsewhere r (Key name) off = refl
    elsewhere r (File name parts) off = refl
    elsewhere r (Bytes parts) off = refl
    elsewhere r (Directory name listing) off = refl
    elsewhere r (StaticSet members) off = refl
    elsewhere r (Permanode signed) off = refl
    elsewhere r (Claim signed date what) off = by (counts_at when date)
      where
        by : (b : Bool) → find moment_cmp q (cond b (block p (date, r) 0 (changes_of what)) []) ≡ None
        by true = find_other p q (date, r) (other_ref (int_cmp q.0 date) (ref_cmp q.1 r) off) 0 (changes_of what)
        by false = refl
    elsewhere r (Unread name) off = refl

    module _ (facts : Facts) (accepts : Accepts) where
      abbrev pub change_there : Option Fact → Option Change
      change_there o = option_and_then (λ fact. own_change fact.kind) o

      abbrev stands : List ℕ → Bool
      stands r = stands_at facts accepts when r

      twice : (o : Option Change) (b : Bool) → option_or o (cond b o None) ≡ o
      twice None true = refl
      twice None false = refl
      twice (Some c) b = refl

      nothing : (b : Bool) {A : Type 0} (x : A) → None ≡ cond (b && false) (Some x) None
      nothing true x = refl
      nothing false x = refl

      abbrev gathered : List Entry → List (Moment × Change)
      gathered es = flat_map (λ (e : Entry). changes_on p when e.0 e.1.kind) es

      gather : (es : List Entry) → AllByRecursion (IsEntry facts) es
          → find moment_cmp q (gathered (filter (λ (e : Entry). stands e.0) es))
          ≡ cond (stands q.1 && is_some (find ref_cmp q.1 es)) (change_there (get facts q.1)) None
      gather [] had = none (stands q.1)
        where
          none : (b : Bool) → None ≡ cond (b && false) (change_there (get facts q.1)) None
          none true = refl
          none false = refl
      gather (e ∷ es) had = by (eq_by_cmp ref_cmp q.1 e.0) refl (stands e.0) refl (gather es had.1)
        where
          there : Option Change
          there = change_there (get facts q.1)

          rest : List Entry
          rest = filter (λ (f : Entry). stands f.0) es

          by : (b : Bool) → eq_by_cmp ref_cmp q.1 e.0 ≡ b → (s : Bool) → stands e.0 ≡ s
              → find moment_cmp q (gathered (filter (λ (f : Entry). stands f.0) es))
              ≡ cond (stands q.1 && is_some (find ref_cmp q.1 es)) (change_there (get facts q.1)) None
              → find moment_cmp q (gathered (cond s (e ∷ filter (λ (f : Entry). stands f.0) es)
              (filter (λ (f : Entry). stands f.0) es)))
              ≡ cond (stands q.1 && is_some (cond b (Some e.1) (find ref_cmp q.1 es)))
              (change_there (get facts q.1)) None
          by true is true st h =
              let same : q.1 ≡ e.0 = ref_same q.1 e.0 (is_Equal (ref_cmp q.1 e.0) is) in
              let others = gathered (filter (λ (f : Entry). stands f.0) es) in
              find-append moment_cmp q (changes_on p when e.0 e.1.kind) others
              ∙ (λ i. option_or ((ap (λ r. find moment_cmp q (changes_on p when r e.1.kind)) (sym same)
              ∙ sym (ap change_there (ap (get facts) same ∙ had.0))) i) (h i))
              ∙ twice (change_there (get facts q.1)) (stands q.1 && is_some (find ref_cmp q.1 es))
              ∙ sym (ap (λ b. cond (b && true) (change_there (get facts q.1)) None) (ap stands same ∙ st))
          by true is false st h =
              let same : q.1 ≡ e.0 = ref_same q.1 e.0 (is_Equal (ref_cmp q.1 e.0) is) in
              h ∙ ap (λ b. cond (b && is_some (find ref_cmp q.1 es)) (change_there (get facts q.1)) None)
              (ap stands same ∙ st)
              ∙ sym (ap (λ b. cond (b && true) (change_there (get facts q.1)) None) (ap stands same ∙ st))
          by false is true st h =
              find-append moment_cmp q (changes_on p when e.0 e.1.kind)
              (gathered (filter (λ (f : Entry). stands f.0) es))
              ∙ ap (λ o. option_or o (find moment_cmp q (gathered (filter (λ (f : Entry). stands f.0) es))))
              (elsewhere e.0 e.1.kind is) ∙ h
          by false is false st h = h

      some_there : (b : Bool) (o : Option Fact)
          → cond (b && is_some o) (change_there o) None ≡ cond b (change_there o) None
      some_there true None = refl
      some_there true (Some fact) = refl
      some_there false o = refl

      -- what is counted at a moment
      pub counted_at : is_genuine_permanode facts accepts p ≡ true
          → get (counted facts accepts when p) q ≡ cond (stands q.1) (change_there (get facts q.1)) None
      counted_at genuine =
          ap (λ b. get (from_entries {R =
          moment_cmp} (cond b (gathered (filter (λ (e : Entry). stands e.0) (entries facts))) [])) q) genuine
          ∙ get-from_entries moment_total (gathered (filter (λ (e : Entry). stands e.0) (entries facts))) q
          ∙ gather (entries facts) (entries_found facts)
          ∙ ap (λ o. cond (stands q.1 && is_some o) (change_there (get facts q.1)) None) (sym (get-entries facts q.1))
          ∙ some_there (stands q.1) (get facts q.1)
