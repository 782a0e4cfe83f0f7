-- The rows of a value of an attribute are those of its holders.
use Rattle.std.proofs.Common.{◌≡◌, ℕ, Bool, true, false, not, ◌&&◌, ◌||◌, cond, List, [], ◌∷◌, filter, map, Option}
use Rattle.std.proofs.Common.{None, Some, refl, sym, ap, ◌∙◌, is_some, Ordering, option_map}
use Rattle.std.proofs.lemmas.Bool.{and_parts, false≢true, true≢false}
use Rattle.std.proofs.lemmas.Cmp.{tied_itself}
use Rattle.std.proofs.lemmas.Map.Text.{is_eq-slice_cmp}
use Rattle.std.proofs.lemmas.Slice.Eq.{bytes_eq-Decides}
use Rattle.std.specs.declared.cmp.Ordering.TheVariants.{Less, Equal, Greater}
use Rattle.std.specs.List.{list_any, cons_option}
use Rattle.std.specs.Str.{bytes_eq}
use Rattle.std.specs.Ordering.{is_eq, ordering_then}
use Rattle.std.specs.FinMap.Entries.{same_entries}
use Rattle.std.specs.FinMap.{get, contains_key, entries, keys, contains_key-keys}
use Rattle.blobref.specs.Blobref.{ref_cmp}
use Rattle.claim_verify.specs.Verifier.{Accepts}
use Rattle.schema_date.specs.declared.date.When.TheVariants.{Always}
use Rattle.schema_fact.specs.declared.kinds.Fact.{Fact}
use Rattle.claim_model.specs.Facts.{Facts, Entry, passes, is_permanode}
use Rattle.claim_model.specs.Genuine.{is_genuine, is_genuine_permanode}
use Rattle.claim_model.specs.Deleted.{is_deleted}
use Rattle.claim_model.specs.Claims.{has_value, holders}
use Rattle.index_look.specs.Claims.{is_holder}
use Rattle.index_rows.specs.Changes.{Changes}
use Rattle.index_rows.specs.Deletes.{Deletes, row_deleted}
use Rattle.index_rows.specs.States.{States}
use Rattle.index_rows.specs.Waiting.{Waiters}
use Rattle.index_rows.specs.Values.{row_values}
use Rattle.index_rows.specs.Holders.{Holders, HolderKey, holder_cmp, is_of, rows_holding, says_permanode, row_holds}
use Rattle.index_rows.proofs.Orders.{ref_total, ref_same}
use Rattle.index_rows.proofs.Groups.{filter-filter}
use Rattle.index_rows.proofs.Deleting.{any-filter}
use Rattle.index_meaning.specs.Meaning.{IsDeletesOf, IsChangesOf, IsJudged, IsAtRest}
use Rattle.index_meaning.specs.Laws.{RowsTellHolders, RowIsOfHolder}
use Rattle.index_meaning.proofs.Said.{and_true, and_false, genuine_said}
use Rattle.index_meaning.proofs.Deletions.{deletion}
use Rattle.index_meaning.proofs.Values.{rows_tell_values}
use Rattle.index_rows.proofs.Parts as parts

swapped : (a b : Bool) → (a && b) ≡ (b && a)
swapped true b = sym (and_true b)
swapped false b = sym (and_false b)

-- ---- what rows of state say

module _ (facts : Facts) (accepts : Accepts) (state : States)
    (arrived : (y : List ℕ) → contains_key state y ≡ contains_key facts y)
    (judged : IsJudged facts accepts [] state) where
  permanode_said : (p : List ℕ) → says_permanode facts state p ≡ is_genuine_permanode facts accepts p
  permanode_said p =
      ap (λ b. passes (λ (fact : Fact). is_permanode fact.kind) (get facts p) && b)
      (genuine_said facts accepts state arrived judged p)
      ∙ swapped (passes (λ (fact : Fact). is_permanode fact.kind) (get facts p)) (is_genuine facts accepts p)

  module _ (deletes : Deletes) (changes : Changes) (deleted : IsDeletesOf facts accepts deletes)
      (changed : IsChangesOf facts accepts [] changes) where
    -- what rows make hold is a holder
    pub holder_said : (name value p : List ℕ)
        → row_holds facts state deletes changes name value p ≡ is_holder facts accepts Always name value p
    holder_said name value p = by (is_genuine_permanode facts accepts p) refl
      where
        by : (b : Bool) → is_genuine_permanode facts accepts p ≡ b
            → row_holds facts state deletes changes name value p ≡ is_holder facts accepts Always name value p
        by true is = λ i.
            (permanode_said p i && not (deletion facts accepts deletes deleted Always p i))
            && list_any (bytes_eq value)
            (rows_tell_values facts accepts deletes changes deleted changed Always p name is i)
        by false is =
            ap (λ (b : Bool). (b && not (row_deleted facts deletes Always p))
            && list_any (bytes_eq value) (row_values facts deletes changes Always p name)) (permanode_said p ∙ is)
            ∙ sym (ap (λ (b : Bool). (b && not (is_deleted facts accepts Always p))
            && has_value facts accepts Always name value p) is)

-- ---- the holders of a value

module _ (facts : Facts) (accepts : Accepts) (name value : List ℕ) where
  abbrev holds : List ℕ → Bool
  holds p = is_holder facts accepts Always name value p

  holders_kept : holders facts accepts name value ≡ filter holds (keys facts)
  holders_kept =
      ap (filter (has_value facts accepts Always name value))
      (filter-filter (λ (r : List ℕ). not (is_deleted facts accepts Always r)) (is_genuine_permanode facts accepts)
      (keys facts))
      ∙ filter-filter (has_value facts accepts Always name value)
      (λ (r : List ℕ). is_genuine_permanode facts accepts r && not (is_deleted facts accepts Always r)) (keys facts)

  -- a holder has a fact
  known : (p : List ℕ) → holds p ≡ true → contains_key facts p ≡ true
  known p h =
      let live = and_parts (is_genuine_permanode facts accepts p && not (is_deleted facts accepts Always p))
      (has_value facts accepts Always name value p) h in
      let genuine = and_parts (is_genuine_permanode facts accepts p) (not (is_deleted facts accepts Always p)) live.0 in
      by (get facts p) (and_parts (is_genuine facts accepts p)
      (passes (λ (fact : Fact). is_permanode fact.kind) (get facts p)) genuine.0).1
    where
      by : (o : Option Fact) → passes (λ (fact : Fact). is_permanode fact.kind) o ≡ true → is_some o ≡ true
      by None h = absurd (false≢true h)
      by (Some fact) h = refl

  with_fact : (p : List ℕ) → (holds p && contains_key facts p) ≡ holds p
  with_fact p = by (holds p) (contains_key facts p) (known p)
    where
      by : (a b : Bool) → (a ≡ true → b ≡ true) → (a && b) ≡ a
      by true b h = h refl
      by false b h = refl

  among : (p : List ℕ) (ks : List (List ℕ))
      → list_any (λ k. holds k && bytes_eq p k) ks ≡ (holds p && list_any (bytes_eq p) ks)
  among p [] = sym (and_false (holds p))
  among p (k ∷ ks) = by (bytes_eq p k) refl (among p ks)
    where
      by : (b : Bool) → bytes_eq p k ≡ b
          → list_any (λ l. holds l && bytes_eq p l) ks ≡ (holds p && list_any (bytes_eq p) ks)
          → ((holds k && b) || list_any (λ l. holds l && bytes_eq p l) ks)
          ≡ (holds p && (b || list_any (bytes_eq p) ks))
      by true is h = (λ i. (holds (sym ((bytes_eq-Decides p k).0 is) i) && true) || h i)
          ∙ absorbed (holds p) (list_any (bytes_eq p) ks)
        where
          absorbed : (a b : Bool) → ((a && true) || (a && b)) ≡ (a && true)
          absorbed true b = refl
          absorbed false b = refl
      by false is h = ap (λ (b : Bool). b || list_any (λ l. holds l && bytes_eq p l) ks) (and_false (holds k)) ∙ h

  pub is_among : (p : List ℕ) → list_any (bytes_eq p) (holders facts accepts name value) ≡ holds p
  is_among p =
      ap (list_any (bytes_eq p)) holders_kept ∙ any-filter (bytes_eq p) holds (keys facts) ∙ among p (keys facts)
      ∙ ap (λ (b : Bool). holds p && b) ((λ i. list_any (λ x. sym (is_eq-slice_cmp p x) i) (keys facts))
      ∙ sym (contains_key-keys facts p))
      ∙ with_fact p

  -- ---- the two lists

  abbrev Only : Type 0
  Only = Unit {0}

  abbrev tell_holder : List ℕ → Option Only
  tell_holder p = cond (holds p) (Some tt) None

  facts_part : parts.IsPart ref_cmp ref_cmp (λ k. true) (λ k. k) (λ k. k)
  facts_part = record { tied = λ m k h. refl; apart = λ m k h. absurd (true≢false h); own = λ k h. refl }

  abbrev told_facts : List Entry → List (List ℕ × Only)
  told_facts es = parts.told (λ (k : List ℕ). true) (λ k. k) tell_holder es

  facts_firsts : (es : List Entry) → map (λ (c : List ℕ × Only). c.0) (told_facts es)
      ≡ filter holds (map (λ (e : Entry). e.0) es)
  facts_firsts [] = refl
  facts_firsts (e ∷ es) = by (holds e.0) (facts_firsts es)
    where
      by : (b : Bool) → map (λ (c : List ℕ × Only). c.0) (told_facts es) ≡ filter holds (map (λ (f : Entry). f.0) es)
          → map (λ (c : List ℕ × Only). c.0) (cons_option
          (option_map {U = List ℕ × Only} (λ y. (e.0, y)) (cond b (Some tt) None)) (told_facts es))
          ≡ cond b (e.0 ∷ filter holds (map (λ (f : Entry). f.0) es)) (filter holds (map (λ (f : Entry). f.0) es))
      by true h = ap (λ (rs : List (List ℕ)). e.0 ∷ rs) h
      by false h = h

  rows_part : parts.IsPart holder_cmp ref_cmp (is_of name value) (λ k. k.2) (λ m. (name, value, m))
  rows_part = record { tied = tied; apart = apart; own = own }
    where
      tied : (m : List ℕ) (k : HolderKey) → is_of name value k ≡ true → holder_cmp (name, value, m) k ≡ ref_cmp m k.2
      tied m k h =
          let both = and_parts (bytes_eq name k.0) (bytes_eq value k.1) h in
          λ i. ordering_then ((ap (λ x. ref_cmp x k.0) ((bytes_eq-Decides name k.0).0 both.0)
          ∙ tied_itself ref_total k.0) i)
          (ordering_then ((ap (λ x. ref_cmp x k.1) ((bytes_eq-Decides value k.1).0 both.1)
          ∙ tied_itself ref_total k.1) i) (ref_cmp m k.2))

      by : (a b c : Ordering) → (is_eq a && is_eq b) ≡ false → is_eq (ordering_then a (ordering_then b c)) ≡ false
      by Less b c h = refl
      by Equal Less c h = refl
      by Equal Equal c h = absurd (true≢false h)
      by Equal Greater c h = refl
      by Greater b c h = refl

      apart : (m : List ℕ) (k : HolderKey) → is_of name value k ≡ false → is_eq (holder_cmp (name, value, m) k) ≡ false
      apart m k h = by (ref_cmp name k.0) (ref_cmp value k.1) (ref_cmp m k.2)
          ((λ i. is_eq-slice_cmp name k.0 i && is_eq-slice_cmp value k.1 i) ∙ h)

      own : (k : HolderKey) → is_of name value k ≡ true → (name, value, k.2) ≡ k
      own k h =
          let both = and_parts (bytes_eq name k.0) (bytes_eq value k.1) h in
          λ i. ((bytes_eq-Decides name k.0).0 both.0 i, (bytes_eq-Decides value k.1).0 both.1 i, k.2)

  abbrev Row : Type 0
  Row = HolderKey × ℕ

  abbrev told_rows : List Row → List (List ℕ × Only)
  told_rows es = parts.told (is_of name value) (λ k. k.2) (λ m. Some tt) es

  rows_firsts : (es : List Row) → map (λ (c : List ℕ × Only). c.0) (told_rows es)
      ≡ map (λ (e : Row). e.0.2) (filter (λ (e : Row). is_of name value e.0) es)
  rows_firsts [] = refl
  rows_firsts (e ∷ es) = by (is_of name value e.0) (rows_firsts es)
    where
      by : (b : Bool) → map (λ (c : List ℕ × Only). c.0) (told_rows es)
          ≡ map (λ (f : Row). f.0.2) (filter (λ (f : Row). is_of name value f.0) es)
          → map (λ (c : List ℕ × Only). c.0) (cons_option
          (cond b (option_map {U = List ℕ × Only} (λ y. (e.0.2, y)) (Some tt)) None) (told_rows es))
          ≡ map (λ (f : Row). f.0.2) (cond b (e ∷ filter (λ (f : Row). is_of name value f.0) es)
          (filter (λ (f : Row). is_of name value f.0) es))
      by true h = ap (λ (rs : List (List ℕ)). e.0.2 ∷ rs) h
      by false h = h

  pub same_holders : (rows : Holders) → ((p : List ℕ) → contains_key rows (name, value, p) ≡ holds p)
      → rows_holding rows name value ≡ holders facts accepts name value
  same_holders rows h =
      sym (rows_firsts (entries rows))
      ∙ ap (map (λ (c : List ℕ × Only). c.0))
      (same_entries ref_cmp ref_total ref_same (told_rows (entries rows)) (told_facts (entries facts))
      (parts.sorted_of ref_total ref_same rows_part (λ m. Some tt) rows)
      (parts.sorted_of ref_total ref_same facts_part tell_holder facts)
      (λ q.
      parts.find_of ref_total ref_same rows_part (λ m. Some tt) rows q
      ∙ ap (λ (b : Bool). cond b (Some tt) None) (h q) ∙ own_fact q
      ∙ sym (parts.find_of ref_total ref_same facts_part tell_holder facts q)))
      ∙ facts_firsts (entries facts) ∙ sym holders_kept
    where
      own_fact : (q : List ℕ) → ◌≡◌ {A = Option Only} (cond (holds q) (Some tt) None)
          (cond (contains_key facts q) (cond (holds q) (Some tt) None) None)
      own_fact q = by (holds q) (contains_key facts q) (known q)
        where
          by : (a b : Bool) → (a ≡ true → b ≡ true)
              → ◌≡◌ {A = Option Only} (cond a (Some tt) None) (cond b (cond a (Some tt) None) None)
          by true b h = ap (λ (c : Bool). cond c (Some tt) None) (sym (h refl))
          by false true h = refl
          by false false h = refl

module _ (facts : Facts) (accepts : Accepts) (state : States) (waiters : Waiters) (deletes : Deletes)
    (changes : Changes) (rows : Holders) (rest : IsAtRest facts accepts state waiters deletes changes rows)
    (name value : List ℕ) where
  row_of_holder : (p : List ℕ) → contains_key rows (name, value, p) ≡ is_holder facts accepts Always name value p
  row_of_holder p = rest.held.held name value p refl
      ∙ holder_said facts accepts state rest.arrived rest.judged deletes changes rest.deleted rest.changed name value p

  in_order : rows_holding rows name value ≡ holders facts accepts name value
  in_order = same_holders facts accepts name value rows row_of_holder

  each : (p : List ℕ) → contains_key rows (name, value, p) ≡ list_any (bytes_eq p) (holders facts accepts name value)
  each p = row_of_holder p ∙ sym (is_among facts accepts name value p)

pub rows_tell_holders : RowsTellHolders
rows_tell_holders = in_order

pub row_is_of_holder : RowIsOfHolder
row_is_of_holder = each
