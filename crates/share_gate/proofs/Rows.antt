-- A table with the blob of one ref more.
use Rattle.std.proofs.Common.{◌≡◌, inl, inr, ℕ, ◌+◌, ◌<◌, ◌≤◌, ◌&&◌, ◌||◌, Bool, true, false, cond}
use Rattle.std.proofs.Common.{List, [], ◌++◌, length, take, get_or, Option, Some, None, option_map}
use Rattle.std.proofs.Common.{refl, sym, ap, ◌∙◌}
use Rattle.std.specs.Prelude.{unwrap_or, option_to_list}
use Rattle.std.specs.List.{list_any}
use Rattle.std.specs.Str.{bytes_eq}
use Rattle.std.specs.FinMap.{FinMap, empty, get, insert, get-empty, get-insert}
use Rattle.std.specs.Cmp.Lexicographic.{nat_list_cmp_total}
use Rattle.std.proofs.lemmas.List.{take_all}
use Rattle.std.proofs.lemmas.List.Folds.{list_any-append, list_any_at, list_any_more}
use Rattle.std.proofs.lemmas.Slice.Eq.{bytes_eq-Decides}
use Rattle.std.proofs.lemmas.Map.Text.{is_eq-slice_cmp}
use Rattle.blobref.specs.Blobref.{ref_cmp}
use Rattle.blobref.specs.Sets.{HasSameRefs}
use Rattle.claim_verify.specs.Verifier.{Accepts}
use Rattle.claim_model.specs.Facts.{Content, Facts, passes}
use Rattle.share_model.specs.Links.{links_in}
use Rattle.share_model.specs.Reach.{has_link}
use Rattle.share_model.proofs.Cases.{by_bool}
use Rattle.share_gate.specs.declared.gate.ShareRow.{ShareRow}
use Rattle.share_gate.specs.Tables.{LinkRows, ShareRows, links_at, row_at, target_deleted_by}
use Rattle.share_gate.specs.Tables.{AreLinks, AreShares, AreDeleted, PutsLinks, PutsShare}
use Rattle.share_gate.proofs.Small.{or_true, or_false, and_false, cond_none, same}

-- a row that was put
put_at : {X : Type 0} (m : FinMap ref_cmp X) (r p : List ℕ) (row : X)
    → get (insert m r row) p ≡ cond (bytes_eq p r) (Some row) (get m p)
put_at m r p row =
    get-insert nat_list_cmp_total m r row p ∙ ap (λ b. cond b (Some row) (get m p)) (is_eq-slice_cmp p r)

-- ---- some refs, and one more

module _ (refs : List (List ℕ)) (i : ℕ) (r : List ℕ) (lt : i < length refs) (item : r ≡ get_or refs i r) where
  -- a test of the refs so far, and of this one
  more : (f : List ℕ → Bool) → list_any f (take (i + 1) refs) ≡ (list_any f (take i refs) || f r)
  more f = list_any_more f refs i r lt ∙ ap (λ x. list_any f (take i refs) || f x) (sym item)

  among : (p : List ℕ) → bytes_eq p r ≡ true → list_any (bytes_eq p) (take (i + 1) refs) ≡ true
  among p is =
      more (bytes_eq p) ∙ ap (λ b. list_any (bytes_eq p) (take i refs) || b) is
      ∙ or_true (list_any (bytes_eq p) (take i refs))

  as_before : (p : List ℕ) → bytes_eq p r ≡ false
      → list_any (bytes_eq p) (take (i + 1) refs) ≡ list_any (bytes_eq p) (take i refs)
  as_before p other =
      more (bytes_eq p) ∙ ap (λ b. list_any (bytes_eq p) (take i refs) || b) other
      ∙ or_false (list_any (bytes_eq p) (take i refs))

  -- ---- links

  module _ (held : Content) where
    link_at : (q : List ℕ) → list_any (bytes_eq q) (links_at held r) ≡ has_link held r q
    link_at q = by (get held r)
      where
        by : (o : Option (List ℕ)) → list_any (bytes_eq q) (unwrap_or (option_map links_in o) [])
            ≡ passes (λ bytes. list_any (bytes_eq q) (links_in bytes)) o
        by None = refl
        by (Some bytes) = refl

    pub links_more : (old new : LinkRows) → AreLinks held (take i refs) old → PutsLinks old new r (links_at held r)
        → AreLinks held (take (i + 1) refs) new
    links_more old new before (inl (row, (links, is))) p q =
        let f : Option (List (List ℕ)) → Bool = passes (list_any (bytes_eq q)) in
        ap (λ (m : LinkRows). f (get m p)) is ∙ ap f (put_at old r p row) ∙ by_bool (bytes_eq p r)
        (λ yes.
        ap (λ b. f (cond b (Some row) (get old p))) yes ∙ links q ∙ link_at q
        ∙ ap (λ x. has_link held x q) (sym (same p r yes))
        ∙ sym (ap (λ b. b && has_link held p q) (among p yes)))
        (λ other.
        ap (λ b. f (cond b (Some row) (get old p))) other ∙ before p q
        ∙ sym (ap (λ b. b && has_link held p q) (as_before p other)))
    links_more old new before (inr (none, is)) p q =
        let f : Option (List (List ℕ)) → Bool = passes (list_any (bytes_eq q)) in
        ap (λ (m : LinkRows). f (get m p)) is ∙ before p q ∙ by_bool (bytes_eq p r)
        (λ yes.
        let no : has_link held p q ≡ false =
        ap (λ x. has_link held x q) (same p r yes) ∙ sym (link_at q) ∙ ap (list_any (bytes_eq q)) none in
        ap (λ b. list_any (bytes_eq p) (take i refs) && b) no ∙ and_false (list_any (bytes_eq p) (take i refs))
        ∙ sym (ap (λ b. list_any (bytes_eq p) (take (i + 1) refs) && b) no
        ∙ and_false (list_any (bytes_eq p) (take (i + 1) refs))))
        (λ other. sym (ap (λ b. b && has_link held p q) (as_before p other)))

    -- ---- shares

    module _ (accepts : Accepts) where
      abbrev where_among : Bool → List ℕ → Option ShareRow
      where_among b s = cond b (row_at held accepts s) None

      shares_put : (old new : ShareRows) → AreShares held accepts (take i refs) old → (o : Option ShareRow)
          → row_at held accepts r ≡ o → PutsShare old new r o → AreShares held accepts (take (i + 1) refs) new
      shares_put old new before (Some row) at is s =
          ap (λ (m : ShareRows). get m s) is ∙ put_at old r s row ∙ by_bool (bytes_eq s r)
          (λ yes.
          ap (λ b. cond b (Some row) (get old s)) yes ∙ sym at ∙ ap (row_at held accepts) (sym (same s r yes))
          ∙ sym (ap (λ b. where_among b s) (among s yes)))
          (λ other.
          ap (λ b. cond b (Some row) (get old s)) other ∙ before s
          ∙ sym (ap (λ b. where_among b s) (as_before s other)))
      shares_put old new before None at is s =
          ap (λ (m : ShareRows). get m s) is ∙ before s ∙ by_bool (bytes_eq s r)
          (λ yes.
          let none : row_at held accepts s ≡ None = ap (row_at held accepts) (same s r yes) ∙ at in
          ap (λ o. cond (list_any (bytes_eq s) (take i refs)) o None) none
          ∙ cond_none (list_any (bytes_eq s) (take i refs))
          ∙ sym (ap (λ o. cond (list_any (bytes_eq s) (take (i + 1) refs)) o None) none
          ∙ cond_none (list_any (bytes_eq s) (take (i + 1) refs))))
          (λ other. sym (ap (λ b. where_among b s) (as_before s other)))

      pub shares_more : (old new : ShareRows) (row : Option ShareRow) → AreShares held accepts (take i refs) old
          → row ≡ row_at held accepts r → PutsShare old new r row → AreShares held accepts (take (i + 1) refs) new
      shares_more old new row before is puts = shares_put old new before row (sym is) puts

  -- ---- deletions

  one_of : (f : List ℕ → Bool) (o : Option (List ℕ)) → list_any f (option_to_list o) ≡ passes f o
  one_of f None = refl
  one_of f (Some x) = or_false (f x)

  pub deleted_more : (facts : Facts) (accepts : Accepts) (old new : List (List ℕ)) (target : Option (List ℕ))
      → AreDeleted facts accepts (take i refs) old → target ≡ target_deleted_by facts accepts r
      → new ≡ old ++ option_to_list target → AreDeleted facts accepts (take (i + 1) refs) new
  deleted_more facts accepts old new target before by_r is s =
      let f : List ℕ → Bool = λ p. passes (bytes_eq s) (target_deleted_by facts accepts p) in
      ap (list_any (bytes_eq s)) is
      ∙ list_any-append (bytes_eq s) old (option_to_list target)
      ∙ ap (λ b. list_any (bytes_eq s) old || b) (one_of (bytes_eq s) target ∙ ap (passes (bytes_eq s)) by_r)
      ∙ ap (λ b. b || f r) (before s)
      ∙ sym (more f)

-- ---- no ref yet

pub links_none : (held : Content) (rows : LinkRows) → rows ≡ empty → AreLinks held [] rows
links_none held rows is p q =
    ap (λ (m : LinkRows). passes (list_any (bytes_eq q)) (get m p)) is
    ∙ ap (passes (list_any (bytes_eq q))) (get-empty ref_cmp p)

pub shares_none : (held : Content) (accepts : Accepts) (rows : ShareRows) → rows ≡ empty
    → AreShares held accepts [] rows
shares_none held accepts rows is s = ap (λ (m : ShareRows). get m s) is ∙ get-empty ref_cmp s

pub deleted_none : (facts : Facts) (accepts : Accepts) (targets : List (List ℕ)) → targets ≡ []
    → AreDeleted facts accepts [] targets
deleted_none facts accepts targets is s = ap (list_any (bytes_eq s)) is

-- ---- all refs

pub deleted_all : (facts : Facts) (accepts : Accepts) (refs targets set : List (List ℕ)) (i : ℕ)
    → AreDeleted facts accepts (take i refs) targets → length refs ≤ i → HasSameRefs set targets
    → AreDeleted facts accepts refs set
deleted_all facts accepts refs targets set i before le same_refs s =
    same_refs s ∙ before s
    ∙ ap (λ (rs : List (List ℕ)). list_any (λ p. passes (bytes_eq s) (target_deleted_by facts accepts p)) rs)
    (take_all i refs le)

-- an item of a list is among them
pub item_among : (refs : List (List ℕ)) (i : ℕ) (r : List ℕ) → i < length refs → r ≡ get_or refs i r
    → list_any (bytes_eq r) refs ≡ true
item_among refs i r lt item =
    list_any_at (bytes_eq r) refs i r lt (ap (bytes_eq r) (sym item) ∙ (bytes_eq-Decides r r).1 refl)
