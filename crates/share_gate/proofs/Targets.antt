-- What the blobs of all refs of a store delete.
use Rattle.std.proofs.Common.{◌≡◌, ℕ, ◌&&◌, ◌||◌, Bool, true, false, cond, not, List, [], ◌∷◌, map, refl, sym, ap, ◌∙◌}
use Rattle.std.proofs.Common.{Option, Some, None, option_map}
use Rattle.std.specs.List.{list_any}
use Rattle.std.specs.Option.{is_some, option_and_then}
use Rattle.std.specs.Ordering.{eq_by_cmp}
use Rattle.std.specs.Str.{bytes_eq}
use Rattle.std.specs.FinMap.{entries, get, contains_key, keys, contains_key-keys}
use Rattle.std.proofs.lemmas.Slice.Eq.{bytes_eq-Decides}
use Rattle.std.proofs.lemmas.Map.Text.{is_eq-slice_cmp}
use Rattle.blobref.specs.Blobref.{ref_cmp}
use Rattle.blobref.specs.Sets.{HasSameRefs}
use Rattle.claim_verify.specs.Verifier.{Accepts}
use Rattle.schema_date.specs.declared.date.When.TheVariants.{Always}
use Rattle.schema_fact.specs.declared.kinds.Fact.{Fact}
use Rattle.schema_fact.specs.declared.kinds.What.{What}
use Rattle.schema_fact.specs.declared.kinds.What.TheVariants.{Set, Add, Del, Delete, Multi}
use Rattle.schema_fact.specs.declared.kinds.Kind.{Kind}
use Rattle.schema_fact.specs.declared.kinds.Kind.TheVariants.{Plain, Key, File, Bytes, Directory, StaticSet}
use Rattle.schema_fact.specs.declared.kinds.Kind.TheVariants.{Permanode, Claim, Unread}
use Rattle.schema_json.specs.Facts.{fact_of}
use Rattle.claim_model.specs.Facts.{Content, Entry, Facts, facts_of, passes}
use Rattle.claim_model.specs.Genuine.{is_genuine}
use Rattle.claim_model.specs.Deleted.{deletes, what_deletes, is_deleted}
use Rattle.claim_model.proofs.Held.{facts_are_read}
use Rattle.claim_model.proofs.Entries.{entries_found, any_same}
use Rattle.claim_model.proofs.Least.{same_truth}
use Rattle.share_model.specs.Verdicts.{is_deleted_in}
use Rattle.share_model.proofs.Cases.{by_bool}
use Rattle.share_gate.specs.Tables.{what_target, delete_target, target_deleted_by}
use Rattle.share_gate.specs.Building.{HasRefs}
use Rattle.share_gate.proofs.Small.{or_true, same}

-- ---- tests of lists with the same refs

itself : (r : List ℕ) → bytes_eq r r ≡ true
itself r = (bytes_eq-Decides r r).1 refl

-- one of a list that passes
record Passing (f : List ℕ → Bool) (xs : List (List ℕ)) : Type 0 where
  r : List ℕ
  among : list_any (bytes_eq r) xs ≡ true
  passes_it : f r ≡ true

witness : (f : List ℕ → Bool) (xs : List (List ℕ)) → list_any f xs ≡ true → Passing f xs
witness f [] e = absurd (cc e)
witness f (x ∷ xs) e = by_bool (f x)
    (λ yes. record { r = x; among = ap (λ b. b || list_any (bytes_eq x) xs) (itself x); passes_it = yes })
    (λ none.
    let w = witness f xs (sym (ap (λ b. b || list_any f xs) none) ∙ e) in
    record {
      r = w.r;
      among = ap (λ b. bytes_eq w.r x || b) w.among ∙ or_true (bytes_eq w.r x);
      passes_it = w.passes_it;
    })

passed : (f : List ℕ → Bool) (xs : List (List ℕ)) (p : List ℕ) → list_any (bytes_eq p) xs ≡ true → f p ≡ true
    → list_any f xs ≡ true
passed f [] p e h = absurd (cc e)
passed f (x ∷ xs) p e h = by_bool (bytes_eq p x)
    (λ is. ap (λ b. b || list_any f xs) (ap f (sym (same p x is)) ∙ h))
    (λ other.
    let later = passed f xs p (sym (ap (λ b. b || list_any (bytes_eq p) xs) other) ∙ e) h in
    ap (λ b. f x || b) later ∙ or_true (f x))

any_as : (f : List ℕ → Bool) (xs ys : List (List ℕ)) → HasSameRefs xs ys → list_any f xs ≡ true → list_any f ys ≡ true
any_as f xs ys h e = let w = witness f xs e in passed f ys w.r (sym (h w.r) ∙ w.among) w.passes_it

same_any : (f : List ℕ → Bool) (xs ys : List (List ℕ)) → HasSameRefs xs ys → list_any f xs ≡ list_any f ys
same_any f xs ys h = same_truth (list_any f xs) (list_any f ys) (any_as f xs ys h) (any_as f ys xs (λ r. sym (h r)))

any_map : (f : List ℕ → Bool) (es : List Entry)
    → list_any f (map (λ (e : Entry). e.0) es) ≡ list_any (λ (e : Entry). f e.0) es
any_map f [] = refl
any_map f (e ∷ es) = ap (λ b. f e.0 || b) (any_map f es)

same_key : (q : List ℕ) (xs : List (List ℕ)) → list_any (eq_by_cmp ref_cmp q) xs ≡ list_any (bytes_eq q) xs
same_key q [] = refl
same_key q (x ∷ xs) = (λ i. is_eq-slice_cmp q x i || same_key q xs i)

-- the refs of facts are those of the blobs
fact_refs : (held : Content) (r : List ℕ) → list_any (bytes_eq r) (keys (facts_of fact_of held)) ≡ contains_key held r
fact_refs held r =
    sym (same_key r (keys (facts_of fact_of held)))
    ∙ sym (contains_key-keys (facts_of fact_of held) r)
    ∙ ap is_some (facts_are_read fact_of held r)
    ∙ by (get held r)
  where
    by : (o : Option (List ℕ)) → is_some (option_map fact_of o) ≡ is_some o
    by None = refl
    by (Some bytes) = refl

-- ---- a delete claim as a test of its target

what_as : (s : List ℕ) (what : What) → what_deletes s what ≡ passes (bytes_eq s) (what_target what)
what_as s (Set on attr value) = refl
what_as s (Add on attr value) = refl
what_as s (Del on attr value) = refl
what_as s (Delete target) = refl
what_as s (Multi changes) = refl

deletes_as : (s : List ℕ) (kind : Kind) → deletes s Always kind ≡ passes (bytes_eq s) (delete_target kind)
deletes_as s Plain = refl
deletes_as s (Key name) = refl
deletes_as s (File name parts) = refl
deletes_as s (Bytes parts) = refl
deletes_as s (Directory name listing) = refl
deletes_as s (StaticSet members) = refl
deletes_as s (Permanode signed) = refl
deletes_as s (Claim signed date what) = what_as s what
deletes_as s (Unread type) = refl

both_tests : (b c : Bool) (s : List ℕ) (o : Option (List ℕ))
    → ((passes (bytes_eq s) o && b) && c) ≡ passes (bytes_eq s) (cond (b && c) o None)
both_tests b c s o = by (passes (bytes_eq s) o) b c o refl
  where
    by : (a b c : Bool) (o : Option (List ℕ)) → passes (bytes_eq s) o ≡ a
        → ((a && b) && c) ≡ passes (bytes_eq s) (cond (b && c) o None)
    by true true true o e = sym e
    by true true false o e = refl
    by true false c o e = refl
    by false true true o e = sym e
    by false true false o e = refl
    by false false c o e = refl

-- ---- all refs

module _ (held : Content) (accepts : Accepts) where
  abbrev facts : Facts
  facts = facts_of fact_of held

  abbrev counts : List ℕ → Bool
  counts p = is_genuine facts accepts p && not (is_deleted facts accepts Always p)

  abbrev deletes_it : List ℕ → List ℕ → Bool
  deletes_it s p = passes (bytes_eq s) (target_deleted_by facts accepts p)

  deleter_at : (s : List ℕ) (e : Entry) → get facts e.0 ≡ Some e.1
      → ((deletes s Always e.1.kind && is_genuine facts accepts e.0) && not (is_deleted facts accepts Always e.0))
      ≡ deletes_it s e.0
  deleter_at s e is =
      ap (λ b. (b && is_genuine facts accepts e.0) && not (is_deleted facts accepts Always e.0)) (deletes_as s e.1.kind)
      ∙ both_tests (is_genuine facts accepts e.0) (not (is_deleted facts accepts Always e.0)) s (delete_target e.1.kind)
      ∙ sym (ap (λ (o : Option Fact).
      passes (bytes_eq s) (option_and_then (λ (x : Fact). cond (counts e.0) (delete_target x.kind) None) o)) is)

  pub deleted_as : (s : List ℕ) (refs : List (List ℕ)) → HasRefs refs held
      → list_any (deletes_it s) refs ≡ is_deleted_in held accepts s
  deleted_as s refs has =
      same_any (deletes_it s) refs (keys facts) (λ r. has r ∙ sym (fact_refs held r))
      ∙ any_map (deletes_it s) (entries facts)
      ∙ sym (any_same facts
      (λ (e : Entry).
      (deletes s Always e.1.kind && is_genuine facts accepts e.0) && not (is_deleted facts accepts Always e.0))
      (λ (e : Entry). deletes_it s e.0) (entries facts) (entries_found facts) (λ e is. deleter_at s e is))
