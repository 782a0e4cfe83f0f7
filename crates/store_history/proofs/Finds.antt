-- What a find under a ref and one under a number add and answer.
use Rattle.std.proofs.Common.{◌≡◌, ℕ, zero, suc, ◌+◌, ◌≤◌, List, [], ◌∷◌, cond, true, false, nat_eq, Option, Some, None}
use Rattle.std.proofs.Common.{IfSome, Result, Ok, Err, IfOk, refl, sym, ap, subst, ◌∙◌, arith, slice_get, ◌↔◌}
use Rattle.std.specs.List.{position_from}
use Rattle.std.specs.Option.{ForSome, option_map}
use Rattle.std.specs.Cmp.Lexicographic.{pointwise}
use Rattle.std.specs.Map.{lookup}
use Rattle.std.proofs.lemmas.Bool.{or_left, or_right}
use Rattle.std.proofs.lemmas.Cmp.{nat_list_eq_equiv}
use Rattle.std.proofs.lemmas.Option.{slice_get_past}
use Rattle.blobref.specs.Blobref.{IsOwnRef}
use Rattle.edge_base.specs.Edge.{FaultsRose}
use Rattle.edge_base.specs.declared.answers.GetFault.{GetFault}
use Rattle.edge_base.specs.declared.answers.GetFault.TheVariants as unread
use Rattle.pack_disk.specs.declared.disk.Disk.{Ghosts}
use Rattle.pack_store.specs.declared.reading.UncheckedBlob.{UncheckedBlob}
use Rattle.pack_store.specs.Archive.{Archive, count}
use Rattle.pack_store.specs.Rows as stood
use Rattle.pack_store.specs.Reading as read
use Rattle.pack_store.specs.Finding.{IsFound, bytes_found, arrival_found}
use Rattle.pack_store.proofs.Held.{some_same}
use Rattle.histories.specs.Stores.{Blob, arrivals, bytes_of, has_ref, number_of, is_ref}
use Rattle.histories.specs.StoreCalls.{GetSpec, ArrivalSpec}
use Rattle.store_history.specs.Represents.{is_told, AddsEntry}
use Rattle.store_history.specs.Finding.{find_entry, checked_get, checked_arrival}
use Rattle.store_history.proofs.Rows.{same_count, same_number, same_entry, same_entry_at, blob_under, has_some}
use Rattle.store_history.proofs.Founds.{found_adds, get_says, arrival_says}

-- ---- under a ref

none_from : (r : List ℕ) (n : ℕ) (blobs : List Blob) → position_from (λ (b : Blob). is_ref r b.0) n blobs ≡ None →
    bytes_of r blobs ≡ None
none_from r n [] none = refl
none_from r n (b ∷ blobs) none = elim (is_ref r b.0) as
    (λ t. cond t (Some n) (position_from (λ (b : Blob). is_ref r b.0) (n + 1) blobs) ≡ None → cond t (Some b.1)
    (bytes_of r blobs) ≡ None) [
      | true ↦ λ here. absurd (cc here)
      | false ↦ λ later. none_from r (n + 1) blobs later
    ] none

none_under : (r : List ℕ) (blobs : List Blob) → number_of r blobs ≡ None → blob_under r blobs ≡ None
none_under r blobs none = ap (option_map {U = Blob} (λ (bytes : List ℕ). (r, bytes))) (none_from r 0 blobs none)

under_arrived : (r : List ℕ) (blobs : List Blob) (q own : List ℕ) → blob_under r blobs ≡ Some (q, own) → has_ref q blobs
    ≡ true
under_arrived r blobs q own at = go (bytes_of r blobs) refl at
  where
    go : (o : Option (List ℕ)) → bytes_of r blobs ≡ o → option_map {U = Blob} (λ (bytes : List ℕ). (r, bytes)) o
        ≡ Some (q, own) → has_ref q blobs ≡ true
    go None is at = absurd (cc at)
    go (Some bytes) is at = subst (λ (x : List ℕ). has_ref x blobs ≡ true)
        (ap (λ (b : Blob). b.0) (some_same (r, bytes) (q, own) at)) (has_some r bytes blobs is)

-- the ref of what is found is the one that was asked
named_as : (r q : List ℕ) (size : ℕ) (o : Option ℕ) → option_map {U = List ℕ × ℕ} (λ (n : ℕ). (r, n)) o ≡ Some (q, size)
    → r ≡ q
named_as r q size None is = absurd (cc is)
named_as r q size (Some n) is = ap (λ (e : List ℕ × ℕ). e.0) (some_same (r, n) (q, size) is)

pub find_adds : {D : Type 0} (g : Ghosts D) (made : ℕ) (old new : Archive D) (r : List ℕ)
    (result : Result (Option UncheckedBlob) GetFault)
    → ((result ≡ Ok None) ↔ (stood.number_of r old.rows ≡ None)) →
    IfOk result (λ found. IfSome found (IsFound (read.entry_of r old.rows)))
    → IfOk result (λ found. ForSome (g.packs old.disk) (λ held. bytes_found found ≡ read.bytes_of r held old.rows))
    → IfOk result (λ found. IfSome found (λ b. ForSome (g.packs old.disk) (λ held. IsOwnRef b.r b.bytes)))
    → read.IsDamage None (g.packs old.disk) result → read.StaysStill g old new →
    (result ≡ Err unread.Disk → FaultsRose (g.faults old.disk) (g.faults new.disk)) →
    g.faults old.disk ≤ g.faults new.disk
    → AddsEntry g made old new (find_entry result (g.faults old.disk) (g.faults new.disk))
    (λ before entry. GetSpec (is_told g old) r before (checked_get result) entry)
find_adds g made old new r result none placed bytes own damage still rose later h turn represents before =
    let blobs = arrivals h in
    let both = found_adds g made old new still later h turn represents (blob_under r blobs) (read.entry_of r old.rows)
    (same_entry old.rows blobs represents.rows r) (under_arrived r blobs) result
    (λ is. none_under r blobs (sym (same_number old.rows blobs represents.rows r) ∙ none.0 is)) placed
    (λ b is held told.
    let here : IsFound (read.entry_of r old.rows) b =
    subst (λ o. IfOk o (λ found. IfSome found (IsFound (read.entry_of r old.rows)))) is placed in
    let there : Some b.bytes ≡ read.bytes_of r held old.rows =
    subst (λ o. IfOk o (λ found. ForSome (g.packs old.disk) (λ held. bytes_found found
    ≡ read.bytes_of r held old.rows))) is bytes held told in
    let name : r ≡ b.r = named_as r b.r here.size (read.size_of r old.rows) here.asked_for in
    ap (option_map {U = Blob} (λ (x : List ℕ). (r, x)))
    (sym (there ∙ ap (lookup (pointwise nat_eq r)) (represents.told held told))) ∙ (λ i. Some (name i, b.bytes)))
    own damage rose in
    (both.0, get_says (is_told g old) r blobs result (find_entry result (g.faults old.disk) (g.faults new.disk)) both.1)

-- ---- under a number

at_arrived : (blobs : List Blob) (n : ℕ) (q own : List ℕ) → slice_get blobs n ≡ Some (q, own) → has_ref q blobs ≡ true
at_arrived [] n q own at = absurd (cc at)
at_arrived (b ∷ blobs) zero q own at =
    or_left (is_ref q b.0) _ (subst (λ (x : List ℕ). is_ref q x ≡ true)
    (ap (λ (e : Blob). e.0) (sym (some_same b (q, own) at))) (nat_list_eq_equiv.refl q))
at_arrived (b ∷ blobs) (suc n) q own at = or_right (is_ref q b.0) _ (at_arrived blobs n q own at)

pub find_number_adds : {D : Type 0} (g : Ghosts D) (made : ℕ) (old new : Archive D) (n : ℕ)
    (result : Result (Option UncheckedBlob) GetFault)
    → (result ≡ Ok None → count old ≤ n) → IfOk result (λ found. IfSome found (IsFound (read.entry_at n old.rows)))
    → IfOk result (λ found. ForSome (g.packs old.disk) (λ held. arrival_found found
    ≡ slice_get (stood.arrivals_in held old.rows) n))
    → IfOk result (λ found. IfSome found (λ b. ForSome (g.packs old.disk) (λ held. IsOwnRef b.r b.bytes)))
    → read.IsDamage None (g.packs old.disk) result → read.StaysStill g old new →
    (result ≡ Err unread.Disk → FaultsRose (g.faults old.disk) (g.faults new.disk)) →
    g.faults old.disk ≤ g.faults new.disk
    → AddsEntry g made old new (find_entry result (g.faults old.disk) (g.faults new.disk))
    (λ before entry. ArrivalSpec (is_told g old) n before (checked_arrival result) entry)
find_number_adds g made old new n result none placed bytes own damage still rose later h turn represents before =
    let blobs = arrivals h in
    let counted = same_count old.rows blobs represents.rows in
    let both = found_adds g made old new still later h turn represents (slice_get blobs n) (read.entry_at n old.rows)
    (same_entry_at old.rows blobs represents.rows n) (at_arrived blobs n) result
    (λ is. slice_get_past blobs n (let le : count old ≤ n = none is in omega (arith, le, counted))) placed
    (λ b is held told.
    let there : Some (b.r, b.bytes) ≡ slice_get (stood.arrivals_in held old.rows) n
    = subst (λ o. IfOk o (λ found. ForSome (g.packs old.disk) (λ held. arrival_found found
    ≡ slice_get (stood.arrivals_in held old.rows) n))) is bytes held told in
    sym (there ∙ ap (λ xs. slice_get xs n) (represents.told held told)))
    own damage rose in (
      both.0,
      arrival_says (is_told g old) n blobs result (find_entry result (g.faults old.disk) (g.faults new.disk))
          both.1,
    )
