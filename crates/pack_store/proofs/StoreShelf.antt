-- A store as a shelf.
use Rattle.std.proofs.Common.{◌≡◌, ℕ, ◌≤◌, true, false, cond, Option, None, Some, Result, Ok, Err, IfOk, OnOk, OnErr, List, [], ◌∷◌, ◌++◌, length, nat_lt, nat_eq, refl, sym, ap, subst, ◌∙◌}
use Rattle.std.specs.Cmp.Lexicographic.{nat_list_cmp_total, pointwise, texts_ties}
use Rattle.std.specs.FinMap.{get, entries, from_entries, from_entries_push, find, get-from_entries, slice_cmp-IsAntisymmetric, nat_cmp-IsAntisymmetric, insert, contains_key}
use Rattle.std.specs.Map.{lookup}
use Rattle.std.specs.Option.{ForSome, option_map, is_some}
use Rattle.blobref.specs.Blobref.{IsOwnRef, ref_cmp}
use Rattle.edge_base.specs.Edge.{FaultsRose}
use Rattle.edge_base.specs.Shelf.{Blob, Blobs, with_blob, KeepLeaves, GetCause, Keeps}
use Rattle.edge_base.specs.declared.answers.Put.{Put as Answer}
use Rattle.edge_base.specs.declared.answers.Put.TheVariants as put
use Rattle.edge_base.specs.declared.answers.PutFault.{PutFault}
use Rattle.edge_base.specs.declared.answers.PutFault.TheVariants as fault
use Rattle.edge_base.specs.declared.answers.GetFault.{GetFault}
use Rattle.edge_base.specs.declared.answers.GetFault.TheVariants as getting
use Rattle.pack_format.specs.Header.{max_size}
use Rattle.salvage_scan.specs.Arrivals.{arrivals}
use Rattle.pack_disk.specs.Packs.{Packs}
use Rattle.pack_disk.specs.Disk.{Tells}
use Rattle.pack_disk.specs.declared.disk.Disk.{Ghosts}
use Rattle.pack_store.specs.declared.rows.Row.{Row}
use Rattle.pack_store.specs.Rows.{arrivals_in, number_of}
use Rattle.pack_store.specs.Archive.{Archive, count, greatest, is_full}
use Rattle.pack_store.specs.Reading.{StaysStill, IsDamage, bytes_of, entry_of, size_of}
use Rattle.pack_store.specs.Packs.{HeldByAll, KeepsAll}
use Rattle.pack_store.specs.PutsLast.{PutsLast}
use Rattle.pack_store.specs.Putting.{early_answer_own, Answers, Leaves}
use Rattle.pack_store.specs.Puts.{blobs_of, HasNoRoom, PutLeaves}
use Rattle.pack_store.specs.StoreShelf.{map_of, content_of, PutsStore, ContentStands}
use Rattle.pack_store.proofs.Blobs.{found_or_not, none_of_some}
use Rattle.pack_store.proofs.PutRuns.{stored_when, already_when, put_leaves}

-- ---- what a call that keeps a blob leaves, in a shelf's words

module _ {D : Type 0} (g : Ghosts D) (s new : Archive D) (blob : Blob) where
  pub store_leaves : (answer : Result Answer PutFault) → PutLeaves g s.limits s new blob answer
      → KeepLeaves (λ blobs. PutsStore g s blobs new) (HasNoRoom g new.limits new blob) (g.faults s.disk) (g.faults new.disk) blob answer
  store_leaves (Ok done) l = l
  store_leaves (Err (fault.TooBig size)) l = l
  store_leaves (Err (fault.BadDigest said is)) l = l
  store_leaves (Err (fault.Full blobs pack)) l = (l.0, subst (λ limits. HasNoRoom g limits new blob blobs pack) (sym l.0.same_limits) l.1)
  store_leaves (Err fault.Disk) l = l
  store_leaves (Err fault.NoMemory) l = l

-- a blob that is put under a ref that is its own
module _ {D : Type 0} (g : Ghosts D)
    (counts_now : (d : D) (t : ℕ) (c : Packs) → t ≤ g.moment d → g.images d c → g.images_since d t c)
    (only_now : (d : D) (c : Packs) → g.images_since d (g.moment d) c → g.images d c) where
  pub store_leaves_own : (s new : Archive D) (r bytes : List ℕ) → IsOwnRef r bytes → length bytes ≤ max_size → PutsLast g → (answer : Result Answer PutFault)
      → KeepsAll g s.disk new.disk → Answers (early_answer_own s r (length bytes)) (count s) answer → Leaves g s new r bytes answer → OnOk answer (HeldByAll (g.images new.disk) r)
      → (answer ≡ Err fault.Disk → FaultsRose (g.faults s.disk) (g.faults new.disk))
      → KeepLeaves (λ blobs. PutsStore g s blobs new) (HasNoRoom g new.limits new (r, bytes)) (g.faults s.disk) (g.faults new.disk) (r, bytes) answer
  store_leaves_own s new r bytes own small puts_last answer crash a l held rose = store_leaves g s new (r, bytes) answer
      (put_leaves g s.limits counts_now only_now s new r bytes own puts_last small crash answer a l held rose)

-- ---- what it holds

find_lookup : (r : List ℕ) (es : List (List ℕ × List ℕ)) → find ref_cmp r es ≡ lookup (pointwise nat_eq r) es
find_lookup r [] = refl
find_lookup r (e ∷ es) = let same = sym (texts_ties r e.0) in (λ i. cond (same i) (Some e.1) (find_lookup r es i))

get_map : (r : List ℕ) (rows : List Row) (held : Packs) → get (map_of rows held) r ≡ lookup (pointwise nat_eq r) (arrivals_in held rows)
get_map r rows held = get-from_entries nat_list_cmp_total (arrivals_in held rows) r ∙ find_lookup r (arrivals_in held rows)

has_key : (r : List ℕ) (rows : List Row) (held : Packs) → contains_key (map_of rows held) r ≡ is_some (number_of r rows)
has_key r rows held = ap is_some (get_map r rows held) ∙ found_or_not r held rows 0

with_new : (held : Blobs) (blob : Blob) → contains_key held blob.0 ≡ false → with_blob held blob ≡ insert held blob.0 blob.1
with_new held blob e = ap (λ b. cond b held (insert held blob.0 blob.1)) e

with_old : (held : Blobs) (blob : Blob) → contains_key held blob.0 ≡ true → with_blob held blob ≡ held
with_old held blob e = ap (λ b. cond b held (insert held blob.0 blob.1)) e

grown : (a b : Option Packs) (rows rows_now : List Row) (blob : Blob) → is_some (number_of blob.0 rows) ≡ false
    → Tells a b (λ before now. arrivals_in now rows_now ≡ arrivals_in before rows ++ blob ∷ [])
    → Keeps (option_map (map_of rows) a) (option_map (map_of rows_now) b) (blob ∷ [])
grown None None rows rows_now blob none t = refl
grown None (Some y) rows rows_now blob none t = absurd t
grown (Some x) None rows rows_now blob none t = absurd t
grown (Some x) (Some y) rows rows_now blob none t = ap Some (ap (from_entries {R = ref_cmp}) t
    ∙ from_entries_push nat_list_cmp_total (slice_cmp-IsAntisymmetric nat_cmp-IsAntisymmetric) (arrivals_in x rows) blob.0 blob.1
    (sym (get-from_entries nat_list_cmp_total (arrivals_in x rows) blob.0) ∙ none_of_some (get (map_of rows x) blob.0) (has_key blob.0 rows x ∙ none))
    ∙ sym (with_new (map_of rows x) blob (has_key blob.0 rows x ∙ none)))

stayed : (a : Option Packs) (rows : List Row) (blob : Blob) → is_some (number_of blob.0 rows) ≡ true
    → Keeps (option_map (map_of rows) a) (option_map (map_of rows) a) (blob ∷ [])
stayed None rows blob some = refl
stayed (Some x) rows blob some = ap Some (sym (with_old (map_of rows x) blob (has_key blob.0 rows x ∙ some)))

same_map_of : (a b : Option Packs) (rows rows_now : List Row) → Tells a b (λ before now. arrivals_in now rows_now ≡ arrivals_in before rows)
    → option_map (map_of rows_now) b ≡ option_map (map_of rows) a
same_map_of None None rows rows_now t = refl
same_map_of None (Some y) rows rows_now t = absurd t
same_map_of (Some x) None rows rows_now t = absurd t
same_map_of (Some x) (Some y) rows rows_now t = ap Some (ap (from_entries {R = ref_cmp}) t)

module _ {D : Type 0} (g : Ghosts D) (s new : Archive D) where
  content_kept : (r bytes : List ℕ) (answer : Answer) → Answers (early_answer_own s r (length bytes)) (count s) (Ok answer) → Leaves g s new r bytes (Ok answer)
      → Keeps (content_of g s) (content_of g new) ((r, bytes) ∷ [])
  content_kept r bytes (put.Stored n) a l = grown (g.packs s.disk) (g.packs new.disk) s.rows new.rows (r, bytes)
      (stored_when (nat_lt max_size (length bytes)) (number_of r s.rows) (is_full s) (length bytes) (count s) (greatest s) (count s) n a).0 l.arrived
  content_kept r bytes (put.Already n) a l = subst (λ t. Keeps (content_of g s) (content_of g t) ((r, bytes) ∷ [])) (sym l) (stayed (g.packs s.disk) s.rows (r, bytes)
      (already_when (nat_lt max_size (length bytes)) (number_of r s.rows) (is_full s) (length bytes) (count s) (greatest s) (count s) n a))

  pub content_after : (r bytes : List ℕ) (answer : Result Answer PutFault) → Answers (early_answer_own s r (length bytes)) (count s) answer
      → Leaves g s new r bytes answer → OnOk answer (Keeps (content_of g s) (content_of g new) ((r, bytes) ∷ []))
  content_after r bytes (Ok answer) a l = content_kept r bytes answer a l
  content_after r bytes (Err e) a l = tt

  pub content_refused : (r bytes : List ℕ) (answer : Result Answer PutFault) → Leaves g s new r bytes answer → OnErr answer (content_of g new ≡ content_of g s)
  content_refused r bytes (Ok answer) l = tt
  content_refused r bytes (Err (fault.TooBig size)) l = ap (content_of g) l
  content_refused r bytes (Err (fault.BadDigest said is)) l = ap (content_of g) l
  content_refused r bytes (Err (fault.Full blobs pack)) l = ap (content_of g) l
  content_refused r bytes (Err fault.Disk) l = same_map_of (g.packs s.disk) (g.packs new.disk) s.rows new.rows l.arrived
  content_refused r bytes (Err fault.NoMemory) l = ap (content_of g) l

  pub content_read : StaysStill g s new → content_of g new ≡ content_of g s
  content_read still = ap (λ t. option_map (map_of t.rows) (g.packs new.disk)) still.value ∙ ap (option_map (map_of s.rows)) still.stays.told

  content_found : (r : List ℕ) (found : Option (List ℕ)) → ForSome (g.packs s.disk) (λ held. found ≡ bytes_of r held s.rows)
      → ForSome (content_of g s) (λ held. found ≡ get held r)
  content_found r found are = go (g.packs s.disk) are
    where
      go : (o : Option Packs) → ForSome o (λ held. found ≡ bytes_of r held s.rows) → ForSome (option_map (map_of s.rows) o) (λ held. found ≡ get held r)
      go None are held e = absurd (cc e)
      go (Some x) are held e = are x refl ∙ sym (get_map r s.rows x) ∙ ap (λ m. get m r) (some_content (map_of s.rows x) held e)
        where
          some_content : (a b : Blobs) → Some a ≡ Some b → a ≡ b
          some_content a b e = cc e

  pub content_fetched : (r : List ℕ) (answer : Result (Option (List ℕ)) GetFault) → IfOk answer (λ found. ForSome (g.packs s.disk) (λ held. found ≡ bytes_of r held s.rows))
      → IfOk answer (λ found. ForSome (content_of g s) (λ held. found ≡ get held r))
  content_fetched r (Ok found) are = content_found r found are
  content_fetched r (Err e) are = tt

  wanted : (r want : List ℕ) (size : ℕ) → entry_of r s.rows ≡ Some (want, size) → want ≡ r
  wanted r want size e = go (size_of r s.rows) e
    where
      some_first : (a b : List ℕ × ℕ) → Some a ≡ Some b → b.0 ≡ a.0
      some_first a b e = sym (ap (λ (x : List ℕ × ℕ). x.0) (some_same a b e))
        where
          some_same : (a b : List ℕ × ℕ) → Some a ≡ Some b → a ≡ b
          some_same a b e = cc e

      go : (o : Option ℕ) → option_map {U = List ℕ × ℕ} (λ (n : ℕ). (r, n)) o ≡ Some (want, size) → want ≡ r
      go None e = absurd (cc e)
      go (Some n) e = some_first (r, n) (want, size) e

  pub content_cause : (r : List ℕ) (answer : Result (Option (List ℕ)) GetFault) → IsDamage (entry_of r s.rows) (g.packs s.disk) answer
      → (answer ≡ Err getting.Disk → FaultsRose (g.faults s.disk) (g.faults new.disk))
      → GetCause (content_of g s) (g.faults s.disk) (g.faults new.disk) r answer
  content_cause r (Ok found) damage rose = tt
  content_cause r (Err getting.Disk) damage rose = rose refl
  content_cause r (Err (getting.Damaged want is)) damage rose =
      let same = wanted r want damage.size damage.asked_for in
      (same, λ e. damage.other (e ∙ sym same), ap (option_map (map_of s.rows)) damage.untold)
  content_cause r (Err getting.NoMemory) damage rose = tt

-- a store that is as its disk says holds the blobs of its packs
pub content_stands : {D : Type 0} (g : Ghosts D) → ContentStands g
content_stands g s h = go (g.packs s.disk) h.arrived
  where
    go : (o : Option Packs) → ForSome o (λ held. arrivals_in held s.rows ≡ arrivals (entries held)) → option_map (map_of s.rows) o ≡ option_map blobs_of o
    go None are = refl
    go (Some x) are = ap Some (ap (from_entries {R = ref_cmp}) (are x refl))
