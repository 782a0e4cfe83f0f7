-- What maps that are given blobs have.
use Rattle.std.proofs.Common.{◌≡◌, ◌⊎◌, inl, inr, ℕ, zero, suc, Bool, true, false, cond, not, List, [], ◌∷◌, take, Option, Some, None, refl, sym, ap, ◌∙◌}
use Rattle.std.specs.List.{filter}
use Rattle.std.specs.Option.{is_some, option_or}
use Rattle.std.specs.Ordering.{eq_by_cmp}
use Rattle.std.specs.Cmp.Lexicographic.{nat_list_cmp_total}
use Rattle.std.specs.FinMap.{entries, get, insert, contains_key, find, get-entries, get-insert, same_map, IsAntisymmetric, slice_cmp-IsAntisymmetric, nat_cmp-IsAntisymmetric}
use Rattle.std.proofs.lemmas.Slice.Eq.{bytes_eq-Decides}
use Rattle.std.proofs.lemmas.Map.Text.{is_eq-slice_cmp}
use Rattle.blobref.specs.Blobref.{ref_cmp}
use Rattle.edge_base.specs.Shelf.{Blob, Blobs, with_blob, with_blobs}
use Rattle.sync_core.specs.Copying.{lacking}
use Rattle.replica_ring.specs.Rings.{join, pulled}

pub by_bool : {P : Type 0} (b : Bool) → (b ≡ true → P) → (b ≡ false → P) → P
by_bool true f g = f refl
by_bool false f g = g refl

pub same_refs : IsAntisymmetric ref_cmp
same_refs = slice_cmp-IsAntisymmetric nat_cmp-IsAntisymmetric

pub same_ref : (q r : List ℕ) → eq_by_cmp ref_cmp q r ≡ true → q ≡ r
same_ref q r tied = (bytes_eq-Decides q r).0 (sym (is_eq-slice_cmp q r) ∙ tied)

pub or_none : (o : Option (List ℕ)) → option_or o None ≡ o
or_none None = refl
or_none (Some x) = refl

pub or_assoc : (a b c : Option (List ℕ)) → option_or (option_or a b) c ≡ option_or a (option_or b c)
or_assoc None b c = refl
or_assoc (Some x) b c = refl

pub or_same : (o : Option (List ℕ)) → option_or o o ≡ o
or_same None = refl
or_same (Some x) = refl

pub or_refs : (a b : Option (List ℕ)) → is_some (option_or a b) ≡ is_some (option_or b a)
or_refs None None = refl
or_refs None (Some y) = refl
or_refs (Some x) None = refl
or_refs (Some x) (Some y) = refl

-- what is kept of the first behind the second
hidden : (a b : Option (List ℕ)) → option_or a (cond (not (is_some a)) b None) ≡ option_or a b
hidden None b = refl
hidden (Some x) b = refl

absent : (o : Option (List ℕ)) → is_some o ≡ false → o ≡ None
absent None e = refl
absent (Some x) e = absurd (cc e)

stays : (o x : Option (List ℕ)) → is_some o ≡ true → o ≡ option_or o x
stays None x e = absurd (cc e)
stays (Some y) x e = refl

-- one blob more
one : (b : Bool) (x : List ℕ) (o p : Option (List ℕ)) → option_or o (option_or (cond b (Some x) None) p) ≡ option_or o (cond b (Some x) p)
one true x o p = refl
one false x o p = refl

pub get_with_blob : (held : Blobs) (r bytes q : List ℕ) → get (with_blob held (r, bytes)) q ≡ option_or (get held q) (cond (eq_by_cmp ref_cmp q r) (Some bytes) None)
get_with_blob held r bytes q = by_bool (contains_key held r)
    (λ there. ap (λ b. get (cond b held (insert held r bytes)) q) there ∙ by_bool (eq_by_cmp ref_cmp q r)
    (λ tied. stays (get held q) _ (ap (contains_key held) (same_ref q r tied) ∙ there))
    (λ other. sym (ap (λ b. option_or (get held q) (cond b (Some bytes) None)) other ∙ or_none (get held q))))
    (λ lacks. ap (λ b. get (cond b held (insert held r bytes)) q) lacks ∙ get-insert nat_list_cmp_total held r bytes q ∙ by_bool (eq_by_cmp ref_cmp q r)
    (λ tied. ap (λ b. cond b (Some bytes) (get held q)) tied
    ∙ sym (ap (λ b. option_or (get held q) (cond b (Some bytes) None)) tied ∙ ap (λ o. option_or o (Some bytes)) (absent (get held q) (ap (contains_key held) (same_ref q r tied) ∙ lacks))))
    (λ other. ap (λ b. cond b (Some bytes) (get held q)) other
    ∙ sym (ap (λ b. option_or (get held q) (cond b (Some bytes) None)) other ∙ or_none (get held q))))

pub get_with_blobs : (held : Blobs) (es : List Blob) (q : List ℕ) → get (with_blobs held es) q ≡ option_or (get held q) (find ref_cmp q es)
get_with_blobs held [] q = sym (or_none (get held q))
get_with_blobs held (e ∷ es) q =
    get_with_blobs (with_blob held e) es q
    ∙ ap (λ o. option_or o (find ref_cmp q es)) (get_with_blob held e.0 e.1 q)
    ∙ or_assoc (get held q) (cond (eq_by_cmp ref_cmp q e.0) (Some e.1) None) (find ref_cmp q es)
    ∙ one (eq_by_cmp ref_cmp q e.0) e.1 (get held q) (find ref_cmp q es)

both_none : (b : Bool) → cond {A = Option (List ℕ)} b None None ≡ None
both_none true = refl
both_none false = refl

-- what a filter by refs leaves
pub find_filter : (p : List ℕ → Bool) (es : List Blob) (q : List ℕ) → find ref_cmp q (filter (λ (e : Blob). p e.0) es) ≡ cond (p q) (find ref_cmp q es) None
find_filter p [] q = sym (both_none (p q))
find_filter p (e ∷ es) q = by_bool (p e.0)
    (λ kept. ap (λ b. find ref_cmp q (cond b (e ∷ filter (λ (x : Blob). p x.0) es) (filter (λ (x : Blob). p x.0) es))) kept ∙ by_bool (eq_by_cmp ref_cmp q e.0)
    (λ tied. ap (λ b. cond b (Some e.1) (find ref_cmp q (filter (λ (x : Blob). p x.0) es))) tied
    ∙ sym (ap (λ b. cond b (cond (eq_by_cmp ref_cmp q e.0) (Some e.1) (find ref_cmp q es)) None) (ap p (same_ref q e.0 tied) ∙ kept)
    ∙ ap (λ b. cond b (Some e.1) (find ref_cmp q es)) tied))
    (λ other. ap (λ b. cond b (Some e.1) (find ref_cmp q (filter (λ (x : Blob). p x.0) es))) other ∙ find_filter p es q
    ∙ sym (ap (λ b. cond (p q) (cond b (Some e.1) (find ref_cmp q es)) None) other)))
    (λ left. ap (λ b. find ref_cmp q (cond b (e ∷ filter (λ (x : Blob). p x.0) es) (filter (λ (x : Blob). p x.0) es))) left ∙ find_filter p es q ∙ by_bool (eq_by_cmp ref_cmp q e.0)
    (λ tied. let none : p q ≡ false = ap p (same_ref q e.0 tied) ∙ left in
    ap (λ b. cond b (find ref_cmp q es) None) none ∙ sym (ap (λ b. cond b (cond (eq_by_cmp ref_cmp q e.0) (Some e.1) (find ref_cmp q es)) None) none))
    (λ other. sym (ap (λ b. cond (p q) (cond b (Some e.1) (find ref_cmp q es)) None) other)))

pub find_lacking : (from to : Blobs) (q : List ℕ) → find ref_cmp q (lacking from to) ≡ cond (not (contains_key to q)) (get from q) None
find_lacking from to q = find_filter (λ r. not (contains_key to r)) (entries from) q
    ∙ ap (λ o. cond (not (contains_key to q)) o None) (sym (get-entries from q))

-- a map that is given all that it lacks of another
pub get_join : (a b : Blobs) (q : List ℕ) → get (join a b) q ≡ option_or (get a q) (get b q)
get_join a b q = get_with_blobs a (lacking b a) q ∙ ap (option_or (get a q)) (find_lacking b a q) ∙ hidden (get a q) (get b q)

pub find_take : (n : ℕ) (es : List Blob) (q bytes : List ℕ) → find ref_cmp q (take n es) ≡ Some bytes → find ref_cmp q es ≡ Some bytes
find_take zero es q bytes e = absurd (cc e)
find_take (suc n) [] q bytes e = e
find_take (suc n) (x ∷ es) q bytes e = by_bool (eq_by_cmp ref_cmp q x.0)
    (λ tied. ap (λ b. cond b (Some x.1) (find ref_cmp q es)) tied ∙ sym (ap (λ b. cond b (Some x.1) (find ref_cmp q (take n es))) tied) ∙ e)
    (λ other. ap (λ b. cond b (Some x.1) (find ref_cmp q es)) other
    ∙ find_take n es q bytes (sym (ap (λ b. cond b (Some x.1) (find ref_cmp q (take n es))) other) ∙ e))

-- a map that is given blobs keeps what it had
pub given_keeps : (held : Blobs) (es : List Blob) (q bytes : List ℕ) → get held q ≡ Some bytes → get (with_blobs held es) q ≡ Some bytes
given_keeps held es q bytes e = get_with_blobs held es q ∙ ap (λ o. option_or o (find ref_cmp q es)) e

-- what a pull leaves stood here or there
pub pulled_from : (from : Blobs) (count : ℕ) (to : Blobs) (q bytes : List ℕ) → get (pulled from count to) q ≡ Some bytes
    → (get to q ≡ Some bytes) ⊎ (get from q ≡ Some bytes)
pulled_from from count to q bytes e = by (get to q) refl (sym (get_with_blobs to (take count (lacking from to)) q) ∙ e)
  where
    there : is_some (get to q) ≡ false → cond (not (contains_key to q)) (get from q) None ≡ get from q
    there none = ap (λ b. cond (not b) (get from q) None) none

    by : (o : Option (List ℕ)) → get to q ≡ o → option_or o (find ref_cmp q (take count (lacking from to))) ≡ Some bytes
        → (get to q ≡ Some bytes) ⊎ (get from q ≡ Some bytes)
    by (Some x) is e = inl (is ∙ e)
    by None is e = inr (sym (there (ap is_some is)) ∙ sym (find_lacking from to q) ∙ find_take count (lacking from to) q bytes e)

pub same_maps : (a b : Blobs) → ((q : List ℕ) → get a q ≡ get b q) → a ≡ b
same_maps a b is = same_map nat_list_cmp_total same_refs a b is
