-- What events leave of the stores.
use Rattle.std.proofs.Common.{◌≡◌, ◌⊎◌, inl, inr, ℕ, zero, suc, ◌≤◌, ◌<◌, Bool, true, false, cond, not, List, [], ◌∷◌, length, take, Option, Some, None, refl, sym, ap, subst, ◌∙◌, arith}
use Rattle.std.specs.List.{filter}
use Rattle.std.specs.Option.{is_some, option_or}
use Rattle.std.specs.Ordering.{eq_by_cmp}
use Rattle.std.specs.FinMap.{entries, empty, get, len-empty, len-entries}
use Rattle.std.proofs.Common.{take_all}
use Rattle.blobref.specs.Blobref.{ref_cmp}
use Rattle.edge_base.specs.Shelf.{Blob, Blobs, with_blob, with_blobs}
use Rattle.sync_core.specs.Copying.{lacking}
use Rattle.replica_ring.specs.declared.events.RingEvent.{RingEvent}
use Rattle.replica_ring.specs.declared.events.RingEvent.TheVariants.{Upload, Pull, Stop}
use Rattle.replica_ring.specs.Rings.{at, changed, pulled, is_valid, uploaded, all_uploaded, step, run, IsQuiet, AreQuiet, IsFull, HasFull, AreValid, AreAllValid}
use Rattle.replica_ring.specs.Laws.{EventsKeep, EventsKeepValid, OthersChangeNothing}
use Rattle.replica_ring.proofs.Maps.{by_bool, get_with_blob, same_ref, given_keeps, pulled_from, get_join}

-- a change that takes nothing away
abbrev pub Grows : (Blobs → Blobs) → Type 0
Grows f = (held : Blobs) (r bytes : List ℕ) → get held r ≡ Some bytes → get (f held) r ≡ Some bytes

pub changed_keeps : (f : Blobs → Blobs) → Grows f → (t : ℕ) (ms : List Blobs) (i : ℕ) (r bytes : List ℕ)
    → get (at ms i) r ≡ Some bytes → get (at (changed t f ms) i) r ≡ Some bytes
changed_keeps f grows t [] i r bytes e = e
changed_keeps f grows zero (m ∷ ms) zero r bytes e = grows m r bytes e
changed_keeps f grows zero (m ∷ ms) (suc i) r bytes e = e
changed_keeps f grows (suc t) (m ∷ ms) zero r bytes e = e
changed_keeps f grows (suc t) (m ∷ ms) (suc i) r bytes e = changed_keeps f grows t ms i r bytes e

-- what is there then was there before, or is of the changed map
pub changed_from : (f : Blobs → Blobs) (t : ℕ) (ms : List Blobs) (i : ℕ) (r bytes : List ℕ) → get (at (changed t f ms) i) r ≡ Some bytes
    → (get (at ms i) r ≡ Some bytes) ⊎ (get (f (at ms i)) r ≡ Some bytes)
changed_from f t [] i r bytes e = inl e
changed_from f zero (m ∷ ms) zero r bytes e = inr e
changed_from f zero (m ∷ ms) (suc i) r bytes e = inl e
changed_from f (suc t) (m ∷ ms) zero r bytes e = inl e
changed_from f (suc t) (m ∷ ms) (suc i) r bytes e = changed_from f t ms i r bytes e

pub changed_here : (f : Blobs → Blobs) (t : ℕ) (ms : List Blobs) → t < length ms → at (changed t f ms) t ≡ f (at ms t)
changed_here f t [] lt = absurd (omega (arith, lt))
changed_here f zero (m ∷ ms) lt = refl
changed_here f (suc t) (m ∷ ms) lt = changed_here f t ms (omega (arith, lt))

pub changed_length : (f : Blobs → Blobs) (t : ℕ) (ms : List Blobs) → length (changed t f ms) ≡ length ms
changed_length f t [] = refl
changed_length f zero (m ∷ ms) = refl
changed_length f (suc t) (m ∷ ms) = ap suc (changed_length f t ms)

pub changed_beyond : (f : Blobs → Blobs) (t : ℕ) (ms : List Blobs) → length ms ≤ t → changed t f ms ≡ ms
changed_beyond f t [] le = refl
changed_beyond f zero (m ∷ ms) le = absurd (omega (arith, le))
changed_beyond f (suc t) (m ∷ ms) le = ap (λ l. m ∷ l) (changed_beyond f t ms (omega (arith, le)))

pub changed_still : (f : Blobs → Blobs) → ((m : Blobs) → f m ≡ m) → (t : ℕ) (ms : List Blobs) → changed t f ms ≡ ms
changed_still f still t [] = refl
changed_still f still zero (m ∷ ms) = ap (λ x. x ∷ ms) (still m)
changed_still f still (suc t) (m ∷ ms) = ap (λ l. m ∷ l) (changed_still f still t ms)

pub at_beyond : (ms : List Blobs) (i : ℕ) → length ms ≤ i → at ms i ≡ empty
at_beyond [] i le = refl
at_beyond (m ∷ ms) zero le = absurd (omega (arith, le))
at_beyond (m ∷ ms) (suc i) le = at_beyond ms i (omega (arith, le))

no_entries : (es : List Blob) → length es ≡ 0 → es ≡ []
no_entries [] e = refl
no_entries (x ∷ es) e = absurd (omega (arith, e))

take_none : (n : ℕ) → take {A = Blob} n [] ≡ []
take_none zero = refl
take_none (suc n) = refl

pub upload_grows : (blob : Blob) → Grows (λ h. uploaded h blob)
upload_grows blob held q found e = by_bool (is_valid blob)
    (λ yes. ap (λ b. get (cond b (with_blob held blob) held) q) yes ∙ given_keeps held (blob ∷ []) q found e)
    (λ none. ap (λ b. get (cond b (with_blob held blob) held) q) none ∙ e)

uploads_grow : (es : List Blob) → Grows (λ h. all_uploaded h es)
uploads_grow [] held q found e = e
uploads_grow (x ∷ es) held q found e = uploads_grow es (uploaded held x) q found (upload_grows x held q found e)

step_keeps : (ring : List Blobs) (event : RingEvent) (i : ℕ) (r bytes : List ℕ) → get (at ring i) r ≡ Some bytes
    → get (at (step ring event) i) r ≡ Some bytes
step_keeps ring (Upload store q b) i r bytes e = changed_keeps (λ h. uploaded h (q, b)) (upload_grows (q, b)) store ring i r bytes e
step_keeps ring (Pull source target count) i r bytes e =
    changed_keeps (pulled (at ring source) count) (λ held q found had. given_keeps held (take count (lacking (at ring source) held)) q found had) target ring i r bytes e
step_keeps ring (Stop store also) i r bytes e = changed_keeps (λ h. all_uploaded h also) (uploads_grow also) store ring i r bytes e

pub runs_keep : (ring : List Blobs) (events : List RingEvent) (i : ℕ) (r bytes : List ℕ) → get (at ring i) r ≡ Some bytes
    → get (at (run ring events) i) r ≡ Some bytes
runs_keep ring [] i r bytes e = e
runs_keep ring (event ∷ events) i r bytes e = runs_keep (step ring event) events i r bytes (step_keeps ring event i r bytes e)

pub step_length : (ring : List Blobs) (event : RingEvent) → length (step ring event) ≡ length ring
step_length ring (Upload store q b) = changed_length (λ h. uploaded h (q, b)) store ring
step_length ring (Pull source target count) = changed_length (pulled (at ring source) count) target ring
step_length ring (Stop store also) = changed_length (λ h. all_uploaded h also) store ring

-- ---- where blobs come from

abbrev Stood : List Blobs → List ℕ → List ℕ → Type 0
Stood ring r bytes = (k : ℕ) × (get (at ring k) r ≡ Some bytes)

still_stood : (ring new : List Blobs) → new ≡ ring → (i : ℕ) (r bytes : List ℕ) → get (at new i) r ≡ Some bytes → Stood ring r bytes
still_stood ring new is i r bytes e = (i, ap (λ x. get (at x i) r) (sym is) ∙ e)

step_from : (ring : List Blobs) (event : RingEvent) → IsQuiet ring event → (i : ℕ) (r bytes : List ℕ)
    → get (at (step ring event) i) r ≡ Some bytes → Stood ring r bytes
step_from ring (Upload store q b) quiet i r bytes e = still_stood ring _ quiet i r bytes e
step_from ring (Pull source target count) quiet i r bytes e = whichever (changed_from (pulled (at ring source) count) target ring i r bytes e)
  where
    either : (get (at ring i) r ≡ Some bytes) ⊎ (get (at ring source) r ≡ Some bytes) → Stood ring r bytes
    either (inl here) = (i, here)
    either (inr there) = (source, there)

    whichever : (get (at ring i) r ≡ Some bytes) ⊎ (get (pulled (at ring source) count (at ring i)) r ≡ Some bytes) → Stood ring r bytes
    whichever (inl before) = (i, before)
    whichever (inr now) = either (pulled_from (at ring source) count (at ring i) r bytes now)
step_from ring (Stop store also) quiet i r bytes e = still_stood ring _ quiet i r bytes e

pub runs_from : (ring : List Blobs) (events : List RingEvent) → AreQuiet ring events → (i : ℕ) (r bytes : List ℕ)
    → get (at (run ring events) i) r ≡ Some bytes → Stood ring r bytes
runs_from ring [] quiet i r bytes e = (i, e)
runs_from ring (event ∷ events) quiet i r bytes e =
    let before = runs_from (step ring event) events quiet.1 i r bytes e in
    step_from ring event quiet.0 before.0 r bytes before.1

-- ---- own refs

upload_valid : (held : Blobs) (blob : Blob) → AreValid held → AreValid (uploaded held blob)
upload_valid held blob all r bytes e = by_bool (is_valid blob)
    (λ may. by may (get held r) refl (eq_by_cmp ref_cmp r blob.0) refl
    (sym (get_with_blob held blob.0 blob.1 r) ∙ sym (ap (λ b. get (cond b (with_blob held blob) held) r) may) ∙ e))
    (λ not_so. all r bytes (sym (ap (λ b. get (cond b (with_blob held blob) held) r) not_so) ∙ e))
  where
    by : is_valid blob ≡ true → (o : Option (List ℕ)) → get held r ≡ o → (t : Bool) → eq_by_cmp ref_cmp r blob.0 ≡ t → option_or o (cond t (Some blob.1) None) ≡ Some bytes
        → is_valid (r, bytes) ≡ true
    by may (Some x) is t tied g = all r bytes (is ∙ g)
    by may None is true tied g = let same : bytes ≡ blob.1 = cc (sym g) in (λ i. is_valid (same_ref r blob.0 tied i, same i)) ∙ may
    by may None is false tied g = absurd (cc g)

uploads_valid : (es : List Blob) (held : Blobs) → AreValid held → AreValid (all_uploaded held es)
uploads_valid [] held all = all
uploads_valid (x ∷ es) held all = uploads_valid es (uploaded held x) (upload_valid held x all)

pub step_valid : (ring : List Blobs) (event : RingEvent) → AreAllValid ring → AreAllValid (step ring event)
step_valid ring (Upload store q b) all i r bytes e = by (changed_from (λ h. uploaded h (q, b)) store ring i r bytes e)
  where
    by : (get (at ring i) r ≡ Some bytes) ⊎ (get (uploaded (at ring i) (q, b)) r ≡ Some bytes) → is_valid (r, bytes) ≡ true
    by (inl before) = all i r bytes before
    by (inr now) = upload_valid (at ring i) (q, b) (all i) r bytes now
step_valid ring (Pull source target count) all i r bytes e = by (changed_from (pulled (at ring source) count) target ring i r bytes e)
  where
    either : (get (at ring i) r ≡ Some bytes) ⊎ (get (at ring source) r ≡ Some bytes) → is_valid (r, bytes) ≡ true
    either (inl here) = all i r bytes here
    either (inr there) = all source r bytes there

    by : (get (at ring i) r ≡ Some bytes) ⊎ (get (pulled (at ring source) count (at ring i)) r ≡ Some bytes) → is_valid (r, bytes) ≡ true
    by (inl before) = all i r bytes before
    by (inr now) = either (pulled_from (at ring source) count (at ring i) r bytes now)
step_valid ring (Stop store also) all i r bytes e = by (changed_from (λ h. all_uploaded h also) store ring i r bytes e)
  where
    by : (get (at ring i) r ≡ Some bytes) ⊎ (get (all_uploaded (at ring i) also) r ≡ Some bytes) → is_valid (r, bytes) ≡ true
    by (inl before) = all i r bytes before
    by (inr now) = uploads_valid also (at ring i) (all i) r bytes now

pub events_keep_valid : EventsKeepValid
events_keep_valid ring [] all = all
events_keep_valid ring (event ∷ events) all = events_keep_valid (step ring event) events (step_valid ring event all)

-- ---- full pulls

abbrev Stands : Blobs → List ℕ → Type 0
Stands held r = (bytes : List ℕ) × (get held r ≡ Some bytes)

or_stands : (o : Option (List ℕ)) (bytes : List ℕ) → (b : List ℕ) × (option_or o (Some bytes) ≡ Some b)
or_stands None bytes = (bytes, refl)
or_stands (Some x) bytes = (x, refl)

full_pulls : (ring : List Blobs) (i j : ℕ) (event : RingEvent) → IsFull ring i j event → j < length ring → (r bytes : List ℕ)
    → get (at ring i) r ≡ Some bytes → Stands (at (step ring event) j) r
full_pulls ring i j (Upload store q b) full lt r bytes e = absurd full
full_pulls ring i j (Pull source target count) full lt r bytes e =
    let whole : take count (lacking (at ring i) (at ring j)) ≡ lacking (at ring i) (at ring j) = take_all count (lacking (at ring i) (at ring j)) full.1.1 in
    let s = or_stands (get (at ring j) r) bytes in
    let is : get (at (changed j (pulled (at ring i) count) ring) j) r ≡ Some s.0 =
    ap (λ m. get m r) (changed_here (pulled (at ring i) count) j ring lt)
    ∙ ap (λ es. get (with_blobs (at ring j) es) r) whole
    ∙ get_join (at ring j) (at ring i) r ∙ ap (option_or (get (at ring j) r)) e ∙ s.1 in
    (s.0, (λ k. get (at (changed (full.1.0 k) (pulled (at ring (full.0 k)) count) ring) j) r) ∙ is)
full_pulls ring i j (Stop store also) full lt r bytes e = absurd full

pub full_reaches : (ring : List Blobs) (events : List RingEvent) (i j : ℕ) → HasFull ring i j events → j < length ring → (r bytes : List ℕ)
    → get (at ring i) r ≡ Some bytes → Stands (at (run ring events) j) r
full_reaches ring [] i j has lt r bytes e = absurd has
full_reaches ring (event ∷ events) i j (inl full) lt r bytes e =
    let s = full_pulls ring i j event full lt r bytes e in
    (s.0, runs_keep (step ring event) events j r s.0 s.1)
full_reaches ring (event ∷ events) i j (inr later) lt r bytes e =
    full_reaches (step ring event) events i j later (subst (λ n. j < n) (sym (step_length ring event)) lt) r bytes (step_keeps ring event i r bytes e)

pub events_keep : EventsKeep
events_keep ring events i r bytes e = runs_keep ring events i r bytes e

pub others_change_nothing : OthersChangeNothing
others_change_nothing = record {
  upload = λ ring i r bytes le. changed_beyond (λ h. uploaded h (r, bytes)) i ring le;
  source = λ ring i j count le. changed_still (pulled (at ring i) count)
      (λ m. ap (λ es. with_blobs m es) (nothing (at ring i) count m (at_beyond ring i le))) j ring;
  target = λ ring i j count le. changed_beyond (pulled (at ring i) count) j ring le;
  stop = λ ring i also le. changed_beyond (λ h. all_uploaded h also) i ring le;
}
  where
    nothing : (from : Blobs) (count : ℕ) (m : Blobs) → from ≡ empty → take count (lacking from m) ≡ []
    nothing from count m is =
        ap (λ x. take count (lacking x m)) is ∙ ap (λ es. take count (filter (λ (e : Blob). not (is_some (get m e.0))) es)) (no_entries (entries (empty {X = List ℕ} {R = ref_cmp})) (sym (len-entries (empty {X = List ℕ} {R = ref_cmp})) ∙ len-empty ref_cmp (List ℕ))) ∙ take_none count
