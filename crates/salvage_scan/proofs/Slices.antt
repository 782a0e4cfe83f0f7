-- A finding's bytes stand at its place, and its ref is theirs.
use Rattle.std.proofs.Common.{◌≡◌, ℕ, zero, suc, ◌+◌, ◌-◌, ◌≤◌, List, [], ◌∷◌, ◌++◌, length, take, drop, map, refl, sym, ◌∙◌, ap, arith, length-append}
use Rattle.std.proofs.lemmas.List.{take_at, drop_at}
use Rattle.std.specs.List.{All}
use Rattle.std.proofs.lemmas.List.Elements.{All-append, All-map, All-nil}
use Rattle.blobref.specs.Blobref.{IsOwnRef}
use Rattle.pack_format.specs.Header.{max_size, header, record_under}
use Rattle.salvage_scan.specs.Salvage.{Finding, Front, Kept, Passed, Junk, front, width, found, salvage_past, salvage}
use Rattle.salvage_scan.specs.Rules.{BeginsWithRecord}
use Rattle.salvage_scan.specs.Scan.{place_of, bytes_at, LiesIn}
use Rattle.salvage_scan.specs.Arrivals.{blob_of}
use Rattle.salvage_scan.proofs.Fronts.{length-record_under, record_under-split}
use Rattle.salvage_scan.proofs.Cases.{begins_with_record, front_of-record}

-- it lies in a text that stands at a place
pub record LiesAt (place : ℕ) (x : List ℕ) (f : Finding) : Type 0 where
  pub after : place ≤ f.at
  pub within : f.at + length f.bytes ≤ place + length x
  pub bytes : take (length f.bytes) (drop (f.at - place) x) ≡ f.bytes
  pub named : IsOwnRef f.r f.bytes
  pub small : length f.bytes ≤ max_size

own_moves : {q r x y : List ℕ} → q ≡ r → x ≡ y → IsOwnRef q x → IsOwnRef r y
own_moves e f own = rw (← e, ← f) own

one_later : (place b : ℕ) (x : List ℕ) (f : Finding) → LiesAt (suc place) x f → LiesAt place (b ∷ x) f
one_later place b x f in_rest = record {
  after = omega (arith, in_rest.after);
  within = omega (arith, in_rest.within);
  bytes = (let e : f.at - place ≡ suc (f.at - suc place) = omega (arith, in_rest.after) in rw e in_rest.bytes);
  named = in_rest.named;
  small = in_rest.small;
}

all_later : (place b : ℕ) (x : List ℕ) (fs : List Finding) → All (LiesAt (suc place) x) fs → All (LiesAt place (b ∷ x)) fs
all_later place b x fs all k d lt = one_later place b x _ (all k d lt)

pub All-one : {X : Type 0} (P : X → Type 0) (x : X) → P x → All P (x ∷ [])
All-one P x p zero d lt = p
All-one P x p (suc k) d lt = absurd (omega arith)

-- a record's bytes
slice_of : (x bytes : List ℕ) (w : BeginsWithRecord x) → w.bytes ≡ bytes → take (length bytes) (drop (length (header w.r (length w.bytes))) x) ≡ bytes
slice_of x bytes w same =
    let head = header w.r (length w.bytes) in
    let split : x ≡ head ++ (w.bytes ++ w.rest) = w.whole ∙ record_under-split w.r w.bytes w.rest in
    let behind : drop (length head) x ≡ w.bytes ++ w.rest = ap (drop (length head)) split ∙ drop_at head (w.bytes ++ w.rest) (length head) refl in
    ap (take (length bytes)) behind ∙ take_at w.bytes w.rest (length bytes) (ap length same) ∙ same

lies_here : (place : ℕ) (x r : List ℕ) (start : ℕ) (bytes : List ℕ) → front x ≡ Kept r start bytes → LiesAt place x (record { r = r; at = place + start; bytes = bytes })
lies_here place x r start bytes is =
    let w = begins_with_record x r start bytes is in
    let same : Kept w.r (length (header w.r (length w.bytes))) w.bytes ≡ Kept r start bytes = sym (front_of-record x w) ∙ is in
    let r_is : w.r ≡ r = cc same in
    let start_is : length (header w.r (length w.bytes)) ≡ start = cc same in
    let bytes_is : w.bytes ≡ bytes = cc same in
    let back : place + start - place ≡ length (header w.r (length w.bytes)) = omega (arith, start_is) in
    record {
      after = omega arith;
      within = omega (arith, ap length w.whole, length-append (record_under w.r w.bytes) w.rest, length-record_under w.r w.bytes, ap length bytes_is, start_is);
      bytes = ap (λ n. take (length bytes) (drop n x)) back ∙ slice_of x bytes w bytes_is;
      named = own_moves r_is bytes_is w.own;
      small = rw (← bytes_is) w.small;
    }

in_front : (place : ℕ) (x : List ℕ) (f : Front) → front x ≡ f → All (LiesAt place x) (found place f)
in_front place x (Kept r start bytes) e = All-one (LiesAt place x) _ (lies_here place x r start bytes e)
in_front place x (Passed n) e = All-nil (LiesAt place x)
in_front place x Junk e = All-nil (LiesAt place x)

pub lie_past : (place skip : ℕ) (x : List ℕ) → All (LiesAt place x) (salvage_past place skip x)
unfolding salvage_past
lie_past place skip [] k d lt = All-nil (LiesAt place []) k d lt
lie_past place zero (b ∷ x) k d lt =
    All-append (LiesAt place (b ∷ x)) (found place (front (b ∷ x))) _ (in_front place (b ∷ x) (front (b ∷ x)) refl)
    (all_later place b x _ (lie_past (suc place) (width (front (b ∷ x)) - 1) x)) k d lt
lie_past place (suc skip) (b ∷ x) k d lt = all_later place b x _ (lie_past (suc place) skip x) k d lt

-- each finding lies in its pack
pub each_lies : (pack : List ℕ) → All (LiesAt 0 pack) (salvage pack)
each_lies pack = lie_past 0 0 pack

-- its bytes are those at the place that a scan shows
shown_bytes : (pack : List ℕ) (f : Finding) → LiesAt 0 pack f → bytes_at pack (place_of f) ≡ f.bytes
shown_bytes pack f lies = let same : f.at ≡ f.at - 0 = omega arith in ap (λ n. take (length f.bytes) (drop n pack)) same ∙ lies.bytes

shown_lies : (pack : List ℕ) (f : Finding) → LiesAt 0 pack f → LiesIn pack (place_of f)
shown_lies pack f lies = record {
  within = omega (arith, lies.within);
  named = own_moves refl (sym (shown_bytes pack f lies)) lies.named;
}

-- each place that a scan shows lies in the pack
pub places_lie : (pack : List ℕ) → All (LiesIn pack) (map place_of (salvage pack))
places_lie pack = All-map (LiesIn pack) place_of (salvage pack) (λ k d lt. shown_lies pack _ (each_lies pack k d lt))

-- The pack's bytes at the places that a scan shows are the blobs of its salvage.
pub blobs_at : (pack : List ℕ) → map (λ f. (f.r, bytes_at pack f)) (map place_of (salvage pack)) ≡ map blob_of (salvage pack)
blobs_at pack = go (salvage pack) (each_lies pack)
  where
    go : (fs : List Finding) → All (LiesAt 0 pack) fs → map (λ f. (f.r, bytes_at pack f)) (map place_of fs) ≡ map blob_of fs
    go [] all = refl
    go (f ∷ fs) all =
        let here = shown_bytes pack f (all 0 f (omega arith)) in
        let rest = go fs (λ k d lt. all (suc k) d (omega arith)) in
        (λ i. (f.r, here i) ∷ rest i)
