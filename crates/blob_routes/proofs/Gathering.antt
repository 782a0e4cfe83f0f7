-- What is gathered, one parameter after the other, is what is asked under each number.
use Rattle.std.proofs.Common.{◌≡◌, ◌≢◌, ◌<◌, ◌≤◌, ◌^◌, ◌+◌, ◌-◌, ℕ, Bool, true, false, cond, ◌&&◌, Option, Some, None}
use Rattle.std.proofs.Common.{List, [], ◌∷◌, ◌++◌, map, length, take, drop, set, get_or, replicate, fold}
use Rattle.std.proofs.Common.{refl, sym, ap, ◌∙◌, arith}
use Rattle.std.specs.Prelude.{◌==◌, nat_le}
use Rattle.std.specs.List.{range_with_len}
use Rattle.std.proofs.lemmas.Bool.{cond-true, and_from, and_parts, le-leb, leb-true}
use Rattle.std.proofs.lemmas.Bool.Decides.{Decides-eqb}
use Rattle.std.proofs.lemmas.List.{ext_get_or, get_or-set_same, get_or-set_other, length-set}
use Rattle.std.proofs.lemmas.List.{length-replicate, get_or-replicate}
use Rattle.std.proofs.Math.Seq.{take-append_seam}
use Rattle.std.proofs.lemmas.List.FromFn.{length-map-range_with_len, get_or-map-range_with_len}
use Rattle.blobref.specs.Blobref.{blobref_in}
use Rattle.blob_routes.specs.declared.places.AskedRef.{AskedRef}
use Rattle.blob_routes.specs.declared.places.AskedRef.TheVariants.{Missing, Wrong, Right}
use Rattle.http_exchange.specs.Parameters.{decoded_text, first_value}
use Rattle.blob_routes.specs.Places.{name_of, ref_or_wrong, place_of, asked_at, places_of}
use Rattle.blob_routes.specs.Taking.{number_of, earlier, kept, kept_under, taken}
use Rattle.blob_routes.proofs.Named.{is_number, told_by_number}

earlier-missing : (a : AskedRef) → earlier a Missing ≡ a
earlier-missing Missing = refl
earlier-missing Wrong = refl
earlier-missing (Right r) = refl

-- behind a text, nothing later counts
earlier-text : (a : AskedRef) (o : Option (List ℕ)) (later : AskedRef)
    → earlier (earlier a (ref_or_wrong o)) later ≡ earlier a (ref_or_wrong o)
earlier-text Missing None later = refl
earlier-text Missing (Some r) later = refl
earlier-text Wrong o later = refl
earlier-text (Right r) o later = refl

-- what stands at a place behind one parameter of another number, and of its own
other_stays : (places : List AskedRef) (k i : ℕ) (p : AskedRef) (b : Bool) → nat_le 1 k && nat_le k (length places) ≡ b
    → k ≢ i + 1 → get_or (cond b (set places (k - 1) p) places) i Missing ≡ get_or places i Missing
other_stays places k i p false h other = refl
other_stays places k i p true h other =
    let some : 1 ≤ k = leb-true 1 k (and_parts (nat_le 1 k) (nat_le k (length places)) h).0 in
    get_or-set_other places (k - 1) i p Missing (λ e. other (omega (arith, some, e)))

own_is_set : (places : List AskedRef) (i : ℕ) (p : AskedRef) → i < length places
    → get_or (cond (nat_le 1 (i + 1) && nat_le (i + 1) (length places)) (set places (i + 1 - 1) p) places) i Missing
    ≡ p
own_is_set places i p fits =
    let within = and_from (nat_le 1 (i + 1)) (nat_le (i + 1) (length places)) (le-leb 1 (i + 1) (omega arith))
    (le-leb (i + 1) (length places) (omega (arith, fits))) in
    let at : i + 1 - 1 ≡ i = omega arith in
    ap (λ (xs : List AskedRef). get_or xs i Missing) (cond-true _ _ _ within)
    ∙ ap (λ (j : ℕ). get_or (set places j p) i Missing) at
    ∙ get_or-set_same places i p Missing fits

by_number : (places : List AskedRef) (i k : ℕ) (text : List ℕ) (later : Option (List ℕ)) (b : Bool) → (k == i + 1) ≡ b
    → i < length places → earlier (get_or (kept places k (place_of (Some text))) i Missing) (place_of later)
    ≡ earlier (get_or places i Missing) (place_of (cond b (Some text) later))
by_number places i k text later true own fits =
    let same : k ≡ i + 1 = (Decides-eqb k (i + 1)).0 own in
    let text_at = place_of (Some text) in
    let at : i + 1 - 1 ≡ i = omega arith in
    ap (λ (n : ℕ). earlier (get_or (kept places n text_at) i Missing) (place_of later)) same
    ∙ ap (λ (p : AskedRef). earlier p (place_of later))
    (own_is_set places i (earlier (get_or places (i + 1 - 1) Missing) text_at) fits)
    ∙ ap (λ (j : ℕ). earlier (earlier (get_or places j Missing) text_at) (place_of later)) at
    ∙ earlier-text (get_or places i Missing) (blobref_in text) (place_of later)
by_number places i k text later false own fits =
    let other : k ≢ i + 1 = λ e. absurd (cc (sym own ∙ (Decides-eqb k (i + 1)).1 e)) in
    ap (λ (p : AskedRef). earlier p (place_of later))
    (other_stays places k i (earlier (get_or places (k - 1) Missing) (place_of (Some text))) _ refl other)

by_name : (places : List AskedRef) (i : ℕ) (o : Option ℕ) (text : List ℕ) (later : Option (List ℕ))
    → i < length places → earlier (get_or (kept_under places o (place_of (Some text))) i Missing) (place_of later)
    ≡ earlier (get_or places i Missing) (place_of (cond (is_number (i + 1) o) (Some text) later))
by_name places i None text later fits = refl
by_name places i (Some k) text later fits = by_number places i k text later (k == i + 1) refl fits

length-kept : (places : List AskedRef) (k : ℕ) (p : AskedRef) (b : Bool)
    → length (cond b (set places (k - 1) p) places) ≡ length places
length-kept places k p true = length-set places (k - 1) p
length-kept places k p false = refl

length-kept_under : (places : List AskedRef) (o : Option ℕ) (p : AskedRef)
    → length (kept_under places o p) ≡ length places
length-kept_under places None p = refl
length-kept_under places (Some k) p =
    length-kept places k (earlier (get_or places (k - 1) Missing) p) (nat_le 1 k && nat_le k (length places))

length-gathered : (pairs : List (List ℕ × List ℕ)) (places : List AskedRef)
    → length (fold taken places pairs) ≡ length places
length-gathered [] places = refl
length-gathered (pair ∷ pairs) places =
    length-gathered pairs (taken places pair)
    ∙ length-kept_under places (number_of (decoded_text pair.0)) (place_of (Some (decoded_text pair.1)))

-- each place has what stood there, or else what is asked first under its number
gathered_at : (pairs : List (List ℕ × List ℕ)) (places : List AskedRef) (i : ℕ) → i < length places
    → length places < 10 ^ 9
    → get_or (fold taken places pairs) i Missing ≡ earlier (get_or places i Missing) (asked_at pairs (i + 1))
gathered_at [] places i fits few = sym (earlier-missing (get_or places i Missing))
gathered_at (pair ∷ pairs) places i fits few =
    let same = length-kept_under places (number_of (decoded_text pair.0)) (place_of (Some (decoded_text pair.1))) in
    let later = first_value (name_of (i + 1)) pairs in
    gathered_at pairs (taken places pair) i (omega (arith, fits, same)) (omega (arith, few, same))
    ∙ by_name places i (number_of (decoded_text pair.0)) (decoded_text pair.1) later fits
    ∙ ap (λ (b : Bool). earlier (get_or places i Missing) (place_of (cond b (Some (decoded_text pair.1)) later)))
    (sym (told_by_number (decoded_text pair.0) (i + 1) (omega (arith, fits, few))))

-- from places where nothing stands, all that is asked
pub gathered : (most : ℕ) (pairs : List (List ℕ × List ℕ)) → most < 10 ^ 9
    → fold taken (replicate most Missing) pairs ≡ places_of most pairs
unfolding places_of
gathered most pairs few =
    let empty : List AskedRef = replicate most Missing in
    let size : length empty ≡ most = length-replicate most Missing in
    let all : length (fold taken empty pairs) ≡ most = length-gathered pairs empty ∙ size in
    ext_get_or Missing (fold taken empty pairs) (map (asked_at pairs) (range_with_len 1 most))
    (all ∙ sym (length-map-range_with_len (asked_at pairs) 1 most))
    (λ i h.
    let fits : i < most = omega (arith, h, all) in
    gathered_at pairs empty i (omega (arith, fits, size)) (omega (arith, few, size))
    ∙ ap (λ (p : AskedRef). earlier p (asked_at pairs (i + 1))) (get_or-replicate most i Missing Missing fits)
    ∙ sym (get_or-map-range_with_len (asked_at pairs) 1 most i (i + 1) Missing fits (omega arith)))

-- the same where they are a front of a vector
pub gathered_in : (most len : ℕ) (start items new : List AskedRef) (pairs : List (List ℕ × List ℕ)) → most < 10 ^ 9
    → items ≡ replicate most Missing → len ≡ most → start ≡ items → new ≡ fold taken start pairs
    → take len (new ++ drop (length new) items) ≡ places_of most pairs
gathered_in most len start items new pairs few empty size same is =
    let whole : new ≡ fold taken (replicate most Missing) pairs =
    is ∙ ap (λ (xs : List AskedRef). fold taken xs pairs) (same ∙ empty) in
    let long : length new ≡ len =
    ap length whole ∙ length-gathered pairs (replicate most Missing) ∙ length-replicate most Missing ∙ sym size in
    ap (λ (n : ℕ). take n (new ++ drop (length new) items)) (sym long)
    ∙ take-append_seam new (drop (length new) items)
    ∙ whole ∙ gathered most pairs few
