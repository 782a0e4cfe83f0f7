-- What a crash leaves is one of the images, and so is what a second one leaves of that.
use Rattle.std.proofs.Common.{◌≡◌, ℕ, ◌≤◌, List, [], ◌++◌, length, take, drop, Bool, true, false, ◌&&◌, not, if◌then◌else◌, Option, None, Some, refl, sym, ◌∙◌, ap, subst, arith, length-append, length-take, length-drop}
use Rattle.std.specs.Option.{option_map, option_and_then}
use Rattle.std.specs.FinMap.{get}
use Rattle.std.proofs.lemmas.List.{length-replicate}
use Rattle.std.proofs.lemmas.List.FromFn.{length-map-range_with_len}
use Rattle.pack_disk.specs.declared.loss.Loss.{Loss}
use Rattle.pack_disk.specs.declared.loss.Loss.TheVariants.{Nothing, Unsynced, Half, AllButFirst, Last, Zeroed, Garbled, Claimed}
use Rattle.pack_disk.specs.Packs.{Packs}
use Rattle.pack_disk.specs.PackState.{PackState, all_bytes, begun, IsPackImage}
use Rattle.pack_disk.specs.declared.remains.Remains.{Remains}
use Rattle.pack_disk.specs.Past.{Past, began_with, told, told_from, state, state_from, first_state, at_number, IsImage}
use Rattle.pack_disk.specs.Left.{loss_of, takes_packs, kept, garbage, claim_text, claimed, spoilt, tail_of, tail_left, left}
use Rattle.pack_disk.specs.Told.{IsPackTold, is_told, get-began_with}

told_fresh : (past : Past) → past.done ≡ [] → told past ≡ began_with past
unfolding told_from
told_fresh past none = ap (told_from (began_with past)) none

-- before the first call a disk tells what it began with
pub told_begun : (past : Past) → past.done ≡ [] → (n : ℕ) → get (told past) n ≡ option_map all_bytes (at_number past.start n)
told_begun past none n = ap (λ packs. get packs n) (told_fresh past none) ∙ get-began_with past n

-- and that counts of each pack
pub state_begun : (past : Past) → past.done ≡ [] → (n : ℕ) → state past n ≡ option_map begun (at_number past.start n)
unfolding state_from
state_begun past none n = ap (λ calls. state_from (first_state past) calls n) none

length-claimed : (bytes : List ℕ) → length (claimed bytes) ≡ length bytes
length-claimed bytes =
    let front = length-take (length bytes) claim_text in
    let rest = length-drop (length claim_text) bytes in
    length-append (take (length bytes) claim_text) (drop (length claim_text) bytes) ∙ omega (arith, front, rest)

-- as many bytes stay, spoilt or not
length-spoilt : (loss : Loss) (choice : ℕ) (bytes : List ℕ) → length (spoilt loss choice bytes) ≡ length bytes
length-spoilt Nothing choice bytes = refl
length-spoilt Unsynced choice bytes = refl
length-spoilt Half choice bytes = refl
length-spoilt AllButFirst choice bytes = refl
length-spoilt Last choice bytes = refl
length-spoilt Zeroed choice bytes = length-replicate (length bytes) 0
length-spoilt Garbled choice bytes = length-map-range_with_len (garbage choice) 0 (length bytes)
length-spoilt Claimed choice bytes = length-claimed bytes

short_left : (loss : Loss) (choice : ℕ) (p : PackState) (o : Option (List ℕ)) → IsPackTold (Some p) o → length (p.synced ++ tail_left loss choice p) ≤ p.longest
short_left loss choice p o is =
    let stays = take (kept loss (length (tail_of p))) (tail_of p) in
    let whole = length-append p.synced (spoilt loss choice stays) in
    let spoilt_long = length-spoilt loss choice stays in
    let cut = length-take (kept loss (length (tail_of p))) (tail_of p) in
    let rest = length-drop (length p.synced) p.now in
    let parts = ap length is.2 ∙ length-append p.synced is.1 in
    omega (arith, whole, spoilt_long, cut, rest, parts, is.3)

-- what is left of a pack is one of its images
left_is_image : (choice : ℕ) (p : PackState) (o : Option (List ℕ)) → IsPackTold (Some p) o → IsPackImage (Some p) (option_map all_bytes (left choice p))
left_is_image choice p o is = go (takes_packs (loss_of choice)) p.named refl
  where
    tail : List ℕ
    tail = tail_left (loss_of choice) choice p

    short : length (p.synced ++ tail) ≤ p.longest
    short = short_left (loss_of choice) choice p o is

    go : (b named : Bool) → p.named ≡ named → IsPackImage (Some p) (option_map all_bytes (if b && not named then None else Some (record { synced = p.synced; tail = tail; named = p.named })))
    go true true e = (tail, refl, short)
    go true false e = e
    go false named e = (tail, refl, short)

-- and each image of what is left is
left_images : (choice : ℕ) (p : PackState) (o q : Option (List ℕ)) → IsPackTold (Some p) o → IsPackImage (option_map begun (left choice p)) q → IsPackImage (Some p) q
left_images choice p o q is = go (takes_packs (loss_of choice)) p.named refl q
  where
    tail : List ℕ
    tail = tail_left (loss_of choice) choice p

    remains : Remains
    remains = record { synced = p.synced; tail = tail; named = p.named }

    short : length (p.synced ++ tail) ≤ p.longest
    short = short_left (loss_of choice) choice p o is

    some : (q : Option (List ℕ)) → IsPackImage (Some (begun remains)) q → IsPackImage (Some p) q
    some None i = i
    some (Some bytes) i = (i.0, i.1, omega (arith, i.2, short))

    go : (b named : Bool) → p.named ≡ named → (q : Option (List ℕ)) → IsPackImage (option_map begun (if b && not named then None else Some remains)) q → IsPackImage (Some p) q
    go true true e q i = some q i
    go true false e None i = e
    go true false e (Some bytes) i = absurd i
    go false named e q i = some q i

pub crash_is_image : (choice : ℕ) (past now : Past) → now.done ≡ [] → ((n : ℕ) → at_number now.start n ≡ option_and_then (left choice) (state past n)) → IsImage (state past) (told now)
crash_is_image choice past now none is n =
    subst (IsPackImage (state past n)) (sym (told_begun now none n ∙ ap (option_map all_bytes) (is n))) (go (state past n) (get (told past) n) (is_told past n))
  where
    go : (o : Option PackState) (q : Option (List ℕ)) → IsPackTold o q → IsPackImage o (option_map all_bytes (option_and_then (left choice) o))
    go None q t = tt
    go (Some p) q t = left_is_image choice p q t

pub crash_no_new : (choice : ℕ) (past now : Past) → now.done ≡ [] → ((n : ℕ) → at_number now.start n ≡ option_and_then (left choice) (state past n))
    → (image : Packs) → IsImage (state now) image → IsImage (state past) image
crash_no_new choice past now none is image among n =
    go (state past n) (get (told past) n) (is_told past n) (subst (λ o. IsPackImage o (get image n)) (state_begun now none n ∙ ap (option_map begun) (is n)) (among n))
  where
    go : (o : Option PackState) (q : Option (List ℕ)) → IsPackTold o q → IsPackImage (option_map begun (option_and_then (left choice) o)) (get image n) → IsPackImage o (get image n)
    go None q t i = i
    go (Some p) q t i = left_images choice p q (get image n) t i
