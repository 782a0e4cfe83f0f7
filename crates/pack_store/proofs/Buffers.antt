-- What was read into a buffer is what a pack has there.
use Rattle.std.proofs.Common.{◌≡◌, ℕ, ◌≤◌, true, Option, None, Some, List, ◌++◌, length, take, drop, refl, sym, ap, ◌∙◌, arith, length-drop, ◌+◌}
use Rattle.std.proofs.lemmas.List.{take-append-le, take_all, length-take}
use Rattle.std.specs.Option.{is_some}
use Rattle.pack_disk.specs.Disk.{ReadAt}

-- with room for all bytes of a part of a pack, these bytes
pub read_part : (pack new rest : List ℕ) (at n room len size : ℕ) → ReadAt pack at room n new → room ≡ size → len ≡ size → at + size ≤ length pack → take n (take len (new ++ rest)) ≡ take size (drop at pack)
read_part pack new rest at n room len size read room_is len_is within =
    let count : n ≡ size = omega (arith, read.count, room_is) in
    let long : length (take size (drop at pack)) ≡ size = omega (arith, length-take size (drop at pack), length-drop at pack) in
    let same : take size new ≡ take size (drop at pack) = ap (λ k. take k new) (sym count) ∙ read.bytes ∙ ap (λ k. take k (drop at pack)) count in
    let enough : size ≤ length new = omega (arith, sym (ap length same ∙ long) ∙ length-take size new) in
    let front : take size (new ++ rest) ≡ take size (drop at pack) = take-append-le size new rest enough ∙ same in
    ap (λ k. take k (take len (new ++ rest))) count ∙ ap (λ k. take size (take k (new ++ rest))) len_is ∙ ap (take size) front ∙ take_all size (take size (drop at pack)) (omega (arith, long))

-- with room for a whole pack, the pack
pub read_whole : (pack new rest : List ℕ) (n room len : ℕ) → ReadAt pack 0 room n new → room ≡ length pack → len ≡ length pack → take n (take len (new ++ rest)) ≡ pack
read_whole pack new rest n room len read room_is len_is = read_part pack new rest 0 n room len (length pack) read room_is len_is (omega arith) ∙ take_all (length pack) pack (omega arith)

pub some_bytes : (o : Option (List ℕ)) → is_some o ≡ true → (bytes : List ℕ) × (o ≡ Some bytes)
some_bytes None is = absurd (cc is)
some_bytes (Some bytes) is = (bytes, refl)
