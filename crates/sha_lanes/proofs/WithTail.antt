-- A message's whole blocks with a tail after them.
use Rattle.std.proofs.Common.{◌≡◌, ℕ, ◌+◌, ◌-◌, ◌*◌, ◌/◌, ◌%◌, ◌<◌, ◌≤◌, List, ◌++◌, length, take, drop, sym, ap, ◌∙◌, arith, length-drop}
use Rattle.std.proofs.lemmas.List.{take-append-drop, take-append-le, drop-append-le, append_assoc, drop-take, take-take, take_all, length-take-le}
use Rattle.std.proofs.Math.Seq.{drop-append-add}
use Rattle.sha2.specs.Sha256.{hash_after, padding}
use Rattle.sha2.proofs.Absorbing256.{hash_after-append}
use Rattle.sha_lanes.specs.Message.{IsTail, block_count, block_in, block_of, padded_rest, whole_blocks, with_tail}
use Rattle.sha_lanes.proofs.Tails.{length-padded_rest, padded_none}

-- one of the whole blocks
pub with_tail_whole : (m t : List ℕ) (i : ℕ) → i < whole_blocks (length m) → take 64 (drop (i * 64) m) ≡ block_in (with_tail m t) i
with_tail_whole m t i lt =
    let n : ℕ = whole_blocks (length m) * 64 in
    let front : List ℕ = take n m in
    let long : length front ≡ n = length-take-le n m (omega arith) in
    let fits : 64 ≤ length (drop (i * 64) front) = omega (arith, length-drop (i * 64) front) in
    let rest : n ≡ i * 64 + (n - i * 64) = omega arith in
    let inner : take 64 (drop (i * 64) front) ≡ take 64 (drop (i * 64) m) =
    ap (λ k. take 64 (drop (i * 64) (take k m))) rest ∙ ap (take 64) (drop-take (i * 64) (n - i * 64) m) ∙ take-take 64 (n - i * 64) (drop (i * 64) m) (omega arith) in
    sym inner ∙ sym (take-append-le 64 (drop (i * 64) front) t fits) ∙ ap (take 64) (sym (drop-append-le (i * 64) front t (omega arith)))

-- one of the tail's
pub with_tail_rest : (m t : List ℕ) (i d : ℕ) → i ≡ whole_blocks (length m) + d → take 64 (drop (d * 64) t) ≡ block_in (with_tail m t) i
with_tail_rest m t i d at =
    let n : ℕ = whole_blocks (length m) * 64 in
    let long : length (take n m) ≡ n = length-take-le n m (omega arith) in
    let place : i * 64 ≡ length (take n m) + d * 64 = omega arith in
    ap (take 64) (sym (drop-append-add (take n m) t (d * 64))) ∙ ap (λ k. take 64 (drop k (with_tail m t))) (sym place)

-- with its own tail the rest of a message begins with that rest and the message's padding
pub with_tail_padded : (m t : List ℕ) (v : ℕ) → IsTail t m v
    → with_tail m t ≡ padded_rest v m ++ drop (64 * (block_count (length m) - whole_blocks (length m))) t
unfolding IsTail
with_tail_padded m t v tail =
    let n : ℕ = whole_blocks (length m) * 64 in
    let k : ℕ = 64 * (block_count (length m) - whole_blocks (length m)) in
    let p : List ℕ = padded_rest v m in
    let front : take n p ≡ take n m = take-append-le n m (padding (v + length m)) (omega arith) in
    ap (λ x. take n m ++ x) (sym (take-append-drop k t))
    ∙ ap (λ x. take n m ++ (x ++ drop k t)) tail
    ∙ ap (λ x. x ++ (drop n p ++ drop k t)) (sym front)
    ∙ sym (append_assoc (take n p) (drop n p) (drop k t))
    ∙ ap (λ x. x ++ drop k t) (take-append-drop n p)

-- so a message's blocks are these
pub block_with_tail : (m t : List ℕ) (i : ℕ) → IsTail t m 0 → i < block_count (length m) → block_in (with_tail m t) i ≡ block_of m i
block_with_tail m t i tail lt =
    let p : List ℕ = padded_rest 0 m in
    let x : List ℕ = drop (64 * (block_count (length m) - whole_blocks (length m))) t in
    let long = length-padded_rest 0 m (omega arith) in
    let fits : 64 ≤ length (drop (i * 64) p) = omega (arith, length-drop (i * 64) p) in
    ap (λ l. take 64 (drop (i * 64) l)) (with_tail_padded m t 0 tail)
    ∙ ap (take 64) (drop-append-le (i * 64) p x (omega arith))
    ∙ take-append-le 64 (drop (i * 64) p) x fits
    ∙ ap (λ l. block_in l i) (padded_none m)

-- and so is the hash value
pub hash_with_tail : (h m t : List ℕ) (v i : ℕ) → v % 64 ≡ 0 → IsTail t m v → i ≤ block_count (length m)
    → hash_after h (with_tail m t) i ≡ hash_after h (padded_rest v m) i
hash_with_tail h m t v i even tail le =
    let p : List ℕ = padded_rest v m in
    let x : List ℕ = drop (64 * (block_count (length m) - whole_blocks (length m))) t in
    let long = length-padded_rest v m even in
    ap (λ l. hash_after h l i) (with_tail_padded m t v tail) ∙ hash_after-append h p x i (omega arith)

-- after whole blocks no tail counts
pub hash_whole : (h b t : List ℕ) (n : ℕ) → length b % 64 ≡ 0 → n ≡ length b / 64 → hash_after h (with_tail b t) n ≡ hash_after h b n
hash_whole h b t n even count =
    let all : take (whole_blocks (length b) * 64) b ≡ b = take_all (whole_blocks (length b) * 64) b (omega arith) in
    ap (λ l. hash_after h (l ++ t) n) all ∙ hash_after-append h b t n (omega arith)
