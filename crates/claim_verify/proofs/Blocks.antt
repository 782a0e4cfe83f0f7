-- SHA-256 by its blocks: the first one, and those of the rest of a message.
use Rattle.std.proofs.Common.{◌≡◌, ℕ, zero, suc, ◌+◌, ◌*◌, ◌/◌, List, ◌++◌, length, take, drop, sym, ap, ◌∙◌, arith, length-append}
use Rattle.std.proofs.lemmas.List.{append_assoc, drop-drop, drop_at}
use Rattle.sha2.specs.Sha256.{compress, digest_bytes, hash_after, initial_hash_256, padded_message, padding, sha256}
use Rattle.sha2.proofs.Absorbing256.{hash_after-append, hash_after_next}
use Rattle.sha_lanes.specs.Message.{padded_rest}
use Rattle.claim_verify.specs.Hashing.{digest_after, hash_of_block}

-- so many blocks that are all of a, and then those of b
pub hash_after_both : (h a b : List ℕ) (i j : ℕ) → length a ≡ i * 64 → hash_after h (a ++ b) (i + j) ≡ hash_after (hash_after h a i) b j
unfolding hash_after
hash_after_both h a b i zero long = ap (hash_after h (a ++ b)) (omega arith) ∙ hash_after-append h a b i (omega arith)
hash_after_both h a b i (suc j) long =
    let next : i + suc j ≡ (i + j) + 1 = omega arith in
    let place : (i + j) * 64 ≡ i * 64 + j * 64 = omega arith in
    let block : drop ((i + j) * 64) (a ++ b) ≡ drop (j * 64) b =
    ap (λ k. drop k (a ++ b)) place ∙ sym (drop-drop (j * 64) (i * 64) (a ++ b)) ∙ ap (drop (j * 64)) (drop_at a b (i * 64) long) in
    ap (hash_after h (a ++ b)) next
    ∙ hash_after_next h (a ++ b) (i + j)
    ∙ ap (λ x. compress (hash_after h (a ++ b) (i + j)) (take 64 x)) block
    ∙ ap (λ x. compress x (take 64 (drop (j * 64) b))) (hash_after_both h a b i j long)

-- a message that begins with this block
pub digest_in_two : (block rest : List ℕ) → length block ≡ 64 → sha256 (block ++ rest) ≡ digest_after (hash_of_block block) rest
unfolding sha256 digest_after
digest_in_two block rest long =
    let size : length (block ++ rest) ≡ 64 + length rest = omega (arith, length-append block rest) in
    let whole : padded_message (block ++ rest) ≡ block ++ padded_rest 64 rest =
    append_assoc block rest (padding (length (block ++ rest))) ∙ ap (λ n. block ++ (rest ++ padding n)) size in
    let count : length (block ++ padded_rest 64 rest) / 64 ≡ 1 + length (padded_rest 64 rest) / 64 =
    omega (arith, length-append block (padded_rest 64 rest), long) in
    ap (λ p. digest_bytes (hash_after initial_hash_256 p (length p / 64)) 8) whole
    ∙ ap (λ n. digest_bytes (hash_after initial_hash_256 (block ++ padded_rest 64 rest) n) 8) count
    ∙ ap (λ h. digest_bytes h 8) (hash_after_both initial_hash_256 block (padded_rest 64 rest) 1 (length (padded_rest 64 rest) / 64) long)
