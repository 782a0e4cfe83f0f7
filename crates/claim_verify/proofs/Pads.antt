-- The two blocks with which the hashes of an HMAC begin.
use Rattle.std.proofs.Common.{◌≡◌, ◌≤◌, ◌-◌, ℕ, List, ◌++◌, length, replicate, nat_lt, bit_xor, ap, ◌∙◌, sym, arith, length-append}
use Rattle.std.proofs.lemmas.Bool.{cond_both, ltb-false}
use Rattle.std.proofs.lemmas.List.{length-map, length-replicate}
use Rattle.sha2.specs.Sha256.{sha256}
use Rattle.sha2.proofs.Facts256.{length-sha256}
use Rattle.claim_verify.specs.Hashing.{digest_after, hash_of_block}
use Rattle.claim_verify.specs.Hmac.{block_key, hmac, masked, short_key}
use Rattle.claim_verify.specs.KeyStates.{states_of}
use Rattle.claim_verify.specs.declared.hmac.KeyStates.{KeyStates}
use Rattle.claim_verify.proofs.Blocks.{digest_in_two}

short_key-fits : (key : List ℕ) → length (short_key key) ≤ 64
short_key-fits key = cond_both (nat_lt 64 (length key)) (sha256 key) key (λ k. length k ≤ 64)
    (λ long. omega (arith, length-sha256 key))
    (λ short. omega (arith, ltb-false 64 (length key) short))

-- a block of the key under a mask
pub length-masked : (mask : ℕ) (key : List ℕ) → length (masked mask (block_key key)) ≡ 64
length-masked mask key =
    let short = short_key-fits key in
    let zeros = length-replicate {A = ℕ} (64 - length (short_key key)) 0 in
    let block : length (block_key key) ≡ 64 = omega (arith, length-append (short_key key) (replicate {A = ℕ} (64 - length (short_key key)) 0)) in
    length-map (block_key key) (λ b. bit_xor b mask) ∙ block

-- a signature from what is kept of its key
pub hmac_by_states : (states : KeyStates) (key message : List ℕ) → states ≡ states_of key
    → digest_after states.outer (digest_after states.inner message) ≡ hmac key message
unfolding hmac states_of
hmac_by_states states key message of =
    let inner : List ℕ = masked 0x36 (block_key key) in
    let outer : List ℕ = masked 0x5c (block_key key) in
    let first : digest_after states.inner message ≡ sha256 (inner ++ message) =
    ap (λ (s : KeyStates). digest_after s.inner message) of ∙ sym (digest_in_two inner message (length-masked 0x36 key)) in
    ap (λ (s : KeyStates). digest_after s.outer (digest_after states.inner message)) of
    ∙ ap (digest_after (hash_of_block outer)) first
    ∙ sym (digest_in_two outer (sha256 (inner ++ message)) (length-masked 0x5c key))
