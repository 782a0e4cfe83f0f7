-- What is computed once for each key.
use Rattle.std.specs.Prelude.{ℕ, List}
use Rattle.claim_verify.specs.Hashing.{hash_of_block}
use Rattle.claim_verify.specs.Hmac.{block_key, masked}
use Rattle.claim_verify.specs.declared.hmac.KeyStates.{KeyStates}

-- the hash values after the blocks with which the two hashes of a signature begin
unfoldable pub states_of : List ℕ → KeyStates
states_of key = record {
  inner = hash_of_block (masked 0x36 (block_key key));
  outer = hash_of_block (masked 0x5c (block_key key));
}
