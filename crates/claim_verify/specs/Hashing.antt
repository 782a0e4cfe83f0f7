-- SHA-256 of a message whose first block is hashed by itself, on lists of bytes.
use Rattle.std.specs.Prelude.{ℕ, ◌/◌, List, length}
use Rattle.sha2.specs.Sha256.{digest_bytes, hash_after, initial_hash_256}
use Rattle.sha_lanes.specs.Message.{padded_rest}

-- the hash value after a message's first block
abbrev pub hash_of_block : List ℕ → List ℕ
hash_of_block block = hash_after initial_hash_256 block 1

-- the digest of a message, by the hash value after its first block and the rest of the message
unfoldable pub digest_after : List ℕ → List ℕ → List ℕ
digest_after h rest = digest_bytes (hash_after h (padded_rest 64 rest) (length (padded_rest 64 rest) / 64)) 8
