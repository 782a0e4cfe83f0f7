-- Records that were looked at before they are reached.
use Rattle.std.specs.Prelude.{◌≡◌, ℕ, ◌+◌, ◌≤◌, ◌<◌, false, List, [], length, take, drop, nat_eq, slice_index, slice_index_or, if◌then◌else◌}
use Rattle.std.specs.List.{starts_with}
use Rattle.std.specs.Cmp.Lexicographic.{pointwise}
use Rattle.sha2.specs.Sha256.{sha224}
use Rattle.blobref.specs.Blobref.{sha1_name, sha224_name, spelled}
use Rattle.pack_format.specs.declared.header.HeaderAt.TheVariants.{Blob}
use Rattle.pack_format.specs.Reading.{header_at}
use Rattle.salvage_scan.specs.declared.ahead.Ahead.{Ahead}
use Rattle.salvage_scan.specs.declared.scanning.FrontAt.{FrontAt}
use Rattle.salvage_scan.specs.declared.scanning.FrontAt.TheVariants as at

-- so many bytes of a text, from a place on
abbrev pub piece : List ℕ → ℕ → ℕ → List ℕ
piece x start size = take size (drop start x)

-- a text begins with this header, which names a SHA-224, behind which as many bytes as it says have this digest
pub record IsKnown (x : List ℕ) (said : List ℕ) (size len : ℕ) (digest : List ℕ) : Type 0 where
  pub header : header_at x ≡ Blob said size len
  pub newer : starts_with nat_eq said sha1_name ≡ false
  pub fits : len + size ≤ length x
  pub named : digest ≡ sha224 (piece x len size)

-- each stands at its place
pub record AreKnown (x : List ℕ) (a : Ahead) : Type 0 where
  pub most : a.count ≤ 64
  pub each : (i : ℕ) → i < a.count
      → IsKnown (drop (slice_index a.places i) x) (slice_index_or a.said i []) (slice_index a.sizes i) (slice_index a.lens i) (slice_index_or a.digests i [])

-- what stands in front of a text with this header, where the bytes behind it have this digest
abbrev pub front_known : (said : List ℕ) (size len : ℕ) (digest : List ℕ) → FrontAt
front_known said size len digest = if pointwise nat_eq (spelled sha224_name digest) said then at.Kept said len size else at.Junk
