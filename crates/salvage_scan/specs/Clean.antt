-- What a reader and a writer of packs may rely on, as docs/formats/packs.md has it.
use Rattle.std.specs.Prelude.{◌≡◌, ℕ, ◌+◌, ◌≤◌, List, [], ◌∷◌, ◌++◌, length}
use Rattle.blobref.specs.Blobref.{IsOwnRef}
use Rattle.pack_format.specs.Header.{max_size, header, record_under, deleted_header, IsDeletedForm, IsDeletedRecord}
use Rattle.salvage_scan.specs.Salvage.{salvage_past, salvage, broken_past, broken, IsClean}
use Rattle.salvage_scan.specs.Rules.{finding_under}

-- the text is records and deleted records, one after another, with nothing between them
pub data IsConcatenation : List ℕ → Type 0 where
  nothing : IsConcatenation []
  kept : (r bytes rest : List ℕ) → IsOwnRef r bytes → length bytes ≤ max_size → IsConcatenation rest → IsConcatenation (record_under r bytes ++ rest)
  deleted : (text rest : List ℕ) → IsDeletedRecord text → IsConcatenation rest → IsConcatenation (text ++ rest)

pub record CleanPacks : Type 0 where
  -- a pack is clean exactly where it is such records
  pub clean : (pack : List ℕ) → IsConcatenation pack → IsClean pack
  pub only_clean : (pack : List ℕ) → IsClean pack → IsConcatenation pack
  -- what is found in a clean pack comes first, whatever follows it, and what follows it is searched as a text at its end
  pub first : (pack more : List ℕ) → IsClean pack → salvage (pack ++ more) ≡ salvage pack ++ salvage_past (length pack) 0 more
  pub then_broken : (pack more : List ℕ) → IsClean pack → broken (pack ++ more) ≡ broken_past (length pack) 0 more
  -- a record that was appended to a clean pack is found, whatever follows it, and the pack is clean again
  pub found : (pack r bytes more : List ℕ) → IsOwnRef r bytes → length bytes ≤ max_size → IsClean pack
      → salvage (pack ++ record_under r bytes ++ more) ≡ salvage pack ++ finding_under (length pack) r bytes ∷ salvage_past (length pack + length (record_under r bytes)) 0 more
  pub again : (pack r bytes : List ℕ) → IsOwnRef r bytes → length bytes ≤ max_size → IsClean pack → IsClean (pack ++ record_under r bytes)
  -- behind the header of a torn record a record is taken as the bytes of that header's blob
  pub swallowed : (pack q r bytes : List ℕ) → IsOwnRef q (record_under r bytes) → length (record_under r bytes) ≤ max_size → IsClean pack
      → salvage (pack ++ header q (length (record_under r bytes)) ++ record_under r bytes) ≡ salvage pack ++ finding_under (length pack) q (record_under r bytes) ∷ []
  -- and behind that of a torn deleted record it is passed over
  pub lost : (pack r bytes : List ℕ) (letters digits : ℕ) → IsDeletedForm letters digits (length (record_under r bytes)) → IsClean pack
      → salvage (pack ++ deleted_header letters digits (length (record_under r bytes)) ++ record_under r bytes) ≡ salvage pack
