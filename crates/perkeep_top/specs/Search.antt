-- What `search` and `search-pack` mean (docs/commands.md).
use Rattle.std.specs.Prelude.{◌≡◌, ℕ, false, List, [], Option, None}
use Rattle.std.specs.FinMap.{from_entries}
use Rattle.std.specs.Option.{ForSome}
use Rattle.claim_model.specs.Facts.{Entry}
use Rattle.claim_verify.specs.Verifier.{Accepts}
use Rattle.schema_date.specs.declared.date.When.{When}
use Rattle.pack_disk.specs.Packs.{Packs}
use Rattle.pack_store.specs.Puts.{blobs_of}
use Rattle.fact_lines.specs.Blobs.{facts_of_content}
use Rattle.fact_lines.specs.Search.{pack_answer, search_line}
use Rattle.top_frame.specs.declared.status.InputFault.TheVariants.{TooBig}
use Rattle.top_frame.specs.Asking.{asking}
use Rattle.top_frame.specs.Frame.{Meaning, leaves_alone, reads_first, no_peer}
use Rattle.top_frame.specs.Steps.{NeverRefuses}

-- ---- over a store

-- the answer over the facts of the blobs that stand there, where the disk tells
abbrev pub IsAnswer : Accepts → (attr value : List ℕ) → When → Option Packs → List ℕ → Type 0
IsAnswer accepts attr value at told bytes =
    ForSome told (λ held. bytes ≡ search_line (facts_of_content (blobs_of held)) accepts attr value at)

-- the facts of the blobs that stand there, where the disk tells
abbrev pub AreFacts : Option Packs → List Entry → Type 0
AreFacts told facts = ForSome told (λ held. from_entries facts ≡ facts_of_content (blobs_of held))

abbrev pub search_meaning : Accepts → (attr value : List ℕ) → When → Meaning
search_meaning accepts attr value at = asking (IsAnswer accepts attr value at) (λ told. NeverRefuses)

-- ---- over one pack

-- the most bytes that a pack may have that is searched: 2 ^ 30
abbrev pub longest_pack : ℕ
longest_pack = 1073741824

abbrev pub search_pack_meaning : Accepts → (attr value : List ℕ) → Meaning
search_pack_meaning accepts attr value = record {
  disk = leaves_alone;
  input = reads_first longest_pack;
  draws_time = false;
  draws_random = false;
  exchange = no_peer;
  bad = None;
  too_long = TooBig;
  wrong = λ input. None;
  blobs = λ given. [];
  IsOutput = λ given told bytes. bytes ≡ pack_answer attr value accepts given.input;
  streams = false;
  IsPart = λ given told bytes. bytes ≡ [];
  Refuses = λ given told bytes gone answer. ⊥;
}
