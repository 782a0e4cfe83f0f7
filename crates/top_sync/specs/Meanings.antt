-- What `push` and `pull` mean (docs/commands.md).
use Rattle.std.specs.Prelude.{◌≡◌, ℕ, false, List, [], ◌++◌, codes, decimal, None}
use Rattle.edge_base.specs.Shelf.{Blob}
use Rattle.top_frame.specs.declared.status.InputFault.TheVariants.{TooBig}
use Rattle.top_frame.specs.Frame.{Exchange, Given, Meaning, opens_store, reads_nothing, pulls, pushes}

-- how many blobs were copied, and how many stood there already
abbrev pub copied_line : ℕ → ℕ → List ℕ
copied_line copied already = codes "copied " ++ decimal copied ++ codes " already " ++ decimal already ++ codes "\n"

-- blobs are copied that way, and these are put into the store; the line tells how many
abbrev pub exchanging : Exchange → (Given → List Blob) → Meaning
exchanging way blobs = record {
  disk = opens_store;
  input = reads_nothing;
  draws_time = false;
  draws_random = false;
  exchange = way;
  bad = None;
  too_long = TooBig;
  wrong = λ input. None;
  blobs = blobs;
  IsOutput = λ given told bytes. bytes ≡ copied_line given.lacked given.had;
  streams = false;
  IsPart = λ given told bytes. bytes ≡ [];
  Refuses = λ given told bytes gone answer. ⊥;
}

abbrev pub push_meaning : Meaning
push_meaning = exchanging pushes (λ given. [])

abbrev pub pull_meaning : Meaning
pull_meaning = exchanging pulls (λ given. given.pulled)
