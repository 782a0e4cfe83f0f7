-- What `load` means (docs/commands.md).
use Rattle.std.specs.Prelude.{◌≡◌, ℕ, false, [], None}
use Rattle.claim_verify.specs.Verifier.{Accepts}
use Rattle.fact_lines.specs.Load.{load_text}
use Rattle.top_frame.specs.declared.status.InputFault.TheVariants.{TooBig}
use Rattle.top_frame.specs.Frame.{Meaning, leaves_alone, reads_nothing, no_peer}

-- it touches no disk and reads no input
abbrev pub load_meaning : Accepts → ℕ → ℕ → Meaning
load_meaning accepts count start = record {
  disk = leaves_alone;
  input = reads_nothing;
  draws_time = false;
  draws_random = false;
  exchange = no_peer;
  bad = None;
  too_long = TooBig;
  wrong = λ input. None;
  blobs = λ given. [];
  IsOutput = λ given told bytes. bytes ≡ load_text count start accepts;
  streams = false;
  IsPart = λ given told bytes. bytes ≡ [];
  Refuses = λ given told bytes gone answer. ⊥;
}
