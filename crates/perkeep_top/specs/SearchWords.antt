-- What `words` means (docs/commands.md).
use Rattle.std.specs.Prelude.{◌≡◌, ℕ, false, List, [], Option, None, option_map, option_and_then}
use Rattle.claim_verify.specs.Verifier.{Accepts}
use Rattle.schema_date.specs.declared.date.When.{When}
use Rattle.search_query.specs.View.{view}
use Rattle.search_query.specs.declared.query.Query.{Query}
use Rattle.search_query.specs.declared.query.Sort.TheVariants.{Ref}
use Rattle.search_words.specs.Faults.{words_fault}
use Rattle.search_words.specs.Grammar.{IsLine}
use Rattle.pack_disk.specs.Packs.{Packs}
use Rattle.perkeep_words.specs.Reading.{line_of, search_words_in}
use Rattle.top_frame.specs.declared.status.InputFault.{InputFault}
use Rattle.top_frame.specs.declared.status.InputFault.TheVariants.{TooBig, Words}
use Rattle.top_frame.specs.Frame.{Meaning, opens_store, reads_nothing, no_peer}
use Rattle.perkeep_top.specs.Query.{IsAnswerOf}

-- what is wrong with search words, if anything is
abbrev pub bad_words : List ℕ → Option InputFault
bad_words text = option_map Words (words_fault text)

-- the search words of the words of a command line, where these are a line of `words` in which no text before them is
-- wrong
abbrev pub search_words_of : List (List ℕ) → Option (List ℕ)
search_words_of words = option_and_then search_words_in (line_of words)

-- the most refs that are answered
abbrev pub most_refs : ℕ
most_refs = 200

-- the answer to what search words ask, at a time: of the permanodes that meet it those with the least refs
pub record IsAnswerToWords (accepts : Accepts) (text : List ℕ) (at : When) (told : Option Packs) (bytes : List ℕ)
    : Type 0 where
  pub query : Query
  pub asked : IsLine text (view query.constraint)
  pub most : query.limit ≡ most_refs
  pub order : query.sort ≡ Ref
  pub time : query.at ≡ at
  pub answer : IsAnswerOf accepts query told bytes

abbrev pub words_meaning : Accepts → List ℕ → When → Meaning
words_meaning accepts text at = record {
  disk = opens_store;
  input = reads_nothing;
  draws_time = false;
  draws_random = false;
  exchange = no_peer;
  bad = bad_words text;
  too_long = TooBig;
  wrong = λ input. None;
  blobs = λ given. [];
  IsOutput = λ given told bytes. IsAnswerToWords accepts text at told bytes;
  streams = false;
  IsPart = λ given told bytes. bytes ≡ [];
  Refuses = λ given told bytes gone answer. ⊥;
}
