-- What `query` means (docs/commands.md).
use Rattle.std.specs.Prelude.{◌≡◌, ℕ, false, List, [], Option, Some, None, option_map}
use Rattle.std.specs.Option.{ForSome}
use Rattle.claim_verify.specs.Verifier.{Accepts}
use Rattle.edge_base.specs.Edge.{FaultsRose}
use Rattle.edge_base.specs.declared.edge.Source.{Ghosts as SourceGhosts}
use Rattle.query_read.specs.Reading.{asks_for, first_fault}
use Rattle.search_query.specs.View.{question}
use Rattle.search_query.specs.declared.query.Query.{Query}
use Rattle.pack_disk.specs.Packs.{Packs}
use Rattle.pack_store.specs.Puts.{blobs_of}
use Rattle.fact_lines.specs.Blobs.{facts_of_content}
use Rattle.fact_lines.specs.Search.{query_line}
use Rattle.top_frame.specs.declared.status.InputFault.{InputFault}
use Rattle.top_frame.specs.declared.status.InputFault.TheVariants.{TooLong, BadQuery}
use Rattle.top_frame.specs.declared.status.Status.{Status}
use Rattle.top_frame.specs.declared.status.Status.TheVariants as status
use Rattle.top_frame.specs.Frame.{Meaning, opens_store, reads_first, GaveWhole, IsTooBig, no_peer}

-- the most bytes that a query may have
abbrev pub longest_query : ℕ
longest_query = 1048576

-- the first fault of a text, where it is no query
abbrev pub bad_query : List ℕ → Option InputFault
bad_query text = option_map BadQuery (first_fault text)

-- the answer over the facts of the blobs that stand there, where the disk tells
abbrev pub IsAnswerOf : Accepts → Query → Option Packs → List ℕ → Type 0
IsAnswerOf accepts query told bytes =
    ForSome told (λ held. bytes ≡ query_line (facts_of_content (blobs_of held)) accepts query)

-- the answer to the query that a text is
pub record IsAnswerTo (accepts : Accepts) (text : List ℕ) (told : Option Packs) (bytes : List ℕ) : Type 0 where
  pub query : Query
  pub asked : asks_for text ≡ Some (question query)
  pub answer : IsAnswerOf accepts query told bytes

abbrev pub query_meaning : Accepts → Meaning
query_meaning accepts = record {
  disk = opens_store;
  input = reads_first longest_query;
  draws_time = false;
  draws_random = false;
  exchange = no_peer;
  bad = None;
  too_long = TooLong;
  wrong = bad_query;
  blobs = λ given. [];
  IsOutput = λ given told bytes. IsAnswerTo accepts given.input told bytes;
  streams = false;
  IsPart = λ given told bytes. bytes ≡ [];
  Refuses = λ given told bytes gone answer. ⊥;
}

-- ---- the step that reads it

-- a text that is this query was read
pub record ReadsQuery {S : Type 0} (g : SourceGhosts S) (old new : S) (query : Query) : Type 0 where
  pub text : List ℕ
  pub read : GaveWhole longest_query (g.left old) (g.left new) text
  pub sound : first_fault text ≡ None
  pub asked : asks_for text ≡ Some (question query)

-- a text that is no query was read
pub record ReadsNone {S : Type 0} (g : SourceGhosts S) (old new : S) (fault : InputFault) : Type 0 where
  pub text : List ℕ
  pub read : GaveWhole longest_query (g.left old) (g.left new) text
  pub faulty : bad_query text ≡ Some fault

-- an input that was read whole, and is no query
abbrev pub RefusesInputFault : {S : Type 0} → SourceGhosts S → S → S → InputFault → Type 0
RefusesInputFault g old new (TooLong size) = IsTooBig size longest_query (g.left old) (g.left new)
RefusesInputFault g old new (BadQuery fault) = ReadsNone g old new (BadQuery fault)
RefusesInputFault g old new _ = ⊥

-- why no query was read
abbrev pub RefusesQuery : {S : Type 0} → SourceGhosts S → S → S → Status → Type 0
RefusesQuery g old new status.ReadFault = FaultsRose (g.faults old) (g.faults new)
RefusesQuery g old new (status.BadInput fault) = RefusesInputFault g old new fault
RefusesQuery g old new status.NoMemory = Unit {0}
RefusesQuery g old new _ = ⊥
