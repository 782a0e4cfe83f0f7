-- What each event does to a core, and what is replied (docs/core.md).
use Rattle.std.specs.Prelude.{ℕ, List, [], ◌∷◌, ◌++◌, map, length, min, max, Bool, not, ◌&&◌, nat_lt, if◌then◌else◌, Option, Some, None, is_none, unwrap_or, find, slice_get, Result, Ok, Err, option_to_list}
use Rattle.std.specs.List.{filter_map}
use Rattle.std.specs.FinMap.{from_entries}
use Rattle.claim_verify.specs.Verifier.{Accepts}
use Rattle.claim_model.specs.Facts.{Facts, Entry}
use Rattle.schema_json.specs.Facts.{fact_of}
use Rattle.search_eval.specs.Answer.{answer_bytes}
use Rattle.edge_base.specs.declared.answers.Put.{Put}
use Rattle.edge_base.specs.declared.answers.Put.TheVariants as put
use Rattle.edge_base.specs.declared.answers.PutFault.{PutFault}
use Rattle.edge_base.specs.declared.answers.PutFault.TheVariants as fault
use Rattle.edge_base.specs.declared.answers.Inserted.TheVariants as inserted
use Rattle.home_core.specs.declared.lists.Seen.{Seen}
use Rattle.home_core.specs.declared.events.Event.{Event}
use Rattle.home_core.specs.declared.events.Event.TheVariants as event
use Rattle.home_core.specs.declared.events.Reply.{Reply}
use Rattle.home_core.specs.declared.events.Reply.TheVariants as reply
use Rattle.histories.specs.Stores.{Blob}
use Rattle.histories.specs.StoreCalls.{put_settled}
use Rattle.home_core.specs.State.{CoreState, has, is_in_neither, numbers_below, seen_by, with_seen, without}

-- ---- what a session sees

-- the session sees so many blobs
abbrev pub with_store_seen : ℕ → ℕ → List Seen → List Seen
with_store_seen session count seen =
    with_seen (record { session = session; store = count; indexed = (seen_by session seen).indexed }) seen

-- the session sees so many indexed numbers
abbrev pub with_indexed_seen : ℕ → ℕ → List Seen → List Seen
with_indexed_seen session count seen =
    with_seen (record { session = session; store = (seen_by session seen).store; indexed = count }) seen

-- the session sees all blobs
abbrev pub sees_store : ℕ → CoreState → CoreState
sees_store session s = record {
  store = s.store;
  hand = s.hand;
  indexed = s.indexed;
  seen = with_store_seen session (length s.store) s.seen;
}

-- the session sees all indexed numbers
abbrev pub sees_indexed : ℕ → CoreState → CoreState
sees_indexed session s = record {
  store = s.store;
  hand = s.hand;
  indexed = s.indexed;
  seen = with_indexed_seen session (length s.indexed) s.seen;
}

-- ---- blobs

-- a blob behind the others, unless it is too big, isn't under a ref of its bytes, or arrived before
abbrev pub put_blob : Blob → List Blob → List Blob
put_blob b store = if is_none (put_settled b.0 b.1 store) then store ++ b ∷ [] else store

abbrev pub put_blobs : List Blob → List Blob → List Blob
put_blobs [] store = store
put_blobs (b ∷ bs) store = put_blobs bs (put_blob b store)

abbrev pub with_store : List Blob → CoreState → CoreState
with_store store s = record { store = store; hand = s.hand; indexed = s.indexed; seen = s.seen }

-- what a put answers, as a reply. The faults of a disk and of memory never come
abbrev pub reply_of : Result Put PutFault → Reply
reply_of (Ok answer) = reply.Kept answer
reply_of (Err (fault.TooBig size)) = reply.TooBig size
reply_of (Err (fault.BadDigest said is)) = reply.BadDigest said is
reply_of (Err (fault.Full blobs pack)) = reply.Nothing
reply_of (Err fault.Disk) = reply.Nothing
reply_of (Err fault.NoMemory) = reply.Nothing

-- the answer that is settled, or that the blob was stored under the next number
abbrev pub put_reply : Blob → List Blob → Reply
put_reply b store = reply_of (unwrap_or (put_settled b.0 b.1 store) (Ok (put.Stored (length store))))

-- ---- numbers

abbrev pub with_hand : List ℕ → CoreState → CoreState
with_hand hand s = record { store = s.store; hand = hand; indexed = s.indexed; seen = s.seen }

-- these numbers leave the hand, and are indexed behind the others
abbrev pub with_indexed : List ℕ → CoreState → CoreState
with_indexed ns s = record { store = s.store; hand = without ns s.hand; indexed = s.indexed ++ ns; seen = s.seen }

-- neither indexed nor in hand
abbrev pub waits : CoreState → ℕ → Bool
waits s = is_in_neither s.indexed s.hand

-- the least number that arrived, is below a bound, and waits
abbrev pub least_waiting : ℕ → CoreState → Option ℕ
least_waiting known s = find (waits s) (numbers_below (min known (length s.store)))

-- the number arrived, and isn't indexed
abbrev pub may_insert : ℕ → CoreState → Bool
may_insert n s = nat_lt n (length s.store) && not (has n s.indexed)

abbrev pub insert_number : ℕ → CoreState → CoreState
insert_number n s = if may_insert n s then with_indexed (n ∷ []) s else s

-- the numbers below a bound that aren't indexed, ascending
abbrev pub unindexed_below : ℕ → CoreState → List ℕ
unindexed_below bound s = without s.indexed (numbers_below bound)

-- how far a session settles: to what it has seen arrive, and to what it asks, as far as blobs arrived
abbrev pub settle_bound : ℕ → ℕ → CoreState → ℕ
settle_bound session below s = min (length s.store) (max below (seen_by session s.seen).store)

-- ---- facts

abbrev pub entry_of : Blob → Entry
entry_of b = (b.0, fact_of b.1)

-- the blobs at these numbers
abbrev pub blobs_at : List Blob → List ℕ → List Blob
blobs_at store ns = filter_map (λ n. slice_get store n) ns

-- the refs at the indexed numbers, with the facts of their blobs
abbrev pub indexed_entries : CoreState → List Entry
indexed_entries s = map entry_of (blobs_at s.store s.indexed)

-- the facts of exactly the blobs that are indexed
abbrev pub indexed_facts : CoreState → Facts
indexed_facts s = from_entries (indexed_entries s)

-- ---- events

abbrev pub core_step : CoreState → Event → CoreState
core_step s (event.Put session said bytes) = sees_store session (with_store (put_blob (said, bytes) s.store) s)
core_step s (event.Fault session) = sees_store session s
core_step s (event.Take session known) =
    sees_indexed session (with_hand (s.hand ++ option_to_list (least_waiting known s)) s)
core_step s (event.Insert session number) = sees_indexed session (insert_number number s)
core_step s (event.Return session number) = sees_indexed session (with_hand (without (number ∷ []) s.hand) s)
core_step s (event.Settle session below) =
    sees_indexed session (with_indexed (unindexed_below (settle_bound session below s) s) s)
core_step s (event.Search session q) = sees_indexed session s
core_step s (event.Sync session blobs) = sees_store session (with_store (put_blobs blobs s.store) s)
core_step s (event.Stop kept) = record { store = put_blobs kept []; hand = []; indexed = []; seen = [] }

abbrev pub taken_reply : Option ℕ → Reply
taken_reply None = reply.Nothing
taken_reply (Some n) = reply.Taken n

abbrev pub insert_reply : ℕ → CoreState → Reply
insert_reply n s =
    if nat_lt n (length s.store)
    then reply.Indexed (if has n s.indexed then inserted.Already else inserted.New)
    else reply.Nothing

abbrev pub core_reply : Accepts → CoreState → Event → Reply
core_reply accepts s (event.Put session said bytes) = put_reply (said, bytes) s.store
core_reply accepts s (event.Fault session) = reply.Nothing
core_reply accepts s (event.Take session known) = taken_reply (least_waiting known s)
core_reply accepts s (event.Insert session number) = insert_reply number s
core_reply accepts s (event.Return session number) = reply.Nothing
core_reply accepts s (event.Settle session below) = reply.Nothing
core_reply accepts s (event.Search session q) = reply.Answer (answer_bytes (indexed_facts s) accepts q)
core_reply accepts s (event.Sync session blobs) = reply.Nothing
core_reply accepts s (event.Stop kept) = reply.Nothing

-- the core after a list of events, and the replies to them
abbrev pub after_events : CoreState → List Event → CoreState
after_events s [] = s
after_events s (e ∷ es) = after_events (core_step s e) es

abbrev pub replies_to : Accepts → CoreState → List Event → List Reply
replies_to accepts s [] = []
replies_to accepts s (e ∷ es) = core_reply accepts s e ∷ replies_to accepts (core_step s e) es
