-- A peer in memory: what it lists, and what each of its calls is, which fails exactly where it is to, and is counted.
use Rattle.std.specs.Prelude.{◌≡◌, ◌↔◌, ℕ, List, take, Option, None, Some, Result, Err, IfOk, OnOk, OnErr, IsTrue}
use Rattle.std.specs.FinMap.{get}
use Rattle.std.specs.BTreeMap.Range.{entries_between}
use Rattle.std.specs.declared.ops.Bound.{Bound}
use Rattle.std.specs.declared.ops.Bound.TheVariants.{Excluded, Unbounded}
use Rattle.blobref.specs.Blobref.{ref_cmp}
use Rattle.edge_base.specs.Calls.{Calls, fails_next, after_call}
use Rattle.edge_base.specs.Shelf.{Blob, Blobs, with_blob}
use Rattle.peer_base.specs.Blobs.{listed, sizes_of}
use Rattle.peer_base.specs.declared.peer.PeerFault.{PeerFault}
use Rattle.peer_base.specs.declared.peer.PeerFault.TheVariants.{Failed}

-- what a list begins with
abbrev pub bound_of : Option (List ℕ) → Bound (List ℕ)
bound_of None = Unbounded
bound_of (Some start) = Excluded start

-- the page of the refs from there on
abbrev pub page_from : Bound (List ℕ) → ℕ → Blobs → List (List ℕ × ℕ)
page_from start limit held = take limit (entries_between ref_cmp start Unbounded (sizes_of held))

pub record IsListed (held : Blobs) (calls : Calls) (after : Option (List ℕ)) (limit : ℕ) (answer : Result (List (List ℕ × ℕ)) PeerFault) (now : Blobs) (calls_now : Calls) : Type 0 where
  pub planned : (answer ≡ Err Failed) ↔ IsTrue (fails_next calls)
  pub counted : calls_now ≡ after_call calls
  pub found : IfOk answer (λ page. page ≡ listed after limit held)
  pub same : now ≡ held

pub record IsFetched (held : Blobs) (calls : Calls) (r : List ℕ) (answer : Result (Option (List ℕ)) PeerFault) (now : Blobs) (calls_now : Calls) : Type 0 where
  pub planned : (answer ≡ Err Failed) ↔ IsTrue (fails_next calls)
  pub counted : calls_now ≡ after_call calls
  pub found : IfOk answer (λ found. found ≡ get held r)
  pub same : now ≡ held

pub record IsKept (held : Blobs) (calls : Calls) (blob : Blob) (answer : Result (Unit {0}) PeerFault) (now : Blobs) (calls_now : Calls) : Type 0 where
  pub planned : (answer ≡ Err Failed) ↔ IsTrue (fails_next calls)
  pub counted : calls_now ≡ after_call calls
  pub kept : OnOk answer (now ≡ with_blob held blob)
  pub refused : OnErr answer (now ≡ held)
