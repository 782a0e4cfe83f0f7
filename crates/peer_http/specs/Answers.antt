-- What replies say (docs/sync.md).
use Rattle.std.specs.Prelude.{◌≡◌, ℕ, ◌==◌, ◌&&◌, Bool, nat_le, nat_eq, if◌then◌else◌, List, length, Option, None, Some, Result, Ok, Err}
use Rattle.std.specs.List.{list_all, list_any}
use Rattle.std.specs.Cmp.Lexicographic.{pointwise}
use Rattle.blobref.specs.Blobref.{is_after, is_own_ref, ref_like}
use Rattle.answer_text.specs.Reading.{page_in, received_in}
use Rattle.peer_base.specs.declared.peer.PeerFault.{PeerFault}
use Rattle.peer_base.specs.declared.peer.PeerFault.TheVariants as fault
use Rattle.peer_http.specs.declared.replies.Reply.{Reply}

-- the answer is this one, unless there was no memory
abbrev pub IsAnswer : {T : Type 0} → Result T PeerFault → Result T PeerFault → Type 0
IsAnswer said (Err fault.NoMemory) = Unit {0}
IsAnswer said answer = answer ≡ said

-- at most so many refs, all greater
abbrev pub is_page : Option (List ℕ) → ℕ → List (List ℕ × ℕ) → Bool
is_page after limit page = nat_le (length page) limit && list_all (λ (e : List ℕ × ℕ). is_after after e.0) page

abbrev pub page_answer : Option (List ℕ) → ℕ → Option (List (List ℕ × ℕ) × Option (List ℕ)) → Result (List (List ℕ × ℕ)) PeerFault
page_answer after limit None = Err fault.BadReply
page_answer after limit (Some read) = if is_page after limit read.0 then Ok read.0 else Err fault.BadReply

-- the page that a reply to `list` gives
abbrev pub list_answer : Option (List ℕ) → ℕ → Reply → Result (List (List ℕ × ℕ)) PeerFault
list_answer after limit reply =
    if reply.status == 200 then page_answer after limit (page_in reply.body) else Err (fault.Refused reply.status)

abbrev pub blob_answer : List ℕ → List ℕ → Result (Option (List ℕ)) PeerFault
blob_answer r bytes = if is_own_ref r bytes then Ok (Some bytes) else Err (fault.Damaged r (ref_like r bytes))

-- the bytes that a reply to `fetch` gives
abbrev pub fetch_answer : List ℕ → Reply → Result (Option (List ℕ)) PeerFault
fetch_answer r reply =
    if reply.status == 404 then Ok None
    else if reply.status == 200 then blob_answer r reply.body else Err (fault.Refused reply.status)

-- whether a ref stands among these with this size
abbrev pub has_entry : List ℕ → ℕ → List (List ℕ × ℕ) → Bool
has_entry r size entries = list_any (λ (e : List ℕ × ℕ). pointwise nat_eq e.0 r && (e.1 == size)) entries

abbrev pub received_answer : List ℕ → ℕ → Option (List (List ℕ × ℕ)) → Result (Unit {0}) PeerFault
received_answer r size None = Err fault.BadReply
received_answer r size (Some entries) = if has_entry r size entries then Ok tt else Err fault.BadReply

-- whether a reply to `put` says that the blob was received
abbrev pub put_answer : List ℕ → ℕ → Reply → Result (Unit {0}) PeerFault
put_answer r size reply =
    if reply.status == 200 then received_answer r size (received_in reply.body) else Err (fault.Refused reply.status)
