-- The texts of replies.
use Rattle.std.specs.Prelude.{ℕ, List, [], ◌++◌, length, codes, Bool, true}
use Rattle.http_exchange.specs.ReplyHeads.{reply_head_text}
use Rattle.answer_text.specs.declared.refusal.Refusal.{Refusal}
use Rattle.answer_text.specs.declared.refusal.Refusal.TheVariants.{Memory}
use Rattle.answer_text.specs.Refusals.{code_of, refusal_text}
use Rattle.http_exchange.specs.declared.replies.Kind.{Kind}
use Rattle.http_exchange.specs.declared.replies.Kind.TheVariants.{Json, Bytes}

abbrev pub kind_text : Kind → List ℕ
kind_text Json = codes "application/json"
kind_text Bytes = codes "application/octet-stream"

-- a head and a body
abbrev pub reply_text : ℕ → Kind → Bool → List ℕ → List ℕ → List ℕ
reply_text code kind closes allow body = reply_head_text code (kind_text kind) (length body) closes allow ++ body

abbrev pub json_reply : Bool → List ℕ → List ℕ
json_reply closes body = reply_text 200 Json closes [] body

abbrev pub bytes_reply : Bool → List ℕ → List ℕ
bytes_reply closes bytes = reply_text 200 Bytes closes [] bytes

-- a refusal, with the methods that are allowed where there are some to tell
abbrev pub refused_reply : Bool → List ℕ → Refusal → List ℕ
refused_reply closes allow refusal = reply_text (code_of refusal) Json closes allow (refusal_text refusal)

-- want of memory always closes
abbrev pub memory_reply : List ℕ
memory_reply = refused_reply true [] Memory
