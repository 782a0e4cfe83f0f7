-- Replies as they were made.
use Rattle.std.specs.Prelude.{ℕ, List, ◌++◌}
use Rattle.http_exchange.specs.declared.replies.Reply.{Reply}

-- the bytes of a reply
abbrev pub reply_bytes : Reply → List ℕ
reply_bytes reply = reply.head ++ reply.body
