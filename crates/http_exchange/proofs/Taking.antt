-- What a sink took, and why a connection ended, step by step.
use Rattle.std.proofs.Common.{ℕ, ◌≤◌, List, [], ◌++◌, refl, ap, sym, ◌∙◌, arith, append_assoc, Option, Some, None}
use Rattle.std.proofs.lemmas.List.{append-nil}
use Rattle.edge_base.specs.Edge.{SinkTook, SinkTookFront, FaultsRose, one_more}
use Rattle.edge_base.proofs.Moves.{SinkTook-chain}
use Rattle.http_exchange.specs.declared.ended.Ended.{Ended}
use Rattle.http_exchange.specs.declared.ended.Ended.TheVariants as ended
use Rattle.http_exchange.specs.Hearing.{EndCause}

pub took_none : (w : Option (List ℕ)) → SinkTook w w []
took_none None = refl
took_none (Some w) = ap Some (sym (append-nil w))

pub SinkTookFront-chain : (a b c : Option (List ℕ)) (xs ys : List ℕ) → SinkTook a b xs → SinkTookFront b c ys
    → SinkTookFront a c (xs ++ ys)
SinkTookFront-chain a b c xs ys h k =
    (xs ++ k.0, k.1, ap (λ (z : List ℕ). xs ++ z) k.2 ∙ sym (append_assoc xs k.0 k.1), SinkTook-chain a b c xs k.0 h k.3)

-- a front of the first text is a front of both
pub SinkTookFront-more : (a b : Option (List ℕ)) (xs ys : List ℕ) → SinkTookFront a b xs → SinkTookFront a b (xs ++ ys)
SinkTookFront-more a b xs ys h =
    (h.0, h.1 ++ ys, ap (λ (z : List ℕ). z ++ ys) h.2 ∙ append_assoc h.0 h.1 ys, h.3)

rose_since : (a b c : ℕ) → a ≤ b → FaultsRose b c → FaultsRose a c
rose_since a b c le r = let h : one_more b ≤ c = r in omega (arith, h)

-- the cause of the last step is one of the whole
pub cause_since : (a b c d e f : ℕ) (end : Ended) → a ≤ b → d ≤ e → EndCause b c e f end → EndCause a c d f end
cause_since a b c d e f ended.Closed p q h = tt
cause_since a b c d e f (ended.Cut n) p q h = tt
cause_since a b c d e f ended.ReadFault p q h = rose_since a b c p h
cause_since a b c d e f ended.WriteFault p q h = rose_since d e f q h
cause_since a b c d e f ended.NoMemory p q h = tt
