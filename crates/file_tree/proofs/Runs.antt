-- Runs of zeros, piece by piece.
use Rattle.std.proofs.Common.{◌≡◌, ◌≤◌, ◌+◌, ◌-◌, ℕ, List, ◌++◌, replicate, Option, ap, subst, ◌∙◌, arith}
use Rattle.std.proofs.lemmas.List.{replicate-append-replicate}
use Rattle.edge_base.specs.Edge.{SinkTook, SinkTookFront}
use Rattle.edge_base.proofs.Moves.{SinkTook-chain}
use Rattle.file_tree.proofs.Giving.{SinkTookFront-more, SinkTookFront-after}

abbrev zero_byte : ℕ
zero_byte = 0

-- a piece more
pub zeros_more : (a b c : Option (List ℕ)) (done n : ℕ) (bytes : List ℕ) → bytes ≡ replicate n zero_byte → SinkTook a b (replicate done zero_byte) → SinkTook b c bytes → SinkTook a c (replicate (done + n) zero_byte)
zeros_more a b c done n bytes is took more =
    subst (SinkTook a c) (ap (λ (l : List ℕ). replicate done zero_byte ++ l) is ∙ replicate-append-replicate done n zero_byte) (SinkTook-chain a b c (replicate done zero_byte) bytes took more)

-- a front of a piece more
pub zeros_front : (a b c : Option (List ℕ)) (done left count n : ℕ) (bytes : List ℕ) → done + left ≡ count → n ≤ left → bytes ≡ replicate n zero_byte → SinkTook a b (replicate done zero_byte) → SinkTookFront b c bytes → SinkTookFront a c (replicate count zero_byte)
zeros_front a b c done left count n bytes sum within is took front =
    let all : (replicate done zero_byte ++ bytes) ++ replicate (left - n) zero_byte ≡ replicate count zero_byte =
    ap (λ (l : List ℕ). (replicate done zero_byte ++ l) ++ replicate (left - n) zero_byte) is
    ∙ ap (λ (l : List ℕ). l ++ replicate (left - n) zero_byte) (replicate-append-replicate done n zero_byte)
    ∙ replicate-append-replicate (done + n) (left - n) zero_byte
    ∙ ap (λ (k : ℕ). replicate k zero_byte) (rest done left count n sum within) in
    subst (SinkTookFront a c) all (SinkTookFront-more a c (replicate done zero_byte ++ bytes) (replicate (left - n) zero_byte) (SinkTookFront-after a b c (replicate done zero_byte) bytes took front))
  where
    rest : (done left count n : ℕ) → done + left ≡ count → n ≤ left → (done + n) + (left - n) ≡ count
    rest done left count n sum within = omega arith
