use Rattle.std.proofs.Common.{◌≡◌, ◌++◌, map, drop}
use Rattle.std.specs.Prelude.{option_map}
use Rattle.share_http.specs.Asking.{refs_of}
use Rattle.share_http.proofs.asking.refs_of.Given as goal

-- the refs so far, before those of the pieces that are left, are those of all
abbrev pub invariant-loop-piece : goal.invariant-loop-piece
invariant-loop-piece l =
    refs_of (map (λ x. x.now) l.pieces)
    ≡ option_map (λ more. l.refs ++ more) (refs_of (map (λ x. x.now) (drop l.piece-index l.pieces)))
