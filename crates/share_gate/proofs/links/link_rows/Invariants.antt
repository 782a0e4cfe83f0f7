use Rattle.std.proofs.Common.{take}
use Rattle.std.specs.Option.{ForSome}
use Rattle.share_gate.specs.Building.{IsOnlyRead}
use Rattle.share_gate.specs.Tables.{AreLinks}
use Rattle.share_gate.proofs.links.link_rows.Given as goal

-- the rows are of the refs so far
abbrev pub invariant-loop-r : goal.invariant-loop-r
invariant-loop-r g l = record {
  links : ForSome (g.B.Shelf.content l.fn.shelf) (λ held. AreLinks held (take l.r-index l.refs) l.rows);
  read : IsOnlyRead g.B.Shelf l.fn.shelf l.shelf;
}
