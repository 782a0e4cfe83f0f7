use Rattle.std.proofs.Common.{◌≡◌, ◌≤◌, [], take}
use Rattle.sync_core.specs.Copying.{CopiesRefs}
use Rattle.sync_core.proofs.copying.copy_all.Given as goal

-- the blobs of the refs so far were copied
abbrev pub invariant-loop-r : goal.invariant-loop-r
invariant-loop-r g l = record {
  told : g.A.Peer.content l.source ≡ g.A.Peer.content l.fn.source;
  copied : CopiesRefs g.A.Peer g.B.Peer l.fn.source l.source l.fn.target l.target (take l.r-index l.refs);
  source_later : g.A.Peer.faults l.fn.source ≤ g.A.Peer.faults l.source;
  target_later : g.B.Peer.faults l.fn.target ≤ g.B.Peer.faults l.target;
  nothing : g.A.Peer.puts l.fn.source [] l.source;
  run : g.B.Peer.follows l.fn.target l.target;
}
