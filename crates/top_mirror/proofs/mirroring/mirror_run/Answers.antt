use Rattle.std.proofs.Common.{inl, false, true, refl, sym, ◌∙◌}
use Rattle.top_mirror.specs.Mirrors.{objects}
use Rattle.top_mirror.proofs.Mirrored.{unmet, untouched}
use Rattle.top_mirror.proofs.mirroring.mirror_run.Goals as goal

pub returns-then-not-is_line_of : goal.returns-then-not-is_line_of
returns-then-not-is_line_of g c = record {
  always = untouched g.D.Disk g.P.Peer g.K.Sink g.met.D.Disk.counts_now g.met.D.Disk.only_now
      (objects c.args.disk c.args.peers.now c.args.sink.now)
      (unmet g.P.Peer g.met.P.Peer.puts_nothing g.met.P.Peer.puts_follows c.args.peers.now);
  ends = inl (record {
    told_as = refl;
    other = λ named.
        (let is = c.is_line_of.ensures.line.1 named in let not_so = c.if-not-is_line_of.true in absurd (cc));
    untouched = refl;
  });
}
