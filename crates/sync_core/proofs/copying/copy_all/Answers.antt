use Rattle.std.proofs.Common.{◌+◌, ◌∙◌, [], ◌∷◌, ◌++◌, refl, sym, subst, ap, take, drop, arith}
use Rattle.std.proofs.lemmas.List.{take_more, take-append-drop}
use Rattle.sync_core.specs.Copying.{CopiesRefs, CopiesFront}
use Rattle.listed_pages.proofs.Lasts.{drop_first}
use Rattle.listed_pages.proofs.Runs.{laws}
use Rattle.sync_core.proofs.Gone.{refs_none, refs_more, front_more}
use Rattle.sync_core.proofs.copying.copy_all.Goals as goal

pub loop-r-init : goal.loop-r-init
loop-r-init g c =
    let la = (laws g.A.Peer g.met.A.Peer.puts_nothing g.met.A.Peer.puts_then g.met.A.Peer.puts_follows
    g.met.A.Peer.follows_then) in
    let lb = (laws g.B.Peer g.met.B.Peer.puts_nothing g.met.B.Peer.puts_then g.met.B.Peer.puts_follows
    g.met.B.Peer.follows_then) in
    record {
      told = refl;
      copied = refs_none g.A.Peer g.B.Peer la lb c.args.source.now c.args.target.now;
      source_later = omega arith;
      target_later = omega arith;
      nothing = g.met.A.Peer.puts_nothing c.args.source.now;
      run = g.met.B.Peer.puts_follows c.args.target.now c.args.target.now []
          (g.met.B.Peer.puts_nothing c.args.target.now);
    }

pub returns-in-Err-clause-err : goal.returns-in-Err-clause-err
returns-in-Err-clause-err g c =
    let la = (laws g.A.Peer g.met.A.Peer.puts_nothing g.met.A.Peer.puts_then g.met.A.Peer.puts_follows
    g.met.A.Peer.follows_then) in
    let lb = (laws g.B.Peer g.met.B.Peer.puts_nothing g.met.B.Peer.puts_then g.met.B.Peer.puts_follows
    g.met.B.Peer.follows_then) in
    let refs = c.args.refs.now in
    let i = c.loop-r.r-index in
    let r = c.r-item.result in
    subst (λ l. CopiesFront g.A.Peer g.B.Peer c.args.source.now c.copy_one.new.source c.args.target.now
    c.copy_one.new.target l c.in-Err.fault)
    (ap (λ l. take i refs ++ l) (sym (drop_first refs i r c.loop-r-test.true c.r-item.is)) ∙ take-append-drop i refs)
    (front_more g.A.Peer g.B.Peer la lb c.args.source.now c.loop-r.source c.copy_one.new.source c.args.target.now
    c.loop-r.target c.copy_one.new.target
    (take i refs) (r ∷ []) (drop (i + 1) refs) c.in-Err.fault c.loop-r.invariant.told c.loop-r.invariant.source_later
    c.loop-r.invariant.target_later c.loop-r.invariant.nothing c.loop-r.invariant.copied c.in-Err.ensures.err)

pub returns-in-Err-clause-nothing : goal.returns-in-Err-clause-nothing
returns-in-Err-clause-nothing g c = g.met.A.Peer.puts_then c.args.source.now c.loop-r.source c.copy_one.new.source []
    [] c.loop-r.invariant.nothing c.in-Err.ensures.nothing

pub loop-r-preserved : goal.loop-r-preserved
loop-r-preserved g c =
    let la = (laws g.A.Peer g.met.A.Peer.puts_nothing g.met.A.Peer.puts_then g.met.A.Peer.puts_follows
    g.met.A.Peer.follows_then) in
    let lb = (laws g.B.Peer g.met.B.Peer.puts_nothing g.met.B.Peer.puts_then g.met.B.Peer.puts_follows
    g.met.B.Peer.follows_then) in
    let refs = c.args.refs.now in
    let i = c.loop-r.r-index in
    let r = c.r-item.result in
    record {
      told = c.in-Ok.ensures.told ∙ c.loop-r.invariant.told;
      copied = subst (CopiesRefs g.A.Peer g.B.Peer c.args.source.now c.copy_one.new.source c.args.target.now
          c.copy_one.new.target)
          (ap (λ x. take i refs ++ x ∷ []) c.r-item.is ∙ sym (take_more refs i r c.loop-r-test.true))
          (refs_more g.A.Peer g.B.Peer la lb c.args.source.now c.loop-r.source c.copy_one.new.source c.args.target.now
          c.loop-r.target c.copy_one.new.target
          (take i refs) (r ∷ []) c.loop-r.invariant.told c.loop-r.invariant.copied c.in-Ok.ensures.ok);
      source_later = omega (arith, c.loop-r.invariant.source_later, c.in-Ok.ensures.source_later);
      target_later = omega (arith, c.loop-r.invariant.target_later, c.in-Ok.ensures.target_later);
      nothing = g.met.A.Peer.puts_then c.args.source.now c.loop-r.source c.copy_one.new.source []
          [] c.loop-r.invariant.nothing c.in-Ok.ensures.nothing;
      run = g.met.B.Peer.follows_then c.args.target.now c.loop-r.target c.copy_one.new.target c.loop-r.invariant.run
          c.in-Ok.ensures.run;
    }
