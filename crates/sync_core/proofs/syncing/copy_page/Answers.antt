use Rattle.std.proofs.Common.{◌≤◌, ◌∙◌, ℕ, List, length, option_copied, sym, subst, ap}
use Rattle.sync_core.specs.Copying.{AreThere}
use Rattle.listed_pages.proofs.Chains.{part_off}
use Rattle.listed_pages.proofs.Runs.{laws, reached_then}
use Rattle.sync_core.proofs.Paging.{unlisted, there_part, page_done, page_stopped, part_few}
use Rattle.sync_core.proofs.syncing.copy_page.Goals as goal

pub returns-in-Err-clause-err : goal.returns-in-Err-clause-err
returns-in-Err-clause-err g c =
    unlisted g.A.Peer g.B.Peer c.args.source.now c.args.target.now c.lacking_of.new.target (option_copied c.args.after)
    c.args.last.now c.args.page.now c.in-Err.fault c.requires.last c.in-Err.ensures.told c.in-Err.ensures.nothing
    c.in-Err.ensures.cause
    c.in-Err.ensures.answered c.in-Err.ensures.stopped

pub copy_all-requires : goal.copy_all-requires
copy_all-requires g c =
    subst (AreThere (g.A.Peer.content c.args.source.now)) (sym c.as_slice.ensures.value)
    (there_part (g.A.Peer.content c.args.source.now) _ c.in-Ok.refs.items c.requires.there
    (part_off c.in-Ok.ensures.listed.0 c.args.page.now c.in-Ok.refs.items c.in-Ok.ensures.listed.2))

pub returns-in-Ok-copy_all-clause-ok : goal.returns-in-Ok-copy_all-clause-ok
returns-in-Ok-copy_all-clause-ok g c =
    let listed = c.in-Ok.ensures.listed in
    page_done g.A.Peer g.B.Peer (laws g.A.Peer g.met.A.Peer.puts_nothing g.met.A.Peer.puts_then
    g.met.A.Peer.puts_follows g.met.A.Peer.follows_then)
    (laws g.B.Peer g.met.B.Peer.puts_nothing g.met.B.Peer.puts_then g.met.B.Peer.puts_follows
    g.met.B.Peer.follows_then) c.args.source.now c.copy_all.new.source c.args.target.now c.lacking_of.new.target
    c.copy_all.new.target
    (option_copied c.args.after) c.args.last.now c.args.page.now listed.0 c.as_slice.result.now c.len.result
    c.in-Ok.ensures.told c.in-Ok.ensures.nothing (λ held told. c.as_slice.ensures.value
    ∙ c.in-Ok.ensures.lacking held told) listed.1 (c.as_slice.ensures.value ∙ listed.2)
    (c.len.ensures ∙ sym c.as_slice.ensures.len) c.in-Ok-copy_all.ensures.ok

pub returns-in-Ok-copy_all-clause-few : goal.returns-in-Ok-copy_all-clause-few
returns-in-Ok-copy_all-clause-few g c = subst (λ n. n ≤ length c.args.page.now) (ap (λ (l : List (List ℕ)). length l)
    (sym c.as_slice.ensures.value) ∙ c.as_slice.ensures.len ∙ sym c.len.ensures)
    (part_few c.args.page.now c.in-Ok.refs.items (part_off c.in-Ok.ensures.listed.0 c.args.page.now c.in-Ok.refs.items
    c.in-Ok.ensures.listed.2))

pub returns-in-Ok-copy_all-clause-reached : goal.returns-in-Ok-copy_all-clause-reached
returns-in-Ok-copy_all-clause-reached g c = reached_then g.B.Peer
    (laws g.B.Peer g.met.B.Peer.puts_nothing g.met.B.Peer.puts_then g.met.B.Peer.puts_follows g.met.B.Peer.follows_then)
    c.args.target.now c.lacking_of.new.target c.copy_all.new.target c.in-Ok.ensures.reached c.in-Ok-copy_all.ensures.run

pub returns-clause-err : goal.returns-clause-err
returns-clause-err g c =
    let listed = c.in-Ok.ensures.listed in
    page_stopped g.A.Peer g.B.Peer (laws g.A.Peer g.met.A.Peer.puts_nothing g.met.A.Peer.puts_then
    g.met.A.Peer.puts_follows g.met.A.Peer.follows_then)
    (laws g.B.Peer g.met.B.Peer.puts_nothing g.met.B.Peer.puts_then g.met.B.Peer.puts_follows
    g.met.B.Peer.follows_then) c.args.source.now c.copy_all.new.source c.args.target.now c.lacking_of.new.target
    c.copy_all.new.target
    (option_copied c.args.after) c.args.last.now c.args.page.now listed.0 c.as_slice.result.now c.in-Err-copy_all.fault
    c.requires.last c.in-Ok.ensures.told c.in-Ok.ensures.later c.in-Ok.ensures.nothing
    (λ held told. c.as_slice.ensures.value ∙ c.in-Ok.ensures.lacking held told)
    listed.1 (c.as_slice.ensures.value ∙ listed.2) c.in-Err-copy_all.ensures.err
