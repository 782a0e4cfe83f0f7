use Rattle.std.proofs.Common.{List, ℕ, length, ap, subst, ◌∙◌, arith}
use Rattle.pack_store.specs.Archive.{Archive, count}
use Rattle.top_frame.specs.Steps.{Writes}
use Rattle.top_mirror.specs.Mirrors.{objects, stores_line}
use Rattle.top_mirror.proofs.Mirrored.{unmet, unopened_always, unopened_ends, round_always, refused_ends, unprinted_ends, printed_ends}
use Rattle.top_mirror.proofs.mirroring.mirrored.Goals as goal

pub returns-in-Err-clause-always : goal.returns-in-Err-clause-always
returns-in-Err-clause-always g c =
    unopened_always g.D.Disk g.P.Peer g.K.Sink g.met.D.Disk.counts_now g.met.D.Disk.only_now
    (objects c.args.disk c.args.peers.now c.args.sink.now)
    c.in-Err.end.0 c.in-Err.ensures.stays_err c.in-Err.ensures.later_err
    (unmet g.P.Peer g.met.P.Peer.puts_nothing g.met.P.Peer.puts_follows c.args.peers.now)

pub returns-in-Err-clause-ends : goal.returns-in-Err-clause-ends
returns-in-Err-clause-ends g c =
    unopened_ends g.D.Disk g.P.Peer g.K.Sink g.met.D.Disk.counts_now g.met.D.Disk.only_now
    (objects c.args.disk c.args.peers.now c.args.sink.now)
    c.in-Err.end.0 c.in-Err.ensures.stays_err c.in-Err.ensures.later_err c.in-Err.end.1 c.in-Err.ensures.refused

pub returns-in-Err-ring_round-clause-always : goal.returns-in-Err-ring_round-clause-always
returns-in-Err-ring_round-clause-always g c =
    rw (c.give_back-in-Err-ring_round.ensures, c.back.ensures) (
    round_always g.D.Disk g.P.Peer g.K.Sink g.met.D.Disk.counts_now g.met.D.Disk.only_now
    (objects c.args.disk c.args.peers.now c.args.sink.now)
    c.in-Ok.store c.over-hub.result c.over-hub.ensures c.ring_round.new.hub c.ring_round.new.peers
    c.in-Ok.ensures.stays c.in-Ok.ensures.later c.in-Ok.ensures.stands c.in-Ok.ensures.read c.content_stands.ensures
    c.in-Err-ring_round.ensures.run c.in-Err-ring_round.ensures.later c.in-Err-ring_round.ensures.each
    c.in-Err-ring_round.ensures.between c.args.sink.now (omega arith))

pub returns-in-Err-ring_round-clause-ends : goal.returns-in-Err-ring_round-clause-ends
returns-in-Err-ring_round-clause-ends g c =
    rw (c.give_back-in-Err-ring_round.ensures, c.back.ensures, c.round_status.ensures) (
    refused_ends g.D.Disk g.P.Peer g.K.Sink g.met.D.Disk.counts_now g.met.D.Disk.only_now
    (objects c.args.disk c.args.peers.now c.args.sink.now)
    c.in-Ok.store c.over-hub.result c.over-hub.ensures c.ring_round.new.hub c.ring_round.new.peers
    c.in-Ok.ensures.stays c.in-Ok.ensures.later c.in-Ok.ensures.stands c.in-Ok.ensures.read c.content_stands.ensures
    c.in-Err-ring_round.ensures.run c.in-Err-ring_round.ensures.later c.in-Err-ring_round.ensures.each
    c.in-Err-ring_round.ensures.between c.in-Err-ring_round.fault c.in-Err-ring_round.ensures.err)

pub returns-in-Ok-stores_line-clause-always : goal.returns-in-Ok-stores_line-clause-always
returns-in-Ok-stores_line-clause-always g c =
    rw (c.give_back.ensures, c.back-store.ensures) (
    round_always g.D.Disk g.P.Peer g.K.Sink g.met.D.Disk.counts_now g.met.D.Disk.only_now
    (objects c.args.disk c.args.peers.now c.args.sink.now)
    c.in-Ok.store c.over-hub.result c.over-hub.ensures c.ring_round.new.hub c.ring_round.new.peers
    c.in-Ok.ensures.stays c.in-Ok.ensures.later c.in-Ok.ensures.stands c.in-Ok.ensures.read c.content_stands.ensures
    c.in-Ok-ring_round.ensures.run c.in-Ok-ring_round.ensures.later c.in-Ok-ring_round.ensures.each
    c.in-Ok-ring_round.ensures.between c.written-status.new.sink c.written-status.ensures.later)

pub returns-in-Ok-stores_line-clause-ends : goal.returns-in-Ok-stores_line-clause-ends
returns-in-Ok-stores_line-clause-ends g c =
    rw (c.give_back.ensures, c.back-store.ensures) (
    printed_ends g.D.Disk g.P.Peer g.K.Sink g.met.D.Disk.counts_now g.met.D.Disk.only_now
    (objects c.args.disk c.args.peers.now c.args.sink.now)
    c.in-Ok.store c.over-hub.result c.over-hub.ensures c.ring_round.new.hub c.ring_round.new.peers
    c.in-Ok.ensures.stays c.in-Ok.ensures.later c.in-Ok.ensures.stands c.in-Ok.ensures.read c.content_stands.ensures
    c.in-Ok-ring_round.ensures.run c.in-Ok-ring_round.ensures.later c.in-Ok-ring_round.ensures.each
    c.in-Ok-ring_round.ensures.between c.in-Ok-ring_round.field-0 c.in-Ok-ring_round.ensures.ok
    c.in-Ok-ring_round.ensures.joined
    c.written-status.new.sink c.written-status.result
    (subst (λ (x : List ℕ). Writes g.K.Sink c.args.sink.now c.written-status.new.sink x c.written-status.result)
    (c.as_slice.ensures ∙ c.in-Ok-stores_line.ensures
    ∙ (λ i. stores_line (length c.args.peers.now)
    ((c.count.ensures ∙ ap (λ (s : Archive g.row.D.Denot). count s) c.back-store.ensures) i)))
    c.written-status.ensures.wrote))

pub returns-in-Err-stores_line-clause-always : goal.returns-in-Err-stores_line-clause-always
returns-in-Err-stores_line-clause-always g c =
    rw (c.give_back-in-Err-stores_line.ensures, c.back-store.ensures) (
    round_always g.D.Disk g.P.Peer g.K.Sink g.met.D.Disk.counts_now g.met.D.Disk.only_now
    (objects c.args.disk c.args.peers.now c.args.sink.now)
    c.in-Ok.store c.over-hub.result c.over-hub.ensures c.ring_round.new.hub c.ring_round.new.peers
    c.in-Ok.ensures.stays c.in-Ok.ensures.later c.in-Ok.ensures.stands c.in-Ok.ensures.read c.content_stands.ensures
    c.in-Ok-ring_round.ensures.run c.in-Ok-ring_round.ensures.later c.in-Ok-ring_round.ensures.each
    c.in-Ok-ring_round.ensures.between c.args.sink.now (omega arith))

pub returns-in-Err-stores_line-clause-ends : goal.returns-in-Err-stores_line-clause-ends
returns-in-Err-stores_line-clause-ends g c =
    rw (c.give_back-in-Err-stores_line.ensures, c.back-store.ensures) (
    unprinted_ends g.D.Disk g.P.Peer g.K.Sink g.met.D.Disk.counts_now g.met.D.Disk.only_now
    (objects c.args.disk c.args.peers.now c.args.sink.now)
    c.in-Ok.store c.over-hub.result c.over-hub.ensures c.ring_round.new.hub c.ring_round.new.peers
    c.in-Ok.ensures.stays c.in-Ok.ensures.later c.in-Ok.ensures.stands c.in-Ok.ensures.read c.content_stands.ensures
    c.in-Ok-ring_round.ensures.run c.in-Ok-ring_round.ensures.later c.in-Ok-ring_round.ensures.each
    c.in-Ok-ring_round.ensures.between c.in-Ok-ring_round.field-0 c.in-Ok-ring_round.ensures.ok
    c.in-Ok-ring_round.ensures.joined)
