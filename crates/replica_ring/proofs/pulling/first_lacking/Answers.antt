use Rattle.std.proofs.Common.{◌≡◌, ◌<◌, ◌-◌, ◌++◌, length, take, sym, ◌∙◌, ap, arith, rules, vec_len}
use Rattle.edge_base.specs.Shelf.{Blob}
use Rattle.replica_ring.specs.Taking.{unless_there}
use Rattle.replica_ring.proofs.Walking.{lacked, walk_begins, walk_more, walk_few, not_full}
use Rattle.replica_ring.proofs.pulling.first_lacking.Goals as goal

pub loop-r-init : goal.loop-r-init
loop-r-init c =
    let range = c.into_iter-r-iterator.ensures.into_iter_gives in
    rw (range, c.new-found.ensures.items) (record {
      within = omega arith;
      all = (let none : c.args.count - 0 ≡ c.args.count = omega arith in ap (λ k. take k (lacked c.args.to.now c.range_from-r-items.result)) none)
          ∙ ap (λ l. take c.args.count (lacked c.args.to.now l)) c.range_from-r-items.ensures.between ∙ walk_begins c.args.from.now c.args.to.now c.args.count;
    })

pub loop-r-preserved : goal.loop-r-preserved
loop-r-preserved c =
    let e : Blob = (c.in-Some.r.now, c.in-Some.bytes.now) in
    let found = c.loop-r.found.items in
    let to = c.args.to.now in
    let pushed : c.push_lacking.new.found.items ≡ found ++ unless_there to e = c.in_ok-push_lacking.ensures in
    let size : vec_len c.loop-r.found ≡ length found = search rules in
    let more : length found < c.args.count = not_full (length found) c.args.count c.len.result c.loop-r.invariant.within (c.len.ensures ∙ size) c.if-len-count.false in
    rw pushed (record {
      within = walk_few found to c.args.count e more;
      all = walk_more found to c.args.count e c.next.new.self more ∙ ap (λ l. found ++ take (c.args.count - length found) (lacked to l)) (sym c.in-Some.ensures.steps) ∙ c.loop-r.invariant.all;
    })
