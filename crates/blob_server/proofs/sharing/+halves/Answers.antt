use Rattle.std.proofs.Common.{◌+◌, ◌++◌, List, sym, subst, arith}
use Rattle.blob_server.specs.Counting.{Attended}
use Rattle.blob_server.proofs.Joining.{attended_append}
use Rattle.blob_server.proofs.sharing.+halves.Goals as goal

pub attend_all-returns-clause-does : goal.attend_all-returns-clause-does
attend_all-returns-clause-does g t c =
    let d = c.attend_both.ensures.does in
    let does = g.A.DeskWork.does c.args.work.now in
    let front = c.split_at_mut-front.result.0.now in
    let back = c.split_at_mut-front.result.1.now in
    let after = c.attend_both.new.front ++ c.attend_both.new.back in
    let taken = d.6 in
    let dry = d.7 in (
      d.0 + d.2,
      d.1 + d.3,
      subst (λ (xs : List _). Attended does xs after (d.0 + d.2) (d.1 + d.3)) (sym c.split_at_mut-front.ensures.value)
          (attended_append does front c.attend_both.new.front back c.attend_both.new.back d.0 d.1 d.2 d.3 d.4 d.5),
      omega (arith, taken),
      omega (arith, dry),
    )
