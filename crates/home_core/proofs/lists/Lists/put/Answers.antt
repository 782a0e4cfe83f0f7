use Rattle.std.proofs.Common.{◌≡◌, length, rules, sym, subst, ◌∙◌}
use mathlib.Core.List.{IsPrefix}
use Rattle.home_core.proofs.Putting.{put_blob_longer, cut_off}
use Rattle.home_core.proofs.lists.Lists.put.Goals as goal

-- what was put is cut off again
pub returns-then-is_err-clause-refused : goal.returns-then-is_err-clause-refused
returns-then-is_err-clause-refused c =
    let old = c.self.inside.store.items in
    let count : c.len-len.result ≡ length old = search rules in
    let longer = subst (IsPrefix old) (sym c.in_ok-reply.ensures.store) (put_blob_longer (c.args.said.now, c.args.bytes.now) old) in
    let cut = c.truncate.ensures.items ∙ cut_off old c.put_blob.new.store.items c.len-len.result longer count in
    search (rules, cut)
