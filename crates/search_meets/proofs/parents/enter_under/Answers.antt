use Rattle.std.proofs.Common.{◌∙◌}
use Rattle.search_meets.proofs.Gathering.{child_is, on_ok, put_under, some_is}
use Rattle.search_meets.proofs.parents.enter_under.Goals as goal

pub returns-in-Some-get_mut : goal.returns-in-Some-get_mut
returns-in-Some-get_mut c =
    on_ok c.push_once.result
    (λ is q _. put_under c.in-Some.child c.args.member.now c.args.p.now c.args.found.now (c.get_mut.follows.lender c.push_once.new.parents) c.in-Some-get_mut.parents.now c.push_once.new.parents
    (child_is _ _ _ c.in-Some.ensures ∙ c.as_bytes.ensures.value ∙ c.as_str.ensures) c.in-Some-get_mut.ensures.value is
    ((c.get_mut.follows.holds c.push_once.new.parents).3 (some_is _ _ c.in-Some-get_mut.ensures.value)).0 q)
    c.push_once.ensures
