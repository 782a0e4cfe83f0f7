use Rattle.std.proofs.Common.{sym, ◌∙◌}
use Rattle.std.specs.Cmp.Lexicographic.{same_text}
use Rattle.store_ahead.proofs.Ahead.{last_held}
use Rattle.store_ahead.proofs.store_ahead.StoreAhead.take_next.Goals as goal

pub returns-then-eq-clause-held : goal.returns-then-eq-clause-held
returns-then-eq-clause-held g c =
    last_held g.D.Disk c.self.inside.store c.args.self.now c.self.inside.ahead.items c.pop.new.self.items
    c.in_ok-next.next c.args.r.now c.in_ok-next.bytes c.self.view_is (same_text _ _ (sym c.if-eq.true ∙ c.eq.ensures))
    c.in_ok-next.ensures.items c.self.invariant
