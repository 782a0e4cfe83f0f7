use Rattle.std.proofs.Common.{◌∙◌}
use Rattle.snap_index.proofs.seat.making.push_seat.Goals as goal

pub returns-clause-added : goal.returns-clause-added
returns-clause-added g c = record {
  seat = _;
  added = c.in_ok-push.ensures.items;
  is_new = record {
    own = c.in-Ok.ensures.own_second;
    nothing = c.in-Ok.ensures.second.0 ∙ c.requires.fresh.0;
    undrawn = c.in-Ok.ensures.second.1;
    knows = c.in-Ok.ensures.second.2;
    none = c.requires.knows.none;
  };
}
