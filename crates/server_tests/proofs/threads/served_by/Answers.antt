use Rattle.server_tests.proofs.Desks.{new_desks}
use Rattle.server_tests.proofs.threads.served_by.Goals as goal

pub served_over-requires-after_bounds : goal.served_over-requires-after_bounds
served_over-requires-after_bounds g c κs within =
    new_desks c.args.listeners.items c.in_ok-desks-in-Ok.desks.items c.in-Ok.ensures.opened c.in_ok-desks-in-Ok.ensures
