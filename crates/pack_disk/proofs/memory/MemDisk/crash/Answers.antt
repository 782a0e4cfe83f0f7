use Rattle.std.proofs.Common.{◌∙◌, ap}
use Rattle.std.specs.Option.{option_map}
use Rattle.pack_disk.specs.PackState.{all_bytes, begun}
use Rattle.pack_disk.proofs.Crashes.{told_begun, state_begun, crash_is_image, crash_no_new}
use Rattle.pack_disk.proofs.memory.MemDisk.crash.Goals as goal

pub returns-clause-image : goal.returns-clause-image
returns-clause-image c = rw (← c.self.view_is) (crash_is_image c.args.choice c.self.inside.history c.in_ok-history.history c.in_ok-history.ensures.fresh c.in_ok-history.ensures.left)

pub returns-clause-crash : goal.returns-clause-crash
returns-clause-crash c = rw (← c.self.view_is) (crash_no_new c.args.choice c.self.inside.history c.in_ok-history.history c.in_ok-history.ensures.fresh c.in_ok-history.ensures.left)

pub returns-clause-left : goal.returns-clause-left
returns-clause-left c = rw (← c.self.view_is) (λ n. told_begun c.in_ok-history.history c.in_ok-history.ensures.fresh n ∙ ap (option_map all_bytes) (c.in_ok-history.ensures.left n))

pub returns-clause-durable : goal.returns-clause-durable
returns-clause-durable c = rw (← c.self.view_is) (λ n. state_begun c.in_ok-history.history c.in_ok-history.ensures.fresh n ∙ ap (option_map begun) (c.in_ok-history.ensures.left n))
