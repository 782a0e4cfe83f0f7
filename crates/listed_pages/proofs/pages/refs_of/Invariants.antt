use Rattle.std.proofs.Common.{◌≡◌, take}
use Rattle.peer_base.specs.Order.{refs_of}
use Rattle.listed_pages.proofs.pages.refs_of.Given as goal

abbrev pub invariant-loop-entry : goal.invariant-loop-entry
invariant-loop-entry l = l.refs.items ≡ refs_of (take l.entry-index l.page)
