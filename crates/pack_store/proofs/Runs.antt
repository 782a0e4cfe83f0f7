-- The laws of runs stand in specs/, since a store as a shelf cites them.
pub use Rattle.pack_store.specs.RunLaws.{puts_join, told_join, told_nothing, told_one, hold_join, hold_on, puts_nothing, puts_then}
