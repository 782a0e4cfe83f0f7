-- The packs of an image, as they are gathered from the packs that are held.
use Rattle.std.specs.Prelude.{◌≡◌, ℕ, List, ◌==◌, if◌then◌else◌, Option, None, Some}
use Rattle.std.specs.Option.{option_map, option_and_then}
use Rattle.pack_disk.specs.PackState.{PackState, begun}
use Rattle.pack_disk.specs.declared.remains.Remains.{Remains}
use Rattle.pack_disk.specs.Past.{at_number}
use Rattle.pack_disk.specs.Left.{left}

-- what stands at a number once a pack was put there or none was
abbrev pub instead : {X : Type 0} → Option X → Option X → Option X
instead None before = before
instead (Some now) before = Some now

-- what a crash leaves of the pack stands at its number, if anything is left
pub record Keeps (choice number : ℕ) (pack : PackState) (before now : List (ℕ × Remains)) (held_before held_now : List (ℕ × PackState)) : Type 0 where
  pub start : (n : ℕ) → at_number now n ≡ (if n == number then instead (left choice pack) (at_number before n) else at_number before n)
  pub held : (n : ℕ) → at_number held_now n ≡ (if n == number then instead (option_map begun (left choice pack)) (at_number held_before n) else at_number held_before n)

-- what a crash leaves of these packs is there
pub record HasLeft (choice : ℕ) (packs : List (ℕ × PackState)) (start : List (ℕ × Remains)) (held : List (ℕ × PackState)) : Type 0 where
  pub left : (n : ℕ) → at_number start n ≡ option_and_then (left choice) (at_number packs n)
  pub begun : (n : ℕ) → at_number held n ≡ option_map begun (at_number start n)
