-- Bytes that belong to nothing, one behind another.
use Rattle.std.specs.Prelude.{◌≡◌, ℕ, ◌≤◌, ◌<◌, ◌&&◌, ◌||◌, ◌==◌, Bool, List, length, drop}
use Rattle.salvage_scan.specs.declared.scanning.FrontAt.TheVariants as shows
use Rattle.salvage_scan.specs.Pieces.{seen}

-- whether a header may begin with four bytes: `[sha`, `[x-0`, `[xx-` or `[xxx`
abbrev pub may_begin : ℕ → ℕ → ℕ → ℕ → Bool
may_begin a b c d =
    (a == 91) && (((b == 115) && (c == 104) && (d == 97)) || ((b == 120) && (((c == 120) && ((d == 120) || (d == 45))) || ((c == 45) && (d == 48)))))

-- each byte from one place up to another one is junk, whatever follows the text
pub record IsJunkTo (x : List ℕ) (start onward : ℕ) : Type 0 where
  pub after : start ≤ onward
  pub within : onward ≤ length x
  pub junk : (last : Bool) (at : ℕ) → start ≤ at → at < onward → shows.Junk ≡ seen last (drop at x)
