use Rattle.std.proofs.Common.{◌≡◌, take}
use Rattle.std.specs.List.{list_all}
use Rattle.blobref.specs.Blobref.{is_lower_digit}
use Rattle.blobref.proofs.digits.are_lower_digits.Given as goal

abbrev pub invariant-bytes : goal.invariant-bytes
invariant-bytes l = l.all ≡ list_all is_lower_digit (take l.i l.bytes)
