-- A disk that tells nothing.
use Rattle.std.specs.Prelude.{◌≡◌, None, Some}
use Rattle.pack_disk.specs.Packs.{Packs}

pub tells_nothing : (held : Packs) → None ≡ Some held → ⊥
tells_nothing held is = cc is
