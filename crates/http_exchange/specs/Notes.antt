-- What a log was given.
use Rattle.std.specs.Prelude.{List, ◌++◌}

-- the log has taken these entries: behind whatever it told before, it tells them
abbrev pub Notes : {E L : Type 0} → (L → List E → Type 0) → L → L → List E → Type 0
Notes tells old new entries = (before : List _) → tells old before → tells new (before ++ entries)
