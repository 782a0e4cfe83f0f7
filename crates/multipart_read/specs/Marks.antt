-- Delimiters and closes. `start` is CR LF, `--` and the boundary; `taken` bytes of the mark are behind.
use Rattle.std.specs.Prelude.{◌==◌, ◌||◌, ◌+◌, ◌<◌, ◌≤◌, ℕ, zero, suc, Bool, if◌then◌else◌, List, [], ◌∷◌}
use Rattle.multipart_read.specs.declared.marks.Mark.{Mark}
use Rattle.multipart_read.specs.declared.marks.Mark.TheVariants.{Absent, Undecided, Delimiter, Close}
use Rattle.multipart_read.specs.declared.marks.Sight.{Sight}

-- a space or a tab
abbrev pub is_pad : ℕ → Bool
is_pad x = x == 32 || x == 9

-- behind the CR that ends a delimiter: LF
abbrev pub after_return : ℕ → List ℕ → Mark
after_return taken [] = Undecided
after_return taken (x ∷ xs) = if x == 10 then Delimiter (taken + 1) else Absent

-- behind the first `-` of a close: another
abbrev pub after_dash : ℕ → List ℕ → Mark
after_dash taken [] = Undecided
after_dash taken (x ∷ xs) = if x == 45 then Close (taken + 1) else Absent

-- behind a boundary and some pad, where so many more bytes of pad may come: pad, CR LF
unfoldable pub after_pad : ℕ → ℕ → List ℕ → Mark
after_pad left taken [] = Undecided
after_pad zero taken (x ∷ xs) = if x == 13 then after_return (taken + 1) xs else Absent
after_pad (suc left) taken (x ∷ xs) =
    if x == 13 then after_return (taken + 1) xs
    else if is_pad x then after_pad left (taken + 1) xs
    else Absent

-- behind a boundary: `--`, or pad of at most 16 bytes and CR LF
unfoldable pub mark_behind : ℕ → List ℕ → Mark
mark_behind taken [] = Undecided
mark_behind taken (x ∷ xs) = if x == 45 then after_dash (taken + 1) xs else after_pad 16 taken (x ∷ xs)

-- what is left of the start, and then what stands behind a boundary
unfoldable pub mark_from : ℕ → List ℕ → List ℕ → Mark
mark_from taken [] bytes = mark_behind taken bytes
mark_from taken (t ∷ ts) [] = Undecided
mark_from taken (t ∷ ts) (x ∷ xs) = if x == t then mark_from (taken + 1) ts xs else Absent

-- one byte further on
abbrev pub further : Sight → Sight
further s = record { sure = s.sure + 1; mark = s.mark }

abbrev pub here : Mark → Sight
here mark = record { sure = 0; mark = mark }

-- what is seen from a place at which this mark begins, where that is seen from the next place on
abbrev pub seen_from : Mark → Sight → Sight
seen_from Absent next = further next
seen_from Undecided next = here Undecided
seen_from (Delimiter n) next = here (Delimiter n)
seen_from (Close n) next = here (Close n)

-- the first place at which a mark begins or, at the end of the bytes, may begin
unfoldable pub first_mark : List ℕ → List ℕ → Sight
first_mark start [] = here Undecided
first_mark start (x ∷ xs) = seen_from (mark_from 0 start (x ∷ xs)) (first_mark start xs)

-- Where the first mark lies in so many bytes. Where none is found, fewer than `most` bytes and one more stay undecided.
abbrev pub Lies : ℕ → ℕ → ℕ → Mark → Type 0
Lies most long sure Absent = ⊥
Lies most long sure Undecided = (sure ≤ long) × (long ≤ sure + most)
Lies most long sure (Delimiter n) = (0 < n) × (sure + n ≤ long)
Lies most long sure (Close n) = (0 < n) × (sure + n ≤ long)
