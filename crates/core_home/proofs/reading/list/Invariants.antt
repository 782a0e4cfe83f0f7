use Rattle.std.proofs.Common.{◌≡◌, ◌++◌, ◌-◌, ◌≤◌, List, ℕ, length, take, drop, filter, option_copied}
use Rattle.blobref.specs.Blobref.{is_after}
use Rattle.core_home.proofs.reading.list.Given as goal

-- what stands on the page, and what is still to come on it, is the page
abbrev pub invariant-entries : goal.invariant-entries
invariant-entries l = record {
  within : length l.found ≤ l.limit;
  page : l.found ++ take (l.limit - length l.found) (filter (λ (e : List ℕ × ℕ). is_after (option_copied l.fn.after) e.0) (drop l.entry-index l.entry-items))
      ≡ take l.limit (filter (λ (e : List ℕ × ℕ). is_after (option_copied l.fn.after) e.0) l.entry-items);
}
