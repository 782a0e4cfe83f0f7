use Rattle.std.proofs.Common.{◌≡◌, ◌≤◌, ◌+◌, ◌*◌, ◌||◌, ◌&&◌, ℕ, List}
use Rattle.std.specs.Str.{bytes_eq}
use Rattle.std.specs.Ordering.{is_eq, int_cmp}
use Rattle.std.specs.FinMap.{contains_key}
use Rattle.schema_fact.specs.Changes.{changes_of}
use Rattle.schema_fact.specs.declared.changes.Change.{Change}
use Rattle.claim_model.specs.Claims.{Moment}
use Rattle.index_rows.specs.Removals.{has_mark}
use Rattle.claim_index.proofs.Rows.{on_among}
use Rattle.claim_index.proofs.judging.put_changes.Given as goal

-- the changes so far have their rows, at two steps each at most
abbrev pub invariant-loop-place : goal.invariant-loop-place
invariant-loop-place g l = record {
  listed : (p : List ℕ) (k : Moment) → contains_key l.changes (p, k)
      ≡ (contains_key l.fn.changes (p, k) || (bytes_eq k.1 l.claim && (is_eq (int_cmp k.0 l.date)
      && on_among (λ (c : Change). bytes_eq p c.on) k.2 l.place (changes_of l.what))));
  removed : (p : List ℕ) (mark : ℕ) (k : Moment) → contains_key l.removals (p, mark, k)
      ≡ (contains_key l.fn.removals (p, mark, k) || (bytes_eq k.1 l.claim && (is_eq (int_cmp k.0 l.date)
      && on_among (λ (c : Change). bytes_eq p c.on && has_mark mark c) k.2 l.place (changes_of l.what))));
  ticks : l.steps ≤ l.fn.steps + 2 * l.place;
}
