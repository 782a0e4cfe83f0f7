use Rattle.std.proofs.Common.{◌≡◌, ap, sym, ◌∙◌, Some, vec_len, length, rules, arith}
use Rattle.pack_store.specs.declared.rows.Row.{Row}
use Rattle.pack_store.specs.Archive.{Archive}
use Rattle.pack_store.specs.Reading.{size_of}
use Rattle.pack_store.proofs.Numbers.{row_of, no_row_of}
use Rattle.pack_store.proofs.store.Store.stat.Goals as goal

pub returns-in_err-number : goal.returns-in_err-number
returns-in_err-number g c = c.from_residual.ensures
    ∙ sym (no_row_of (λ (row : Row). row.size) c.args.r.now c.self.inside.rows.items (sym (c.self.invariant.placed c.args.r.now) ∙ sym c.number.ensures ∙ c.in_err-number.was))
    ∙ ap (λ (s : Archive _). size_of c.args.r.now s.rows) c.self.view_is

pub index-requires : goal.index-requires
index-requires g c =
    let count : vec_len c.self.inside.rows ≡ length c.self.inside.rows.items = search rules in
    let row = row_of (λ (row : Row). row.size) c.args.r.now c.self.inside.rows.items c.in_ok-number.number (sym (c.self.invariant.placed c.args.r.now) ∙ sym c.number.ensures ∙ c.in_ok-number.was) in
    omega (arith, row.within, count)

pub returns : goal.returns
returns g c =
    let row = row_of (λ (row : Row). row.size) c.args.r.now c.self.inside.rows.items c.in_ok-number.number (sym (c.self.invariant.placed c.args.r.now) ∙ sym c.number.ensures ∙ c.in_ok-number.was) in
    ap (λ (r : Row). Some r.size) c.index.ensures ∙ sym (row.first c.index.result.now) ∙ ap (λ (s : Archive _). size_of c.args.r.now s.rows) c.self.view_is
