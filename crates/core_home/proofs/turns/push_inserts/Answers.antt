use Rattle.std.proofs.Common.{◌≡◌, ◌+◌, ◌++◌, ◌∷◌, [], ◌∙◌, ap, sym, append_assoc, rules, List, None}
use Rattle.core_home.specs.declared.turns.Turns.{Turns}
use Rattle.core_home.specs.Keeping.{inserted_from}
use Rattle.core_home.proofs.Settling.{inserted_more}
use Rattle.core_home.proofs.turns.push_inserts.Goals as goal

pub turns-preserved : goal.turns-preserved
turns-preserved c =
    let next : List Turns = record { taken = None; inserted = c.args.drawn + c.turns.n + 1 } ∷ [] in
    let pushed : c.push_insert.new.inserts.items ≡ c.turns.inserts.items ++ next = search rules in
    pushed ∙ (ap (λ (ts : List Turns). ts ++ next) c.turns.invariant
    ∙ (append_assoc c.args.inserts.now.items (inserted_from c.args.drawn c.turns.n) next
    ∙ ap (λ (ts : List Turns). c.args.inserts.now.items ++ ts) (sym (inserted_more c.args.drawn c.turns.n))))
