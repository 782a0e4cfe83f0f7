-- What holds of each pass holds of each desk's.
use Rattle.std.proofs.Common.{List, [], ◌∷◌, Some, None, All}
use Rattle.std.proofs.lemmas.List.Elements.{All-nil, All-cons, All-head, All-tail}
use Rattle.blob_server.specs.declared.desk_list.Desk.{Desk}
use Rattle.blob_server.specs.Desks.{desk, desks_of}

pub all_desks : {P L : Type 0} (Q : P → Type 0) (passes : List P) (listeners : List L) → All Q passes
    → All (λ (d : Desk P L). Q d.pass) (desks_of passes listeners)
all_desks {P} {L} Q [] listeners all = All-nil (λ (d : Desk P L). Q d.pass)
all_desks {P} {L} Q (p ∷ passes) [] all =
    All-cons (λ (d : Desk P L). Q d.pass) (desk p None) (desks_of passes []) (All-head Q p passes all)
    (all_desks Q passes [] (All-tail Q p passes all))
all_desks {P} {L} Q (p ∷ passes) (l ∷ listeners) all =
    All-cons (λ (d : Desk P L). Q d.pass) (desk p (Some l)) (desks_of passes listeners) (All-head Q p passes all)
    (all_desks Q passes listeners (All-tail Q p passes all))
