use Rattle.std.proofs.Common.{◌≡◌, ◌∙◌, ap, subst, ℕ, Bool, List, Option, Some, None, Result, Ok, Err}
use Rattle.edge_base.specs.declared.answers.GetFault.{GetFault}
use Rattle.schema_json.specs.Facts.{fact_of}
use Rattle.histories.specs.StoreCalls.{ArrivalSpec}
use Rattle.home_places.specs.Seats.{StoreSight, StoreTurn}
use Rattle.live_home.proofs.Indexing.{one_unread, one_unsaid, none_left, one_indexed}
use Rattle.live_home.proofs.home.index_one.Goals as goal

-- what a read answered
read_as : (tells : Bool) (n : ℕ) (v w : StoreSight) (result answer : Result (Option (List ℕ × List ℕ)) GetFault) → result ≡ answer
    → StoreTurn (λ before entry. ArrivalSpec tells n before result entry) v w → StoreTurn (λ before entry. ArrivalSpec tells n before answer entry) v w
read_as tells n v w result answer is = subst (λ (r : Result (Option (List ℕ × List ℕ)) GetFault). StoreTurn (λ before entry. ArrivalSpec tells n before r entry) v w) is

pub returns-in-Err-clause-indexes : goal.returns-in-Err-clause-indexes
returns-in-Err-clause-indexes g c = one_unread (g.S.StorePlace.tells c.args.home.now.store) c.args.number (g.S.StorePlace.sight c.args.pass.now.store) (g.S.StorePlace.sight c.arrival.new.seat) (g.I.IndexPlace.sight c.args.pass.now.index)
    c.in-Err.fault (read_as _ _ _ _ c.arrival.result (Err c.in-Err.fault) c.in-Err.is c.arrival.ensures.turn)

pub unreachable-requires : goal.unreachable-requires
unreachable-requires g c = none_left (g.S.StorePlace.tells c.args.home.now.store) c.args.number (g.S.StorePlace.sight c.args.pass.now.store) (g.S.StorePlace.sight c.arrival.new.seat) (g.I.IndexPlace.sight c.args.pass.now.index)
    (read_as (g.S.StorePlace.tells c.args.home.now.store) c.args.number _ _ c.arrival.result (Ok None) (c.in-Ok-None.is ∙ ap Ok c.in-Ok-None.field-0-is) c.arrival.ensures.turn) c.requires.seen

pub returns-in_default-clause-indexes : goal.returns-in_default-clause-indexes
returns-in_default-clause-indexes g c = one_unsaid (g.S.StorePlace.tells c.args.home.now.store) c.args.number (g.S.StorePlace.sight c.args.pass.now.store) (g.S.StorePlace.sight c.arrival.new.seat) (g.I.IndexPlace.sight c.args.pass.now.index)
    c.arrival.result c.arrival.ensures.turn

pub returns-in-Ok-insert-clause-indexes : goal.returns-in-Ok-insert-clause-indexes
returns-in-Ok-insert-clause-indexes g c = one_indexed (g.S.StorePlace.tells c.args.home.now.store) c.args.number (g.S.StorePlace.sight c.args.pass.now.store) (g.S.StorePlace.sight c.arrival.new.seat) (g.I.IndexPlace.sight c.args.pass.now.index)
    c.in-Ok-Some.found c.in-Ok.said (read_as (g.S.StorePlace.tells c.args.home.now.store) c.args.number _ _ c.arrival.result (Ok (Some c.in-Ok-Some.found)) (c.in-Ok-Some.is ∙ ap Ok c.in-Ok-Some.field-0-is) c.arrival.ensures.turn)
    (g.I.IndexPlace.sight c.insert.new.seat) c.in-Ok-insert.answer (g.met.S.StorePlace.is_legal c.arrival.new.seat) (c.in-Ok.ensures.value ∙ ap fact_of c.as_slice.ensures) c.in-Ok-insert.ensures.turn
