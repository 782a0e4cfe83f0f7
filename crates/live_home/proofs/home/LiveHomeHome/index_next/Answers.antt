use Rattle.std.proofs.Common.{◌≡◌, ◌∙◌, ap, subst, ℕ, Bool, Some, None, Ok, Err}
use Rattle.edge_base.specs.declared.answers.Inserted.{Inserted}
use Rattle.edge_base.specs.declared.answers.Inserted.TheVariants as inserted
use Rattle.home_places.specs.Passes.{Sight}
use Rattle.home_places.specs.Working.{Indexes}
use Rattle.live_home.specs.Sights.{sight_at}
use Rattle.live_home.proofs.Stepping.{taken_as, took, taken_arrived, took_and, took_none, gave_back}
use Rattle.live_home.proofs.home.LiveHomeHome.index_next.Goals as goal

pub index_one-requires-clause-seen : goal.index_one-requires-clause-seen
index_one-requires-clause-seen g c =
    taken_arrived c.count-arrivals.result (g.S.StorePlace.sight c.args.pass.now.store) (g.S.StorePlace.sight c.count-arrivals.new.seat) (g.I.IndexPlace.sight c.args.pass.now.index) (g.I.IndexPlace.sight c.take.new.seat) c.count-arrivals.ensures.turn
    c.in-Ok-Some.number (taken_as c.count-arrivals.result _ _ c.take.result (Ok (Some c.in-Ok-Some.number)) (c.in-Ok-Some.is ∙ ap Ok c.in-Ok-Some.field-0-is) c.take.ensures.turn)

pub returns-in-Err-clause-indexes : goal.returns-in-Err-clause-indexes
returns-in-Err-clause-indexes g c =
    took_none c.count-arrivals.result (g.S.StorePlace.sight c.args.pass.now.store) (g.S.StorePlace.sight c.count-arrivals.new.seat) (g.I.IndexPlace.sight c.args.pass.now.index) (g.I.IndexPlace.sight c.take.new.seat) c.count-arrivals.ensures.turn
    c.in-Err.field-0 (taken_as c.count-arrivals.result _ _ c.take.result (Err c.in-Err.field-0) c.in-Err.is c.take.ensures.turn)

pub returns-in-Ok-None-clause-indexes : goal.returns-in-Ok-None-clause-indexes
returns-in-Ok-None-clause-indexes g c =
    took c.count-arrivals.result (g.S.StorePlace.sight c.args.pass.now.store) (g.S.StorePlace.sight c.count-arrivals.new.seat) (g.I.IndexPlace.sight c.args.pass.now.index) (g.I.IndexPlace.sight c.take.new.seat) c.count-arrivals.ensures.turn
    (Ok None) (taken_as c.count-arrivals.result _ _ c.take.result (Ok None) (c.in-Ok-None.is ∙ ap Ok c.in-Ok-None.field-0-is) c.take.ensures.turn)

-- what was done with the number, by the answer
answered_as : (tells : Bool) (n : ℕ) (v w : Sight) (answer other : Inserted) → answer ≡ other → Indexes tells n answer v w → Indexes tells n other v w
answered_as tells n v w answer other is = subst (λ (a : Inserted). Indexes tells n a v w) is

pub returns-in-Ok-New-clause-indexes : goal.returns-in-Ok-New-clause-indexes
returns-in-Ok-New-clause-indexes g c =
    took_and c.count-arrivals.result (g.S.StorePlace.sight c.args.pass.now.store) (g.S.StorePlace.sight c.count-arrivals.new.seat) (g.I.IndexPlace.sight c.args.pass.now.index) (g.I.IndexPlace.sight c.take.new.seat) c.count-arrivals.ensures.turn
    c.in-Ok-Some.number (Indexes (g.S.StorePlace.tells c.args.self.now.store) c.in-Ok-Some.number inserted.New) (sight_at (g.S.StorePlace.sight c.index_one.new.pass.store) (g.I.IndexPlace.sight c.index_one.new.pass.index))
    (taken_as c.count-arrivals.result _ _ c.take.result (Ok (Some c.in-Ok-Some.number)) (c.in-Ok-Some.is ∙ ap Ok c.in-Ok-Some.field-0-is) c.take.ensures.turn)
    (answered_as _ _ _ _ c.in-Ok-New.field-0 inserted.New c.in-Ok-New.field-0-is c.in-Ok-New.ensures.indexes)

pub returns-in-Ok-Already-clause-indexes : goal.returns-in-Ok-Already-clause-indexes
returns-in-Ok-Already-clause-indexes g c =
    took_and c.count-arrivals.result (g.S.StorePlace.sight c.args.pass.now.store) (g.S.StorePlace.sight c.count-arrivals.new.seat) (g.I.IndexPlace.sight c.args.pass.now.index) (g.I.IndexPlace.sight c.take.new.seat) c.count-arrivals.ensures.turn
    c.in-Ok-Some.number (Indexes (g.S.StorePlace.tells c.args.self.now.store) c.in-Ok-Some.number inserted.Already) (sight_at (g.S.StorePlace.sight c.index_one.new.pass.store) (g.I.IndexPlace.sight c.index_one.new.pass.index))
    (taken_as c.count-arrivals.result _ _ c.take.result (Ok (Some c.in-Ok-Some.number)) (c.in-Ok-Some.is ∙ ap Ok c.in-Ok-Some.field-0-is) c.take.ensures.turn)
    (answered_as _ _ _ _ c.in-Ok-Already.field-0 inserted.Already c.in-Ok-Already.field-0-is c.in-Ok-Already.ensures.indexes)

pub returns-in-Err-index_one-clause-indexes : goal.returns-in-Err-index_one-clause-indexes
returns-in-Err-index_one-clause-indexes g c =
    gave_back c.count-arrivals.result (g.S.StorePlace.sight c.args.pass.now.store) (g.S.StorePlace.sight c.count-arrivals.new.seat) (g.I.IndexPlace.sight c.args.pass.now.index) (g.I.IndexPlace.sight c.take.new.seat) c.count-arrivals.ensures.turn
    c.in-Ok-Some.number c.in-Err-index_one.fault (g.S.StorePlace.sight c.index_one.new.pass.store) (g.I.IndexPlace.sight c.index_one.new.pass.index) (g.I.IndexPlace.sight c.give_back.new.seat)
    (taken_as c.count-arrivals.result _ _ c.take.result (Ok (Some c.in-Ok-Some.number)) (c.in-Ok-Some.is ∙ ap Ok c.in-Ok-Some.field-0-is) c.take.ensures.turn)
    c.in-Err-index_one.ensures.indexes c.give_back.ensures.turn
