use Rattle.std.proofs.Common.{◌≡◌, ◌∙◌, sym, ap, subst, true, length, map, ℕ, List, Option}
use Rattle.histories.specs.declared.stamped.Stamped.{Stamped}
use Rattle.histories.specs.declared.events.StoreEvent.{StoreEvent}
use Rattle.histories.specs.History.{stamp}
use Rattle.histories.specs.Stores.{arrivals}
use Rattle.store_history.specs.Represents.{StoreRepresents}
use Rattle.store_history.specs.Beginning.{begins}
use Rattle.turn_cell.specs.Seats.{seen}
use Rattle.turn_store.specs.declared.store.StoreAbout.{StoreAbout}
use Rattle.turn_store.specs.StoreAbout.{about_of, about_seen, is_legal_within, legal_within}
use Rattle.turn_store.proofs.store.TurnStore.make.Goals as goal

pub invariant_of-result-clause-legal : goal.invariant_of-result-clause-legal
invariant_of-result-clause-legal g c =
    let s = c.args.store in
    let made = c.faults-made.result in
    let begun = map (stamp 0) (begins g.D.Disk s) in
    let tells = subst (λ (n : ℕ). StoreRepresents g.D.Disk n s begun) (sym c.faults-made.ensures)
    c.represents_beginning.ensures in
    subst (λ (o : Option StoreAbout). is_legal_within (about_seen o) (seen c.in-Ok.seat) ≡ true)
    (sym c.in-Ok.ensures.about)
    (subst (λ (h : List (Stamped StoreEvent)). is_legal_within (about_of g.D.Disk made s) h ≡ true)
    (sym c.in-Ok.ensures.seen)
    (legal_within g.D.Disk made s begun tells))

pub invariant_of-result-clause-counted : goal.invariant_of-result-clause-counted
invariant_of-result-clause-counted g c =
    let s = c.args.store in
    (c.count-count.ensures.adds (g.D.Disk.faults s.disk) (map (stamp 0) (begins g.D.Disk s))
    c.represents_beginning.ensures).0
    ∙ ap (λ (h : List (Stamped StoreEvent)). length (arrivals h)) (sym c.in-Ok.ensures.seen)
