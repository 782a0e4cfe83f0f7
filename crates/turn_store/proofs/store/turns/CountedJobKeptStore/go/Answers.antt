use Rattle.std.proofs.Common.{◌∙◌, ◌++◌, sym, subst, Option}
use Rattle.pack_store.proofs.Held.{some_same}
use Rattle.histories.specs.declared.events.StoreEvent.{StoreEvent}
use Rattle.histories.specs.History.{stamped}
use Rattle.histories.specs.Stores.{arrivals}
use Rattle.store_history.specs.Represents.{StoreRepresents}
use Rattle.turn_store.specs.StoreAbout.{about_of}
use Rattle.turn_store.proofs.store.turns.CountedJobKeptStore.go.Goals as goal

pub returns-clause-about : goal.returns-clause-about
returns-clause-about g c = c.go-answer.ensures.about c.args.value.now.made

pub returns-clause-kept : goal.returns-clause-kept
returns-clause-kept g c h tells before =
    let made = c.args.value.now.made in
    let now = g.D.Disk.faults c.go-answer.new.store.disk in
    let same = some_same c.unwrap-job.result c.args.self.now.was.value (sym c.unwrap-job.ensures ∙ c.take.ensures.value
    ∙ c.requires.may) in
    subst (λ (e : Option StoreEvent). StoreRepresents g.D.Disk made c.go-answer.new.store (h ++ stamped c.args._turn e))
    (λ i. g.J.StoreJob.adds (same i) c.go-answer.result (sym c.faults-value.ensures i) now)
    (c.go-answer.ensures.tells made h c.args._turn tells before).0

pub returns-clause-says : goal.returns-clause-says
returns-clause-says g c h tells before =
    let made = c.args.value.now.made in
    let now = g.D.Disk.faults c.go-answer.new.store.disk in
    let about = about_of g.D.Disk made c.args.value.now.store in
    let same = some_same c.unwrap-job.result c.args.self.now.was.value (sym c.unwrap-job.ensures ∙ c.take.ensures.value
    ∙ c.requires.may) in
    let both = c.go-answer.ensures.tells made h c.args._turn tells before in
    let entry = g.J.StoreJob.adds c.args.self.now.was.value c.go-answer.result c.faults-value.result now in (
      subst (λ j. g.J.StoreJob.says j about (arrivals h) c.go-answer.result entry) same
          (subst (λ (e : Option StoreEvent). g.J.StoreJob.says c.unwrap-job.result about (arrivals h) c.go-answer.result
          e)
          (λ i. g.J.StoreJob.adds (same i) c.go-answer.result (sym c.faults-value.ensures i) now) both.1),
      (c.count-self.ensures.adds made (h ++ stamped c.args._turn entry) (returns-clause-kept g c h tells before)).0,
    )
