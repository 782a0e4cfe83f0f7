use Rattle.std.proofs.Common.{sym, subst, ◌∙◌, ap}
use Rattle.std.specs.Option.{is_some}
use Rattle.store_history.specs.Beginning.{blobs_told}
use Rattle.turn_store.specs.StoreSeats.{store_sight, place_limits, place_tells}
use Rattle.server_home.specs.Opening.{ArePasses, arrived}
use Rattle.server_home.proofs.Passing.{new_passes}
use Rattle.server_home.proofs.opening.home_within.Goals as goal

pub returns-in-Ok-passes_of-clause-opened : goal.returns-in-Ok-passes_of-clause-opened
returns-in-Ok-passes_of-clause-opened g c =
    let disk = g.D.Disk in
    let accepts = g.V.Verifier.accepts in
    let opened = c.in-Ok.ensures.opened in
    let stays = c.in-Ok.ensures.stays in
    let rows = c.in-Ok.store.rows in
    let blobs = blobs_told rows (disk.packs c.in-Ok.store.disk) in
    let home = c.make-in-Ok-passes_of in
    let count = c.args.count in
    let keys = c.args.keys in
    let passes = c.in-Ok-passes_of.passes.items in
    let seen = c.in-Ok-make.ensures.seat ∙ ap (λ l. arrived l blobs) opened.limited in
    record {
      blobs = blobs;
      told = λ held is. ap (blobs_told rows) (stays.told ∙ is) ∙ opened.arrived held is;
      limits_are = ap place_limits home.ensures.store ∙ c.in-Ok-make.ensures.limits ∙ opened.limited;
      tells = ap (place_tells disk) home.ensures.store ∙ c.in-Ok-make.ensures.tells ∙ ap is_some stays.told;
      passes_are =
          let store = home.result.store in
          let index = home.result.index in
          subst (λ s. ArePasses disk accepts s index (arrived c.args.limits blobs) keys count passes) (sym home.ensures.store)
          (subst (λ i. ArePasses disk accepts c.in-Ok-make.store i (arrived c.args.limits blobs) keys count passes)
          (sym home.ensures.index)
          (subst (λ v. ArePasses disk accepts c.in-Ok-make.store c.in-Ok-make-2.index v keys count passes) seen
          (new_passes disk accepts c.in-Ok-make.store c.in-Ok-make-2.index (store_sight c.in-Ok-make.store_seat) keys count
          c.in-Ok-make-2.seats.items passes c.in-Ok-make-2.ensures.count c.in-Ok-make-2.ensures.fresh c.in-Ok-passes_of.ensures)));
    }
