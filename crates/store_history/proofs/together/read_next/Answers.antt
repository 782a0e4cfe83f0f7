use Rattle.std.proofs.Common.{◌≡◌, length, ◌++◌, ◌∷◌, [], Ok, ◌∙◌, sym, ap, subst, arith}
use Rattle.std.proofs.lemmas.List.{length-append}
use Rattle.pack_store.proofs.Still.{still_then}
use Rattle.store_history.specs.Together.{AllFrom, StandsAt, first_in}
use Rattle.store_history.proofs.Several.{first_stays, from_more, stood_before, was_pushed}
use Rattle.store_history.proofs.together.read_next.Goals as goal

pub numbers-preserved : goal.numbers-preserved
numbers-preserved g c =
    let disk = g.D.Disk in
    let old = c.args.store.now in
    let before = c.numbers.invariant in
    let blobs = c.numbers.blobs in
    let blob = c.in-Some.blob in
    let pushed : c.push.new.self ≡ blobs ++ blob ∷ [] = was_pushed c.push.result _ (sym c.is_err.ensures.value ∙ c.if-is_err.false) c.push.ensures.ok in
    let long = ap length pushed ∙ length-append blobs (blob ∷ []) in
    let number = before.long in
    let some = before.some in
    let later = before.later in
    let after = c.read_fitting.ensures.later in
    record {
      first = ap (λ bs. first_in (Ok bs)) pushed ∙ first_stays blobs blob before.some ∙ before.first;
      stand = subst (AllFrom (StandsAt disk old) c.args.number) (sym pushed) (from_more (StandsAt disk old) c.args.number c.numbers.next blobs blob before.long before.stand
          (stood_before disk old c.numbers.store c.numbers.next blob before.stays c.in-Some.ensures.stands));
      some = omega (arith, long, some);
      long = omega (arith, long, number);
      stays = still_then disk g.met.D.Disk.counts_now g.met.D.Disk.only_now old c.numbers.store c.read_fitting.new.store before.stays c.read_fitting.ensures.stays;
      later = omega (arith, later, after);
    }
