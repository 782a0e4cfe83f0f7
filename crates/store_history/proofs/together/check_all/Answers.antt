use Rattle.std.proofs.Common.{◌≡◌, List, Ok, take, drop, All, ◌∙◌, sym, ap, subst, arith}
use Rattle.blob_checks.specs.Checks.{IsNamed}
use Rattle.histories.specs.Stores.{Blob}
use Rattle.store_history.specs.Finding.{checked_arrival}
use Rattle.store_history.specs.Together.{first_in}
use Rattle.store_history.proofs.Several.{first_of_some, left_behind, left_own, take_fewer}
use Rattle.store_history.proofs.together.check_all.Goals as goal

pub check_first-first-requires : goal.check_first-first-requires
check_first-first-requires c =
    let own = c.counted_own-own.result in
    let cut : c.from_vec-blobs.result.items ≡ take c.max.result c.args.blobs = c.from_vec-blobs.ensures.items ∙ c.truncate.ensures.items ∙ ap (take c.max.result) c.into_vec-blobs.ensures in
    let named : All IsNamed (take own c.args.blobs) = subst (λ (bs : List Blob). All IsNamed (take own bs)) (c.deref.ensures.value ∙ c.into_vec-blobs.ensures) c.counted_own-own.ensures in
    let most = c.max.ensures in
    subst (All IsNamed) (sym (ap (take own) cut ∙ take_fewer own c.max.result c.args.blobs (omega (arith, most)))) named

pub returns-clause-first : goal.returns-clause-first
returns-clause-first c =
    let cut : c.from_vec-blobs.result.items ≡ take c.max.result c.args.blobs = c.from_vec-blobs.ensures.items ∙ c.truncate.ensures.items ∙ ap (take c.max.result) c.into_vec-blobs.ensures in
    let most = c.max.ensures in
    c.check_first-first.ensures.first ∙ ap (λ (bs : List Blob). checked_arrival (first_in (Ok bs))) cut
    ∙ ap checked_arrival (first_of_some c.max.result c.args.blobs (omega (arith, most)))

pub returns-clause-others : goal.returns-clause-others
returns-clause-others c =
    let cut : c.from_vec-blobs.result.items ≡ take c.max.result c.args.blobs = c.from_vec-blobs.ensures.items ∙ c.truncate.ensures.items ∙ ap (take c.max.result) c.into_vec-blobs.ensures in
    let most = c.max.ensures in
    left_behind c.max.result c.args.blobs _ (omega (arith, most)) (c.check_first-first.ensures.others ∙ ap (drop 1) cut)

pub returns-clause-own : goal.returns-clause-own
returns-clause-own c =
    let own = c.counted_own-own.result in
    let cut : c.from_vec-blobs.result.items ≡ take c.max.result c.args.blobs = c.from_vec-blobs.ensures.items ∙ c.truncate.ensures.items ∙ ap (take c.max.result) c.into_vec-blobs.ensures in
    let named : All IsNamed (take own c.args.blobs) = subst (λ (bs : List Blob). All IsNamed (take own bs)) (c.deref.ensures.value ∙ c.into_vec-blobs.ensures) c.counted_own-own.ensures in
    left_own own c.max.result c.args.blobs _ c.max.ensures (c.check_first-first.ensures.others ∙ ap (drop 1) cut) named
