use Rattle.std.proofs.Common.{◌++◌, ◌+◌, ap, sym, ◌∙◌, drop, List, ◌∷◌, ℕ}
use Rattle.std.specs.List.{filter_map}
use Rattle.std.proofs.lemmas.List.{drop_more}
use Rattle.histories.specs.StoreCalls.{each_once, sized}
use Rattle.core_home.proofs.Listings.{stat_more}
use Rattle.core_home.proofs.reading.stat.Goals as goal

pub refs-preserved : goal.refs-preserved
refs-preserved c =
    let r = c.r-item.result in
    stat_more c.args.blobs.now c.refs.asked c.stat_one.new.asked c.refs.found c.stat_one.new.found r (drop (c.refs.r-index + 1) c.args.refs.now)
    c.in_ok-stat_one.ensures.asked c.in_ok-stat_one.ensures.found
    ∙ (ap (λ (rs : List (List ℕ)). c.refs.found ++ filter_map (sized c.args.blobs.now) (each_once c.refs.asked rs))
    (sym (drop_more c.args.refs.now c.refs.r-index r c.refs-test.true ∙ ap (λ (x : List ℕ). x ∷ drop (c.refs.r-index + 1) c.args.refs.now) (sym c.r-item.is)))
    ∙ c.refs.invariant)
