use Rattle.std.proofs.Common.{◌∙◌, ap, arith, refl, []}
use Rattle.std.specs.List.{filter_map}
use Rattle.pack_store.specs.Reading.{entry_of}
use Rattle.histories.specs.Stores.{arrivals}
use Rattle.histories.specs.StoreCalls.{each_once}
use Rattle.store_history.proofs.Refs.{gone_through, sized_as}
use Rattle.store_history.proofs.asking.stat.Goals as goal

pub returns : goal.returns
returns g c = record {
  adds = λ made asked is h represents.
      let rows = c.args.store.now.rows in
      let whole = gone_through (filter_map (λ q. entry_of q rows)) c.loop-r.found _ c.as_slice-r-items.result.now
      c.loop-r.r-index refl (omega arith) c.loop-r.invariant in (
        whole ∙ ap (filter_map (λ q. entry_of q rows)) (c.as_slice-r-items.ensures ∙ is)
            ∙ sized_as rows (arrivals h) represents.rows (each_once [] asked),
        refl,
      );
}
