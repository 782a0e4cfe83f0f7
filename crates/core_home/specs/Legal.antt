-- What a pass has seen is legal.
use Rattle.claim_verify.specs.Verifier.{Accepts}
use Rattle.home_places.specs.Passes.{IsSight}
use Rattle.home_places.specs.Showing.{IsIndexSight-shown_alone}
use Rattle.core_home.specs.declared.pass.CorePass.{CorePass}
use Rattle.core_home.specs.Keeping.{upto, index_of}
use Rattle.core_home.specs.Sights.{sight_of}

pub IsSight-sight_of : {V : Type 0} (accepts : V → Accepts) (p : CorePass V) → IsSight (sight_of accepts p)
IsSight-sight_of accepts p = record {
  store = record { legal = p.kept.store_legal; rising = p.kept.store_rises };
  index = IsIndexSight-shown_alone (index_of p.core.state.store p.inserts.items p.core.state.indexed) (upto p.indexes)
      (accepts p.core.keys) p.kept.index_legal p.kept.index_rises;
}
