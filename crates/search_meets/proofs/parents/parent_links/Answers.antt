use Rattle.search_meets.proofs.Gathering.{is_found, is_item}
use Rattle.search_meets.proofs.parents.parent_links.Goals as goal

pub copy_at-requires : goal.copy_at-requires
copy_at-requires g c = λ is. is_found _ _ _ (is_item c.args.refs.now c.loop-r.r-index c.r-item.result c.loop-r-test.true c.r-item.is) (c.in_ok-enter_all.ensures _ is)
