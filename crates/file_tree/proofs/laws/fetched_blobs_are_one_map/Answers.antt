use Rattle.file_tree.proofs.OneMap.{fetched_blobs_are_one_map}
use Rattle.file_tree.proofs.laws.fetched_blobs_are_one_map.Goals as goal

pub returns : goal.returns
returns c = fetched_blobs_are_one_map
