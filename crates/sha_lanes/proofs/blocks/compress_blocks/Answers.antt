use Rattle.std.proofs.Common.{refl}
use Rattle.sha_lanes.proofs.Digests.{hashed_whole}
use Rattle.sha_lanes.proofs.blocks.compress_blocks.Goals as goal

pub returns : goal.returns
returns c = hashed_whole c.args.state.now c.hash_blocks.new.state c.args.blocks.now _ _ c.requires.whole refl c.hash_blocks.ensures
