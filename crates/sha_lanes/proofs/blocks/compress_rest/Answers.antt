use Rattle.sha_lanes.proofs.Digests.{hashed_rest}
use Rattle.sha_lanes.proofs.blocks.compress_rest.Goals as goal

pub returns : goal.returns
returns c =
    hashed_rest c.args.state.now c.hash_blocks.new.state c.args.rest.now c.tail_of-tail.result c.args.before c.block_count.result
    c.requires.whole c.block_count.ensures c.tail_of-tail.ensures c.hash_blocks.ensures
