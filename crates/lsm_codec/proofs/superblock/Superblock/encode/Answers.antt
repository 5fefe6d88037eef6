use Rattle.std.proofs.Common.{rules}
use Rattle.lsm_codec.specs.Superblocks.{superblock_sector}
use Rattle.lsm_codec.proofs.superblock.Superblock.encode.Goals as goal

pub returns : goal.returns
unfolding superblock_sector
returns c = search rules
