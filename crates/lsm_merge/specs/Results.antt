-- The result of a merge.
use Rattle.std.specs.Prelude.{List}
use Rattle.lsm_codec.specs.Keys.{Bytes}
use Rattle.lsm_table.specs.Division.{TableBlocks}
use Rattle.lsm_merge.specs.Inputs.{MergeInput}

-- the input, the keys at which what is kept of it is divided, and the tables made of it
pub record MergeResult : Type 0 where
  pub input : MergeInput
  pub divisions : List Bytes
  pub images : List TableBlocks
