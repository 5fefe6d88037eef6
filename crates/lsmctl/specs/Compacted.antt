-- A compaction that ends with 0 went to the end.
use Rattle.std.specs.Prelude.{◌≡◌, Bool, true, false}
use Rattle.std.proofs.Common.{refl, arith}
use Rattle.lsm_store.specs.Backing.{StoreView, machine_of}
use Rattle.lsm_upkeep.specs.Compacting.{is_compacted}
use Rattle.lsmctl.specs.declared.answer.Output.{Output}
use Rattle.lsmctl.specs.declared.answer.Output.TheVariants.{Formatted, Batch, Value, Absent, Lines, Halfway, Loaded, Dumped, Served, Found, Explored, Tally}
use Rattle.lsmctl.specs.Answers.{HasCompacted, TellsCompacted}
use Rattle.lsmctl.specs.Endings.{answer_status}

tells_whole : (is_whole : Bool) (store : StoreView) (output : Output) → TellsCompacted is_whole store output → answer_status output ≡ 0 → is_whole ≡ true
tells_whole true store output told done = refl
tells_whole false store (Halfway text lack) told done = absurd (omega (arith, done))
tells_whole false store (Formatted blocks) told done = absurd told
tells_whole false store (Batch number) told done = absurd told
tells_whole false store (Value word) told done = absurd told
tells_whole false store Absent told done = absurd told
tells_whole false store (Lines text) told done = absurd told
tells_whole false store (Loaded number) told done = absurd told
tells_whole false store Dumped told done = absurd told
tells_whole false store Served told done = absurd told
tells_whole false store (Found text) told done = absurd told
tells_whole false store (Explored counts) told done = absurd told
tells_whole false store (Tally is_good) told done = absurd told

-- the store runs then, no flush waits, and all its tables are in the last level
pub compacted-done : (before after : StoreView) (output : Output) → HasCompacted before after output → answer_status output ≡ 0 → is_compacted (machine_of after) ≡ true
compacted-done before after output has done = tells_whole (is_compacted (machine_of after)) after output has.told done
