-- The numbers of a store.
use Rattle.std.specs.Prelude.{ℕ, Bool, not, is_some, length, Result, Ok, Err, if◌then◌else◌}
use Rattle.std.specs.List.{list_any}
use Rattle.lsm_device.specs.declared.refusal.Refusal.{Refusal}
use Rattle.lsm_device.specs.declared.refusal.Refusal.TheVariants.{Stopped}
use Rattle.lsm_extent.specs.Area.{covers, count_below}
use Rattle.lsm_jobs.specs.Placing.{extent_of}
use Rattle.lsm_store.specs.declared.stat.Stat.{Stat}
use Rattle.lsm_machine.specs.RecoveryPoints.{batch_count}
use Rattle.lsm_machine.specs.State.{are_waiting, log_room}
use Rattle.lsm_machine.specs.Work.{WorkView}
use Rattle.lsm_machine.specs.WorkRefusals.{live_tables}
use Rattle.lsm_machine.specs.Accounts.{tables_placed}
use Rattle.lsm_machine.specs.Machine.{Machine}

-- whether a block is in no table of the levels and in no output that a job has placed
abbrev pub is_in_no_table : WorkView → ℕ → Bool
is_in_no_table w block = not (list_any (λ t. covers block (extent_of t)) (tables_placed w))

-- how many blocks of the data area are
abbrev pub blocks_in_no_table : WorkView → ℕ
blocks_in_no_table w = count_below (is_in_no_table w) w.area.blocks

-- the numbers of a machine
abbrev pub stat_of : Machine → Stat
stat_of m = record {
  generation = m.state.generation;
  batches = batch_count m.state.points;
  room = log_room m.state;
  waiting = are_waiting m.state;
  runs = length m.work.levels.runs;
  tables = length (live_tables m.work);
  free_blocks = blocks_in_no_table m.work;
}

-- what is answered to whoever asks for them: a stopped store refuses it, and nothing else does
abbrev pub stat_answer : Machine → Result Stat Refusal
stat_answer m = if is_some m.state.stopped then Err Stopped else Ok (stat_of m)
