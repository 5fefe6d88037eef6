-- The state of a store that was just opened.
use Rattle.std.specs.Prelude.{ℕ, [], length, None, option_map}
use Rattle.lsm_codec.specs.Map.{Map}
use Rattle.lsm_open.specs.Layout.{Layout}
use Rattle.lsm_machine.specs.State.{State}
use Rattle.lsm_store.specs.Stored.{open_log_of}

-- The state of a store that was just opened: it runs, its batches lie in this layout, its one recovery point is a map after
-- `count` batches, and no snapshot was taken yet.
abbrev pub just_opened : Layout → ℕ → Map → State
just_opened l count present = record {
  points = record { synced = count; first = present; later = [] };
  log_sectors = l.log_sectors;
  closed = length l.closed;
  open_log = option_map open_log_of l.open_region;
  generation = l.generation;
  snapshots = [];
  next_snapshot = 1;
  stopped = None;
}
