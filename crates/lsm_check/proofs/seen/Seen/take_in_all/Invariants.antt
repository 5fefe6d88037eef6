use Rattle.std.proofs.Common.{◌≡◌, ◌+◌, ◌++◌, List, take}
use Rattle.lsm_codec.specs.Versions.{Version}
use Rattle.lsm_check.specs.Seen.{IsSeen}
use Rattle.lsm_check.proofs.seen.Seen.take_in_all.Given as goal

abbrev pub invariant-loop-entry : goal.invariant-loop-entry
invariant-loop-entry g l = record {
  seen : (versions : List Version) → IsSeen versions l.initial.self → IsSeen (versions ++ take l.entry-index l.entries) l.self;
  counted : l.self.entries ≡ l.initial.self.entries + l.entry-index;
}
