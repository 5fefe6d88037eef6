use Rattle.std.proofs.Common.{◌≡◌, take}
use Rattle.lsm_language.specs.Reading.{PassesBy}
use Rattle.lsm_language.proofs.input.part_within.Given as goal

abbrev pub invariant-loop-byte : goal.invariant-loop-byte
invariant-loop-byte l = (l.count ≡ l.byte-index) × PassesBy l.fn.room (take l.byte-index l.fn.read) l.left
