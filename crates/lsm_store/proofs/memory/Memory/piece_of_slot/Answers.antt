use Rattle.std.proofs.Common.{None, slice_index_or}
use Rattle.lsm_store.specs.Memory.{state_of, work_of}
use Rattle.lsm_machine.proofs.NextPieces.{held_told, free_told}
use Rattle.lsm_store.proofs.memory.Memory.piece_of_slot.Goals as goal

pub returns-in-Some : goal.returns-in-Some
returns-in-Some g c =
    let m = c.args.self.now in
    held_told (record { state = state_of m; work = work_of m }) (slice_index_or m.jobs.slots c.args.place None) c.in-Some.turn c.piece_of.result c.in-Some.ensures c.piece_of.ensures

pub returns-in-None : goal.returns-in-None
returns-in-None g c =
    let m = c.args.self.now in
    free_told (record { state = state_of m; work = work_of m }) (slice_index_or m.jobs.slots c.args.place None) _ c.in-None.ensures c.piece_of_free.ensures
