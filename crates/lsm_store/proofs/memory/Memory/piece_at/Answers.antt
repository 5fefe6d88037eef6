use Rattle.std.proofs.Common.{◌∙◌, ap}
use Rattle.lsm_store.specs.Memory.{is_stopped, state_of, work_of}
use Rattle.lsm_machine.proofs.NextPieces.{told_beyond, told_stopped, told_running}
use Rattle.lsm_store.proofs.memory.Memory.piece_at.Goals as goal

pub returns-then-place-ge-SLOT_COUNT : goal.returns-then-place-ge-SLOT_COUNT
returns-then-place-ge-SLOT_COUNT g c =
    let m = c.args.self.now in
    told_beyond (record { state = state_of m; work = work_of m }) c.args.place c.if-place-ge-SLOT_COUNT.true

pub returns-in-Running : goal.returns-in-Running
returns-in-Running g c =
    let m = c.args.self.now in
    told_running (record { state = state_of m; work = work_of m }) c.args.place _ c.piece_of_slot.ensures (c.requires.agrees.stopped ∙ ap is_stopped c.in-Running.is) c.if-place-ge-SLOT_COUNT.false

pub returns-in-Stopped : goal.returns-in-Stopped
returns-in-Stopped g c =
    let m = c.args.self.now in
    told_stopped (record { state = state_of m; work = work_of m }) c.args.place (c.requires.agrees.stopped ∙ ap is_stopped c.in-Stopped.is)
