-- A slot may go to another thread where what was put into it may.
use mir.Raw.{raw}
use base.Shift.{Keyless}
use denote.Memory.{lone}
use denote.RawPtr.{Ptr}
use denote.Struct.Struct.{exits_of}
use denote.Struct.Owning.{shape, fields, to}
use denote.Param.Send.{IsSend, AllSend, owning_send, struct_send, sendable}
use Rattle.std.proofs.Common.{Option, Some, None}
use Rattle.std.proofs.Crossing as heap
use Rattle.std_alloc.proofs.SendSync.{quiet, lies}
use Rattle.std_heap.proofs.Global.TheSendSync as handle
use Rattle.std_heap.specs.contracts.Global as Heap
use Rattle.std_heap.specs.contracts.GlobalAllocator.TheImpl.{ghosts}
use Rattle.corwaphi_c.specs.Keeping.{slot_owns}
use Rattle.corwaphi_c.specs.contracts.kept.Kept as Inner
use Rattle.corwaphi_c.proofs.kept.Kept.TheSendSync.{the_send as inner}
use Rattle.corwaphi_c.specs.contracts.handle.Slot.{the_row, the_type}

owned : (alloc : (Heap.the_row).Denot) (at : Ptr) (kept : Option (Inner.the_row).Denot) → Keyless (slot_owns (ghosts.dealloc_token alloc) at kept)
owned alloc at (Some kept) = (lies Inner.the_row inner at kept, heap.frees.frees alloc (raw (lone Inner.the_row.mir)) at)
owned alloc at None = tt

pub send : IsSend the_row
send =
    let all : AllSend (fields the_type) = (search sendable, (handle.the_field_send, tt)) in
    owning_send the_type all (λ d. owned d.alloc d.at d.value) (λ k. quiet (to the_type) (exits_of k (fields the_type)) ((struct_send (shape the_type) all).leaving k))
