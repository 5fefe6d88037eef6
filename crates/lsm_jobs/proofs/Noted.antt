-- What is noted of blocks that are written.
use Rattle.std.proofs.Common.{◌≡◌, ℕ, ◌-◌, Some, sym, ap, ◌∙◌}
use Rattle.lsm_jobs.specs.Slots.{Stage, Slot, Writing, JobSlots, with_held, is_writing, left_at, less_left}
use Rattle.lsm_jobs.specs.Outputs.{Placed}
use Rattle.lsm_jobs.specs.Holding.{IsAt, IsWritingAt}
use Rattle.lsm_jobs.specs.Writing.{JobWritesOn}

pub written_is : (job place left count : ℕ) (o : Placed) (old new : JobSlots) → IsWritingAt job old.slots place o → left ≡ o.left → left - count ≡ left - 8
    → ((number : ℕ) (slot : Slot) → IsAt number old.slots place slot → new ≡ record { next = old.next; slots = with_held number (Some (record slot { stage = less_left count slot.stage })) old.slots }) → JobWritesOn job (left - count) old new
written_is job place left count o old new at is same noted =
    let fewer : o.left - count ≡ o.left - 8 = ap (λ (k : ℕ). k - count) (sym is) ∙ same ∙ ap (λ (k : ℕ). k - 8) is in
    let stages : less_left count at.slot.stage ≡ less_left 8 at.slot.stage = ap (less_left count) at.stage ∙ ap (λ (k : ℕ). Writing o.tables k) fewer ∙ sym (ap (less_left 8) at.stage) in
    record {
      slot = at.slot;
      found = at.at.is;
      writing = ap is_writing at.stage;
      left_is = same ∙ ap (λ (k : ℕ). k - 8) (is ∙ sym (ap left_at at.stage));
      staged = noted job at.slot at.at ∙ ap (λ (st : Stage). let s : JobSlots = record { next = old.next; slots = with_held job (Some (record at.slot { stage = st })) old.slots } in s) stages;
    }
