-- A job that is read goes back into its slot.
use Rattle.std.proofs.Common.{◌≡◌, ◌↔◌, ℕ, zero, suc, ◌<◌, Bool, IsTrue, List, [], ◌∷◌, length, set, get_or, Option, Some, None, Result, Ok, Err, refl, sym, ap, subst, ◌∙◌, arith}
use Rattle.std.specs.Result.{IfOk, OnErr}
use Rattle.std.specs.List.{AllByRecursion, list_all}
use Rattle.std.proofs.lemmas.List.{set-set}
use Rattle.lsm_device.specs.declared.refusal.Refusal.{Refusal}
use Rattle.lsm_device.specs.Disk.{seen}
use Rattle.lsm_device.specs.Medium.{Medium, disk}
use Rattle.lsm_codec.proofs.Limits.{each-Decides}
use Rattle.lsm_merge.specs.Inputs.{AreRuns}
use Rattle.lsm_levels.specs.Stored.{LiesWithin, is_within}
use Rattle.lsm_levels.specs.Tables.{Table}
use Rattle.lsm_levels.specs.Pick.{Job, inputs}
use Rattle.lsm_jobs.specs.Slots.{Slot, Slots, JobSlots, Reading}
use Rattle.lsm_jobs.specs.Gathering.{ReadSoFar, ascending_runs, input_ahead, blocks_left, AllGoOn}
use Rattle.lsm_jobs.specs.Reading.{SlotReadsOn, IsBadNext, JobReadsOn}
use Rattle.lsm_jobs.specs.Holding.{IsAt}
use Rattle.lsm_levels.proofs.WithinLaws.{within-Decides}

abbrev these : ℕ → Slots → JobSlots
these next slots = record { next = next; slots = slots }

abbrev some : Slot → Option Slot
some slot = Some slot

-- what is there is put there
set_again : (slots : Slots) (place : ℕ) (now : Option Slot) → place < length slots → get_or slots place None ≡ now → set slots place now ≡ slots
set_again [] place now within at = absurd (omega (arith, within))
set_again (s ∷ slots) zero now within at = ap (λ (x : Option Slot). x ∷ slots) (sym at)
set_again (s ∷ slots) (suc place) now within at = ap (λ (l : Slots). s ∷ l) (set_again slots place now (omega (arith, within)) at)

put_back : (place : ℕ) (now : Slot) (old lifted new : JobSlots) → lifted ≡ these old.next (set old.slots place None) → new ≡ these lifted.next (set lifted.slots place (Some now)) → new ≡ these old.next (set old.slots place (Some now))
put_back place now old lifted new out back =
    back ∙ ap (λ (s : JobSlots). these s.next (set s.slots place (Some now))) out ∙ ap (these old.next) (set-set old.slots place None (Some now))

held_is : (job place : ℕ) (slots : Slots) (slot held : Slot) → IsAt job slots place slot → Some held ≡ get_or slots place None → some held ≡ Some slot
held_is job place slots slot held at there = there ∙ at.there None

pub job_reads : (area : ℕ) (m : Medium) (job place : ℕ) (old lifted new : JobSlots) (slot held now : Slot) (r : Result ℕ Refusal) → IsAt job old.slots place slot → Some held ≡ get_or old.slots place None
    → lifted ≡ these old.next (set old.slots place None) → new ≡ these lifted.next (set lifted.slots place (Some now)) → IfOk r (λ left. SlotReadsOn area m left held now) → IfOk r (λ left. JobReadsOn area m job left old new)
job_reads area m job place old lifted new slot held now (Ok left) at there out back reads = record {
  slot = held;
  now = now;
  is = at.is ∙ sym (held_is job place old.slots slot held at there);
  reads = reads;
  becomes = put_back place now old lifted new out back ∙ ap (these old.next) (at.set (Some now));
}
job_reads area m job place old lifted new slot held now (Err e) at there out back reads = reads

pub job_stays : (job place : ℕ) (old lifted new : JobSlots) (slot held now : Slot) (r : Result ℕ Refusal) → IsAt job old.slots place slot → Some held ≡ get_or old.slots place None
    → lifted ≡ these old.next (set old.slots place None) → new ≡ these lifted.next (set lifted.slots place (Some now)) → OnErr r (now ≡ held) → OnErr r (new ≡ old)
job_stays job place old lifted new slot held now (Ok left) at there out back same = same
job_stays job place old lifted new slot held now (Err e) at there out back same =
    put_back place now old lifted new out back
    ∙ ap (these old.next) (ap (λ (s : Slot). set old.slots place (Some s)) same ∙ set_again old.slots place (Some held) at.within (sym there))

-- where what is gathered doesn't go on, neither does the slot that shows it
pub slot_bad : (area : ℕ) (m : Medium) (number : ℕ) (job : Job) (g : ReadSoFar) (tables : List Table) (slot : Slot) → tables ≡ inputs job → length g.runs ≡ length (ascending_runs (inputs job))
    → record { number = number; job = job; input = input_ahead (inputs job) g; stage = Reading (blocks_left (inputs job) g) } ≡ slot → AreRuns g.runs → ((after : ReadSoFar) → AllGoOn (seen (disk m)) area tables g after → ⊥) → IsBadNext area m slot
slot_bad area m number job g tables slot same count view ordered none = subst (λ (s : Slot). IsBadNext area m s) view (record {
  before = g;
  shows = record { count = count; input = refl; stage = refl };
  ordered = ordered;
  none = λ after h. none after (subst (λ (t : List Table). AllGoOn (seen (disk m)) area t g after) (sym same) h);
})

-- ---- whether a job can be read

pub all_within : (size area : ℕ) (tables : List Table) (r : Bool) → r ≡ list_all (is_within size area) tables → IsTrue r ↔ AllByRecursion (LiesWithin size area) tables
all_within size area tables r e =
    let d = each-Decides (is_within size area) (LiesWithin size area) (within-Decides size area) tables in
    (λ t. d.0 (sym e ∙ t), λ all. e ∙ d.1 all)
