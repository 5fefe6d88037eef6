-- A store that goes to the device of a call, and what the call leaves.
use Rattle.std.proofs.Common.{◌≡◌, ◌∙◌, ℕ, zero, suc, Bool, true, false, IsTrue, List, [], ◌∷◌, Option, Some, None, refl, sym, ap, subst, inl, inr, if◌then◌else◌}
use Rattle.std.proofs.lemmas.List.Elements.{All-nil}
use Rattle.lsm_codec.specs.Guards.{Condition}
use Rattle.lsm_codec.specs.Keys.{Bytes}
use Rattle.lsm_codec.specs.Map.{Operation}
use Rattle.lsm_device.specs.Disk.{Disk}
use Rattle.lsm_device.specs.Medium.{Ended, Lasting, Medium}
use Rattle.lsm_machine.specs.Calls.{Call, Get, Reply, Scan}
use Rattle.lsm_machine.specs.Effects.{Reads, Untouched}
use Rattle.lsm_machine.specs.Machine.{Step, Called, Worked}
use Rattle.lsm_machine.specs.declared.asked.At.{At}
use Rattle.lsm_mapped.specs.Devices.{medium_on, past_on, records_on}
use Rattle.lsm_mapped.specs.Disks.{IsFilledWith, IsWithin, after_records, mapped}
use Rattle.lsm_mapped.specs.Records.{IsWhole, text_of}
use Rattle.lsm_mapped.specs.declared.mapped.MappedDevice.{MappedDevice}
use Rattle.lsm_store.specs.Backing.{StoreView}
use Rattle.lsm_store.specs.Serving.{IsOnlyRead, IsUsed, Serves}
use Rattle.lsm_store.specs.Working.{ServesStep}
use Rattle.lsm_upkeep.specs.Steps.{IsUpkept, UpkeepSteps}
use Rattle.corwaphi_c.specs.Calls.{Answers, Commits, IsMade, IsMoved, IsShown, IsWritten, lent_to, no_journal, store_in}
use Rattle.corwaphi_c.specs.declared.kept.Kept.{Kept}

-- ---- to a device and back

pub moved : (store new : StoreView) (m : Medium) → new ≡ record store { device = m } → m.size ≡ store.device.size → IsMoved store new
moved store new m on size = record {
  is = on ∙ ap (λ (d : Medium). record store { device = d }) (sym (ap (λ (s : StoreView). s.device) on));
  same_size = ap (λ (s : StoreView). s.device.size) on ∙ size;
}

abbrev or_else : StoreView → Option StoreView → StoreView
or_else other (Some store) = store
or_else other None = other

pub same : (old : Option StoreView) (store s : StoreView) → Some store ≡ old → old ≡ Some s → store ≡ s
same old store s was is = ap (or_else store) (was ∙ is)

pub lent : (old : Option StoreView) (store s new : StoreView) (n name : ℕ) (past : List Disk) (m : Medium) → old ≡ Some store → old ≡ Some s → new ≡ record store { device = m }
    → m ≡ mapped n past name → n ≡ store.device.size → new ≡ lent_to past name s
lent old store s new n name past m was is on device size =
    on ∙ ap (λ (d : Medium). record store { device = d }) (device ∙ ap (λ (k : ℕ). mapped k past name) size) ∙ ap (λ (o : Option StoreView). lent_to past name (or_else store o)) (sym was ∙ is)

-- what an image shows of the store that a handle leads to, it shows of the one that is taken from it
pub shown : (image : List ℕ) (past : List Disk) (from now : Kept) → now ≡ from → IsShown from.store image past → IsShown now.store image past
shown image past from now is shows = subst (λ (k : Kept). IsShown k.store image past) (sym is) shows

-- what holds of a store that was kept and of the one that is, where a handle leads to the first, and the second was put into a slot
pub handed : (Q : Option StoreView → Option StoreView → Type 0) (from old new : Kept) (slot : Option Kept) → old ≡ from → slot ≡ Some new → Q old.store new.store → Q from.store (store_in slot)
handed Q from old new slot was put q =
    subst (λ (k : Option Kept). Q from.store (store_in k)) (sym put) (subst (λ (k : Kept). Q k.store new.store) was q)

-- ---- what no call changes of a device

pub record Keeps (old new : Medium) : Type 0 where
  pub size : new.size ≡ old.size
  pub lasting : new.lasting ≡ old.lasting

stays : (old new : StoreView) → new ≡ old → Keeps old.device new.device
stays old new is = record { size = ap (λ (s : StoreView). s.device.size) is; lasting = ap (λ (s : StoreView). s.device.lasting) is }

serves : (old new : StoreView) (call : Call) (reply : Reply) → Serves old call reply new → Keeps old.device new.device
serves old new call reply s = record { size = s.same_size; lasting = s.same_lasting }

pub answers : (call : Call) (told : Reply → Type 0) (old new : StoreView) → Answers call told old new → Keeps old.device new.device
answers call told old new (reply, s, is) = serves old new call reply s

pub commits : (guards : Option (List Condition)) (batch : List Operation) (told : Reply → Type 0) (answer : ℕ) (old new : StoreView) → Commits guards batch told answer old new → Keeps old.device new.device
commits guards batch told answer old new (inl (reply, s, is)) = serves old new _ _ s
commits guards batch told answer old new (inr (inl (is, wants, lacks, same))) = stays old new same
commits guards batch told answer old new (inr (inr (is, same))) = stays old new same

step : (s : Step) (reply : Reply) (old new : StoreView) → ServesStep old s reply new → Keeps old.device new.device
step (Called call) reply old new s = serves old new call reply s
step (Worked piece) reply old new w = record { size = w.same_size; lasting = w.same_lasting }

steps : (n : ℕ) (old new : StoreView) → UpkeepSteps n old new → Keeps old.device new.device
steps zero old new is = stays old new is
steps (suc n) old new (mid, s, reply, is, served, rest) =
    let one = step s reply old mid served in
    let others = steps n mid new rest in
    record { size = others.size ∙ one.size; lasting = others.lasting ∙ one.lasting }

pub upkept : (old new : StoreView) → IsUpkept old new → Keeps old.device new.device
upkept old new u = steps u.count old new u.steps

-- ---- what a call leaves

abbrev past_in : List Ended → List Disk
past_in [] = []
past_in (life ∷ lives) = life.history

-- What the device of a call has had written since. It has its journal's bytes at the end, so that the journal is left with these.
pub written : (n name used : ℕ) (past : List Disk) (journal : List ℕ) (d : MappedDevice) (before left : Medium) → before ≡ mapped n past name → Keeps before left → medium_on d ≡ left
    → IsFilledWith (medium_on d).size used d.bytes.now (records_on d) → (name ≡ d.bytes.ghost_name → journal ≡ d.bytes.now)
    → IsWritten n (record { past = past; used = used; journal = journal }) left.history
written n name used past journal d before left is keeps on filled ends =
    let lasting = ap (λ (m : Medium). m.lasting) on ∙ keeps.lasting ∙ ap (λ (m : Medium). m.lasting) is in
    let size : (medium_on d).size ≡ n = ap (λ (m : Medium). m.size) on ∙ keeps.size ∙ ap (λ (m : Medium). m.size) is in
    let had : past_on d ≡ past = ap (λ (l : Lasting). past_in l.ended) lasting in
    let same = ends (sym (ap (λ (l : Lasting). l.times_set) lasting)) in
    record {
      records = records_on d;
      filled = subst (λ (bytes : List ℕ). IsFilledWith n used bytes (records_on d)) (sym same) (subst (λ (k : ℕ). IsFilledWith k used d.bytes.now (records_on d)) size filled);
      made = sym (ap (λ (m : Medium). m.history) on) ∙ ap (after_records (records_on d)) had;
    }

-- what was made of a store that was lent, and kept then
pub made : (R : StoreView → StoreView → Type 0) (s store left : StoreView) (kept : Option StoreView) (name used : ℕ) (past : List Disk) (journal : List ℕ) (d : MappedDevice)
    → store ≡ lent_to past name s → R store left → Keeps store.device left.device → ((parked : StoreView) × IsMoved left parked × (kept ≡ Some parked)) → medium_on d ≡ left.device
    → IsFilledWith (medium_on d).size used d.bytes.now (records_on d) → (name ≡ d.bytes.ghost_name → journal ≡ d.bytes.now)
    → IsMade R (record { past = past; used = used; journal = journal }) s kept
made R s store left kept name used past journal d to r keeps (parked, back, put) on filled ends = record {
  name = name;
  left = left;
  made = subst (λ (t : StoreView). R t left) to r;
  written = written s.device.size name used past journal d store.device left.device (ap (λ (t : StoreView). t.device) to) keeps on filled ends;
  parked = parked;
  back = back;
  is = put;
}

-- ---- what a call that reads leaves

unwritten : (call : Call) (reply : Reply) (refused : Bool) (old new : Medium) → IsTrue old.lasting.tells → (IsUsed call reply Reads old new → IsOnlyRead old new)
    → IsUsed call reply (if refused then Untouched else Reads) old new → new.history ≡ old.history
unwritten call reply true old new tells reads same = ap (λ (m : Medium). m.history) same
unwritten call reply false old new tells reads used = (reads used).same_history tells

pub gets : (at : At) (key : Bytes) (told : Reply → Type 0) (old new : StoreView) → IsTrue old.device.lasting.tells → Answers (Get at key) told old new → new.device.history ≡ old.device.history
gets at key told old new tells (reply, s, is) = unwritten (Get at key) reply _ old.device new.device tells (λ r. r.0) s.used

pub scans : (at : At) (from : Bytes) (to : Option Bytes) (limit : ℕ) (told : Reply → Type 0) (old new : StoreView) → IsTrue old.device.lasting.tells → Answers (Scan at from to limit) told old new → new.device.history ≡ old.device.history
scans at from to limit told old new tells (reply, s, is) = unwritten (Scan at from to limit) reply _ old.device new.device tells (λ r. r) s.used

-- it had no journal, and has made nothing that one would have
pub read : (R : StoreView → StoreView → Type 0) (s store left : StoreView) (kept : Option StoreView) (name : ℕ) (past : List Disk) → store ≡ lent_to past name s → R store left
    → (IsTrue store.device.lasting.tells → R store left → left.device.history ≡ store.device.history) → ((parked : StoreView) × IsMoved left parked × (kept ≡ Some parked)) → IsMade R (no_journal past) s kept
unfolding after_records text_of
read R s store left kept name past to r same (parked, back, put) = record {
  name = name;
  left = left;
  made = subst (λ (t : StoreView). R t left) to r;
  written = record {
    records = [];
    filled = record { text = refl; size = refl; whole = All-nil IsWhole; within = All-nil (IsWithin s.device.size) };
    made = same (ap (λ (t : StoreView). t.device.lasting.tells) to) r ∙ ap (λ (t : StoreView). t.device.history) to;
  };
  parked = parked;
  back = back;
  is = put;
}
