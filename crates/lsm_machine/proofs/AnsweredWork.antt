-- What the slots of jobs answer is what the work says.
use Rattle.std.proofs.Common.{◌≡◌, ◌≢◌, ◌⊎◌, inl, inr, ⊎_elim, ℕ, suc, ◌+◌, ◌-◌, ◌<◌, ◌≤◌, ◌^◌, Bool, true, false, cond, not, ◌&&◌, ◌==◌, ltb, List, [], ◌∷◌, length, Option, Some, None, is_none, refl, sym, ap, ◌∙◌, subst, arith}
use Rattle.std.proofs.lemmas.Bool.{and_parts, eqb-true, eq-eqb, lt-ltb, le-ltb, false≢true}
use Rattle.lsm_codec.specs.Keys.{Bytes}
use Rattle.lsm_codec.specs.Versions.{Version, is_same_key}
use Rattle.lsm_codec.proofs.KeyOrder.{same_key, key_itself}
use Rattle.lsm_device.specs.Medium.{Medium}
use Rattle.lsm_device.specs.declared.refusal.Refusal.{Refusal}
use Rattle.lsm_device.specs.declared.refusal.Refusal.TheVariants.{NoMemory, Io, NoSuchJob, WrongState, ForeignResult, NoSpace, Exhausted}
use Rattle.lsm_extent.specs.Area.{Area}
use Rattle.lsm_root.specs.CrashState.{last_number}
use Rattle.lsm_table.specs.Division.{TableBlocks}
use Rattle.lsm_merge.specs.Inputs.{MergeInput}
use Rattle.lsm_merge.specs.Results.{MergeResult}
use Rattle.lsm_levels.specs.Tables.{Table}
use Rattle.lsm_jobs.specs.Slots.{Stage, Slot, Reading, Frozen, Writing, JobSlots, with_held, left_at, left_to_write, less_left, is_reading, is_frozen, is_writing, is_written, is_not_at}
use Rattle.lsm_jobs.specs.Reading.{JobReadsOn, stage_with, input_with}
use Rattle.lsm_levels.specs.Pick.{inputs}
use Rattle.lsm_jobs.specs.Outputs.{placed_blocks}
use Rattle.lsm_jobs.specs.Refusing.{HasInput, HasOtherInput, RefusesInput, RefusesResult, RefusesWrite}
use Rattle.lsm_jobs.specs.Placing.{ArePlaced, FindNoRoom}
use Rattle.lsm_machine.specs.Calls.{Number, Done, Handed}
use Rattle.lsm_machine.specs.Work.{WorkView}
use Rattle.lsm_codec.specs.Guards.{is_same_value}
use Rattle.lsm_machine.specs.WorkRefusals.{held, of_slot, is_same_list, is_same_version, is_same_input, placing}
use Rattle.lsm_machine.specs.WorkEffects.{left_then, staged, with_placed}
use Rattle.lsm_machine.specs.JobAnswers.{LendsInput, AcceptsResult, WritesSome, ReadsSome, EndsWritten, JobsLaw}
use Rattle.lsm_machine.specs.Machine.{Machine}
use Rattle.lsm_machine.proofs.PlacedImages.{all_placed, none_placed}

-- ---- whether two inputs are the same

module _ {X : Type 0} (same : X → X → Bool) where
  lists_same : ((x y : X) → same x y ≡ true → x ≡ y) → (xs ys : List X) → is_same_list same xs ys ≡ true → xs ≡ ys
  lists_same h [] [] e = refl
  lists_same h [] (y ∷ ys) e = absurd (false≢true e)
  lists_same h (x ∷ xs) [] e = absurd (false≢true e)
  lists_same h (x ∷ xs) (y ∷ ys) e =
      let parts = and_parts (same x y) (is_same_list same xs ys) e in
      ap (λ (z : X). z ∷ xs) (h x y parts.0) ∙ ap (λ (zs : List X). y ∷ zs) (lists_same h xs ys parts.1)

  list_itself : ((x : X) → same x x ≡ true) → (xs : List X) → is_same_list same xs xs ≡ true
  list_itself h [] = refl
  list_itself h (x ∷ xs) = ap (λ b. b && is_same_list same xs xs) (h x) ∙ list_itself h xs

pub values_same : (a b : Option Bytes) → is_same_value a b ≡ true → a ≡ b
values_same None None e = refl
values_same (Some a) (Some b) e = ap (λ (x : Bytes). Some x) (same_key a b e)
values_same None (Some b) e = absurd (false≢true e)
values_same (Some a) None e = absurd (false≢true e)

value_itself : (a : Option Bytes) → is_same_value a a ≡ true
value_itself None = refl
value_itself (Some a) = key_itself a

versions_same : (v w : Version) → is_same_version v w ≡ true → v ≡ w
versions_same v w e =
    let key = and_parts (is_same_key v.key w.key) ((v.number == w.number) && is_same_value v.value w.value) e in
    let rest = and_parts (v.number == w.number) (is_same_value v.value w.value) key.1 in
    ap (λ (k : Bytes). let x : Version = record { key = k; number = v.number; value = v.value } in x) (same_key v.key w.key key.0)
    ∙ ap (λ (n : ℕ). let x : Version = record { key = w.key; number = n; value = v.value } in x) (eqb-true v.number w.number rest.0)
    ∙ ap (λ (o : Option Bytes). let x : Version = record { key = w.key; number = w.number; value = o } in x) (values_same v.value w.value rest.1)

version_itself : (v : Version) → is_same_version v v ≡ true
version_itself v =
    ap (λ b. b && ((v.number == v.number) && is_same_value v.value v.value)) (key_itself v.key)
    ∙ ap (λ b. b && is_same_value v.value v.value) (eq-eqb v.number v.number refl)
    ∙ value_itself v.value

abbrev Runs : Type 0
Runs = List (List Version)

flags_same : (a b : Bool) → cond a b (not b) ≡ true → a ≡ b
flags_same true true e = refl
flags_same false false e = refl
flags_same true false e = absurd (false≢true e)
flags_same false true e = absurd (false≢true e)

flag_itself : (a : Bool) → cond a a (not a) ≡ true
flag_itself true = refl
flag_itself false = refl

pub inputs_same : (a b : MergeInput) → is_same_input a b ≡ true → a ≡ b
inputs_same a b e =
    let runs = and_parts (is_same_list (is_same_list is_same_version) a.runs b.runs) (is_same_list (λ m n. m == n) a.cuts b.cuts && cond a.bottom b.bottom (not b.bottom)) e in
    let rest = and_parts (is_same_list (λ m n. m == n) a.cuts b.cuts) (cond a.bottom b.bottom (not b.bottom)) runs.1 in
    ap (λ (r : Runs). let i : MergeInput = record { runs = r; cuts = a.cuts; bottom = a.bottom } in i) (lists_same (is_same_list is_same_version) (lists_same is_same_version versions_same) a.runs b.runs runs.0)
    ∙ ap (λ (c : List ℕ). let i : MergeInput = record { runs = b.runs; cuts = c; bottom = a.bottom } in i) (lists_same (λ m n. m == n) (λ m n h. eqb-true m n h) a.cuts b.cuts rest.0)
    ∙ ap (λ (f : Bool). let i : MergeInput = record { runs = b.runs; cuts = b.cuts; bottom = f } in i) (flags_same a.bottom b.bottom rest.1)

pub input_itself : (a : MergeInput) → is_same_input a a ≡ true
input_itself a =
    ap (λ b. b && (is_same_list (λ m n. m == n) a.cuts a.cuts && cond a.bottom a.bottom (not a.bottom))) (list_itself (is_same_list is_same_version) (list_itself is_same_version version_itself) a.runs)
    ∙ ap (λ b. b && cond a.bottom a.bottom (not a.bottom)) (list_itself (λ m n. m == n) (λ m. eq-eqb m m refl) a.cuts)
    ∙ flag_itself a.bottom

own_input : (a b : MergeInput) → a ≡ b → is_same_input a b ≡ true
own_input a b e = subst (λ (i : MergeInput). is_same_input a i ≡ true) e (input_itself a)

other_input : (a b : MergeInput) → a ≢ b → is_same_input a b ≡ false
other_input a b other = by (is_same_input a b) refl
  where
    by : (r : Bool) → is_same_input a b ≡ r → r ≡ false
    by false e = refl
    by true e = absurd (other (inputs_same a b e))

-- ---- a job, and its stage

-- the refusals of work on a job at a stage that passes a test, in order
abbrev pub AtStage : (Stage → Bool) → Option Slot → Option Refusal → Option Refusal
AtStage test o rest = cond (is_none o) (Some NoSuchJob) (cond (is_not_at test o) (Some WrongState) rest)

pub stage_passes : (test : Stage → Bool) (o : Option Slot) (slot : Slot) (rest : Option Refusal) → o ≡ Some slot → test slot.stage ≡ true → AtStage test o rest ≡ rest
stage_passes test o slot rest is at =
    ap (λ (x : Option Slot). AtStage test x rest) is
    ∙ ap (λ (b : Bool). cond (not b) (Some WrongState) rest) at

pub no_job : (test : Stage → Bool) (o : Option Slot) (rest : Option Refusal) → o ≡ None → AtStage test o rest ≡ Some NoSuchJob
no_job test o rest is = ap (λ (x : Option Slot). AtStage test x rest) is

pub other_stage : (test : Stage → Bool) (o : Option Slot) (rest : Option Refusal) → is_not_at test o ≡ true → AtStage test o rest ≡ Some WrongState
other_stage test None rest h = absurd (false≢true h)
other_stage test (Some slot) rest h = ap (λ (b : Bool). cond b (Some WrongState) rest) h

-- a job whose stage is one that passes
at_frozen : (slot : Slot) → slot.stage ≡ Frozen → is_frozen slot.stage ≡ true
at_frozen slot e = ap is_frozen e

frozen_stage : (o : Option Slot) (rest : Option Refusal) (input : MergeInput) → HasInput input o → AtStage is_frozen o rest ≡ rest
frozen_stage None rest input h = absurd h
frozen_stage (Some slot) rest input h = stage_passes is_frozen (Some slot) slot rest refl (at_frozen slot h.0)

-- ---- asking

handed_input : (o : Option Slot) (input : MergeInput) → HasInput input o → of_slot Done (λ slot. Handed slot.input) o ≡ Handed input
handed_input None input h = absurd h
handed_input (Some slot) input h = ap (λ (i : MergeInput). Handed i) h.1

asked_refusal : (o : Option Slot) (e : Refusal) → RefusesInput o e → (AtStage is_frozen o None ≡ Some e) ⊎ ((e ≡ NoMemory) × (AtStage is_frozen o None ≡ None))
asked_refusal o NoSuchJob h = inl (no_job is_frozen o None h)
asked_refusal o WrongState h = inl (other_stage is_frozen o None h)
asked_refusal None NoMemory h = absurd h
asked_refusal (Some slot) NoMemory h = inr (refl, stage_passes is_frozen (Some slot) slot None refl h)
asked_refusal o other h = absurd h

pub ask_answers : (m : Machine) (job : ℕ) → LendsInput m job
ask_answers m job = record {
  unrefused = λ input h. frozen_stage (held m job) None input h;
  answer = λ input h. handed_input (held m job) input h;
  refused = λ e h. asked_refusal (held m job) e h;
}

-- ---- writing

some_to_write : (stage : Stage) → 0 < left_to_write stage → is_writing stage ≡ true
some_to_write (Reading left) some = absurd (omega (arith, some))
some_to_write Frozen some = absurd (omega (arith, some))
some_to_write (Writing tables left) some = refl

written_refusal : (o : Option Slot) (e : Refusal) → RefusesWrite o e → (AtStage is_writing o None ≡ Some e) ⊎ ((e ≡ Io) × (AtStage is_writing o None ≡ None))
written_refusal o NoSuchJob h = inl (no_job is_writing o None h)
written_refusal o WrongState h = inl (other_stage is_writing o None h)
written_refusal None Io h = absurd (omega (arith, h))
written_refusal (Some slot) Io h = inr (refl, stage_passes is_writing (Some slot) slot None refl (some_to_write slot.stage h))
written_refusal o other h = absurd h

pub write_answers : (m : Machine) (job : ℕ) → WritesSome m job
write_answers m job = record {
  unrefused = λ left jobs h. stage_passes is_writing (held m job) h.slot None h.found h.writing;
  answer = λ left jobs h. ap (λ (o : Option Slot). Number (left_then o)) h.found ∙ ap (λ (n : ℕ). Number n) (sym h.left_is);
  after = λ left jobs h.
      ap (λ (js : JobSlots). let w : WorkView = record m.work { jobs = js } in w) h.staged
      ∙ sym (ap (λ (o : Option Slot). of_slot m.work (λ slot. staged m.work job (less_left 8 slot.stage) slot) o) h.found);
  refused = λ e h. written_refusal (held m job) e h;
}

-- ---- reading

pub read_answers : (m : Machine) (job : ℕ) → ReadsSome m job
read_answers m job = record {
  unrefused = λ area left medium jobs h. stage_passes is_reading (held m job) h.slot None h.is (ap is_reading h.reads.shows.stage);
  answer = λ area left medium jobs h.
      ap (λ (o : Option Slot). Number (left_then o)) h.is
      ∙ ap (λ (n : ℕ). Number n) (left_is area left medium jobs h);
  after = λ area left medium jobs h stays.
      ap (λ (js : JobSlots). let w : WorkView = record m.work { jobs = js } in w) h.becomes
      ∙ ap (λ (s : Slot). let w : WorkView = record m.work { jobs = record { next = m.work.jobs.next; slots = with_held job (Some s) m.work.jobs.slots } } in w) (now_is area left medium jobs h stays)
      ∙ sym (ap (λ (o : Option Slot). of_slot m.work (λ slot. staged m.work job (stage_with (left_at slot.stage - 8)) slot) o) h.is);
}
  where
    left_is : (area left : ℕ) (medium : Medium) (jobs : JobSlots) (h : JobReadsOn area medium job left m.work.jobs jobs) → left_at h.slot.stage - 8 ≡ left
    left_is area left medium jobs h = ap (λ (s : Stage). left_at s - 8) h.reads.shows.stage ∙ sym h.reads.eight_less

    now_is : (area left : ℕ) (medium : Medium) (jobs : JobSlots) (h : JobReadsOn area medium job left m.work.jobs jobs) → h.now.input ≡ h.slot.input
        → h.now ≡ record h.slot { stage = stage_with (left_at h.slot.stage - 8) }
    now_is area left medium jobs h stays =
        let made = h.reads.becomes in
        let kept : input_with left (inputs h.slot.job) h.reads.after ≡ h.slot.input = sym (ap (λ (s : Slot). s.input) made) ∙ stays in
        made
        ∙ ap (λ (i : MergeInput). let s : Slot = record h.slot { input = i; stage = stage_with left } in s) kept
        ∙ ap (λ (n : ℕ). let s : Slot = record h.slot { stage = stage_with n } in s) (sym (left_is area left medium jobs h))

-- ---- accepting

-- the refusals of an accept, in order
abbrev InOrder : ℕ → Option Slot → MergeResult → Option (List Table) → Option Refusal
InOrder next o result tables =
    AtStage is_frozen o (cond (of_slot false (λ slot. not (is_same_input slot.input result.input)) o) (Some ForeignResult)
    (cond (ltb (last_number + 1) (next + length result.images)) (Some Exhausted) (cond (is_none tables) (Some NoSpace) None)))

own_result : (o : Option Slot) (next : ℕ) (result : MergeResult) (tables : Option (List Table)) → HasInput result.input o → next + length result.images ≤ 2 ^ 63 + 1
    → InOrder next o result tables ≡ cond (is_none tables) (Some NoSpace) None
own_result None next result tables h le = absurd h
own_result (Some slot) next result tables h le =
    stage_passes is_frozen (Some slot) slot _ refl (at_frozen slot h.0)
    ∙ ap (λ (b : Bool). cond (not b) (Some ForeignResult) (cond (ltb (last_number + 1) (next + length result.images)) (Some Exhausted) (cond (is_none tables) (Some NoSpace) None))) (own_input slot.input result.input h.1)
    ∙ ap (λ (b : Bool). cond b (Some Exhausted) (cond (is_none tables) (Some NoSpace) None)) (le-ltb (last_number + 1) (next + length result.images) le)

exhausted_result : (o : Option Slot) (next : ℕ) (result : MergeResult) (tables : Option (List Table)) → HasInput result.input o → 2 ^ 63 + 1 < next + length result.images
    → InOrder next o result tables ≡ Some Exhausted
exhausted_result None next result tables h lt = absurd h
exhausted_result (Some slot) next result tables h lt =
    stage_passes is_frozen (Some slot) slot _ refl (at_frozen slot h.0)
    ∙ ap (λ (b : Bool). cond (not b) (Some ForeignResult) (cond (ltb (last_number + 1) (next + length result.images)) (Some Exhausted) (cond (is_none tables) (Some NoSpace) None))) (own_input slot.input result.input h.1)
    ∙ ap (λ (b : Bool). cond b (Some Exhausted) (cond (is_none tables) (Some NoSpace) None)) (lt-ltb (last_number + 1) (next + length result.images) lt)

foreign_result : (o : Option Slot) (next : ℕ) (result : MergeResult) (tables : Option (List Table)) → HasOtherInput result.input o → InOrder next o result tables ≡ Some ForeignResult
foreign_result None next result tables h = absurd h
foreign_result (Some slot) next result tables h =
    stage_passes is_frozen (Some slot) slot _ refl (at_frozen slot h.0)
    ∙ ap (λ (b : Bool). cond (not b) (Some ForeignResult) (cond (ltb (last_number + 1) (next + length result.images)) (Some Exhausted) (cond (is_none tables) (Some NoSpace) None))) (other_input slot.input result.input h.1)

accept_refusal : (o : Option Slot) (next : ℕ) (area : Area) (result : MergeResult) (tables : Option (List Table)) (e : Refusal) → (FindNoRoom area result.images → tables ≡ None) → RefusesResult next result.input result.images area o e
    → ((InOrder next o result tables ≡ Some e) ⊎ ((e ≡ NoMemory) × (InOrder next o result tables ≡ None))) ⊎ ((e ≡ NoMemory) × (InOrder next o result tables ≡ Some NoSpace))
accept_refusal o next area result tables NoSuchJob room h = inl (inl (no_job is_frozen o _ h))
accept_refusal o next area result tables WrongState room h = inl (inl (other_stage is_frozen o _ h))
accept_refusal o next area result tables ForeignResult room h = inl (inl (foreign_result o next result tables h))
accept_refusal o next area result tables Exhausted room h = inl (inl (exhausted_result o next result tables h.0 h.1))
accept_refusal o next area result tables NoSpace room (own, le, none) =
    inl (inl (own_result o next result tables own le ∙ ap (λ (t : Option (List Table)). cond (is_none t) (Some NoSpace) None) (room none)))
accept_refusal o next area result None NoMemory room h = inr (refl, own_result o next result None h.0 h.1)
accept_refusal o next area result (Some tables) NoMemory room h = inl (inr (refl, own_result o next result (Some tables) h.0 h.1))
accept_refusal o next area result tables other room h = absurd h

-- as many tables as images
as_many : (number : ℕ) (area : Area) (images : List TableBlocks) (tables : List Table) → ArePlaced number area images tables → length images ≡ length tables
as_many number area [] [] h = refl
as_many number area [] (t ∷ tables) h = absurd h
as_many number area (image ∷ images) [] h = absurd h
as_many number area (image ∷ images) (t ∷ tables) (one, later) = ap (λ (n : ℕ). suc n) (as_many (number + 1) _ images tables later)

pub accept_answers : (m : Machine) (job : ℕ) (result : MergeResult) → AcceptsResult m job result
accept_answers m job result = record {
  unrefused = λ area jobs h.
      own_result (held m job) m.work.next_table result (placing m.work (Some result)) (subst (HasInput result.input) (sym h.found) (h.frozen, h.own)) h.numbers
      ∙ ap (λ (t : Option (List Table)). cond (is_none t) (Some NoSpace) None) (all_placed m.work.next_table m.work.area result.images h.tables h.placing.placed);
  after = λ area jobs h.
      let w = m.work in
      let placed = all_placed w.next_table w.area result.images h.tables h.placing.placed in
      ap (λ (js : JobSlots). let x : WorkView = record w { jobs = js; next_table = w.next_table + length result.images; area = area } in x) h.staged
      ∙ ap (λ (n : ℕ). let x : WorkView = record (staged w job (Writing h.tables (length (placed_blocks h.tables))) h.slot) { next_table = w.next_table + n; area = area } in x) (as_many w.next_table w.area result.images h.tables h.placing.placed)
      ∙ ap (λ (a : Area). let x : WorkView = record (staged w job (Writing h.tables (length (placed_blocks h.tables))) h.slot) { next_table = w.next_table + length h.tables; area = a } in x) h.placing.taken
      ∙ sym (ap (λ (t : Option (List Table)). with_placed w job t h.slot) placed)
      ∙ sym (ap (λ (o : Option Slot). of_slot w (with_placed w job (placing w (Some result))) o) h.found);
  refused = λ e h. accept_refusal (held m job) m.work.next_table m.work.area result (placing m.work (Some result)) e (none_placed m.work.next_table m.work.area result.images) h;
}

-- ---- an install

pub install_answers : (m : Machine) (job : ℕ) → EndsWritten m job
install_answers m job = record {
  refused = λ e h. ⊎_elim
      (λ none. no_job is_written (held m job) _ none.1 ∙ ap (λ (x : Refusal). Some x) (sym none.0))
      (λ other. other_stage is_written (held m job) _ other.1 ∙ ap (λ (x : Refusal). Some x) (sym other.0)) h;
}

pub jobs_law : JobsLaw
jobs_law = record { ask = ask_answers; accept = accept_answers; write = write_answers; read = read_answers; install = install_answers }
