-- Jobs that hold slots.
use Rattle.std.proofs.Common.{◌≡◌, ℕ, suc, ◌+◌, ◌-◌, ◌<◌, ◌≤◌, Bool, true, false, cond, ◌||◌, [], ◌∷◌, length, set, replicate, Option, Some, None, refl, sym, ap, ◌∙◌, arith}
use Rattle.std.specs.List.{list_any}
use Rattle.lsm_levels.specs.Levels.{Levels}
use Rattle.lsm_levels.specs.Pick.{Job}
use Rattle.lsm_levels.specs.declared.choosing.Choice.{Choice}
use Rattle.lsm_jobs.specs.Slots.{Slot, Slots, JobSlots, held_jobs, has_free, with_slot}
use Rattle.lsm_jobs.specs.Taking.{asked_job, given_job}
use Rattle.lsm_jobs.specs.Holding.{holds, free_from}

any_held : (p : Job → Bool) (slots : Slots) → list_any (holds p) slots ≡ list_any p (held_jobs slots)
any_held p [] = refl
any_held p (None ∷ rest) = any_held p rest
any_held p (Some slot ∷ rest) = ap (λ b. p slot.job || b) (any_held p rest)

pub held_told : (p : Job → Bool) (b : Bool) (shown items : Slots) (next : ℕ) (s : JobSlots) → b ≡ list_any (holds p) shown → shown ≡ items → record { next = next; slots = items } ≡ s → b ≡ list_any p (held_jobs s.slots)
held_told p b shown items next s told same view = told ∙ any_held p shown ∙ ap (λ (slots : Slots). list_any p (held_jobs slots)) same ∙ ap (λ (v : JobSlots). list_any p (held_jobs v.slots)) view

-- four free slots
pub four_free : (n : ℕ) → n ≡ 4 → replicate {A = Option Slot} n None ≡ None ∷ None ∷ None ∷ None ∷ []
four_free n e = ap (λ (m : ℕ). replicate {A = Option Slot} m None) e

-- the first free place is that of the least free slot
pub placed_at_free : (slot : Slot) (slots : Slots) (n place : ℕ) → free_from n slots ≡ Some place → (n ≤ place) × (place - n < length slots) × (with_slot slot slots ≡ set slots (place - n) (Some slot))
placed_at_free slot [] n place e = absurd (none_is place e)
  where
    none_is : (k : ℕ) → None ≡ Some k → ⊥
    none_is k f = cc
placed_at_free slot (None ∷ rest) n place e =
    let same : n ≡ place = some_is n place e in
    let zero_is : place - n ≡ 0 = omega (arith, same) in
    (omega (arith, same), omega (arith, zero_is), sym (ap (λ (k : ℕ). set (None ∷ rest) k (Some slot)) zero_is))
  where
    some_is : (a b : ℕ) → Some a ≡ Some b → a ≡ b
    some_is a b f = cc
placed_at_free slot (Some held ∷ rest) n place e =
    let more = placed_at_free slot rest (n + 1) place e in
    let step : place - n ≡ suc (place - (n + 1)) = omega (arith, more.0) in
    (omega (arith, more.0), omega (arith, more.1, step), ap (λ (ss : Slots). Some held ∷ ss) more.2 ∙ sym (ap (λ (k : ℕ). set (Some held ∷ rest) k (Some slot)) step))

-- and where there is none no slot is free
pub none_free : (slots : Slots) (n : ℕ) → free_from n slots ≡ None → has_free slots ≡ false
none_free [] n e = refl
none_free (None ∷ rest) n e = cc
none_free (Some held ∷ rest) n e = none_free rest (n + 1) e

pub some_free : (slots : Slots) (n place : ℕ) → free_from n slots ≡ Some place → has_free slots ≡ true
some_free [] n place e = cc
some_free (None ∷ rest) n place e = refl
some_free (Some held ∷ rest) n place e = some_free rest (n + 1) place e

-- where no slot is free no job is given
pub none_given : (waiting : Bool) (asked : Option Choice) (levels : Levels) (shown items : Slots) (next : ℕ) (s : JobSlots) → None ≡ free_from 0 shown → shown ≡ items → record { next = next; slots = items } ≡ s → None ≡ given_job waiting asked levels s.slots
none_given waiting asked levels shown items next s none same view =
    let full : has_free s.slots ≡ false = ap (λ (v : JobSlots). has_free v.slots) (sym view) ∙ ap has_free (sym same) ∙ none_free shown 0 (sym none) in
    sym (ap (λ b. cond b (asked_job waiting asked levels (held_jobs s.slots)) None) full)

-- where one is free it is the one that is asked for
pub next_given : (waiting : Bool) (asked : Option Choice) (levels : Levels) (shown items : Slots) (next place : ℕ) (s : JobSlots) (job : Option Job) → Some place ≡ free_from 0 shown → shown ≡ items → record { next = next; slots = items } ≡ s → job ≡ asked_job waiting asked levels (held_jobs s.slots) → job ≡ given_job waiting asked levels s.slots
next_given waiting asked levels shown items next place s job some same view picked =
    let free : has_free s.slots ≡ true = ap (λ (v : JobSlots). has_free v.slots) (sym view) ∙ ap has_free (sym same) ∙ some_free shown 0 place (sym some) in
    picked ∙ sym (ap (λ b. cond b (asked_job waiting asked levels (held_jobs s.slots)) None) free)

abbrev these : ℕ → Slots → JobSlots
these next slots = record { next = next; slots = slots }

-- a place in the slots
pub is_place : (items : Slots) (next place : ℕ) (s : JobSlots) → these next items ≡ s → free_from 0 s.slots ≡ Some place → (slot : Slot) → place < length items
is_place items next place s view free slot = let at = placed_at_free slot items 0 place (ap (λ (v : JobSlots). free_from 0 v.slots) view ∙ free) in omega (arith, at.1)

-- a job that is put there
pub put_is : (items : Slots) (next place : ℕ) (s : JobSlots) (r : Slot) → these next items ≡ s → free_from 0 s.slots ≡ Some place → these (next + 1) (set items place (Some r)) ≡ these (s.next + 1) (with_slot r s.slots)
put_is items next place s r view free =
    let first : free_from 0 items ≡ Some place = ap (λ (v : JobSlots). free_from 0 v.slots) view ∙ free in
    let here : place - 0 ≡ place = omega arith in
    let there : set items place (Some r) ≡ with_slot r items = sym (ap (λ (k : ℕ). set items k (Some r)) here) ∙ sym (placed_at_free r items 0 place first).2 in
    ap (these (next + 1)) there ∙ ap (λ (v : JobSlots). these (v.next + 1) (with_slot r v.slots)) view
