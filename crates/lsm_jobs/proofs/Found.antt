-- The job of a number is found.
use Rattle.std.proofs.Common.{◌≡◌, ℕ, suc, ◌+◌, ◌-◌, ◌<◌, ◌≤◌, Bool, true, false, cond, eqb, [], ◌∷◌, length, set, get_or, Option, Some, None, refl, sym, ap, ◌∙◌, subst, arith}
use Rattle.std.proofs.lemmas.Bool.{eqb-true, eq-eqb}
use Rattle.std.proofs.Common.{inl, inr}
use Rattle.lsm_levels.specs.Among.{IsAmong}
use Rattle.lsm_jobs.specs.Slots.{Slot, Slots, JobSlots, slot_of, with_held}
use Rattle.lsm_jobs.specs.Keeping.{FoundLaw}
use Rattle.lsm_jobs.specs.Holding.{place_from, IsAt}

none_some : (k : ℕ) → None ≡ Some k → ⊥
none_some k e = cc

some_same : (a b : ℕ) → Some a ≡ Some b → a ≡ b
some_same a b e = cc

-- The job of a number is at a place, counted from n on.
pub record IsFound (number : ℕ) (slots : Slots) (n place : ℕ) : Type 0 where
  pub from : n ≤ place
  pub within : place - n < length slots
  pub slot : Slot
  pub at : (d : Option Slot) → get_or slots (place - n) d ≡ Some slot
  pub is : slot_of number slots ≡ Some slot
  pub sets : (now : Option Slot) → set slots (place - n) now ≡ with_held number now slots

pub found_at : (number : ℕ) (slots : Slots) (n place : ℕ) → place_from n number slots ≡ Some place → IsFound number slots n place
found_at number [] n place e = absurd (none_some place e)
found_at number (None ∷ rest) n place e =
    let more = found_at number rest (n + 1) place e in
    let step : place - n ≡ suc (place - (n + 1)) = omega (arith, more.from) in
    record {
      from = omega (arith, more.from);
      within = omega (arith, more.within, step);
      slot = more.slot;
      at = λ d. ap (λ (k : ℕ). get_or (None ∷ rest) k d) step ∙ more.at d;
      is = more.is;
      sets = λ now. ap (λ (k : ℕ). set (None ∷ rest) k now) step ∙ ap (λ (ss : Slots). None ∷ ss) (more.sets now);
    }
found_at number (Some held ∷ rest) n place e = by (found_at number rest (n + 1) place) (eqb held.number number) refl e
  where
    by : (place_from (n + 1) number rest ≡ Some place → IsFound number rest (n + 1) place) → (b : Bool) → eqb held.number number ≡ b → cond b (Some n) (place_from (n + 1) number rest) ≡ Some place → IsFound number (Some held ∷ rest) n place
    by later true is here =
        let same : n ≡ place = some_same n place here in
        let zero_is : place - n ≡ 0 = omega (arith, same) in
        record {
          from = omega (arith, same);
          within = omega (arith, zero_is);
          slot = held;
          at = λ d. ap (λ (k : ℕ). get_or (Some held ∷ rest) k d) zero_is;
          is = ap (λ b. cond b (Some held) (slot_of number rest)) is;
          sets = λ now. ap (λ (k : ℕ). set (Some held ∷ rest) k now) zero_is ∙ sym (ap (λ b. cond b (now ∷ rest) (Some held ∷ with_held number now rest)) is);
        }
    by later false is there =
        let more = later there in
        let step : place - n ≡ suc (place - (n + 1)) = omega (arith, more.from) in
        record {
          from = omega (arith, more.from);
          within = omega (arith, more.within, step);
          slot = more.slot;
          at = λ d. ap (λ (k : ℕ). get_or (Some held ∷ rest) k d) step ∙ more.at d;
          is = ap (λ b. cond b (Some held) (slot_of number rest)) is ∙ more.is;
          sets = λ now.
              ap (λ (k : ℕ). set (Some held ∷ rest) k now) step ∙ ap (λ (ss : Slots). Some held ∷ ss) (more.sets now)
              ∙ sym (ap (λ b. cond b (now ∷ rest) (Some held ∷ with_held number now rest)) is);
        }

pub not_found : (number : ℕ) (slots : Slots) (n : ℕ) → place_from n number slots ≡ None → slot_of number slots ≡ None
not_found number [] n e = refl
not_found number (None ∷ rest) n e = not_found number rest (n + 1) e
not_found number (Some held ∷ rest) n e = by (not_found number rest (n + 1)) (eqb held.number number) refl e
  where
    by : (place_from (n + 1) number rest ≡ None → slot_of number rest ≡ None) → (b : Bool) → eqb held.number number ≡ b → cond b (Some n) (place_from (n + 1) number rest) ≡ None → slot_of number (Some held ∷ rest) ≡ None
    by later true is here = absurd (none_some n (sym here))
    by later false is there = ap (λ b. cond b (Some held) (slot_of number rest)) is ∙ later there

-- where nothing is found the number is no job's
pub none_told : (number next : ℕ) (shown items : Slots) (s : JobSlots) → None ≡ place_from 0 number shown → shown ≡ items → record { next = next; slots = items } ≡ s → slot_of number s.slots ≡ None
none_told number next shown items s none same view = ap (λ (v : JobSlots). slot_of number v.slots) (sym view) ∙ ap (slot_of number) (sym same) ∙ not_found number shown 0 (sym none)

-- its place is one of the slots
pub place_inside : (number place : ℕ) (shown items : Slots) → Some place ≡ place_from 0 number shown → shown ≡ items → place < length items
place_inside number place shown items some same = let found = found_at number shown 0 place (sym some) in omega (arith, found.within, ap (λ (ss : Slots). length ss) same)

module _ (number place next : ℕ) (shown items : Slots) (s : JobSlots) (now : Option Slot) (some : Some place ≡ place_from 0 number shown) (same : shown ≡ items) (view : record { next = next; slots = items } ≡ s) (at : now ≡ get_or items place now) where
  found : IsFound number shown 0 place
  found = found_at number shown 0 place (sym some)

  here : place - 0 ≡ place
  here = omega arith

  -- what is found is at its place
  now_is : now ≡ Some found.slot
  now_is = at ∙ ap (λ (ss : Slots). get_or ss place now) (sym same) ∙ sym (ap (λ (k : ℕ). get_or shown k now) here) ∙ found.at now

  pub at_told : (slot : Slot) → now ≡ Some slot → IsAt number s.slots place slot
  at_told slot is =
      let both : shown ≡ s.slots = same ∙ ap (λ (v : JobSlots). v.slots) view in
      let told : IsAt number shown place slot = record {
        within = omega (arith, found.within, here);
        there = λ d. sym (ap (λ (k : ℕ). get_or shown k d) here) ∙ found.at d ∙ sym now_is ∙ is;
        is = found.is ∙ sym now_is ∙ is;
        set = λ new. sym (ap (λ (k : ℕ). set shown k new) here) ∙ found.sets new;
      } in
      subst (λ (ss : Slots). IsAt number ss place slot) both told

  pub not_empty : now ≡ None → ⊥
  not_empty is = let clash : None ≡ Some found.slot = sym is ∙ now_is in cc

pub found_there : (number : ℕ) (slots : Slots) (slot : Slot) → slot_of number slots ≡ Some slot → IsAmong (Some slot) slots
found_there number [] slot e = absurd (let f : None ≡ Some slot = e in cc)
found_there number (None ∷ rest) slot e = inr (found_there number rest slot e)
found_there number (Some held ∷ rest) slot e = by (found_there number rest slot) (eqb held.number number) e
  where
    by : (slot_of number rest ≡ Some slot → IsAmong (Some slot) rest) → (b : Bool) → cond b (Some held) (slot_of number rest) ≡ Some slot → IsAmong (Some slot) (Some held ∷ rest)
    by later true is = inl (sym is)
    by later false is = inr (later is)

pub found_number : (number : ℕ) (slots : Slots) (slot : Slot) → slot_of number slots ≡ Some slot → slot.number ≡ number
found_number number [] slot e = absurd (let f : None ≡ Some slot = e in cc)
found_number number (None ∷ rest) slot e = found_number number rest slot e
found_number number (Some held ∷ rest) slot e = by (found_number number rest slot) (eqb held.number number) refl e
  where
    same_slot : (a b : Slot) → Some a ≡ Some b → a ≡ b
    same_slot a b f = cc

    by : (slot_of number rest ≡ Some slot → slot.number ≡ number) → (b : Bool) → eqb held.number number ≡ b → cond b (Some held) (slot_of number rest) ≡ Some slot → slot.number ≡ number
    by later true is here = ap (λ (x : Slot). x.number) (same_slot slot held (sym here)) ∙ eqb-true held.number number is
    by later false is there = later there

found_replaced : (number : ℕ) (slots : Slots) (slot new : Slot) → slot_of number slots ≡ Some slot → new.number ≡ number → slot_of number (with_held number (Some new) slots) ≡ Some new
found_replaced number [] slot new e same = absurd (let f : None ≡ Some slot = e in cc)
found_replaced number (None ∷ rest) slot new e same = found_replaced number rest slot new e same
found_replaced number (Some held ∷ rest) slot new e same = by (λ f. found_replaced number rest slot new f same) (eqb held.number number) refl e
  where
    by : (slot_of number rest ≡ Some slot → slot_of number (with_held number (Some new) rest) ≡ Some new) → (b : Bool) → eqb held.number number ≡ b → cond b (Some held) (slot_of number rest) ≡ Some slot
        → slot_of number (cond b (Some new ∷ rest) (Some held ∷ with_held number (Some new) rest)) ≡ Some new
    by later true is _ = ap (λ b. cond b (Some new) (slot_of number rest)) (eq-eqb new.number number same)
    by later false is there = ap (λ b. cond b (Some held) (slot_of number (with_held number (Some new) rest))) is ∙ later there

pub found_law : FoundLaw
found_law = record { there = found_there; number = found_number; replaced = found_replaced }
