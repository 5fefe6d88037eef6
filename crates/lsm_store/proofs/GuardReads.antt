-- What is read as guards are asked.
use Rattle.std.proofs.Common.{◌≡◌, ◌⊎◌, inl, inr, ⊎_elim, ◌≤◌, ◌<◌, ◌*◌, ℕ, zero, suc, ◌+◌, Bool, true, false, not, cond, List, [], ◌∷◌, length, get_or, take, drop, ◌-◌, Option, Some, None, refl, sym, ◌∙◌, ap, subst, arith}
use Rattle.std.specs.Prelude.{Result, Ok, Err, IsTrue}
use Rattle.std.proofs.lemmas.List.{take_all}
use Rattle.lsm_cache.specs.Fresh.{IsFresh}
use Rattle.lsm_cache.specs.declared.name.BlockName.{BlockName}
use Rattle.lsm_codec.specs.Map.{Map}
use Rattle.lsm_device.proofs.Counting.{none_made, AtMost-joined, AtMost-wider}
use Rattle.lsm_device.specs.Calls.{faults_after}
use Rattle.lsm_device.specs.Disk.{Disk, seen}
use Rattle.lsm_device.specs.History.{present}
use Rattle.lsm_device.specs.Medium.{Lasting, Medium, disk}
use Rattle.lsm_device.specs.declared.refusal.Refusal.{Refusal}
use Rattle.lsm_device.specs.declared.refusal.Refusal.TheVariants.{Io, GuardFailed}
use Rattle.lsm_levels.specs.Asking.{Source}
use Rattle.lsm_levels.specs.Levels.{Levels, places}
use Rattle.lsm_levels.specs.NamedBlocks.{HaveNone, HasNoBlock}
use Rattle.lsm_levels.specs.Stored.{ArePlaced, AreStored, IsReadable}
use Rattle.lsm_codec.specs.Versions.{Version}
use Rattle.lsm_levels.specs.Tables.{Table}
use Rattle.lsm_levels.specs.Lookups.{IsTest}
use Rattle.lsm_store.specs.Guarding.{AsksGuards, AnswersGuards, MayEndGuards}
use Rattle.lsm_codec.specs.Guards.{Condition, is_met}
use Rattle.lsm_store.specs.Reading.{ReadsThrough}
use Rattle.lsm_machine.specs.Refusals.{first_refusal, guard_refusals}

module _ (area : ℕ) (levels : Levels) where
  -- nothing is read
  pub reads_none : (n : ℕ) (s : Source) → ReadsThrough n area levels true s s
  reads_none n s = record {
    calls = none_made n 0 0 s.medium.calls;
    faults = refl;
    unchanged = λ tells. refl;
    same_size = refl;
    same_lasting = refl;
    fresh = λ place tells placed was. was;
    others = λ number none was. was;
  }

  -- the limit is a wider one
  pub reads_wider : (n m : ℕ) (ok : Bool) (old new : Source) → n ≤ m → ReadsThrough n area levels ok old new → ReadsThrough m area levels ok old new
  reads_wider n m ok old new less r = record {
    calls = AtMost-wider n 0 0 m 0 0 old.medium.calls new.medium.calls less (omega arith) (omega arith) r.calls;
    faults = r.faults;
    unchanged = r.unchanged;
    same_size = r.same_size;
    same_lasting = r.same_lasting;
    fresh = r.fresh;
    others = r.others;
  }

  -- one after the other
  pub reads_joined : (n k m : ℕ) (ok : Bool) (old mid new : Source) → n + k ≤ m → ReadsThrough n area levels true old mid → ReadsThrough k area levels ok mid new → ReadsThrough m area levels ok old new
  reads_joined n k m ok old mid new less first next =
      let tells_on : IsTrue old.medium.lasting.tells → IsTrue mid.medium.lasting.tells = λ tells. subst (λ (l : Lasting). IsTrue l.tells) (sym first.same_lasting) tells in
      record {
        calls = AtMost-joined n 0 0 k 0 0 m 0 0 old.medium.calls mid.medium.calls new.medium.calls less (omega arith) (omega arith) first.calls next.calls;
        faults = next.faults ∙ ap (faults_after ok) first.faults;
        unchanged = λ tells. next.unchanged (tells_on tells) ∙ first.unchanged tells;
        same_size = next.same_size ∙ first.same_size;
        same_lasting = next.same_lasting ∙ first.same_lasting;
        fresh = λ place tells placed was. next.fresh place (tells_on tells) placed (first.fresh place tells placed was);
        others = λ number none was. next.others number none (first.others number none was);
      }

  -- what could be read can be read
  pub readable_on : (place : BlockName → Option ℕ) (n : ℕ) (old new : Source) → ReadsThrough n area levels true old new → IsReadable place area (places levels) old → IsReadable place area (places levels) new
  readable_on place n old new reads was =
      let same : disk old.medium ≡ disk new.medium = sym (ap present (reads.unchanged was.tells)) in
      record {
        tells = subst (λ (l : Lasting). IsTrue l.tells) (sym reads.same_lasting) was.tells;
        stored = subst (λ (d : Disk). AreStored (seen d) area (places levels)) same was.stored;
        placed = was.placed;
        fresh = reads.fresh place was.tells was.placed was.fresh;
      }

-- ---- one guard, and the others after it

module _ (place : ℕ) (m : Map) (guard : Condition) (rest : List Condition) where
  -- one that is true leaves it to the others
  pub met_on : (met : Bool) → met ≡ is_met m guard → met ≡ true → first_refusal (guard_refusals place m (guard ∷ rest)) ≡ first_refusal (guard_refusals (suc place) m rest)
  met_on met is true_is = ap (λ (b : Bool). cond (not b) (Some (GuardFailed place)) (first_refusal (guard_refusals (suc place) m rest))) (sym is ∙ true_is)

  -- one that is false is the first
  pub unmet : (met : Bool) → met ≡ is_met m guard → met ≡ false → first_refusal (guard_refusals place m (guard ∷ rest)) ≡ Some (GuardFailed place)
  unmet met is false_is = ap (λ (b : Bool). cond (not b) (Some (GuardFailed place)) (first_refusal (guard_refusals (suc place) m rest))) (sym is ∙ false_is)

-- ---- which guards are asked

module _ (memory sealed : List Version) (runs : List (List Table)) (area n place : ℕ) (guard : Condition) (rest : List Condition) (old mid : Source) where
  -- its test is refused
  pub asks_refused : (e : Refusal) → IsTest memory sealed runs area guard n (Err e) old mid → AsksGuards memory sealed runs area n place (guard ∷ rest) (Some e) old mid
  asks_refused e test = (Err e, mid, test, (refl, refl))

  -- it is false
  pub asks_false : IsTest memory sealed runs area guard n (Ok false) old mid → AsksGuards memory sealed runs area n place (guard ∷ rest) (Some (GuardFailed place)) old mid
  asks_false test = (Ok false, mid, test, (refl, refl))

  -- it is true
  pub asks_true : (ends : Option Refusal) (new : Source) → IsTest memory sealed runs area guard n (Ok true) old mid → AsksGuards memory sealed runs area n (suc place) rest ends mid new → AsksGuards memory sealed runs area n place (guard ∷ rest) ends old new
  asks_true ends new test later = (Ok true, mid, test, later)

pub first_rest : (guards : List Condition) (guard : Condition) → 1 ≤ length guards → guard ≡ get_or guards 0 guard → guards ≡ guard ∷ take (length guards - 1) (drop 1 guards)
first_rest [] guard some is = absurd (omega (arith, some))
first_rest (x ∷ rest) guard some is = let whole = take_all (length (x ∷ rest) - 1) rest (omega arith) in sym (λ i. is i ∷ whole i)

module _ (guards : List Condition) (guard : Condition) (rest : List Condition) (split : guards ≡ guard ∷ rest) where
  count_is : length guards ≡ suc (length rest)
  count_is = ap (λ (gs : List Condition). length gs) split

  module _ (area : ℕ) (levels : Levels) (old mid : Source) where
    pub first_reads : (ok : Bool) → ReadsThrough 128 area levels ok old mid → ReadsThrough (128 * length guards) area levels ok old mid
    first_reads ok reads = reads_wider area levels 128 (128 * length guards) ok old mid (omega (arith, count_is)) reads

    pub then_reads : (ok : Bool) (new : Source) → ReadsThrough 128 area levels true old mid → ReadsThrough (128 * length rest) area levels ok mid new → ReadsThrough (128 * length guards) area levels ok old new
    then_reads ok new first later = reads_joined area levels 128 (128 * length rest) (128 * length guards) ok old mid new (omega (arith, count_is)) first later

  pub may_end_later : (place : ℕ) (e : Refusal) → MayEndGuards (place + 1) (length rest) e → MayEndGuards place (length guards) e
  may_end_later place e = ⊎_elim (λ io. inl io) (λ b. inr (⊎_elim (λ bad. inl bad) (λ there.
      let next : place + 1 + there.0 ≡ place + suc there.0 = omega arith in
      inr (suc there.0, omega (arith, count_is, there.1), there.2 ∙ ap GuardFailed next)) b))

  module _ (place : ℕ) (m : Map) where
    pub answers_false : (met : Bool) → met ≡ is_met m guard → met ≡ false → AnswersGuards place m guards (Err (GuardFailed place))
    answers_false met is not_met = subst (λ (gs : List Condition). AnswersGuards place m gs (Err (GuardFailed place))) (sym split) (inr (unmet place m guard rest met is not_met))

    pub answers_later : (met : Bool) → met ≡ is_met m guard → met ≡ true → (r : Result (Unit {0}) Refusal) → AnswersGuards (place + 1) m rest r → AnswersGuards place m guards r
    answers_later met is true_is r later = subst (λ (gs : List Condition). AnswersGuards place m gs r) (sym split) (by r (subst (λ (k : ℕ). AnswersGuards k m rest r) next later))
      where
        next : place + 1 ≡ suc place
        next = omega arith

        by : (x : Result (Unit {0}) Refusal) → AnswersGuards (suc place) m rest x → AnswersGuards place m (guard ∷ rest) x
        by (Ok u) h = met_on place m guard rest met is true_is ∙ h
        by (Err e) h = ⊎_elim (λ io. inl io) (λ fails. inr (met_on place m guard rest met is true_is ∙ fails)) h

module _ (memory sealed : List Version) (runs : List (List Table)) (area n place : ℕ) (guards : List Condition) (guard : Condition) (rest : List Condition) (split : guards ≡ guard ∷ rest) (old mid new : Source) where
  pub asks_later : IsTest memory sealed runs area guard n (Ok true) old mid → (ends : Option Refusal) → AsksGuards memory sealed runs area n (place + 1) rest ends mid new → AsksGuards memory sealed runs area n place guards ends old new
  asks_later test ends later = subst (λ (gs : List Condition). AsksGuards memory sealed runs area n place gs ends old new) (sym split)
      (asks_true memory sealed runs area n place guard rest old mid ends new test (subst (λ (k : ℕ). AsksGuards memory sealed runs area n k rest ends mid new) next later))
    where
      next : place + 1 ≡ suc place
      next = omega arith
