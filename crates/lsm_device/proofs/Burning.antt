-- How a fuse burns, and what it bounds.
use Rattle.std.proofs.Common.{◌≡◌, ◌≤◌, ◌+◌, ◌-◌, ◌^◌, ℕ, zero, suc, Bool, true, false, All, List, ◌∷◌, Option, None, Some, ap, arith, refl, sym, subst}
use Rattle.std.proofs.Math.Nat.{mod-le}
use Rattle.std.proofs.lemmas.Bool.{false≢true}
use Rattle.std.proofs.lemmas.List.Elements.{All-cons}
use Rattle.std.proofs.lemmas.Option.{none-some}
use Rattle.lsm_device.specs.declared.calls.Calls.{Calls}
use Rattle.lsm_device.specs.declared.plan.Failure.{Failure}
use Rattle.lsm_device.specs.declared.plan.Fuse.{Fuse}
use Rattle.lsm_device.specs.Calls.{one_more, passed_after}
use Rattle.lsm_device.specs.Medium.{Ended, KeepsFuse}
use Rattle.lsm_device.specs.Plan.{Burns, burnt, goes_well, left_of}

-- each life that a crash ended kept its fuse
abbrev pub AllKept : List Ended → Type 0
AllKept past = All (λ (e : Ended). KeepsFuse e.fuse_set e.calls) past

-- no fuse bounds nothing
pub unset : (calls : Calls) (past : List Ended) → AllKept past → Burns None calls past
unset calls past kept = record {
  within = λ f is. absurd (none-some f is);
  present = record { at_most = λ n is. absurd (none-some n is) };
  ended = kept;
}

-- one life more
pub ended_more : (life : Ended) (past new : List Ended) → new ≡ life ∷ past → KeepsFuse life.fuse_set life.calls → AllKept past → AllKept new
ended_more life past new is kept all = subst AllKept (sym is) (All-cons (λ (e : Ended). KeepsFuse e.fuse_set e.calls) life past kept all)

set_is : (f g : Fuse) → Some f ≡ Some g → f ≡ g
set_is f g is = ap (λ (o : Option Fuse). or_else o) is
  where
    or_else : Option Fuse → Fuse
    or_else None = f
    or_else (Some x) = x

number_is : (m n : ℕ) → Some m ≡ Some n → m ≡ n
number_is m n is = ap (λ (o : Option ℕ). or_else o) is
  where
    or_else : Option ℕ → ℕ
    or_else None = m
    or_else (Some x) = x

-- as numbers bound it
bound : (f : Fuse) (calls : Calls) (past : List Ended) → f.left + calls.passed ≤ f.set → AllKept past → Burns (Some f) calls past
bound f calls past fits kept = record {
  within = λ g is. subst (λ (x : Fuse). x.left + calls.passed ≤ x.set) (set_is f g is) fits;
  present = record { at_most = λ n is. omega (arith, fits, number_is f.set n is) };
  ended = kept;
}

some_left : (left : ℕ) (failure : Option Failure) → goes_well (Some left) failure ≡ true → 1 ≤ left
some_left zero failure well = absurd (false≢true well)
some_left (suc left) failure well = omega arith

-- a write or a sync was answered, Ok only where there was some fuse left
pub burns_on : (fuse : Option Fuse) (failure : Option Failure) (old new : Calls) (past : List Ended) (ok : Bool) → new.passed ≡ passed_after ok old.passed → (ok ≡ true → goes_well (left_of fuse) failure ≡ true)
    → Burns fuse old past → Burns (burnt fuse) new past
burns_on None failure old new past ok counts well burns = unset new past burns.ended
burns_on (Some f) failure old new past true counts well burns =
    let some = some_left f.left failure (well refl) in
    let so_far = burns.within f refl in
    let no_more : one_more old.passed ≤ old.passed + 1 = mod-le (old.passed + 1) (2 ^ 64) in
    bound (record f { left = f.left - 1 }) new past (omega (arith, some, so_far, no_more, counts)) burns.ended
burns_on (Some f) failure old new past false counts well burns =
    let so_far = burns.within f refl in
    bound (record f { left = f.left - 1 }) new past (omega (arith, so_far, counts)) burns.ended
