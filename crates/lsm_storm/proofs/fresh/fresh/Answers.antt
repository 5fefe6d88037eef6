use Rattle.std.proofs.Common.{ℕ, true, List, length, replicate, refl, subst, rules}
use Rattle.lsm_device.specs.Medium.{disk}
use Rattle.lsm_device.specs.Memory.{medium_in}
use Rattle.lsm_device.proofs.Outcomes.{seen_outcome}
use Rattle.lsm_root.specs.CrashState.{formatted as empty_store}
use Rattle.lsm_open.specs.Image.{StandFor}
use Rattle.lsm_storm.proofs.Refusing.{opening_refuses}
use Rattle.lsm_storm.proofs.fresh.fresh.Goals as goal

pub returns-in-Ok-clause-opened : goal.returns-in-Ok-clause-opened
returns-in-Ok-clause-opened c =
    let new = disk (medium_in c.in_ok-device.device) in
    let opened = c.in-Ok.ensures.opens 2048 empty_store refl
    (subst (λ (sectors : List (List ℕ)). StandFor 2048 empty_store sectors) (seen_outcome new) (c.in_ok-device.ensures.leaves (replicate (length new.pending) true))) in
    record { state = opened.state; backed = opened.backed; cache = search rules }

pub returns-clause-refused : goal.returns-clause-refused
returns-clause-refused c =
    let new = disk (medium_in c.in_ok-device.device) in
    let fails = c.in-Err.ensures.fails refl 2048 empty_store refl
    (subst (λ (sectors : List (List ℕ)). StandFor 2048 empty_store sectors) (seen_outcome new) (c.in_ok-device.ensures.leaves (replicate (length new.pending) true))) in
    opening_refuses c.in-Err.refusal fails.fair
