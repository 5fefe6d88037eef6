-- What a policy advises may be chosen.
use Rattle.std.proofs.Common.{◌≡◌, ℕ, true, List, Option, Some, None, is_some, refl, subst}
use Rattle.std.specs.Prelude.{IfSome}
use Rattle.lsm_levels.specs.Levels.{Levels}
use Rattle.lsm_levels.specs.Pick.{Job}
use Rattle.lsm_levels.specs.Choices.{chosen}
use Rattle.lsm_levels.specs.declared.choosing.Choice.{Choice}
use Rattle.lsm_policy.specs.Room.{fits, takes_in_at_most}

pub may_choose : (levels here : Levels) (jobs there : List Job) (most : ℕ) (o : Option Choice) → levels ≡ here → jobs ≡ there
    → IfSome o (λ choice. fits levels jobs most choice ≡ true) → IfSome o (λ choice. is_some (chosen here there choice) ≡ true)
may_choose levels here jobs there most None at same fit = tt
may_choose levels here jobs there most (Some choice) at same fit =
    by (chosen here there choice)
    (subst (λ (l : Levels). takes_in_at_most most (chosen l there choice) ≡ true) at (subst (λ (js : List Job). takes_in_at_most most (chosen levels js choice) ≡ true) same fit))
  where
    by : (job : Option Job) → takes_in_at_most most job ≡ true → is_some job ≡ true
    by None none = none
    by (Some job) takes = refl
