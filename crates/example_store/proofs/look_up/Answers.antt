use Rattle.std.proofs.Common.{ℕ, List, Vec, Global, option_map, refl, subst}
use Rattle.lsm_machine.specs.declared.asked.At.TheVariants.{Now}
use Rattle.lsm_machine.specs.Calls.{Get, Value}
use Rattle.lsm_machine.specs.Run.{Allows}
use Rattle.lsm_machine.specs.State.{State}
use Rattle.example_store.proofs.Surviving.{found_in}
use Rattle.example_store.proofs.look_up.Goals as goal

pub returns-in-Ok-get : goal.returns-in-Ok-get
returns-in-Ok-get c = λ left stands.
    let key = c.args.key.now in
    let opened = c.in-Ok.ensures.opens 128 left refl stands in
    let found = option_map {T = Vec ℕ Global} {U = List ℕ} (λ v. v.items) c.in-Ok-get.found in
    found_in left key found (subst (λ (s : State). Allows s (Get Now key) (Value found)) opened.state (c.in-Ok-get.ensures.serves.allowed opened.backed))
