use Rattle.std.proofs.Common.{refl}
use Rattle.example_shared.proofs.Finding.{found_by}
use Rattle.example_shared.proofs.sharing.find_both.Goals as goal

pub returns : goal.returns
returns c = λ first_value second_value stands.
    let opened = c.in-Ok.ensures.opens 128 stands.0 refl stands.2 in
    let one = found_by stands.0 c.args.first_key.now first_value _ _ _ c.in_ok-one.ensures.serves opened.state opened.backed stands.1.0 in
    let two = found_by stands.0 c.args.second_key.now second_value _ _ _ c.in_ok-two.ensures.serves one.1 one.2 stands.1.1 in
    (one.0, two.0)
