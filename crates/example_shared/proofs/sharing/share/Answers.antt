use Rattle.example_shared.proofs.sharing.share.Goals as goal

pub returns : goal.returns
returns g c = c.in_ok-find_after_a_crash.ensures c.args.first_value.now c.args.second_value.now c.in_ok-store-2.ensures
