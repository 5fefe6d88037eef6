use Rattle.example_shared.proofs.Lasting.{both_outlast}
use Rattle.example_shared.proofs.sharing.store_both.Goals as goal

pub returns : goal.returns
returns g c =
    let a = c.args in
    both_outlast (a.first_key.now, a.first_value.now) (a.second_key.now, a.second_value.now) c.requires.apart a.store a.clients 1024 c.in-Ok.opened.begin _ _ c.in_ok-store.store c.in_ok-store.field-0-1
    c.requires.sectors c.requires.backed c.in-Ok.ensures.1 c.in_ok-one.ensures c.in_ok-two.ensures c.trail_tells_what_a_crash_leaves.ensures.ended c.in_ok-store.ensures
