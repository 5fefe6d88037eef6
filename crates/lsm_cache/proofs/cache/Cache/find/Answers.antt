use Rattle.std.proofs.Common.{refl}
use Rattle.lsm_cache.proofs.Recent.{found_asked, found_bytes, none_bytes, none_stays}
use Rattle.lsm_cache.proofs.cache.Cache.find.Goals as goal

pub returns-in-Some-clause-found : goal.returns-in-Some-clause-found
returns-in-Some-clause-found g c =
    let kept = c.self.inside in
    rw (← c.self.view_is) (found_bytes _ (λ a b. refl) c.args.name kept.blocks kept.refusals c.in-Some.bytes.now c.show.new.self c.show.ensures c.in-Some.ensures.value)

pub returns-in-Some-clause-keeps : goal.returns-in-Some-clause-keeps
returns-in-Some-clause-keeps g c =
    let kept = c.self.inside in
    rw (c.get-2.follows.holds-at-none, ← c.self.view_is)
    (found_asked _ (λ a b. refl) c.args.name kept.blocks kept.refusals c.in-Some.bytes.now c.show.new.self c.show.ensures c.len.ensures.valid c.in-Some.ensures.value)

pub returns-in-Some-clause-absent : goal.returns-in-Some-clause-absent
returns-in-Some-clause-absent g c = tt

pub returns-in-Some-clause-stays : goal.returns-in-Some-clause-stays
returns-in-Some-clause-stays g c = tt

pub returns-clause-absent : goal.returns-clause-absent
returns-clause-absent g c =
    let kept = c.self.inside in
    rw (← c.self.view_is) (none_bytes _ (λ a b. refl) c.args.name kept.blocks kept.refusals c.in_default.ensures.value)

pub returns-clause-stays : goal.returns-clause-stays
returns-clause-stays g c =
    let kept = c.self.inside in
    rw (c.get-2.follows.holds-at-none, ← c.self.view_is) (none_stays _ (λ a b. refl) c.args.name kept.blocks kept.refusals c.in_default.ensures.value)
