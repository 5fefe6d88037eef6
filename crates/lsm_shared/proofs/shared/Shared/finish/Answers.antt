use Rattle.std.proofs.Common.{refl, sym, arith}
use Rattle.lsm_shared.proofs.Endings.{all_by}
use Rattle.lsm_shared.proofs.shared.Shared.finish.Goals as goal

pub returns-then-not-are_all-clause-clients : goal.returns-then-not-are_all-clause-clients
returns-then-not-are_all-clause-clients g c = ((λ all. c.if-not-are_all.ensures (all_by _ _ _ _ (sym c.args.self.all) (sym c.as_slice.ensures.value) all)), refl, refl, refl)

pub end-requires : goal.end-requires
end-requires g c = (omega (arith, c.args.self.some, c.args.self.all), all_by _ _ _ _ c.args.self.all c.as_slice.ensures.value c.if-not-are_all.ensures)

pub returns-clause-clients : goal.returns-clause-clients
returns-clause-clients g c = all_by _ _ _ _ c.args.self.all c.as_slice.ensures.value c.if-not-are_all.ensures
