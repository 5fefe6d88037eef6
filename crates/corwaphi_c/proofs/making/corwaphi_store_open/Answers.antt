use Rattle.std.proofs.Common.{Option, inl, inr, refl, subst, sym}
use Rattle.corwaphi_c.specs.Calls.{store_in}
use Rattle.corwaphi_c.specs.Making.{IsKeptOpened}
use Rattle.corwaphi_c.specs.declared.kept.Kept.{Kept}
use Rattle.corwaphi_c.proofs.making.corwaphi_store_open.Goals as goal

pub returns-in-Ok-clause-opens : goal.returns-in-Ok-clause-opens
returns-in-Ok-clause-opens g c = λ enough. inl (
  refl,
  subst
      (λ (k : Option Kept). IsKeptOpened c.args.sectors c.args.cache (record { past = g.past; used = c.open_kept.new.used; journal = c.open_kept.new.journal }) (store_in k))
      (sym c.put.ensures)
      c.in-Ok.ensures,
)

pub returns-in-Err-clause-opens : goal.returns-in-Err-clause-opens
returns-in-Err-clause-opens g c = λ enough. inr c.in-Err.ensures
