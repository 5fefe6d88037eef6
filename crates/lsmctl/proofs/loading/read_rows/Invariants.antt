use Rattle.std.proofs.Common.{◌≡◌}
use Rattle.lsmctl.proofs.LoadingLaws.{IsReading}
use Rattle.lsmctl.proofs.loading.read_rows.Given as goal

abbrev pub invariant-loop : goal.invariant-loop
invariant-loop g l = IsReading (g.I.Read.remaining l.fn.input) (g.I.Read.remaining l.input) l.loading l.fn.store l.store × (l.loading.read ≡ l.counter)
