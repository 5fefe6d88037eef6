use Rattle.lsmctl.proofs.DumpingLaws.{IsDumping}
use Rattle.lsmctl.proofs.dumping.dump_rows.Given as goal

abbrev pub invariant-loop : goal.invariant-loop
invariant-loop g l = IsDumping l.counter l.walk l.fn.store l.store (g.O.Write.contents l.fn.output) (g.O.Write.contents l.output)
