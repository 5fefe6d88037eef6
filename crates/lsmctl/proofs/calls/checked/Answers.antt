use Rattle.std.proofs.Common.{Ok}
use Rattle.lsmctl.proofs.calls.checked.Goals as goal

pub returns-in_ok-report_text-in-Ok-clause-gives : goal.returns-in_ok-report_text-in-Ok-clause-gives
returns-in_ok-report_text-in-Ok-clause-gives g c = record {
  answered = Ok c.in-Ok.report;
  yes = c.in-Ok.ensures.yes;
  reads = c.in-Ok.ensures.device;
  whole = c.in-Ok.ensures.whole;
  told = c.in_ok-report_text-in-Ok.ensures.text;
}
