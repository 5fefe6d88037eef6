use Rattle.std.proofs.Common.{ap}
use Rattle.lsm_open.proofs.OpeningReads.{handed, uncalled}
use Rattle.lsm_open.proofs.recovered.recover.Goals as goal

pub returns-in-Ok-clause-within : goal.returns-in-Ok-clause-within
returns-in-Ok-clause-within g c = c.in-Ok.ensures.within

pub returns-in-Ok-clause-recovered : goal.returns-in-Ok-clause-recovered
returns-in-Ok-clause-recovered g c = λ n left t is. c.in-Ok.ensures.recovered n left t is

pub returns-in-Ok-clause-size : goal.returns-in-Ok-clause-size
returns-in-Ok-clause-size g c = (
  λ same. absurd cc,
  λ other.
      let e = c.in-Ok.ensures.size other in
      absurd (cc e.0),
)

pub returns-in-Err-clause-size : goal.returns-in-Err-clause-size
returns-in-Err-clause-size g c = (
  λ same size.
      let D = g.D.Device in
      uncalled (D.medium c.args.device).calls (D.medium c.recover_parts.new.device).calls (c.in-Err.ensures.begins size) (ap (λ r. (D.medium (handed c.args.device r)).calls) same),
  λ other.
      let e = c.in-Err.ensures.size other in
      cc (e.0, e.1),
)

pub returns-in-Err-clause-refusal : goal.returns-in-Err-clause-refusal
returns-in-Err-clause-refusal g c = λ t size. c.in-Err.ensures.refusal t size

pub returns-in-Err-clause-fails : goal.returns-in-Err-clause-fails
returns-in-Err-clause-fails g c = λ n left t is. c.in-Err.ensures.fails n left t is

pub returns-in-Err-clause-faults : goal.returns-in-Err-clause-faults
returns-in-Err-clause-faults g c = c.in-Err.ensures.faults

pub returns-in-Err-clause-stops : goal.returns-in-Err-clause-stops
returns-in-Err-clause-stops g c = c.in-Err.ensures.stops
