use Rattle.std.proofs.Common.{option_map, rules}
use Rattle.lsm_storm.proofs.counter.raised.Goals as goal

pub returns : goal.returns
returns c = record {
  old = option_map (λ v. v.items) c.args.old.now;
  count = c.in-Some.count;
  fits = search rules;
  next = search rules;
  guarded = search rules;
  puts = c.in_ok-batch.ensures;
}
