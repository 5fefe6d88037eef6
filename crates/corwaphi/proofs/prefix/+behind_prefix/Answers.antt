use Rattle.std.proofs.Common.{◌∷◌, ◌++◌, ◌+◌, [], Some, option_map}
use Rattle.std.proofs.lemmas.Bool.{lt-ltb, le-ltb}
use Rattle.corwaphi.specs.Prefix.{behind_prefix}
use Rattle.corwaphi.proofs.Prefixes.{raised_last, dropped_last, told_end}
use Rattle.corwaphi.proofs.prefix.+behind_prefix.Goals as goal

pub returns-then-last-lt255 : goal.returns-then-last-lt255
returns-then-last-lt255 t c = told_end (λ end. option_map (λ v. v.items) end) c.raised.result (Some (c.in-Some.front.now ++ (c.in-Some.last.now + 1) ∷ [])) (behind_prefix c.args.prefix.now)
    (raised_last c.args.prefix.now c.in-Some.front.now c.in-Some.last.now c.in-Some.ensures.cases.0 (lt-ltb c.in-Some.last.now 255 c.if-last-lt255.true)) c.raised.ensures

pub returns-else-last-lt255 : goal.returns-else-last-lt255
returns-else-last-lt255 t c = told_end (λ end. option_map (λ v. v.items) end) c.behind_prefix.result (behind_prefix c.in-Some.front.now) (behind_prefix c.args.prefix.now)
    (dropped_last c.args.prefix.now c.in-Some.front.now c.in-Some.last.now c.in-Some.ensures.cases.0 (le-ltb c.in-Some.last.now 255 c.if-last-lt255.false)) c.behind_prefix.ensures
