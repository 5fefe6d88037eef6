use Rattle.std.proofs.Common.{◌≡◌, map, drop}
use Rattle.lsmctl.specs.Runs.{has_dash}
use Rattle.lsmctl.proofs.parser.dashed.Given as goal

abbrev pub invariant-loop-word : goal.invariant-loop-word
invariant-loop-word g l = has_dash (map g.S.AsStr.text (drop l.word-index l.words)) ≡ has_dash (map g.S.AsStr.text l.words)
