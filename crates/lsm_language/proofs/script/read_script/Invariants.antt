use Rattle.std.proofs.Common.{◌≡◌, drop, map}
use Rattle.lsm_language.specs.Lines.{means}
use Rattle.lsm_language.specs.Scripts.{script_from, script_said}
use Rattle.lsm_language.proofs.script.read_script.Given as goal

abbrev pub invariant-loop-line : goal.invariant-loop-line
invariant-loop-line l = script_from l.kind l.begins (map means l.script.items) (map (λ line. line.now) (drop l.line-index l.line-items))
    ≡ script_said l.fn.kind l.fn.text
