use Rattle.std.proofs.Common.{◌≡◌, drop, []}
use Rattle.lsm_language.specs.Words.{read_all}
use Rattle.lsm_language.specs.Lines.{place_said}
use Rattle.lsm_language.proofs.line.places.Given as goal

abbrev pub invariant-loop-digit : goal.invariant-loop-digit
invariant-loop-digit l = read_all place_said l.places.items (drop l.digit-index l.word) ≡ read_all place_said [] l.word
