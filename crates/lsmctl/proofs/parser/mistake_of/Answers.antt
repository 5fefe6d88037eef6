use Rattle.std.proofs.Common.{◌≡◌, ◌∙◌, sym, refl, true, false, true≢false}
use Rattle.clap.specs.declared.error.kind.ErrorKind.TheVariants.{OutOfMemory}
use Rattle.lsmctl.proofs.parser.mistake_of.Goals as goal

pub returns : goal.returns
returns g c = λ same.
    let as_told : c.kind.result ≡ OutOfMemory = c.kind.ensures ∙ same in
    let bad : false ≡ true = sym c.if-eq.false ∙ c.eq.ensures ∙ rw as_told refl in true≢false (sym bad)
