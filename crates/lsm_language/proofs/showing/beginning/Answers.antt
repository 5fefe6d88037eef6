use Rattle.std.proofs.Common.{◌≡◌, ◌∙◌, ℕ, List, length, min, take, ap, arith}
use Rattle.lsm_language.proofs.TextLaws.{take-min}
use Rattle.lsm_language.proofs.showing.beginning.Goals as goal

pub returns : goal.returns
returns c =
    let as_many : c.min.result ≡ min 80 (length c.args.bytes.now) = omega (arith, c.min.ensures) in
    ap (λ (k : ℕ). take k c.args.bytes.now) as_many ∙ take-min 80 c.args.bytes.now
