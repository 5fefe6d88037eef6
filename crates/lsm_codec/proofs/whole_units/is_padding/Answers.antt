use Rattle.std.proofs.Common.{◌∙◌, ℕ, ◌-◌, ◌%◌, replicate, sym, ap}
use Rattle.lsm_codec.specs.Entries.{are_zeros}
use Rattle.lsm_codec.proofs.DataBlockLaws.{zeros_are, zeros_are_zeros}
use Rattle.lsm_codec.proofs.whole_units.is_padding.Goals as goal

pub returns-then-bytes-unit : goal.returns-then-bytes-unit
returns-then-bytes-unit c =
    let size : ℕ = (c.args.unit - c.args.size % c.args.unit) % c.args.unit in
    (λ t. zeros_are c.args.bytes.now (sym c.is_zero.ensures ∙ t) ∙ ap (λ (n : ℕ). replicate n 0) c.if-bytes-unit.true, λ e. c.is_zero.ensures ∙ ap are_zeros e ∙ zeros_are_zeros size)
