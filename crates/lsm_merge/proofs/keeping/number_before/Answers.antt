use Rattle.std.proofs.Common.{◌-◌, ◌∙◌, sym, arith}
use Rattle.lsm_merge.proofs.Steps.{number_before_is}
use Rattle.lsm_merge.proofs.keeping.number_before.Goals as goal

pub returns : goal.returns
returns g c d =
    number_before_is c.args.versions.now c.args.i (c.args.i - 1) c.index-versions-i.result c.index-versions-i-2.result c.number.result d (omega (arith, c.if-i-eq0.false)) c.requires c.index-versions-i.is c.index-versions-i-2.is (sym c.have_one_key.ensures ∙ c.if-not-have_one_key.false) c.number.ensures
