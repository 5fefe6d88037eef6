use Rattle.std.proofs.Common.{◌∙◌, ap, filter}
use Rattle.lsm_codec.specs.Versions.{Version}
use Rattle.lsm_merge.specs.Ranges.{shown_key, is_until}
use Rattle.lsm_merge.proofs.JoinLaws.{ordered_from, within-both}
use Rattle.lsm_merge.proofs.input.within.Goals as goal

pub entries_until-requires : goal.entries_until-requires
entries_until-requires g c = ordered_from (shown_key c.args.from) c.args.run.now c.entries_from.result.now c.requires c.entries_from.ensures

pub returns : goal.returns
returns g c =
    c.entries_until.ensures
    ∙ ap (filter (λ (v : Version). is_until (shown_key c.args.to) v.key)) c.entries_from.ensures
    ∙ within-both (shown_key c.args.from) (shown_key c.args.to) c.args.run.now
