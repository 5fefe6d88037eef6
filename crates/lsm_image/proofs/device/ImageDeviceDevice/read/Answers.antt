use Rattle.std.proofs.Common.{[], List, get_or, map, ap, ◌∙◌}
use Rattle.std.specs.Prelude.{Some}
use Rattle.std.proofs.lemmas.Option.{slice_get-get_or}
use Rattle.lsm_image.specs.declared.laid.Laid.{Laid}
use Rattle.lsm_image.specs.Laid.{write_of, newest}
use Rattle.lsm_image.proofs.Begun.{read_is}
use Rattle.lsm_image.proofs.device.ImageDeviceDevice.read.Goals as goal

pub returns-clause-bytes : goal.returns-clause-bytes
returns-clause-bytes g c =
    let s = c.args.self.now in
    let first = get_or s.base.now c.args.at [] in
    read_is s.base.now s.laid.items s.made.items s.standing s.is_image s.go_together c.args.at first c.lay_over.new.out c.lay_over-2.new.out (slice_get-get_or s.base.now c.args.at [] c.requires)
    (c.lay_over.ensures ∙ ap (λ (l : List Laid). newest (Some first) (map write_of l) c.args.at) c.deref.ensures.value)
    (c.lay_over-2.ensures ∙ ap (λ (l : List Laid). newest (Some c.lay_over.new.out) (map write_of l) c.args.at) c.deref-2.ensures.value)
