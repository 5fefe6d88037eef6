use Rattle.std.proofs.Common.{◌≡◌, ◌++◌, ◌∷◌, [], false, ◌∙◌, ap, rules, List, map}
use Rattle.std.specs.Prelude.{is_ok}
use Rattle.lsm_device.specs.Disk.{IsSector}
use Rattle.lsm_device.specs.Made.{GoTogether, history_of}
use Rattle.lsm_device.proofs.Kept.{fits_all}
use Rattle.lsm_image.specs.declared.laid.Laid.{Laid}
use Rattle.lsm_image.specs.Laid.{image_of, made_of, now_of}
use Rattle.lsm_image.proofs.Begun.{more_goes, more_pushed, pushed_or_not}
use Rattle.lsm_image.proofs.device.ImageDevice.append.Goals as goal

pub invariant_of-self : goal.invariant_of-self
invariant_of-self g c =
    let s = c.args.self.now in
    let whole : IsSector c.args.bytes.now = record { size = search rules; fits = fits_all c.args.bytes.now c.fits-bytes } in
    record {
      is_image = s.is_image;
      go_together = pushed_or_not (λ (l : List Laid). GoTogether (image_of s.base.now s.laid.items) (now_of s.base.now s.laid.items l) (map made_of l) s.standing) (is_ok c.push.result)
          s.made.items (s.made.items ++ record { at = c.args.at; bytes = c.args.bytes.now; sync_followed = false } ∷ []) c.push.new.self.items c.push.ensures.items s.go_together
          (more_goes s.base.now s.laid.items s.made.items s.standing s.is_image s.go_together c.args.at c.args.bytes.now c.requires whole);
      keeps_fuse = s.keeps_fuse;
    }

pub returns-clause-appended : goal.returns-clause-appended
returns-clause-appended g c =
    let s = c.args.self.now in
    let new : Laid = record { at = c.args.at; bytes = c.args.bytes.now; sync_followed = false } in
    let is : c.push.new.self.items ≡ s.made.items ++ new ∷ [] = search rules in
    let whole : IsSector c.args.bytes.now = record { size = search rules; fits = fits_all c.args.bytes.now c.fits-bytes } in
    ap (λ (l : List Laid). history_of (image_of s.base.now s.laid.items) (map made_of l)) is
    ∙ more_pushed s.base.now s.laid.items s.made.items s.standing s.is_image s.go_together c.args.at c.args.bytes.now c.requires whole
