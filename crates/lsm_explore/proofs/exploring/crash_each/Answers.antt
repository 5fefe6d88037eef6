use Rattle.std.proofs.Common.{Bool, List, [], ◌∷◌, map, ap, sym, subst, ◌∙◌, arith, rules}
use Rattle.std.proofs.lemmas.List.{take_all}
use Rattle.lsm_device.specs.Disk.{image}
use Rattle.lsm_device.specs.Medium.{disk}
use Rattle.lsm_image.specs.Media.{medium_in}
use Rattle.lsm_explore.specs.Expected.{MayBeLeft}
use Rattle.lsm_explore.specs.Exploring.{AddsCrashes, Sectors}
use Rattle.lsm_explore.proofs.Explorations.{crashes_more, no_crashes}
use Rattle.lsm_explore.proofs.exploring.crash_each.Goals as goal

pub loop-mask-init : goal.loop-mask-init
loop-mask-init g c = record { within = omega arith; adds = no_crashes c.args.twice c.args.explored.now }

pub crash_one-requires : goal.crash_one-requires
crash_one-requires g c = let may = c.requires.may in (search rules, (search rules, (search rules, (search rules, (may.0, may.1, may.2, subst (MayBeLeft 1 may.0 may.1) (sym c.in_ok-left.ensures) (may.3 _))))))

pub loop-mask-preserved : goal.loop-mask-preserved
loop-mask-preserved g c =
    let is = c.in_ok-left.ensures ∙ ap (λ (keep : List Bool). image keep (disk (medium_in c.args.device.now))) c.deref.ensures.value in
    record {
      within = omega (arith, c.loop-mask-test.true);
      adds = crashes_more (λ mask. image mask.items (disk (medium_in c.args.device.now))) c.args.masks.now c.loop-mask.mask-index c.mask-item.result c.args.twice c.args.explored.now c.loop-mask.explored c.crash_one.new.explored
          c.loop-mask-test.true (sym c.mask-item.is) c.loop-mask.invariant.adds
          (subst (λ (sectors : Sectors). AddsCrashes (sectors ∷ []) c.args.twice c.loop-mask.explored c.crash_one.new.explored) is c.in_ok-crash_one.ensures.adds);
    }

pub returns-clause-adds : goal.returns-clause-adds
returns-clause-adds g c =
    subst (λ l. AddsCrashes (map (λ mask. image mask.items (disk (medium_in c.args.device.now))) l) c.args.twice c.args.explored.now c.loop-mask.explored)
    (take_all c.loop-mask.mask-index c.args.masks.now (omega arith)) c.loop-mask.invariant.adds
