use Rattle.std.proofs.Common.{◌+◌, ℕ, List, Some, drop, map, length, ap, subst, ◌∙◌, if◌then◌else◌, arith, rules}
use Rattle.std.proofs.lemmas.List.{length-map}
use Rattle.lsm_device.specs.Disk.{image}
use Rattle.lsm_device.specs.Medium.{disk}
use Rattle.lsm_image.specs.Media.{begun, medium_in}
use Rattle.lsm_lives.specs.Calls.{asked_of, told_of}
use Rattle.lsm_explore.specs.Expected.{AreExpected, batches_in, least_in}
use Rattle.lsm_explore.specs.Exploring.{AddsCrashes, Sectors}
use Rattle.lsm_explore.specs.Masks.{is_skipped}
use Rattle.lsm_explore.proofs.Explorations.{left_by_masks, life_explored}
use Rattle.lsm_explore.proofs.MayLeave.{led_length, life_left}
use Rattle.lsm_explore.proofs.exploring.explore_one.Goals as goal

pub expected_behind-requires : goal.expected_behind-requires
expected_behind-requires g c =
    let asked = map asked_of c.args.steps.now in
    let told = map told_of c.in_ok-led.led.replies.items in
    omega (arith, led_length (begun c.args.start.now (Some c.args.fuse)) asked told (medium_in c.in_ok-led.led.device) c.in_ok-led.ensures.led, length-map c.args.steps.now asked_of, length-map c.in_ok-led.led.replies.items told_of, ap length c.deref.ensures.value)

pub crash_each-requires : goal.crash_each-requires
crash_each-requires g c =
    let asked = map asked_of c.args.steps.now in
    let told = map told_of c.in_ok-led.led.replies.items in
    let given = c.requires.formatted in (
      search rules,
      (
        search rules,
        (
          search rules,
          (
            search rules,
            (
              least_in asked (drop 1 told),
              batches_in asked (drop 1 told),
              subst (λ l. AreExpected (least_in asked (drop 1 (map told_of l))) (batches_in asked (drop 1 (map told_of l))) c.in_ok-expected.expected) c.deref.ensures.value c.in_ok-expected.ensures,
              λ mask. life_left given.0 c.args.start.now given.1 (Some c.args.fuse) asked told (medium_in c.in_ok-led.led.device) c.in_ok-led.ensures.led (omega (arith, c.requires.few, length-map c.args.steps.now asked_of)) mask,
            ),
          ),
        ),
      ),
    )

pub returns-clause-adds : goal.returns-clause-adds
returns-clause-adds g c =
    let asked = map asked_of c.args.steps.now in
    let told = map told_of c.in_ok-led.led.replies.items in
    let end = medium_in c.in_ok-led.led.device in
    let old = c.args.explored.now in
    let left = ap (map (λ mask. image mask.items (disk end))) c.deref-2.ensures.value ∙ left_by_masks (λ mask. mask.items) c.in_ok-masks.masks.items c.pending-waiting.result end c.in_ok-masks.ensures c.pending-waiting.ensures in
    life_explored c.args.start.now asked c.args.fuse c.args.twice end old c.count_skipped.new.explored c.crash_each.new.explored
    (record { told = told; led = c.in_ok-led.ensures.led; memory = c.in_ok-led.ensures.memory; passed = c.in_ok-led.ensures.passed }) c.in_ok-count_skipped.ensures.same
    (c.in_ok-count_skipped.ensures.skipped ∙ ap (λ (n : ℕ). old.skipped + (if is_skipped n then 1 else 0)) c.pending-waiting.ensures)
    (subst (λ (l : List Sectors). AddsCrashes l c.args.twice c.count_skipped.new.explored c.crash_each.new.explored) left c.in_ok-crash_each.ensures.adds)
