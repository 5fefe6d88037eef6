use Rattle.std.proofs.Common.{◌+◌, ℕ, Some, map, length, ap, ◌∙◌, if◌then◌else◌, arith}
use Rattle.std.proofs.lemmas.List.{length-map}
use Rattle.lsm_image.specs.Media.{medium_in}
use Rattle.lsm_lives.specs.Calls.{told_of}
use Rattle.lsm_explore.specs.Masks.{is_skipped, masks_for}
use Rattle.lsm_explore.proofs.Explorations.{opening_explored}
use Rattle.lsm_explore.proofs.MayLeave.{left_again}
use Rattle.lsm_explore.proofs.exploring.reopen_one.Goals as goal

pub judge_each-requires : goal.judge_each-requires
judge_each-requires g c =
    let may = c.requires.may in
    record {
      may = (
        may.0,
        may.1,
        may.2,
        λ mask. left_again 0 may.0 may.1 c.args.left.now may.3 (Some c.args.fuse) (map told_of c.in_ok-led.led.replies.items) (medium_in c.in_ok-led.led.device) c.in_ok-led.ensures.led mask,
      );
    }

pub returns-clause-adds : goal.returns-clause-adds
returns-clause-adds g c =
    let end = medium_in c.in_ok-led.led.device in
    let old = c.args.explored.now in
    opening_explored c.args.left.now c.args.fuse end old c.count_skipped.new.explored c.judge_each.new.explored
    (record { told = map told_of c.in_ok-led.led.replies.items; led = c.in_ok-led.ensures.led; memory = c.in_ok-led.ensures.memory; passed = c.in_ok-led.ensures.passed }) c.in_ok-count_skipped.ensures.same
    (c.in_ok-count_skipped.ensures.skipped ∙ ap (λ (n : ℕ). old.skipped + (if is_skipped n then 1 else 0)) c.pending-waiting.ensures)
    (omega (arith, c.in_ok-judge_each.ensures.second, ap length c.deref.ensures.value, length-map c.in_ok-masks.masks.items (λ mask. mask.items), ap length c.in_ok-masks.ensures, ap (λ (n : ℕ). length (masks_for n)) c.pending-waiting.ensures))
    c.in_ok-judge_each.ensures.same
