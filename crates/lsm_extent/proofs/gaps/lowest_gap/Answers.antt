use Rattle.std.proofs.Common.{◌≤◌, arith}
use Rattle.lsm_extent.specs.Laid.{IsGap}
use Rattle.lsm_extent.proofs.Walking.{here, ends_within, at_next, gap_here, gap_last, free_in_gap, free_in_area, comes_after}
use Rattle.lsm_extent.proofs.gaps.lowest_gap.Goals as goal

pub returns-then-has_room : goal.returns-then-has_room
returns-then-has_room c =
    let gap : IsGap c.args.held.now c.args.area c.loop-place.place c.loop-place.from c.args.blocks =
    gap_here c.args.held.now c.args.area c.loop-place.place c.loop-place.from c.loop-place.from c.args.blocks _ c.loop-place.invariant.at c.loop-place-test.true (omega arith) c.if-has_room.ensures in
    (gap, record { fits = free_in_gap c.args.held.now c.args.area _ _ _ gap; lowest = c.loop-place.invariant.passed })

pub overflow_add-from : goal.overflow_add-from
overflow_add-from c = omega (arith, ends_within c.args.held.now c.args.area c.loop-place.place c.loop-place.from (record { first = 0; blocks = 0 }) c.loop-place.invariant.at c.loop-place-test.true)

pub loop-place-preserved : goal.loop-place-preserved
loop-place-preserved c =
    let known = here c.args.held.now c.args.area c.loop-place.place c.loop-place.from (record { first = 0; blocks = 0 }) c.loop-place.invariant.at c.loop-place-test.true in
    record {
      at = at_next c.args.held.now c.args.area c.loop-place.place c.loop-place.from _ c.loop-place.invariant.at c.loop-place-test.true;
      passed = λ first run.
          let past : c.loop-place.from ≤ first = c.loop-place.invariant.passed first run in
          comes_after c.args.held.now c.args.area c.loop-place.place first c.args.blocks (record { first = 0; blocks = 0 }) c.loop-place-test.true c.requires.nonempty known.1 (omega (arith, c.if-has_room.ensures)) run;
    }

pub returns-then-not-has_room : goal.returns-then-not-has_room
returns-then-not-has_room c = record {
  none = λ first run. omega (arith, c.loop-place.invariant.passed first run, free_in_area (record { blocks = c.args.area; held = c.args.held.now }) first c.args.blocks c.requires.nonempty run, c.if-not-has_room.ensures);
}

pub returns : goal.returns
returns c =
    let gap : IsGap c.args.held.now c.args.area _ c.loop-place.from c.args.blocks =
    gap_last c.args.held.now c.args.area c.loop-place.place c.loop-place.from c.loop-place.from c.args.blocks c.loop-place.invariant.at (omega arith) (omega arith) c.if-not-has_room.ensures in
    (gap, record { fits = free_in_gap c.args.held.now c.args.area _ _ _ gap; lowest = c.loop-place.invariant.passed })
