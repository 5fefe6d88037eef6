use Rattle.std.proofs.Common.{◌≡◌, [], arith}
use Rattle.std.proofs.lemmas.List.{nil_from_length}
use Rattle.std.specs.Vec.Iter.{into_iter_items}
use Rattle.lsm_table.proofs.Laying.{fills_more, none_off, all_off}
use Rattle.lsm_table.proofs.division.next_blocks.Goals as goal
use Rattle.lsm_table.proofs.division.next_blocks.Goals.{else-loop-place-test, then-loop-place-test+in_default}

pub loop-place-preserved : goal.loop-place-preserved
loop-place-preserved g c =
    fills_more c.loop-place.filling c.add.new.self c.loop-place._place (into_iter_items c.loop-place.left) (into_iter_items c.next.new.self) (into_iter_items c.args.left.now) c.in-Some.entry
    c.loop-place.invariant c.in-Some.ensures.items c.in_ok-add.ensures.added c.in_ok-add.ensures.version c.in_ok-add.ensures.used c.in_ok-add.ensures.blocks

pub returns : goal.returns
returns g c =
    elim c.loop-place-test.branch [
      | else-loop-place-test w ↦
          let ended : c.loop-place._place ≡ c.args.len = omega (arith, w.loop-place-test.false, c.loop-place.auto._place-end) in
          rw w.left-is (all_off c.loop-place.filling c.loop-place._place c.args.len (into_iter_items c.loop-place.left) (into_iter_items c.args.left.now) _ c.loop-place.invariant ended c.in_ok-finish.ensures)
      | then-loop-place-test+in_default w ↦
          let none : into_iter_items c.loop-place.left ≡ [] = nil_from_length (into_iter_items c.loop-place.left) (omega (arith, c.loop-place.left.rest.ok.0, w.in_default.ensures.cases.0)) in
          absurd (none_off c.loop-place._place c.args.len (into_iter_items c.loop-place.left) (into_iter_items c.args.left.now) c.loop-place.invariant.rest w.loop-place-test.true c.requires.inside none)
    ]
