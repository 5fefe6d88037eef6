use Rattle.std.proofs.Common.{arith}
use Rattle.lsm_extent.proofs.Searching.{firsts_rise, gap_at, none_in_front, none_behind}
use Rattle.lsm_extent.proofs.gaps.place_of.Goals as goal

pub begun_before-place-requires : goal.begun_before-place-requires
begun_before-place-requires c = firsts_rise 0 c.args.area c.args.held.now c.requires.laid

pub returns-then-wanted-end_before : goal.returns-then-wanted-end_before
returns-then-wanted-end_before c =
    none_in_front c.args.held.now c.args.area c.begun_before-place.result c.args.wanted.first c.args.wanted.blocks c.args.wanted c.requires.nonempty c.begun_before-place.ensures.bound
    (omega (arith, c.end_before.ensures, c.if-wanted-end_before.true)) c.begun_before-place.ensures.split

pub returns-then-not-has_room : goal.returns-then-not-has_room
returns-then-not-has_room c =
    none_behind c.args.held.now c.args.area 0 c.begun_before-place.result c.args.wanted.first c.args.wanted.blocks c.args.wanted c.requires.nonempty c.requires.laid
    (omega (arith, c.next_from.ensures, c.if-not-has_room.ensures)) c.begun_before-place.ensures.split

pub returns : goal.returns
returns c =
    gap_at c.args.held.now c.args.area c.begun_before-place.result c.args.wanted.first c.args.wanted.blocks c.requires.laid c.begun_before-place.ensures.bound
    (omega (arith, c.end_before.ensures, c.if-wanted-end_before.false)) (omega (arith, c.next_from.ensures, c.if-not-has_room.ensures))
