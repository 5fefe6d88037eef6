use Rattle.std.proofs.Common.{None, Some, map}
use Rattle.std.proofs.lemmas.Result.{err_from_is_err_and}
use Rattle.lsm_levels.specs.Asking.{Source}
use Rattle.lsm_levels.specs.Cursors.{present}
use Rattle.lsm_levels.proofs.ScanLaws.{advances_asking, advances_fewer, advances_ready, advances_refused, all_spent, one_goes_on, place_within, step_ends, step_goes, step_going, step_stops}
use Rattle.lsm_levels.proofs.PageLaws.{ends_spent, ends_taken, no_memory, turn_goes_on, turn_refused}
use Rattle.lsm_levels.proofs.scan.step.Goals as goal

pub returns-in_default-clause-asks : goal.returns-in_default-clause-asks
returns-in_default-clause-asks g c = λ refusal new more. more

pub returns-in_default-clause-comes : goal.returns-in_default-clause-comes
returns-in_default-clause-comes g c = λ place sectors page h.
    let old : Source = record { cache = c.args.cache.now; medium = g.D.Device.medium c.args.device.now } in
    all_spent place sectors page c.args.builder.now c.args.sources.now old h c.requires.going (c.in_default.ensures.next (map present c.args.sources.now) c.requires.queued)

pub returns-then-not-goes_on-clause-asks : goal.returns-then-not-goes_on-clause-asks
returns-then-not-goes_on-clause-asks g c = λ refusal new more. more

pub returns-then-not-goes_on-clause-comes : goal.returns-then-not-goes_on-clause-comes
returns-then-not-goes_on-clause-comes g c = λ place sectors page h.
    let old : Source = record { cache = c.args.cache.now; medium = g.D.Device.medium c.args.device.now } in
    let cursors = c.args.sources.now in
    step_ends c.args.builder.now c.take_at.new.builder cursors c.in-Some.place (c.in-Some.ensures.next (map present cursors) c.requires.queued) c.in_ok-goes_on.goes_on c.in_ok-goes_on.ensures place sectors page old h c.if-not-goes_on.true

pub returns-in_err-advance_at-clause-asks : goal.returns-in_err-advance_at-clause-asks
returns-in_err-advance_at-clause-asks g c =
    let old : Source = record { cache = c.args.cache.now; medium = g.D.Device.medium c.args.device.now } in
    let new : Source = record { cache = c.advance_at.new.cache; medium = g.D.Device.medium c.advance_at.new.device } in
    let p = err_from_is_err_and c.from_residual-in_err-advance_at.result c.from_residual-in_err-advance_at.ensures.1 in
    rw (p.1, p.2) (advances_asking c.in-Some.place c.args.sources.now c.advance_at.new.sources (Some c.in_err-advance_at.field-0.0) old new c.requires.ready.fair c.in_err-advance_at.ensures.advances)

pub returns-in_err-advance_at-clause-comes : goal.returns-in_err-advance_at-clause-comes
returns-in_err-advance_at-clause-comes g c = λ place sectors page h.
    let old : Source = record { cache = c.args.cache.now; medium = g.D.Device.medium c.args.device.now } in
    let new : Source = record { cache = c.advance_at.new.cache; medium = g.D.Device.medium c.advance_at.new.device } in
    let cursors = c.args.sources.now in
    let p = err_from_is_err_and c.from_residual-in_err-advance_at.result c.from_residual-in_err-advance_at.ensures.1 in
    rw (p.1, p.2) (step_stops c.args.builder.now c.take_at.new.builder cursors c.in-Some.place (c.in-Some.ensures.next (map present cursors) c.requires.queued) c.in_ok-goes_on.goes_on c.in_ok-goes_on.ensures place sectors page old h
    c.advance_at.new.sources c.in_err-advance_at.field-0.0 new c.if-not-goes_on.false c.in_err-advance_at.ensures.advances)

pub returns-in_err-advance_at-clause-refused : goal.returns-in_err-advance_at-clause-refused
returns-in_err-advance_at-clause-refused g c =
    let old : Source = record { cache = c.args.cache.now; medium = g.D.Device.medium c.args.device.now } in
    let new : Source = record { cache = c.advance_at.new.cache; medium = g.D.Device.medium c.advance_at.new.device } in
    let p = err_from_is_err_and c.from_residual-in_err-advance_at.result c.from_residual-in_err-advance_at.ensures.1 in
    rw (p.1, p.2) (advances_refused c.in-Some.place c.args.sources.now c.advance_at.new.sources c.in_err-advance_at.field-0.0 old new c.requires.ready.fair c.in_err-advance_at.ensures.advances)

pub returns-clause-asks : goal.returns-clause-asks
returns-clause-asks g c =
    let old : Source = record { cache = c.args.cache.now; medium = g.D.Device.medium c.args.device.now } in
    let new : Source = record { cache = c.advance_at.new.cache; medium = g.D.Device.medium c.advance_at.new.device } in
    advances_asking c.in-Some.place c.args.sources.now c.advance_at.new.sources None old new c.requires.ready.fair c.in_ok-advance_at.ensures.advances

pub returns-clause-comes : goal.returns-clause-comes
returns-clause-comes g c = λ place sectors page h.
    let old : Source = record { cache = c.args.cache.now; medium = g.D.Device.medium c.args.device.now } in
    let new : Source = record { cache = c.advance_at.new.cache; medium = g.D.Device.medium c.advance_at.new.device } in
    let cursors = c.args.sources.now in
    step_goes c.args.builder.now c.take_at.new.builder cursors c.in-Some.place (c.in-Some.ensures.next (map present cursors) c.requires.queued) c.in_ok-goes_on.goes_on c.in_ok-goes_on.ensures place sectors page old h
    c.advance_at.new.sources new c.if-not-goes_on.false c.in_ok-advance_at.ensures.advances

pub returns-clause-keeps : goal.returns-clause-keeps
returns-clause-keeps g c = λ on.
    let old : Source = record { cache = c.args.cache.now; medium = g.D.Device.medium c.args.device.now } in
    let new : Source = record { cache = c.advance_at.new.cache; medium = g.D.Device.medium c.advance_at.new.device } in
    let cursors = c.args.sources.now in
    let next = c.in-Some.ensures.next (map present cursors) c.requires.queued in
    record {
      queued = c.settle.ensures (map present cursors) c.in-Some.place c.in-Some.ensures.last c.requires.queued (one_goes_on c.in-Some.place cursors c.advance_at.new.sources None old new c.in_ok-advance_at.ensures.advances);
      going = step_going c.args.builder.now c.take_at.new.builder cursors c.in-Some.place next c.in_ok-goes_on.goes_on c.in_ok-goes_on.ensures c.if-not-goes_on.false;
      ready = advances_ready _ c.in-Some.place cursors c.advance_at.new.sources old new c.requires.ready.fair c.in_ok-advance_at.ensures.advances c.in_ok-advance_at.ensures.within;
    }

pub returns-clause-fewer : goal.returns-clause-fewer
returns-clause-fewer g c = λ on.
    let old : Source = record { cache = c.args.cache.now; medium = g.D.Device.medium c.args.device.now } in
    let new : Source = record { cache = c.advance_at.new.cache; medium = g.D.Device.medium c.advance_at.new.device } in
    let cursors = c.args.sources.now in
    advances_fewer c.in-Some.place cursors c.advance_at.new.sources old new c.in_ok-advance_at.ensures.advances (c.in-Some.ensures.next (map present cursors) c.requires.queued).1

pub advance_at-requires-clause-inside : goal.advance_at-requires-clause-inside
advance_at-requires-clause-inside g c = place_within c.args.sources.now c.in-Some.place (c.in-Some.ensures.next (map present c.args.sources.now) c.requires.queued).1

pub returns-in_default-clause-gathers : goal.returns-in_default-clause-gathers
returns-in_default-clause-gathers g c =
    let old : Source = record { cache = c.args.cache.now; medium = g.D.Device.medium c.args.device.now } in
    let cursors = c.args.sources.now in
    ends_spent c.args.builder.now cursors old c.requires.going (c.in_default.ensures.next (map present cursors) c.requires.queued)

pub returns-in_err-goes_on-clause-gathers : goal.returns-in_err-goes_on-clause-gathers
returns-in_err-goes_on-clause-gathers g c =
    let old : Source = record { cache = c.args.cache.now; medium = g.D.Device.medium c.args.device.now } in
    let p = err_from_is_err_and c.from_residual.result c.from_residual.ensures.1 in
    rw (p.1, p.2) (no_memory c.args.builder.now c.args.sources.now old)

pub returns-then-not-goes_on-clause-gathers : goal.returns-then-not-goes_on-clause-gathers
returns-then-not-goes_on-clause-gathers g c =
    let old : Source = record { cache = c.args.cache.now; medium = g.D.Device.medium c.args.device.now } in
    let cursors = c.args.sources.now in
    ends_taken c.args.builder.now c.take_at.new.builder cursors c.in-Some.place (c.in-Some.ensures.next (map present cursors) c.requires.queued) c.in_ok-goes_on.goes_on c.in_ok-goes_on.ensures old c.if-not-goes_on.true

pub returns-in_err-advance_at-clause-gathers : goal.returns-in_err-advance_at-clause-gathers
returns-in_err-advance_at-clause-gathers g c =
    let old : Source = record { cache = c.args.cache.now; medium = g.D.Device.medium c.args.device.now } in
    let new : Source = record { cache = c.advance_at.new.cache; medium = g.D.Device.medium c.advance_at.new.device } in
    let cursors = c.args.sources.now in
    let p = err_from_is_err_and c.from_residual-in_err-advance_at.result c.from_residual-in_err-advance_at.ensures.1 in
    rw (p.1, p.2) (turn_refused c.args.builder.now c.take_at.new.builder cursors c.in-Some.place (c.in-Some.ensures.next (map present cursors) c.requires.queued) c.in_ok-goes_on.goes_on c.in_ok-goes_on.ensures
    c.advance_at.new.sources c.in_err-advance_at.field-0.0 old new c.if-not-goes_on.false c.in_err-advance_at.ensures.advances)

pub returns-clause-gathers : goal.returns-clause-gathers
returns-clause-gathers g c =
    let old : Source = record { cache = c.args.cache.now; medium = g.D.Device.medium c.args.device.now } in
    let new : Source = record { cache = c.advance_at.new.cache; medium = g.D.Device.medium c.advance_at.new.device } in
    let cursors = c.args.sources.now in
    turn_goes_on c.args.builder.now c.take_at.new.builder cursors c.in-Some.place (c.in-Some.ensures.next (map present cursors) c.requires.queued) c.in_ok-goes_on.goes_on c.in_ok-goes_on.ensures
    c.advance_at.new.sources old new c.if-not-goes_on.false c.in_ok-advance_at.ensures.advances
