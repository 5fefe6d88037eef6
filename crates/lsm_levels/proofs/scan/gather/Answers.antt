use Rattle.std.proofs.Common.{Bool, Ok, Err, subst}
use Rattle.std.proofs.lemmas.Result.{err_from_is_err_and}
use Rattle.lsm_levels.specs.Asking.{Source}
use Rattle.lsm_levels.specs.Scans.{Goes}
use Rattle.lsm_levels.specs.Pages.{Gathers, GoesOrEnds}
use Rattle.lsm_levels.proofs.scan.gather.Goals as goal

pub versions-init : goal.versions-init
versions-init g c = record { can = c.requires; asks = λ refusal new more. more; gathers = λ answer new more. more; comes = λ place sectors page h. h }

pub versions-preserved : goal.versions-preserved
versions-preserved g c =
    let old : Source = record { cache = c.versions.cache; medium = g.D.Device.medium c.versions.device } in
    let new : Source = record { cache = c.step.new.cache; medium = g.D.Device.medium c.step.new.device } in
    record {
      can = c.in_ok-goes_on.ensures.keeps c.if-not-goes_on.false;
      asks = λ refusal end more. c.versions.invariant.asks refusal end (c.in_ok-goes_on.ensures.asks refusal end more);
      gathers = λ answer end more.
          c.versions.invariant.gathers answer end (subst (λ (b : Bool). GoesOrEnds (Gathers c.versions.builder c.versions.sources) (Gathers c.step.new.builder c.step.new.sources) c.step.new.builder b old new) c.if-not-goes_on.false c.in_ok-goes_on.ensures.gathers answer end more);
      comes = λ place sectors page h.
          subst (λ (b : Bool). Goes place sectors page c.step.new.builder c.step.new.sources new b) c.if-not-goes_on.false (c.in_ok-goes_on.ensures.comes place sectors page (c.versions.invariant.comes place sectors page h));
    }

pub returns-in_err-goes_on-clause-comes : goal.returns-in_err-goes_on-clause-comes
returns-in_err-goes_on-clause-comes g c = λ place sectors page h.
    let p = err_from_is_err_and c.from_residual.result c.from_residual.ensures.1 in
    rw (p.1, p.2) (c.in_err-goes_on.ensures.comes place sectors page (c.versions.invariant.comes place sectors page h))

pub returns-then-not-goes_on-clause-comes : goal.returns-then-not-goes_on-clause-comes
returns-then-not-goes_on-clause-comes g c = λ place sectors page h.
    let new : Source = record { cache = c.step.new.cache; medium = g.D.Device.medium c.step.new.device } in
    subst (λ (b : Bool). Goes place sectors page c.step.new.builder c.step.new.sources new b) c.if-not-goes_on.true (c.in_ok-goes_on.ensures.comes place sectors page (c.versions.invariant.comes place sectors page h))

pub returns-in_err-goes_on-clause-refused : goal.returns-in_err-goes_on-clause-refused
returns-in_err-goes_on-clause-refused g c =
    let p = err_from_is_err_and c.from_residual.result c.from_residual.ensures.1 in
    rw (p.1, p.2) c.in_err-goes_on.ensures.refused

pub returns-in_err-goes_on-clause-gathers : goal.returns-in_err-goes_on-clause-gathers
returns-in_err-goes_on-clause-gathers g c =
    let new : Source = record { cache = c.step.new.cache; medium = g.D.Device.medium c.step.new.device } in
    let p = err_from_is_err_and c.from_residual.result c.from_residual.ensures.1 in
    rw (p.1, p.2) (c.versions.invariant.gathers (Err c.in_err-goes_on.field-0.0) new c.in_err-goes_on.ensures.gathers)

pub returns-then-not-goes_on-clause-gathers : goal.returns-then-not-goes_on-clause-gathers
returns-then-not-goes_on-clause-gathers g c = λ page is.
    let old : Source = record { cache = c.versions.cache; medium = g.D.Device.medium c.versions.device } in
    let new : Source = record { cache = c.step.new.cache; medium = g.D.Device.medium c.step.new.device } in
    c.versions.invariant.gathers (Ok page) new (subst (λ (b : Bool). GoesOrEnds (Gathers c.versions.builder c.versions.sources) (Gathers c.step.new.builder c.step.new.sources) c.step.new.builder b old new) c.if-not-goes_on.true c.in_ok-goes_on.ensures.gathers page is)
