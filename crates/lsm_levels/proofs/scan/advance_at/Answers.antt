use Rattle.std.proofs.Common.{◌≡◌, ℕ, None, Some, sym, subst}
use Rattle.std.specs.List.{AllByRecursion}
use Rattle.std.proofs.lemmas.Result.{err_from_is_err_and}
use Rattle.lsm_levels.specs.Asking.{Source}
use Rattle.lsm_levels.specs.Cursors.{Cursor, EndsWithin}
use Rattle.lsm_levels.specs.Scans.{AreEndingWithin}
use Rattle.lsm_codec.proofs.Lists.{all_at}
use Rattle.lsm_levels.proofs.ScanAsking.{all_with}
use Rattle.lsm_levels.proofs.ScanLaws.{goes_on_at}
use Rattle.lsm_levels.proofs.scan.advance_at.Goals as goal

pub returns-in_err-advance-clause-advances : goal.returns-in_err-advance-clause-advances
returns-in_err-advance-clause-advances g c =
    let a : Source = record { cache = c.args.cache.now; medium = g.D.Device.medium c.args.device.now } in
    let b : Source = record { cache = c.advance.new.cache; medium = g.D.Device.medium c.advance.new.device } in
    let p = err_from_is_err_and c.from_residual.result c.from_residual.ensures.1 in
    rw (p.1, p.2) (goes_on_at c.args.place c.args.sources.now c.index-sources-place.result c.advance.new.self (Some c.in_err-advance.field-0.0) a b c.requires.inside c.in_err-advance.ensures.goes_on (λ none. absurd (let clash : Some c.in_err-advance.field-0.0 ≡ None = none in cc)))

pub returns-clause-advances : goal.returns-clause-advances
returns-clause-advances g c =
    let a : Source = record { cache = c.args.cache.now; medium = g.D.Device.medium c.args.device.now } in
    let b : Source = record { cache = c.advance.new.cache; medium = g.D.Device.medium c.advance.new.device } in
    goes_on_at c.args.place c.args.sources.now c.index-sources-place.result c.advance.new.self None a b c.requires.inside c.in_ok-advance.ensures.goes_on (λ none. c.in_ok-advance.ensures.few)

pub returns-in_err-advance-clause-within : goal.returns-in_err-advance-clause-within
returns-in_err-advance-clause-within g c =
    let size = (g.D.Device.medium c.advance.new.device).size in
    all_with (λ (d : Cursor). AllByRecursion (EndsWithin size) d.blocks) c.args.sources.now c.args.place c.advance.new.self c.in_err-advance.ensures.within
    (subst (λ (n : ℕ). AreEndingWithin n c.args.sources.now) (sym c.in_err-advance.ensures.asks.reads.same_size) c.requires.within)

pub returns-in_err-advance-clause-same_size : goal.returns-in_err-advance-clause-same_size
returns-in_err-advance-clause-same_size g c =
    c.in_err-advance.ensures.asks.reads.same_size

pub returns-clause-within : goal.returns-clause-within
returns-clause-within g c =
    let size = (g.D.Device.medium c.advance.new.device).size in
    all_with (λ (d : Cursor). AllByRecursion (EndsWithin size) d.blocks) c.args.sources.now c.args.place c.advance.new.self c.in_ok-advance.ensures.within
    (subst (λ (n : ℕ). AreEndingWithin n c.args.sources.now) (sym c.in_ok-advance.ensures.asks.reads.same_size) c.requires.within)

pub returns-clause-same_size : goal.returns-clause-same_size
returns-clause-same_size g c =
    c.in_ok-advance.ensures.asks.reads.same_size

pub advance-requires : goal.advance-requires
advance-requires g c =
    all_at (λ (d : Cursor). AllByRecursion (EndsWithin (g.D.Device.medium c.args.device.now).size) d.blocks) c.args.sources.now c.args.place c.index-sources-place.result c.requires.within c.requires.inside
