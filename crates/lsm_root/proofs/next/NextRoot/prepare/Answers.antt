use Rattle.std.proofs.Common.{◌≤◌, ◌^◌, arith, sym, refl}
use Rattle.lsm_root.proofs.Preparing.{plans, prepares}
use Rattle.lsm_root.proofs.next.NextRoot.prepare.Goals as goal

pub encode-requires-clause-logs : goal.encode-requires-clause-logs
encode-requires-clause-logs g c =
    let fits = c.requires.valid (omega (arith, c.generation-generation.ensures, c.if-generation-gt-LAST_NUMBER.false)) in
    omega (arith, fits.fits.numbers.logs)

pub encode-requires-clause-tables : goal.encode-requires-clause-tables
encode-requires-clause-tables g c =
    let fits = c.requires.valid (omega (arith, c.generation-generation.ensures, c.if-generation-gt-LAST_NUMBER.false)) in
    omega (arith, fits.fits.numbers.tables)

pub sectors-requires-clause-logs : goal.sectors-requires-clause-logs
sectors-requires-clause-logs g c =
    let fits = c.requires.valid (omega (arith, c.generation-generation.ensures, c.if-generation-gt-LAST_NUMBER.false)) in
    omega (arith, fits.fits.numbers.logs)

pub sectors-requires-clause-tables : goal.sectors-requires-clause-tables
sectors-requires-clause-tables g c =
    let fits = c.requires.valid (omega (arith, c.generation-generation.ensures, c.if-generation-gt-LAST_NUMBER.false)) in
    omega (arith, fits.fits.numbers.tables)

pub invariant_of-result : goal.invariant_of-result
invariant_of-result g c =
    let fits = c.requires.valid (omega (arith, c.generation-generation.ensures, c.if-generation-gt-LAST_NUMBER.false)) in
    let low : c.args.manifest.now.generation ≤ 2 ^ 63 = omega (arith, c.generation-generation.ensures, c.if-generation-gt-LAST_NUMBER.false) in
    prepares _ c.args.manifest.now fits c.in_ok-text.ensures.spelled _ refl c.requires.geometry (c.requires.inside low) (sym c.generation-generation.ensures) c.sectors.ensures.fewest

pub returns-clause-prepared : goal.returns-clause-prepared
returns-clause-prepared g c =
    let fits = c.requires.valid (omega (arith, c.generation-generation.ensures, c.if-generation-gt-LAST_NUMBER.false)) in
    plans _ c.args.manifest.now fits c.in_ok-text.ensures.spelled c.args.sectors c.args.log_sectors

pub returns-then-generation-gt-LAST_NUMBER-clause-exhausted : goal.returns-then-generation-gt-LAST_NUMBER-clause-exhausted
returns-then-generation-gt-LAST_NUMBER-clause-exhausted g c = (λ e. omega (arith, c.generation-generation.ensures, c.if-generation-gt-LAST_NUMBER.true), λ lt. refl)
