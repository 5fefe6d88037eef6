use Rattle.std.proofs.Common.{Err, ◌∷◌, [], ◌++◌, List, ◌∙◌, ap, sym, subst, arith}
use Rattle.std.proofs.lemmas.Result.{err_from_is_err_and}
use Rattle.lsm_device.specs.declared.refusal.Refusal.{Refusal}
use Rattle.lsm_device.specs.declared.refusal.Refusal.TheVariants.{NoSpace}
use Rattle.lsm_levels.specs.Tables.{Table}
use Rattle.lsm_jobs.specs.Placing.{AreHandedOut, all_given_back}
use Rattle.lsm_jobs.proofs.Placed.{places_none, places_more, places_no_more, places_all, same_refusal}
use Rattle.lsm_jobs.proofs.placing.place_each.Goals as goal

pub loop-i-init : goal.loop-i-init
loop-i-init g c = places_none c.args.number c.args.extents.now c.args.images.now c.args.tables.now.items c.requires.none

pub loop-i-preserved : goal.loop-i-preserved
loop-i-preserved g c =
    places_more c.args.number c.args.extents.now c.loop-i.extents c.args.images.now c.loop-i.i c.loop-i.tables.items c.index-images-i.result c.loop-i-test.true c.index-images-i.is c.loop-i.invariant c.place.new.extents c.in_ok-table.table c.push_reserved.new.self.items
    (c.push_reserved.ensures.items ∙ ap (λ (ts : List Table). ts ++ c.in_ok-table.table ∷ []) c.reserve.ensures.items) c.in_ok-table.ensures.placed c.in_ok-table.ensures.taken c.in_ok-table.ensures.undone c.in_ok-table.ensures.held

pub returns-in_err-reserve-clause-held : goal.returns-in_err-reserve-clause-held
returns-in_err-reserve-clause-held g c = subst (λ (ts : List Table). AreHandedOut ts c.loop-i.extents) (sym c.reserve.ensures.items) c.loop-i.invariant.held

pub returns-in_err-reserve-clause-undone : goal.returns-in_err-reserve-clause-undone
returns-in_err-reserve-clause-undone g c = ap (λ (ts : List Table). all_given_back ts c.loop-i.extents) c.reserve.ensures.items ∙ c.loop-i.invariant.undone

pub returns-in_err-table-clause-held : goal.returns-in_err-table-clause-held
returns-in_err-table-clause-held g c =
    subst (AreHandedOut c.reserve.new.self.items) (sym c.in_err-table.ensures.unchanged) (subst (λ (ts : List Table). AreHandedOut ts c.loop-i.extents) (sym c.reserve.ensures.items) c.loop-i.invariant.held)

pub returns-in_err-table-clause-undone : goal.returns-in_err-table-clause-undone
returns-in_err-table-clause-undone g c =
    ap (all_given_back c.reserve.new.self.items) c.in_err-table.ensures.unchanged ∙ ap (λ (ts : List Table). all_given_back ts c.loop-i.extents) c.reserve.ensures.items ∙ c.loop-i.invariant.undone

pub returns-in_err-table-clause-no_space : goal.returns-in_err-table-clause-no_space
returns-in_err-table-clause-no_space g c =
    let p = err_from_is_err_and c.from_residual-in_err-table.result c.from_residual-in_err-table.ensures.1 in
    rw (p.1, p.2)
    (λ e. places_no_more c.args.number c.args.extents.now c.loop-i.extents c.args.images.now c.loop-i.i c.loop-i.tables.items c.index-images-i.result c.loop-i-test.true c.index-images-i.is c.loop-i.invariant (c.in_err-table.ensures.no_space (ap (λ (r : Refusal). Err r) (same_refusal c.in_err-table.field-0.0 NoSpace e))))

pub returns-clause-held : goal.returns-clause-held
returns-clause-held g c = c.loop-i.invariant.held

pub returns-clause-undone : goal.returns-clause-undone
returns-clause-undone g c = c.loop-i.invariant.undone

pub returns-clause-placed : goal.returns-clause-placed
returns-clause-placed g c = places_all c.args.number c.args.extents.now c.loop-i.extents c.args.images.now c.loop-i.i c.loop-i.tables.items (omega (arith, c.loop-i-test.false)) c.loop-i.invariant

pub returns-clause-taken : goal.returns-clause-taken
returns-clause-taken g c = c.loop-i.invariant.taken
