use Rattle.std.proofs.Common.{Bool, [], ◌∷◌, sym, subst, rules}
use Rattle.lsm_explore.specs.Exploring.{AddsCrashes}
use Rattle.lsm_explore.proofs.Explorations.{crash_judged, crash_reopened}
use Rattle.lsm_explore.proofs.MayLeave.{fewer_follow}
use Rattle.lsm_explore.proofs.exploring.crash_one.Goals as goal

pub reopen_each-requires : goal.reopen_each-requires
reopen_each-requires g c = (search rules, (search rules, (search rules, (search rules, c.requires.may))))

pub judge-requires : goal.judge-requires
judge-requires g c = let may = c.requires.may in (may.0, may.1, may.2, fewer_follow 1 may.0 may.1 c.args.left.now may.3)

pub returns-then-twice-clause-adds : goal.returns-then-twice-clause-adds
returns-then-twice-clause-adds g c =
    let counted = c.in_ok-count_first.ensures in
    subst (λ (b : Bool). AddsCrashes (c.args.left.now ∷ []) b c.args.explored.now c.reopen_each.new.explored) (sym c.if-twice.true)
    (crash_reopened c.args.left.now c.args.explored.now c.count_first.new.explored c.reopen_each.new.explored
    (record { first = counted.first; second = counted.same.0; skipped = counted.same.1; wrong = counted.same.2 }) c.in_ok-reopen_each.ensures.adds)

pub returns-clause-adds : goal.returns-clause-adds
returns-clause-adds g c =
    let counted = c.in_ok-count_first.ensures in
    subst (λ (b : Bool). AddsCrashes (c.args.left.now ∷ []) b c.args.explored.now c.judge.new.explored) (sym c.if-twice.false)
    (crash_judged c.args.left.now c.args.explored.now c.count_first.new.explored c.judge.new.explored
    (record { first = counted.first; second = counted.same.0; skipped = counted.same.1; wrong = counted.same.2 }) c.in_ok-judge.ensures.same)
