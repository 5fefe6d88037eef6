-- What a merge that has its tables may be given to replace.
use Rattle.std.proofs.Common.{◌≡◌, ℕ, suc, Bool, true, List, [], ◌∷◌, length, Option, Some, None, IfSome, is_some, refl, sym, ap, ◌∙◌, subst, arith}
use Rattle.lsm_levels.specs.Tables.{Table, KeyRange, at_most, put_at, IsRun}
use Rattle.lsm_levels.specs.Levels.{Levels, level, with_level, lowered, merged_at, merged, reach}
use Rattle.lsm_levels.specs.Pick.{Merge}
use Rattle.lsm_levels.specs.Held.{AreRuns, HasItsTables, AreOutputs}
use Rattle.lsm_levels.proofs.Ranges.{no}
use Rattle.lsm_levels.proofs.Runs.{run_at, run_reached, upper_order}

-- what it reaches is a range
pub upper_hull : (levels : Levels) (bottom : Bool) (i : ℕ) (upper lower : List Table) → AreRuns levels → HasItsTables levels bottom i upper lower
    → IfSome (reach upper lower) (λ range. at_most range.first range.last ≡ true)
upper_hull levels bottom i upper lower runs h =
    subst (λ (o : Option KeyRange). IfSome o (λ range. at_most range.first range.last ≡ true)) (sym h.hull_is) (upper_order levels bottom i upper lower runs h)

-- that is shown
pub hull_in_order : (o : Option KeyRange) (range : KeyRange) → Some range ≡ o → IfSome o (λ range. at_most range.first range.last ≡ true) → at_most range.first range.last ≡ true
hull_in_order o range is order = subst (λ (o : Option KeyRange). IfSome o (λ range. at_most range.first range.last ≡ true)) (sym is) order

-- and there is one
pub reach_some : (o : Option KeyRange) (range : KeyRange) → o ≡ Some range → is_some o ≡ true
reach_some o range e = ap is_some e

pub no_reach : (o : Option KeyRange) → None ≡ o → is_some o ≡ true → ⊥
no_reach o e some = no (sym some ∙ sym (ap is_some e))

-- and with the outputs in their place the next level is a run
pub outputs_fit : (levels : Levels) (bottom : Bool) (i : ℕ) (upper lower new : List Table) → AreRuns levels → HasItsTables levels bottom i upper lower → AreOutputs (Merge i upper lower) new
    → IfSome (reach upper lower) (λ range. IsRun (put_at range new (level levels (suc i))))
outputs_fit levels bottom i upper lower new runs h made =
    subst (λ (o : Option KeyRange). IfSome o (λ range. IsRun (put_at range new (level levels (suc i))))) (sym h.hull_is)
    (run_reached h.range (upper_order levels bottom i upper lower runs h) (level levels (suc i)) (run_at levels runs i) upper lower new h.hull_is h.meet h.lowers made.0 made.1)

-- ---- what its parts come to

-- with no upper table a level changes alone
pub as_rewrite : (i : ℕ) (upper lower new : List Table) (levels : Levels) (range : KeyRange) → Some range ≡ reach upper lower → length upper ≡ 0 → with_level (suc i) range new levels ≡ merged i upper lower new levels
as_rewrite i [] lower new levels range is none = ap (λ (o : Option KeyRange). merged_at i o 0 new levels) is
as_rewrite i (t ∷ rest) lower new levels range is none = absurd (omega (arith, none))

-- else the upper tables go
pub as_lowered : (i : ℕ) (upper lower new : List Table) (levels : Levels) (range : KeyRange) → Some range ≡ reach upper lower → (length upper ≡ 0 → ⊥) → lowered i range (length upper) new levels ≡ merged i upper lower new levels
as_lowered i [] lower new levels range is some = absurd (some refl)
as_lowered i (t ∷ rest) lower new levels range is some = ap (λ (o : Option KeyRange). merged_at i o (length (t ∷ rest)) new levels) is
