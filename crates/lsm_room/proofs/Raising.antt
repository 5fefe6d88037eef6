-- Sizes that are raised by tables, one after the other.
use Rattle.std.proofs.Common.{◌≡◌, ℕ, ◌+◌, ◌<◌, List, [], ◌∷◌, ◌++◌, length, drop, slice_index_or, sym, ap, subst, ◌∙◌}
use Rattle.std.proofs.lemmas.List.{drop_more}
use Rattle.lsm_levels.specs.Tables.{Table}
use Rattle.lsm_levels.specs.Levels.{all_tables}
use Rattle.lsm_room.specs.Measuring.{AreRaised}
use Rattle.lsm_room.specs.declared.bounds.Sizes.{Sizes}

pub raised_append : (first second : List Table) (old between new : Sizes) → AreRaised old first between → AreRaised between second new → AreRaised old (first ++ second) new
raised_append [] second old between new are others = subst (λ (s : Sizes). AreRaised s second new) are others
raised_append (t ∷ first) second old between new (next, one, rest) others = (next, one, raised_append first second next between new rest others)

-- the tables of a run and of those after it
pub run_and_rest : (runs : List (List Table)) (i : ℕ) (run : List Table) → i < length runs → run ≡ slice_index_or runs i run → all_tables (drop i runs) ≡ run ++ all_tables (drop (i + 1) runs)
run_and_rest runs i run lt is = ap all_tables (drop_more runs i run lt) ∙ ap (λ (r : List Table). r ++ all_tables (drop (i + 1) runs)) (sym is)
