use Rattle.std.proofs.Common.{◌≡◌, ◌+◌, ◌++◌, ◌∷◌, List, length, sym, ap, ◌∙◌, arith, drop}
use Rattle.std.proofs.lemmas.List.{take-append-drop}
use Rattle.lsm_levels.specs.Tables.{Table}
use Rattle.lsm_levels.specs.Levels.{all_tables}
use Rattle.lsm_levels.specs.Moving.{table_count}
use Rattle.lsm_policy.specs.Room.{blocks_of, taken_blocks}
use Rattle.lsm_room.proofs.Growths.{in_parts, with_first}
use Rattle.lsm_room.proofs.standing.Standing.growth.Goals as goal

pub returns-in-Some : goal.returns-in-Some
returns-in-Some g c =
    let levels = c.args.self.now.levels.now in
    let runs : List (List Table) = c.runs.result.now in
    let front : List (List Table) = c.split_at.result.0.now in
    let level : List Table = c.in-Some.level.now in
    let rest : List (List Table) = c.in-Some.deepest.now in
    let split = c.split_at.ensures in
    let parts : front ++ level ∷ rest ≡ levels.deeper =
    ap (λ (rs : List (List Table)). front ++ rs) (sym c.in-Some.ensures.cases.0 ∙ split.back) ∙ ap (λ (rs : List (List Table)). rs ++ drop c.min-last.result c.deeper-deeper.result.now) split.front
    ∙ take-append-drop c.min-last.result c.deeper-deeper.result.now ∙ c.deeper-deeper.ensures.same in
    let all = in_parts levels runs front (level ∷ rest) c.runs.ensures.same parts in
    let last = with_first level rest in
    let blocks : taken_blocks levels ≡ blocks_of (all_tables runs) + (blocks_of (all_tables front) + (blocks_of level + blocks_of (all_tables rest))) = all.blocks_are ∙ ap (λ n. blocks_of (all_tables runs) + (blocks_of (all_tables front) + n)) last.blocks_are in
    let number : table_count levels ≡ length (all_tables runs) + (length (all_tables front) + (length level + length (all_tables rest))) = all.number ∙ ap (λ n. length (all_tables runs) + (length (all_tables front) + n)) last.number in
    omega (
      arith,
      blocks,
      number,
      c.none.ensures.entries,
      c.none.ensures.space,
      c.with_runs-above.ensures.entries,
      c.with_runs-above.ensures.space,
      c.with_runs.ensures.entries,
      c.with_runs.ensures.space,
      c.with_runs-in-Some.ensures.entries,
      c.with_runs-in-Some.ensures.space,
      c.none-in-Some.ensures.entries,
      c.none-in-Some.ensures.space,
      c.with_all.ensures.entries,
      c.with_all.ensures.space,
      ap blocks_of c.tables.ensures.same,
      ap (λ (ts : List Table). length ts) c.tables.ensures.same,
      c.grown.ensures,
    )

pub returns-in-None : goal.returns-in-None
returns-in-None g c =
    let levels = c.args.self.now.levels.now in
    let runs : List (List Table) = c.runs.result.now in
    let front : List (List Table) = c.split_at.result.0.now in
    let split = c.split_at.ensures in
    let parts : front ++ c.split_at.result.1.now ≡ levels.deeper =
    ap (λ (rs : List (List Table)). front ++ rs) split.back ∙ ap (λ (rs : List (List Table)). rs ++ drop c.min-last.result c.deeper-deeper.result.now) split.front
    ∙ take-append-drop c.min-last.result c.deeper-deeper.result.now ∙ c.deeper-deeper.ensures.same in
    let all = in_parts levels runs front c.split_at.result.1.now c.runs.ensures.same parts in
    let blocks : taken_blocks levels ≡ blocks_of (all_tables runs) + (blocks_of (all_tables front) + blocks_of (all_tables c.split_at.result.1.now)) = all.blocks_are in
    let number : table_count levels ≡ length (all_tables runs) + (length (all_tables front) + length (all_tables c.split_at.result.1.now)) = all.number in
    omega (
      arith,
      blocks,
      number,
      c.none.ensures.entries,
      c.none.ensures.space,
      c.with_runs-above.ensures.entries,
      c.with_runs-above.ensures.space,
      c.with_runs-in-None.ensures.entries,
      c.with_runs-in-None.ensures.space,
      c.none-in-None.ensures.entries,
      c.none-in-None.ensures.space,
      c.grown-in-None.ensures,
    )
