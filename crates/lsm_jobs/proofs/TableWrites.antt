-- The writes of blocks, table by table.
use Rattle.std.proofs.Common.{◌≡◌, ℕ, zero, suc, ◌+◌, ◌-◌, ◌*◌, ◌≤◌, min, List, [], ◌∷◌, ◌++◌, length, take, drop, refl, sym, ap, ◌∙◌, arith}
use Rattle.std.specs.List.{AllByRecursion, flat_map}
use Rattle.std.proofs.lemmas.List.{length-append, length-drop, length-take, take_min, drop_min, take-take, take_all, drop_all}
use Rattle.lsm_device.specs.Disk.{Write}
use Rattle.lsm_device.specs.Runs.{run_at}
use Rattle.lsm_device.proofs.Runs.{length-run_at, take-run, run_at-append}
use Rattle.lsm_table.specs.Division.{TableBlocks}
use Rattle.lsm_levels.specs.Tables.{Table}
use Rattle.lsm_jobs.specs.Outputs.{AreTablesOf, blocks_of, placed_blocks, in_sectors, block_writes, writes_of, next_blocks}
use Rattle.lsm_jobs.specs.Pieces.{sectors_of, sector_count, table_writes, sector_writes, written_of, PiecesLaw}
use Rattle.lsm_jobs.proofs.Accepted.{block_count, table_size}
use Rattle.lsm_jobs.proofs.BlockReads.{take_parts, drop_parts}
use Rattle.lsm_jobs.proofs.Sectors.{length-in_sectors, writes_append}

-- ---- the sectors of blocks

abbrev sectors_in : List (List ℕ) → List (List ℕ)
sectors_in blocks = flat_map (in_sectors 8) blocks

length-sectors_in : (blocks : List (List ℕ)) → length (sectors_in blocks) ≡ 8 * length blocks
length-sectors_in [] = refl
length-sectors_in (b ∷ blocks) = omega (arith, length-append (in_sectors 8 b) (sectors_in blocks), length-in_sectors 8 b, length-sectors_in blocks)

pub whole_tables : (images : List TableBlocks) (tables : List Table) → AreTablesOf images tables → AllByRecursion (λ (t : Table). sector_count t ≡ 8 * t.blocks) tables
whole_tables [] [] of = tt
whole_tables [] (t ∷ tables) of = absurd of
whole_tables (image ∷ images) [] of = absurd of
whole_tables (image ∷ images) (t ∷ tables) of = (
  length-sectors_in (blocks_of t) ∙ ap (λ (n : ℕ). 8 * n) (block_count image t of.0 ∙ sym (table_size image t of.0)),
  whole_tables images tables of.1,
)

-- ---- writes of blocks as a run of sectors

module _ (area : ℕ) where
  run_writes : (start : ℕ) (blocks : List (List ℕ)) → writes_of area (run_at start blocks) ≡ run_at (area + 8 * start) (sectors_in blocks)
  run_writes start [] = refl
  run_writes start (b ∷ blocks) =
      let next : area + 8 * (start + 1) ≡ (area + 8 * start) + length (in_sectors 8 b) = omega (arith, length-in_sectors 8 b) in
      ap (λ (ws : List Write). run_at (area + 8 * start) (in_sectors 8 b) ++ ws) (run_writes (start + 1) blocks ∙ ap (λ (at : ℕ). run_at at (sectors_in blocks)) next)
      ∙ sym (run_at-append (area + 8 * start) (in_sectors 8 b) (sectors_in blocks))

  -- all blocks of tables
  abbrev all_writes : List Table → List Write
  all_writes tables = writes_of area (placed_blocks tables)

  next_table : (t : Table) (rest : List Table) → all_writes (t ∷ rest) ≡ run_at (area + 8 * t.start) (sectors_of t) ++ all_writes rest
  next_table t rest = writes_append area (run_at t.start (blocks_of t)) (placed_blocks rest) ∙ ap (λ (ws : List Write). ws ++ all_writes rest) (run_writes t.start (blocks_of t))

  length-block : (w : Write) → length (block_writes area w) ≡ 8
  length-block w = length-run_at (area + 8 * w.at) (in_sectors 8 w.bytes) ∙ length-in_sectors 8 w.bytes

  pub length-writes_of : (blocks : List Write) → length (writes_of area blocks) ≡ 8 * length blocks
  length-writes_of [] = refl
  length-writes_of (w ∷ blocks) = omega (arith, length-append (block_writes area w) (writes_of area blocks), length-block w, length-writes_of blocks)

  take_writes : (n : ℕ) (blocks : List Write) → writes_of area (take n blocks) ≡ take (8 * n) (writes_of area blocks)
  take_writes zero blocks = refl
  take_writes (suc n) [] = sym (take_all (8 * suc n) [] (omega arith))
  take_writes (suc n) (w ∷ blocks) =
      let own = block_writes area w in
      let more = writes_of area blocks in
      let size = length-block w in
      let rest : 8 * suc n - length own ≡ 8 * n = omega (arith, size) in
      sym (
      take_parts (8 * suc n) own more
      ∙ ap (λ (ws : List Write). ws ++ take (8 * suc n - length own) more) (take_all (8 * suc n) own (omega (arith, size)))
      ∙ ap (λ (k : ℕ). own ++ take k more) rest
      ∙ ap (λ (ws : List Write). own ++ ws) (sym (take_writes n blocks))
      )

  drop_writes : (n : ℕ) (blocks : List Write) → writes_of area (drop n blocks) ≡ drop (8 * n) (writes_of area blocks)
  drop_writes zero blocks = refl
  drop_writes (suc n) [] = sym (drop_all (8 * suc n) [] (omega arith))
  drop_writes (suc n) (w ∷ blocks) =
      let own = block_writes area w in
      let more = writes_of area blocks in
      let size = length-block w in
      let rest : 8 * suc n - length own ≡ 8 * n = omega (arith, size) in
      sym (
      drop_parts (8 * suc n) own more
      ∙ ap (λ (ws : List Write). ws ++ drop (8 * suc n - length own) more) (drop_all (8 * suc n) own (omega (arith, size)))
      ∙ ap (λ (k : ℕ). drop k more) rest
      ∙ sym (drop_writes n blocks)
      )

-- ---- a part of the sectors of tables

drop_run : (k at : ℕ) (xs : List (List ℕ)) → k ≤ length xs → drop k (run_at at xs) ≡ run_at (at + k) (drop k xs)
drop_run zero at xs le = let same : at + 0 ≡ at = omega arith in sym (ap (λ (n : ℕ). run_at n xs) same)
drop_run (suc k) at [] le = absurd (omega (arith, le))
drop_run (suc k) at (x ∷ xs) le = let next : at + 1 + k ≡ at + suc k = omega arith in drop_run k (at + 1) xs (omega (arith, le)) ∙ ap (λ (n : ℕ). run_at n (drop k xs)) next

-- of a run those from one on, at most m
part_of_run : (m from at : ℕ) (xs : List (List ℕ)) → take m (drop from (run_at at xs)) ≡ run_at (at + min from (length xs)) (take (min (from + m) (length xs) - min from (length xs)) (drop (min from (length xs)) xs))
part_of_run m from at xs =
    let size = length xs in
    let first = min from size in
    let inside : first ≤ size = omega arith in
    let left = drop first xs in
    let same : min from (length (run_at at xs)) ≡ first = ap (min from) (length-run_at at xs) in
    let count : min m (length left) ≡ min (from + m) size - first = omega (arith, length-drop first xs) in
    ap (take m) (sym (drop_min from (run_at at xs)) ∙ ap (λ (k : ℕ). drop k (run_at at xs)) same ∙ drop_run first at xs inside)
    ∙ take-run m (at + first) left
    ∙ ap (run_at (at + first)) (sym (take_min m left) ∙ ap (λ (k : ℕ). take k left) count)

pub part_of_tables : (area m from : ℕ) (tables : List Table) → take m (drop from (all_writes area tables)) ≡ sector_writes area from (from + m) tables
part_of_tables area zero zero [] = refl
part_of_tables area (suc m) zero [] = refl
part_of_tables area zero (suc from) [] = refl
part_of_tables area (suc m) (suc from) [] = refl
part_of_tables area m from (t ∷ rest) =
    let own = run_at (area + 8 * t.start) (sectors_of t) in
    let more = all_writes area rest in
    let size : length own ≡ sector_count t = length-run_at (area + 8 * t.start) (sectors_of t) in
    let behind : from - length own ≡ from - sector_count t = omega (arith, size) in
    let room : m - length (drop from own) ≡ m - (sector_count t - from) = omega (arith, length-drop from own, size) in
    let end : (from - sector_count t) + (m - (sector_count t - from)) ≡ (from + m) - sector_count t = omega arith in
    ap (λ (ws : List Write). take m (drop from ws)) (next_table area t rest)
    ∙ ap (take m) (drop_parts from own more ∙ ap (λ (k : ℕ). drop from own ++ drop k more) behind)
    ∙ take_parts m (drop from own) (drop (from - sector_count t) more)
    ∙ ap (λ (ws : List Write). ws ++ take (m - length (drop from own)) (drop (from - sector_count t) more)) (part_of_run m from (area + 8 * t.start) (sectors_of t))
    ∙ ap (λ (ws : List Write). table_writes area (min from (sector_count t)) (min (from + m) (sector_count t)) t ++ ws)
    (ap (λ (k : ℕ). take k (drop (from - sector_count t) more)) room
    ∙ part_of_tables area (m - (sector_count t - from)) (from - sector_count t) rest
    ∙ ap (λ (to : ℕ). sector_writes area (from - sector_count t) to rest) end)

-- ---- the writes of a step

module _ (area left : ℕ) (tables : List Table) where
  step_writes : writes_of area (next_blocks tables left) ≡ take 64 (drop (written_of tables left) (all_writes area tables))
  step_writes =
      let from = length (placed_blocks tables) - left in
      take_writes area 8 (drop from (placed_blocks tables)) ∙ ap (take 64) (drop_writes area from (placed_blocks tables))

  step_count : length (writes_of area (next_blocks tables left)) ≡ 8 * min 8 (length (placed_blocks tables) - (length (placed_blocks tables) - left))
  step_count =
      let from = length (placed_blocks tables) - left in
      length-writes_of area (next_blocks tables left) ∙ ap (λ (n : ℕ). 8 * n) (length-take 8 (drop from (placed_blocks tables)) ∙ ap (min 8) (length-drop from (placed_blocks tables)))

  pub step_so_far : (k : ℕ) → k ≤ length (writes_of area (next_blocks tables left)) → take k (writes_of area (next_blocks tables left)) ≡ sector_writes area (written_of tables left) (written_of tables left + k) tables
  step_so_far k le =
      ap (take k) step_writes
      ∙ take-take k 64 (drop (written_of tables left) (all_writes area tables)) (omega (arith, le, step_count))
      ∙ part_of_tables area k (written_of tables left) tables

  pub step_all : left ≤ length (placed_blocks tables) → writes_of area (next_blocks tables left) ≡ sector_writes area (written_of tables left) (written_of tables (left - 8)) tables
  step_all le =
      let ws = writes_of area (next_blocks tables left) in
      let to : written_of tables left + length ws ≡ written_of tables (left - 8) = omega (arith, le, step_count) in
      sym (take_all (length ws) ws (omega arith)) ∙ step_so_far (length ws) (omega arith) ∙ ap (λ (n : ℕ). sector_writes area (written_of tables left) n tables) to

pub pieces_law : PiecesLaw
pieces_law = record {
  whole = whole_tables;
  so_far = λ area left k tables le. step_so_far area left tables k le;
  all = λ area left tables le. step_all area left tables le;
}
