-- The block of a run that is asked for, and what it says.
use Rattle.std.proofs.Common.{◌≡◌, ℕ, ◌+◌, ◌*◌, ◌<◌, ◌≤◌, Bool, true, false, cond, ◌||◌, eqb, List, [], ◌∷◌, length, Some, None, refl, sym, ap, ◌∙◌, subst, arith}
use Rattle.std.specs.Prelude.{option_map, option_and_then}
use Rattle.std.specs.List.{AllByRecursion}
use Rattle.std.specs.Ordering.{is_gt}
use Rattle.std.proofs.lemmas.Option.{same_Some}
use Rattle.lsm_codec.specs.Keys.{Bytes, byte_order}
use Rattle.lsm_codec.specs.Indexes.{Edge}
use Rattle.lsm_filter.specs.Probes.{fnv_hash}
use Rattle.lsm_filter.specs.Bits.{has_bits, is_perhaps}
use Rattle.lsm_table.specs.Outlines.{Outline}
use Rattle.lsm_table.specs.Places.{stands_before, place_from, place_of}
use Rattle.lsm_levels.specs.Tables.{Table}
use Rattle.lsm_levels.specs.Asking.{covers, covering, placed_block, asked_of_table, asked_of_run}
use Rattle.lsm_levels.specs.Stored.{LiesWithin}
use Rattle.lsm_levels.specs.declared.placed.PlacedBlock.{PlacedBlock}

place_low : (n : ℕ) (key : Bytes) (at : ℕ) (edges : List Edge) (k : ℕ) → place_from n key at edges ≡ Some k → k < n + length edges
unfolding place_from
place_low n key at [] k e = absurd cc
place_low n key at (x ∷ edges) k e = elim (stands_before key at x) as (λ b. cond b (place_from (n + 1) key at edges) (Some n) ≡ Some k → k < n + length (x ∷ edges)) [
  | true ↦ λ e. let h = place_low (n + 1) key at edges k e in omega (arith, h)
  | false ↦ λ e. let h : n ≡ k = same_Some n k e in omega (arith, h)
] e

-- a place is that of a data block
pub place_within : (first : Bytes) (edges : List Edge) (key : Bytes) (at : ℕ) (k : ℕ) → place_of first edges key at ≡ Some k → k < length edges
place_within first edges key at k e = elim (eqb at 0 || is_gt (byte_order first key)) as (λ b. cond b None (place_from 0 key at edges) ≡ Some k → k < length edges) [
  | true ↦ λ e. absurd cc
  | false ↦ λ e. let h = place_low 0 key at edges k e in omega (arith, h)
] e

module _ (area : ℕ) (key : Bytes) (n : ℕ) (Q : Table → Type 0) (P : PlacedBlock → Type 0) (holds : (t : Table) (i : ℕ) → Q t → i < length t.outline.edges → P (placed_block area t i)) where
  of_table : (t : Table) (b : PlacedBlock) → Q t → asked_of_table area key n t ≡ Some b → P b
  of_table t b q e = elim (is_perhaps t.outline.filter key) as (λ y. cond y (option_map (placed_block area t) (place_of t.outline.first t.outline.edges key n)) None ≡ Some b → P b) [
    | false ↦ λ e. absurd cc
    | true ↦ λ e. elim (place_of t.outline.first t.outline.edges key n) as (λ o. place_of t.outline.first t.outline.edges key n ≡ o → option_map (placed_block area t) o ≡ Some b → P b) [
      | None ↦ λ c e. absurd cc
      | Some i ↦ λ c e. subst P (same_Some _ _ e) (holds t i q (place_within t.outline.first t.outline.edges key n i c))
    ] refl e
  ] e

  -- what holds of the data blocks of a run's tables holds of the one that is asked for
  pub of_run : (run : List Table) (b : PlacedBlock) → AllByRecursion Q run → asked_of_run area key n run ≡ Some b → P b
  of_run [] b all e = absurd cc
  of_run (t ∷ rest) b all e = elim (covers key t) as (λ y. option_and_then (asked_of_table area key n) (cond y (Some t) (covering key rest)) ≡ Some b → P b) [
    | true ↦ λ e. of_table t b all.0 e
    | false ↦ λ e. of_run rest b all.1 e
  ] e

-- what holds of each table of a run holds of the one whose range has a key
pub of_covering : (Q : Table → Type 0) (key : Bytes) (run : List Table) (t : Table) → AllByRecursion Q run → covering key run ≡ Some t → Q t
of_covering Q key [] t all e = absurd cc
of_covering Q key (u ∷ rest) t all e = elim (covers key u) as (λ y. cond y (Some u) (covering key rest) ≡ Some t → Q t) [
  | true ↦ λ e. subst Q (same_Some u t e) all.0
  | false ↦ λ e. of_covering Q key rest t all.1 e
] e

-- a block of a table within the first `size` sectors
pub block_within : (size area : ℕ) (key : Bytes) (n : ℕ) (run : List Table) (b : PlacedBlock) → AllByRecursion (LiesWithin size area) run → asked_of_run area key n run ≡ Some b → b.sector + 8 ≤ size
block_within size area key n run b all e = of_run area key n (LiesWithin size area) (λ b. b.sector + 8 ≤ size) (λ t i w lt. omega (arith, w.ends, lt)) run b all e

-- what is within fewer sectors is within more
pub within_more : (size more area : ℕ) (run : List Table) → size ≤ more → AllByRecursion (LiesWithin size area) run → AllByRecursion (LiesWithin more area) run
within_more size more area [] le all = tt
within_more size more area (t ∷ rest) le all = (record { ends = omega (arith, all.0.ends, le) }, within_more size more area rest le all.1)

-- the block at a place in a table of this number, which begins there
abbrev block_of : ℕ → ℕ → ℕ → ℕ → PlacedBlock
block_of area place number start = record { name = record { table = number; block = place }; sector = area + 8 * (start + place) }

-- a filter that is asked of a key by its hash
pub asked_by_hash : (filter : List ℕ) (key : Bytes) (hash : ℕ) (answer : Bool) → hash ≡ fnv_hash key → answer ≡ has_bits filter hash → answer ≡ is_perhaps filter key
unfolding is_perhaps
asked_by_hash filter key hash answer hashed answered = answered ∙ ap (has_bits filter) hashed

module _ (area : ℕ) (key : Bytes) (n : ℕ) (t : Table) (told : Outline) (perhaps : Bool) (same : told ≡ t.outline) (tested : perhaps ≡ is_perhaps told.filter key) where
  -- no block, where the filter says that the table lacks the key
  pub filtered_out : perhaps ≡ false → None ≡ asked_of_table area key n t
  filtered_out lacks = ap (λ b. cond b (option_map (placed_block area t) (place_of t.outline.first t.outline.edges key n)) None) (sym lacks ∙ tested ∙ ap (λ (o : Outline). is_perhaps o.filter key) same)

  -- else the one at the place that the index tells
  pub let_through : (place number start : ℕ) → perhaps ≡ true → Some place ≡ place_of told.first told.edges key n → number ≡ t.number → start ≡ t.start
      → Some (record { name = record { table = number; block = place }; sector = area + 8 * (start + place) }) ≡ asked_of_table area key n t
  let_through place number start has found numbered starts =
      ap (λ (x : ℕ). Some (block_of area place x start)) numbered
      ∙ ap (λ (x : ℕ). Some (block_of area place t.number x)) starts
      ∙ ap (option_map (placed_block area t)) (found ∙ ap (λ (o : Outline). place_of o.first o.edges key n) same)
      ∙ ap (λ b. cond b (option_map (placed_block area t) (place_of t.outline.first t.outline.edges key n)) None) (sym has ∙ tested ∙ ap (λ (o : Outline). is_perhaps o.filter key) same)
