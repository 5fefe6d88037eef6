-- A result is accepted.
use Rattle.std.proofs.Common.{◌≡◌, ◌≢◌, inl, inr, ℕ, ◌+◌, ◌-◌, ◌<◌, ◌≤◌, ◌^◌, ◌⊎◌, not, List, [], ◌∷◌, ◌++◌, length, map, Option, refl, sym, ap, ◌∙◌, subst, arith}
use Rattle.std.specs.Prelude.{sum_by, ltb}
use Rattle.std.specs.List.{AllByRecursion}
use Rattle.std.proofs.lemmas.Bool.{and_parts, ltb-true}
use Rattle.std.proofs.lemmas.List.{length-append, length-map}
use Rattle.std.proofs.lemmas.List.Sums.{sum_by-cons}
use Rattle.lsm_device.specs.declared.refusal.Refusal.{Refusal}
use Rattle.lsm_device.specs.declared.refusal.Refusal.TheVariants.{NoMemory, NoSpace}
use Rattle.lsm_device.specs.Runs.{run_at}
use Rattle.lsm_device.proofs.Runs.{length-run_at}
use Rattle.lsm_codec.specs.Indexes.{index_count, index_blocks}
use Rattle.lsm_codec.specs.Entries.{data_block}
use Rattle.lsm_extent.specs.declared.extent.Extent.{Extent}
use Rattle.lsm_extent.specs.Area.{Area, is_held, handed_out, free_count, IsPartition}
use Rattle.lsm_extent.proofs.ExtentLaws.{blocks-with}
use Rattle.lsm_filter.specs.Bits.{filter_of}
use Rattle.lsm_table.specs.Division.{TableBlocks, entries_of, blocks}
use Rattle.lsm_table.specs.BlockEdges.{edges_of}
use Rattle.lsm_table.specs.Extents.{extent_size, index_in_blocks, footer_in, keys_of}
use Rattle.lsm_table.specs.Extents as laid
use Rattle.lsm_table.proofs.Blocks.{only_blocks}
use Rattle.lsm_table.proofs.Blocked.{length-in_pieces}
use Rattle.lsm_table.proofs.Outlines.{edge_count}
use Rattle.lsm_merge.specs.Divisions.{AreTables, AreTablesAt}
use Rattle.lsm_merge.specs.Inputs.{MergeInput, kept_of}
use Rattle.lsm_merge.specs.Results.{MergeResult}
use Rattle.lsm_merge.proofs.DivisionLaws.{result_tables}
use Rattle.lsm_levels.specs.Tables.{Table}
use Rattle.lsm_jobs.specs.Slots.{Slot, Slots, slot_of}
use Rattle.lsm_jobs.specs.Outputs.{IsTableOf, AreTablesOf, blocks_of, placed_blocks}
use Rattle.lsm_jobs.specs.Placing.{extent_of, all_handed_out, ArePlaced, FindNoRoom}
use Rattle.lsm_jobs.specs.Holding.{IsFrozenAt}
use Rattle.lsm_jobs.specs.Refusing.{HasInput, HasOtherInput, IsNotFrozen, RefusesInput, RefusesResult}

-- ---- the blocks of a table

-- those of an image
pub blocks_are : (image : TableBlocks) (t : Table) → IsTableOf image t → blocks_of t ≡ laid.extent_in_blocks t.number (filter_of (keys_of image)) image
blocks_are image t of =
    let only : blocks (entries_of image) ≡ image = sym (only_blocks (entries_of image) image of.is.nonempty of.is.in_blocks) in
    ap (λ (x : Table). laid.extent_in_blocks t.number x.outline.filter (blocks x.versions)) of.same ∙ ap (laid.extent_in_blocks t.number (filter_of (keys_of image))) only

size_is : (image : TableBlocks) (number : ℕ) (filter : List ℕ) → length (laid.extent_in_blocks number filter image) ≡ extent_size image
size_is image number filter =
    omega (
      arith,
      length-append (map data_block image) (filter ∷ (index_in_blocks image ++ footer_in number image ∷ [])),
      length-map image data_block,
      length-append (index_in_blocks image) (footer_in number image ∷ []),
      length-in_pieces (index_count (edges_of image)) (index_blocks (edges_of image)),
    )

-- as many as its extent has
pub block_count : (image : TableBlocks) (t : Table) → IsTableOf image t → length (blocks_of t) ≡ extent_size image
block_count image t of = ap (λ (bs : List (List ℕ)). length bs) (blocks_are image t of) ∙ size_is image t.number (filter_of (keys_of image))

pub table_size : (image : TableBlocks) (t : Table) → IsTableOf image t → t.blocks ≡ extent_size image
table_size image t of = ap (λ (x : Table). x.blocks) of.same ∙ ap (λ (k : ℕ). k + index_count (edges_of image) + 2) (edge_count image of.is)

pub placed_count : (images : List TableBlocks) (tables : List Table) → AreTablesOf images tables → length (placed_blocks tables) ≡ sum_by (λ t. t.blocks) tables
placed_count [] [] of = refl
placed_count [] (t ∷ tables) of = absurd of
placed_count (image ∷ images) [] of = absurd of
placed_count (image ∷ images) (t ∷ tables) of =
    length-append (run_at t.start (blocks_of t)) (placed_blocks tables)
    ∙ ap (λ (k : ℕ). k + length (placed_blocks tables)) (length-run_at t.start (blocks_of t) ∙ block_count image t of.0 ∙ sym (table_size image t of.0))
    ∙ ap (λ (k : ℕ). t.blocks + k) (placed_count images tables of.1)
    ∙ sym (sum_by-cons (λ (x : Table). x.blocks) t tables)

pub tables_of : (number : ℕ) (area : Area) (images : List TableBlocks) (tables : List Table) → ArePlaced number area images tables → AreTablesOf images tables
tables_of number area [] [] p = tt
tables_of number area [] (t ∷ tables) p = absurd p
tables_of number area (image ∷ images) [] p = absurd p
tables_of number area (image ∷ images) (t ∷ tables) p = (p.0.of, tables_of (number + 1) (handed_out (extent_of t) area) images tables p.1)

-- ---- room

held_sum : (tables : List Table) (area : Area) → sum_by (λ e. e.blocks) (all_handed_out tables area).held ≡ sum_by (λ t. t.blocks) tables + sum_by (λ e. e.blocks) area.held
held_sum [] area = let none : sum_by (λ (t : Table). t.blocks) [] ≡ 0 = refl in omega (arith, none)
held_sum (t ∷ tables) area =
    let own : (extent_of t).blocks ≡ t.blocks = refl in
    omega (arith, own, held_sum tables (handed_out (extent_of t) area), blocks-with (extent_of t) area.held, sum_by-cons (λ (x : Table). x.blocks) t tables)

pub same_blocks : (tables : List Table) (area : Area) → (all_handed_out tables area).blocks ≡ area.blocks
same_blocks [] area = refl
same_blocks (t ∷ tables) area = same_blocks tables (handed_out (extent_of t) area)

-- the blocks of the tables are no longer free
pub fewer_free : (tables : List Table) (old new : Area) → IsPartition old → IsPartition new → new ≡ all_handed_out tables old → free_count new + sum_by (λ t. t.blocks) tables ≡ free_count old
fewer_free tables old new before after is =
    let sum : sum_by (λ e. e.blocks) new.held ≡ sum_by (λ t. t.blocks) tables + sum_by (λ e. e.blocks) old.held = ap (λ (a : Area). sum_by (λ (e : Extent). e.blocks) a.held) is ∙ held_sum tables old in
    let same : new.blocks ≡ old.blocks = ap (λ (a : Area). a.blocks) is ∙ same_blocks tables old in
    omega (arith, sum, same, before.total, after.total)

-- what was placed lies in the area
pub all_inside : (number blocks : ℕ) (area : Area) (images : List TableBlocks) (tables : List Table) → area.blocks ≡ blocks → ArePlaced number area images tables → AllByRecursion (λ t. t.start + t.blocks ≤ blocks) tables
all_inside number blocks area [] [] same p = tt
all_inside number blocks area [] (t ∷ tables) same p = absurd p
all_inside number blocks area (image ∷ images) [] same p = absurd p
all_inside number blocks area (image ∷ images) (t ∷ tables) same p =
    let size : 2 ≤ t.blocks = omega (arith, p.0.blocks) in
    let last : ℕ = t.start + (t.blocks - 1) in
    let is_last : last ≡ t.start + (t.blocks - 1) = refl in
    let free = p.0.lowest.fits.each last (omega (arith, is_last)) (omega (arith, is_last, size, p.0.blocks)) in
    let below : last < area.blocks = ltb-true last area.blocks (and_parts (ltb last area.blocks) (not (is_held area.held last)) free).0 in
    (omega (arith, below, is_last, size, same), all_inside (number + 1) blocks (handed_out (extent_of t) area) images tables same p.1)

-- where images are placed, none lacks room
pub has_room : (number : ℕ) (area : Area) (images : List TableBlocks) (tables : List Table) → ArePlaced number area images tables → FindNoRoom area images → ⊥
has_room number area [] tables p none = none
has_room number area (image ∷ images) [] p none = absurd p
has_room number area (image ∷ images) (t ∷ tables) p (inl none) = none.none t.start p.0.lowest.fits
has_room number area (image ∷ images) (t ∷ tables) p (inr there) =
    let same : there.0 ≡ t.start = omega (arith, there.1.lowest t.start p.0.lowest.fits, p.0.lowest.lowest there.0 there.1.fits) in
    let first : handed_out (record { first = there.0; blocks = extent_size image }) area ≡ handed_out (record { first = t.start; blocks = extent_size image }) area = ap (λ (k : ℕ). handed_out (record { first = k; blocks = extent_size image }) area) same in
    let whole : handed_out (record { first = t.start; blocks = extent_size image }) area ≡ handed_out (extent_of t) area = ap (λ (k : ℕ). handed_out (record { first = t.start; blocks = k }) area) (sym p.0.blocks) in
    has_room (number + 1) (handed_out (extent_of t) area) images tables p.1 (subst (λ (a : Area). FindNoRoom a images) (first ∙ whole) there.2)

-- ---- refusals

pub refused_result : (next : ℕ) (input : MergeInput) (images : List TableBlocks) (area : Area) (held : Option Slot) (refusal : Refusal) → IsNotFrozen held refusal → RefusesResult next input images area held refusal
refused_result next input images area held refusal (inl absent) = subst (RefusesResult next input images area held) (sym absent.0) absent.1
refused_result next input images area held refusal (inr other) = subst (RefusesResult next input images area held) (sym other.0) other.1

pub refused_input : (held : Option Slot) (refusal : Refusal) → IsNotFrozen held refusal → RefusesInput held refusal
refused_input held refusal (inl absent) = subst (RefusesInput held) (sym absent.0) absent.1
refused_input held refusal (inr other) = subst (RefusesInput held) (sym other.0) other.1

pub has_own : (job place : ℕ) (slots : Slots) (mine input : MergeInput) → IsFrozenAt job slots place mine → mine ≡ input → HasInput input (slot_of job slots)
has_own job place slots mine input f same = subst (HasInput input) (sym f.at.is) (f.frozen, f.own ∙ same)

pub has_other : (job place : ℕ) (slots : Slots) (mine input : MergeInput) → IsFrozenAt job slots place mine → mine ≢ input → HasOtherInput input (slot_of job slots)
has_other job place slots mine input f other = subst (HasOtherInput input) (sym f.at.is) (f.frozen, λ same. other (sym f.own ∙ same))

-- ---- the call

-- the input of a frozen job is its own
pub own_input : (job place : ℕ) (slots : Slots) (input own : MergeInput) → IsFrozenAt job slots place input → HasInput own (slot_of job slots) → input ≡ own
own_input job place slots input own found has = let there = subst (HasInput own) found.at.is has in sym found.own ∙ there.1

pub kept_same : (own : MergeInput) (result : MergeResult) (images : List TableBlocks) → own ≡ result.input → images ≡ result.images → AreTablesAt result.divisions (kept_of result.input) result.images → AreTables (kept_of own) images
kept_same own result images same list kept = subst (λ (i : MergeInput). AreTables (kept_of i) images) (sym same) (subst (AreTables (kept_of result.input)) (sym list) (result_tables result kept))

-- why it is refused once the input is known
pub refused_so : (next : ℕ) (input : MergeInput) (images told : List TableBlocks) (area : Area) (held : Option Slot) (refusal : Refusal) → HasInput input held → next + length images ≤ 2 ^ 63 + 1 → told ≡ images → (refusal ≡ NoSpace → FindNoRoom area told) → (refusal ≡ NoSpace) ⊎ (refusal ≡ NoMemory) → RefusesResult next input images area held refusal
refused_so next input images told area held refusal has fits list room (inl e) = subst (λ (r : Refusal). RefusesResult next input images area held r) (sym e) (has, fits, subst (FindNoRoom area) list (room e))
refused_so next input images told area held refusal has fits list room (inr e) = subst (λ (r : Refusal). RefusesResult next input images area held r) (sym e) (has, fits)
