-- The outputs of a job whose blocks are all written stand on the device.
use Rattle.std.proofs.Common.{◌≡◌, ℕ, zero, suc, ◌+◌, ◌-◌, ◌*◌, ◌≤◌, ◌^◌, ◌==◌, min, Bool, true, false, cond, List, [], ◌∷◌, ◌++◌, length, map, take, drop, All, Some, None, refl, sym, ap, subst, ◌∙◌, append_assoc, arith}
use Rattle.std.specs.List.{AllByRecursion, flat_map, concat}
use Rattle.std.proofs.lemmas.List.{take_at, drop_at, length-append, length-drop, length-take-le, take-append-drop}
use Rattle.std.proofs.lemmas.List.Elements.{All-nil, All-cons, All-head, All-tail, recursion_from_All}
use Rattle.std.proofs.lemmas.Option.{same_Some}
use Rattle.lsm_cache.specs.Reads.{block_at}
use Rattle.lsm_codec.proofs.DataBlockLaws.{length-data_block}
use Rattle.lsm_codec.proofs.FooterLaws.{length-footer_block}
use Rattle.lsm_codec.proofs.Lists.{all_left, all_right}
use Rattle.lsm_codec.proofs.IndexLaws.{length-index_blocks}
use Rattle.lsm_codec.specs.Entries.{IsDataBlock, data_block}
use Rattle.lsm_codec.specs.Indexes.{index_count, index_blocks}
use Rattle.lsm_codec.specs.TableRecords.{extent_blocks}
use Rattle.lsm_codec.specs.Versions.{Version}
use Rattle.lsm_codec.specs.declared.table_record.TableRecord.{TableRecord}
use Rattle.lsm_device.proofs.Runs.{length-run_at}
use Rattle.lsm_device.specs.Disk.{Disk, seen}
use Rattle.lsm_device.specs.Runs.{run_at}
use Rattle.lsm_filter.proofs.Same.{length-filter_of}
use Rattle.lsm_filter.specs.Bits.{filter_of, is_perhaps}
use Rattle.lsm_jobs.proofs.Accepted.{blocks_are, block_count, table_size}
use Rattle.lsm_jobs.proofs.TableWrites.{whole_tables}
use Rattle.lsm_jobs.specs.Outputs.{IsTableOf, AreTablesOf, AreMadeOf, blocks_of, placed_blocks, in_sectors}
use Rattle.lsm_jobs.specs.Slots.{Stage, Slot, Slots, Writing, slot_of, with_held, outputs_at, left_at}
use Rattle.lsm_jobs.specs.Pieces.{sectors_of, sector_count, written_of}
use Rattle.lsm_levels.specs.Asking.{sector_of}
use Rattle.lsm_levels.specs.Stored.{blocks_from, IsStored}
use Rattle.lsm_levels.specs.Tables.{Table, table_of as table_of_image, record_of, versions_of}
use Rattle.lsm_mem.specs.Versions.{NumberedAtMost}
use Rattle.lsm_open.proofs.BlockReads.{extent_is, some_blocks}
use Rattle.lsm_open.proofs.TableTexts.{table_stands}
use Rattle.lsm_open.proofs.Writing.{all_written}
use Rattle.lsm_open.specs.Tables.{first_data, extent_start, extent_at, blocks_at, IsTableAt}
use Rattle.lsm_open.proofs.ListPairs.{All-left, All-right}
use Rattle.lsm_open.specs.Placements.{Placement}
use Rattle.lsm_open.specs.Writing.{PlacedTable, tables_of, IsWritten}
use Rattle.lsm_store.specs.InstalledJobs.{output_level, output_records, placed_outputs, placed_for, placed_by, HasPlaced}
use Rattle.lsm_machine.specs.State.{State}
use Rattle.lsm_store.specs.StoredTables.{IsStoredWithJobs}
use Rattle.lsm_table.proofs.Filters.{has_each}
use Rattle.lsm_table.proofs.Outlines.{edge_count, outline_fits}
use Rattle.lsm_table.proofs.StoredTables.{stored_laws_hold}
use Rattle.lsm_table.specs.BlockEdges.{edges_of}
use Rattle.lsm_table.specs.Division.{TableBlocks, IsTable, entries_of}
use Rattle.lsm_table.specs.Extents.{in_pieces, index_in_blocks, footer_in, keys_of}
use Rattle.lsm_table.specs.Extents as laid
use Rattle.lsm_table.specs.Outlines.{summary_in, outline_in}
use Rattle.lsm_table.specs.Stored.{table_of, table_in}
use Rattle.lsm_jobs.proofs.Sectors.{length-in_sectors}

abbrev Sectors : Type 0
Sectors = List (List ℕ)

-- ---- blocks in sectors, and back

sectors_joined : (n : ℕ) (text : List ℕ) → length text ≡ 512 * n → concat (in_sectors n text) ≡ text
sectors_joined zero [] e = refl
sectors_joined zero (x ∷ text) e = absurd (omega (arith, e))
sectors_joined (suc n) text e = ap (λ (rest : List ℕ). take 512 text ++ rest) (sectors_joined n (drop 512 text) (omega (arith, e, length-drop 512 text))) ∙ take-append-drop 512 text

abbrev IsBlock : List ℕ → Type 0
IsBlock b = length b ≡ 4096

blocks_cut : (front : List (List ℕ)) (at : ℕ) (bs : List (List ℕ)) → length front ≡ at → AllByRecursion IsBlock bs → blocks_from (front ++ flat_map (in_sectors 8) bs) at (length bs) ≡ bs
blocks_cut front at [] here each = refl
blocks_cut front at (b ∷ bs) here each =
    let rest = flat_map (in_sectors 8) bs in
    let own = in_sectors 8 b in
    let size : length own ≡ 8 = length-in_sectors 8 b in
    let first : block_at (front ++ (own ++ rest)) at ≡ b =
    ap (λ (l : Sectors). concat (take 8 l)) (drop_at front (own ++ rest) at here)
    ∙ ap concat (take_at own rest 8 size)
    ∙ sectors_joined 8 b (omega (arith, each.0)) in
    let next : length (front ++ own) ≡ at + 8 = omega (arith, length-append front own, size, here) in
    ap (λ (x : List ℕ). x ∷ blocks_from (front ++ (own ++ rest)) (at + 8) (length bs)) first
    ∙ ap (λ (l : Sectors). b ∷ blocks_from l (at + 8) (length bs)) (sym (append_assoc front own rest))
    ∙ ap (λ (l : Sectors). b ∷ l) (blocks_cut (front ++ own) (at + 8) bs next each.1)

-- ---- the blocks of an image are blocks

all_pieces : (n : ℕ) (bytes : List ℕ) → length bytes ≡ 4096 * n → AllByRecursion IsBlock (in_pieces n bytes)
all_pieces zero bytes e = tt
all_pieces (suc n) bytes e = (length-take-le 4096 bytes (omega (arith, e)), all_pieces n (drop 4096 bytes) (omega (arith, e, length-drop 4096 bytes)))

data_blocks : (table : TableBlocks) → AllByRecursion IsDataBlock table → AllByRecursion IsBlock (map data_block table)
data_blocks [] each = tt
data_blocks (block ∷ table) each = (length-data_block block each.0, data_blocks table each.1)

blocks_then : (xs ys : List (List ℕ)) → AllByRecursion IsBlock xs → AllByRecursion IsBlock ys → AllByRecursion IsBlock (xs ++ ys)
blocks_then [] ys all more = more
blocks_then (x ∷ xs) ys all more = (all.0, blocks_then xs ys all.1 more)

all_blocks : (number : ℕ) (image : TableBlocks) → number ≤ 2 ^ 63 → IsTable image → AllByRecursion IsBlock (laid.extent_in_blocks number (filter_of (keys_of image)) image)
all_blocks number image high is =
    let filter = filter_of (keys_of image) in
    let spelled = (stored_laws_hold.spelled (take (length image) (laid.extent_in_blocks number filter image)) image (stored_laws_hold.table number filter image is)).0 in
    let footer = length-footer_block (summary_in (outline_in number [] image)) (outline_fits number [] image high is).summary in
    blocks_then (map data_block image) (filter ∷ (index_in_blocks image ++ footer_in number image ∷ [])) (data_blocks image spelled)
    (length-filter_of (keys_of image), blocks_then (index_in_blocks image) (footer_in number image ∷ []) (all_pieces (index_count (edges_of image)) (index_blocks (edges_of image)) (length-index_blocks (edges_of image))) (footer, tt))

-- ---- a table that is written

abbrev placed_as : ℕ → ℕ → Table → PlacedTable
placed_as level done t = record { table = record_of level 0 t; image = sectors_of t; done = done }

module _ (n : ℕ) (d : Disk) (level : ℕ) where
  -- it stands in the levels, and for its record
  record Stands (t : Table) : Type 0 where
    stored : IsStored (seen d) (first_data n) t
    named : (base : ℕ) → NumberedAtMost base t.versions → IsTableAt n base (seen d) (record_of level 0 t)

  abbrev IsWhole : Table → Type 0
  IsWhole t = (done : ℕ) → done ≡ sector_count t → IsWritten n d (placed_as level done t) → Stands t

  module _ (number start : ℕ) (image : TableBlocks) (high : number ≤ 2 ^ 63) (is : IsTable image) where
    abbrev t : Table
    t = table_of_image number start image

    abbrev r : TableRecord
    r = record_of level 0 (table_of_image number start image)

    abbrev filter : List ℕ
    filter = filter_of (keys_of image)

    of : IsTableOf image (table_of_image number start image)
    of = record { is = is; same = refl }

    count : extent_blocks (record_of level 0 (table_of_image number start image)) ≡ length (blocks_of (table_of_image number start image))
    count = omega (arith, block_count image t of, edge_count image is)

    each : AllByRecursion IsBlock (blocks_of (table_of_image number start image))
    each = subst (AllByRecursion IsBlock) (sym (blocks_are image t of)) (all_blocks number image high is)

    members : AllByRecursion (λ v. is_perhaps (filter_of (keys_of image)) v.key ≡ true) (entries_of image)
    members = recursion_from_All (λ (v : Version). is_perhaps filter v.key ≡ true) (entries_of image) (has_each (entries_of image))

    whole : IsWhole (table_of_image number start image)
    whole done all written = record {
      stored = record {
        blocks = image;
        spelled = place ∙ inside;
        sorted = record { ordered = is.ordered; versions = is.versions; nonempty = is.in_blocks.nonempty };
        told = refl;
        members = members;
      };
      named = λ base numbered. table_stands n base (seen d) r filter image blocks is high (record { number = refl; data_blocks = refl; index_blocks = refl; entries = refl }) members numbered refl;
    }
      where
        blocks : blocks_from (extent_at n (seen d) r) 0 (extent_blocks r) ≡ laid.extent_in_blocks number filter image
        blocks =
            ap (λ (c : Sectors). blocks_from c 0 (extent_blocks r)) (all_written n d (placed_as level done t) written all)
            ∙ ap (blocks_from (sectors_of t) 0) count
            ∙ blocks_cut [] 0 (blocks_of t) refl each
            ∙ blocks_are image t of

        inside : table_in r.data_blocks (blocks_at n (seen d) r) ≡ Some image
        inside = ap (λ (k : ℕ). table_in k (blocks_at n (seen d) r)) (edge_count image is) ∙ ap (λ (bs : Sectors). table_in (length image) bs) blocks ∙ stored_laws_hold.table number filter image is

        few : 0 + r.data_blocks ≤ extent_blocks r
        few = omega arith

        at : sector_of (first_data n) t 0 ≡ extent_start n r + 8 * 0
        at = omega arith

        place : table_of (blocks_from (seen d) (sector_of (first_data n) t 0) (length (edges_of image))) ≡ table_in r.data_blocks (blocks_at n (seen d) r)
        place =
            ap (λ (k : ℕ). table_of (blocks_from (seen d) k (length (edges_of image)))) at
            ∙ ap table_of (sym (some_blocks (seen d) (extent_start n r) (extent_blocks r) 0 r.data_blocks few))
            ∙ ap (λ (bs : Sectors). table_of (take r.data_blocks bs)) (sym (extent_is n (seen d) r))

  one_stands : (image : TableBlocks) (t : Table) → IsTableOf image t → t.number ≤ 2 ^ 63 → IsWhole t
  one_stands image t of high = subst IsWhole (sym of.same) (whole t.number t.start image high of.is)

  -- ---- the outputs of a job

  all_stand : (written : ℕ) (images : List TableBlocks) (tables : List Table) → 8 * length (placed_blocks tables) ≤ written → AreTablesOf images tables → AllByRecursion (λ t. t.number ≤ 2 ^ 63) tables
      → All (IsWritten n d) (placed_outputs level written tables) → AllByRecursion Stands tables
  all_stand written [] [] room of high are = tt
  all_stand written [] (t ∷ tables) room of high are = absurd of
  all_stand written (image ∷ images) [] room of high are = absurd of
  all_stand written (image ∷ images) (t ∷ tables) room of high are =
      let size : sector_count t ≡ 8 * t.blocks = (whole_tables (image ∷ images) (t ∷ tables) of).0 in
      let blocks = block_count image t of.0 in
      let own = table_size image t of.0 in
      let joined : length (placed_blocks (t ∷ tables)) ≡ length (blocks_of t) + length (placed_blocks tables) = omega (arith, length-append (run_at t.start (blocks_of t)) (placed_blocks tables), length-run_at t.start (blocks_of t)) in
      let done : min written (sector_count t) ≡ sector_count t = omega (arith, size, blocks, own, joined, room) in
      let first : PlacedTable = placed_as level (min written (sector_count t)) t in
      let rest = placed_outputs level (written - sector_count t) tables in (
        one_stands image t of.0 high.0 (min written (sector_count t)) done (All-head (IsWritten n d) first rest are),
        all_stand (written - sector_count t) images tables (omega (arith, size, blocks, own, joined, room)) of.1 high.1 (All-tail (IsWritten n d) first rest are),
      )

  stored_all : (tables : List Table) → AllByRecursion Stands tables → AllByRecursion (IsStored (seen d) (first_data n)) tables
  stored_all [] stand = tt
  stored_all (t ∷ tables) stand = (stand.0.stored, stored_all tables stand.1)

  named_all : (base : ℕ) (tables : List Table) → AllByRecursion (λ t. NumberedAtMost base t.versions) tables → AllByRecursion Stands tables → All (IsTableAt n base (seen d)) (map (record_of level 0) tables)
  named_all base [] numbered stand = All-nil (IsTableAt n base (seen d))
  named_all base (t ∷ tables) numbered stand = All-cons (IsTableAt n base (seen d)) (record_of level 0 t) (map (record_of level 0) tables) (stand.0.named base numbered.0) (named_all base tables numbered.1 stand.1)

-- ---- in a running store

placed_records : (level written : ℕ) (tables : List Table) → tables_of (placed_outputs level written tables) ≡ map (record_of level 0) tables
placed_records level written [] = refl
placed_records level written (t ∷ tables) = ap (λ (l : List TableRecord). record_of level 0 t ∷ l) (placed_records level (written - sector_count t) tables)

pub records_placed : (slot : Slot) → tables_of (placed_for slot) ≡ output_records slot.job (outputs_at slot.stage)
records_placed slot = placed_records (output_level slot.job) (written_of (outputs_at slot.stage) (left_at slot.stage)) (outputs_at slot.stage)

module _ (p : Placement) (xs ys : List PlacedTable) (s : State) (d : Disk) (slot : Slot) (outputs : List Table) (stored : IsStoredWithJobs p (xs ++ (placed_for slot ++ ys)) s d) (stage : slot.stage ≡ Writing outputs 0)
    (made : AreMadeOf slot.input outputs) (high : AllByRecursion (λ t. t.number ≤ 2 ^ 63) outputs) where
  they_stand : AllByRecursion (Stands p.logs.log_sectors d (output_level slot.job)) outputs
  they_stand =
      let W : PlacedTable → Type 0 = IsWritten p.logs.log_sectors d in
      let own : All W (placed_for slot) = All-left W (placed_for slot) ys (All-right W xs (placed_for slot ++ ys) stored.jobs.written) in
      let here : placed_for slot ≡ placed_outputs (output_level slot.job) (written_of outputs 0) outputs = ap (λ (now : Stage). placed_outputs (output_level slot.job) (written_of (outputs_at now) (left_at now)) (outputs_at now)) stage in
      all_stand p.logs.log_sectors d (output_level slot.job) (written_of outputs 0) made.images outputs (omega arith) made.placed high (subst (All W) here own)

  pub outputs_stored : AllByRecursion (IsStored (seen d) (first_data p.logs.log_sectors)) outputs
  outputs_stored = stored_all p.logs.log_sectors d (output_level slot.job) outputs they_stand

  each_numbered : (base : ℕ) (ts : List Table) → NumberedAtMost base (versions_of ts) → AllByRecursion (λ t. NumberedAtMost base t.versions) ts
  each_numbered base [] numbered = tt
  each_numbered base (t ∷ ts) numbered = (all_left (λ v. v.number ≤ base) t.versions (versions_of ts) numbered, each_numbered base ts (all_right (λ v. v.number ≤ base) t.versions (versions_of ts) numbered))

  pub outputs_named : (base : ℕ) → NumberedAtMost base (versions_of outputs) → All (IsTableAt p.logs.log_sectors base (seen d)) (output_records slot.job outputs)
  outputs_named base numbered = named_all p.logs.log_sectors d (output_level slot.job) base outputs (each_numbered base outputs numbered) they_stand

-- ---- what one of the jobs has placed

pub has_placed : (slots : Slots) (job : ℕ) (slot : Slot) → slot_of job slots ≡ Some slot → HasPlaced slots job slot
has_placed [] job slot is = absurd cc
has_placed (None ∷ rest) job slot is = let more = has_placed rest job slot is in record { before = more.before; behind = more.behind; own = more.own; others = more.others; changed = more.changed }
has_placed (Some one ∷ rest) job slot is = by (one.number == job) refl is (λ later. has_placed rest job slot later)
  where
    by : (b : Bool) → (one.number == job) ≡ b → cond b (Some one) (slot_of job rest) ≡ Some slot → (slot_of job rest ≡ Some slot → HasPlaced rest job slot) → HasPlaced (Some one ∷ rest) job slot
    by true e here later = record {
      before = [];
      behind = placed_by rest;
      own = ap (λ (x : Slot). placed_for x ++ placed_by rest) (same_Some one slot here);
      others = ap (λ (b : Bool). placed_by (cond b (None ∷ rest) (Some one ∷ with_held job None rest))) e;
      changed = λ now. ap (λ (b : Bool). placed_by (cond b (Some now ∷ rest) (Some one ∷ with_held job (Some now) rest))) e;
    }
    by false e there later =
        let more = later there in
        record {
          before = placed_for one ++ more.before;
          behind = more.behind;
          own = ap (λ (l : List PlacedTable). placed_for one ++ l) more.own ∙ sym (append_assoc (placed_for one) more.before (placed_for slot ++ more.behind));
          others = ap (λ (b : Bool). placed_by (cond b (None ∷ rest) (Some one ∷ with_held job None rest))) e ∙ ap (λ (l : List PlacedTable). placed_for one ++ l) more.others ∙ sym (append_assoc (placed_for one) more.before more.behind);
          changed = λ now. ap (λ (b : Bool). placed_by (cond b (Some now ∷ rest) (Some one ∷ with_held job (Some now) rest))) e ∙ ap (λ (l : List PlacedTable). placed_for one ++ l) (more.changed now)
              ∙ sym (append_assoc (placed_for one) more.before (placed_for now ++ more.behind));
        }
