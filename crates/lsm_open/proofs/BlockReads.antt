-- Blocks that are read one after the other.
use Rattle.std.proofs.Common.{◌≡◌, ℕ, zero, suc, ◌+◌, ◌-◌, ◌*◌, ◌<◌, ◌≤◌, Bool, true, false, List, [], ◌∷◌, ◌++◌, take, drop, get_or, refl, sym, ap, ◌∙◌, arith}
use Rattle.std.specs.List.{flat_map, concat}
use Rattle.std.proofs.lemmas.Grind.{flat_map-append}
use Rattle.std.proofs.lemmas.List.{drop-drop, drop-take, take-take, append-nil}
use Rattle.lsm_cache.specs.Reads.{block_at, after_reads, FaultsAmong}
use Rattle.lsm_device.proofs.RunCounts.{reads_are, fault_is, one_fault, faults_made}
use Rattle.lsm_device.specs.Areas.{area}
use Rattle.lsm_device.specs.Calls.{faults_after}
use Rattle.lsm_device.specs.Medium.{Medium}
use Rattle.lsm_device.specs.declared.calls.Calls.{Calls}
use Rattle.lsm_device.proofs.Counting.{none_made, AtMost-joined}
use Rattle.lsm_levels.specs.Asking.{OnlyReads}
use Rattle.lsm_levels.specs.Stored.{blocks_from}
use Rattle.lsm_levels.proofs.LookingUp.{more_reads}
use Rattle.lsm_codec.specs.TableRecords.{extent_blocks}
use Rattle.lsm_codec.specs.declared.table_record.TableRecord.{TableRecord}
use Rattle.lsm_open.specs.Tables.{extent_start, extent_length, blocks_at}
use Rattle.lsm_open.specs.ToldTables.{ReadsBlocks}
use Rattle.lsm_table.specs.Outlines.{outline_of}
use Rattle.lsm_table.specs.Stored.{outline_at}

-- ---- what is done to the device

pub nothing_read : (m : Medium) → ReadsBlocks 0 true m m
nothing_read m = record {
  calls = none_made 0 0 0 m.calls;
  faults = refl;
  stops = λ e. absurd cc;
  only_reads = record { same_size = refl; same_lasting = refl; unchanged = λ t. refl };
}

pub block_read : (old new : Medium) → new.calls ≡ after_reads 8 old.calls → OnlyReads old new → ReadsBlocks 1 true old new
block_read old new is reads = record {
  calls = reads_are 8 old.calls new.calls is;
  faults = ap (λ (c : Calls). c.faults) is ∙ faults_made 8 old.calls;
  stops = λ e. absurd cc;
  only_reads = reads;
}

pub block_faulted : (old new : Medium) → FaultsAmong 8 old.calls new.calls → OnlyReads old new → ReadsBlocks 1 false old new
block_faulted old new fault reads = record {
  calls = fault_is 8 old.calls new.calls fault;
  faults = one_fault 8 old.calls new.calls fault;
  stops = λ e. ap (λ (c : Calls). c.last_faulted) fault.counted;
  only_reads = reads;
}

pub reads_then : (i n m : ℕ) (ok : Bool) (a b c : Medium) → i + n ≤ m → ReadsBlocks i true a b → ReadsBlocks n ok b c → ReadsBlocks m ok a c
reads_then i n m ok a b c room first then_ = record {
  calls = AtMost-joined (8 * i) 0 0 (8 * n) 0 0 (8 * m) 0 0 a.calls b.calls c.calls (omega (arith, room)) (omega arith) (omega arith) first.calls then_.calls;
  faults = then_.faults ∙ ap (faults_after ok) first.faults;
  stops = then_.stops;
  only_reads = more_reads a b c first.only_reads then_.only_reads;
}

-- ---- blocks from a sector on

module _ (sectors : List (List ℕ)) where
  -- one block more at the end
  pub one_block_more : (at n : ℕ) → blocks_from sectors at (suc n) ≡ blocks_from sectors at n ++ block_at sectors (at + 8 * n) ∷ []
  one_block_more at zero = let here : at ≡ at + 8 * 0 = omega arith in ap (λ (k : ℕ). block_at sectors k ∷ []) here
  one_block_more at (suc n) =
      let next : at + 8 + 8 * n ≡ at + 8 * suc n = omega arith in
      ap (λ (l : List (List ℕ)). block_at sectors at ∷ l) (one_block_more (at + 8) n ∙ ap (λ (k : ℕ). blocks_from sectors (at + 8) n ++ block_at sectors k ∷ []) next)

  pub get_or-blocks_from : (at n i : ℕ) → i < n → get_or (blocks_from sectors at n) i [] ≡ block_at sectors (at + 8 * i)
  get_or-blocks_from at zero i lt = absurd (omega (arith, lt))
  get_or-blocks_from at (suc n) zero lt = let here : at ≡ at + 8 * 0 = omega arith in ap (block_at sectors) here
  get_or-blocks_from at (suc n) (suc i) lt =
      let next : at + 8 + 8 * i ≡ at + 8 * suc i = omega arith in
      get_or-blocks_from (at + 8) n i (omega (arith, lt)) ∙ ap (block_at sectors) next

  behind : (first at n : ℕ) → first ≤ n → drop first (blocks_from sectors at n) ≡ blocks_from sectors (at + 8 * first) (n - first)
  behind zero at n le =
      let here : at + 8 * 0 ≡ at = omega arith in
      let all : n - 0 ≡ n = omega arith in
      sym (ap (λ (k : ℕ). blocks_from sectors k (n - 0)) here ∙ ap (blocks_from sectors at) all)
  behind (suc first) at zero le = absurd (omega (arith, le))
  behind (suc first) at (suc n) le =
      let next : at + 8 + 8 * first ≡ at + 8 * suc first = omega arith in
      let left : n - first ≡ suc n - suc first = omega arith in
      behind first (at + 8) n (omega (arith, le)) ∙ ap (λ (k : ℕ). blocks_from sectors k (n - first)) next ∙ ap (blocks_from sectors (at + 8 * suc first)) left

  front : (count at n : ℕ) → count ≤ n → take count (blocks_from sectors at n) ≡ blocks_from sectors at count
  front zero at n le = refl
  front (suc count) at zero le = absurd (omega (arith, le))
  front (suc count) at (suc n) le = ap (λ (l : List (List ℕ)). block_at sectors at ∷ l) (front count (at + 8) n (omega (arith, le)))

  pub some_blocks : (at n first count : ℕ) → first + count ≤ n → take count (drop first (blocks_from sectors at n)) ≡ blocks_from sectors (at + 8 * first) count
  some_blocks at n first count room = ap (take count) (behind first at n (omega (arith, room))) ∙ front count (at + 8 * first) (n - first) (omega (arith, room))

-- the bytes of blocks, with those of one more
pub one_more_joined : (sectors : List (List ℕ)) (at n : ℕ) → flat_map (λ b. b) (blocks_from sectors at (n + 1)) ≡ flat_map (λ b. b) (blocks_from sectors at n) ++ block_at sectors (at + 8 * n)
one_more_joined sectors at n =
    let bytes = block_at sectors (at + 8 * n) in
    let id : List ℕ → List ℕ = λ b. b in
    let more : n + 1 ≡ suc n = omega arith in
    ap (λ (k : ℕ). flat_map id (blocks_from sectors at k)) more ∙ ap (flat_map id) (one_block_more sectors at n) ∙ flat_map-append id (blocks_from sectors at n) (bytes ∷ []) ∙ ap (λ (l : List ℕ). flat_map id (blocks_from sectors at n) ++ l) (append-nil bytes)

-- ---- blocks of an extent

module _ (sectors : List (List ℕ)) (start len : ℕ) where
  inner : (at : ℕ) → at + 8 ≤ len → block_at (area start len sectors) at ≡ block_at sectors (start + at)
  inner at le =
      let from = drop start sectors in
      let split : len ≡ at + (len - at) = omega (arith, le) in
      let room : 8 ≤ len - at = omega (arith, le) in
      ap concat (ap (λ (k : ℕ). take 8 (drop at (take k from))) split ∙ ap (take 8) (drop-take at (len - at) from) ∙ take-take 8 (len - at) (drop at from) room
      ∙ ap (take 8) (drop-drop at start sectors))

  pub inner_blocks : (at n : ℕ) → at + 8 * n ≤ len → blocks_from (area start len sectors) at n ≡ blocks_from sectors (start + at) n
  inner_blocks at zero le = refl
  inner_blocks at (suc n) le =
      let next : start + (at + 8) ≡ start + at + 8 = omega arith in
      ap (λ (b : List ℕ). b ∷ blocks_from (area start len sectors) (at + 8) n) (inner at (omega (arith, le)))
      ∙ ap (λ (l : List (List ℕ)). block_at sectors (start + at) ∷ l) (inner_blocks (at + 8) n (omega (arith, le)) ∙ ap (λ (k : ℕ). blocks_from sectors k n) next)

-- the blocks of a table's extent, counted in the device
pub extent_is : (n : ℕ) (sectors : List (List ℕ)) (t : TableRecord) → blocks_at n sectors t ≡ blocks_from sectors (extent_start n t) (extent_blocks t)
extent_is n sectors t =
    let here : extent_start n t + 0 ≡ extent_start n t = omega arith in
    inner_blocks sectors (extent_start n t) (extent_length t) 0 (extent_blocks t) (omega arith) ∙ ap (λ (k : ℕ). blocks_from sectors k (extent_blocks t)) here

-- what footer, index and filter of a table tell, by the blocks where they stand
pub outline_is : (n : ℕ) (sectors : List (List ℕ)) (t : TableRecord) (footer_at index_at filter_at : ℕ) → filter_at ≡ extent_start n t + 8 * t.data_blocks → index_at ≡ extent_start n t + 8 * (t.data_blocks + 1)
    → footer_at ≡ extent_start n t + 8 * (t.data_blocks + t.index_blocks + 1)
    → outline_at t (blocks_at n sectors t) ≡ outline_of t (block_at sectors footer_at) (flat_map (λ b. b) (blocks_from sectors index_at t.index_blocks)) (block_at sectors filter_at)
outline_is n sectors t footer_at index_at filter_at f i g =
    let start = extent_start n t in
    let d = t.data_blocks in
    let x = t.index_blocks in
    let all = blocks_from sectors start (extent_blocks t) in
    let id : List ℕ → List ℕ = λ b. b in
    let one : get_or all (d + x + 1) [] ≡ block_at sectors footer_at = get_or-blocks_from sectors start (extent_blocks t) (d + x + 1) (omega arith) ∙ ap (block_at sectors) (sym g) in
    let two : take x (drop (d + 1) all) ≡ blocks_from sectors index_at x = some_blocks sectors start (extent_blocks t) (d + 1) x (omega arith) ∙ ap (λ (k : ℕ). blocks_from sectors k x) (sym i) in
    let three : get_or all d [] ≡ block_at sectors filter_at = get_or-blocks_from sectors start (extent_blocks t) d (omega arith) ∙ ap (block_at sectors) (sym f) in
    ap (outline_at t) (extent_is n sectors t)
    ∙ ap (λ (b : List ℕ). outline_of t b (flat_map id (take x (drop (d + 1) all))) (get_or all d [])) one
    ∙ ap (λ (l : List (List ℕ)). outline_of t (block_at sectors footer_at) (flat_map id l) (get_or all d [])) two
    ∙ ap (outline_of t (block_at sectors footer_at) (flat_map id (blocks_from sectors index_at x))) three
