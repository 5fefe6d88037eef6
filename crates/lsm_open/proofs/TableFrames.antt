-- What sectors stand for depends on what the manifest names alone.
use Rattle.std.proofs.Common.{◌≡◌, ℕ, ◌+◌, ◌-◌, ◌*◌, ◌≤◌, ◌&&◌, ◌==◌, Bool, List, [], ◌∷◌, ◌++◌, length, take, drop, get_or, map, refl, sym, ◌∙◌, ap, subst, arith, All}
use Rattle.std.specs.List.{AllByRecursion}
use Rattle.std.specs.declared.cmp.Ordering.TheVariants.{Less}
use Rattle.std.proofs.lemmas.List.{drop-drop}
use Rattle.std.proofs.lemmas.List.Elements.{All-head, All-tail}
use Rattle.lsm_codec.specs.declared.log_record.LogRecord.{LogRecord}
use Rattle.lsm_codec.specs.declared.table_record.TableRecord.{TableRecord}
use Rattle.lsm_codec.specs.Keys.{byte_order}
use Rattle.lsm_codec.specs.Manifests.{Contents}
use Rattle.lsm_codec.specs.Map.{Map, Operation, apply_all}
use Rattle.lsm_codec.specs.Pairs.{Pairwise}
use Rattle.lsm_codec.specs.TableRecords.{extent_blocks}
use Rattle.std.specs.Prelude.{IfSome}
use Rattle.lsm_codec.specs.Versions.{Version, deletes_in}
use Rattle.lsm_codec.proofs.Lists.{all_append}
use Rattle.lsm_device.specs.Areas.{area}
use Rattle.lsm_levels.specs.Orders.{IsVersionOrder}
use Rattle.lsm_levels.specs.Stored.{blocks_from}
use Rattle.lsm_log.specs.Opened.{HasNoneAbove}
use Rattle.lsm_log.specs.Replay.{replay}
use Rattle.lsm_mem.specs.EntryOrder.{with_batches}
use Rattle.lsm_mem.specs.Versions.{NumberedAtMost, map_of}
use Rattle.lsm_root.specs.CrashState.{CrashState}
use Rattle.lsm_open.specs.LogRegions.{first_region, region_start, batches_at, all_batches, follow_on, one_if_some, regions_with_batches}
use Rattle.lsm_open.specs.Image.{count_in, left_in, HoldNamed, StandFor}
use Rattle.lsm_open.specs.Tables.{extent_start, extent_length, extent_at, blocks_at, versions_if, versions_at, table_versions, IsTableAt, AscendInRun, AreTables}
use Rattle.lsm_open.proofs.HeldRegions.{Same, same_all}
use Rattle.lsm_open.proofs.NewestFound.{map_of_batches}
use Rattle.lsm_root.specs.Roots.{root_of}
use Rattle.lsm_table.specs.Stored.{table_in, outline_at}

abbrev Sectors : Type 0
Sectors = List (List ℕ)

abbrev Versions : Type 0
Versions = List Version

-- the map of the versions in tables
abbrev pub base_map : ℕ → List (List ℕ) → Contents → Map
base_map log_sectors sectors m = map_of (table_versions log_sectors sectors m.tables) m.base

-- ---- tables

module _ (n : ℕ) (c e : Sectors) where
  -- the extent holds the same in both
  abbrev pub SameExtent : TableRecord → Type 0
  SameExtent t = extent_at n c t ≡ extent_at n e t

  same_blocks : (t : TableRecord) → extent_at n c t ≡ extent_at n e t → blocks_at n c t ≡ blocks_at n e t
  same_blocks t same = ap (λ (x : Sectors). blocks_from x 0 (extent_blocks t)) same

  pub same_versions : (t : TableRecord) → extent_at n c t ≡ extent_at n e t → versions_at n c t ≡ versions_at n e t
  same_versions t same = ap (λ (x : Sectors). versions_if (table_in t.data_blocks x)) (same_blocks t same)

  pub same_table : (base : ℕ) (t : TableRecord) → extent_at n c t ≡ extent_at n e t → IsTableAt n base e t → IsTableAt n base c t
  same_table base t same is = record {
    table = is.table;
    filter = is.filter;
    spelled = ap (λ (x : Sectors). table_in t.data_blocks x) (same_blocks t same) ∙ is.spelled;
    sorted = is.sorted;
    told = ap (λ (x : Sectors). outline_at t x) (same_blocks t same) ∙ is.told;
    members = is.members;
    numbered = subst (NumberedAtMost base) (sym (same_versions t same)) is.numbered;
    counted = subst (λ (vs : Versions). IfSome t.deletes (λ deletes. deletes ≡ deletes_in vs)) (sym (same_versions t same)) is.counted;
  }

  pub same_all_versions : (ts : List TableRecord) → All SameExtent ts → table_versions n c ts ≡ table_versions n e ts
  same_all_versions [] same = refl
  same_all_versions (t ∷ rest) same =
      ap (λ (l : Versions). l ++ table_versions n c rest) (same_versions t (All-head SameExtent t rest same))
      ∙ ap (λ (l : Versions). versions_at n e t ++ l) (same_all_versions rest (All-tail SameExtent t rest same))

  same_places : (ts : List TableRecord) → All SameExtent ts → map (versions_at n c) ts ≡ map (versions_at n e) ts
  same_places [] same = refl
  same_places (t ∷ rest) same =
      ap (λ (l : Versions). l ∷ map (versions_at n c) rest) (same_versions t (All-head SameExtent t rest same))
      ∙ ap (λ (l : List Versions). versions_at n e t ∷ l) (same_places rest (All-tail SameExtent t rest same))

  abbrev Below : Versions → Versions → Type 0
  Below later earlier = AllByRecursion (λ v. AllByRecursion (λ w. byte_order v.key w.key ≡ Less) later) earlier

  same_ascend : (ts : List TableRecord) → All SameExtent ts → Pairwise (AscendInRun n e) ts → Pairwise (AscendInRun n c) ts
  same_ascend [] same ascend = tt
  same_ascend (t ∷ rest) same ascend =
      let here = same_versions t (All-head SameExtent t rest same) in
      let later = All-tail SameExtent t rest same in (
        λ k u lt run. subst (λ (l : Versions). Below (versions_at n c (get_or rest k u)) l) (sym here)
            (subst (λ (l : Versions). Below l (versions_at n e t)) (sym (same_versions (get_or rest k u) (later k u lt))) (ascend.0 k u lt run)),
        same_ascend rest later ascend.1,
      )

  pub same_tables : (base : ℕ) (ts : List TableRecord) → All SameExtent ts → AreTables n base ts e → AreTables n base ts c
  same_tables base ts same are = record {
    each = λ k t lt. same_table base (get_or ts k t) (same k t lt) (are.each k t lt);
    order = subst IsVersionOrder (sym (same_places ts same)) are.order;
    ascend = same_ascend ts same are.ascend;
  }

  -- ---- regions

  same_regions : (logs : List LogRecord) → All (Same n c e) logs → regions_with_batches n c logs ≡ regions_with_batches n e logs
  same_regions [] same = refl
  same_regions (r ∷ rest) same =
      ap (λ (l : List (List Operation)). one_if_some l + regions_with_batches n c rest) (All-head (Same n c e) r rest same)
      ∙ ap (λ (k : ℕ). one_if_some (batches_at n e r) + k) (same_regions rest (All-tail (Same n c e) r rest same))

  pub same_follow : (k : ℕ) (logs : List LogRecord) → All (Same n c e) logs → follow_on n c k logs ≡ follow_on n e k logs
  same_follow k [] same = refl
  same_follow k (r ∷ rest) same =
      ap (λ (l : List (List Operation)). (r.first_batch == k) && follow_on n c (k + length l) rest) (All-head (Same n c e) r rest same)
      ∙ ap (λ (b : Bool). (r.first_batch == k) && b) (same_follow (k + length (batches_at n e r)) rest (All-tail (Same n c e) r rest same))

  -- ---- what a manifest names

  -- What a manifest names is the same in both: the extents of its tables, and what its regions replay to.
  pub record SameNamed (m : Contents) : Type 0 where
    pub tables : All SameExtent m.tables
    pub logs : All (Same n c e) m.logs

  module _ (m : Contents) (same : SameNamed m) where
    pub same_state : left_in n c m ≡ left_in n e m
    same_state =
        ap (λ (bs : List (List Operation)). made bs (table_versions n c m.tables) (regions_with_batches n c m.logs)) (same_all n c e m.logs same.logs)
        ∙ ap (λ (vs : Versions). made (all_batches n e m.logs) vs (regions_with_batches n c m.logs)) (same_all_versions m.tables same.tables)
        ∙ ap (λ (k : ℕ). made (all_batches n e m.logs) (table_versions n e m.tables) k) (same_regions m.logs same.logs)
      where
        made : List (List Operation) → Versions → ℕ → CrashState
        made bs vs k = record { count = m.base + length bs; map = map_of (with_batches m.base bs [] ++ vs) (m.base + length bs); closed = k; generation = m.generation }

    pub same_holds : HasNoneAbove m.generation (area first_region (3 * n) c) → HoldNamed n m e → HoldNamed n m c
    same_holds fresh holds = record {
      tables = same_tables m.base m.tables same.tables holds.tables;
      follows = same_follow (m.base + 1) m.logs same.logs ∙ holds.follows;
      fresh = fresh;
    }

-- ---- the same sectors after the root

area_from : (c e : Sectors) → drop 130 c ≡ drop 130 e → (k count : ℕ) → area (130 + k) count c ≡ area (130 + k) count e
area_from c e same k count = ap (take count) (sym (drop-drop k 130 c) ∙ ap (drop k) same ∙ drop-drop k 130 e)

pub area_behind : (c e : Sectors) → drop 130 c ≡ drop 130 e → (start count : ℕ) → 130 ≤ start → area start count c ≡ area start count e
area_behind c e same start count le =
    let place : 130 + (start - 130) ≡ start = omega (arith, le) in
    subst (λ (k : ℕ). area k count c ≡ area k count e) place (area_from c e same (start - 130) count)

pub same_behind : (n : ℕ) (c e : Sectors) → drop 130 c ≡ drop 130 e → (m : Contents) → SameNamed n c e m
same_behind n c e same m = record {
  tables = λ k t lt. area_behind c e same (extent_start n (get_or m.tables k t)) (extent_length (get_or m.tables k t)) (omega arith);
  logs = λ k r lt. let x = get_or m.logs k r in ap (replay x.epoch x.first_batch) (area_behind c e same (region_start n x.region) n (omega arith));
}

-- with the same root they stand for the same
pub same_meaning : (n : ℕ) (c e : Sectors) (left : CrashState) → drop 130 c ≡ drop 130 e → root_of c ≡ root_of e → StandFor n left e → StandFor n left c
same_meaning n c e left behind root is =
    let same = same_behind n c e behind is.manifest in
    record {
      manifest = is.manifest;
      root = root ∙ is.root;
      holds = same_holds n c e is.manifest same (subst (HasNoneAbove is.manifest.generation) (sym (area_behind c e behind first_region (3 * n) (omega arith))) is.holds.fresh) is.holds;
      left_is = is.left_is ∙ sym (same_state n c e is.manifest same);
    }

-- ---- the batches applied to the map of the tables

pub numbered_tables : (n base : ℕ) (c : Sectors) (ts : List TableRecord) → All (IsTableAt n base c) ts → NumberedAtMost base (table_versions n c ts)
numbered_tables n base c [] each = tt
numbered_tables n base c (t ∷ rest) each =
    all_append (λ (v : Version). v.number ≤ base) (versions_at n c t) (table_versions n c rest) (All-head (IsTableAt n base c) t rest each).numbered (numbered_tables n base c rest (All-tail (IsTableAt n base c) t rest each))

-- what a crash left, as batches applied to the map of the tables
abbrev pub applied_in : ℕ → Sectors → Contents → CrashState
applied_in n c m = record {
  count = count_in n c m;
  map = apply_all (base_map n c m) (all_batches n c m.logs);
  closed = regions_with_batches n c m.logs;
  generation = m.generation;
}

pub state_applied : (n : ℕ) (c : Sectors) (m : Contents) → AreTables n m.base m.tables c → left_in n c m ≡ applied_in n c m
state_applied n c m are =
    ap (λ (x : Map). made x) (map_of_batches m.base (all_batches n c m.logs) [] (table_versions n c m.tables) tt (numbered_tables n m.base c m.tables are.each))
  where
    made : Map → CrashState
    made x = record { count = count_in n c m; map = x; closed = regions_with_batches n c m.logs; generation = m.generation }
