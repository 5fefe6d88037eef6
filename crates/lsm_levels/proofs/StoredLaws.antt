-- What the blocks of a table that stands say of a key.
use Rattle.std.proofs.Common.{◌≡◌, ℕ, zero, suc, ◌+◌, ◌*◌, ◌<◌, Bool, true, false, cond, ◌&&◌, ◌||◌, eqb, leb, List, [], ◌∷◌, ◌++◌, length, map, get_or, Option, Some, None, Result, Ok, Err, bytes_eq, refl, ap, sym, ◌∙◌, arith}
use Rattle.std.specs.Prelude.{option_map, option_and_then}
use Rattle.std.specs.List.{AllByRecursion}
use Rattle.std.specs.declared.cmp.Ordering.{Ordering}
use Rattle.std.specs.declared.cmp.Ordering.TheVariants.{Less, Equal, Greater}
use Rattle.std.specs.Ordering.{is_le, is_gt, nat_cmp}
use Rattle.std.proofs.lemmas.Bool.{and_parts}
use Rattle.std.proofs.lemmas.Option.{same_Some}
use Rattle.lsm_device.specs.declared.refusal.Refusal.{Refusal}
use Rattle.lsm_codec.specs.Keys.{Bytes, byte_order}
use Rattle.lsm_codec.specs.Indexes.{Edge}
use Rattle.lsm_codec.specs.Reading.{◌>>=◌}
use Rattle.lsm_codec.specs.Versions.{Version, is_same_key, is_version_of, newer_of, newest, entry_order, AreOrdered}
use Rattle.lsm_codec.specs.Entries.{data_block, is_data_block, entries_in, all_ok, block_of}
use Rattle.lsm_codec.specs.Spelling.{if_spelled}
use Rattle.lsm_codec.proofs.KeyOrder.{same_key}
use Rattle.lsm_codec.proofs.Readers.{bind_some}
use Rattle.lsm_filter.specs.Bits.{is_perhaps}
use Rattle.lsm_table.specs.Division.{Block, TableBlocks, entries_of}
use Rattle.lsm_table.specs.BlockEdges.{edges_of, first_key_of, last_key, is_edge_before, are_rising}
use Rattle.lsm_table.specs.Places.{stands_before, place_from, place_of, at_place}
use Rattle.lsm_table.specs.Stored.{table_of}
use Rattle.lsm_table.proofs.Orders.{later_pairs, front_pairs}
use Rattle.lsm_table.proofs.Places.{finds_by}
use Rattle.lsm_table.proofs.Rising.{edges_rise}
use Rattle.lsm_table.proofs.Searching.{parted, less_by_first}
use Rattle.lsm_mem.proofs.FirstLaws.{first_at, newest-first}
use Rattle.lsm_mem.proofs.OrderTests.{tested}
use Rattle.lsm_cache.specs.Reads.{block_at}
use Rattle.lsm_levels.specs.Tables.{Table, at_most, is_below, versions_of, IsRun}
use Rattle.lsm_levels.specs.Asking.{covers, covering, said, said_in, sector_of, placed_block, asked_of_table, asked_of_run}
use Rattle.lsm_levels.specs.Stored.{blocks_from, IsStored}
use Rattle.lsm_levels.specs.declared.placed.PlacedBlock.{PlacedBlock}
use Rattle.lsm_levels.proofs.AskedLaws.{place_within}
use Rattle.lsm_levels.proofs.KeyOrder.{not_below, below_not, then_below}

-- ---- joining lists, where one has no version of the key

no_match : (b : Bool) (v : Version) (o : Option Version) → cond b (Some v) o ≡ None → (b ≡ false) × (o ≡ None)
no_match true v o e = absurd cc
no_match false v o e = (refl, e)

pub none_left : (key : Bytes) (n : ℕ) (xs ys : List Version) → newest key n xs ≡ None → newest key n (xs ++ ys) ≡ newest key n ys
none_left key n [] ys e = refl
none_left key n (v ∷ xs) ys e =
    let p = no_match (is_version_of key n v) (newer_of v (newest key n xs)) (newest key n xs) e in
    ap (λ b. cond b (Some (newer_of v (newest key n (xs ++ ys)))) (newest key n (xs ++ ys))) p.0 ∙ none_left key n xs ys p.1

pub none_right : (key : Bytes) (n : ℕ) (xs ys : List Version) → newest key n ys ≡ None → newest key n (xs ++ ys) ≡ newest key n xs
none_right key n [] ys e = e
none_right key n (v ∷ xs) ys e = ap (λ (o : Option Version). cond (is_version_of key n v) (Some (newer_of v o)) o) (none_right key n xs ys e)

-- ---- what a block says

all_ok_map : (items : List (Result Version Refusal)) (vs : List Version) → all_ok items ≡ Some vs → items ≡ map (λ v. Ok v) vs
all_ok_map [] vs e = ap (map (λ v. Ok v)) (same_Some [] vs e)
all_ok_map (Err x ∷ items) vs e = absurd cc
all_ok_map (Ok v ∷ items) vs e = elim (all_ok items) as (λ o. all_ok items ≡ o → option_map (λ xs. v ∷ xs) o ≡ Some vs → Ok v ∷ items ≡ map (λ v. Ok v) vs) [
  | None ↦ λ r e. absurd cc
  | Some ws ↦ λ r e. ap (λ (t : List (Result Version Refusal)). Ok v ∷ t) (all_ok_map items ws r) ∙ ap (map (λ v. Ok v)) (same_Some (v ∷ ws) vs e)
] refl e

spelled_read : (bytes : List ℕ) (o : Option (List Version)) (vs : List Version) → if_spelled is_data_block data_block bytes o ≡ Some vs → o ≡ Some vs
spelled_read bytes None vs e = absurd cc
spelled_read bytes (Some ws) vs e = elim (is_data_block ws && bytes_eq bytes (data_block ws)) as (λ b. cond b (Some ws) None ≡ Some vs → Some ws ≡ Some vs) [ true ↦ λ e. e | false ↦ λ e. absurd cc ] e

-- the entries of a block that spells some
pub block_entries : (bytes : List ℕ) (vs : List Version) → block_of bytes ≡ Some vs → entries_in bytes ≡ map (λ v. Ok v) vs
unfolding block_of
block_entries bytes vs e = all_ok_map (entries_in bytes) vs (spelled_read bytes (all_ok (entries_in bytes)) vs e)

said_first : (key : Bytes) (n : ℕ) (vs : List Version) → said key n (map (λ v. Ok v) vs) ≡ Ok (first_at key n vs)
said_first key n [] = refl
said_first key n (v ∷ vs) = elim (is_version_of key n v) as (λ b. cond b (Ok (Some v)) (said key n (map (λ v. Ok v) vs)) ≡ Ok (cond b (Some v) (first_at key n vs))) [ true ↦ refl | false ↦ said_first key n vs ]

block_says : (key : Bytes) (n : ℕ) (bytes : List ℕ) (vs : List Version) → block_of bytes ≡ Some vs → AreOrdered vs → said_in key n bytes ≡ Ok (newest key n vs)
block_says key n bytes vs e ordered = ap (said key n) (block_entries bytes vs e) ∙ said_first key n vs ∙ ap (λ (o : Option Version). Ok o) (sym (newest-first key n vs (tested vs ordered)))

-- the block at a place of a table that is spelled
spelled_at : (sectors : List (List ℕ)) (count at : ℕ) (table : TableBlocks) (i : ℕ) → table_of (blocks_from sectors at count) ≡ Some table → i < count → block_of (block_at sectors (at + 8 * i)) ≡ Some (get_or table i [])
spelled_at sectors zero at table i e lt = absurd (omega arith)
spelled_at sectors (suc count) at table i e lt =
    let p = bind_some (block_of (block_at sectors at)) (λ (es : Block). table_of (blocks_from sectors (at + 8) count) >>= λ t. Some (es ∷ t)) table e in
    let q = bind_some (table_of (blocks_from sectors (at + 8) count)) (λ (t : TableBlocks). Some (p.0 ∷ t)) table p.2 in
    let whole : p.0 ∷ q.0 ≡ table = same_Some (p.0 ∷ q.0) table q.2 in
    by i lt p.0 q.0 whole p.1 (λ j below. spelled_at sectors count (at + 8) q.0 j q.1 below)
  where
    by : (i : ℕ) → i < suc count → (es : Block) (rest : TableBlocks) → es ∷ rest ≡ table → block_of (block_at sectors at) ≡ Some es → ((j : ℕ) → j < count → block_of (block_at sectors ((at + 8) + 8 * j)) ≡ Some (get_or rest j []))
        → block_of (block_at sectors (at + 8 * i)) ≡ Some (get_or table i [])
    by zero lt es rest whole first others =
        let same : at + 8 * 0 ≡ at = omega arith in
        ap (λ (k : ℕ). block_of (block_at sectors k)) same ∙ first ∙ ap (λ (t : TableBlocks). Some (get_or t 0 [])) whole
    by (suc i) lt es rest whole first others =
        let same : at + 8 * suc i ≡ (at + 8) + 8 * i = omega arith in
        ap (λ (k : ℕ). block_of (block_at sectors k)) same ∙ others i (omega arith) ∙ ap (λ (t : TableBlocks). Some (get_or t (suc i) [])) whole

-- each block of a table in order is in order
block_ordered : (table : TableBlocks) (i : ℕ) → AreOrdered (entries_of table) → AreOrdered (get_or table i [])
block_ordered [] i ordered = tt
block_ordered (b ∷ table) zero ordered = front_pairs b (entries_of table) ordered
block_ordered (b ∷ table) (suc i) ordered = block_ordered table i (later_pairs (λ x y. entry_order x y ≡ Less) b (entries_of table) ordered)

-- ---- keys outside of a table's range

past_none : (k : ℕ) (key : Bytes) (n : ℕ) (edges : List Edge) → AllByRecursion (λ e. stands_before key n e ≡ true) edges → place_from k key n edges ≡ None
unfolding place_from
past_none k key n [] all = refl
past_none k key n (e ∷ edges) all = ap (λ b. cond b (place_from (k + 1) key n edges) (Some k)) all.0 ∙ past_none (k + 1) key n edges all.1

all_before : (key : Bytes) (n : ℕ) (edges : List Edge) → are_rising edges ≡ true → is_below (last_key edges) key ≡ true → AllByRecursion (λ e. stands_before key n e ≡ true) edges
all_before key n [] rising h = tt
all_before key n (e ∷ []) rising h = (less_by_first (byte_order e.key key) (nat_cmp n e.number) h, tt)
all_before key n (e ∷ f ∷ edges) rising h =
    let rest = all_before key n (f ∷ edges) (and_parts (is_edge_before e f) (are_rising (f ∷ edges)) rising).1 h in
    (parted key n (e ∷ f ∷ edges) rising 0 1 e (omega arith) (omega arith) rest.0, rest)

or_true : (a b : Bool) → b ≡ true → (a || b) ≡ true
or_true true b h = refl
or_true false b h = h

gt_not_le : (o : Ordering) → is_le o ≡ false → is_gt o ≡ true
gt_not_le Less h = absurd cc
gt_not_le Equal h = absurd cc
gt_not_le Greater h = refl

none_outside : (first : Bytes) (edges : List Edge) (key : Bytes) (n : ℕ) → are_rising edges ≡ true → (at_most key (last_key edges) && at_most first key) ≡ false → place_of first edges key n ≡ None
none_outside first edges key n rising h = by (at_most key (last_key edges)) refl h
  where
    by : (b : Bool) → at_most key (last_key edges) ≡ b → (b && at_most first key) ≡ false → place_of first edges key n ≡ None
    by false e h =
        let past : place_from 0 key n edges ≡ None = past_none 0 key n edges (all_before key n edges rising (not_below (last_key edges) key e)) in
        elim (eqb n 0 || is_gt (byte_order first key)) as (λ b. cond b None (place_from 0 key n edges) ≡ None) [ true ↦ refl | false ↦ past ]
    by true e h =
        let above : (eqb n 0 || is_gt (byte_order first key)) ≡ true = or_true (eqb n 0) (is_gt (byte_order first key)) (gt_not_le (byte_order first key) h) in
        ap (λ b. cond b None (place_from 0 key n edges)) above

-- ---- a key that the filter denies

abbrev Lacks : Bytes → List Version → Type 0
Lacks key vs = AllByRecursion (λ v. is_same_key key v.key ≡ false) vs

denied : (filter : List ℕ) (key : Bytes) (vs : List Version) → is_perhaps filter key ≡ false → AllByRecursion (λ v. is_perhaps filter v.key ≡ true) vs → Lacks key vs
denied filter key [] unset all = tt
denied filter key (v ∷ vs) unset all = (by (is_same_key key v.key) refl, denied filter key vs unset all.1)
  where
    by : (b : Bool) → is_same_key key v.key ≡ b → is_same_key key v.key ≡ false
    by false e = e
    by true e = absurd (let clash : true ≡ false = sym all.0 ∙ ap (is_perhaps filter) (sym (same_key key v.key e)) ∙ unset in cc)

lacking : (key : Bytes) (n : ℕ) (vs : List Version) → Lacks key vs → newest key n vs ≡ None
lacking key n [] h = refl
lacking key n (v ∷ vs) h = ap (λ b. cond (b && leb v.number n) (Some (newer_of v (newest key n vs))) (newest key n vs)) h.0 ∙ lacking key n vs h.1

-- ---- a table that stands

module _ (sectors : List (List ℕ)) (area : ℕ) (key : Bytes) (n : ℕ) (t : Table) (s : IsStored sectors area t) where
  its_first : t.outline.first ≡ first_key_of s.blocks
  its_first = ap (λ (u : Table). u.outline.first) s.told

  its_edges : t.outline.edges ≡ edges_of s.blocks
  its_edges = ap (λ (u : Table). u.outline.edges) s.told

  its_versions : t.versions ≡ entries_of s.blocks
  its_versions = ap (λ (u : Table). u.versions) s.told

  -- its newest version is in the block of its place
  at_its_place : (r : Option ℕ) → r ≡ place_of t.outline.first t.outline.edges key n → newest key n t.versions ≡ newest key n (at_place s.blocks r)
  at_its_place r e = ap (newest key n) its_versions ∙ finds_by t.outline.first t.outline.edges key n r e s.blocks s.sorted its_first its_edges

  pub outside : covers key t ≡ false → newest key n t.versions ≡ None
  outside h =
      let rising : are_rising t.outline.edges ≡ true = ap are_rising its_edges ∙ edges_rise s.blocks s.sorted.nonempty s.sorted.ordered in
      let last : t.last ≡ last_key t.outline.edges = ap (λ (u : Table). u.last) s.told ∙ ap last_key (sym its_edges) in
      let first : t.first ≡ t.outline.first = ap (λ (u : Table). u.first) s.told ∙ sym its_first in
      let apart : (at_most key (last_key t.outline.edges) && at_most t.outline.first key) ≡ false =
      sym (ap (λ (k : Bytes). at_most key k && at_most t.first key) last ∙ ap (λ (k : Bytes). at_most key (last_key t.outline.edges) && at_most k key) first) ∙ h in
      at_its_place None (sym (none_outside t.outline.first t.outline.edges key n rising apart))

  -- the block that is asked for says its newest version
  pub stored_says : (P : Option PlacedBlock → Type 0) → (newest key n t.versions ≡ None → P None) → ((b : PlacedBlock) → said_in key n (block_at sectors b.sector) ≡ Ok (newest key n t.versions) → P (Some b)) → P (asked_of_table area key n t)
  stored_says P none some =
      elim (is_perhaps t.outline.filter key) as (λ y. is_perhaps t.outline.filter key ≡ y → P (cond y (option_map (placed_block area t) (place_of t.outline.first t.outline.edges key n)) None)) [
        | false ↦ λ unset. none (ap (newest key n) its_versions ∙ lacking key n (entries_of s.blocks) (denied t.outline.filter key (entries_of s.blocks) unset s.members))
        | true ↦ λ set. elim (place_of t.outline.first t.outline.edges key n) as (λ o. place_of t.outline.first t.outline.edges key n ≡ o → P (option_map (placed_block area t) o)) [
          | None ↦ λ e. none (at_its_place None (sym e))
          | Some i ↦ λ e.
              let lt = place_within t.outline.first t.outline.edges key n i e in
              let same : sector_of area t i ≡ sector_of area t 0 + 8 * i = omega arith in
              let spelled : block_of (block_at sectors (sector_of area t i)) ≡ Some (get_or s.blocks i []) =
              ap (λ (k : ℕ). block_of (block_at sectors k)) same ∙ spelled_at sectors (length t.outline.edges) (sector_of area t 0) s.blocks i s.spelled lt in
              some (placed_block area t i)
              (block_says key n (block_at sectors (sector_of area t i)) (get_or s.blocks i []) spelled (block_ordered s.blocks i s.sorted.ordered) ∙ ap (λ (o : Option Version). Ok o) (sym (at_its_place (Some i) (sym e))))
        ] refl
      ] refl

-- ---- a run whose tables stand

module _ (sectors : List (List ℕ)) (area : ℕ) (key : Bytes) (n : ℕ) where
  late_covers : (t u : Table) → covers key t ≡ true → is_below t.last u.first ≡ true → covers key u ≡ false
  late_covers t u c h =
      let low : at_most key t.last ≡ true = (and_parts (at_most key t.last) (at_most t.first key) c).0 in
      let below : at_most u.first key ≡ false = below_not key u.first (then_below key t.last u.first low h) in
      by (at_most key u.last) below
    where
      by : (b : Bool) → at_most u.first key ≡ false → (b && at_most u.first key) ≡ false
      by true e = e
      by false e = refl

  none_later : (t : Table) (rest : List Table) → covers key t ≡ true → AllByRecursion (λ u. is_below t.last u.first ≡ true) rest → AllByRecursion (IsStored sectors area) rest → newest key n (versions_of rest) ≡ None
  none_later t [] c apart all = refl
  none_later t (u ∷ rest) c apart all =
      none_left key n u.versions (versions_of rest) (outside sectors area key n u all.0 (late_covers t u c apart.0)) ∙ none_later t rest c apart.1 all.1

  -- the block that is asked for says the newest version of the run
  pub run_says : (P : Option PlacedBlock → Type 0) (run : List Table) → IsRun run → AllByRecursion (IsStored sectors area) run → (newest key n (versions_of run) ≡ None → P None)
      → ((b : PlacedBlock) → said_in key n (block_at sectors b.sector) ≡ Ok (newest key n (versions_of run)) → P (Some b)) → P (asked_of_run area key n run)
  run_says P [] r all none some = none refl
  run_says P (t ∷ rest) r all none some =
      elim (covers key t) as (λ y. covers key t ≡ y → P (option_and_then (asked_of_table area key n) (cond y (Some t) (covering key rest)))) [
        | true ↦ λ c.
            let same : newest key n (t.versions ++ versions_of rest) ≡ newest key n t.versions = none_right key n t.versions (versions_of rest) (none_later t rest c r.1 all.1) in
            stored_says sectors area key n t all.0 P (λ e. none (same ∙ e)) (λ b e. some b (e ∙ ap (λ (o : Option Version). Ok o) (sym same)))
        | false ↦ λ c.
            let same : newest key n (t.versions ++ versions_of rest) ≡ newest key n (versions_of rest) = none_left key n t.versions (versions_of rest) (outside sectors area key n t all.0 c) in
            run_says P rest r.2 all.1 (λ e. none (same ∙ e)) (λ b e. some b (e ∙ ap (λ (o : Option Version). Ok o) (sym same)))
      ] refl
