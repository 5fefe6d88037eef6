-- The edges of a table in order rise.
use Rattle.std.proofs.Common.{◌≡◌, ℕ, ◌+◌, ◌-◌, ◌<◌, ◌≤◌, Bool, true, false, ◌&&◌, List, [], ◌∷◌, ◌++◌, length, drop, get_or, None, refl, sym, ap, ◌∙◌, arith}
use Rattle.std.specs.List.{AllByRecursion}
use Rattle.std.specs.Ordering.{is_lt, is_gt}
use Rattle.std.proofs.lemmas.Bool.{and_from, not_from_false}
use Rattle.std.proofs.lemmas.List.{drop_more, length-drop}
use Rattle.lsm_codec.specs.Keys.{Bytes, byte_order}
use Rattle.lsm_codec.specs.Versions.{Version, entry_order}
use Rattle.lsm_codec.specs.Indexes.{Edge}
use Rattle.lsm_codec.specs.Pairs.{Pairwise}
use Rattle.lsm_table.specs.Division.{Block, TableBlocks, entries_of}
use Rattle.lsm_table.specs.BlockEdges.{last_edge, edges_of, first_key_of}
use Rattle.lsm_table.specs.BlockEdges.{is_edge_before, are_rising, follow_first}
use Rattle.lsm_table.proofs.Orders.{Before, IsNotAfter, keys_rise, itself_at_most, at_most_along, next_before, later_pairs, front_pairs}
use Rattle.lsm_codec.proofs.KeyOrder.{is_lt_Less}
use Rattle.lsm_table.proofs.Orders.{before_along}

-- ---- a walk along edges

-- one edge before the next, and the rest to test
pub goes_on : (edges : List Edge) (i : ℕ) (d e : Edge) (r : Bool) → 1 ≤ i → i < length edges → d ≡ get_or edges (i - 1) d → e ≡ get_or edges i e → r ≡ is_edge_before d e → are_rising (drop (i - 1) edges) ≡ (r && are_rising (drop i edges))
goes_on edges i d e r low lt is_d is_e tested =
    let step : (i - 1) + 1 ≡ i = omega arith in
    let two : drop i edges ≡ e ∷ drop (i + 1) edges = drop_more edges i e lt ∙ ap (λ (x : Edge). x ∷ drop (i + 1) edges) (sym is_e) in
    let one : drop (i - 1) edges ≡ d ∷ drop i edges = drop_more edges (i - 1) d (omega arith) ∙ ap (λ (x : Edge). x ∷ drop ((i - 1) + 1) edges) (sym is_d) ∙ ap (λ (k : ℕ). d ∷ drop k edges) step in
    ap are_rising (one ∙ ap (λ (es : List Edge). d ∷ es) two) ∙ ap (λ (b : Bool). b && are_rising (e ∷ drop (i + 1) edges)) (sym tested) ∙ ap (λ (es : List Edge). r && are_rising es) (sym two)

pub falls : (edges : List Edge) (i : ℕ) (d e : Edge) (r : Bool) → 1 ≤ i → i < length edges → d ≡ get_or edges (i - 1) d → e ≡ get_or edges i e → r ≡ is_edge_before d e → r ≡ false → are_rising (drop (i - 1) edges) ≡ are_rising edges → false ≡ are_rising edges
falls edges i d e r low lt is_d is_e tested low_is so_far = sym (goes_on edges i d e r low lt is_d is_e tested ∙ ap (λ (b : Bool). b && are_rising (drop i edges)) low_is) ∙ so_far

pub rises : (edges : List Edge) (i : ℕ) (d e : Edge) (r : Bool) → 1 ≤ i → i < length edges → d ≡ get_or edges (i - 1) d → e ≡ get_or edges i e → r ≡ is_edge_before d e → r ≡ true → are_rising (drop (i - 1) edges) ≡ are_rising edges → are_rising (drop ((i + 1) - 1) edges) ≡ are_rising edges
rises edges i d e r low lt is_d is_e tested high_is so_far =
    let same : (i + 1) - 1 ≡ i = omega arith in
    ap (λ (k : ℕ). are_rising (drop k edges)) same ∙ sym (goes_on edges i d e r low lt is_d is_e tested ∙ ap (λ (b : Bool). b && are_rising (drop i edges)) high_is) ∙ so_far

short : (edges : List Edge) → length edges ≤ 1 → are_rising edges ≡ true
short [] le = refl
short (e ∷ []) le = refl
short (e ∷ f ∷ edges) le = absurd (omega arith)

pub all_rise : (edges : List Edge) (i : ℕ) → 1 ≤ i → length edges ≤ i → are_rising (drop (i - 1) edges) ≡ are_rising edges → true ≡ are_rising edges
all_rise edges i low le so_far = sym (short (drop (i - 1) edges) (omega (arith, length-drop (i - 1) edges))) ∙ so_far

-- ---- the edges of a table

-- the last entry of a block comes before what the block comes before
last_before : (v : Version) (block : Block) (w : Version) (more : List Version) → Pairwise Before ((v ∷ block) ++ w ∷ more) → (is_edge_before (last_edge v block) (record { key = w.key; number = w.number }) ≡ true)
last_before v [] w more ordered = ap is_lt (next_before v w more ordered)
last_before v (x ∷ block) w more ordered = last_before x block w more ordered.1

abbrev Stands : Edge → Edge → Type 0
Stands d e = is_edge_before d e ≡ true

before_last : (d : Edge) (v : Version) (block : Block) → Stands d (record { key = v.key; number = v.number }) → Pairwise Before (v ∷ block) → Stands d (last_edge v block)
before_last d v [] stands ordered = stands
before_last d v (w ∷ block) stands ordered =
    let u : Version = record { key = d.key; number = d.number; value = None } in
    let next : Before u w = before_along u v w (is_lt_Less (entry_order u v) stands) (next_before v w block ordered) in
    before_last d w block (ap is_lt next) ordered.1

pub edges_rise : (table : TableBlocks) → AllByRecursion (λ block. 0 < length block) table → Pairwise Before (entries_of table) → are_rising (edges_of table) ≡ true
edges_rise [] some ordered = refl
edges_rise ([] ∷ table) some ordered = absurd (omega (arith, some.0))
edges_rise ((v ∷ block) ∷ []) some ordered = refl
edges_rise ((v ∷ block) ∷ [] ∷ table) some ordered = absurd (omega (arith, some.1.0))
edges_rise ((v ∷ block) ∷ (w ∷ next) ∷ table) some ordered =
    let rest : Pairwise Before (entries_of ((w ∷ next) ∷ table)) = later_pairs Before (v ∷ block) (entries_of ((w ∷ next) ∷ table)) ordered in
    and_from _ _
    (before_last (last_edge v block) w next (last_before v block w (next ++ entries_of table) ordered) (front_pairs (w ∷ next) (entries_of table) rest))
    (edges_rise ((w ∷ next) ∷ table) some.1 rest)

last_above : (low : Bytes) (v : Version) (block : Block) → IsNotAfter low v.key → Pairwise Before (v ∷ block) → IsNotAfter low (last_edge v block).key
last_above low v [] le ordered = le
last_above low v (w ∷ block) le ordered = last_above low w block (at_most_along low v.key w.key le (keys_rise v w (next_before v w block ordered))) ordered.1

pub edges_begin : (table : TableBlocks) → Pairwise Before (entries_of table) → AllByRecursion (λ block. 0 < length block) table → follow_first (first_key_of table) (edges_of table) ≡ true
edges_begin [] ordered some = refl
edges_begin ([] ∷ table) ordered some = absurd (omega (arith, some.0))
edges_begin ((v ∷ block) ∷ table) ordered some = not_from_false (is_gt (byte_order v.key (last_edge v block).key)) (last_above v.key v block (itself_at_most v.key) (front_pairs (v ∷ block) (entries_of table) ordered))
