-- Data blocks that are read one after the other.
use Rattle.std.proofs.Common.{◌≡◌, ⊎_elim, ◌⊎◌, ℕ, zero, suc, ◌+◌, ◌-◌, ◌*◌, ◌<◌, ◌≤◌, min, Bool, true, false, List, [], ◌∷◌, ◌++◌, length, take, drop, get_or, take-suc, refl, sym, ap, subst, ◌∙◌, arith}
use Rattle.std.proofs.lemmas.List.{length-drop, take_min, drop_min}
use Rattle.std.specs.Prelude.{sum_by}
use Rattle.std.proofs.lemmas.List.Concat.{flat_map-append}
use Rattle.std.proofs.lemmas.List.Sums.{sum_by-cons, sum_by-append, sum_by-take-le}
use Rattle.lsm_device.specs.declared.refusal.Refusal.{Refusal}
use Rattle.lsm_device.specs.declared.refusal.Refusal.TheVariants.{NoMemory, BadTable}
use Rattle.lsm_device.specs.declared.calls.Calls.{Calls}
use Rattle.lsm_device.specs.Calls.{faults_after}
use Rattle.lsm_device.specs.Medium.{Medium}
use Rattle.lsm_device.specs.Refusals.{is_no_fault}
use Rattle.lsm_device.proofs.Counting.{none_made, AtMost-joined}
use Rattle.lsm_codec.specs.Versions.{Version, AreOrdered}
use Rattle.lsm_codec.specs.Entries.{entries_in}
use Rattle.lsm_cache.specs.Reads.{block_at, after_reads, FaultsAmong}
use Rattle.lsm_device.proofs.RunCounts.{reads_are, fault_is, one_fault, faults_made}
use Rattle.lsm_levels.specs.Tables.{Table}
use Rattle.lsm_levels.specs.Asking.{OnlyReads, sector_of}
use Rattle.lsm_levels.specs.Stored.{blocks_from}
use Rattle.lsm_levels.proofs.LookingUp.{more_reads}
use Rattle.lsm_table.proofs.Items.{Item}
use Rattle.lsm_jobs.specs.Gathering.{data_blocks, blocks_in, items_in, GoesOn, ReadsBlocks}
use Rattle.lsm_jobs.proofs.GoingOn.{SameEnd, then_end, joined, none_with_more, ended}

-- ---- what is done to the device

pub nothing_read : (m : Medium) → ReadsBlocks 0 true m m
nothing_read m = record {
  calls = none_made 0 0 0 m.calls;
  faults = refl;
  stops = λ e. absurd cc;
  only_reads = record { same_size = refl; same_lasting = refl; unchanged = λ t. refl };
  untouched = λ none. refl;
  some = λ e. absurd cc;
}

pub block_read : (old new : Medium) → new.calls ≡ after_reads 8 old.calls → OnlyReads old new → ReadsBlocks 1 true old new
block_read old new is reads = record {
  calls = reads_are 8 old.calls new.calls is;
  faults = ap (λ (c : Calls). c.faults) is ∙ faults_made 8 old.calls;
  stops = λ e. absurd cc;
  only_reads = reads;
  untouched = λ none. absurd (omega (arith, none));
  some = λ e. omega arith;
}

pub block_faulted : (old new : Medium) → FaultsAmong 8 old.calls new.calls → OnlyReads old new → ReadsBlocks 1 false old new
block_faulted old new fault reads = record {
  calls = fault_is 8 old.calls new.calls fault;
  faults = one_fault 8 old.calls new.calls fault;
  stops = λ e. ap (λ (c : Calls). c.last_faulted) fault.counted;
  only_reads = reads;
  untouched = λ none. absurd (omega (arith, none));
  some = λ e. omega arith;
}

pub reads_then : (i n m : ℕ) (ok : Bool) (a b c : Medium) → i + n ≤ m → ReadsBlocks i true a b → ReadsBlocks n ok b c → ReadsBlocks m ok a c
reads_then i n m ok a b c room first then_ = record {
  calls = AtMost-joined (8 * i) 0 0 (8 * n) 0 0 (8 * m) 0 0 a.calls b.calls c.calls (omega (arith, room)) (omega arith) (omega arith) first.calls then_.calls;
  faults = then_.faults ∙ ap (faults_after ok) first.faults;
  stops = then_.stops;
  only_reads = more_reads a b c first.only_reads then_.only_reads;
  untouched = λ none. then_.untouched (omega (arith, room, none)) ∙ first.untouched (omega (arith, room, none));
  some = λ bad. omega (arith, room, then_.some bad);
}

-- with room for more of them, or with just these
pub reads_within : (n m : ℕ) (ok : Bool) (old new : Medium) → n ≤ m → ReadsBlocks n ok old new → ReadsBlocks m ok old new
reads_within n m ok old new room reads = reads_then 0 n m ok old old new (omega (arith, room)) (nothing_read old) reads

pub no_fault : (e : Refusal) → (e ≡ BadTable) ⊎ (e ≡ NoMemory) → is_no_fault e ≡ true
no_fault e = ⊎_elim (λ h. ap is_no_fault h) (λ h. ap is_no_fault h)

-- ---- blocks from a sector on

module _ (sectors : List (List ℕ)) where
  items_at : ℕ → ℕ → List Item
  items_at at n = items_in (blocks_from sectors at n)

  -- what is left after i of some blocks
  abbrev pub items_left : ℕ → ℕ → ℕ → List Item
  items_left sector blocks i = items_in (blocks_from sectors (sector + 8 * i) (blocks - i))

  one_block : (sector blocks i : ℕ) → i < blocks → items_left sector blocks i ≡ entries_in (block_at sectors (sector + 8 * i)) ++ items_left sector blocks (i + 1)
  one_block sector blocks i below =
      let count : blocks - i ≡ suc (blocks - (i + 1)) = omega (arith, below) in
      let next : (sector + 8 * i) + 8 ≡ sector + 8 * (i + 1) = omega arith in
      ap (λ (n : ℕ). items_in (blocks_from sectors (sector + 8 * i) n)) count
      ∙ ap (λ (at : ℕ). entries_in (block_at sectors (sector + 8 * i)) ++ items_in (blocks_from sectors at (blocks - (i + 1)))) next

  pub none_added : (sector blocks : ℕ) (run : List Version) → SameEnd run (items_left sector blocks 0) run (items_in (blocks_from sectors sector blocks))
  none_added sector blocks run =
      let at : sector + 8 * 0 ≡ sector = omega arith in
      let count : blocks - 0 ≡ blocks = omega arith in
      let same : items_left sector blocks 0 ≡ items_in (blocks_from sectors sector blocks) = ap (λ (k : ℕ). items_in (blocks_from sectors k (blocks - 0))) at ∙ ap (λ (n : ℕ). items_in (blocks_from sectors sector n)) count in
      record { there = λ new h. subst (λ (l : List Item). GoesOn run l new) same h; back = λ new h. subst (λ (l : List Item). GoesOn run l new) (sym same) h }

  pub block_added : (sector blocks i : ℕ) (run new run0 : List Version) (whole : List Item) → i < blocks → SameEnd run (items_left sector blocks i) run0 whole
      → GoesOn run (entries_in (block_at sectors (sector + 8 * i))) new → SameEnd new (items_left sector blocks (i + 1)) run0 whole
  block_added sector blocks i run new run0 whole below same added =
      let first = entries_in (block_at sectors (sector + 8 * i)) in
      let rest = items_left sector blocks (i + 1) in
      then_end new rest run (first ++ rest) run0 whole (joined run new first rest added) (subst (λ (l : List Item). SameEnd run l run0 whole) (one_block sector blocks i below) same)

  pub block_refused : (sector blocks i : ℕ) (run run0 : List Version) (whole : List Item) → i < blocks → SameEnd run (items_left sector blocks i) run0 whole
      → ((new : List Version) → GoesOn run (entries_in (block_at sectors (sector + 8 * i))) new → ⊥) → (new : List Version) → GoesOn run0 whole new → ⊥
  block_refused sector blocks i run run0 whole below same none new h =
      none_with_more run (entries_in (block_at sectors (sector + 8 * i))) (items_left sector blocks (i + 1)) none new (subst (λ (l : List Item). GoesOn run l new) (one_block sector blocks i below) (same.back new h))

  pub all_added : (sector blocks i : ℕ) (run run0 : List Version) (whole : List Item) → i ≡ blocks → AreOrdered run → SameEnd run (items_left sector blocks i) run0 whole → GoesOn run0 whole run
  all_added sector blocks i run run0 whole end ordered same =
      let none : blocks - i ≡ 0 = omega (arith, end) in
      same.there run (subst (λ (n : ℕ). GoesOn run (items_in (blocks_from sectors (sector + 8 * i) n)) run) (sym none) (ended run ordered))

-- ---- parts of lists

pub take_parts : {X : Type 0} (k : ℕ) (xs ys : List X) → take k (xs ++ ys) ≡ take k xs ++ take (k - length xs) ys
take_parts zero xs ys = let none : 0 - length xs ≡ 0 = omega arith in sym (ap (λ (n : ℕ). take n ys) none)
take_parts (suc k) [] ys = let all : suc k - 0 ≡ suc k = omega arith in sym (ap (λ (n : ℕ). take n ys) all)
take_parts (suc k) (x ∷ xs) ys =
    let same : suc k - suc (length xs) ≡ k - length xs = omega arith in
    ap (λ l. x ∷ l) (take_parts k xs ys) ∙ sym (ap (λ (n : ℕ). x ∷ (take k xs ++ take n ys)) same)

pub drop_parts : {X : Type 0} (k : ℕ) (xs ys : List X) → drop k (xs ++ ys) ≡ drop k xs ++ drop (k - length xs) ys
drop_parts zero xs ys = let none : 0 - length xs ≡ 0 = omega arith in sym (ap (λ (n : ℕ). xs ++ drop n ys) none)
drop_parts (suc k) [] ys = let all : suc k - 0 ≡ suc k = omega arith in sym (ap (λ (n : ℕ). drop n ys) all)
drop_parts (suc k) (x ∷ xs) ys =
    let same : suc k - suc (length xs) ≡ k - length xs = omega arith in
    drop_parts k xs ys ∙ sym (ap (λ (n : ℕ). drop k xs ++ drop n ys) same)

-- of two lists, `left` entries after the first `skip`
window : {X : Type 0} (left skip first count : ℕ) (xs ys : List X) → first ≡ min skip (length xs) → count ≡ min left (length xs - first) →
    take left (drop skip (xs ++ ys)) ≡ take count (drop first xs) ++ take (left - count) (drop (skip - first) ys)
window left skip first count xs ys f n =
    let dropped : drop skip xs ≡ drop first xs = sym (ap (λ (k : ℕ). drop k xs) f ∙ drop_min skip xs) in
    let size : length (drop first xs) ≡ length xs - first = length-drop first xs in
    let over : skip - length xs ≡ skip - first = omega (arith, f) in
    let taken : take left (drop first xs) ≡ take count (drop first xs) = sym (ap (λ (k : ℕ). take k (drop first xs)) (n ∙ ap (min left) (sym size)) ∙ take_min left (drop first xs)) in
    let more : left - length (drop first xs) ≡ left - count = omega (arith, size, n) in
    ap (take left) (drop_parts skip xs ys ∙ ap (λ l. l ++ drop (skip - length xs) ys) dropped ∙ ap (λ (k : ℕ). drop first xs ++ drop k ys) over)
    ∙ take_parts left (drop first xs) (drop (skip - first) ys)
    ∙ ap (λ l. l ++ take (left - length (drop first xs)) (drop (skip - first) ys)) taken
    ∙ ap (λ (k : ℕ). take count (drop first xs) ++ take k (drop (skip - first) ys)) more

-- ---- blocks of tables

pub some_tables : (tables : List Table) (i : ℕ) → data_blocks (take i tables) ≤ data_blocks tables
some_tables tables i = sum_by-take-le (λ (t : Table). length t.outline.edges) tables i

-- with one table more
pub one_table_more : (tables : List Table) (i : ℕ) (t : Table) → i < length tables → t ≡ get_or tables i t → (data_blocks (take (i + 1) tables) ≡ data_blocks (take i tables) + length t.outline.edges) × (data_blocks (take (i + 1) tables) ≤ data_blocks tables)
one_table_more tables i t within at =
    let next : i + 1 ≡ suc i = omega arith in
    let edges : Table → ℕ = λ (u : Table). length u.outline.edges in
    let alone : sum_by edges (t ∷ []) ≡ length t.outline.edges + 0 = sum_by-cons edges t [] in
    let parts : take (i + 1) tables ≡ take i tables ++ t ∷ [] = ap (λ (k : ℕ). take k tables) next ∙ take-suc tables i t within ∙ ap (λ (u : Table). take i tables ++ u ∷ []) (sym at) in
    let sum : sum_by edges (take (i + 1) tables) ≡ sum_by edges (take i tables) + sum_by edges (t ∷ []) = ap (sum_by edges) parts ∙ sum_by-append edges (take i tables) (t ∷ []) in
    (omega (arith, sum, alone), some_tables tables (i + 1))

module _ (sectors : List (List ℕ)) where
  pub length-blocks_from : (at n : ℕ) → length (blocks_from sectors at n) ≡ n
  length-blocks_from at zero = refl
  length-blocks_from at (suc n) = ap suc (length-blocks_from (at + 8) n)

  behind : (first at n : ℕ) → first ≤ n → drop first (blocks_from sectors at n) ≡ blocks_from sectors (at + 8 * first) (n - first)
  behind zero at n le =
      let here : at + 8 * 0 ≡ at = omega arith in
      let all : n - 0 ≡ n = omega arith in
      sym (ap (λ (k : ℕ). blocks_from sectors k (n - 0)) here ∙ ap (blocks_from sectors at) all)
  behind (suc first) at zero le = absurd (omega (arith, le))
  behind (suc first) at (suc n) le =
      let next : at + 8 + 8 * first ≡ at + 8 * suc first = omega arith in
      let left : n - first ≡ suc n - suc first = omega arith in
      behind first (at + 8) n (omega (arith, le)) ∙ ap (λ (k : ℕ). blocks_from sectors k (n - first)) next ∙ ap (blocks_from sectors (at + 8 * suc first)) left

  front : (count at n : ℕ) → count ≤ n → take count (blocks_from sectors at n) ≡ blocks_from sectors at count
  front zero at n le = refl
  front (suc count) at zero le = absurd (omega (arith, le))
  front (suc count) at (suc n) le = ap (λ (l : List (List ℕ)). block_at sectors at ∷ l) (front count (at + 8) n (omega (arith, le)))

  some_blocks : (at n first count : ℕ) → first + count ≤ n → take count (drop first (blocks_from sectors at n)) ≡ blocks_from sectors (at + 8 * first) count
  some_blocks at n first count room = ap (take count) (behind first at n (omega (arith, room))) ∙ front count (at + 8 * first) (n - first) (omega (arith, room))

  -- the entries of `left` data blocks of tables, after the first `skip`
  abbrev pub items_behind : ℕ → List Table → ℕ → ℕ → List Item
  items_behind area tables skip left = items_in (take left (drop skip (blocks_in sectors area tables)))

  one_table : (area : ℕ) (t : Table) (rest : List Table) (skip left first count sector : ℕ) → first ≡ min skip (length t.outline.edges) → count ≡ min left (length t.outline.edges - first) → sector ≡ area + 8 * (t.start + first)
      → items_behind area (t ∷ rest) skip left ≡ items_in (blocks_from sectors sector count) ++ items_behind area rest (skip - first) (left - count)
  one_table area t rest skip left first count sector f n at =
      let own = blocks_from sectors (sector_of area t 0) (length t.outline.edges) in
      let size : length own ≡ length t.outline.edges = length-blocks_from (sector_of area t 0) (length t.outline.edges) in
      let begin : sector_of area t 0 + 8 * first ≡ sector = omega (arith, at) in
      let others = blocks_in sectors area rest in
      let room : first + count ≤ length t.outline.edges = omega (arith, f, n) in
      ap items_in (window left skip first count own others (f ∙ ap (min skip) (sym size)) (n ∙ ap (λ (k : ℕ). min left (k - first)) (sym size))
      ∙ ap (λ (l : List (List ℕ)). l ++ take (left - count) (drop (skip - first) others)) (some_blocks (sector_of area t 0) (length t.outline.edges) first count room ∙ ap (λ (k : ℕ). blocks_from sectors k count) begin))
      ∙ flat_map-append entries_in (blocks_from sectors sector count) (take (left - count) (drop (skip - first) others))

  pub table_added : (area : ℕ) (t : Table) (rest : List Table) (skip left first count sector : ℕ) (run new run0 : List Version) (whole : List Item)
      → first ≡ min skip (length t.outline.edges) → count ≡ min left (length t.outline.edges - first) → sector ≡ area + 8 * (t.start + first)
      → SameEnd run (items_behind area (t ∷ rest) skip left) run0 whole → GoesOn run (items_in (blocks_from sectors sector count)) new → SameEnd new (items_behind area rest (skip - first) (left - count)) run0 whole
  table_added area t rest skip left first count sector run new run0 whole f n at same added =
      let own = items_in (blocks_from sectors sector count) in
      let others = items_behind area rest (skip - first) (left - count) in
      then_end new others run (own ++ others) run0 whole (joined run new own others added) (subst (λ (l : List Item). SameEnd run l run0 whole) (one_table area t rest skip left first count sector f n at) same)

  pub table_refused : (area : ℕ) (t : Table) (rest : List Table) (skip left first count sector : ℕ) (run run0 : List Version) (whole : List Item)
      → first ≡ min skip (length t.outline.edges) → count ≡ min left (length t.outline.edges - first) → sector ≡ area + 8 * (t.start + first)
      → SameEnd run (items_behind area (t ∷ rest) skip left) run0 whole → ((new : List Version) → GoesOn run (items_in (blocks_from sectors sector count)) new → ⊥) → (new : List Version) → GoesOn run0 whole new → ⊥
  table_refused area t rest skip left first count sector run run0 whole f n at same none new h =
      none_with_more run (items_in (blocks_from sectors sector count)) (items_behind area rest (skip - first) (left - count)) none new
      (subst (λ (l : List Item). GoesOn run l new) (one_table area t rest skip left first count sector f n at) (same.back new h))

  none_behind : (left : ℕ) (skip : ℕ) → items_in (take left (drop skip [])) ≡ []
  none_behind zero skip = refl
  none_behind (suc left) zero = refl
  none_behind (suc left) (suc skip) = refl

  pub tables_added : (area skip left : ℕ) (run run0 : List Version) (whole : List Item) → AreOrdered run → SameEnd run (items_behind area [] skip left) run0 whole → GoesOn run0 whole run
  tables_added area skip left run run0 whole ordered same = same.there run (subst (λ (l : List Item). GoesOn run l run) (sym (none_behind left skip)) (ended run ordered))
