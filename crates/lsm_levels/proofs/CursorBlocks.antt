-- The data blocks of tables.
use Rattle.std.proofs.Common.{◌≡◌, ℕ, zero, suc, ◌+◌, ◌-◌, ◌*◌, ◌<◌, ◌≤◌, ◌^◌, Bool, true, false, cond, List, [], ◌∷◌, ◌++◌, length, drop, filter, slice_get, get_or, Some, None, refl, ap, sym, subst, ◌∙◌, arith}
use Rattle.std.specs.List.{AllByRecursion}
use Rattle.lsm_codec.specs.Keys.{Bytes}
use Rattle.lsm_codec.specs.Indexes.{Edge}
use Rattle.lsm_table.specs.BlockEdges.{last_key}
use Rattle.lsm_table.specs.Outlines.{Outline}
use Rattle.lsm_table.specs.Places.{ends_before, blocks_before}
use Rattle.lsm_levels.specs.Tables.{Table, at_most}
use Rattle.lsm_levels.specs.Asking.{placed_block}
use Rattle.lsm_levels.specs.Cursors.{AreLeft, EndsWithin, blocks_at, blocks_of_table, blocks_of, blocks_left, blocks_from_key, first_count, passed_blocks}
use Rattle.lsm_levels.specs.Stored.{LiesWithin}
use Rattle.lsm_levels.specs.declared.placed.PlacedBlock.{PlacedBlock}
use Rattle.lsm_levels.proofs.KeyOrder.{below_not}
use Rattle.lsm_codec.proofs.Lists.{all_append, all_left, all_right, all_filter}

-- ---- what holds of all blocks

all_at : (Q : PlacedBlock → Type 0) (area : ℕ) (t : Table) (place : ℕ) (edges : List Edge) → ((i : ℕ) → i < length edges → Q (placed_block area t (place + i))) → AllByRecursion Q (blocks_at area t place edges)
all_at Q area t place [] each = tt
all_at Q area t place (e ∷ edges) each =
    let here : place + 0 ≡ place = omega arith in
    (subst (λ (k : ℕ). Q (placed_block area t k)) here (each 0 (omega arith)), all_at Q area t (place + 1) edges later)
  where
    later : (i : ℕ) → i < length edges → Q (placed_block area t ((place + 1) + i))
    later i lt =
        let same : place + suc i ≡ (place + 1) + i = omega arith in
        subst (λ (k : ℕ). Q (placed_block area t k)) same (each (suc i) (omega (arith, lt)))

-- what holds of each block of tables that are such
pub all_blocks : (P : Table → Type 0) (Q : PlacedBlock → Type 0) (area : ℕ) → ((t : Table) (i : ℕ) → P t → i < length t.outline.edges → Q (placed_block area t i)) → (run : List Table) → AllByRecursion P run → AllByRecursion Q (blocks_of area run)
all_blocks P Q area each [] all = tt
all_blocks P Q area each (t ∷ rest) all =
    all_append Q (blocks_of_table area t) (blocks_of area rest) (all_at Q area t 0 t.outline.edges here) (all_blocks P Q area each rest all.1)
  where
    here : (i : ℕ) → i < length t.outline.edges → Q (placed_block area t (0 + i))
    here i lt =
        let same : i ≡ 0 + i = omega arith in
        subst (λ (k : ℕ). Q (placed_block area t k)) same (each t i all.0 lt)

-- ---- blocks that are left

pub all_dropped : {X : Type 0} (P : X → Type 0) (n : ℕ) (xs : List X) → AllByRecursion P xs → AllByRecursion P (drop n xs)
all_dropped P zero xs h = h
all_dropped P (suc n) [] h = tt
all_dropped P (suc n) (x ∷ xs) h = all_dropped P n xs h.1

pub left_of_all : (Q : PlacedBlock → Type 0) (area n : ℕ) (tables : List Table) → AllByRecursion Q (blocks_of area tables) → AllByRecursion Q (blocks_left area n tables)
left_of_all Q area n [] all = tt
left_of_all Q area n (t ∷ rest) all =
    all_append Q (drop n (blocks_of_table area t)) (blocks_of area rest) (all_dropped Q n (blocks_of_table area t) (all_left Q (blocks_of_table area t) (blocks_of area rest) all)) (all_right Q (blocks_of_table area t) (blocks_of area rest) all)

all_left_over : (area : ℕ) (rest : List Table) → blocks_left area 0 rest ≡ blocks_of area rest
all_left_over area [] = refl
all_left_over area (t ∷ rest) = refl

dropped_at : (area : ℕ) (t : Table) (place n : ℕ) (edges : List Edge) → n < length edges → drop n (blocks_at area t place edges) ≡ placed_block area t (place + n) ∷ drop (n + 1) (blocks_at area t place edges)
dropped_at area t place n [] lt = absurd (omega (arith, lt))
dropped_at area t place zero (e ∷ edges) lt =
    let same : place ≡ place + 0 = omega arith in
    ap (λ (k : ℕ). placed_block area t k ∷ blocks_at area t (place + 1) edges) same
dropped_at area t place (suc n) (e ∷ edges) lt =
    let same : (place + 1) + n ≡ place + suc n = omega arith in
    let behind : suc (n + 1) ≡ suc n + 1 = omega arith in
    dropped_at area t (place + 1) n edges (omega (arith, lt)) ∙ ap (λ (k : ℕ). placed_block area t k ∷ drop (n + 1) (blocks_at area t (place + 1) edges)) same
    ∙ ap (λ (m : ℕ). placed_block area t (place + suc n) ∷ drop m (blocks_at area t place (e ∷ edges))) behind

none_at : (area : ℕ) (t : Table) (place n : ℕ) (edges : List Edge) → length edges ≤ n → drop n (blocks_at area t place edges) ≡ []
none_at area t place zero [] le = refl
none_at area t place (suc n) [] le = refl
none_at area t place zero (e ∷ edges) le = absurd (omega (arith, le))
none_at area t place (suc n) (e ∷ edges) le = none_at area t (place + 1) n edges (omega (arith, le))

-- the block at a place comes next
pub next_left : (area : ℕ) (t : Table) (rest : List Table) (n : ℕ) → n < length t.outline.edges → blocks_left area n (t ∷ rest) ≡ placed_block area t n ∷ blocks_left area (n + 1) (t ∷ rest)
next_left area t rest n lt =
    let same : 0 + n ≡ n = omega arith in
    ap (λ (bs : List PlacedBlock). bs ++ blocks_of area rest) (dropped_at area t 0 n t.outline.edges lt) ∙ ap (λ (k : ℕ). placed_block area t k ∷ blocks_left area (n + 1) (t ∷ rest)) same

-- after the last block of a table come those of the next tables
pub table_passed : (area : ℕ) (t : Table) (rest : List Table) (n : ℕ) → length t.outline.edges ≤ n → blocks_left area n (t ∷ rest) ≡ blocks_left area 0 rest
table_passed area t rest n le = ap (λ (bs : List PlacedBlock). bs ++ blocks_of area rest) (none_at area t 0 n t.outline.edges le) ∙ sym (all_left_over area rest)

-- ---- a key's first block

passed_few : (key : Bytes) (edges : List Edge) → at_most key (last_key edges) ≡ true → blocks_before key edges ≤ length edges - 1
passed_few key [] h = omega arith
passed_few key (e ∷ []) h = by (ends_before key e) refl
  where
    by : (b : Bool) → ends_before key e ≡ b → cond b 1 0 ≤ 0
    by false is = omega arith
    by true is = absurd (let clash : true ≡ false = sym h ∙ below_not e.key key is in cc)
passed_few key (e ∷ f ∷ edges) h = by (passed_few key (f ∷ edges) h) (ends_before key e)
  where
    by : blocks_before key (f ∷ edges) ≤ length (f ∷ edges) - 1 → (b : Bool) → cond b (suc (blocks_before key (f ∷ edges))) 0 ≤ length (e ∷ f ∷ edges) - 1
    by few true = omega (arith, few)
    by few false = omega arith

-- the first table has a block left, as it doesn't end before the key
pub passed_inside : (key : Bytes) (t : Table) (n : ℕ) → n ≡ blocks_before key t.outline.edges → t.last ≡ last_key t.outline.edges → at_most key t.last ≡ true → n ≤ length t.outline.edges - 1
passed_inside key t n is last h =
    let few : blocks_before key t.outline.edges ≤ length t.outline.edges - 1 = passed_few key t.outline.edges (sym (ap (at_most key) last) ∙ h) in
    omega (arith, few, is)

pub passed_inside_first : (key : Bytes) (tables : List Table) (t : Table) (n : ℕ) → 1 ≤ length tables → t ≡ get_or tables 0 t → AllByRecursion (λ u. at_most key u.last ≡ true) tables → n ≡ blocks_before key t.outline.edges → t.last ≡ last_key t.outline.edges → n ≤ first_count tables - 1
passed_inside_first key [] t n some is all counted last = absurd (omega (arith, some))
passed_inside_first key (u ∷ rest) t n some is all counted last =
    subst (λ (x : Table). n ≤ length x.outline.edges - 1) is (passed_inside key t n counted last (subst (λ (x : Table). at_most key x.last ≡ true) (sym is) all.0))

-- what a filter passes meets its test
pub filter_passes : {X : Type 0} (p : X → Bool) (xs : List X) → AllByRecursion (λ x. p x ≡ true) (filter p xs)
filter_passes p [] = tt
filter_passes p (x ∷ xs) = by (filter_passes p xs) (p x) refl
  where
    by : AllByRecursion (λ x. p x ≡ true) (filter p xs) → (b : Bool) → p x ≡ b → AllByRecursion (λ x. p x ≡ true) (cond b (x ∷ filter p xs) (filter p xs))
    by more true e = (e, more)
    by more false e = more

-- the blocks of tables that lie within the first `size` sectors do too
pub lying_blocks : (size area : ℕ) (run : List Table) → AllByRecursion (LiesWithin size area) run → AllByRecursion (EndsWithin size) (blocks_of area run)
lying_blocks size area run all = all_blocks (LiesWithin size area) (EndsWithin size) area (λ t i lies lt. omega (arith, lies.ends, lt)) run all

pub first_left : (area n : ℕ) (run tables : List Table) (key : Bytes) → tables ≡ filter (λ t. at_most key t.last) run → AllByRecursion (LiesWithin (2 ^ 32) area) run → n ≤ first_count tables - 1 → AreLeft area n tables
first_left area n run tables key is all inside = record {
  inside = inside;
  within = left_of_all (EndsWithin (2 ^ 32)) area n tables (lying_blocks (2 ^ 32) area tables (subst (AllByRecursion (LiesWithin (2 ^ 32) area)) (sym is) (all_filter (LiesWithin (2 ^ 32) area) (λ t. at_most key t.last) run all)));
}

-- ---- the next block

module _ (area n : ℕ) (tables : List Table) (t : Table) (rest : List Table) (e : tables ≡ t ∷ rest) (blocks : ℕ) (o : Outline) (s : o ≡ t.outline) (count : blocks ≡ length o.edges) (low : 1 ≤ blocks) (left : AreLeft area n tables) where
  all_counted : blocks ≡ length t.outline.edges
  all_counted = count ∙ ap (λ (x : Outline). length x.edges) s

  one_left : n < length t.outline.edges
  one_left =
      let few : n ≤ length t.outline.edges - 1 = subst (λ (ts : List Table). n ≤ first_count ts - 1) e left.inside in
      omega (arith, few, low, all_counted)

  splits : blocks_left area n tables ≡ placed_block area t n ∷ blocks_left area (n + 1) (t ∷ rest)
  splits = ap (blocks_left area n) e ∙ next_left area t rest n one_left

  each_within : AllByRecursion (EndsWithin (2 ^ 32)) (placed_block area t n ∷ blocks_left area (n + 1) (t ∷ rest))
  each_within = subst (AllByRecursion (EndsWithin (2 ^ 32))) splits left.within

  pub ends_low : area + 8 * (t.start + n) < 2 ^ 32
  ends_low =
      let within : (area + 8 * (t.start + n)) + 8 ≤ 2 ^ 32 = each_within.0 in
      omega (arith, within)

  pub left_then : n + 1 ≡ blocks → AreLeft area 0 rest
  left_then is =
      let le : length t.outline.edges ≤ n + 1 = omega (arith, is, all_counted) in
      record { inside = omega arith; within = subst (AllByRecursion (EndsWithin (2 ^ 32))) (table_passed area t rest (n + 1) le) each_within.1 }

  pub left_else : (n + 1 ≡ blocks → ⊥) → AreLeft area (n + 1) tables
  left_else other = record {
    inside = subst (λ (ts : List Table). n + 1 ≤ first_count ts - 1) (sym e) (omega (arith, one_left, all_counted, other));
    within = subst (λ (ts : List Table). AllByRecursion (EndsWithin (2 ^ 32)) (blocks_left area (n + 1) ts)) (sym e) each_within.1;
  }

  pub first_is : (now : List PlacedBlock) (b : PlacedBlock) → blocks_left area n tables ≡ now → b ≡ placed_block area t n → Some b ≡ slice_get now 0
  first_is now b view is = ap (λ (x : PlacedBlock). Some x) is ∙ sym (ap (λ (bs : List PlacedBlock). slice_get bs 0) (sym view ∙ splits))

  pub rest_then : (now : List PlacedBlock) → blocks_left area n tables ≡ now → n + 1 ≡ blocks → blocks_left area 0 rest ≡ drop 1 now
  rest_then now view is =
      let le : length t.outline.edges ≤ n + 1 = omega (arith, is, all_counted) in
      sym (table_passed area t rest (n + 1) le) ∙ sym (ap (drop 1) (sym view ∙ splits))

  pub rest_else : (now : List PlacedBlock) → blocks_left area n tables ≡ now → blocks_left area (n + 1) tables ≡ drop 1 now
  rest_else now view = ap (blocks_left area (n + 1)) e ∙ sym (ap (drop 1) (sym view ∙ splits))

-- ---- taking the first block

pub splits_at : (blocks left : List PlacedBlock) (b : PlacedBlock) → Some b ≡ slice_get blocks 0 → left ≡ drop 1 blocks → blocks ≡ b ∷ left
splits_at [] left b first rest = absurd cc
splits_at (x ∷ blocks) left b first rest =
    let same : x ≡ b = cc in
    ap (λ (y : PlacedBlock). y ∷ blocks) same ∙ ap (λ (bs : List PlacedBlock). b ∷ bs) (sym rest)

pub none_there : (blocks : List PlacedBlock) → None ≡ slice_get blocks 0 → blocks ≡ []
none_there [] e = refl
none_there (x ∷ blocks) e = absurd cc

-- the blocks from a key on lie within the sectors, where the tables do
pub from_within : (size area : ℕ) (key : Bytes) (run : List Table) → AllByRecursion (LiesWithin size area) run → AllByRecursion (EndsWithin size) (blocks_from_key area key run)
from_within size area key run all =
    let tables : List Table = filter (λ t. at_most key t.last) run in
    left_of_all (EndsWithin size) area (passed_blocks key tables) tables (lying_blocks size area tables (all_filter (LiesWithin size area) (λ t. at_most key t.last) run all))
