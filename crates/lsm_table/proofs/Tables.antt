-- A division with one more table before the others.
use Rattle.std.proofs.Common.{◌≡◌, ◌≢◌, ℕ, ◌+◌, ◌<◌, List, [], ◌∷◌, ◌++◌, length, take, drop, get_or, refl, sym, ap, subst, ◌∙◌, append_assoc, arith}
use Rattle.std.specs.Prelude.{count_by, cond}
use Rattle.std.specs.List.{AllByRecursion, flat_map}
use Rattle.std.proofs.lemmas.List.Elements.{All-from_recursion}
use Rattle.std.proofs.lemmas.List.{take-append-drop, drop-drop, drop_more, length-append, length-take-le}
use Rattle.std.proofs.lemmas.List.Sums.{sum_by-append}
use Rattle.lsm_codec.proofs.Lists.{all_left, all_right}
use Rattle.lsm_codec.specs.Versions.{Version, IsEntry, is_same_key}
use Rattle.lsm_codec.specs.Pairs.{Pairwise}
use Rattle.lsm_table.specs.Division.{IsInput, TableBlocks, entries_of, blocks, first_group, AllAdjacent, IsBlocks, KeepsLimits, IsTooMuch, ShareNoKey, IsTables, IsTable}
use Rattle.lsm_table.specs.Laws.{OneLayout}
use Rattle.lsm_table.specs.Counting.{EndsTable, EndTables}
use Rattle.lsm_table.specs.Filled.{AreNextBlocks}
use Rattle.lsm_table.proofs.Blocks.{Fits, only_blocks, are_blocks, blocks_some}
use Rattle.lsm_table.proofs.Groups.{first_group_apart}
use Rattle.lsm_table.proofs.Orders.{Before, later_pairs, front_pairs}
use Rattle.lsm_table.proofs.OneDivision.{some_entries, apart_from_all}

pub they_fit : (entries : List Version) → AllByRecursion IsEntry entries → Fits entries
they_fit [] all = tt
they_fit (v ∷ entries) all = (omega (arith, all.0.key.1, all.0.value), they_fit entries all.1)

pub rest_input : (entries rest : List Version) (n : ℕ) → rest ≡ drop n entries → IsInput entries → IsInput rest
rest_input entries rest n e input =
    let whole : entries ≡ take n entries ++ rest = sym (take-append-drop n entries) ∙ ap (λ (es : List Version). take n entries ++ es) (sym e) in
    record {
      ordered = later_pairs Before (take n entries) rest (subst (λ (es : List Version). Pairwise Before es) whole input.ordered);
      few = λ key.
          omega (arith, input.few key, ap (λ (es : List Version). count_by (λ v. is_same_key key v.key) es) whole, sum_by-append (λ (v : Version). cond (is_same_key key v.key) 1 0) (take n entries) rest);
    }

module _ (entries : List Version) (n : ℕ) (made : TableBlocks) (ends : EndsTable entries n) (versions : AllByRecursion IsEntry (take n entries)) (is_made : made ≡ blocks (take n entries)) (ordered : Pairwise Before entries) where
  some_taken : 0 < length (take n entries)
  some_taken = omega (arith, ends.some, length-take-le n entries ends.inside)

  made_blocks : IsBlocks (take n entries) made
  made_blocks = subst (λ (t : TableBlocks). IsBlocks (take n entries) t) (sym is_made) (are_blocks (take n entries) some_taken (they_fit (take n entries) versions))

  made_joined : entries_of made ≡ take n entries
  made_joined = made_blocks.whole

  pub made_count : n ≡ length (entries_of made)
  made_count = omega (arith, ap (λ (es : List Version). length es) made_joined, length-take-le n entries ends.inside)

  made_some : 0 < length made
  made_some = omega (arith, ap (λ (t : TableBlocks). length t) is_made, blocks_some (take n entries))

  made_in_blocks : IsBlocks (entries_of made) made
  made_in_blocks = record { whole = refl; nonempty = made_blocks.nonempty; fits = made_blocks.fits; full = made_blocks.full }

  made_within : KeepsLimits (entries_of made)
  made_within = subst KeepsLimits (sym made_joined) ends.within

  front_ordered : Pairwise Before (take n entries)
  front_ordered = front_pairs (take n entries) (drop n entries) (subst (λ (es : List Version). Pairwise Before es) (sym (take-append-drop n entries)) ordered)

  pub is_table : IsTable made
  is_table = record {
    nonempty = made_some;
    ordered = subst (λ (es : List Version). Pairwise Before es) (sym made_joined) front_ordered;
    versions = subst (λ (es : List Version). AllByRecursion IsEntry es) (sym made_joined) versions;
    in_blocks = made_in_blocks;
    within = made_within;
  }

  apart_parts : (these a b : List Version) → ShareNoKey these (a ++ b) → ShareNoKey these a × ShareNoKey these b
  apart_parts [] a b all = (tt, tt)
  apart_parts (v ∷ these) a b all =
      let h = apart_parts these a b all.1 in
      ((all_left (λ w. v.key ≢ w.key) a b all.0, h.0), (all_right (λ w. v.key ≢ w.key) a b all.0, h.1))

  apart_each : (these : List Version) (ts : List TableBlocks) → ShareNoKey these (flat_map entries_of ts) → AllByRecursion (λ other. ShareNoKey these (entries_of other)) ts
  apart_each these [] all = tt
  apart_each these (t ∷ ts) all = let h = apart_parts these (entries_of t) (flat_map entries_of ts) all in (h.0, apart_each these ts h.1)

  greedy_here : (tables : List TableBlocks) → IsTables (drop n entries) tables → AllAdjacent (λ table other. IsTooMuch (entries_of table ++ first_group (entries_of other))) (made ∷ tables)
  greedy_here [] is = tt
  greedy_here (next ∷ tables) is =
      let group : first_group (drop n entries) ≡ first_group (entries_of next) =
      ap first_group (sym is.whole) ∙ first_group_apart (entries_of next) (flat_map entries_of tables) (some_entries next is.nonempty.0 is.in_blocks.0) (apart_from_all (entries_of next) tables is.whole_keys.0) in
      let more : 0 < length (drop n entries) = omega (arith, some_entries next is.nonempty.0 is.in_blocks.0, length-append (entries_of next) (flat_map entries_of tables), ap (λ (es : List Version). length es) is.whole) in
      let first : take n entries ++ first_group (drop n entries) ≡ entries_of made ++ first_group (entries_of next) =
      ap (λ (es : List Version). es ++ first_group (drop n entries)) (sym made_joined) ∙ ap (λ (es : List Version). entries_of made ++ es) group in
      (subst IsTooMuch first (ends.greedy more), is.greedy)

  pub with_first : (tables : List TableBlocks) → IsTables (drop n entries) tables → IsTables entries (made ∷ tables)
  with_first tables is = record {
    whole = ap (λ (es : List Version). es ++ flat_map entries_of tables) made_joined ∙ ap (λ (es : List Version). take n entries ++ es) is.whole ∙ take-append-drop n entries;
    nonempty = (made_some, is.nonempty);
    in_blocks = (made_in_blocks, is.in_blocks);
    within = (made_within, is.within);
    whole_keys = (All-from_recursion (λ other. ShareNoKey (entries_of made) (entries_of other)) tables (apart_each (entries_of made) tables (subst (λ (es : List Version). ShareNoKey es (flat_map entries_of tables)) (sym made_joined) (subst (λ (es : List Version). ShareNoKey (take n entries) es) (sym is.whole) ends.whole_keys))), is.whole_keys);
    greedy = greedy_here tables is;
  }

-- ---- their lengths

-- one length more
pub lens_more : (entries : List Version) (done done' : List ℕ) (from n : ℕ) → done' ≡ done ++ n ∷ [] → EndsTable (drop from entries) n
    → ((lens : List ℕ) → EndTables (drop from entries) lens → EndTables entries (done ++ lens)) → (lens : List ℕ) → EndTables (drop (from + n) entries) lens → EndTables entries (done' ++ lens)
lens_more entries done done' from n pushed ends so_far lens rest =
    let regrouped : done ++ n ∷ lens ≡ done' ++ lens = sym (append_assoc done (n ∷ []) lens) ∙ ap (λ (ns : List ℕ). ns ++ lens) (sym pushed) in
    subst (EndTables entries) regrouped (so_far (n ∷ lens) (ends, subst (λ (es : List Version). EndTables es lens) (sym (drop-drop n from entries)) rest))

-- the next of the lengths
pub next_end : (entries : List Version) (lens : List ℕ) (i : ℕ) → i < length lens → EndTables entries (drop i lens) → EndsTable entries (get_or lens i 0) × EndTables (drop (get_or lens i 0) entries) (drop (i + 1) lens)
next_end entries lens i lt ends = subst (EndTables entries) (drop_more lens i 0 lt) ends

-- one table more is made
pub made_more : (entries left rest : List Version) (made made' : List TableBlocks) (n : ℕ) (table : TableBlocks) → made' ≡ made ++ table ∷ [] → IsInput left → EndsTable left n → AreNextBlocks table n left rest
    → ((tables : List TableBlocks) → IsTables left tables → IsTables entries (made ++ tables)) → (tables : List TableBlocks) → IsTables rest tables → IsTables entries (made' ++ tables)
made_more entries left rest made made' n table pushed input ends next so_far tables is =
    let others : IsTables (drop n left) tables = subst (λ (es : List Version). IsTables es tables) next.rest is in
    let regrouped : made ++ table ∷ tables ≡ made' ++ tables = sym (append_assoc made (table ∷ []) tables) ∙ ap (λ (ts : List TableBlocks). ts ++ tables) (sym pushed) in
    subst (IsTables entries) regrouped (so_far (table ∷ tables) (with_first left n table ends next.versions next.are input.ordered tables others))

pub none_left : (rest : List Version) → rest ≡ [] → IsTables rest []
none_left rest none = record { whole = sym none; nonempty = tt; in_blocks = tt; within = tt; whole_keys = tt; greedy = tt }

pub one_layout : OneLayout
one_layout = record { only = only_blocks; are = λ entries some all. are_blocks entries some (they_fit entries all) }
