-- Tables of entries that are divided at keys.
use Rattle.std.proofs.Common.{◌≡◌, ◌≢◌, ℕ, suc, ◌+◌, ◌<◌, ◌≤◌, Bool, true, not, List, [], ◌∷◌, ◌++◌, length, take, drop, get_or, filter, append_assoc, add-one, drop-cons, length-drop, Some, None, refl, sym, ap, subst, ◌∙◌, arith}
use Rattle.std.specs.List.{AllByRecursion, flat_map}
use Rattle.std.specs.Ordering.{is_lt}
use Rattle.std.proofs.Math.Seq.{take-append_seam, drop-append_seam}
use Rattle.std.proofs.lemmas.Bool.{and_parts, false≢true}
use Rattle.std.proofs.lemmas.Grind.{flat_map-append}
use Rattle.std.proofs.lemmas.List.{nil_from_length}
use Rattle.std.proofs.lemmas.List.Elements.{All-append, All-from_recursion, recursion_from_All, filter_passes}
use Rattle.lsm_codec.specs.Keys.{Bytes, byte_order}
use Rattle.lsm_codec.specs.Pairs.{Pairwise}
use Rattle.lsm_codec.specs.Versions.{Version, AreOrdered}
use Rattle.lsm_codec.proofs.Lists.{all_append, all_left, all_right, all_map}
use Rattle.lsm_table.specs.Division.{TableBlocks, IsInput, IsTables, ShareNoKey, entries_of}
use Rattle.lsm_table.proofs.OneDivision.{one_division}
use Rattle.lsm_merge.specs.Divisions.{before, from, AreTablesAt, AreTables, DivisionLaw}
use Rattle.lsm_merge.specs.Inputs.{kept_of}
use Rattle.lsm_mem.specs.Versions.{joined}
use Rattle.lsm_merge.specs.Ranges.{is_from, is_until, is_within}
use Rattle.lsm_merge.specs.Results.{MergeResult}
use Rattle.lsm_merge.proofs.FewLaws.{filtered-IsInput}
use Rattle.lsm_mem.proofs.OrderTests.{tested, ordered_tested}
use Rattle.lsm_merge.proofs.PartLaws.{from_or_until, split_at_border, all_pass}
use Rattle.lsm_merge.proofs.RangeLaws.{is_in_order-keep}
use Rattle.lsm_mem.proofs.FirstLaws.{is_in_order-filter}

-- ---- the two sides of a key

pub sides : (key : Bytes) (entries : List Version) → AreOrdered entries → before key entries ++ from key entries ≡ entries
sides key entries ordered = split_at_border key None entries (tested entries ordered) (λ k until. refl) ∙ all_pass entries

parted : (n : ℕ) (xs front back : List Version) → front ++ back ≡ xs → n ≡ length front → (take n xs ≡ front) × (drop n xs ≡ back)
parted n xs front back whole len = (
  ap (λ (k : ℕ). take k xs) len ∙ ap (take (length front)) (sym whole) ∙ take-append_seam front back,
  ap (λ (k : ℕ). drop k xs) len ∙ ap (drop (length front)) (sym whole) ∙ drop-append_seam front back,
)

-- as many entries are before a key as pass its test
pub at_key : (n : ℕ) (key : Bytes) (entries passed : List Version) → AreOrdered entries → passed ≡ before key entries → n ≡ length passed → (take n entries ≡ before key entries) × (drop n entries ≡ from key entries)
at_key n key entries passed ordered is len = parted n entries (before key entries) (from key entries) (sides key entries ordered) (len ∙ ap (λ (vs : List Version). length vs) is)

ordered_part : (test : Version → Bool) (entries : List Version) → AreOrdered entries → AreOrdered (filter test entries)
ordered_part test entries ordered = ordered_tested (filter test entries) (is_in_order-filter test entries (tested entries ordered))

differ : (key k l : Bytes) → is_until (Some key) k ≡ true → is_from (Some key) l ≡ true → k ≢ l
differ key k l until from same =
    let early : is_lt (byte_order l key) ≡ true = subst (λ (x : Bytes). is_lt (byte_order x key) ≡ true) same until in
    false≢true (sym (ap not early) ∙ sym (from_or_until key l) ∙ from)

apart : (key : Bytes) (these others : List Version) → AllByRecursion (λ v. is_until (Some key) v.key ≡ true) these → AllByRecursion (λ w. is_from (Some key) w.key ≡ true) others → ShareNoKey these others
apart key these others early late = all_map (λ (v : Version) (until : is_until (Some key) v.key ≡ true). all_map (λ (w : Version) (since : is_from (Some key) w.key ≡ true). differ key v.key w.key until since) others late) these early

all_early : (key : Bytes) (entries : List Version) → AllByRecursion (λ v. is_until (Some key) v.key ≡ true) (before key entries)
all_early key entries = recursion_from_All (λ (v : Version). is_until (Some key) v.key ≡ true) (before key entries) (filter_passes (λ (v : Version). is_within None (Some key) v.key) entries)

all_late : (key : Bytes) (entries : List Version) → AllByRecursion (λ v. is_from (Some key) v.key ≡ true) (from key entries)
all_late key entries =
    all_map (λ (v : Version) (in' : is_within (Some key) None v.key ≡ true). (and_parts (is_from (Some key) v.key) true in').0) (from key entries)
    (recursion_from_All (λ (v : Version). is_within (Some key) None v.key ≡ true) (from key entries) (filter_passes (λ (v : Version). is_within (Some key) None v.key) entries))

-- ---- tables in two parts

each_of : (P : Version → Type 0) (tables : List TableBlocks) → AllByRecursion P (flat_map entries_of tables) → AllByRecursion (λ t. AllByRecursion P (entries_of t)) tables
each_of P [] all = tt
each_of P (t ∷ tables) all = (all_left P (entries_of t) (flat_map entries_of tables) all, each_of P tables (all_right P (entries_of t) (flat_map entries_of tables) all))

pairs_joined : {X : Type 0} (R : X → X → Type 0) (xs ys : List X) → Pairwise R xs → Pairwise R ys → AllByRecursion (λ x. AllByRecursion (R x) ys) xs → Pairwise R (xs ++ ys)
pairs_joined R [] ys these others across = others
pairs_joined R (x ∷ xs) ys these others across = (All-append (R x) xs ys these.0 (All-from_recursion (R x) ys across.0), pairs_joined R xs ys these.1 others across.1)

abbrev HaveNoKey : TableBlocks → TableBlocks → Type 0
HaveNoKey table other = ShareNoKey (entries_of table) (entries_of other)

tables_apart : (key : Bytes) (front back : List TableBlocks) → AllByRecursion (λ t. AllByRecursion (λ v. is_until (Some key) v.key ≡ true) (entries_of t)) front → AllByRecursion (λ t. AllByRecursion (λ w. is_from (Some key) w.key ≡ true) (entries_of t)) back
    → AllByRecursion (λ t. AllByRecursion (HaveNoKey t) back) front
tables_apart key front back early late =
    all_map (λ (t : TableBlocks) (e : AllByRecursion (λ v. is_until (Some key) v.key ≡ true) (entries_of t)).
    all_map (λ (u : TableBlocks) (l : AllByRecursion (λ w. is_from (Some key) w.key ≡ true) (entries_of u)). apart key (entries_of t) (entries_of u) e l) back late) front early

joined_tables : (key : Bytes) (entries : List Version) (front back : List TableBlocks) → AreOrdered entries → AreTables (before key entries) front → AreTables (from key entries) back → AreTables entries (front ++ back)
joined_tables key entries front back ordered first others = record {
  whole = flat_map-append entries_of front back ∙ ap (λ (vs : List Version). vs ++ flat_map entries_of back) first.whole ∙ ap (λ (vs : List Version). before key entries ++ vs) others.whole ∙ sides key entries ordered;
  nonempty = all_append _ front back first.nonempty others.nonempty;
  in_blocks = all_append _ front back first.in_blocks others.in_blocks;
  limits = all_append _ front back first.limits others.limits;
  whole_keys = pairs_joined HaveNoKey front back first.whole_keys others.whole_keys
      (tables_apart key front back
      (each_of (λ (v : Version). is_until (Some key) v.key ≡ true) front (subst (AllByRecursion (λ (v : Version). is_until (Some key) v.key ≡ true)) (sym first.whole) (all_early key entries)))
      (each_of (λ (v : Version). is_from (Some key) v.key ≡ true) back (subst (AllByRecursion (λ (v : Version). is_from (Some key) v.key ≡ true)) (sym others.whole) (all_late key entries))));
}

-- where they are not divided
undivided : (entries : List Version) (tables : List TableBlocks) → IsTables entries tables → AreTables entries tables
undivided entries tables is = record { whole = is.whole; nonempty = is.nonempty; in_blocks = is.in_blocks; limits = is.within; whole_keys = is.whole_keys }

pub are_tables : (keys : List Bytes) (entries : List Version) (tables : List TableBlocks) → AreOrdered entries → AreTablesAt keys entries tables → AreTables entries tables
are_tables [] entries tables ordered is = undivided entries tables is
are_tables (key ∷ keys) entries tables ordered is =
    subst (AreTables entries) (sym is.joined)
    (joined_tables key entries is.front is.back ordered (undivided (before key entries) is.front is.first) (are_tables keys (from key entries) is.back (ordered_part (λ (v : Version). is_within (Some key) None v.key) entries ordered) is.others))

pub only_tables : (keys : List Bytes) (entries : List Version) (tables others : List TableBlocks) → AreTablesAt keys entries tables → AreTablesAt keys entries others → tables ≡ others
only_tables [] entries tables others is are = one_division entries tables others is are
only_tables (key ∷ keys) entries tables others is are =
    is.joined ∙ ap (λ (ts : List TableBlocks). ts ++ is.back) (one_division (before key entries) is.front are.front is.first are.first)
    ∙ ap (λ (ts : List TableBlocks). are.front ++ ts) (only_tables keys (from key entries) is.back are.back is.others are.others) ∙ sym are.joined

pub division_law : DivisionLaw
division_law = record { tables = are_tables; only = only_tables }

-- the tables of a result
pub result_tables : (result : MergeResult) → AreTablesAt result.divisions (kept_of result.input) result.images → AreTables (kept_of result.input) result.images
result_tables result is =
    let input = result.input in
    are_tables result.divisions (kept_of input) result.images (ordered_tested (kept_of input) (is_in_order-keep input.cuts input.bottom (joined input.runs))) is

-- ---- a loop over the keys

pub next_key : (keys : List Bytes) (i : ℕ) (item key : Bytes) → i < length keys → item ≡ get_or keys i item → key ≡ item → drop i keys ≡ key ∷ drop (i + 1) keys
next_key keys i item key within is same =
    drop-cons keys i item within ∙ ap (λ (k : Bytes). k ∷ drop (suc i) keys) (sym is ∙ sym same) ∙ ap (λ (n : ℕ). key ∷ drop n keys) (sym (add-one i))

pub none_left : (keys : List Bytes) (i : ℕ) → length keys ≤ i → drop i keys ≡ []
none_left keys i past = nil_from_length (drop i keys) (omega (arith, length-drop i keys, past))

pub early_input : (key : Bytes) (entries part : List Version) → part ≡ before key entries → IsInput entries → IsInput part
early_input key entries part is input = subst IsInput (sym is) (filtered-IsInput (λ (v : Version). is_within None (Some key) v.key) entries input)

pub late_input : (key : Bytes) (entries part : List Version) → part ≡ from key entries → IsInput entries → IsInput part
late_input key entries part is input = subst IsInput (sym is) (filtered-IsInput (λ (v : Version). is_within (Some key) None v.key) entries input)

-- with the tables of one part more those that are left are the rest
pub one_part_more : (all : List Bytes) (entries : List Version) (key : Bytes) (keys : List Bytes) (left rest : List Version) (done front then : List TableBlocks) → rest ≡ from key left → IsTables (before key left) front → then ≡ done ++ front
    → ((tables : List TableBlocks) → AreTablesAt (key ∷ keys) left tables → AreTablesAt all entries (done ++ tables)) → (tables : List TableBlocks) → AreTablesAt keys rest tables → AreTablesAt all entries (then ++ tables)
one_part_more all entries key keys left rest done front then is first more goes_on tables others =
    let parts : AreTablesAt (key ∷ keys) left (front ++ tables) = record { front = front; back = tables; joined = refl; first = first; others = subst (λ (vs : List Version). AreTablesAt keys vs tables) is others } in
    subst (AreTablesAt all entries) (sym (append_assoc done front tables) ∙ ap (λ (ts : List TableBlocks). ts ++ tables) (sym more)) (goes_on (front ++ tables) parts)
