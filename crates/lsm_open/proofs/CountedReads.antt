-- Tables are counted one after the other, and blocks of a table.
use Rattle.std.proofs.Common.{◌≡◌, inl, inr, ⊎_elim, ℕ, suc, ◌+◌, ◌-◌, ◌*◌, ◌<◌, ◌≤◌, ◌==◌, Bool, true, false, cond, Result, Ok, Err, List, [], ◌∷◌, ◌++◌, length, take, map, get_or, All, Option, Some, None, refl, sym, ap, ◌∙◌, append_assoc, append-nil, arith}
use Rattle.std.specs.Int.{bytes_high_first}
use Rattle.std.specs.Prelude.{is_some, option_map}
use Rattle.std.proofs.lemmas.Bool.{cond-true, cond-false, eq-eqb, ne_eqb}
use Rattle.std.proofs.lemmas.List.{length-append, take_more}
use Rattle.std.proofs.lemmas.List.Elements.{All-head, All-tail}
use Rattle.std.proofs.lemmas.List.Sums.{sum_by-append, sum_by-cons, sum_by-take-le}
use Rattle.std.proofs.lemmas.Option.{same_Some}
use Rattle.lsm_cache.specs.Reads.{block_at}
use Rattle.lsm_codec.specs.Entries.{data_block, is_data_block, entries_from, entries_in, all_ok, block_of}
use Rattle.lsm_codec.specs.Keys.{IsBytes}
use Rattle.lsm_codec.specs.Spelling.{if_spelled}
use Rattle.lsm_codec.proofs.DataBlockLaws.{exactly, block_format}
use Rattle.lsm_codec.proofs.Readers.{after, number_reads}
use Rattle.lsm_levels.specs.Stored.{blocks_from}
use Rattle.lsm_levels.proofs.EntriesFew.{entries_few}
use Rattle.lsm_codec.specs.Manifests.{Contents, IsManifest}
use Rattle.lsm_codec.specs.Reading.{◌>>=◌, number_at}
use Rattle.lsm_codec.specs.TableRecords.{extent_blocks, HasSizes, IsTableRecord, IsOfVersion}
use Rattle.lsm_codec.specs.Versions.{Version, one_if_none, deletes_in}
use Rattle.lsm_codec.specs.declared.superblock.FormatVersion.TheVariants.{One, Two}
use Rattle.lsm_codec.specs.declared.table_record.TableRecord.{TableRecord}
use Rattle.lsm_device.specs.declared.refusal.Refusal.{Refusal}
use Rattle.lsm_device.specs.declared.refusal.Refusal.TheVariants.{BadTable}
use Rattle.lsm_open.specs.Counting.{counted_more, deletes_counted, deletes_of, with_deletes, counted_records, counted, with_tables, uncounted_blocks, all_uncounted, all_data, without_deletes}
use Rattle.lsm_open.specs.Tables.{extent_start, blocks_at}
use Rattle.lsm_open.specs.ToldTables.{IsRefusedFor}
use Rattle.lsm_open.specs.declared.counting.Count.{Count}
use Rattle.lsm_open.proofs.BlockReads.{extent_is, some_blocks}
use Rattle.lsm_table.specs.Division.{TableBlocks, entries_of}
use Rattle.lsm_table.specs.Stored.{table_of, table_in}

-- ---- records one after the other

abbrev Records : Type 0
Records = List TableRecord

-- those that are counted, and those that come
abbrev pub with_front : Records → Option Records → Option Records
with_front front rest = rest >>= λ (more : Records). Some (front ++ more)

regroup : (front : Records) (u : TableRecord) (o : Option Records) → with_front front (o >>= λ us. Some (u ∷ us)) ≡ with_front (front ++ u ∷ []) o
regroup front u None = refl
regroup front u (Some us) = ap (λ (l : Records). Some l) (sym (append_assoc front (u ∷ []) us))

module _ (n : ℕ) (s : List (List ℕ)) where
  -- one record more is counted
  pub one_counted : (front : Records) (t : TableRecord) (deletes : ℕ) (rest : Records) → deletes_of n s t ≡ Some deletes
      → with_front front (counted_records n s (t ∷ rest)) ≡ with_front (front ++ with_deletes t deletes ∷ []) (counted_records n s rest)
  one_counted front t deletes rest is =
      ap (λ (o : Option ℕ). with_front front (option_map (with_deletes t) o >>= λ u. counted_records n s rest >>= λ us. Some (u ∷ us))) is
      ∙ regroup front (with_deletes t deletes) (counted_records n s rest)

  -- one that can't be
  pub none_counted : (front : Records) (t : TableRecord) (rest : Records) → deletes_of n s t ≡ None → with_front front (counted_records n s (t ∷ rest)) ≡ None
  none_counted front t rest is = ap (λ (o : Option ℕ). with_front front (option_map (with_deletes t) o >>= λ u. counted_records n s rest >>= λ us. Some (u ∷ us))) is

  pub count_refused : (all front : Records) (t : TableRecord) (rest : Records) (e : Refusal) → counted_records n s all ≡ with_front front (counted_records n s (t ∷ rest)) → IsRefusedFor (deletes_of n s t) e → IsRefusedFor (counted_records n s all) e
  count_refused all front t rest e is = ⊎_elim (λ h. inl (h.0, is ∙ none_counted front t rest h.1)) (λ h. inr h)

  pub all_are_counted : (all rest front : Records) → counted_records n s all ≡ with_front front (counted_records n s rest) → rest ≡ [] → counted_records n s all ≡ Some front
  all_are_counted all rest front is none =
      is ∙ ap (λ (l : Records). with_front front (counted_records n s l)) none ∙ ap (λ (l : Records). Some l) (append-nil front)

  pub manifest_refused : (m : Contents) (e : Refusal) → IsRefusedFor (counted_records n s m.tables) e → IsRefusedFor (counted n s m) e
  manifest_refused m e = ⊎_elim (λ h. inl (h.0, ap (option_map (with_tables m)) h.1)) (λ h. inr h)

-- ---- what is read for it

pub reads_more : (all : Records) (i : ℕ) (d : TableRecord) → i < length all → all_uncounted (take i all) + uncounted_blocks (get_or all i d) ≡ all_uncounted (take (i + 1) all)
reads_more all i d lt =
    let t : TableRecord = get_or all i d in
    omega (arith, ap all_uncounted (take_more all i d lt), sum_by-append uncounted_blocks (take i all) (t ∷ []))

pub reads_few : (all : Records) (i : ℕ) (d : TableRecord) → i < length all → all_uncounted (take i all) + uncounted_blocks (get_or all i d) ≤ all_uncounted all
reads_few all i d lt = omega (arith, reads_more all i d lt, sum_by-take-le uncounted_blocks all (i + 1))

blocks_few : (t : TableRecord) → HasSizes t → uncounted_blocks t ≤ 64
blocks_few t sizes = by t.deletes
  where
    by : (o : Option ℕ) → elim o as (λ _. ℕ) [ Some deletes ↦ 0 | None ↦ t.data_blocks ] ≤ 64
    by (Some deletes) = omega arith
    by None = sizes.data_high

all_few : (next runs : ℕ) (ts : Records) → All (IsTableRecord next runs) ts → all_uncounted ts ≤ 64 * length ts
all_few next runs [] all = omega arith
all_few next runs (t ∷ ts) all =
    omega (arith, blocks_few t (All-head (IsTableRecord next runs) t ts all).sizes, all_few next runs ts (All-tail (IsTableRecord next runs) t ts all), sum_by-append uncounted_blocks (t ∷ []) ts)

pub manifest_few : (m : Contents) → IsManifest m → all_uncounted m.tables ≤ 65536
manifest_few m fits = omega (arith, all_few m.next_table m.runs m.tables fits.tables.each, fits.numbers.tables)

-- of all data blocks, which are as many once the tables are counted
one_of_all : (t : TableRecord) → uncounted_blocks t ≤ t.data_blocks
one_of_all t = by t.deletes
  where
    by : (o : Option ℕ) → elim o as (λ _. ℕ) [ Some deletes ↦ 0 | None ↦ t.data_blocks ] ≤ t.data_blocks
    by (Some deletes) = omega arith
    by None = omega arith

few_of_all : (ts : Records) → all_uncounted ts ≤ all_data ts
few_of_all [] = omega arith
few_of_all (t ∷ ts) = omega (arith, one_of_all t, few_of_all ts, sum_by-cons uncounted_blocks t ts, sum_by-cons (λ (u : TableRecord). u.data_blocks) t ts)

same_data : (ts : Records) → all_data (map without_deletes ts) ≡ all_data ts
same_data [] = refl
same_data (t ∷ ts) = omega (arith, same_data ts, sum_by-cons (λ (u : TableRecord). u.data_blocks) t ts, sum_by-cons (λ (u : TableRecord). u.data_blocks) (without_deletes t) (map without_deletes ts))

pub counts_few : (ts us : Records) → map without_deletes us ≡ map without_deletes ts → all_uncounted ts ≤ all_data us
counts_few ts us same = omega (arith, few_of_all ts, same_data ts, same_data us, ap all_data same)

-- in version 2 no record's, in version 1 each one's
none_uncounted_one : (t : TableRecord) → IsOfVersion Two t → uncounted_blocks t ≡ 0
none_uncounted_one t = by t.deletes
  where
    by : (o : Option ℕ) → is_some o ≡ true → elim o as (λ _. ℕ) [ Some deletes ↦ 0 | None ↦ t.data_blocks ] ≡ 0
    by (Some deletes) is = refl
    by None is = absurd cc

uncounted_one : (t : TableRecord) → IsOfVersion One t → uncounted_blocks t ≡ t.data_blocks
uncounted_one t = by t.deletes
  where
    by : (o : Option ℕ) → is_some o ≡ false → elim o as (λ _. ℕ) [ Some deletes ↦ 0 | None ↦ t.data_blocks ] ≡ t.data_blocks
    by (Some deletes) is = absurd cc
    by None is = refl

pub none_uncounted : (ts : Records) → All (IsOfVersion Two) ts → all_uncounted ts ≡ 0
none_uncounted [] all = refl
none_uncounted (t ∷ ts) all = omega (arith, none_uncounted_one t (All-head (IsOfVersion Two) t ts all), none_uncounted ts (All-tail (IsOfVersion Two) t ts all), sum_by-cons uncounted_blocks t ts)

pub all_are_uncounted : (ts : Records) → All (IsOfVersion One) ts → all_uncounted ts ≡ all_data ts
all_are_uncounted [] all = refl
all_are_uncounted (t ∷ ts) all =
    omega (arith, uncounted_one t (All-head (IsOfVersion One) t ts all), all_are_uncounted ts (All-tail (IsOfVersion One) t ts all), sum_by-cons uncounted_blocks t ts, sum_by-cons (λ (u : TableRecord). u.data_blocks) t ts)

-- ---- one record more

pub sized_more : (t : TableRecord) (deletes : ℕ) → HasSizes t → deletes ≤ t.entries → HasSizes (with_deletes t deletes)
sized_more t deletes sizes among = record {
  data_low = sizes.data_low;
  data_high = sizes.data_high;
  index_low = sizes.index_low;
  index_high = sizes.index_high;
  entries_low = sizes.entries_low;
  entries_high = sizes.entries_high;
  deletes = among;
}

-- ---- blocks of a table

no_more : (count : Count) → counted_more count [] ≡ count
no_more count =
    let entries : count.entries + 0 ≡ count.entries = omega arith in
    let deletes : count.deletes + 0 ≡ count.deletes = omega arith in
    ap (λ (x : ℕ). let c : Count = record { entries = x; deletes = count.deletes + 0 } in c) entries
    ∙ ap (λ (x : ℕ). let c : Count = record { entries = count.entries; deletes = x } in c) deletes

-- a count goes on with the blocks that come
abbrev pub goes_on : Count → Option TableBlocks → Option Count
goes_on count rest = option_map (λ table. counted_more count (entries_of table)) rest

more_twice : (count : Count) (es fs : List Version) → counted_more (counted_more count es) fs ≡ counted_more count (es ++ fs)
more_twice count es fs =
    let entries : count.entries + length es + length fs ≡ count.entries + length (es ++ fs) = omega (arith, length-append es fs) in
    let deletes : count.deletes + deletes_in es + deletes_in fs ≡ count.deletes + deletes_in (es ++ fs) = omega (arith, sum_by-append (λ (v : Version). one_if_none v.value) es fs) in
    ap (λ (x : ℕ). let c : Count = record { entries = x; deletes = count.deletes + deletes_in es + deletes_in fs } in c) entries
    ∙ ap (λ (x : ℕ). let c : Count = record { entries = count.entries + length (es ++ fs); deletes = x } in c) deletes

-- one block more
pub block_counted : (count more : Count) (bytes : List ℕ) (rest : List (List ℕ)) → Some more ≡ option_map (counted_more count) (block_of bytes) → goes_on count (table_of (bytes ∷ rest)) ≡ goes_on more (table_of rest)
block_counted count more bytes rest is = by (block_of bytes) is (table_of rest)
  where
    by : (o : Option (List Version)) → Some more ≡ option_map (counted_more count) o → (r : Option TableBlocks) → goes_on count (o >>= λ entries. r >>= λ table. Some (entries ∷ table)) ≡ goes_on more r
    by None e r = absurd cc
    by (Some es) e None = refl
    by (Some es) e (Some table) =
        let same : more ≡ counted_more count es = cc in
        ap (λ (c : Count). Some c) (sym (more_twice count es (entries_of table)) ∙ ap (λ (c : Count). counted_more c (entries_of table)) (sym same))

pub block_uncounted : (count : Count) (bytes : List ℕ) (rest : List (List ℕ)) → None ≡ option_map (counted_more count) (block_of bytes) → table_of (bytes ∷ rest) ≡ None
block_uncounted count bytes rest is = by (block_of bytes) is
  where
    by : (o : Option (List Version)) → None ≡ option_map (counted_more count) o → (o >>= λ entries. table_of rest >>= λ table. Some (entries ∷ table)) ≡ None
    by None e = refl
    by (Some es) e = absurd cc

-- nothing is counted
abbrev pub nothing : Count
nothing = record { entries = 0; deletes = 0 }

goes_none : (count : Count) (o : Option TableBlocks) → goes_on count o ≡ None → o ≡ None
goes_none count None is = refl
goes_none count (Some table) is = absurd cc

-- where `entries` entries are counted
pub counted_as : (o : Option TableBlocks) (count : Count) (entries : ℕ) → goes_on nothing o ≡ Some count → count.entries ≡ entries → deletes_counted entries o ≡ Some count.deletes
counted_as None count entries is same = absurd cc
counted_as (Some table) count entries is same =
    let all = entries_of table in
    let found : counted_more nothing all ≡ count = same_Some (counted_more nothing all) count is in
    let long : length all ≡ entries = omega (arith, ap (λ (c : Count). c.entries) found, same) in
    let some : deletes_in all ≡ count.deletes = omega (arith, ap (λ (c : Count). c.deletes) found) in
    cond-true (length all == entries) (Some (deletes_in all)) None (eq-eqb (length all) entries long) ∙ ap (λ (d : ℕ). Some d) some

-- and where it is another number
pub counted_otherwise : (o : Option TableBlocks) (count : Count) (entries : ℕ) → goes_on nothing o ≡ Some count → (count.entries ≡ entries → ⊥) → deletes_counted entries o ≡ None
counted_otherwise None count entries is other = refl
counted_otherwise (Some table) count entries is other =
    let all = entries_of table in
    let found : counted_more nothing all ≡ count = same_Some (counted_more nothing all) count is in
    cond-false (length all == entries) (Some (deletes_in all)) None (ne_eqb (length all) entries (λ long. other (omega (arith, ap (λ (c : Count). c.entries) found, long))))

module _ (s : List (List ℕ)) where
  -- the data blocks of a table, from one on
  abbrev pub blocks_left : ℕ → ℕ → ℕ → List (List ℕ)
  blocks_left at blocks i = blocks_from s (at + 8 * i) (blocks - i)

  next_block : (at blocks i : ℕ) → i < blocks → blocks_left at blocks i ≡ block_at s (at + 8 * i) ∷ blocks_left at blocks (i + 1)
  next_block at blocks i lt =
      let more : blocks - i ≡ suc (blocks - (i + 1)) = omega (arith, lt) in
      let next : at + 8 * i + 8 ≡ at + 8 * (i + 1) = omega arith in
      ap (blocks_from s (at + 8 * i)) more ∙ ap (λ (k : ℕ). block_at s (at + 8 * i) ∷ blocks_from s k (blocks - (i + 1))) next

  no_block : (at blocks i : ℕ) → blocks ≤ i → blocks_left at blocks i ≡ []
  no_block at blocks i le = let none : blocks - i ≡ 0 = omega (arith, le) in ap (blocks_from s (at + 8 * i)) none

  pub first_blocks : (at blocks : ℕ) → blocks_from s at blocks ≡ blocks_left at blocks 0
  first_blocks at blocks =
      let here : at ≡ at + 8 * 0 = omega arith in
      let all : blocks ≡ blocks - 0 = omega arith in
      ap (λ (k : ℕ). blocks_from s k blocks) here ∙ ap (blocks_from s (at + 8 * 0)) all

  pub data_blocks_are : (n : ℕ) (t : TableRecord) (at : ℕ) → at ≡ extent_start n t → table_in t.data_blocks (blocks_at n s t) ≡ table_of (blocks_left at t.data_blocks 0)
  data_blocks_are n t at is =
      let here : extent_start n t + 8 * 0 ≡ at = omega (arith, is) in
      ap (table_in t.data_blocks) (extent_is n s t) ∙ ap table_of (some_blocks s (extent_start n t) (extent_blocks t) 0 t.data_blocks (omega arith)) ∙ ap (λ (k : ℕ). table_of (blocks_from s k t.data_blocks)) here
      ∙ ap table_of (first_blocks at t.data_blocks)

  -- one block more
  pub left_counted : (at blocks i : ℕ) (count more : Count) → i < blocks → Some more ≡ option_map (counted_more count) (block_of (block_at s (at + 8 * i)))
      → goes_on count (table_of (blocks_left at blocks i)) ≡ goes_on more (table_of (blocks_left at blocks (i + 1)))
  left_counted at blocks i count more lt is =
      ap (λ (bs : List (List ℕ)). goes_on count (table_of bs)) (next_block at blocks i lt) ∙ block_counted count more (block_at s (at + 8 * i)) (blocks_left at blocks (i + 1)) is

  -- one that spells none
  pub left_uncounted : (at blocks i : ℕ) (count : Count) (all : Option TableBlocks) → i < blocks → goes_on nothing all ≡ goes_on count (table_of (blocks_left at blocks i))
      → None ≡ option_map (counted_more count) (block_of (block_at s (at + 8 * i))) → all ≡ None
  left_uncounted at blocks i count all lt same is = goes_none nothing all
      (same ∙ ap (λ (bs : List (List ℕ)). goes_on count (table_of bs)) (next_block at blocks i lt) ∙ ap (goes_on count) (block_uncounted count (block_at s (at + 8 * i)) (blocks_left at blocks (i + 1)) is))

  pub none_left : (at blocks i : ℕ) (count : Count) (all : Option TableBlocks) → blocks ≤ i → goes_on nothing all ≡ goes_on count (table_of (blocks_left at blocks i)) → goes_on nothing all ≡ Some count
  none_left at blocks i count all le same = same ∙ ap (λ (bs : List (List ℕ)). goes_on count (table_of bs)) (no_block at blocks i le) ∙ ap (λ (c : Count). Some c) (no_more count)

-- ---- entries of a block

abbrev pub Items : Type 0
Items = List (Result Version Refusal)

ok_items : (items : Items) (es : List Version) → all_ok items ≡ Some es → items ≡ map Ok es
ok_items [] es e = ap (map Ok) (same_Some [] es e)
ok_items (Ok v ∷ items) es e = by (all_ok items) (ok_items items) e
  where
    by : (o : Option (List Version)) → ((xs : List Version) → o ≡ Some xs → items ≡ map Ok xs) → option_map (λ xs. v ∷ xs) o ≡ Some es → Ok v ∷ items ≡ map Ok es
    by None more h = absurd cc
    by (Some xs) more h = ap (λ (l : Items). Ok v ∷ l) (more xs refl) ∙ ap (map Ok) (same_Some (v ∷ xs) es h)
ok_items (Err r ∷ items) es e = absurd cc

-- what the bytes of a block spell, read one entry after the other
pub block_is : (bytes : List ℕ) → IsBytes bytes → length bytes ≡ 4096 → block_of bytes ≡ all_ok (entries_in bytes)
unfolding block_of
block_is bytes fits size = by (all_ok (entries_in bytes)) refl
  where
    none : all_ok (entries_in bytes) ≡ None → block_of bytes ≡ None
    none e = ap (if_spelled is_data_block data_block bytes) e

    by : (o : Option (List Version)) → all_ok (entries_in bytes) ≡ o → block_of bytes ≡ o
    by None e = none e
    by (Some es) e =
        let spelled = (exactly bytes (entries_in bytes) fits size refl es).0 (ok_items (entries_in bytes) es e) in
        ap block_of spelled.1 ∙ block_format.decoded es spelled.0

behind : (bytes front rest : List ℕ) → bytes ≡ front ++ rest → length rest ≤ length bytes
behind bytes front rest is = omega (arith, ap (λ (l : List ℕ). length l) is, length-append front rest)

rest_few : (bytes : List ℕ) (x : ℕ × List ℕ) → IsBytes bytes → number_at 2 bytes ≡ Some x → IsBytes x.1 × (length x.1 ≤ length bytes)
rest_few bytes x fits e =
    let found = (number_reads 2).found bytes x fits e in
    let front = bytes_high_first 2 x.0 in
    (after bytes front x.1 fits found.1, behind bytes front x.1 found.1)

pub items_few : (bytes : List ℕ) → IsBytes bytes → length bytes ≡ 4096 → length (entries_in bytes) ≤ 4097
unfolding entries_in
items_few bytes fits size = by (number_at 2 bytes) refl
  where
    by : (o : Option (ℕ × List ℕ)) → number_at 2 bytes ≡ o
        → length (elim o as (λ _. Items) [ None ↦ Err BadTable ∷ [] | Some x ↦ cond (x.0 == 0) (Err BadTable ∷ []) (entries_from x.0 x.1) ]) ≤ 4097
    by None e = omega arith
    by (Some x) e =
        let rest = rest_few bytes x fits e in
        let few = entries_few x.0 x.1 rest.0 in
        choose (x.0 == 0) (omega (arith, few, rest.1, size))
      where
        choose : (b : Bool) → length (entries_from x.0 x.1) ≤ 4097 → length (cond b (Err BadTable ∷ []) (entries_from x.0 x.1)) ≤ 4097
        choose true le = omega arith
        choose false le = le

-- a count goes on with the items that come
abbrev pub with_items : Count → Items → Option Count
with_items count items = option_map (counted_more count) (all_ok items)

-- one entry more
pub item_counted : (count more : Count) (v : Version) (rest : Items) → more.entries ≡ count.entries + 1 → more.deletes ≡ count.deletes + one_if_none v.value → with_items count (Ok v ∷ rest) ≡ with_items more rest
item_counted count more v rest one deletes = by (all_ok rest)
  where
    is_more : more ≡ counted_more count (v ∷ [])
    is_more =
        ap (λ (x : ℕ). let c : Count = record { entries = x; deletes = more.deletes } in c) one
        ∙ ap (λ (x : ℕ). let c : Count = record { entries = count.entries + 1; deletes = x } in c) (deletes ∙ omega arith)

    by : (o : Option (List Version)) → option_map (counted_more count) (option_map (λ xs. v ∷ xs) o) ≡ option_map (counted_more more) o
    by None = refl
    by (Some es) = ap (λ (c : Count). Some c) (sym (more_twice count (v ∷ []) es) ∙ ap (λ (c : Count). counted_more c es) (sym is_more))

-- no entry is left
pub items_end : (count : Count) → with_items count [] ≡ Some count
items_end count = ap (λ (c : Count). Some c) (no_more count)
