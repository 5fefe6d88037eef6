-- How reads are counted, where both ends of their number are told.
use Rattle.std.proofs.Common.{◌≡◌, ℕ, zero, suc, ◌+◌, ◌<◌, ◌≤◌, true, List, [], ◌∷◌, ◌++◌, map, length, take, get_or, refl, sym, ap, ◌∙◌, arith}
use Rattle.std.proofs.lemmas.List.{take_more}
use Rattle.std.proofs.lemmas.List.Sums.{sum_by-append}
use Rattle.std.specs.Prelude.{Err}
use Rattle.lsm_cache.specs.Reads.{after_reads}
use Rattle.lsm_codec.specs.Manifests.{Contents}
use Rattle.lsm_codec.specs.declared.table_record.TableRecord.{TableRecord}
use Rattle.lsm_device.specs.Calls.{one_more, more, after_read, AtMost}
use Rattle.lsm_device.specs.declared.calls.Calls.{Calls}
use Rattle.lsm_levels.specs.Levels.{Levels, all_tables, places}
use Rattle.lsm_levels.specs.Tables.{Table, record_of}
use Rattle.lsm_open.specs.Counting.{all_data}
use Rattle.lsm_open.specs.ToldTables.{records_of_runs, records_of_levels, HaveNamed}
use Rattle.lsm_check.specs.Counted.{data_blocks_in, ReadsBetween, AreRegionsRead, IsReadFor}
use Rattle.lsm_check.specs.declared.finding.Finding.{Finding}
use Rattle.lsm_check.specs.declared.finding.Finding.TheVariants.{Refused, Entries, Order, Filter, Versions}

-- ---- some reads after others

more_more : (k j n : ℕ) → more k (more j n) ≡ more (k + j) n
more_more zero j n = let same : j ≡ zero + j = omega arith in ap (λ (m : ℕ). more m n) same
more_more (suc k) j n = let same : suc (k + j) ≡ suc k + j = omega arith in ap one_more (more_more k j n) ∙ ap (λ (m : ℕ). more m n) same

pub between_none : (old : Calls) → ReadsBetween 0 0 old old
between_none old = record { count = 0; low = omega arith; high = omega arith; made = refl }

pub between_joined : (l a m b n c : ℕ) (old mid new : Calls) → n ≤ l + m → a + b ≤ c → ReadsBetween l a old mid → ReadsBetween m b mid new → ReadsBetween n c old new
between_joined l a m b n c old mid new low high first next = record {
  count = next.count + first.count;
  low = omega (arith, low, first.low, next.low);
  high = omega (arith, high, first.high, next.high);
  made = next.made ∙ ap (more next.count) first.made ∙ more_more next.count first.count old.reads;
}

-- of reads whose number is told as one that they don't pass
pub between_zero : (a : ℕ) (old new : Calls) → AtMost a 0 0 old new → ReadsBetween 0 a old new
between_zero a old new calls = record { count = calls.read.0; low = omega arith; high = calls.read.1; made = calls.read.2 }

-- one sector, and the sectors of a block
pub between_sector : (old new : Calls) → new ≡ after_read true old → ReadsBetween 1 1 old new
between_sector old new is = record { count = 1; low = omega arith; high = omega arith; made = ap (λ (c : Calls). c.reads) is }

pub between_block : (old new : Calls) → new ≡ after_reads 8 old → ReadsBetween 8 8 old new
between_block old new is = record { count = 8; low = omega arith; high = omega arith; made = ap (λ (c : Calls). c.reads) is }

-- ---- the blocks of tables

blocks-append : (xs ys : List Table) → data_blocks_in (xs ++ ys) ≡ data_blocks_in xs + data_blocks_in ys
blocks-append [] ys = omega arith
blocks-append (x ∷ xs) ys = omega (arith, blocks-append xs ys)

named-append : (xs ys : List TableRecord) → all_data (xs ++ ys) ≡ all_data xs + all_data ys
named-append xs ys = sum_by-append (λ (t : TableRecord). t.data_blocks) xs ys

-- one table more of a run, and one run more
pub blocks_up_to : (run : List Table) (i : ℕ) (t : Table) → i < length run → t ≡ get_or run i t → data_blocks_in (take (i + 1) run) ≡ data_blocks_in (take i run) + length t.outline.edges
blocks_up_to run i t lt is =
    let whole : take i run ++ t ∷ [] ≡ take (i + 1) run = ap (λ (x : Table). take i run ++ x ∷ []) is ∙ sym (take_more run i t lt) in
    omega (arith, ap (λ (ts : List Table). data_blocks_in ts) whole, blocks-append (take i run) (t ∷ []))

-- each record names the blocks of its table
named_by : (level run : ℕ) (ts : List Table) → all_data (map (record_of level run) ts) ≡ data_blocks_in ts
named_by level run [] = refl
named_by level run (t ∷ ts) = omega (arith, named_by level run ts, named-append (record_of level run t ∷ []) (map (record_of level run) ts))

named_levels : (k : ℕ) (xs : List (List Table)) → all_data (records_of_levels k xs) ≡ data_blocks_in (all_tables xs)
named_levels k [] = refl
named_levels k (x ∷ xs) = omega (arith, named-append (map (record_of k 0) x) (records_of_levels (suc k) xs), named_by k 0 x, blocks-append x (all_tables xs), named_levels (suc k) xs)

named_runs : (k : ℕ) (xs deeper : List (List Table)) → all_data (records_of_runs k xs ++ records_of_levels 1 deeper) ≡ data_blocks_in (all_tables (xs ++ deeper))
named_runs k [] deeper = named_levels 1 deeper
named_runs k (x ∷ xs) deeper =
    omega (
      arith,
      named-append (map (record_of 0 k) x ++ records_of_runs (suc k) xs) (records_of_levels 1 deeper),
      named-append (map (record_of 0 k) x) (records_of_runs (suc k) xs),
      named-append (records_of_runs (suc k) xs) (records_of_levels 1 deeper),
      named_by 0 k x,
      blocks-append x (all_tables (xs ++ deeper)),
      named_runs (suc k) xs deeper,
    )

pub all_named : (m : Contents) (levels : Levels) → HaveNamed m levels → data_blocks_in (all_tables (places levels)) ≡ all_data m.tables
all_named m levels named = sym (named_runs 0 levels.runs levels.deeper) ∙ ap (λ (ts : List TableRecord). all_data ts) named.records

-- the blocks of two parts of a list of tables
pub blocks_parted : (whole xs ys : List Table) → whole ≡ xs ++ ys → data_blocks_in whole ≡ data_blocks_in xs + data_blocks_in ys
blocks_parted whole xs ys is = ap (λ (ts : List Table). data_blocks_in ts) is ∙ blocks-append xs ys

-- ---- what was read when a table is found wrong

pub read_for_finding : (size : ℕ) (old new : Calls) (finding : Finding) → AreRegionsRead size old new → IsReadFor size old new (Err finding)
read_for_finding size old new (Refused refusal) regions = tt
read_for_finding size old new (Entries number) regions = regions
read_for_finding size old new (Order number) regions = regions
read_for_finding size old new (Filter number) regions = regions
read_for_finding size old new (Versions number) regions = regions
