-- After an opening just the extents of the tables in levels are handed out.
use Rattle.std.proofs.Common.{◌≡◌, ◌≢◌, inl, inr, ⊎_elim, ℕ, suc, ◌+◌, Bool, ◌||◌, List, [], ◌∷◌, ◌++◌, length, map, Contains, refl, sym, ap, ◌∙◌, subst, arith, All}
use Rattle.std.specs.Prelude.{Option}
use Rattle.std.specs.List.{AllByRecursion, list_any}
use Rattle.std.proofs.lemmas.List.{append-nil, map-append}
use Rattle.std.proofs.lemmas.List.Elements.{All-head, All-tail}
use Rattle.lsm_codec.specs.Indexes.{index_count}
use Rattle.lsm_codec.specs.Pairs.{Pairwise}
use Rattle.lsm_codec.specs.TableRecords.{TablesAgree}
use Rattle.lsm_codec.specs.Versions.{Version}
use Rattle.lsm_codec.specs.declared.table_record.TableRecord.{TableRecord}
use Rattle.lsm_codec.proofs.Lists.{all_left, all_right}
use Rattle.lsm_extent.specs.declared.extent.Extent.{Extent}
use Rattle.lsm_extent.specs.Area.{Area, IsPartition, covers}
use Rattle.lsm_levels.specs.Among.{IsAmong}
use Rattle.lsm_levels.proofs.OldestRuns.{tables_append}
use Rattle.lsm_levels.specs.Levels.{Levels, all_tables, places}
use Rattle.lsm_levels.specs.Tables.{Table, record_of}
use Rattle.lsm_jobs.specs.Placing.{extent_of}
use Rattle.lsm_open.specs.Placements.{Placement}
use Rattle.lsm_open.specs.Recovering.{AreWithinLimits}
use Rattle.lsm_open.specs.ToldTables.{IsOutlined, AreOutlined, record_extent, records_of_runs, records_of_levels, records_of}
use Rattle.lsm_machine.specs.Accounts.{extents_like, tables_like, AreAccounted}
use Rattle.lsm_store.specs.OpenedWork.{opened_work}
use Rattle.lsm_machine.proofs.ExtentCounts.{BeginApart, among_contains, same_counts, tables_extents}

-- ---- the extents of records

run_extents : (lev run : ℕ) (ts : List Table) → AllByRecursion IsOutlined ts → map record_extent (map (record_of lev run) ts) ≡ map extent_of ts
run_extents lev run [] all = refl
run_extents lev run (t ∷ rest) all =
    let blocks : length t.outline.edges + index_count t.outline.edges + 2 ≡ t.blocks = sym (ap (λ (u : Table). u.blocks) all.0) in
    ap (λ (n : ℕ). let e : Extent = record { first = t.start; blocks = n } in e ∷ map record_extent (map (record_of lev run) rest)) blocks
    ∙ ap (λ (l : List Extent). extent_of t ∷ l) (run_extents lev run rest all.1)

runs_extents : (run : ℕ) (runs : List (List Table)) → AreOutlined runs → map record_extent (records_of_runs run runs) ≡ map extent_of (all_tables runs)
runs_extents run [] all = refl
runs_extents run (ts ∷ rest) all =
    map-append record_extent (map (record_of 0 run) ts) (records_of_runs (suc run) rest)
    ∙ ap (λ (l : List Extent). l ++ map record_extent (records_of_runs (suc run) rest)) (run_extents 0 run ts all.0)
    ∙ ap (λ (l : List Extent). map extent_of ts ++ l) (runs_extents (suc run) rest all.1)
    ∙ sym (map-append extent_of ts (all_tables rest))

levels_extents : (lev : ℕ) (runs : List (List Table)) → AreOutlined runs → map record_extent (records_of_levels lev runs) ≡ map extent_of (all_tables runs)
levels_extents lev [] all = refl
levels_extents lev (ts ∷ rest) all =
    map-append record_extent (map (record_of lev 0) ts) (records_of_levels (suc lev) rest)
    ∙ ap (λ (l : List Extent). l ++ map record_extent (records_of_levels (suc lev) rest)) (run_extents lev 0 ts all.0)
    ∙ ap (λ (l : List Extent). map extent_of ts ++ l) (levels_extents (suc lev) rest all.1)
    ∙ sym (map-append extent_of ts (all_tables rest))

pub named_extents : (levels : Levels) → AreOutlined (places levels) → map record_extent (records_of levels) ≡ map extent_of (all_tables (places levels))
named_extents levels all =
    map-append record_extent (records_of_runs 0 levels.runs) (records_of_levels 1 levels.deeper)
    ∙ ap (λ (l : List Extent). l ++ map record_extent (records_of_levels 1 levels.deeper)) (runs_extents 0 levels.runs (all_left _ levels.runs levels.deeper all))
    ∙ ap (λ (l : List Extent). map extent_of (all_tables levels.runs) ++ l) (levels_extents 1 levels.deeper (all_right _ levels.runs levels.deeper all))
    ∙ sym (map-append extent_of (all_tables levels.runs) (all_tables levels.deeper))
    ∙ ap (map extent_of) (sym (tables_append levels.runs levels.deeper))

-- ---- what a manifest's records say of them

begin_named : (ts : List TableRecord) → Pairwise TablesAgree ts → BeginApart (map record_extent ts)
begin_named [] agree = tt
begin_named (t ∷ rest) agree = (others rest agree.0, begin_named rest agree.1)
  where
    others : (us : List TableRecord) → All (TablesAgree t) us → AllByRecursion (λ e. e.first ≢ t.first_block) (map record_extent us)
    others [] all = tt
    others (u ∷ us) all =
        let apart = (All-head (TablesAgree t) u us all).apart in
        (λ same. ⊎_elim (λ a. omega (arith, a, same)) (λ b. omega (arith, b, same)) apart, others us (All-tail (TablesAgree t) u us all))

among_named : (held : List Extent) (ts : List TableRecord) → All (λ t. Contains held (record_extent t)) ts → (e : Extent) → IsAmong e (map record_extent ts) → IsAmong e held
among_named held [] all e a = absurd a
among_named held (t ∷ rest) all e (inl same) = subst (λ (x : Extent). IsAmong x held) (sym same) (among_contains (record_extent t) held (All-head (λ (u : TableRecord). Contains held (record_extent u)) t rest all))
among_named held (t ∷ rest) all e (inr a) = among_named held rest (All-tail (λ (u : TableRecord). Contains held (record_extent u)) t rest all) e a

any_named : (k : ℕ) (ts : List TableRecord) → list_any (λ t. covers k (record_extent t)) ts ≡ list_any (covers k) (map record_extent ts)
any_named k [] = refl
any_named k (t ∷ rest) = ap (λ (b : Bool). covers k (record_extent t) || b) (any_named k rest)

pub opened_accounts : (size count : ℕ) (p : Placement) (sealed : Option (List Version)) (levels : Levels) (extents : Area) → AreWithinLimits size p count sealed levels extents → IsPartition extents
    → AreAccounted (opened_work p sealed levels extents)
opened_accounts size count p sealed levels extents within whole =
    let ts = all_tables (places levels) in
    let named : map record_extent p.tables ≡ map extent_of ts = ap (map record_extent) (sym within.named) ∙ named_extents levels within.outlined in
    record {
      each = λ e.
          same_counts extents whole (map record_extent p.tables) (begin_named p.tables within.manifest.tables.agree) (among_named extents.held p.tables within.held.each) (λ k. within.held.only k ∙ any_named k p.tables) e
          ∙ ap (extents_like e) named ∙ sym (tables_extents e ts) ∙ ap (tables_like e) (sym (append-nil ts));
    }
