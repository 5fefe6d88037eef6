use Rattle.std.proofs.Common.{◌≡◌, ◌+◌, ◌-◌, ◌*◌, ℕ, min, true, IsTrue, List, [], ◌∷◌, Err, length, take, drop, sym, ap, subst, ◌∙◌, arith}
use Rattle.std.proofs.lemmas.List.{drop_more, drop_all}
use Rattle.std.proofs.lemmas.Result.{err_from_is_err_and}
use Rattle.lsm_device.specs.declared.refusal.Refusal.{Refusal}
use Rattle.lsm_device.specs.declared.refusal.Refusal.TheVariants.{BadTable}
use Rattle.lsm_device.specs.Disk.{Disk, seen}
use Rattle.lsm_device.specs.History.{present}
use Rattle.lsm_device.specs.Medium.{Lasting, disk}
use Rattle.lsm_device.specs.Refusals.{faultless}
use Rattle.lsm_codec.specs.Versions.{Version}
use Rattle.lsm_table.specs.Outlines.{Outline}
use Rattle.lsm_levels.specs.Tables.{Table}
use Rattle.lsm_levels.specs.Stored.{blocks_from}
use Rattle.lsm_jobs.specs.Gathering.{data_blocks, blocks_in, items_in, GoesOn, ReadsBlocks}
use Rattle.lsm_jobs.proofs.GoingOn.{SameEnd, longer_by}
use Rattle.lsm_jobs.proofs.BlockReads.{reads_then, reads_within, some_tables, one_table_more, items_behind, table_added, table_refused, tables_added}
use Rattle.lsm_jobs.proofs.blocks.read_tables.Goals as goal

pub returns-in_err-read_blocks-clause-bad : goal.returns-in_err-read_blocks-clause-bad
returns-in_err-read_blocks-clause-bad g c = λ t is new h.
    let D = g.D.Device in
    let k = c.loop-table.invariant in
    let tables = c.args.tables.now in
    let i = c.loop-table.table-index in
    let table = c.table-item.result in
    let S = seen (disk (D.medium c.args.device.now)) in
    let run = c.loop-table.run.items in
    let run0 = c.args.run.now.items in
    let whole = items_in (take c.args.most (drop c.args.done (blocks_in S c.args.area tables))) in
    let first = c.min-first.result in
    let count = c.min-count.result in
    let sector = c.args.area + 8 * (c.first_block.result + first) in
    let size : c.data_blocks-blocks.result ≡ length table.outline.edges = c.data_blocks-blocks.ensures.count ∙ ap (λ (o : Outline). length o.edges) c.table.ensures.same in
    let f : first ≡ min c.loop-table.skip (length table.outline.edges) = c.min-first.ensures ∙ ap (min c.loop-table.skip) size in
    let n : count ≡ min c.loop-table.left (length table.outline.edges - first) = c.min-count.ensures ∙ ap (λ (m : ℕ). min c.loop-table.left (m - first)) size in
    let at : sector ≡ c.args.area + 8 * (table.start + first) = ap (λ (m : ℕ). c.args.area + 8 * (m + first)) c.first_block.ensures in
    let front : drop i tables ≡ table ∷ drop (i + 1) tables = drop_more tables i table c.loop-table-test.true ∙ ap (λ (u : Table). u ∷ drop (i + 1) tables) (sym c.table-item.is) in
    let p = err_from_is_err_and c.from_residual.result c.from_residual.ensures.1 in
    let tells : IsTrue ((D.medium c.loop-table.device).lasting.tells) = subst (λ (l : Lasting). IsTrue l.tells) (sym k.device.only_reads.same_lasting) t in
    let same : c.read_blocks.result ≡ Err BadTable = c.in_err-read_blocks.was ∙ ap (λ (e : Refusal). Err e) (sym p.2) ∙ sym p.1 ∙ is in
    table_refused S c.args.area table (drop (i + 1) tables) c.loop-table.skip c.loop-table.left first count sector run run0 whole f n at
    (subst (λ (l : List Table). SameEnd run (items_behind S c.args.area l c.loop-table.skip c.loop-table.left) run0 whole) front (k.same t))
    (subst (λ (hs : List Disk). (v : List Version) → GoesOn run (items_in (blocks_from (seen (present hs)) sector count)) v → ⊥) (k.device.only_reads.unchanged t) (c.read_blocks.ensures.bad tells same)) new h

pub returns-in_err-read_blocks-clause-longer : goal.returns-in_err-read_blocks-clause-longer
returns-in_err-read_blocks-clause-longer g c = longer_by c.args.run.now.items c.loop-table.run.items c.read_blocks.new.run.items c.loop-table.invariant.longer c.read_blocks.ensures.longer

pub returns-in_err-read_blocks-clause-device : goal.returns-in_err-read_blocks-clause-device
returns-in_err-read_blocks-clause-device g c =
    let D = g.D.Device in
    let p = err_from_is_err_and c.from_residual.result c.from_residual.ensures.1 in
    let k = c.loop-table.invariant in
    let old = D.medium c.args.device.now in
    let mid = D.medium c.loop-table.device in
    let new = D.medium c.read_blocks.new.device in
    let count = c.min-count.result in
    let table = c.table-item.result in
    let size : c.data_blocks-blocks.result ≡ length table.outline.edges = c.data_blocks-blocks.ensures.count ∙ ap (λ (o : Outline). length o.edges) c.table.ensures.same in
    let tables = c.args.tables.now in
    let i = c.loop-table.table-index in
    let all = data_blocks tables - c.args.done in
    let step = one_table_more tables i table c.loop-table-test.true c.table-item.is in
    let d : ReadsBlocks count (faultless c.read_blocks.result) mid new = c.read_blocks.ensures.device in
    rw (p.1, p.2) (subst (λ ok. ReadsBlocks (min c.args.most all) ok old new) (ap faultless c.in_err-read_blocks.was)
    (reads_then (c.args.most - c.loop-table.left) count (min c.args.most all) (faultless c.read_blocks.result) old mid new (omega (arith, size, k.few, k.skipped, k.spent, c.min-first.ensures, c.min-count.ensures, step.0, step.1)) k.device d))

pub loop-table-preserved : goal.loop-table-preserved
loop-table-preserved g c =
    let D = g.D.Device in
    let k = c.loop-table.invariant in
    let tables = c.args.tables.now in
    let i = c.loop-table.table-index in
    let table = c.table-item.result in
    let old = D.medium c.args.device.now in
    let mid = D.medium c.loop-table.device in
    let new = D.medium c.read_blocks.new.device in
    let S = seen (disk old) in
    let run = c.loop-table.run.items in
    let after = c.read_blocks.new.run.items in
    let run0 = c.args.run.now.items in
    let whole = items_in (take c.args.most (drop c.args.done (blocks_in S c.args.area tables))) in
    let first = c.min-first.result in
    let count = c.min-count.result in
    let left = c.loop-table.left in
    let sector = c.args.area + 8 * (c.first_block.result + first) in
    let size : c.data_blocks-blocks.result ≡ length table.outline.edges = c.data_blocks-blocks.ensures.count ∙ ap (λ (o : Outline). length o.edges) c.table.ensures.same in
    let f : first ≡ min c.loop-table.skip (length table.outline.edges) = c.min-first.ensures ∙ ap (min c.loop-table.skip) size in
    let n : count ≡ min left (length table.outline.edges - first) = c.min-count.ensures ∙ ap (λ (m : ℕ). min left (m - first)) size in
    let at : sector ≡ c.args.area + 8 * (table.start + first) = ap (λ (m : ℕ). c.args.area + 8 * (m + first)) c.first_block.ensures in
    let front : drop i tables ≡ table ∷ drop (i + 1) tables = drop_more tables i table c.loop-table-test.true ∙ ap (λ (u : Table). u ∷ drop (i + 1) tables) (sym c.table-item.is) in
    let d : ReadsBlocks count true mid new = c.in_ok-read_blocks.ensures.device in
    let step = one_table_more tables i table c.loop-table-test.true c.table-item.is in
    record {
      same_size = d.only_reads.same_size ∙ k.same_size;
      few = omega (arith, k.few);
      skipped = omega (arith, f, k.skipped, step.0);
      spent = omega (arith, f, n, k.few, k.skipped, k.spent, step.0);
      device = reads_then (c.args.most - left) count (c.args.most - (left - count)) true old mid new (omega (arith, k.few, n)) k.device d;
      same = λ t.
          let tells : IsTrue mid.lasting.tells = subst (λ (l : Lasting). IsTrue l.tells) (sym k.device.only_reads.same_lasting) t in
          table_added S c.args.area table (drop (i + 1) tables) c.loop-table.skip left first count sector run after run0 whole f n at
          (subst (λ (l : List Table). SameEnd run (items_behind S c.args.area l c.loop-table.skip left) run0 whole) front (k.same t))
          (subst (λ (hs : List Disk). GoesOn run (items_in (blocks_from (seen (present hs)) sector count)) after) (k.device.only_reads.unchanged t) (c.in_ok-read_blocks.ensures.goes_on tells));
      longer = longer_by run0 run after k.longer c.in_ok-read_blocks.ensures.longer;
      ordered = c.in_ok-read_blocks.ensures.ordered;
    }

pub returns-clause-goes_on : goal.returns-clause-goes_on
returns-clause-goes_on g c = λ t.
    let D = g.D.Device in
    let k = c.loop-table.invariant in
    let tables = c.args.tables.now in
    let S = seen (disk (D.medium c.args.device.now)) in
    let run = c.loop-table.run.items in
    let run0 = c.args.run.now.items in
    let whole = items_in (take c.args.most (drop c.args.done (blocks_in S c.args.area tables))) in
    let end : drop c.loop-table.table-index tables ≡ [] = drop_all c.loop-table.table-index tables (omega (arith, c.loop-table-test.false)) in
    tables_added S c.args.area c.loop-table.skip c.loop-table.left run run0 whole k.ordered
    (subst (λ (l : List Table). SameEnd run (items_behind S c.args.area l c.loop-table.skip c.loop-table.left) run0 whole) end (k.same t))

pub returns-clause-device : goal.returns-clause-device
returns-clause-device g c =
    let D = g.D.Device in
    let k = c.loop-table.invariant in
    let tables = c.args.tables.now in
    let all = data_blocks tables - c.args.done in
    let whole = some_tables tables c.loop-table.table-index in
    reads_within (c.args.most - c.loop-table.left) (min c.args.most all) true (D.medium c.args.device.now) (D.medium c.loop-table.device) (omega (arith, k.spent, whole)) k.device
