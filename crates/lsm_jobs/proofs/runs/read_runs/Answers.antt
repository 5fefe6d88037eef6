use Rattle.std.proofs.Common.{◌≡◌, ◌+◌, ◌-◌, ◌<◌, ℕ, min, true, IsTrue, List, Err, length, map, take, drop, set, refl, sym, ap, subst, ◌∙◌, arith}
use Rattle.std.specs.Prelude.{slice_index_or}
use Rattle.std.specs.List.{AllByRecursion}
use Rattle.std.proofs.lemmas.List.{length-drop, length-set}
use Rattle.std.proofs.lemmas.Result.{err_from_is_err_and}
use Rattle.lsm_device.specs.declared.refusal.Refusal.{Refusal}
use Rattle.lsm_device.specs.declared.refusal.Refusal.TheVariants.{BadTable}
use Rattle.lsm_device.specs.Disk.{Disk, seen}
use Rattle.lsm_device.specs.History.{present}
use Rattle.lsm_device.specs.Medium.{Lasting, disk}
use Rattle.lsm_device.specs.Refusals.{faultless}
use Rattle.lsm_codec.specs.Versions.{Version, AreOrdered}
use Rattle.lsm_merge.specs.Inputs.{AreRuns, items_of}
use Rattle.lsm_levels.specs.Tables.{Table}
use Rattle.lsm_levels.specs.Stored.{LiesWithin}
use Rattle.lsm_levels.proofs.CursorBlocks.{all_dropped}
use Rattle.lsm_levels.proofs.Runs.{all_set}
use Rattle.lsm_jobs.specs.Gathering.{data_blocks, blocks_in, items_in, ascending_runs, items_between, fronts, GoesOn, ReadsBlocks}
use Rattle.lsm_jobs.proofs.BlockReads.{nothing_read, reads_then, reads_within}
use Rattle.lsm_jobs.proofs.GatheredRuns.{SoFar, begun, split_run, run_within, run_added, run_refused, runs_ended, longer_at, as_they_are, untouched_more, still_there, set_items, vector_at, count_items, ordered_at}
use Rattle.lsm_jobs.proofs.runs.read_runs.Goals as goal

pub loop-i-init : goal.loop-i-init
loop-i-init g c =
    let D = g.D.Device in
    let old = D.medium c.args.device.now in
    let runs = items_of c.args.runs.now in
    let read = c.args.to - c.args.from in
    record {
      same_size = refl;
      few = c.requires.few;
      within = c.requires.within;
      same_count = refl;
      left = omega (arith, c.requires.count);
      ordered = c.requires.ordered;
      untouched = refl;
      longer = as_they_are runs;
      fewer = omega arith;
      device = reads_within 0 (read - read) true old old (omega arith) (nothing_read old);
      so_far = λ t. begun (seen (disk old)) c.args.area c.args.from c.args.to (ascending_runs c.args.tables.now) runs;
    }

pub split_at-requires : goal.split_at-requires
split_at-requires g c = omega (arith, c.run_length.ensures, run_within c.loop-i.behind.now)

pub read_tables-requires-clause-ordered : goal.read_tables-requires-clause-ordered
read_tables-requires-clause-ordered g c = ordered_at c.loop-i.runs c.loop-i.i c.index-runs-i.result (omega (arith, c.loop-i-test.true, c.loop-i.auto.runs)) c.loop-i.invariant.ordered

pub returns-in_err-read_tables-clause-bad : goal.returns-in_err-read_tables-clause-bad
returns-in_err-read_tables-clause-bad g c = λ t is new h.
    let D = g.D.Device in
    let k = c.loop-i.invariant in
    let i = c.loop-i.i in
    let runs = c.loop-i.runs in
    let run = slice_index_or runs i c.index-runs-i.result in
    let S = seen (disk (D.medium c.args.device.now)) in
    let area = c.args.area in
    let from = c.loop-i.from in
    let to = c.loop-i.to in
    let own = c.split_at.result.0.now in
    let others = c.split_at.result.1.now in
    let old = items_of c.args.runs.now in
    let within : i < length runs = omega (arith, c.loop-i-test.true, c.loop-i.auto.runs) in
    let some : 0 < length (ascending_runs c.loop-i.behind.now) = omega (arith, k.left, within, k.same_count) in
    let first = split_run c.loop-i.behind.now own others c.run_length.result some c.run_length.ensures c.split_at.ensures.front c.split_at.ensures.back in
    let here = still_there old (items_of runs) i run.items (omega (arith, within, count_items runs i)) k.untouched (vector_at runs i run within (ap (slice_index_or runs i) c.index-runs-i.is)) in
    let p = err_from_is_err_and c.from_residual.result c.from_residual.ensures.1 in
    let tells : IsTrue ((D.medium c.loop-i.device).lasting.tells) = subst (λ (l : Lasting). IsTrue l.tells) (sym k.device.only_reads.same_lasting) t in
    let same : c.read_tables.result ≡ Err BadTable = c.in_err-read_tables.was ∙ ap (λ (e : Refusal). Err e) (sym p.2) ∙ sym p.1 ∙ is in
    let none : (v : List Version) → GoesOn run.items (items_between S area from to own) v → ⊥ =
    subst (λ (hs : List Disk). (v : List Version) → GoesOn run.items (items_between (seen (present hs)) area from to own) v → ⊥) (k.device.only_reads.unchanged t)
    (subst (λ (n : ℕ). (v : List Version) → GoesOn run.items (items_in (take n (drop from (blocks_in (seen (disk (D.medium c.loop-i.device))) area own)))) v → ⊥) c.saturating_sub.ensures (c.read_tables.ensures.bad tells same)) in
    run_refused S area c.args.from c.args.to (ascending_runs c.args.tables.now) old i from to (ascending_runs c.loop-i.behind.now) (ascending_runs others) own (items_of runs) run.items first here.2 (k.so_far t) none new h

pub returns-in_err-read_tables-clause-longer : goal.returns-in_err-read_tables-clause-longer
returns-in_err-read_tables-clause-longer g c =
    let k = c.loop-i.invariant in
    let i = c.loop-i.i in
    let runs = c.loop-i.runs in
    let run = slice_index_or runs i c.index-runs-i.result in
    let after = c.read_tables.new.run in
    let old = items_of c.args.runs.now in
    let within : i < length runs = omega (arith, c.loop-i-test.true, c.loop-i.auto.runs) in
    let inside : i < length (items_of runs) = omega (arith, within, count_items runs i) in
    let at = vector_at runs i run within (ap (slice_index_or runs i) c.index-runs-i.is) in
    let here = still_there old (items_of runs) i run.items inside k.untouched at in
    subst (λ (now : List (List Version)). fronts (map length old) now ≡ old) (sym (set_items runs i after)) (longer_at old (items_of runs) i run.items after.items inside at here.1 here.0 c.read_tables.ensures.longer k.longer)

pub returns-in_err-read_tables-clause-ordered : goal.returns-in_err-read_tables-clause-ordered
returns-in_err-read_tables-clause-ordered g c =
    let runs = c.loop-i.runs in
    let after = c.read_tables.new.run in
    subst AreRuns (sym (set_items runs c.loop-i.i after)) (all_set AreOrdered (items_of runs) c.loop-i.i after.items c.loop-i.invariant.ordered c.read_tables.ensures.ordered)

pub returns-in_err-read_tables-clause-device : goal.returns-in_err-read_tables-clause-device
returns-in_err-read_tables-clause-device g c =
    let D = g.D.Device in
    let k = c.loop-i.invariant in
    let p = err_from_is_err_and c.from_residual.result c.from_residual.ensures.1 in
    let old = D.medium c.args.device.now in
    let mid = D.medium c.loop-i.device in
    let new = D.medium c.read_tables.new.device in
    let own = c.split_at.result.0.now in
    let all = c.args.to - c.args.from in
    let left = c.loop-i.to - c.loop-i.from in
    let count = min c.saturating_sub.result (data_blocks own - c.loop-i.from) in
    let d : ReadsBlocks count (faultless c.read_tables.result) mid new = c.read_tables.ensures.device in
    rw (p.1, p.2) (subst (λ ok. ReadsBlocks all ok old new) (ap faultless c.in_err-read_tables.was)
    (reads_then (all - left) count all (faultless c.read_tables.result) old mid new (omega (arith, k.fewer, c.saturating_sub.ensures)) k.device d))

pub loop-i-preserved : goal.loop-i-preserved
loop-i-preserved g c =
    let D = g.D.Device in
    let k = c.loop-i.invariant in
    let i = c.loop-i.i in
    let runs = c.loop-i.runs in
    let run = slice_index_or runs i c.index-runs-i.result in
    let after = c.read_tables.new.run in
    let old = items_of c.args.runs.now in
    let area = c.args.area in
    let from = c.loop-i.from in
    let to = c.loop-i.to in
    let behind = c.loop-i.behind.now in
    let own = c.split_at.result.0.now in
    let others = c.split_at.result.1.now in
    let n = c.run_length.result in
    let before = D.medium c.args.device.now in
    let mid = D.medium c.loop-i.device in
    let new = D.medium c.read_tables.new.device in
    let S = seen (disk before) in
    let all = c.args.to - c.args.from in
    let left = to - from in
    let count = min c.saturating_sub.result (data_blocks own - from) in
    let d : ReadsBlocks count true mid new = c.in_ok-read_tables.ensures.device in
    let within : i < length runs = omega (arith, c.loop-i-test.true, c.loop-i.auto.runs) in
    let inside : i < length (items_of runs) = omega (arith, within, count_items runs i) in
    let some : 0 < length (ascending_runs behind) = omega (arith, k.left, within, k.same_count) in
    let first = split_run behind own others n some c.run_length.ensures c.split_at.ensures.front c.split_at.ensures.back in
    let at = vector_at runs i run within (ap (slice_index_or runs i) c.index-runs-i.is) in
    let here = still_there old (items_of runs) i run.items inside k.untouched at in
    let set_is = set_items runs i after in
    record {
      same_size = d.only_reads.same_size ∙ k.same_size;
      few = omega (arith, k.few, ap (λ (ts : List Table). length ts) c.split_at.ensures.back, length-drop n behind);
      within = subst (AllByRecursion (LiesWithin before.size area)) (sym c.split_at.ensures.back) (all_dropped (LiesWithin before.size area) n behind k.within);
      same_count = length-set runs i after ∙ k.same_count;
      left = omega (arith, k.left, ap (λ (rs : List (List Table)). length rs) first);
      ordered = subst AreRuns (sym set_is) (all_set AreOrdered (items_of runs) i after.items k.ordered c.in_ok-read_tables.ensures.ordered);
      untouched = ap (drop (i + 1)) set_is ∙ untouched_more old (items_of runs) i after.items k.untouched;
      longer = subst (λ (now : List (List Version)). fronts (map length old) now ≡ old) (sym set_is) (longer_at old (items_of runs) i run.items after.items inside at here.1 here.0 c.in_ok-read_tables.ensures.longer k.longer);
      fewer = omega (arith, k.fewer, c.saturating_sub-from.ensures, c.saturating_sub-to.ensures);
      device = reads_then (all - left) count (all - (c.saturating_sub-to.result - c.saturating_sub-from.result)) true before mid new
          (omega (arith, k.fewer, c.saturating_sub.ensures, c.saturating_sub-from.ensures, c.saturating_sub-to.ensures, c.data_blocks-blocks.ensures.count)) k.device d;
      so_far = λ t.
          let tells : IsTrue mid.lasting.tells = subst (λ (l : Lasting). IsTrue l.tells) (sym k.device.only_reads.same_lasting) t in
          let goes : GoesOn run.items (items_between S area from to own) after.items =
          subst (λ (hs : List Disk). GoesOn run.items (items_between (seen (present hs)) area from to own) after.items) (k.device.only_reads.unchanged t)
          (subst (λ (m : ℕ). GoesOn run.items (items_in (take m (drop from (blocks_in (seen (disk mid)) area own)))) after.items) c.saturating_sub.ensures (c.in_ok-read_tables.ensures.goes_on tells)) in
          let added = run_added S area c.args.from c.args.to (ascending_runs c.args.tables.now) old i from to (ascending_runs behind) (ascending_runs others) own (items_of runs) run.items first here.2 (k.so_far t) after.items inside goes in
          let less : from - data_blocks own ≡ c.saturating_sub-from.result = omega (arith, c.saturating_sub-from.ensures, c.data_blocks-blocks.ensures.count) in
          let lower : to - data_blocks own ≡ c.saturating_sub-to.result = omega (arith, c.saturating_sub-to.ensures, c.data_blocks-blocks.ensures.count) in
          subst (λ (now : List (List Version)). SoFar S area c.args.from c.args.to (ascending_runs c.args.tables.now) old (i + 1) c.saturating_sub-from.result c.saturating_sub-to.result (ascending_runs others) now) (sym set_is)
          (subst (λ (m : ℕ). SoFar S area c.args.from c.args.to (ascending_runs c.args.tables.now) old (i + 1) c.saturating_sub-from.result m (ascending_runs others) (set (items_of runs) i after.items)) lower
          (subst (λ (m : ℕ). SoFar S area c.args.from c.args.to (ascending_runs c.args.tables.now) old (i + 1) m (to - data_blocks own) (ascending_runs others) (set (items_of runs) i after.items)) less added));
    }

pub returns-clause-goes_on : goal.returns-clause-goes_on
returns-clause-goes_on g c = λ t.
    let k = c.loop-i.invariant in
    let now = items_of c.loop-i.runs in
    let old = items_of c.args.runs.now in
    let i = c.loop-i.i in
    runs_ended (seen (disk (g.D.Device.medium c.args.device.now))) c.args.area c.args.from c.args.to (ascending_runs c.args.tables.now) old i c.loop-i.from c.loop-i.to (ascending_runs c.loop-i.behind.now) now
    (omega (arith, c.loop-i-test.false, c.loop-i.auto.runs, count_items c.args.runs.now i))
    (omega (arith, k.same_count, count_items c.loop-i.runs i, count_items c.args.runs.now i))
    (omega (arith, k.left, c.loop-i-test.false, c.loop-i.auto.runs))
    (k.so_far t)
