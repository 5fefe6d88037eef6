use Rattle.std.proofs.Common.{◌≡◌, ◌∙◌, ◌+◌, ◌*◌, ℕ, List, true, false, take, drop, ap, refl, sym, subst, arith}
use Rattle.std.proofs.lemmas.Result.{err_from_is_err_and}
use Rattle.std.proofs.lemmas.List.{drop-drop}
use Rattle.lsm_device.specs.Calls.{faults_after}
use Rattle.lsm_device.specs.Disk.{Write}
use Rattle.lsm_device.specs.Medium.{disk}
use Rattle.lsm_device.specs.Runs.{grown}
use Rattle.lsm_device.proofs.Counting.{AtMost-joined}
use Rattle.lsm_jobs.specs.Outputs.{placed_blocks, writes_of}
use Rattle.lsm_jobs.specs.Writing.{WritesBlocks}
use Rattle.lsm_jobs.proofs.Sectors.{block_moments, block_comes}
use Rattle.lsm_jobs.proofs.outputs.write_some.Goals as goal

pub returns-in_err-write_one-clause-written : goal.returns-in_err-write_one-clause-written
returns-in_err-write_one-clause-written g c =
    let p = err_from_is_err_and c.from_residual.result c.from_residual.ensures.1 in
    let D = g.D.Device in
    let inv = c.loop-i.invariant in
    let placed = placed_blocks c.args.tables.now in
    let one : WritesBlocks c.args.area (take 1 (drop c.loop-i.i (drop c.args.from placed))) false (D.medium c.loop-i.device) (D.medium c.write_one.new.device) =
    subst (λ (ws : List Write). WritesBlocks c.args.area (take 1 ws) false (D.medium c.loop-i.device) (D.medium c.write_one.new.device)) (sym (drop-drop c.loop-i.i c.args.from placed)) c.in_err-write_one.ensures.written in
    rw p.1 (record {
      moments = λ t. block_moments c.args.area c.args.count c.loop-i.i (drop c.args.from placed) (D.medium c.args.device.now).history (D.medium c.loop-i.device).history (D.medium c.write_one.new.device).history c.loop-i-test.true (inv.comes t) (one.moments (rw inv.same_lasting t));
      pends = λ t e. absurd (let clash : false ≡ true = e in cc);
      faults = one.faults ∙ ap (faults_after false) inv.no_fault;
      stops = λ e. one.stops refl;
      same_size = one.same_size ∙ inv.same_size;
      same_lasting = one.same_lasting ∙ inv.same_lasting;
    })

pub returns-in_err-write_one-clause-calls : goal.returns-in_err-write_one-clause-calls
returns-in_err-write_one-clause-calls g c =
    AtMost-joined 0 (8 * c.loop-i.i) 0 0 8 0 0 (8 * c.args.count) 0 _ _ _ (omega arith) (omega (arith, c.loop-i-test.true)) (omega arith) c.loop-i.invariant.calls c.write_one.ensures.calls

pub returns-in_err-write_one-clause-untouched : goal.returns-in_err-write_one-clause-untouched
returns-in_err-write_one-clause-untouched g c = λ none. absurd (omega (arith, c.loop-i-test.true, none))

pub loop-i-preserved : goal.loop-i-preserved
loop-i-preserved g c =
    let D = g.D.Device in
    let inv = c.loop-i.invariant in
    let placed = placed_blocks c.args.tables.now in
    let one : WritesBlocks c.args.area (take 1 (drop c.loop-i.i (drop c.args.from placed))) true (D.medium c.loop-i.device) (D.medium c.write_one.new.device) =
    subst (λ (ws : List Write). WritesBlocks c.args.area (take 1 ws) true (D.medium c.loop-i.device) (D.medium c.write_one.new.device)) (sym (drop-drop c.loop-i.i c.args.from placed)) c.in_ok-write_one.ensures.written in
    record {
      same_size = one.same_size ∙ inv.same_size;
      same_lasting = one.same_lasting ∙ inv.same_lasting;
      no_fault = one.faults ∙ inv.no_fault;
      untouched = λ none. absurd (omega (arith, none));
      calls = AtMost-joined 0 (8 * c.loop-i.i) 0 0 8 0 0 (8 * (c.loop-i.i + 1)) 0 _ _ _ (omega arith) (omega arith) (omega arith) inv.calls c.write_one.ensures.calls;
      comes = λ t. block_comes c.args.area c.args.count c.loop-i.i (drop c.args.from placed) (D.medium c.args.device.now).history (D.medium c.loop-i.device).history (D.medium c.write_one.new.device).history c.loop-i-test.true (inv.comes t) (one.moments (rw inv.same_lasting t)) (one.pends (rw inv.same_lasting t) refl);
    }

pub returns-clause-untouched : goal.returns-clause-untouched
returns-clause-untouched g c = λ none. c.loop-i.invariant.untouched (omega (arith, c.loop-i.auto.i-end, none))

pub returns-clause-written : goal.returns-clause-written
returns-clause-written g c =
    let D = g.D.Device in
    let inv = c.loop-i.invariant in
    let same : c.loop-i.i ≡ c.args.count = omega (arith, c.loop-i-test.false, c.loop-i.auto.i-end) in
    record {
      moments = λ t. (inv.comes t).moments;
      pends = λ t e. subst (λ (n : ℕ). disk (D.medium c.loop-i.device) ≡ grown (writes_of c.args.area (take n (drop c.args.from (placed_blocks c.args.tables.now)))) (disk (D.medium c.args.device.now))) same (inv.comes t).now;
      faults = inv.no_fault;
      stops = λ e. absurd (let clash : true ≡ false = e in cc);
      same_size = inv.same_size;
      same_lasting = inv.same_lasting;
    }
