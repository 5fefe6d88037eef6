use Rattle.std.proofs.Common.{◌≡◌, ◌+◌, ◌*◌, ◌≤◌, ◌∙◌, refl, sym, List, ◌∷◌, length, drop, get_or, arith, ap, subst}
use Rattle.std.proofs.lemmas.List.{drop_more}
use Rattle.std.proofs.Math.Nat.{mul-le-mul_right}
use Rattle.lsm_codec.specs.declared.log_record.LogRecord.{LogRecord}
use Rattle.std.specs.List.{AllByRecursion}
use Rattle.lsm_codec.specs.Versions.{IsEntry}
use Rattle.lsm_device.specs.Disk.{Disk, seen}
use Rattle.lsm_device.specs.History.{present}
use Rattle.lsm_device.specs.Medium.{disk}
use Rattle.lsm_device.proofs.Counting.{AtMost-joined, none_made}
use Rattle.lsm_mem.specs.Versions.{NumberedBelow}
use Rattle.lsm_open.specs.LogRegions.{batches_at}
use Rattle.lsm_open.specs.Reopening.{GoesOn, HasCome}
use Rattle.lsm_open.proofs.ReplaySteps.{come_step, come_started, goes_on_step, goes_started}
use Rattle.lsm_open.proofs.replayed.Replayed.add_regions.Goals as goal

pub loop-listed-init : goal.loop-listed-init
loop-listed-init g c =
    let D = g.D.Device in
    let m = c.args.manifest.now in
    record {
      same_size = refl;
      same_lasting = refl;
      no_fault = refl;
      calls = none_made _ 0 0 _;
      unchanged = λ t. refl;
      all = c.logs-logs.ensures;
      come = subst (HasCome m c.args.self.now.count c.args.self.now.closed.items) (sym c.logs-logs.ensures) (come_started m c.args.self.now.count c.args.self.now.closed.items c.requires.fits c.requires.closed c.requires.count);
      numbered = subst (NumberedBelow (c.args.self.now.count + 1)) (sym c.requires.mem) tt;
      entries = subst (AllByRecursion IsEntry) (sym c.requires.mem) tt;
      goes_on = λ t. subst (GoesOn c.args.log_sectors (seen (disk (D.medium c.args.device.now))) m c.args.self.now) (sym c.logs-logs.ensures)
          (goes_started m c.args.self.now c.args.log_sectors (seen (disk (D.medium c.args.device.now))) c.requires.closed c.requires.mem c.requires.count);
    }

pub loop-listed-preserved : goal.loop-listed-preserved
loop-listed-preserved g c =
    let D = g.D.Device in
    let inv = c.loop-listed.invariant in
    let n = c.args.log_sectors in
    let i = c.loop-listed.listed-index in
    let logs = c.logs-logs.result.now in
    let r : LogRecord = get_or logs i record { region = 0; epoch = 0; first_batch = 0 } in
    let rest : drop i logs ≡ r ∷ drop (i + 1) logs = drop_more logs i record { region = 0; epoch = 0; first_batch = 0 } c.loop-listed-test.true in
    let step = c.in_ok-add_region.ensures.replayed in
    record {
      same_size = c.add_region.ensures.same_size ∙ inv.same_size;
      same_lasting = c.add_region.ensures.same_lasting ∙ inv.same_lasting;
      no_fault = c.in_ok-add_region.ensures.faults ∙ inv.no_fault;
      calls = AtMost-joined (i * n) 0 0 n 0 0 ((i + 1) * n) 0 0 _ _ _ (omega arith) (omega arith) (omega arith) inv.calls c.add_region.ensures.calls;
      unchanged = λ t. c.add_region.ensures.unchanged (rw inv.same_lasting t) ∙ inv.unchanged t;
      all = inv.all;
      come = come_step c.args.manifest.now c.loop-listed.self c.add_region.new.self r (drop (i + 1) logs) step.0 step.1 (subst (HasCome c.args.manifest.now c.loop-listed.self.count c.loop-listed.self.closed.items) rest inv.come);
      numbered = step.1.numbered;
      entries = step.1.entries inv.entries;
      goes_on = λ t.
          let gave : step.0 ≡ batches_at n (seen (disk (D.medium c.args.device.now))) r = subst (λ (h : List Disk). step.0 ≡ batches_at n (seen (present h)) r) (inv.unchanged t) (step.2 (rw inv.same_lasting t)) in
          goes_on_step c.args.manifest.now c.loop-listed.self c.add_region.new.self r (drop (i + 1) logs) step.0 step.1 n (seen (disk (D.medium c.args.device.now))) gave
          (subst (GoesOn n (seen (disk (D.medium c.args.device.now))) c.args.manifest.now c.loop-listed.self) rest (inv.goes_on t));
    }

pub returns-in_err-add_region-clause-calls : goal.returns-in_err-add_region-clause-calls
returns-in_err-add_region-clause-calls g c =
    let inv = c.loop-listed.invariant in
    let n = c.args.log_sectors in
    let i = c.loop-listed.listed-index in
    let few : (i + 1) * n ≤ 3 * n = mul-le-mul_right n (omega (arith, c.loop-listed-test.true, ap length inv.all, c.requires.fits.numbers.logs)) in
    AtMost-joined (i * n) 0 0 n 0 0 (3 * n) 0 0 _ _ _ (omega (arith, few)) (omega arith) (omega arith) inv.calls c.add_region.ensures.calls
