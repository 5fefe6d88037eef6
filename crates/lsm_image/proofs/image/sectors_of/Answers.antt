use Rattle.std.proofs.Common.{◌≡◌, ◌+◌, ◌++◌, ◌∷◌, [], List, suc, rules, ap, arith, subst, ◌∙◌}
use Rattle.std.specs.Prelude.{slice_get, Some}
use Rattle.lsm_device.specs.declared.calls.Calls.{Calls}
use Rattle.lsm_device.specs.Calls.{one_more}
use Rattle.lsm_device.specs.Disk.{Disk, seen}
use Rattle.lsm_device.specs.History.{present}
use Rattle.lsm_device.specs.Medium.{disk}
use Rattle.lsm_device.specs.Memory.{length-written}
use Rattle.lsm_device.proofs.Counting.{AtMost-wider}
use Rattle.lsm_device.proofs.RunCounts.{one_more_read, read_faulted, faults_made, reads_are, fault_is, one_fault}
use Rattle.lsm_image.proofs.Begun.{one_sector_more, all_sectors}
use Rattle.lsm_image.proofs.image.sectors_of.Goals as goal

pub loop-at-preserved : goal.loop-at-preserved
loop-at-preserved g c =
    let D = g.D.Device in
    let inv = c.loop-at.invariant in
    let is : c.push.new.self.items ≡ c.loop-at.sectors.items ++ c.read.new.out ∷ [] = search rules in
    let reads : slice_get (seen (disk (D.medium c.args.device.now))) c.loop-at.at ≡ Some c.read.new.out =
    subst (λ (h : List Disk). slice_get (seen (present h)) c.loop-at.at ≡ Some c.read.new.out) inv.same_history (c.in_ok-read.ensures.bytes (rw inv.same_lasting c.requires)) in
    record {
      same_size = c.read.ensures.same_size ∙ inv.same_size;
      same_lasting = c.read.ensures.same_lasting ∙ inv.same_lasting;
      within = omega (arith, c.loop-at-test.true, c.sectors-count.ensures);
      counted = one_more_read c.loop-at.at (D.medium c.args.device.now).calls (D.medium c.loop-at.device).calls (D.medium c.read.new.self).calls c.in_ok-read.ensures.counted inv.counted;
      same_history = c.read.ensures.unchanged (rw inv.same_lasting c.requires) ∙ inv.same_history;
      so_far = one_sector_more (seen (disk (D.medium c.args.device.now))) c.loop-at.sectors.items c.push.new.self.items c.loop-at.at c.read.new.out inv.so_far is reads;
    }

pub returns-clause-sectors : goal.returns-clause-sectors
returns-clause-sectors g c =
    let d = disk (g.D.Device.medium c.args.device.now) in
    let long = length-written _ d.stands d.pending (g.met.D.Device.sound c.args.device.now c.requires).now.size in
    all_sectors (seen d) c.loop-at.sectors.items c.loop-at.at c.loop-at.invariant.so_far (omega (arith, c.loop-at-test.false, c.sectors-count.ensures, long))

pub returns-in_err-read-clause-counts : goal.returns-in_err-read-clause-counts
returns-in_err-read-clause-counts g c =
    let D = g.D.Device in
    fault_is (D.medium c.args.device.now).size _ _
    (read_faulted c.loop-at.at (D.medium c.args.device.now).size (D.medium c.args.device.now).calls (D.medium c.loop-at.device).calls (D.medium c.read.new.self).calls (omega (arith, c.loop-at-test.true, c.sectors-count.ensures))
    c.in_err-read.ensures.counted c.loop-at.invariant.counted)

pub returns-in_err-read-clause-faults : goal.returns-in_err-read-clause-faults
returns-in_err-read-clause-faults g c =
    let D = g.D.Device in
    let one : (D.medium c.read.new.self).calls.faults ≡ one_more (D.medium c.args.device.now).calls.faults =
    one_fault (suc c.loop-at.at) _ _
    (read_faulted c.loop-at.at (suc c.loop-at.at) (D.medium c.args.device.now).calls (D.medium c.loop-at.device).calls (D.medium c.read.new.self).calls (omega arith) c.in_err-read.ensures.counted c.loop-at.invariant.counted) in
    search rules

pub returns-in_err-push-clause-counts : goal.returns-in_err-push-clause-counts
returns-in_err-push-clause-counts g c =
    let D = g.D.Device in
    AtMost-wider (c.loop-at.at + 1) 0 0 (D.medium c.args.device.now).size 0 0 _ _ (omega (arith, c.loop-at-test.true, c.sectors-count.ensures)) (omega arith) (omega arith)
    (reads_are (c.loop-at.at + 1) _ _ (one_more_read c.loop-at.at (D.medium c.args.device.now).calls (D.medium c.loop-at.device).calls (D.medium c.read.new.self).calls c.in_ok-read.ensures.counted c.loop-at.invariant.counted))

pub returns-in_err-push-clause-faults : goal.returns-in_err-push-clause-faults
returns-in_err-push-clause-faults g c =
    let D = g.D.Device in
    let none : (D.medium c.read.new.self).calls.faults ≡ (D.medium c.args.device.now).calls.faults =
    ap (λ (k : Calls). k.faults) c.in_ok-read.ensures.counted ∙ ap (λ (k : Calls). k.faults) c.loop-at.invariant.counted ∙ faults_made c.loop-at.at (D.medium c.args.device.now).calls in
    search rules

pub returns-clause-counts : goal.returns-clause-counts
returns-clause-counts g c =
    let D = g.D.Device in
    AtMost-wider c.loop-at.at 0 0 (D.medium c.args.device.now).size 0 0 _ _ c.loop-at.invariant.within (omega arith) (omega arith) (reads_are c.loop-at.at _ _ c.loop-at.invariant.counted)

pub returns-clause-faults : goal.returns-clause-faults
returns-clause-faults g c = ap (λ (k : Calls). k.faults) c.loop-at.invariant.counted ∙ faults_made c.loop-at.at (g.D.Device.medium c.args.device.now).calls
