use Rattle.std.proofs.Common.{◌≡◌, ◌/◌, ◌∙◌, length, ap, arith}
use Rattle.lsm_device.specs.Disk.{seen}
use Rattle.lsm_device.specs.Medium.{disk}
use Rattle.lsm_device.proofs.Pieces.{one_more_sector, all_sectors, length-put_mid_within}
use Rattle.lsm_device.proofs.RunCounts.{one_more_read, all_reads}
use Rattle.lsm_device.proofs.device.Device.read_run.Goals as goal

pub loop-i-preserved : goal.loop-i-preserved
loop-i-preserved g c =
    let medium = g.Self.Device.medium in
    let inv = c.loop-i.invariant in
    let e = c.in_ok-read.ensures in
    let got = c.copy_from_slice.ensures.after in
    let size : length c.copy_from_slice.new.self ≡ 512 = ap length got ∙ c.read.array_long in
    record {
      same_size = e.same_size ∙ inv.same_size;
      same_lasting = e.same_lasting ∙ inv.same_lasting;
      unchanged = λ t. e.unchanged (rw inv.same_lasting t) ∙ inv.unchanged t;
      counted = one_more_read c.loop-i.i _ _ _ e.counted inv.counted;
      whole = length-put_mid_within c.loop-i.i (length c.args.out.now / 512) c.loop-i.out c.copy_from_slice.new.self _ (omega arith) c.loop-i-test.true inv.whole size;
      given = λ t. one_more_sector (seen (disk (medium c.args.self.now))) c.args.at c.loop-i.i (length c.args.out.now / 512) c.loop-i.out c.copy_from_slice.new.self _
          c.loop-i-test.true inv.whole size (rw (got, ← inv.unchanged t) (e.bytes (rw inv.same_lasting t))) (inv.given t);
    }

pub returns-clause-bytes : goal.returns-clause-bytes
returns-clause-bytes g c = λ t.
    let medium = g.Self.Device.medium in
    let inv = c.loop-i.invariant in
    all_sectors (seen (disk (medium c.args.self.now))) c.args.at c.loop-i.i (length c.args.out.now / 512) _ c.loop-i.out c.loop-i-test.false c.loop-i.auto.i-end (omega arith) inv.whole (inv.given t)

pub returns-clause-counted : goal.returns-clause-counted
returns-clause-counted g c = all_reads c.loop-i.i _ _ _ c.loop-i-test.false c.loop-i.auto.i-end c.loop-i.invariant.counted
