use Rattle.std.proofs.Common.{[], List, refl, ap, sym, subst, arith}
use Rattle.std.proofs.lemmas.List.Elements.{All-nil}
use Rattle.lsm_device.specs.Disk.{Disk}
use Rattle.lsm_mapped.specs.Disks.{IsPast, IsWithin, after_records, mapped}
use Rattle.lsm_mapped.specs.Records.{IsWhole, front, last, records_from, records_of, text_of, writes_in}
use Rattle.lsm_mapped.proofs.Texts.{laid_of}
use Rattle.lsm_mapped.proofs.mapped.MappedDevice.new.Goals as goal

pub invariant_of-result : goal.invariant_of-result
unfolding front last text_of writes_in records_of records_from
invariant_of-result g c = record {
  fits = omega (arith, c.ranges.sectors.fits);
  had = subst (IsPast c.args.sectors c.args.image.now) (sym c.of.ensures) c.requires;
  fills = record { within = omega arith; laid = laid_of [] [] 0 0 0 _ refl (All-nil IsWhole) refl refl refl (λ _. refl) };
  within = All-nil (IsWithin c.args.sectors);
}

pub returns-clause-medium : goal.returns-clause-medium
unfolding after_records records_of records_from
returns-clause-medium g c = ap (λ (past : List Disk). mapped c.args.sectors past c.args.journal.ghost_name) c.of.ensures

pub returns-clause-records : goal.returns-clause-records
unfolding records_of records_from
returns-clause-records g c = refl
