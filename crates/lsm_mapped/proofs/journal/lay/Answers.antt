use Rattle.std.proofs.Common.{refl, ◌+◌}
use Rattle.lsm_mapped.specs.Records.{number_text}
use Rattle.lsm_mapped.proofs.Laying.{three_over}
use Rattle.lsm_mapped.proofs.Texts.{length-number, over-number}
use Rattle.lsm_mapped.proofs.journal.lay.Goals as goal

pub returns : goal.returns
returns c =
    three_over _ c.args.at (number_text c.args.first) (number_text c.args.count) c.args.sectors.now c.args.bytes.now c.put_number.new.bytes c.put_number-2.new.bytes c.put.new.bytes
    (length-number c.args.first) (length-number c.args.count) refl c.requires
    (over-number c.args.at c.args.first c.args.bytes.now c.put_number.new.bytes c.put_number.ensures)
    (over-number (c.args.at + 4) c.args.count c.put_number.new.bytes c.put_number-2.new.bytes c.put_number-2.ensures)
    c.put.ensures
