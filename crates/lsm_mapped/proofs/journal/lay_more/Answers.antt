use Rattle.std.proofs.Common.{refl, ◌+◌}
use Rattle.lsm_mapped.specs.Records.{number_text}
use Rattle.lsm_mapped.proofs.Laying.{two_over}
use Rattle.lsm_mapped.proofs.Texts.{length-number, over-number}
use Rattle.lsm_mapped.proofs.journal.lay_more.Goals as goal

pub returns : goal.returns
returns c =
    two_over _ c.args.used c.args.head (number_text c.args.count) c.args.sector.now c.args.bytes.now c.put.new.bytes c.put_number.new.bytes
    (length-number c.args.count) refl c.requires.room c.requires.head c.put.ensures
    (over-number (c.args.head + 4) c.args.count c.put.new.bytes c.put_number.new.bytes c.put_number.ensures)
