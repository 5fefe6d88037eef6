use Rattle.std.proofs.Common.{refl}
use Rattle.lsm_codec.proofs.table_record.TableRecordRecord.write.Goals as goal

pub returns : goal.returns
returns g c =
    rw (c.in_ok-extend_from_slice.ensures.items, c.text.ensures, c.put_deletes.ensures, c.put_u16.ensures, c.put_u8-4.ensures, c.put_u8-3.ensures, c.put_u32.ensures, c.put_u8-2.ensures, c.put_u8.ensures, c.put_u64.ensures, c.new-text.ensures) refl
