use Rattle.std.proofs.Common.{List, subst}
use Rattle.std.specs.Result.{is_ok}
use Rattle.std.specs.Arc.{arc_value}
use Rattle.lsm_device.specs.Disk.{Write}
use Rattle.lsm_jobs.specs.Writing.{WritesBlocks}
use Rattle.lsm_jobs.proofs.Sectors.{next_told, same_length}
use Rattle.lsm_jobs.proofs.outputs.Outputs.write_next.Goals as goal

pub write_some-requires-clause-same : goal.write_some-requires-clause-same
write_some-requires-clause-same g c = rw (c.as_slice.ensures.value, c.deref.ensures, c.deref-2.ensures.value) (same_length (arc_value c.self.inside.images).items c.self.inside.tables.items c.self.invariant.placed)

pub returns-clause-written : goal.returns-clause-written
returns-clause-written g c =
    subst (λ (ws : List Write). WritesBlocks c.args.area ws (is_ok c.write_some.result) (g.D.Device.medium c.args.device.now) (g.D.Device.medium c.write_some.new.device))
    (next_told (arc_value c.self.inside.input) c.self.inside.tables.items c.deref-2.result.now c.self.inside.written c.self.inside.left c.args.count c.args.self.now c.self.view_is c.deref-2.ensures.value c.self.invariant.counted c.requires.left c.requires.eight c.requires.most)
    c.write_some.ensures.written
