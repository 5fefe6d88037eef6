use Rattle.lsm_mapped.proofs.mapped.MappedDevice.new.Given as goal

abbrev pub ghost-of : goal.ghost-of
ghost-of g a = g.past
