use Rattle.test_parts.proofs.table_parts.extents.gives_back.Goals as goal

pub give-requires : goal.give-requires
give-requires c = rw c.in_ok-first.ensures.held (c.extent_laws.ensures.among c.in_ok-first.first c.claims-stay.new.extents)
