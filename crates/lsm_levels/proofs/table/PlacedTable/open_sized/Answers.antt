use Rattle.lsm_levels.proofs.table.PlacedTable.open_sized.Goals as goal

-- what opens is spelled by its record
pub new-requires : goal.new-requires
new-requires g c κs within = (within, (((c.outline_law.ensures.exact c.args.listed c.args.footer.now c.args.index.now c.args.filter.now c.in_ok-table.table).0 c.in_ok-table.ensures).1.by_record, c.requires.1))
