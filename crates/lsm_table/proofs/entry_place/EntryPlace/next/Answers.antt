use Rattle.std.proofs.Common.{drop, sym, ◌∙◌}
use Rattle.lsm_table.proofs.Reading.{none_behind}
use Rattle.lsm_table.proofs.entry_place.EntryPlace.next.Goals as goal

pub returns-in-None : goal.returns-in-None
returns-in-None c =
    let p = c.args.self.now in
    c.end.ensures ∙ sym (none_behind p.left (drop p.offset c.args.block.now) c.in-None.ensures.lies)
