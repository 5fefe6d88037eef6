use Rattle.std.proofs.Common.{[], List, map, ◌∙◌, ap}
use Rattle.lsm_machine.specs.Work.{each_once}
use Rattle.lsm_store.specs.declared.snapshots.Mark.{Mark}
use Rattle.lsm_store.specs.LiveMarks.{marks}
use Rattle.lsm_store.proofs.WorkingMemory.{cuts_counted}
use Rattle.lsm_store.proofs.memory.Memory.cuts.Goals as goal

pub returns : goal.returns
returns g c =
    let m = c.args.self.now in
    let counts = λ (ms : List Mark). map (λ (mark : Mark). mark.count) ms in
    cuts_counted m c.requires c.add_count.new.cuts.items
    (c.in_ok-add_count.ensures (counts (marks m.snapshots))
    (c.in_ok-add_counts.ensures [] c.new-cuts.ensures.items ∙ ap (λ (ms : List Mark). each_once (counts ms)) c.live.ensures))
