use Rattle.std.proofs.Common.{◌≡◌, OnOk, ℕ, List, sym, ap, subst}
use Rattle.std.specs.Io.KnownBytes.{Appends}
use Rattle.lsmctl.specs.Endings.{remedy, told_lack}
use Rattle.lsmctl.proofs.ending.tell_lack.Goals as goal

pub returns-in-FlushWants : goal.returns-in-FlushWants
returns-in-FlushWants g c =
    subst (λ (help : List ℕ). OnOk c.tell_want.result (Appends (g.E.Write.contents c.args.errors.now) (g.E.Write.contents c.tell_want.new.errors) (told_lack c.args.lack.now help))) (sym (ap remedy c.in-FlushWants.is)) c.tell_want.ensures

pub returns-in-StepWants : goal.returns-in-StepWants
returns-in-StepWants g c =
    subst (λ (help : List ℕ). OnOk c.tell_want-in-StepWants.result (Appends (g.E.Write.contents c.args.errors.now) (g.E.Write.contents c.tell_want-in-StepWants.new.errors) (told_lack c.args.lack.now help))) (sym (ap remedy c.in-StepWants.is)) c.tell_want-in-StepWants.ensures

pub returns-in-Flush : goal.returns-in-Flush
returns-in-Flush g c =
    subst (λ (help : List ℕ). OnOk c.tell_other.result (Appends (g.E.Write.contents c.args.errors.now) (g.E.Write.contents c.tell_other.new.errors) (told_lack c.args.lack.now help))) (sym (ap remedy c.in-Flush.is)) c.tell_other.ensures

pub returns-in-Step : goal.returns-in-Step
returns-in-Step g c =
    subst (λ (help : List ℕ). OnOk c.tell_other-in-Step.result (Appends (g.E.Write.contents c.args.errors.now) (g.E.Write.contents c.tell_other-in-Step.new.errors) (told_lack c.args.lack.now help))) (sym (ap remedy c.in-Step.is)) c.tell_other-in-Step.ensures

pub returns-in-Memory : goal.returns-in-Memory
returns-in-Memory g c =
    subst (λ (help : List ℕ). OnOk c.tell_other-in-Memory.result (Appends (g.E.Write.contents c.args.errors.now) (g.E.Write.contents c.tell_other-in-Memory.new.errors) (told_lack c.args.lack.now help))) (sym (ap remedy c.in-Memory.is)) c.tell_other-in-Memory.ensures
