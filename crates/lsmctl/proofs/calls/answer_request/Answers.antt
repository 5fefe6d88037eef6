use Rattle.std.proofs.Common.{ℕ, List, Some, None, subst}
use Rattle.std.specs.Prelude.{IfErr, IfOk}
use Rattle.lsm_codec.specs.Guards.{Condition}
use Rattle.lsm_language.specs.Faults.{IsRefusalBy, reason_of}
use Rattle.lsm_language.specs.declared.request.Request.TheVariants as request
use Rattle.lsm_machine.specs.Calls.{Get, Scan}
use Rattle.lsm_machine.specs.declared.asked.At.TheVariants.{Now}
use Rattle.lsmctl.specs.Answers.{HasFound, HasRows, IsRefusedOpened, OfOpened}
use Rattle.lsmctl.specs.Commits.{HasCommitted}
use Rattle.lsmctl.specs.Refusing.{RefusesToCommit, RefusesToTell}
use Rattle.lsmctl.proofs.AnsweringLaws.{comes_silent, comes_when, faults_silent, faults_when}
use Rattle.lsmctl.proofs.calls.answer_request.Goals as goal

pub returns-in-Format-clause-comes : goal.returns-in-Format-clause-comes
returns-in-Format-clause-comes g c =
    comes_when c.args.request (request.Format c.in-Format.file c.in-Format.geometry) (g.I.Read.remaining c.args.input.now) (g.O.Write.contents c.args.output.now) c.format.result c.in-Format.is
    (comes_silent _ (g.O.Write.contents c.args.output.now) c.format.result c.format.ensures.gives)

pub returns-in-Format-clause-faults : goal.returns-in-Format-clause-faults
returns-in-Format-clause-faults g c =
    faults_when c.args.request (request.Format c.in-Format.file c.in-Format.geometry) (g.I.Read.remaining c.args.input.now) (g.O.Write.contents c.args.output.now) c.format.result c.in-Format.is
    (faults_silent _ (g.O.Write.contents c.args.output.now) c.format.result c.format.ensures.refused)

pub returns-in-Put-clause-comes : goal.returns-in-Put-clause-comes
returns-in-Put-clause-comes g c =
    comes_when c.args.request (request.Put c.in-Put.file c.in-Put.batch) (g.I.Read.remaining c.args.input.now) (g.O.Write.contents c.args.output.now) c.commit.result c.in-Put.is
    (comes_silent _ (g.O.Write.contents c.args.output.now) c.commit.result c.commit.ensures.gives)

pub returns-in-Put-clause-faults : goal.returns-in-Put-clause-faults
returns-in-Put-clause-faults g c =
    faults_when c.args.request (request.Put c.in-Put.file c.in-Put.batch) (g.I.Read.remaining c.args.input.now) (g.O.Write.contents c.args.output.now) c.commit.result c.in-Put.is
    (faults_silent _ (g.O.Write.contents c.args.output.now) c.commit.result c.commit.ensures.refused)

pub returns-in-PutIf-clause-comes : goal.returns-in-PutIf-clause-comes
returns-in-PutIf-clause-comes g c =
    comes_when c.args.request (request.PutIf c.in-PutIf.file c.in-PutIf.guards c.in-PutIf.batch) (g.I.Read.remaining c.args.input.now) (g.O.Write.contents c.args.output.now) c.commit-in-PutIf.result c.in-PutIf.is
    (comes_silent _ (g.O.Write.contents c.args.output.now) c.commit-in-PutIf.result (subst (λ (gs : List Condition). IfOk c.commit-in-PutIf.result (OfOpened (HasCommitted (Some gs) c.in-PutIf.batch))) c.deref.ensures.value c.commit-in-PutIf.ensures.gives))

pub returns-in-PutIf-clause-faults : goal.returns-in-PutIf-clause-faults
returns-in-PutIf-clause-faults g c =
    faults_when c.args.request (request.PutIf c.in-PutIf.file c.in-PutIf.guards c.in-PutIf.batch) (g.I.Read.remaining c.args.input.now) (g.O.Write.contents c.args.output.now) c.commit-in-PutIf.result c.in-PutIf.is
    (faults_silent _ (g.O.Write.contents c.args.output.now) c.commit-in-PutIf.result (subst (λ (gs : List Condition). IfErr c.commit-in-PutIf.result (λ e. IsRefusalBy (IsRefusedOpened (RefusesToCommit (Some gs) c.in-PutIf.batch)) (reason_of e))) c.deref.ensures.value c.commit-in-PutIf.ensures.refused))

pub returns-in-Delete-clause-comes : goal.returns-in-Delete-clause-comes
returns-in-Delete-clause-comes g c =
    comes_when c.args.request (request.Delete c.in-Delete.file c.in-Delete.batch) (g.I.Read.remaining c.args.input.now) (g.O.Write.contents c.args.output.now) c.commit-in-Delete.result c.in-Delete.is
    (comes_silent _ (g.O.Write.contents c.args.output.now) c.commit-in-Delete.result c.commit-in-Delete.ensures.gives)

pub returns-in-Delete-clause-faults : goal.returns-in-Delete-clause-faults
returns-in-Delete-clause-faults g c =
    faults_when c.args.request (request.Delete c.in-Delete.file c.in-Delete.batch) (g.I.Read.remaining c.args.input.now) (g.O.Write.contents c.args.output.now) c.commit-in-Delete.result c.in-Delete.is
    (faults_silent _ (g.O.Write.contents c.args.output.now) c.commit-in-Delete.result c.commit-in-Delete.ensures.refused)

pub returns-in-Get-clause-comes : goal.returns-in-Get-clause-comes
returns-in-Get-clause-comes g c =
    comes_when c.args.request (request.Get c.in-Get.file c.in-Get.key) (g.I.Read.remaining c.args.input.now) (g.O.Write.contents c.args.output.now) c.get.result c.in-Get.is
    (comes_silent _ (g.O.Write.contents c.args.output.now) c.get.result (subst (λ (key : List ℕ). IfOk c.get.result (OfOpened (HasFound key))) c.deref-in-Get.ensures.value c.get.ensures.gives))

pub returns-in-Get-clause-faults : goal.returns-in-Get-clause-faults
returns-in-Get-clause-faults g c =
    faults_when c.args.request (request.Get c.in-Get.file c.in-Get.key) (g.I.Read.remaining c.args.input.now) (g.O.Write.contents c.args.output.now) c.get.result c.in-Get.is
    (faults_silent _ (g.O.Write.contents c.args.output.now) c.get.result (subst (λ (key : List ℕ). IfErr c.get.result (λ e. IsRefusalBy (IsRefusedOpened (RefusesToTell (Get Now key))) (reason_of e))) c.deref-in-Get.ensures.value c.get.ensures.refused))

pub returns-in-Scan-clause-comes : goal.returns-in-Scan-clause-comes
returns-in-Scan-clause-comes g c =
    comes_when c.args.request (request.Scan c.in-Scan.file c.in-Scan.from c.in-Scan.limit) (g.I.Read.remaining c.args.input.now) (g.O.Write.contents c.args.output.now) c.scan.result c.in-Scan.is
    (comes_silent _ (g.O.Write.contents c.args.output.now) c.scan.result (subst (λ (from : List ℕ). IfOk c.scan.result (OfOpened (HasRows from c.in-Scan.limit))) c.deref-in-Scan.ensures.value c.scan.ensures.gives))

pub returns-in-Scan-clause-faults : goal.returns-in-Scan-clause-faults
returns-in-Scan-clause-faults g c =
    faults_when c.args.request (request.Scan c.in-Scan.file c.in-Scan.from c.in-Scan.limit) (g.I.Read.remaining c.args.input.now) (g.O.Write.contents c.args.output.now) c.scan.result c.in-Scan.is
    (faults_silent _ (g.O.Write.contents c.args.output.now) c.scan.result (subst (λ (from : List ℕ). IfErr c.scan.result (λ e. IsRefusalBy (IsRefusedOpened (RefusesToTell (Scan Now from None c.in-Scan.limit))) (reason_of e))) c.deref-in-Scan.ensures.value c.scan.ensures.refused))

pub returns-in-Stat-clause-comes : goal.returns-in-Stat-clause-comes
returns-in-Stat-clause-comes g c =
    comes_when c.args.request (request.Stat c.in-Stat.file) (g.I.Read.remaining c.args.input.now) (g.O.Write.contents c.args.output.now) c.stat.result c.in-Stat.is
    (comes_silent _ (g.O.Write.contents c.args.output.now) c.stat.result c.stat.ensures.gives)

pub returns-in-Stat-clause-faults : goal.returns-in-Stat-clause-faults
returns-in-Stat-clause-faults g c =
    faults_when c.args.request (request.Stat c.in-Stat.file) (g.I.Read.remaining c.args.input.now) (g.O.Write.contents c.args.output.now) c.stat.result c.in-Stat.is
    (faults_silent _ (g.O.Write.contents c.args.output.now) c.stat.result c.stat.ensures.refused)

pub returns-in-Check-clause-comes : goal.returns-in-Check-clause-comes
returns-in-Check-clause-comes g c =
    comes_when c.args.request (request.Check c.in-Check.file) (g.I.Read.remaining c.args.input.now) (g.O.Write.contents c.args.output.now) c.check.result c.in-Check.is
    (comes_silent _ (g.O.Write.contents c.args.output.now) c.check.result c.check.ensures.gives)

pub returns-in-Check-clause-faults : goal.returns-in-Check-clause-faults
returns-in-Check-clause-faults g c =
    faults_when c.args.request (request.Check c.in-Check.file) (g.I.Read.remaining c.args.input.now) (g.O.Write.contents c.args.output.now) c.check.result c.in-Check.is
    (faults_silent _ (g.O.Write.contents c.args.output.now) c.check.result c.check.ensures.refused)

pub returns-in-Compact-clause-comes : goal.returns-in-Compact-clause-comes
returns-in-Compact-clause-comes g c =
    comes_when c.args.request (request.Compact c.in-Compact.file) (g.I.Read.remaining c.args.input.now) (g.O.Write.contents c.args.output.now) c.compact.result c.in-Compact.is
    (comes_silent _ (g.O.Write.contents c.args.output.now) c.compact.result c.compact.ensures.gives)

pub returns-in-Compact-clause-faults : goal.returns-in-Compact-clause-faults
returns-in-Compact-clause-faults g c =
    faults_when c.args.request (request.Compact c.in-Compact.file) (g.I.Read.remaining c.args.input.now) (g.O.Write.contents c.args.output.now) c.compact.result c.in-Compact.is
    (faults_silent _ (g.O.Write.contents c.args.output.now) c.compact.result c.compact.ensures.refused)

pub returns-in-Replay-clause-comes : goal.returns-in-Replay-clause-comes
returns-in-Replay-clause-comes g c =
    comes_when c.args.request (request.Replay c.in-Replay.file c.in-Replay.script) (g.I.Read.remaining c.args.input.now) (g.O.Write.contents c.args.output.now) c.replay.result c.in-Replay.is
    (comes_silent _ (g.O.Write.contents c.args.output.now) c.replay.result c.replay.ensures.gives)

pub returns-in-Replay-clause-faults : goal.returns-in-Replay-clause-faults
returns-in-Replay-clause-faults g c =
    faults_when c.args.request (request.Replay c.in-Replay.file c.in-Replay.script) (g.I.Read.remaining c.args.input.now) (g.O.Write.contents c.args.output.now) c.replay.result c.in-Replay.is
    (faults_silent _ (g.O.Write.contents c.args.output.now) c.replay.result c.replay.ensures.refused)
