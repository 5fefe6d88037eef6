use Rattle.std.proofs.Common.{◌≡◌, ◌*◌, ◌≤◌, ℕ, List, [], Bool, length, Some, None, refl, sym, ◌∙◌, ap, subst, arith}
use Rattle.std.specs.Prelude.{Result, Ok, Err, Option}
use Rattle.lsm_device.specs.declared.refusal.Refusal.{Refusal}
use Rattle.lsm_device.proofs.Counting.{AtMost-joined}
use Rattle.lsm_levels.specs.Asking.{Source}
use Rattle.lsm_levels.specs.Levels.{places}
use Rattle.lsm_open.specs.Tables.{first_data}
use Rattle.lsm_machine.specs.Calls.{CommitIf, Number, Refused, reply_of}
use Rattle.lsm_store.specs.Memory.{state_of, view_of, work_of}
use Rattle.lsm_machine.specs.RecoveryPoints.{present_map}
use Rattle.lsm_machine.specs.Refusals.{refusal, first_refusal, guard_refusals}
use Rattle.lsm_store.specs.Serving.{Serves, reply_in}
use Rattle.lsm_store.proofs.Guarding.{asked_none, asked_some, told_early, told_asked, present_answers, then_committed, few_guards, asks_end, asks_commit}
use Rattle.lsm_machine.proofs.Unrefused.{err_of}
use Rattle.lsm_store.proofs.serve.commit_if.Goals as goal

pub returns-in_err-check_commit_if-clause-serves : goal.returns-in_err-check_commit_if-clause-serves
returns-in_err-check_commit_if-clause-serves g c =
    let old = view_of (g.D.Device.medium c.args.device.now) c.args.memory.now c.args.cache.now in
    let guards = c.args.guards.now in
    let batch = c.args.batch.now in
    let found = err_of c.from_residual.result _ c.from_residual.ensures.1 in
    let is : refusal old.state (CommitIf guards batch) ≡ Some found.0 = c.in_err-check_commit_if.ensures ∙ ap Some (sym found.2) in
    subst (λ (r : Result ℕ Refusal). Serves old (CommitIf guards batch) (reply_in (CommitIf guards batch) old.state (reply_of (λ n. Number n) r)) old) (sym found.1) (told_early old guards batch found.0 is)

pub returns-in_err-ask_guards-clause-serves : goal.returns-in_err-ask_guards-clause-serves
returns-in_err-ask_guards-clause-serves g c =
    let m = c.args.memory.now in
    let old = view_of (g.D.Device.medium c.args.device.now) m c.args.cache.now in
    let medium = g.D.Device.medium c.ask_guards.new.device in
    let guards = c.args.guards.now in
    let batch = c.args.batch.now in
    let area = first_data m.regions.log_sectors in
    let none : refusal old.state (CommitIf guards batch) ≡ None = c.in_ok-check_commit_if.ensures in
    let e = c.in_err-ask_guards.field-0.0 in
    let asked = c.in_err-ask_guards.ensures in
    let found = err_of c.from_residual-in_err-ask_guards.result _ c.from_residual-in_err-ask_guards.ensures.1 in
    let was : Source = record { cache = c.args.cache.now; medium = g.D.Device.medium c.args.device.now } in
    let now : Source = record { cache = c.ask_guards.new.cache; medium = medium } in
    let first = asked_some m.mem (work_of m).sealed (places m.levels) area m.count 0 guards e was now asked.asks batch in
    subst (λ (r : Result ℕ Refusal). Serves old (CommitIf guards batch) (reply_in (CommitIf guards batch) old.state (reply_of (λ n. Number n) r)) (view_of medium m c.ask_guards.new.cache)) (sym (found.1 ∙ ap (λ (x : Refusal). Err x) found.2))
    (told_asked old guards batch none c.requires.kept.numbered medium c.ask_guards.new.cache first e asked.reads asked.refused
    (present_answers old guards batch none m.count c.requires.kept.agrees.counted (Err e) asked.answers))

pub returns-in_err-commit-clause-serves : goal.returns-in_err-commit-clause-serves
returns-in_err-commit-clause-serves g c =
    let m = c.args.memory.now in
    let old = view_of (g.D.Device.medium c.args.device.now) m c.args.cache.now in
    let medium = g.D.Device.medium c.ask_guards.new.device in
    let new = view_of (g.D.Device.medium c.commit.new.device) c.commit.new.memory c.ask_guards.new.cache in
    let guards = c.args.guards.now in
    let batch = c.args.batch.now in
    let area = first_data m.regions.log_sectors in
    let none : refusal old.state (CommitIf guards batch) ≡ None = c.in_ok-check_commit_if.ensures in
    let asked = c.in_ok-ask_guards.ensures in
    let e = c.in_err-commit.field-0.0 in
    let found = err_of c.from_residual-in_err-commit.result _ c.from_residual-in_err-commit.ensures.1 in
    let was : Source = record { cache = c.args.cache.now; medium = g.D.Device.medium c.args.device.now } in
    let now : Source = record { cache = c.ask_guards.new.cache; medium = medium } in
    subst (λ (r : Result ℕ Refusal). Serves old (CommitIf guards batch) (reply_in (CommitIf guards batch) new.state (reply_of (λ n. Number n) r)) new) (sym (found.1 ∙ ap (λ (x : Refusal). Err x) found.2))
    (then_committed old c.requires.kept.numbered guards batch none medium c.ask_guards.new.cache asked.reads (asked_none m.mem (work_of m).sealed (places m.levels) area m.count 0 guards None was now asked.asks)
    (present_answers old guards batch none m.count c.requires.kept.agrees.counted (Ok tt) asked.answers) new (Err e) (c.in_err-commit.ensures.serves c.ask_guards.new.cache))

pub returns-clause-serves : goal.returns-clause-serves
returns-clause-serves g c =
    let m = c.args.memory.now in
    let old = view_of (g.D.Device.medium c.args.device.now) m c.args.cache.now in
    let medium = g.D.Device.medium c.ask_guards.new.device in
    let new = view_of (g.D.Device.medium c.commit.new.device) c.commit.new.memory c.ask_guards.new.cache in
    let guards = c.args.guards.now in
    let batch = c.args.batch.now in
    let area = first_data m.regions.log_sectors in
    let none : refusal old.state (CommitIf guards batch) ≡ None = c.in_ok-check_commit_if.ensures in
    let asked = c.in_ok-ask_guards.ensures in
    let was : Source = record { cache = c.args.cache.now; medium = g.D.Device.medium c.args.device.now } in
    let now : Source = record { cache = c.ask_guards.new.cache; medium = medium } in
    then_committed old c.requires.kept.numbered guards batch none medium c.ask_guards.new.cache asked.reads (asked_none m.mem (work_of m).sealed (places m.levels) area m.count 0 guards None was now asked.asks)
    (present_answers old guards batch none m.count c.requires.kept.agrees.counted (Ok tt) asked.answers) new (Ok c.in_ok-commit.field-0) (c.in_ok-commit.ensures.serves c.ask_guards.new.cache)

pub returns-in_err-commit-clause-calls : goal.returns-in_err-commit-clause-calls
returns-in_err-commit-clause-calls g c =
    let few = few_guards (state_of c.args.memory.now) c.args.guards.now c.args.batch.now c.in_ok-check_commit_if.ensures in
    AtMost-joined (128 * length c.args.guards.now) 0 0 0 128 0 2048 128 0 (g.D.Device.medium c.args.device.now).calls (g.D.Device.medium c.ask_guards.new.device).calls (g.D.Device.medium c.commit.new.device).calls
    (omega (arith, few)) (omega arith) (omega arith) c.in_ok-ask_guards.ensures.reads.calls c.in_err-commit.ensures.calls

pub returns-clause-calls : goal.returns-clause-calls
returns-clause-calls g c =
    let few = few_guards (state_of c.args.memory.now) c.args.guards.now c.args.batch.now c.in_ok-check_commit_if.ensures in
    AtMost-joined (128 * length c.args.guards.now) 0 0 0 128 0 2048 128 0 (g.D.Device.medium c.args.device.now).calls (g.D.Device.medium c.ask_guards.new.device).calls (g.D.Device.medium c.commit.new.device).calls
    (omega (arith, few)) (omega arith) (omega arith) c.in_ok-ask_guards.ensures.reads.calls c.in_ok-commit.ensures.calls

pub returns-in_err-ask_guards-clause-asks : goal.returns-in_err-ask_guards-clause-asks
returns-in_err-ask_guards-clause-asks g c = λ none.
    let m = c.args.memory.now in
    let old = view_of (g.D.Device.medium c.args.device.now) m c.args.cache.now in
    let now : Source = record { cache = c.ask_guards.new.cache; medium = g.D.Device.medium c.ask_guards.new.device } in
    let found = err_of c.from_residual-in_err-ask_guards.result _ c.from_residual-in_err-ask_guards.ensures.1 in
    asks_end old c.args.guards.now c.args.batch.now m.count c.requires.kept.agrees.counted now c.from_residual-in_err-ask_guards.result c.in_err-ask_guards.field-0.0
    (found.1 ∙ ap (λ (x : Refusal). Err x) found.2) c.in_err-ask_guards.ensures.asks

pub returns-in_err-commit-clause-asks : goal.returns-in_err-commit-clause-asks
returns-in_err-commit-clause-asks g c = λ none.
    let m = c.args.memory.now in
    let old = view_of (g.D.Device.medium c.args.device.now) m c.args.cache.now in
    let now : Source = record { cache = c.ask_guards.new.cache; medium = g.D.Device.medium c.ask_guards.new.device } in
    let new = view_of (g.D.Device.medium c.commit.new.device) c.commit.new.memory c.ask_guards.new.cache in
    let found = err_of c.from_residual-in_err-commit.result _ c.from_residual-in_err-commit.ensures.1 in
    let is = found.1 ∙ ap (λ (x : Refusal). Err x) found.2 in
    asks_commit old c.args.guards.now c.args.batch.now m.count c.requires.kept.agrees.counted now c.from_residual-in_err-commit.result new c.in_ok-ask_guards.ensures.asks
    (rw is (c.in_err-commit.ensures.serves c.ask_guards.new.cache))

pub returns-clause-asks : goal.returns-clause-asks
returns-clause-asks g c = λ none.
    let m = c.args.memory.now in
    let old = view_of (g.D.Device.medium c.args.device.now) m c.args.cache.now in
    let now : Source = record { cache = c.ask_guards.new.cache; medium = g.D.Device.medium c.ask_guards.new.device } in
    let new = view_of (g.D.Device.medium c.commit.new.device) c.commit.new.memory c.ask_guards.new.cache in
    asks_commit old c.args.guards.now c.args.batch.now m.count c.requires.kept.agrees.counted now (Ok c.in_ok-commit.field-0) new c.in_ok-ask_guards.ensures.asks
    (c.in_ok-commit.ensures.serves c.ask_guards.new.cache)
