use Rattle.std.proofs.Common.{ℕ, ◌+◌, ◌<◌, ◌^◌, List, Vec, Global, option_map, inr, refl, arith}
use Rattle.std.proofs.lemmas.Result.{err_from_is_err_and}
use Rattle.lsm_machine.specs.Calls.{Get, Number, Refused, Value}
use Rattle.lsm_machine.specs.declared.asked.At.TheVariants.{Now}
use Rattle.example_work_queue.specs.Committing.{AddsTask, HasCommitted}
use Rattle.example_work_queue.specs.Deeds.{Adds}
use Rattle.example_work_queue.specs.Tasks.{last_key}
use Rattle.example_work_queue.proofs.Committed.{adds_under, asks_for, done_behind, done_does, done_holds, err_holds, err_same, refused_behind, served}
use Rattle.example_work_queue.proofs.queue.Queue.add.Goals as goal

pub returns-in_err-write_if-clause-commits : goal.returns-in_err-write_if-clause-commits
returns-in_err-write_if-clause-commits g c =
    let row = option_map {T = Vec ℕ Global} {U = List ℕ} (λ v. v.items) c.in_ok-row.row in
    let last = c.in_ok-last.last in
    let small : last + 1 < 2 ^ 64 = omega arith in
    let p = err_from_is_err_and c.from_residual-in_err-write_if.result c.from_residual-in_err-write_if.ensures.1 in
    rw (p.1, p.2)
    (refused_behind c.args.self.now c.get.new.self c.write_if.new.self (asks_for c.args.self.now c.get.new.self last_key (Value row) (served c.self.inside.db c.args.self.now c.get.new.self (Get Now last_key) (Value row) c.self.view_is c.in_ok-row.ensures.serves)) (AddsTask c.args.task.now) c.in_err-write_if.field-0.0
    (inr (
      Adds (last + 1) c.args.task.now,
      (last + 1, refl),
      adds_under c.get.new.self c.write_if.new.self (Refused c.in_err-write_if.field-0.0) c.in_ok-guard.guard c.in_ok-batch.batch c.in_err-write_if.ensures.writes
          row last c.args.task.now c.in_ok-last.ensures small c.in_ok-guard.ensures c.in_ok-batch.ensures,
    )))

pub returns-in_err-write_if-clause-same : goal.returns-in_err-write_if-clause-same
returns-in_err-write_if-clause-same g c =
    err_same c.args.self.now c.write_if.new.self (λ (number : ℕ). HasCommitted (Adds number c.args.task.now) c.args.self.now c.write_if.new.self) (AddsTask c.args.task.now)
    c.from_residual-in_err-write_if.result (returns-in_err-write_if-clause-commits g c)

pub returns-in_err-write_if-clause-holds : goal.returns-in_err-write_if-clause-holds
returns-in_err-write_if-clause-holds g c =
    let p = err_from_is_err_and c.from_residual-in_err-write_if.result c.from_residual-in_err-write_if.ensures.1 in
    err_holds c.args.self.now c.write_if.new.self (λ (number : ℕ). HasCommitted (Adds number c.args.task.now) c.args.self.now c.write_if.new.self) (AddsTask c.args.task.now)
    c.from_residual-in_err-write_if.result p.0 p.1 (returns-in_err-write_if-clause-commits g c)

pub returns-clause-commits : goal.returns-clause-commits
returns-clause-commits g c =
    let row = option_map {T = Vec ℕ Global} {U = List ℕ} (λ v. v.items) c.in_ok-row.row in
    let last = c.in_ok-last.last in
    let small : last + 1 < 2 ^ 64 = omega arith in
    done_behind c.args.self.now c.get.new.self c.write_if.new.self (asks_for c.args.self.now c.get.new.self last_key (Value row) (served c.self.inside.db c.args.self.now c.get.new.self (Get Now last_key) (Value row) c.self.view_is c.in_ok-row.ensures.serves)) (Adds (last + 1) c.args.task.now) (
      c.in_ok-write_if.field-0,
      adds_under c.get.new.self c.write_if.new.self (Number c.in_ok-write_if.field-0) c.in_ok-guard.guard c.in_ok-batch.batch c.in_ok-write_if.ensures.writes
          row last c.args.task.now c.in_ok-last.ensures small c.in_ok-guard.ensures c.in_ok-batch.ensures,
    )

pub returns-clause-adds : goal.returns-clause-adds
returns-clause-adds g c = λ holds.
    let done = done_does c.args.self.now c.write_if.new.self (Adds (c.in_ok-last.last + 1) c.args.task.now) (returns-clause-commits g c) holds in
    record { next = done.0.0; does = done.1 }

pub returns-clause-holds : goal.returns-clause-holds
returns-clause-holds g c = done_holds c.args.self.now c.write_if.new.self (Adds (c.in_ok-last.last + 1) c.args.task.now) (returns-clause-commits g c)
