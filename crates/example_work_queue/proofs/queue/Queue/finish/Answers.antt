use Rattle.std.proofs.Common.{◌≡◌, ℕ, ◌<◌, ◌^◌, List, Vec, Global, Bool, Option, Some, None, option_map, inr, refl, sym, ap, ◌∙◌, arith}
use Rattle.std.specs.FinMap as finite
use Rattle.std.proofs.lemmas.Result.{err_from_is_err_and}
use Rattle.lsm_codec.specs.Guards.{Condition}
use Rattle.lsm_codec.specs.Keys.{Bytes}
use Rattle.lsm_machine.specs.Calls.{Get, Number, Refused, Value}
use Rattle.lsm_machine.specs.declared.asked.At.TheVariants.{Now}
use Rattle.example_work_queue.specs.Committing.{HasFinished, map_in}
use Rattle.example_work_queue.specs.Deeds.{Deed, Finishes}
use Rattle.example_work_queue.specs.Tasks.{claimed_key}
use Rattle.example_work_queue.proofs.Committed.{asks_for, asks_same, done_behind, done_does, done_holds, err_holds, err_same, finishes_under, refused_behind, served, told_row, unclaimed}
use Rattle.example_work_queue.proofs.queue.Queue.finish.Goals as goal

abbrev row_of : Option (Vec ℕ Global) → Option (List ℕ)
row_of row = option_map (λ v. v.items) row

guard_is : (guard : Condition) (number : ℕ) (given task : List ℕ) → guard ≡ record { key = claimed_key number; value = Some given } → given ≡ task → guard ≡ record { key = claimed_key number; value = Some task }
guard_is guard number given task is same = is ∙ ap (λ (t : List ℕ). let x : Condition = record { key = claimed_key number; value = Some t } in x) same

pub returns-in_err-write_if-in-Some-clause-commits : goal.returns-in_err-write_if-in-Some-clause-commits
returns-in_err-write_if-in-Some-clause-commits g c =
    let number = c.args.number in
    let task = c.in-Some.task.items in
    let small : number < 2 ^ 64 = omega arith in
    let p = err_from_is_err_and c.from_residual-in_err-write_if-in-Some.result c.from_residual-in_err-write_if-in-Some.ensures.1 in
    rw (p.1, p.2)
    (refused_behind c.args.self.now c.get.new.self c.write_if.new.self (asks_for c.args.self.now c.get.new.self c.claimed_key-key.result (Value (row_of c.in_ok-row.row)) (served c.self.inside.db c.args.self.now c.get.new.self (Get Now c.claimed_key-key.result) (Value (row_of c.in_ok-row.row)) c.self.view_is c.in_ok-row.ensures.serves))
    (λ (deed : Deed). deed ≡ Finishes number) c.in_err-write_if-in-Some.field-0.0
    (inr (
      Finishes number,
      refl,
      finishes_under c.get.new.self c.write_if.new.self (Refused c.in_err-write_if-in-Some.field-0.0) c.in_ok-guard-in-Some.guard c.in_ok-batch-in-Some.batch c.in_err-write_if-in-Some.ensures.writes
          number task small (guard_is c.in_ok-guard-in-Some.guard number c.deref.result.now task c.in_ok-guard-in-Some.ensures c.deref.ensures.value) c.in_ok-batch-in-Some.ensures,
    )))

pub returns-in_err-write_if-in-Some-clause-same : goal.returns-in_err-write_if-in-Some-clause-same
returns-in_err-write_if-in-Some-clause-same g c =
    err_same c.args.self.now c.write_if.new.self (λ (finished : Bool). HasFinished finished c.args.number c.args.self.now c.write_if.new.self) (λ (deed : Deed). deed ≡ Finishes c.args.number)
    c.from_residual-in_err-write_if-in-Some.result (returns-in_err-write_if-in-Some-clause-commits g c)

pub returns-in_err-write_if-in-Some-clause-holds : goal.returns-in_err-write_if-in-Some-clause-holds
returns-in_err-write_if-in-Some-clause-holds g c =
    let p = err_from_is_err_and c.from_residual-in_err-write_if-in-Some.result c.from_residual-in_err-write_if-in-Some.ensures.1 in
    err_holds c.args.self.now c.write_if.new.self (λ (finished : Bool). HasFinished finished c.args.number c.args.self.now c.write_if.new.self) (λ (deed : Deed). deed ≡ Finishes c.args.number)
    c.from_residual-in_err-write_if-in-Some.result p.0 p.1 (returns-in_err-write_if-in-Some-clause-commits g c)

pub returns-in_ok-write_if-in-Some-clause-commits : goal.returns-in_ok-write_if-in-Some-clause-commits
returns-in_ok-write_if-in-Some-clause-commits g c =
    let number = c.args.number in
    let task = c.in-Some.task.items in
    let small : number < 2 ^ 64 = omega arith in
    done_behind c.args.self.now c.get.new.self c.write_if.new.self (asks_for c.args.self.now c.get.new.self c.claimed_key-key.result (Value (row_of c.in_ok-row.row)) (served c.self.inside.db c.args.self.now c.get.new.self (Get Now c.claimed_key-key.result) (Value (row_of c.in_ok-row.row)) c.self.view_is c.in_ok-row.ensures.serves))
    (Finishes number) (
      c.in_ok-write_if-in-Some.field-0,
      finishes_under c.get.new.self c.write_if.new.self (Number c.in_ok-write_if-in-Some.field-0) c.in_ok-guard-in-Some.guard c.in_ok-batch-in-Some.batch c.in_ok-write_if-in-Some.ensures.writes
          number task small (guard_is c.in_ok-guard-in-Some.guard number c.deref.result.now task c.in_ok-guard-in-Some.ensures c.deref.ensures.value) c.in_ok-batch-in-Some.ensures,
    )

pub returns-in_ok-write_if-in-Some-clause-finishes : goal.returns-in_ok-write_if-in-Some-clause-finishes
returns-in_ok-write_if-in-Some-clause-finishes g c = λ holds. (done_does c.args.self.now c.write_if.new.self (Finishes c.args.number) (returns-in_ok-write_if-in-Some-clause-commits g c) holds).1

pub returns-in_ok-write_if-in-Some-clause-holds : goal.returns-in_ok-write_if-in-Some-clause-holds
returns-in_ok-write_if-in-Some-clause-holds g c = done_holds c.args.self.now c.write_if.new.self (Finishes c.args.number) (returns-in_ok-write_if-in-Some-clause-commits g c)

pub returns-in-None-clause-finishes : goal.returns-in-None-clause-finishes
returns-in-None-clause-finishes g c = λ holds.
    let none : finite.get (map_in c.args.self.now) (claimed_key c.args.number) ≡ None =
    ap (λ (key : Bytes). finite.get (map_in c.args.self.now) key) (sym c.claimed_key-key.ensures)
    ∙ sym (told_row c.args.self.now c.get.new.self c.claimed_key-key.result (row_of c.in_ok-row.row) holds.backed (served c.self.inside.db c.args.self.now c.get.new.self (Get Now c.claimed_key-key.result) (Value (row_of c.in_ok-row.row)) c.self.view_is c.in_ok-row.ensures.serves))
    ∙ ap row_of c.in-None.is in (
      λ task. unclaimed (map_in c.args.self.now) c.args.number task none,
      asks_same c.args.self.now c.get.new.self (asks_for c.args.self.now c.get.new.self c.claimed_key-key.result (Value (row_of c.in_ok-row.row)) (served c.self.inside.db c.args.self.now c.get.new.self (Get Now c.claimed_key-key.result) (Value (row_of c.in_ok-row.row)) c.self.view_is c.in_ok-row.ensures.serves)),
    )
