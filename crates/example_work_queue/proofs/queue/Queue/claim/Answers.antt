use Rattle.std.proofs.Common.{◌≡◌, ℕ, ◌<◌, ◌^◌, List, [], ◌∷◌, Vec, Global, Option, Some, option_map, inr, refl, ap, subst, ◌∙◌}
use Rattle.std.specs.Prelude.{IfSome, MatchOption}
use Rattle.std.proofs.lemmas.Result.{err_from_is_err_and}
use Rattle.lsm_codec.specs.Guards.{Condition}
use Rattle.lsm_codec.specs.Map.{Operation}
use Rattle.lsm_store.specs.Backing.{StoreView}
use Rattle.lsm_machine.specs.Calls.{Number, Refused, Rows, Scan}
use Rattle.lsm_machine.specs.declared.asked.At.TheVariants.{Now}
use Rattle.example_work_queue.specs.Committing.{Asks, ClaimsOne, HasCommitted, IsFirstOf, map_in}
use Rattle.example_work_queue.specs.Deeds.{Claims, batch_of}
use Rattle.example_work_queue.specs.Tasks.{waiting_key}
use Rattle.example_work_queue.proofs.Committed.{asks_rows, asks_same, claims_under, done_behind, done_does, done_holds, err_holds, err_same, refused_behind, served}
use Rattle.example_work_queue.proofs.FirstRows.{told_first}
use Rattle.example_work_queue.proofs.queue.Queue.claim.Goals as goal

-- what a claim that was answered has done
abbrev HasClaimed : (StoreView × StoreView) → Option (ℕ × Vec ℕ Global) → Type 0
HasClaimed stores found = MatchOption found (Asks stores.0 stores.1) (λ f. HasCommitted (Claims f.0 f.1.items) stores.0 stores.1)

abbrev found_in : Option (ℕ × Vec ℕ Global) → Option (ℕ × List ℕ)
found_in found = option_map (λ f. (f.0, f.1.items)) found

small : (number : ℕ) (task : Vec ℕ Global) (found : Option (ℕ × Vec ℕ Global)) → found ≡ Some (number, task) → IfSome found (λ f. f.0 < 2 ^ 64) → number < 2 ^ 64
small number task found is fits = subst (λ (o : Option (ℕ × Vec ℕ Global)). IfSome o (λ f. f.0 < 2 ^ 64)) is fits

guard_is : (guard : Condition) (number : ℕ) (given task : List ℕ) → guard ≡ record { key = waiting_key number; value = Some given } → given ≡ task → guard ≡ record { key = waiting_key number; value = Some task }
guard_is guard number given task is same = is ∙ ap (λ (t : List ℕ). let x : Condition = record { key = waiting_key number; value = Some t } in x) same

batch_is : (batch : List Operation) (number : ℕ) (given task : List ℕ) → batch ≡ batch_of (Claims number given) → given ≡ task → batch ≡ batch_of (Claims number task)
batch_is batch number given task is same = is ∙ ap (λ (t : List ℕ). batch_of (Claims number t)) same

pub returns-in_err-write_if-in-Some-clause-commits : goal.returns-in_err-write_if-in-Some-clause-commits
returns-in_err-write_if-in-Some-clause-commits g c =
    let number = c.in-Some.number in
    let task = c.in-Some.task.items in
    let p = err_from_is_err_and c.from_residual-in_err-write_if-in-Some.result c.from_residual-in_err-write_if-in-Some.ensures.1 in
    rw (p.1, p.2)
    (refused_behind c.args.self.now c.page.new.self c.write_if.new.self (asks_rows c.args.self.now c.page.new.self (119 ∷ []) (Some (120 ∷ [])) 1 (Rows c.in_ok-page.page) (served c.self.inside.db c.args.self.now c.page.new.self (Scan Now (119 ∷ []) (Some (120 ∷ [])) 1) (Rows c.in_ok-page.page) c.self.view_is c.in_ok-page.ensures.serves))
    ClaimsOne c.in_err-write_if-in-Some.field-0.0
    (inr (
      Claims number task,
      (number, task, refl),
      claims_under c.page.new.self c.write_if.new.self (Refused c.in_err-write_if-in-Some.field-0.0) c.in_ok-guard-in-Some.guard c.in_ok-batch-in-Some.batch c.in_err-write_if-in-Some.ensures.writes
          number task (small number c.in-Some.task c.in_ok-number.field-0 c.in-Some.is c.in_ok-number.ensures.fits)
          (guard_is c.in_ok-guard-in-Some.guard number c.deref.result.now task c.in_ok-guard-in-Some.ensures c.deref.ensures.value)
          (batch_is c.in_ok-batch-in-Some.batch number c.deref-in-Some.result.now task c.in_ok-batch-in-Some.ensures c.deref-in-Some.ensures.value),
    )))

pub returns-in_err-write_if-in-Some-clause-same : goal.returns-in_err-write_if-in-Some-clause-same
returns-in_err-write_if-in-Some-clause-same g c =
    err_same c.args.self.now c.write_if.new.self (HasClaimed (c.args.self.now, c.write_if.new.self)) ClaimsOne
    c.from_residual-in_err-write_if-in-Some.result (returns-in_err-write_if-in-Some-clause-commits g c)

pub returns-in_err-write_if-in-Some-clause-holds : goal.returns-in_err-write_if-in-Some-clause-holds
returns-in_err-write_if-in-Some-clause-holds g c =
    let p = err_from_is_err_and c.from_residual-in_err-write_if-in-Some.result c.from_residual-in_err-write_if-in-Some.ensures.1 in
    err_holds c.args.self.now c.write_if.new.self (HasClaimed (c.args.self.now, c.write_if.new.self)) ClaimsOne
    c.from_residual-in_err-write_if-in-Some.result p.0 p.1 (returns-in_err-write_if-in-Some-clause-commits g c)

pub returns-in-Some-clause-commits : goal.returns-in-Some-clause-commits
returns-in-Some-clause-commits g c =
    let number = c.in-Some.number in
    let task = c.in-Some.task.items in
    done_behind c.args.self.now c.page.new.self c.write_if.new.self (asks_rows c.args.self.now c.page.new.self (119 ∷ []) (Some (120 ∷ [])) 1 (Rows c.in_ok-page.page) (served c.self.inside.db c.args.self.now c.page.new.self (Scan Now (119 ∷ []) (Some (120 ∷ [])) 1) (Rows c.in_ok-page.page) c.self.view_is c.in_ok-page.ensures.serves))
    (Claims number task) (
      c.in_ok-write_if-in-Some.field-0,
      claims_under c.page.new.self c.write_if.new.self (Number c.in_ok-write_if-in-Some.field-0) c.in_ok-guard-in-Some.guard c.in_ok-batch-in-Some.batch c.in_ok-write_if-in-Some.ensures.writes
          number task (small number c.in-Some.task c.in_ok-number.field-0 c.in-Some.is c.in_ok-number.ensures.fits)
          (guard_is c.in_ok-guard-in-Some.guard number c.deref.result.now task c.in_ok-guard-in-Some.ensures c.deref.ensures.value)
          (batch_is c.in_ok-batch-in-Some.batch number c.deref-in-Some.result.now task c.in_ok-batch-in-Some.ensures c.deref-in-Some.ensures.value),
    )

pub returns-in-Some-clause-claims : goal.returns-in-Some-clause-claims
returns-in-Some-clause-claims g c = λ holds.
    let done = done_does c.args.self.now c.write_if.new.self (Claims c.in-Some.number c.in-Some.task.items) (returns-in-Some-clause-commits g c) holds in
    record {
      first = subst (λ (o : Option (ℕ × Vec ℕ Global)). IsFirstOf (map_in c.args.self.now) (found_in o)) c.in-Some.is
          (told_first c.args.self.now c.page.new.self c.in_ok-page.page (found_in c.in_ok-number.field-0) holds (served c.self.inside.db c.args.self.now c.page.new.self (Scan Now (119 ∷ []) (Some (120 ∷ [])) 1) (Rows c.in_ok-page.page) c.self.view_is c.in_ok-page.ensures.serves) c.in_ok-number.ensures.first);
      does = done.1;
    }

pub returns-in-Some-clause-holds : goal.returns-in-Some-clause-holds
returns-in-Some-clause-holds g c = done_holds c.args.self.now c.write_if.new.self (Claims c.in-Some.number c.in-Some.task.items) (returns-in-Some-clause-commits g c)

pub returns-clause-claims : goal.returns-clause-claims
returns-clause-claims g c = λ holds. (
  subst (λ (o : Option (ℕ × Vec ℕ Global)). IsFirstOf (map_in c.args.self.now) (found_in o)) c.in-None.is
      (told_first c.args.self.now c.page.new.self c.in_ok-page.page (found_in c.in_ok-number.field-0) holds (served c.self.inside.db c.args.self.now c.page.new.self (Scan Now (119 ∷ []) (Some (120 ∷ [])) 1) (Rows c.in_ok-page.page) c.self.view_is c.in_ok-page.ensures.serves) c.in_ok-number.ensures.first),
  asks_same c.args.self.now c.page.new.self (asks_rows c.args.self.now c.page.new.self (119 ∷ []) (Some (120 ∷ [])) 1 (Rows c.in_ok-page.page) (served c.self.inside.db c.args.self.now c.page.new.self (Scan Now (119 ∷ []) (Some (120 ∷ [])) 1) (Rows c.in_ok-page.page) c.self.view_is c.in_ok-page.ensures.serves)),
)
