use Rattle.std.proofs.Common.{◌≡◌, ◌⊎◌, inl, inr, ⊎_elim, ◌<◌, ◌≤◌, ◌*◌, ℕ, suc, ◌+◌, Bool, true, List, ◌∷◌, take, drop, ◌-◌, length, Some, None, refl, sym, ◌∙◌, ap, subst, arith}
use Rattle.std.specs.Prelude.{Result, Ok, Err, Option}
use Rattle.lsm_device.specs.Refusals.{faultless}
use Rattle.lsm_device.specs.declared.refusal.Refusal.{Refusal}
use Rattle.lsm_device.specs.declared.refusal.Refusal.TheVariants.{GuardFailed}
use Rattle.lsm_levels.specs.Asking.{Source}
use Rattle.lsm_levels.specs.Cursors.{refusal_of}
use Rattle.lsm_levels.specs.Levels.{places}
use Rattle.lsm_levels.specs.Lookups.{IsTest}
use Rattle.lsm_mem.specs.Versions.{map_of}
use Rattle.lsm_open.specs.Tables.{first_data}
use Rattle.lsm_store.specs.Guarding.{AsksGuards, AnswersGuards, MayEndGuards}
use Rattle.lsm_codec.specs.Guards.{Condition}
use Rattle.lsm_store.specs.Memory.{work_of}
use Rattle.lsm_store.specs.Reading.{ReadsThrough}
use Rattle.lsm_machine.specs.Work.{versions_in}
use Rattle.lsm_store.proofs.GuardReads.{readable_on, first_rest, then_reads, may_end_later, answers_false, answers_later, asks_later}
use Rattle.lsm_machine.proofs.Unrefused.{err_of}
use Rattle.lsm_store.proofs.reading.+ask_guards.Goals as goal

pub returns-then-not-branch-clause-refused : goal.returns-then-not-branch-clause-refused
returns-then-not-branch-clause-refused g t c =
    let here : c.args.first ≡ c.args.first + 0 = omega arith in
    inr (inr (0, c.in-len1-up.len_at_least, ap GuardFailed here))

pub returns-in_err-ask_guard-in-len1-up-clause-answers : goal.returns-in_err-ask_guard-in-len1-up-clause-answers
returns-in_err-ask_guard-in-len1-up-clause-answers g t c = λ place readable order.
    let m = c.args.memory.now in
    let found = err_of c.from_residual.result _ c.from_residual.ensures.1 in
    subst (λ (r : Result (Unit {0}) Refusal). AnswersGuards c.args.first (map_of (versions_in (work_of m)) c.args.count) c.args.guards.now r) (sym (found.1 ∙ ap (λ (e : Refusal). Err e) found.2))
    (inl (c.in_err-ask_guard-in-len1-up.ensures.answers place readable order))

pub returns-then-not-branch-clause-answers : goal.returns-then-not-branch-clause-answers
returns-then-not-branch-clause-answers g t c = λ place readable order.
    let m = c.args.memory.now in
    let guards = c.args.guards.now in
    answers_false guards c.guard-item.result (take (length guards - 1) (drop 1 guards)) (first_rest guards c.guard-item.result c.in-len1-up.len_at_least c.guard-item.is) c.args.first (map_of (versions_in (work_of m)) c.args.count)
    c.in_ok-ask_guard-in-len1-up.field-0 (c.in_ok-ask_guard-in-len1-up.ensures.answers place readable order) c.if-not-branch.true

pub returns-in_err-ask_guards-in-len1-up-clause-answers : goal.returns-in_err-ask_guards-in-len1-up-clause-answers
returns-in_err-ask_guards-in-len1-up-clause-answers g t c = λ place readable order.
    let D = g.D.Device in
    let m = c.args.memory.now in
    let guards = c.args.guards.now in
    let area = first_data m.regions.log_sectors in
    let old : Source = record { cache = c.args.cache.now; medium = D.medium c.args.device.now } in
    let mid : Source = record { cache = c.ask_guard.new.cache; medium = D.medium c.ask_guard.new.device } in
    let ok = c.in_ok-ask_guard-in-len1-up in
    let found = err_of c.from_residual-in_err-ask_guards-in-len1-up.result _ c.from_residual-in_err-ask_guards-in-len1-up.ensures.1 in
    subst (λ (r : Result (Unit {0}) Refusal). AnswersGuards c.args.first (map_of (versions_in (work_of m)) c.args.count) guards r) (sym (found.1 ∙ ap (λ (e : Refusal). Err e) found.2))
    (answers_later guards c.guard-item.result (take (length guards - 1) (drop 1 guards)) (first_rest guards c.guard-item.result c.in-len1-up.len_at_least c.guard-item.is) c.args.first (map_of (versions_in (work_of m)) c.args.count)
    ok.field-0 (ok.ensures.answers place readable order) c.if-not-branch.false (Err c.in_err-ask_guards-in-len1-up.field-0.0)
    (c.in_err-ask_guards-in-len1-up.ensures.answers place (readable_on area m.levels place 128 old mid ok.ensures.reads readable) order))

pub returns-in_ok-ask_guards-in-len1-up-clause-answers : goal.returns-in_ok-ask_guards-in-len1-up-clause-answers
returns-in_ok-ask_guards-in-len1-up-clause-answers g t c = λ place readable order.
    let D = g.D.Device in
    let m = c.args.memory.now in
    let guards = c.args.guards.now in
    let area = first_data m.regions.log_sectors in
    let old : Source = record { cache = c.args.cache.now; medium = D.medium c.args.device.now } in
    let mid : Source = record { cache = c.ask_guard.new.cache; medium = D.medium c.ask_guard.new.device } in
    let ok = c.in_ok-ask_guard-in-len1-up in
    answers_later guards c.guard-item.result (take (length guards - 1) (drop 1 guards)) (first_rest guards c.guard-item.result c.in-len1-up.len_at_least c.guard-item.is) c.args.first (map_of (versions_in (work_of m)) c.args.count)
    ok.field-0 (ok.ensures.answers place readable order) c.if-not-branch.false (Ok tt)
    (c.in_ok-ask_guards-in-len1-up.ensures.answers place (readable_on area m.levels place 128 old mid ok.ensures.reads readable) order)

pub returns-in_err-ask_guards-in-len1-up-clause-refused : goal.returns-in_err-ask_guards-in-len1-up-clause-refused
returns-in_err-ask_guards-in-len1-up-clause-refused g t c =
    let guards = c.args.guards.now in
    let found = err_of c.from_residual-in_err-ask_guards-in-len1-up.result _ c.from_residual-in_err-ask_guards-in-len1-up.ensures.1 in
    rw (found.1, found.2) (may_end_later guards c.guard-item.result (take (length guards - 1) (drop 1 guards)) (first_rest guards c.guard-item.result c.in-len1-up.len_at_least c.guard-item.is) c.args.first
    c.in_err-ask_guards-in-len1-up.field-0.0 c.in_err-ask_guards-in-len1-up.ensures.refused)

pub returns-in_err-ask_guards-in-len1-up-clause-reads : goal.returns-in_err-ask_guards-in-len1-up-clause-reads
returns-in_err-ask_guards-in-len1-up-clause-reads g t c =
    let D = g.D.Device in
    let m = c.args.memory.now in
    let guards = c.args.guards.now in
    let area = first_data m.regions.log_sectors in
    let old : Source = record { cache = c.args.cache.now; medium = D.medium c.args.device.now } in
    let mid : Source = record { cache = c.ask_guard.new.cache; medium = D.medium c.ask_guard.new.device } in
    let new : Source = record { cache = c.ask_guards.new.cache; medium = D.medium c.ask_guards.new.device } in
    let e = c.in_err-ask_guards-in-len1-up.field-0.0 in
    let found = err_of c.from_residual-in_err-ask_guards-in-len1-up.result _ c.from_residual-in_err-ask_guards-in-len1-up.ensures.1 in
    subst (λ (r : Result (Unit {0}) Refusal). ReadsThrough (128 * length guards) area m.levels (faultless r) old new) (sym (found.1 ∙ ap (λ (x : Refusal). Err x) found.2))
    (then_reads guards c.guard-item.result (take (length guards - 1) (drop 1 guards)) (first_rest guards c.guard-item.result c.in-len1-up.len_at_least c.guard-item.is) area m.levels old mid (faultless {T = Unit {0}} (Err e)) new c.in_ok-ask_guard-in-len1-up.ensures.reads c.in_err-ask_guards-in-len1-up.ensures.reads)

pub returns-in_ok-ask_guards-in-len1-up-clause-reads : goal.returns-in_ok-ask_guards-in-len1-up-clause-reads
returns-in_ok-ask_guards-in-len1-up-clause-reads g t c =
    let D = g.D.Device in
    let m = c.args.memory.now in
    let guards = c.args.guards.now in
    let area = first_data m.regions.log_sectors in
    let old : Source = record { cache = c.args.cache.now; medium = D.medium c.args.device.now } in
    let mid : Source = record { cache = c.ask_guard.new.cache; medium = D.medium c.ask_guard.new.device } in
    let new : Source = record { cache = c.ask_guards.new.cache; medium = D.medium c.ask_guards.new.device } in
    then_reads guards c.guard-item.result (take (length guards - 1) (drop 1 guards)) (first_rest guards c.guard-item.result c.in-len1-up.len_at_least c.guard-item.is) area m.levels old mid true new c.in_ok-ask_guard-in-len1-up.ensures.reads c.in_ok-ask_guards-in-len1-up.ensures.reads

pub returns-in_err-ask_guards-in-len1-up-clause-asks : goal.returns-in_err-ask_guards-in-len1-up-clause-asks
returns-in_err-ask_guards-in-len1-up-clause-asks g t c =
    let D = g.D.Device in
    let m = c.args.memory.now in
    let guards = c.args.guards.now in
    let guard = c.guard-item.result in
    let area = first_data m.regions.log_sectors in
    let old : Source = record { cache = c.args.cache.now; medium = D.medium c.args.device.now } in
    let mid : Source = record { cache = c.ask_guard.new.cache; medium = D.medium c.ask_guard.new.device } in
    let new : Source = record { cache = c.ask_guards.new.cache; medium = D.medium c.ask_guards.new.device } in
    let sealed = (work_of m).sealed in
    let found = err_of c.from_residual-in_err-ask_guards-in-len1-up.result _ c.from_residual-in_err-ask_guards-in-len1-up.ensures.1 in
    let asked : IsTest m.mem sealed (places m.levels) area guard c.args.count (Ok true) old mid = subst (λ (b : Bool). IsTest m.mem sealed (places m.levels) area guard c.args.count (Ok b) old mid) c.if-not-branch.false c.in_ok-ask_guard-in-len1-up.ensures.tests in
    subst (λ (r : Result (Unit {0}) Refusal). AsksGuards m.mem sealed (places m.levels) area c.args.count c.args.first guards (refusal_of r) old new) (sym (found.1 ∙ ap (λ (x : Refusal). Err x) found.2))
    (asks_later m.mem sealed (places m.levels) area c.args.count c.args.first guards guard (take (length guards - 1) (drop 1 guards)) (first_rest guards guard c.in-len1-up.len_at_least c.guard-item.is) old mid new asked (Some c.in_err-ask_guards-in-len1-up.field-0.0) c.in_err-ask_guards-in-len1-up.ensures.asks)

pub returns-in_ok-ask_guards-in-len1-up-clause-asks : goal.returns-in_ok-ask_guards-in-len1-up-clause-asks
returns-in_ok-ask_guards-in-len1-up-clause-asks g t c =
    let D = g.D.Device in
    let m = c.args.memory.now in
    let guards = c.args.guards.now in
    let guard = c.guard-item.result in
    let area = first_data m.regions.log_sectors in
    let old : Source = record { cache = c.args.cache.now; medium = D.medium c.args.device.now } in
    let mid : Source = record { cache = c.ask_guard.new.cache; medium = D.medium c.ask_guard.new.device } in
    let new : Source = record { cache = c.ask_guards.new.cache; medium = D.medium c.ask_guards.new.device } in
    let sealed = (work_of m).sealed in
    let asked : IsTest m.mem sealed (places m.levels) area guard c.args.count (Ok true) old mid = subst (λ (b : Bool). IsTest m.mem sealed (places m.levels) area guard c.args.count (Ok b) old mid) c.if-not-branch.false c.in_ok-ask_guard-in-len1-up.ensures.tests in
    asks_later m.mem sealed (places m.levels) area c.args.count c.args.first guards guard (take (length guards - 1) (drop 1 guards)) (first_rest guards guard c.in-len1-up.len_at_least c.guard-item.is) old mid new asked None c.in_ok-ask_guards-in-len1-up.ensures.asks
