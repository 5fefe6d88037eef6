use Rattle.std.proofs.Common.{◌≡◌, List, length, Some, refl, sym, ◌∙◌, ap, subst}
use Rattle.std.specs.Prelude.{Result}
use Rattle.lsm_device.specs.declared.refusal.Refusal.{Refusal}
use Rattle.lsm_levels.specs.Tables.{Table}
use Rattle.lsm_store.specs.declared.stat.Stat.{Stat}
use Rattle.lsm_store.specs.Memory.{state_of, work_of}
use Rattle.lsm_store.specs.Stats.{stat_answer}
use Rattle.lsm_store.proofs.InstallTests.{live_few}
use Rattle.lsm_machine.proofs.Unrefused.{err_of}
use Rattle.lsm_store.proofs.Stats.{told_stat, told_stopped}
use Rattle.lsm_store.proofs.memory.Memory.stat.Goals as goal

pub returns-in_err-check_running : goal.returns-in_err-check_running
returns-in_err-check_running g c =
    let m = c.args.self.now in
    let found = err_of c.from_residual.result _ c.from_residual.ensures.1 in
    subst (λ (r : Result Stat Refusal). r ≡ stat_answer (record { state = state_of m; work = work_of m })) (sym found.1)
    (told_stopped m c.requires found.0 (c.in_err-check_running.ensures.refused ∙ ap Some (sym found.2)))

pub count_live-requires : goal.count_live-requires
count_live-requires g c = live_few c.args.self.now c.requires

pub returns : goal.returns
returns g c =
    told_stat c.args.self.now c.requires _ refl refl c.room.ensures c.is_waiting.ensures (ap (λ (l : List (List Table)). length l) c.runs.ensures.same) c.count_live.ensures c.free_blocks.ensures
    c.in_ok-check_running.ensures.refused
