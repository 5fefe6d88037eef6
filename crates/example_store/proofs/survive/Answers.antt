use Rattle.std.proofs.Common.{◌≡◌, true, length, replicate, List, ℕ, [], ◌∷◌, refl, sym, ap, subst, ◌∙◌}
use Rattle.std.specs.FinMap as finite
use Rattle.lsm_codec.specs.Map.{Map, Operation}
use Rattle.lsm_device.specs.Disk.{seen, image}
use Rattle.lsm_device.specs.Medium.{Medium, disk, crashed}
use Rattle.lsm_device.proofs.Outcomes.{seen_outcome}
use Rattle.lsm_device.specs.Memory.{medium_in}
use Rattle.lsm_root.specs.CrashState.{formatted}
use Rattle.lsm_open.specs.Image.{StandFor}
use Rattle.lsm_open.specs.Recovering.{StandForOne}
use Rattle.lsm_machine.specs.Calls.{Commit, Sync, Number, Done}
use Rattle.lsm_machine.specs.Crash.{may_leave}
use Rattle.lsm_machine.specs.Run.{next}
use Rattle.lsm_machine.specs.State.{State}
use Rattle.example_store.proofs.Surviving.{synced_state, left_map, get_put}
use Rattle.example_store.proofs.survive.Goals as goal

pub returns-in-Ok-look_up : goal.returns-in-Ok-look_up
returns-in-Ok-look_up c =
    let key = c.args.key.now in
    let batch = c.in_ok-batch.batch in
    let new = disk (medium_in c.in-Ok.device) in
    let first = c.in-Ok-open.ensures.opens 128 formatted refl (subst (λ (sectors : List (List ℕ)). StandFor 128 formatted sectors) (seen_outcome new) (c.in-Ok.ensures.leaves refl (replicate (length new.pending) true))) in
    let synced = c.put_synced.new.store in
    let put = c.in_ok-put_synced.ensures in
    let number = put.state.0 in
    let state : synced.state ≡ synced_state batch number = put.state.1 ∙ ap (λ (s : State). next (next s (Commit batch) (Number number)) Sync Done) first.state in
    let left = subst (λ (s : State). StandForOne s.log_sectors (may_leave s) (image c.args.keep.now (disk synced.device))) state ((put.backed first.backed).crashes c.args.keep.now) in
    let medium = c.crash-device.ensures.left ∙ ap (crashed c.args.keep.now) c.into_device.ensures in
    c.in-Ok-look_up.ensures left.0 (subst (λ (m : Medium). StandFor 128 left.0 (seen (disk m))) (sym medium) left.2)
    ∙ ap (λ (m : Map). finite.get m key) (left_map batch number left.0 left.1)
    ∙ get_put key c.args.value.now batch (c.in_ok-batch.ensures ∙ ap (λ (o : Operation). o ∷ []) c.in_ok-put.ensures.1)
