use Rattle.std.proofs.Common.{ℕ, ◌-◌, Some, None, sym, ◌∙◌, ap, subst}
use Rattle.lsm_open.specs.Layout.{layout_of}
use Rattle.lsm_store.specs.Memory.{IsLogIn, IsOpenIn, state_of}
use Rattle.lsm_store.proofs.States.{room_by}
use Rattle.lsm_store.proofs.memory.Memory.room.Goals as goal

pub returns-in-Some : goal.returns-in-Some
returns-in-Some g c =
    let m = c.args.self.now in
    let log : IsLogIn m.regions.log_sectors m.count c.in-Some.open = subst (IsOpenIn m.regions.log_sectors m.count) c.in-Some.is (c.requires.kept.current c.requires.running).opened in
    c.room.ensures ∙ ap (λ (n : ℕ). n - c.in-Some.open.log.used) log.sectors ∙ sym (room_by (state_of m) (layout_of m.regions) _ _ _ _ _ c.requires.kept.agrees (Some c.in-Some.open) c.in-Some.is)

pub returns-in-None : goal.returns-in-None
returns-in-None g c =
    let m = c.args.self.now in
    sym (room_by (state_of m) (layout_of m.regions) _ _ _ _ _ c.requires.kept.agrees None c.in-None.is)
