-- A life of a `Db` is one of its store.
use Rattle.std.proofs.Common.{◌≡◌, ℕ, List, [], ◌∷◌, map, Option, None, Some, refl, ap, subst, ◌∙◌}
use Rattle.lsm_device.specs.Medium.{Medium, Lasting, KeepsFuse}
use Rattle.lsm_store.specs.Backing.{StoreView}
use Rattle.lsm_machine.specs.Calls.{Call, Reply}
use Rattle.lsm_machine.specs.Calls.{Number, Done, Value, Rows, Given, Handed, Refused, Unread}
use Rattle.lsm_machine.specs.State.{State}
use Rattle.lsm_lives.specs.Asked.{Asked, Told, Replied}
use Rattle.lsm_lives.specs.Batches.{act_asked, reply_told}
use Rattle.lsm_lives.specs.Leading.{BeginsOn, with_fuse, LifeView as StoreLife, IsLed as IsStoreLed, LeadsTo as StoreLeadsTo}
use Rattle.lsm_lives.proofs.Steps.{go_on}
use Rattle.corwaphi_lives.specs.Batches.{IsLifeTold}
use Rattle.corwaphi_lives.specs.Leading.{LifeView, IsLed, LeadsTo}
use Rattle.corwaphi_lives.proofs.Replies.{numbers}
use Rattle.corwaphi_lives.proofs.Stepping.{ArePlain, HasLive, owned, told_of_each, makes_each, behind_upkeep, steps_of, upkept_live}

-- no snapshot is live in a store that was just opened
none_live : (before : Medium) (opened : StoreView) → BeginsOn before opened → HasLive [] opened
none_live before opened begins = ap (λ (s : State). numbers s.snapshots) begins.reopens.state

-- What was done to a store from its opening to a crash, and told of it, where this was asked of the `Db` and told.
pub record IsStoreLife (before : Medium) (asked : List (Option Call)) (told : List Reply) (after : Medium) : Type 0 where
  pub steps : List Asked
  pub answers : List Told
  pub led : IsStoreLed before steps answers after
  pub told_so : IsLifeTold (map act_asked steps) (map reply_told answers) asked told

pub store_life : (before : Medium) (asked : List (Option Call)) (told : List Reply) (after : Medium) → ArePlain told → IsLed before asked told after → IsStoreLife before asked told after
store_life before asked (Number n ∷ told) after plain (ready, (opened, begins, upkept), counted, end, does, into) =
    let live = upkept_live [] opened ready upkept (none_live before opened begins) in
    let r = behind_upkeep upkept.count [] opened ready end asked told upkept.steps (steps_of [] asked told ready end plain.1 live does) in
    record {
      steps = owned r.steps;
      answers = Replied (Number n) ∷ told_of_each r.replies;
      led = (opened, begins, counted ∙ upkept.keeps.count, end, makes_each opened r.steps r.replies end r.replays, into);
      told_so = (refl, r.told_so);
    }
store_life before asked (Refused e ∷ told) after plain (fails, stopped) = record {
  steps = [];
  answers = Replied (Refused e) ∷ [];
  led = (fails, refl);
  told_so = (refl, stopped);
}
store_life before asked (Done ∷ told) after plain led = absurd led
store_life before asked (Value v ∷ told) after plain led = absurd led
store_life before asked (Rows page ∷ told) after plain led = absurd led
store_life before asked (Given job ∷ told) after plain led = absurd led
store_life before asked (Handed input ∷ told) after plain led = absurd led
store_life before asked (Unread ∷ told) after plain led = absurd led
store_life before asked [] after plain led = absurd led

-- with its fuse and its crash
pub record LeadsStore (life : LifeView) (before : Medium) (told : List Reply) (after : Medium) : Type 0 where
  pub view : StoreLife
  pub answers : List Told
  pub leads : StoreLeadsTo view before answers after
  pub told_so : IsLifeTold (map act_asked view.steps) (map reply_told answers) life.calls told

pub leads_store : (life : LifeView) (before : Medium) (told : List Reply) (after : Medium) → ArePlain told → LeadsTo life before told after → LeadsStore life before told after
leads_store life before told after plain leads =
    let s = store_life (with_fuse life.fuse before) life.calls told leads.end plain leads.led in
    record {
      view = record { fuse = life.fuse; steps = s.steps; mask = life.mask };
      answers = s.answers;
      leads = record { end = leads.end; led = s.led; fuse = leads.fuse; crash = leads.crash };
      told_so = s.told_so;
    }

-- ---- its fuse

-- nothing that is done in a life changes what lasts
lasting_in : (before : Medium) (asked : List (Option Call)) (told : List Reply) (after : Medium) → ArePlain told → IsLed before asked told after → after.lasting ≡ before.lasting
lasting_in before asked (Number n ∷ told) after plain (ready, (opened, begins, upkept), counted, end, does, into) =
    let live = upkept_live [] opened ready upkept (none_live before opened begins) in
    let r = behind_upkeep upkept.count [] opened ready end asked told upkept.steps (steps_of [] asked told ready end plain.1 live does) in
    ap (λ (m : Medium). m.lasting) into ∙ (go_on opened r.steps r.replies end r.replays).same_lasting ∙ begins.same_lasting
lasting_in before asked (Refused e ∷ told) after plain (fails, stopped) = fails.same_lasting
lasting_in before asked (Done ∷ told) after plain led = absurd led
lasting_in before asked (Value v ∷ told) after plain led = absurd led
lasting_in before asked (Rows page ∷ told) after plain led = absurd led
lasting_in before asked (Given job ∷ told) after plain led = absurd led
lasting_in before asked (Handed input ∷ told) after plain led = absurd led
lasting_in before asked (Unread ∷ told) after plain led = absurd led
lasting_in before asked [] after plain led = absurd led

none_set : (n : ℕ) → None ≡ Some n → ⊥
none_set n is = cc

-- so the fuse that it set bounds what passes
fuse_bounds : (fuse : Option ℕ) (before after : Medium) → after.lasting ≡ (with_fuse fuse before).lasting → KeepsFuse after.lasting.fuse_set after.calls → KeepsFuse fuse after.calls
fuse_bounds None before after same keeps = record { at_most = λ n is. absurd (none_set n is) }
fuse_bounds (Some n) before after same keeps = subst (λ (set : Option ℕ). KeepsFuse set after.calls) (ap (λ (l : Lasting). l.fuse_set) same) keeps

pub fuse_kept : (fuse : Option ℕ) (before : Medium) (asked : List (Option Call)) (told : List Reply) (after : Medium) → ArePlain told → IsLed (with_fuse fuse before) asked told after
    → KeepsFuse after.lasting.fuse_set after.calls → KeepsFuse fuse after.calls
fuse_kept fuse before asked told after plain led keeps = fuse_bounds fuse before after (lasting_in (with_fuse fuse before) asked told after plain led) keeps
