-- The history that the value that the lock guards keeps, with one entry more.
use Rattle.std.proofs.Common.{◌≡◌, ℕ, ◌+◌, ◌<◌, ◌^◌, Bool, List, [], ◌∷◌, ◌++◌, length, if◌then◌else◌, ap, sym, ◌∙◌, subst, arith, length-append}
use Rattle.atomic_table.specs.Table.{Me}
use Rattle.atomic_table.specs.declared.shared.Seat.{Seat}
use Rattle.lsm_store.specs.Backing.{StoreView, machine_of}
use Rattle.lsm_machine.specs.Machine.{Machine}
use Rattle.lsm_machine.specs.RecoveryPoints.{batch_count}
use Rattle.lsm_trail.specs.Following.{MayFollow}
use Rattle.lsm_trail.specs.History.{Event, IsLegal, is_call, is_lent, calls_in, machine_after, numbers, numbers_at, TrailView}
use Rattle.lsm_trail.specs.Knowledge.{SessionId, View, keeper_or, keeper_of, IsKeeperPass}
use Rattle.lsm_trail.specs.declared.numbers.Numbers.{Numbers}
use Rattle.lsm_trail.proofs.Histories.{after_more, legal_more, calls_more, lent_more, few_calls, few_lent}
use Rattle.lsm_shared.specs.Sessions.{IsHistory}

-- the lock's pass has the history of the trail
pub log_of_pass : (id : SessionId) (log : List Event) (p : Seat Event View) → IsKeeperPass id log p → (keeper_of p).log ≡ log
log_of_pass id log p is = ap (λ (m : Me Event View). (keeper_or m.0.keeper).log) is.1

module _ (id : SessionId) (trail : TrailView) (keeper : Seat Event View) (calls builds : ℕ) (h : IsHistory id trail keeper calls builds) (log : List Event) (view : trail.log ≡ log) where
  log_is : (keeper_of keeper).log ≡ trail.log
  log_is = log_of_pass id trail.log keeper h.pass

  -- there are fewer calls and builds than places
  pub calls_fit : length log < id.begin.limit → calls < 65536
  calls_fit room = omega (arith, h.calls_are, few_calls trail.log, ap length view, h.limit, h.small, room)

  pub builds_fit : length log < id.begin.limit → builds < 65536
  builds_fit room = omega (arith, h.builds_are, few_lent trail.log, ap length view, h.limit, h.small, room)

  pub builds_small : builds < 2 ^ 64
  builds_small = omega (arith, h.builds_are, few_lent trail.log, h.room, h.small)

  module _ (e : Event) (may : MayFollow id.begin log e) where
    legal_then : IsLegal id.begin (trail.log ++ e ∷ [])
    legal_then = legal_more id.begin trail.log e h.legal (subst (λ (l : List Event). MayFollow id.begin l e) (sym view) may)

    -- the history with the entry is legal
    pub legal_with : IsLegal id.begin ((keeper_of keeper).log ++ e ∷ [])
    legal_with = subst (λ (l : List Event). IsLegal id.begin (l ++ e ∷ [])) (sym log_is) legal_then

    -- what the store tells after it are its numbers
    pub numbers_with : (s : StoreView) → e.machine ≡ machine_of s → (is_one : Bool) → is_one ≡ is_call e.step → (count batches synced : ℕ) → count ≡ calls + (if is_one then 1 else 0) → batches ≡ batch_count s.state.points → synced ≡ s.state.points.synced
        → record { calls = count; batches = batches; synced = synced } ≡ numbers id.begin ((keeper_of keeper).log ++ e ∷ [])
    numbers_with s is is_one one count batches synced counted told held =
        let now = trail.log ++ e ∷ [] in
        let counts : count ≡ calls_in now = counted ∙ ap (λ (b : Bool). calls + (if b then 1 else 0)) one ∙ ap (λ (n : ℕ). n + (if is_call e.step then 1 else 0)) h.calls_are ∙ sym (calls_more trail.log e) in
        let after : machine_of s ≡ machine_after id.begin now = sym is ∙ sym (after_more id.begin trail.log e) in
        let numbers_of : ℕ → ℕ → ℕ → Numbers = λ c b y. record { calls = c; batches = b; synced = y } in
        (λ i. numbers_of (counts i) (told i) (held i))
        ∙ ap (λ (m : Machine). numbers_at (calls_in now) m.state) after
        ∙ ap (λ (l : List Event). numbers id.begin (l ++ e ∷ [])) (sym log_is)

    -- it is kept then
    pub history_with : (trail' : TrailView) (keeper' : Seat Event View) (first second : Bool) (calls' builds' : ℕ) → length log < id.begin.limit
        → trail' ≡ record { log = trail.log ++ e ∷ []; limit = trail.limit }
        → IsKeeperPass id ((keeper_of keeper).log ++ e ∷ []) keeper' → (keeper_of keeper').dealt ≡ (keeper_of keeper).dealt
        → first ≡ is_call e.step → calls' ≡ calls + (if first then 1 else 0) → second ≡ is_lent e.reply → builds' ≡ builds + (if second then 1 else 0)
        → IsHistory id trail' keeper' calls' builds'
    history_with trail' keeper' first second calls' builds' room pushed pass dealt one counted two lent = subst (λ (t : TrailView). IsHistory id t keeper' calls' builds') (sym pushed) record {
      pass = subst (λ (l : List Event). IsKeeperPass id (l ++ e ∷ []) keeper') log_is pass;
      dealt = dealt ∙ h.dealt;
      legal = legal_then;
      limit = h.limit;
      room = omega (arith, length-append trail.log (e ∷ []), ap length view, h.limit, room);
      small = h.small;
      calls_are = counted ∙ ap (λ (b : Bool). calls + (if b then 1 else 0)) one ∙ ap (λ (n : ℕ). n + (if is_call e.step then 1 else 0)) h.calls_are ∙ sym (calls_more trail.log e);
      builds_are = lent ∙ ap (λ (b : Bool). builds + (if b then 1 else 0)) two ∙ ap (λ (n : ℕ). n + (if is_lent e.reply then 1 else 0)) h.builds_are ∙ sym (lent_more trail.log e);
    }

    pub legal_pushed : (trail' : TrailView) → trail' ≡ record { log = trail.log ++ e ∷ []; limit = trail.limit } → IsLegal id.begin trail'.log
    legal_pushed trail' pushed = subst (λ (t : TrailView). IsLegal id.begin t.log) (sym pushed) legal_then
