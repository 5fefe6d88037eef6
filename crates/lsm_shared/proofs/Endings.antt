-- What is known of all clients at the end.
use Rattle.std.proofs.Common.{◌≡◌, ℕ, ◌<◌, ◌≤◌, List, [], ◌∷◌, ◌++◌, length, ap, sym, ◌∙◌, subst, arith}
use Rattle.std.specs.Prelude.{IsNone}
use mathlib.Core.List.{IsPrefix}
use Rattle.lsm_store.specs.Backing.{StoreView, IsBacked}
use Rattle.lsm_trail.specs.Begins.{Begin}
use Rattle.lsm_trail.specs.History.{Event, replies_of, IsLegal, machine_after, entries_by, TrailView}
use Rattle.lsm_trail.specs.Knowledge.{Known}
use Rattle.lsm_shared.specs.Clients.{AgreesWith, AreAll}
use Rattle.lsm_shared.specs.Sessions.{SessionView, IsDeviceAfter, ended_state, IsEnded}
use Rattle.lsm_shared.proofs.Counting.{counted}

pub told_more : (log : List Event) (cs : List Known) (c : Known) → AgreesWith log cs → IsPrefix c.seen log → entries_by c.number log ≡ c.mine → AgreesWith log (cs ++ c ∷ [])
told_more log [] c t seen e = (seen, e, tt)
told_more log (x ∷ cs) c t seen e = (t.0, t.1, told_more log cs c t.2 seen e)

pub all_by : (n m : ℕ) (xs ys : List Known) → n ≡ m → xs ≡ ys → AreAll n xs → AreAll m ys
all_by n m xs ys count items all = subst (λ (k : ℕ). AreAll k ys) count (subst (AreAll n) items all)

-- what holds of the value that the lock guards when all clients are retired holds of the parts that it gives
pub ended : (b : Begin) (clients left : List Known) (session : SessionView) (store : StoreView) (trail : TrailView)
    → left ≡ [] → 0 < b.clients → AreAll b.clients clients
    → (AgreesWith session.log left → AgreesWith session.log clients)
    → (length left < length clients → (x : ℕ) → b.clients ≤ x → entries_by x session.log ≡ [])
    → IsLegal b session.log → store.state ≡ ended_state b session.log
    → (IsNone store.state.stopped → store.work ≡ (machine_after b session.log).work)
    → (IsBacked b.store → IsBacked store) → IsDeviceAfter b.store.device (replies_of session.log) store.device → length session.log ≤ b.limit
    → trail ≡ record { log = session.log; limit = b.limit } → IsEnded b clients store trail
ended b clients left session store trail none some all told strangers legal state work backed device room is =
    let is_log : trail.log ≡ session.log = ap (λ (t : TrailView). t.log) is in
    let told' : AgreesWith session.log clients = told (subst (AgreesWith session.log) (sym none) tt) in
    let strangers' : (x : ℕ) → b.clients ≤ x → entries_by x session.log ≡ [] = strangers (omega (arith, ap length none, all.0)) in
    record {
      legal = subst (IsLegal b) (sym is_log) legal;
      state = state ∙ ap (ended_state b) (sym is_log);
      work = λ running. work running ∙ ap (λ (l : List Event). (machine_after b l).work) (sym is_log);
      backed = backed;
      device = subst (λ (l : List Event). IsDeviceAfter b.store.device (replies_of l) store.device) (sym is_log) device;
      told = subst (λ (l : List Event). AgreesWith l clients) (sym is_log) told';
      count = ap length is_log ∙ sym (counted b.clients clients session.log all told' strangers');
      strangers = λ x far. ap (entries_by x) is_log ∙ strangers' x far;
      room = omega (arith, ap length is_log, room);
      limit = ap (λ (t : TrailView). t.limit) is;
    }
