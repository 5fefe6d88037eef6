-- How a session of two clients that stored, and of others that made no call, ends.
use Rattle.std.proofs.Common.{◌≡◌, ℕ, zero, suc, ◌≤◌, List, [], ◌∷◌, ap, sym, ◌∙◌, subst, arith}
use Rattle.lsm_codec.specs.Map.{Operation}
use Rattle.lsm_store.specs.Backing.{StoreView}
use Rattle.lsm_trail.specs.Begins.{Begin}
use Rattle.lsm_trail.specs.History.{Event, entries_by, calls_in, TrailView}
use Rattle.lsm_trail.specs.Knowledge.{Known, known}
use Rattle.lsm_shared.specs.Clients.{AgreesWith}
use Rattle.lsm_shared.specs.Sessions.{IsEnded}
use Rattle.lsm_shared.specs.Workers.{MakesNoCall}
use Rattle.example_shared.specs.Shares.{IsStored, HasStored, IsShared}

-- the entries of a client that stored, in a trail that has just what it made
stored_in : (b : Begin) (number : ℕ) (old new : Known) (batch : List Operation) (log : List Event) → old ≡ known b number [] [] → HasStored old batch new → entries_by new.number log ≡ new.mine → IsStored number batch (entries_by number log)
stored_in b number old new batch log is stored told =
    let old_is = ap (λ (c : Known). c.number) is in
    let own : entries_by number log ≡ new.mine = ap (λ (n : ℕ). entries_by n log) (sym (stored.0 ∙ old_is)) ∙ told in
    subst (IsStored number batch) (sym own) (subst (λ (n : ℕ). IsStored n batch new.mine) old_is stored.1)

-- and those of one that made no call
none_in : (b : Begin) (number : ℕ) (old new : Known) (log : List Event) → old ≡ known b number [] [] → MakesNoCall old new → entries_by new.number log ≡ new.mine → calls_in (entries_by number log) ≡ 0
none_in b number old new log is none told =
    let own : entries_by number log ≡ new.mine = ap (λ (n : ℕ). entries_by n log) (sym (none.number ∙ ap (λ (c : Known). c.number) is)) ∙ told in
    ap calls_in own ∙ none.calls ∙ ap (λ (c : Known). calls_in c.mine) is

module _ (b d : Begin) (is : b ≡ d) (first second : List Operation) (clients : List Known) (store : StoreView) (trail : TrailView) (ended : IsEnded d clients store trail)
    (zero_old one_old zero_new one_new : Known) (zero_is : zero_old ≡ known d 0 [] []) (one_is : one_old ≡ known d 1 [] []) (zero_stored : HasStored zero_old first zero_new) (one_stored : HasStored one_old second one_new) where
  shared_by : (more : List Known) → clients ≡ zero_new ∷ one_new ∷ more → ((number : ℕ) → 2 ≤ number → calls_in (entries_by number trail.log) ≡ 0) → IsShared b first second store trail
  shared_by more are others =
      let told = subst (AgreesWith trail.log) are ended.told in
      record {
        clients = clients;
        ended = subst (λ (x : Begin). IsEnded x clients store trail) (sym is) ended;
        first_stored = stored_in d 0 zero_old zero_new first trail.log zero_is zero_stored told.1;
        second_stored = stored_in d 1 one_old one_new second trail.log one_is one_stored told.2.1;
        others = others;
      }

  far_strangers : (clients number : ℕ) → b.clients ≡ clients → clients ≤ number → calls_in (entries_by number trail.log) ≡ 0
  far_strangers clients number are far = ap calls_in (ended.strangers number (subst (λ (n : ℕ). n ≤ number) (sym (ap (λ (x : Begin). x.clients) (sym is) ∙ are)) far))

  -- with nobody else
  pub ends_with_two : clients ≡ zero_new ∷ one_new ∷ [] → b.clients ≡ 2 → IsShared b first second store trail
  ends_with_two are two = shared_by [] are (λ number far. far_strangers 2 number two far)

  -- and with one more
  pub ends_with_three : (two_old two_new : Known) → two_old ≡ known d 2 [] [] → MakesNoCall two_old two_new → clients ≡ zero_new ∷ one_new ∷ two_new ∷ [] → b.clients ≡ 3 → IsShared b first second store trail
  ends_with_three two_old two_new two_is none are three = shared_by (two_new ∷ []) are others
    where
      told : AgreesWith trail.log (zero_new ∷ one_new ∷ two_new ∷ [])
      told = subst (AgreesWith trail.log) are ended.told

      others : (number : ℕ) → 2 ≤ number → calls_in (entries_by number trail.log) ≡ 0
      others zero far = absurd (omega (arith, far))
      others (suc zero) far = absurd (omega (arith, far))
      others (suc (suc zero)) far = none_in d 2 two_old two_new trail.log two_is none told.2.2.1
      others (suc (suc (suc n))) far = far_strangers 3 (suc (suc (suc n))) three (omega arith)
