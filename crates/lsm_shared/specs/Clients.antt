-- What a call tells a client, and what is known of all clients.
use Rattle.std.specs.Prelude.{◌≡◌, ℕ, zero, suc, ◌+◌, ◌<◌, ◌≤◌, ◌==◌, Bool, true, false, List, [], ◌∷◌, ◌++◌, length, if◌then◌else◌}
use mathlib.Core.List.{IsPrefix}
use Rattle.lsm_device.specs.declared.refusal.Refusal.{Refusal}
use Rattle.lsm_device.specs.declared.refusal.Refusal.TheVariants.{NoMemory, TrailFull, NotYours}
use Rattle.lsm_store.specs.Backing.{IsBacked}
use Rattle.lsm_machine.specs.Calls.{Call, Reply}
use Rattle.lsm_machine.specs.Calls.{Release, Refused, as_told}
use Rattle.lsm_machine.specs.Machine.{Machine}
use Rattle.lsm_machine.specs.Run.{Allows, Admits}
use Rattle.lsm_lives.specs.Asked.{Told, Replied}
use Rattle.lsm_trail.specs.Begins.{Begin, base_of}
use Rattle.lsm_trail.specs.History.{Event, called, IsLegal, state_after, entries_by}
use Rattle.lsm_trail.specs.Knowledge.{Known, Sees, known}

-- A client made these entries, in one hold of the lock. There is one legal history: all that the client had seen, entries of
-- others, and these. It has just the entries that the client made, each once.
pub record Adds (c : Known) (others entries : List Event) (d : Known) : Type 0 where
  pub begin : d.begin ≡ c.begin
  pub number : d.number ≡ c.number
  pub seen : d.seen ≡ (c.seen ++ others) ++ entries
  pub mine : d.mine ≡ c.mine ++ entries
  pub legal : IsLegal d.begin d.seen
  pub own : entries_by d.number d.seen ≡ d.mine
  pub room : length d.seen ≤ d.begin.limit

-- A client made this call, and was told this of a reply, with which the history ends.
pub record MakesCall (c : Known) (call : Call) (answer : Told) (d : Known) : Type 0 where
  pub reply : Reply
  pub told : answer ≡ Replied (as_told reply)
  pub others : List Event
  pub machine : Machine
  pub adds : Adds c others (called c.number call reply machine ∷ []) d

-- Why a call is no entry after a history: the trail is full; or it has a place, and the call is to release the base, or there
-- was no memory for a call that takes some, and that the state doesn't refuse: a look-up takes some where the state has a
-- value, if the device backs it.
abbrev pub Denies : Begin → List Event → Call → Refusal → Type 0
Denies b log call TrailFull = length log ≡ b.limit
Denies b log call NotYours = (length log < b.limit) × (call ≡ Release (base_of b))
Denies b log call NoMemory = (length log < b.limit) × Admits (state_after b log) call (Refused NoMemory) × (IsBacked b.store → Allows (state_after b log) call (Refused NoMemory))
Denies b log call other = ⊥

-- A call that is no entry, and the client has seen the history after which it is none.
abbrev pub IsNoCall : Known → Call → Refusal → Known → Type 0
IsNoCall c call e d = Sees c d × Denies d.begin d.seen call e

-- clients that know nothing yet, numbered from 0 on
abbrev pub newcomers : Begin → ℕ → List Known
newcomers b zero = []
newcomers b (suc n) = newcomers b n ++ known b n [] [] ∷ []

-- the history begins with what each of these clients had seen, and has just the entries that it made, in order
abbrev pub AgreesWith : List Event → List Known → Type 0
AgreesWith log [] = Unit {0}
AgreesWith log (c ∷ cs) = IsPrefix c.seen log × (entries_by c.number log ≡ c.mine) × AgreesWith log cs

-- how many entries they made in all
abbrev pub entries_made : List Known → ℕ
entries_made [] = 0
entries_made (c ∷ cs) = length c.mine + entries_made cs

-- whether one of the clients has this number
abbrev pub has_client : ℕ → List Known → Bool
has_client number [] = false
has_client number (c ∷ cs) = if c.number == number then true else has_client number cs

-- there are `count` clients, and each number below that is one's
abbrev pub AreAll : ℕ → List Known → Type 0
AreAll count clients = (length clients ≡ count) × ((number : ℕ) → number < count → has_client number clients ≡ true)
