-- A call of a client that comes after what it heard.
use Rattle.std.specs.Prelude.{◌≡◌, ℕ, List, [], ◌∷◌, ◌++◌}
use Rattle.lsm_machine.specs.Calls.{Call, Reply, as_told}
use Rattle.lsm_machine.specs.Machine.{Machine}
use Rattle.lsm_lives.specs.Asked.{Told, Replied}
use Rattle.lsm_trail.specs.History.{Event, called}
use Rattle.lsm_trail.specs.Knowledge.{Known}

-- a call of this client is the last entry of a history that begins with what was told, and this was its reply
pub record ComesBehind (told : List Event) (client : ℕ) (call : Call) (answer : Told) (log : List Event) : Type 0 where
  pub between : List Event
  pub reply : Reply
  pub replied : answer ≡ Replied (as_told reply)
  pub machine : Machine
  pub are : log ≡ (told ++ between) ++ called client call reply machine ∷ []

-- so it is of a call after another client's call
pub record StandsBehind (one : ℕ) (first : Call) (answer : Told) (two : ℕ) (second : Call) (also : Told) (log : List Event) : Type 0 where
  pub told : List Event
  pub before : ComesBehind [] one first answer told
  pub behind : ComesBehind told two second also log
