-- Answers that are held before they are written.
use Rattle.std.specs.Prelude.{◌≡◌, ◌⊎◌, ◌≤◌, ℕ, List, [], ◌++◌, length, Option, Result, Ok, Err}
use Rattle.std.specs.Io.KnownBytes.{Keeps, append_known}
use Rattle.lsm_device.specs.declared.refusal.Refusal.{Refusal}
use Rattle.lsm_device.specs.declared.refusal.Refusal.TheVariants.{NoMemory}
use Rattle.lsm_language.specs.declared.program_error.ProgramError.{ProgramError}
use Rattle.lsm_store.specs.Backing.{StoreView}
use Rattle.lsm_serve.specs.Answering.{Answered, AnswersLine, answer_text}
use Rattle.lsm_serve.specs.Serving.{AreServed}

-- what is in an output, with what is held for it after that, stays the same
abbrev pub KeepsHeld : Option (List ℕ) → List ℕ → Option (List ℕ) → List ℕ → Type 0
KeepsHeld output held output_after held_after = Keeps (append_known output held) (append_known output_after held_after)

-- Lines of an input were answered, in an output and in what is held for it after that. Nothing is held where no line was answered.
pub record AreHeld (input : Option (List ℕ)) (result : Result (Unit {0}) ProgramError) (before after : StoreView) (output output_after : Option (List ℕ)) (held : List ℕ) : Type 0 where
  pub served : AreServed input result before after output (append_known output_after held)
  pub some : (held ≡ []) ⊎ (1 ≤ length served.lines)

-- A text was added to what is held; or memory for it was refused, and the same is held.
abbrev pub IsAdded : Result (Unit {0}) Refusal → List ℕ → List ℕ → List ℕ → Type 0
IsAdded (Ok done) held text held_after = held_after ≡ held ++ text
IsAdded (Err e) held text held_after = (e ≡ NoMemory) × (held_after ≡ held)

-- A line was answered, and the text of its answer added.
pub record HoldsAnswer (before : StoreView) (number : ℕ) (line held : List ℕ) (result : Result (Unit {0}) Refusal) (after : StoreView) (held_after : List ℕ) : Type 0 where
  pub answered : Answered
  pub answers : AnswersLine before line answered after
  pub added : IsAdded result held (answer_text number answered) held_after
