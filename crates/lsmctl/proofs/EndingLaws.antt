-- The exit status.
use Rattle.std.proofs.Common.{◌≡◌, ◌≤◌, ◌==◌, if◌then◌else◌, ℕ, Bool, true, false, List, Option, Result, Ok, Err, arith}
use Rattle.std.specs.Io.KnownBytes.{Keeps}
use Rattle.std.specs.declared.io.Error.{Error}
use Rattle.lsmctl.specs.declared.answer.Answer.{Answer}
use Rattle.lsmctl.specs.declared.answer.Output.{Output}
use Rattle.lsmctl.specs.declared.answer.Output.TheVariants.{Formatted, Batch, Value, Absent, Lines, Halfway, Loaded, Dumped, Served, Found, Explored, Tally}
use Rattle.lsm_language.specs.declared.program_error.ProgramError.{ProgramError}
use Rattle.lsm_language.specs.Faults.{Reason, mistake, refusal, unopened, unread, unwritten, reason_of, status_of}
use Rattle.lsmctl.specs.Endings.{TellsLack, answer_status, status_after}

status_of-at_most : (r : Reason) → status_of r ≤ 2
status_of-at_most mistake = grind arith
status_of-at_most (refusal r) = grind arith
status_of-at_most (unopened cause) = grind arith
status_of-at_most unread = grind arith
status_of-at_most unwritten = grind arith

found_or_not : (b : Bool) → (if b then 0 else 1) ≤ 1
found_or_not true = grind arith
found_or_not false = grind arith

pub answer_status-at_most : (output : Output) → answer_status output ≤ 1
answer_status-at_most (Formatted blocks) = grind arith
answer_status-at_most (Batch number) = grind arith
answer_status-at_most (Value word) = grind arith
answer_status-at_most Absent = grind arith
answer_status-at_most (Lines text) = grind arith
answer_status-at_most (Halfway text lack) = grind arith
answer_status-at_most (Loaded number) = grind arith
answer_status-at_most Dumped = grind arith
answer_status-at_most Served = grind arith
answer_status-at_most (Found text) = grind arith
answer_status-at_most (Explored counts) = found_or_not (counts.wrong == 0)
answer_status-at_most (Tally true) = grind arith
answer_status-at_most (Tally false) = grind arith

-- what ends with 0 tells no lack
pub answer_status-silent : (output : Output) (old new : Option (List ℕ)) → answer_status output ≡ 0 → TellsLack output old new → Keeps old new
answer_status-silent (Halfway text lack) old new done told = grind arith
answer_status-silent (Formatted blocks) old new done told = told
answer_status-silent (Batch number) old new done told = told
answer_status-silent (Value word) old new done told = told
answer_status-silent Absent old new done told = told
answer_status-silent (Lines text) old new done told = told
answer_status-silent (Loaded number) old new done told = told
answer_status-silent Dumped old new done told = told
answer_status-silent Served old new done told = told
answer_status-silent (Found text) old new done told = told
answer_status-silent (Explored counts) old new done told = told
answer_status-silent (Tally true) old new done told = told
answer_status-silent (Tally false) old new done told = told

-- is never above 2
pub status_after-at_most : (answered : Result Answer ProgramError) (written : Result (Unit {0}) Error) → status_after answered written ≤ 2
status_after-at_most answered (Err error) = grind arith
status_after-at_most (Ok answer) (Ok done) = omega (arith, answer_status-at_most answer.output)
status_after-at_most (Err fault) (Ok done) = status_of-at_most (reason_of fault)
