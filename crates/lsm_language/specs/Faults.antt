-- Why the program does not do what it is asked for, and how it ends.
use Rattle.std.specs.Prelude.{ℕ, ◌/◌, ◌%◌, List, [], ◌∷◌, ◌++◌, codes, decimal, Option, Some, None, string_bytes}
use Rattle.lsm_device.specs.declared.refusal.Refusal.{Refusal}
use Rattle.lsm_device.specs.declared.refusal.Refusal.TheVariants.{Io}
use Rattle.lsm_device.specs.Refusals.{number_of, name_of, place_of}
use Rattle.lsm_language.specs.declared.cause.Cause.{Cause}
use Rattle.lsm_language.specs.declared.cause.Cause.TheVariants.{InUse, Missing, NoFolder, Denied, Folder, NotAFile, Uneven, TooLarge}
use Rattle.lsm_language.specs.declared.failure.Failure.{Failure}
use Rattle.lsm_language.specs.declared.program_error.ProgramError.{ProgramError}
use Rattle.lsm_language.specs.declared.program_error.ProgramError.TheVariants.{Usage, Refused, Failed, Unopened, Input, Output}

-- a mistake in the words or the input, a refusal, a file that can't be opened, an input that could not be read, or an answer that
-- could not be written
pub data Reason : Type 0 where
  mistake : Reason
  refusal : Refusal → Reason
  unopened : Cause → Reason
  unread : Reason
  unwritten : Reason

abbrev pub reason_of : ProgramError → Reason
reason_of (Usage usage) = mistake
reason_of (Refused r) = refusal r
reason_of (Failed failure) = refusal failure.refusal
reason_of (Unopened cause) = unopened cause
reason_of (Input error) = unread
reason_of (Output error) = unwritten

-- a refusal of this kind; a file that can't be opened is refused with Io
abbrev pub IsRefusalBy : (Refusal → Type 0) → Reason → Type 0
IsRefusalBy Is (refusal r) = Is r
IsRefusalBy Is (unopened cause) = Is Io
IsRefusalBy Is other = ⊥

-- the exit status
abbrev pub status_of : Reason → ℕ
status_of (refusal r) = 1
status_of (unopened cause) = 1
status_of unread = 1
status_of unwritten = 1
status_of mistake = 2

-- `refused`, the number in two digits, and the name; then the place of a guard, where it tells one
abbrev pub place_text : Option ℕ → List ℕ
place_text None = []
place_text (Some place) = codes " " ++ decimal place

abbrev pub refusal_text : Refusal → List ℕ
refusal_text r = codes "refused " ++ decimal (number_of r / 10) ++ decimal (number_of r % 10) ++ codes " "
    ++ name_of r ++ place_text (place_of r)

abbrev pub refusal_line : Refusal → List ℕ
refusal_line r = refusal_text r ++ 10 ∷ []

abbrev pub cause_text : Cause → List ℕ
cause_text InUse = codes "the file is in use"
cause_text Missing = codes "there is no such file"
cause_text NoFolder = codes "the folder of the file is missing"
cause_text Denied = codes "the file may not be read and written"
cause_text Folder = codes "the file is a folder"
cause_text NotAFile = codes "the file is neither a regular file nor a block device"
cause_text Uneven = codes "the length of the file is not a whole number of sectors"
cause_text TooLarge = codes "the file has more than 4294967295 sectors"

-- what is printed of a file that can't be opened: the refusal, and then the cause
abbrev pub unopened_lines : Cause → List ℕ
unopened_lines cause = refusal_line Io ++ codes "error: " ++ cause_text cause ++ 10 ∷ []

-- what is printed of a call of a file that failed: the refusal that it led to, and then the system's error
abbrev pub failed_lines : Failure → List ℕ
failed_lines failure = refusal_line failure.refusal ++ codes "error: " ++ string_bytes failure.error ++ 10 ∷ []
