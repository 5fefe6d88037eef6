-- What lines are answered.
use Rattle.std.specs.Prelude.{◌≡◌, ◌⊎◌, ℕ, suc, Bool, true, false, List, [], ◌∷◌, ◌++◌, Option, Some, None, Result, Ok, Err, codes, decimal}
use Rattle.lsm_device.specs.declared.refusal.Refusal.{Refusal}
use Rattle.lsm_device.specs.declared.refusal.Refusal.TheVariants.{NoMemory}
use Rattle.lsm_lives.specs.Asked.{Replied}
use Rattle.lsm_lives.specs.Calls.{reply_of, told_of}
use Rattle.lsm_store.specs.Backing.{StoreView, machine_of}
use Rattle.lsm_machine.specs.Calls.{Reply, Refused}
use Rattle.lsm_store.specs.Stats.{stat_answer}
use Rattle.lsm_store.specs.declared.stat.Stat.{Stat}
use Rattle.lsm_language.specs.Replies.{counted_by, reply_line, stat_line}
use Rattle.lsm_language.specs.declared.counted.Counted.{Counted}
use Rattle.lsm_language.specs.declared.counted.Counted.TheVariants.{Batch}
use Rattle.lsm_upkeep.specs.Compacting.{is_compacted}
use Rattle.lsm_upkeep.specs.Lacking.{IsLacking}
use Rattle.lsm_upkeep.specs.declared.lacking.Lack.{Lack}
use Rattle.lsm_upkeep.specs.declared.lacking.Lack.TheVariants.{FlushWants, StepWants}
use Rattle.lsm_upkeep.specs.declared.lacking.Shortage.{Shortage}
use Rattle.lsm_serve.specs.Asking.{Meaning, Says, asks_call, asks_no_batch, asks_numbers, asks_compaction, asks_nothing, meaning_of, wrong_text}
use Rattle.lsm_serve.specs.Committing.{CompactsWhole, MakesCall}
use Rattle.lsm_serve.specs.Tagging.{tag_in}
use Rattle.lsm_serve.specs.declared.answer.Answer.{Answer}
use Rattle.lsm_serve.specs.declared.answer.Answer.TheVariants as answer

-- what an answer tells: a reply, where a number in it counts this; the numbers of the store; those of one that lacks something; or what is
-- wrong with the line
pub data Outcome : Type 0 where
  tells : Counted → Reply → Outcome
  counts : Stat → Outcome
  lacks : Lack → Stat → Outcome
  wrongs : List ℕ → Outcome

-- an answer, after the tag of its line
pub record Answered : Type 0 where
  pub tag : List ℕ
  pub outcome : Outcome

-- as a value
abbrev pub outcome_of : Answer → Outcome
outcome_of (answer.Told counted reply) = tells counted (reply_of reply)
outcome_of (answer.Numbers stat) = counts stat
outcome_of (answer.Halfway lack stat) = lacks lack stat
outcome_of (answer.Usage wrong) = wrongs (wrong_text wrong)

-- a reply that is not to a build
abbrev pub IsTellable : Answer → Type 0
IsTellable (answer.Told counted reply) = told_of reply ≡ Replied (reply_of reply)
IsTellable other = Unit {0}

-- a refusal
abbrev pub refuses : Refusal → Outcome
refuses refusal = tells Batch (Refused refusal)

-- the numbers, or why they are not told
abbrev pub numbers_in : Result Stat Refusal → Outcome
numbers_in (Ok stat) = counts stat
numbers_in (Err refusal) = refuses refusal

-- the numbers after what a store lacks, or why they are not told
abbrev pub TellsLack : StoreView → Result Stat Refusal → Outcome → Type 0
TellsLack store (Ok stat) outcome = (lack : Lack) × IsLacking store lack × (outcome ≡ lacks lack stat)
TellsLack store (Err refusal) outcome = outcome ≡ refuses refusal

-- the numbers of a store that was compacted, after what it lacks where that is not to the end
abbrev pub TellsCompacted : Bool → StoreView → Outcome → Type 0
TellsCompacted true store outcome = outcome ≡ numbers_in (stat_answer (machine_of store))
TellsCompacted false store outcome = TellsLack store (stat_answer (machine_of store)) outcome

-- what a line that asks for this is answered
abbrev pub Answers : Meaning → StoreView → Outcome → StoreView → Type 0
Answers (asks_call call) before outcome after = (told : Reply) × MakesCall call before told after × (outcome ≡ tells (counted_by call) told)
Answers (asks_no_batch refusal) before outcome after = (outcome ≡ refuses refusal) × (after ≡ before)
Answers asks_numbers before outcome after = (outcome ≡ numbers_in (stat_answer (machine_of before))) × (after ≡ before)
Answers asks_compaction before outcome after = CompactsWhole before after × TellsCompacted (is_compacted (machine_of after)) after outcome
Answers (asks_nothing flaw) before outcome after = (text : List ℕ) × Says flaw text × (outcome ≡ wrongs text) × (after ≡ before)

-- or memory for reading it was refused
abbrev pub AnswersUntagged : StoreView → List ℕ → Outcome → StoreView → Type 0
AnswersUntagged before line outcome after = Answers (meaning_of line) before outcome after ⊎ ((outcome ≡ refuses NoMemory) × (after ≡ before))

-- the answer to a line has its tag
abbrev pub AnswersLine : StoreView → List ℕ → Answered → StoreView → Type 0
AnswersLine before line answered after = (answered.tag ≡ tag_in line) × AnswersUntagged before line answered.outcome after

-- lines are answered one after another
abbrev pub AnswersLines : StoreView → List (List ℕ) → List Answered → StoreView → Type 0
AnswersLines before [] [] after = after ≡ before
AnswersLines before (line ∷ lines) (answered ∷ rest) after = (mid : StoreView) × AnswersLine before line answered mid × AnswersLines mid lines rest after
AnswersLines before [] (answered ∷ rest) after = ⊥
AnswersLines before (line ∷ lines) [] after = ⊥

-- the line that tells of the line of a number what is wrong with it
abbrev pub usage_line : ℕ → List ℕ → List ℕ
usage_line number text = codes "usage " ++ decimal number ++ codes ": " ++ text ++ 10 ∷ []

-- the blocks that are wanted, where what is lacking are blocks
abbrev pub wanted_in : Lack → Option Shortage
wanted_in (FlushWants shortage) = Some shortage
wanted_in (StepWants shortage) = Some shortage
wanted_in other = None

-- the line that tells of a store that it is not compacted to the end, how many blocks are wanted for that, and its numbers
abbrev pub wanting_line : Option Shortage → Stat → List ℕ
wanting_line None stat = codes "whole 0 " ++ stat_line stat
wanting_line (Some shortage) stat = codes "whole 0 wanted " ++ (decimal shortage.wanted ++ (codes " together " ++ (decimal shortage.together
    ++ (codes " longest " ++ (decimal shortage.longest ++ (codes " " ++ stat_line stat))))))

abbrev pub lack_line : Lack → Stat → List ℕ
lack_line lack stat = wanting_line (wanted_in lack) stat

-- the text of what an answer to the line of a number tells
abbrev pub outcome_text : ℕ → Outcome → List ℕ
outcome_text number (tells counted reply) = reply_line counted reply
outcome_text number (counts stat) = stat_line stat
outcome_text number (lacks lack stat) = lack_line lack stat
outcome_text number (wrongs text) = usage_line number text

-- the text of an answer, which begins with the tag
abbrev pub answer_text : ℕ → Answered → List ℕ
answer_text number answered = answered.tag ++ outcome_text number answered.outcome

-- the texts of answers to lines from a number on
abbrev pub answers_text : ℕ → List Answered → List ℕ
answers_text number [] = []
answers_text number (answered ∷ rest) = answer_text number answered ++ answers_text (suc number) rest
