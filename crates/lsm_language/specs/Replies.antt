-- Replies as lines.
use Rattle.std.specs.Prelude.{ℕ, Bool, List, [], ◌∷◌, ◌++◌, codes, decimal, Option, Some, None, if◌then◌else◌}
use Rattle.std.specs.List.{flat_map}
use Rattle.lsm_codec.specs.Words.{word_of}
use Rattle.lsm_codec.specs.Keys.{Bytes}
use Rattle.lsm_mem.specs.Paging.{Page}
use Rattle.lsm_device.specs.declared.refusal.Refusal.TheVariants.{Io}
use Rattle.lsm_machine.specs.Calls.{Call, Commit, CommitIf, Snapshot, Reply, Number, Done, Value, Rows, Given, Handed, Refused, Unread}
use Rattle.lsm_store.specs.declared.stat.Stat.{Stat}
use Rattle.lsm_language.specs.Faults.{refusal_line}
use Rattle.lsm_lives.specs.Asked.{Told as LivesTold, Replied, Built}
use Rattle.lsm_language.specs.declared.counted.Counted.{Counted}
use Rattle.lsm_language.specs.declared.counted.Counted.TheVariants as counted

-- what a number counts in the reply to a call
abbrev pub counted_by : Call → Counted
counted_by (Commit batch) = counted.Batch
counted_by (CommitIf guards batch) = counted.Batch
counted_by Snapshot = counted.Snapshot
counted_by _ = counted.Room

-- the word before a number
abbrev pub counted_word : Counted → List ℕ
counted_word counted.Opened = codes "open"
counted_word counted.Batch = codes "batch"
counted_word counted.Snapshot = codes "snapshot"
counted_word counted.Room = codes "room"
counted_word counted.Left = codes "left"

-- the key of the first pair that a page leaves out
abbrev pub next_line : Page → List ℕ
next_line page = next page.next
  where
    next : Option Bytes → List ℕ
    next (Some key) = codes "next " ++ word_of key ++ 10 ∷ []
    next None = codes "end" ++ 10 ∷ []

-- a row in such a line
abbrev pub row_pair : Bytes × Bytes → List ℕ
row_pair row = word_of row.0 ++ codes "=" ++ word_of row.1 ++ codes " "

-- a page in one line
abbrev pub rows_line : Page → List ℕ
rows_line page = codes "rows " ++ flat_map row_pair page.rows ++ next_line page

-- the numbers of a store in one line, where a yes is 1 and a no 0
abbrev pub digit_of : Bool → ℕ
digit_of flag = if flag then 1 else 0

abbrev pub stat_line : Stat → List ℕ
stat_line stat = codes "generation " ++ decimal stat.generation ++ codes " batches " ++ decimal stat.batches
    ++ codes " room " ++ decimal stat.room ++ codes " waiting " ++ decimal (digit_of stat.waiting) ++ codes " runs " ++ decimal stat.runs
    ++ codes " tables " ++ decimal stat.tables ++ codes " free " ++ decimal stat.free_blocks ++ 10 ∷ []

-- a job that was taken, if there was one: a flush, or by the level above that of its outputs
abbrev pub job_line : Option (ℕ × Option ℕ) → List ℕ
job_line None = codes "none" ++ 10 ∷ []
job_line (Some (number, None)) = codes "job " ++ decimal number ++ codes " flush" ++ 10 ∷ []
job_line (Some (number, Some level)) = codes "job " ++ decimal number ++ codes " level " ++ decimal level ++ 10 ∷ []

-- a store's reply
abbrev pub reply_line : Counted → Reply → List ℕ
reply_line counted (Number number) = counted_word counted ++ codes " " ++ decimal number ++ 10 ∷ []
reply_line counted Done = codes "ok" ++ 10 ∷ []
reply_line counted (Value (Some value)) = codes "value " ++ word_of value ++ 10 ∷ []
reply_line counted (Value None) = codes "absent" ++ 10 ∷ []
reply_line counted (Rows page) = rows_line page
reply_line counted (Given job) = job_line job
reply_line counted (Handed input) = []
reply_line counted (Refused refusal) = refusal_line refusal
reply_line counted Unread = refusal_line Io

-- what is told of a step
abbrev pub told_line : Counted → LivesTold → List ℕ
told_line counted (Replied reply) = reply_line counted reply
told_line counted (Built number tables) = codes "built " ++ decimal number ++ codes " images " ++ decimal tables ++ 10 ∷ []
