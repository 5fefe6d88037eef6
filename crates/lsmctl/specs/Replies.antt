-- Replies as lines.
use Rattle.std.specs.Prelude.{ℕ, List, [], ◌∷◌, ◌++◌, codes, decimal}
use Rattle.std.specs.List.{flat_map}
use Rattle.lsm_codec.specs.Words.{word_of}
use Rattle.lsm_codec.specs.Keys.{Bytes}
use Rattle.lsm_mem.specs.Paging.{Page}
use Rattle.lsm_check.specs.declared.report.Report.{Report}
use Rattle.lsm_language.specs.Faults.{refusal_line}
use Rattle.lsm_storm.specs.declared.counts.Counts.{Counts}
use Rattle.lsm_lives.specs.Asked.{Told as LivesTold}
use Rattle.lsm_language.specs.Replies.{next_line, told_line}
use Rattle.lsmctl.specs.declared.steps.ReplyFormat.{ReplyFormat}
use Rattle.lsmctl.specs.declared.steps.ReplyFormat.TheVariants as reply_format

-- a row in a line of its own
abbrev pub row_line : Bytes × Bytes → List ℕ
row_line row = word_of row.0 ++ codes " " ++ word_of row.1 ++ 10 ∷ []

-- a page in lines of its own
abbrev pub page_lines : Page → List ℕ
page_lines page = flat_map row_line page.rows ++ next_line page

-- the numbers of an image in one line
abbrev pub report_line : Report → List ℕ
report_line report = codes "ok generation " ++ decimal report.generation ++ codes " batches " ++ decimal report.batches
    ++ codes " tables " ++ decimal report.tables ++ codes " entries " ++ decimal report.entries ++ codes " free " ++ decimal report.free_blocks ++ 10 ∷ []

-- what a check found wrong with a table, in one line
abbrev pub table_line : List ℕ → ℕ → List ℕ
table_line what number = codes "finding " ++ what ++ codes " table " ++ decimal number ++ 10 ∷ []

-- what a storm did, a line for each count
abbrev pub counts_lines : Counts → List ℕ
counts_lines counts = codes "commits " ++ decimal counts.commits ++ codes "\nbatches " ++ decimal counts.batches
    ++ codes "\nrows " ++ decimal counts.rows ++ 10 ∷ []

-- a line for each step
abbrev pub replies_text : List ReplyFormat → List LivesTold → List ℕ
replies_text [] replies = []
replies_text (reply_format.NoBatch refusal ∷ steps) replies = refusal_line refusal ++ replies_text steps replies
replies_text (reply_format.Reply counted ∷ steps) (reply ∷ replies) = told_line counted reply ++ replies_text steps replies
replies_text (reply_format.Reply counted ∷ steps) [] = replies_text steps []

-- the lines of each life
abbrev pub lives_text : List (List ReplyFormat) → List (List LivesTold) → List ℕ
lives_text [] replies = []
lives_text (steps ∷ lives) (replies ∷ more) = replies_text steps replies ++ lives_text lives more
lives_text (steps ∷ lives) [] = lives_text lives []
