-- All rows of a store as lines.
use Rattle.std.specs.Prelude.{◌≡◌, ◌⊎◌, ℕ, Bool, true, false, List, [], Option, Some, None, length}
use Rattle.std.specs.Io.KnownBytes.{Appends}
use Rattle.std.specs.List.{flat_map}
use Rattle.lsm_codec.specs.Keys.{Bytes}
use Rattle.lsm_device.specs.declared.refusal.Refusal.{Refusal}
use Rattle.lsm_device.specs.declared.refusal.Refusal.TheVariants.{NoMemory, Exhausted}
use Rattle.lsm_language.specs.Faults.{Reason, refusal, unwritten}
use Rattle.lsm_mem.specs.Paging.{Page}
use Rattle.lsm_store.specs.Backing.{StoreView}
use Rattle.lsm_machine.specs.Calls.{Scan, Refused}
use Rattle.lsm_store.specs.Serving.{Serves}
use Rattle.lsm_machine.specs.declared.asked.At.{At}
use Rattle.lsm_machine.specs.declared.asked.At.TheVariants.{Now}
use Rattle.lsm_upkeep.specs.Walking.{GoesOn, WalkView, WalksThrough, WalksTo}
use Rattle.lsmctl.specs.Replies.{row_line}
use Rattle.lsmctl.specs.declared.answer.Output.{Output}
use Rattle.lsmctl.specs.declared.answer.Output.TheVariants.{Dumped}

-- a line for each row of a page, and of pages
abbrev pub rows_lines : Page → List ℕ
rows_lines page = flat_map row_line page.rows

abbrev pub pages_lines : List Page → List ℕ
pages_lines pages = flat_map rows_lines pages

-- A page was found after a walk, and its lines were printed; or the walk was at its end.
abbrev pub DumpsPage : Bool → WalkView → WalkView → StoreView → StoreView → Option (List ℕ) → Option (List ℕ) → Type 0
DumpsPage true old new before after output output_after = (page : Page) × GoesOn old page new before after × Appends output output_after (rows_lines page)
DumpsPage false old new before after output output_after = (old.from ≡ None) × (after ≡ before) × (output_after ≡ output)

-- All pages of the present map were found, from the first key on, and the lines of their rows were printed.
pub record Dumps (output output_after : Option (List ℕ)) (before after : StoreView) : Type 0 where
  pub pages : List Page
  pub walks : WalksThrough Now (Some []) pages before after
  pub prints : Appends output output_after (pages_lines pages)

-- ---- a dump that ends before

-- the page from a key on was refused so, or there was no memory for it or for its lines
abbrev pub RefusesPage : At → Option Bytes → StoreView → Refusal → Type 0
RefusesPage at from store e = (e ≡ NoMemory) ⊎ ((key : Bytes) × (after : StoreView) × (from ≡ Some key) × Serves store (Scan at key None 64) (Refused e) after)

-- there was no memory for the lines, or they couldn't be printed
abbrev pub IsUnprinted : Reason → Option (List ℕ) → Option (List ℕ) → Type 0
IsUnprinted (refusal e) output output_after = (e ≡ NoMemory) × (output_after ≡ output)
IsUnprinted unwritten output output_after = Unit {0}
IsUnprinted other output output_after = ⊥

-- why there are no lines of a page, and what was printed
abbrev pub StopsAtPage : Reason → WalkView → StoreView → Option (List ℕ) → Option (List ℕ) → Type 0
StopsAtPage (refusal e) walk store output output_after = RefusesPage walk.at walk.from store e × (output_after ≡ output)
StopsAtPage unwritten walk store output output_after = Unit {0}
StopsAtPage other walk store output output_after = ⊥

-- The lines of the first pages of the present map were printed, and the next page was refused; or 2^64 - 1 pages were printed.
pub record RefusesDump (printed : List ℕ) (before : StoreView) (e : Refusal) : Type 0 where
  pub pages : List Page
  pub from : Option Bytes
  pub between : StoreView
  pub walks : WalksTo Now (Some []) pages from before between
  pub lines : printed ≡ pages_lines pages
  pub refused : RefusesPage Now from between e ⊎ ((e ≡ Exhausted) × (length pages ≡ 18446744073709551615))

-- why not all rows were printed, and what was
abbrev pub StopsDumping : Reason → StoreView → Option (List ℕ) → Option (List ℕ) → Type 0
StopsDumping (refusal e) before output output_after = (printed : List ℕ) × Appends output output_after printed × RefusesDump printed before e
StopsDumping unwritten before output output_after = Unit {0}
StopsDumping other before output output_after = ⊥

-- ---- one that ends

-- they were printed before the answer
pub record HasDumped (printed : List ℕ) (before after : StoreView) (output : Output) : Type 0 where
  pub pages : List Page
  pub walks : WalksThrough Now (Some []) pages before after
  pub lines : printed ≡ pages_lines pages
  pub told : output ≡ Dumped
