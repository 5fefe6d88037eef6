-- How a loading goes on.
use Rattle.std.proofs.Common.{◌≡◌, ◌∙◌, ◌+◌, ℕ, zero, suc, Bool, true, false, true≢false, List, [], ◌∷◌, ◌++◌, length, Option, Some, None, Result, Ok, Err, is_some, ◌&&◌, inl, inr, refl, sym, ap, subst, append_assoc, append-nil, length-append}
use Rattle.std.specs.Prelude.{IfErr, IfOk, IfSome}
use Rattle.lsm_codec.specs.Map.{Map, Operation, apply}
use Rattle.lsm_device.specs.declared.refusal.Refusal.{Refusal}
use Rattle.lsm_language.specs.declared.program_error.ProgramError.{ProgramError}
use Rattle.lsm_language.specs.declared.program_error.ProgramError.TheVariants.{Failed, Input as InputFault, Output as OutputFault, Refused, Unopened, Usage}
use Rattle.lsm_language.specs.Faults.{IsRefusalBy, Reason, mistake, refusal, unopened, unread, unwritten, reason_of}
use Rattle.lsm_language.specs.Reading.{ReadsLine}
use Rattle.lsm_language.specs.Rows.{are_rows, lines_of, most_row, row_said, rows_of, with_row}
use Rattle.lsm_open.specs.Recovering.{IsOpeningRefusal}
use Rattle.lsm_store.specs.Backing.{StoreView}
use Rattle.lsm_machine.specs.Calls.{Done, Refused as RefusedSo, Sync}
use Rattle.lsm_machine.specs.RecoveryPoints.{present_map}
use Rattle.lsm_store.specs.Serving.{Serves}
use Rattle.lsm_machine.specs.State.{State}
use Rattle.lsm_upkeep.specs.Keeping.{KeepsMap}
use Rattle.lsm_upkeep.proofs.Told.{apply-append}
use Rattle.lsmctl.specs.declared.loading.Loading.{Loading}
use Rattle.lsmctl.specs.declared.loading.Loaded.{Loaded}
use Rattle.lsmctl.specs.declared.answer.Answer.{Answer}
use Rattle.lsmctl.specs.Answers.{Hands, IsRefusedOpened, OfOpened, TellsLoaded, TellsNumber, WasOpened}
use Rattle.lsmctl.specs.Commits.{AddsNot, IsKeptUp, map_in}
use Rattle.lsmctl.specs.declared.answer.Output.{Output}
use Rattle.lsmctl.specs.declared.answer.Output.TheVariants.{Loaded as LoadedRows}
use Rattle.lsmctl.specs.Loading.{AddsWaiting, AreFirstRows, ArePut, AreRead, AreRowsOf, BeginsWith, CommitsWaiting, EndsFor, EndsReading, EndsReadingFor, EndsWith, FitsIf, HasLoaded, HasRead, IsLoaded, IsLoading, IsShort, KeepsAndLoads, PutsRows, RefusesLastSync, RefusesToLoad, StaysLoaded, StopsAt, StopsReading, Takes, TakesNot, WaitingRefused, is_refused, none_loaded, none_waits, rows_waiting}
use Rattle.lsmctl.proofs.CommittingLaws.{adds-puts, adds_not-keeps}
use Rattle.lsmctl.proofs.RefusedLaws.{not_opened, opened_refused, refuses, told_as}

-- ---- batches

-- rows that were put are in the map
pub puts_rows-map : (batches : ℕ) (rows : List Operation) (old new : StoreView) → PutsRows batches rows old new → map_in new ≡ apply (map_in old) rows
puts_rows-map zero rows old new (none, same) = ap map_in same ∙ ap (apply (map_in old)) (sym none)
puts_rows-map (suc batches) rows old new (earlier, batch, between, is, puts, adds) =
    adds-puts batch between new adds ∙ ap (λ (m : Map). apply m batch) (puts_rows-map batches earlier old between puts)
    ∙ sym (apply-append (map_in old) earlier batch) ∙ ap (apply (map_in old)) (sym is)

-- ---- those that wait are committed

pub commits : (old : Loading) (before after : StoreView) → AddsWaiting old.batch before after → CommitsWaiting old before (none_waits old) after
commits old before after adds = (refl, λ begun rows l. by old.batch adds begun rows l.put l.batches l.all l.puts l.read)
  where
    by : (batch : Option (List Operation)) → AddsWaiting batch before after → (begun : StoreView) (rows put : List Operation) (batches : ℕ) → rows ≡ put ++ rows_waiting batch
        → PutsRows batches put begun before → old.read ≡ length rows → IsLoading begun rows (none_waits old) after
    by None same begun rows put batches all puts read = record {
      put = rows;
      all = sym (append-nil rows);
      read = read;
      loaded = read;
      batches = batches;
      puts = subst (λ (s : StoreView). PutsRows batches rows begun s) (sym same) (subst (λ (it : List Operation). PutsRows batches it begun before) (sym (all ∙ append-nil put)) puts);
    }
    by (Some batch) adds begun rows put batches all puts read = record {
      put = rows;
      all = sym (append-nil rows);
      read = read;
      loaded = read;
      batches = suc batches;
      puts = (put, batch, before, all, puts, adds);
    }

-- ---- a row

-- it goes to those that wait
pub taken_to : (row : Operation) (old new : Loading) (s : StoreView) → FitsIf true row old new → Takes row old s (record new { read = new.read + 1 }) s
taken_to row old new s (batch, is, becomes) begun rows l = record {
  put = l.put;
  all = ap (λ (x : List Operation). x ++ row ∷ []) (l.all ∙ ap (λ (b : Option (List Operation)). l.put ++ rows_waiting b) is) ∙ append_assoc l.put batch (row ∷ [])
      ∙ ap (λ (x : Loading). l.put ++ rows_waiting x.batch) (sym becomes);
  read = ap (λ (x : Loading). x.read + 1) becomes ∙ ap (λ (n : ℕ). n + 1) l.read ∙ sym (length-append rows (row ∷ []));
  loaded = ap (λ (x : Loading). x.loaded) becomes ∙ l.loaded;
  batches = l.batches;
  puts = l.puts;
}

-- it begins a batch, after those that were committed
pub taken_alone : (row : Operation) (old mid new : Loading) (before after : StoreView) → CommitsWaiting old before mid after
    → new ≡ record { batch = Some (row ∷ []); read = mid.read + 1; loaded = mid.loaded } → Takes row old before new after
taken_alone row old mid new before after done is begun rows l =
    let c = done.1 begun rows l in
    let none : c.put ++ rows_waiting mid.batch ≡ c.put = ap (λ (x : Loading). c.put ++ rows_waiting x.batch) done.0 ∙ append-nil c.put in
    record {
      put = c.put;
      all = ap (λ (x : List Operation). x ++ row ∷ []) (c.all ∙ none) ∙ ap (λ (x : Loading). c.put ++ rows_waiting x.batch) (sym is);
      read = ap (λ (x : Loading). x.read) is ∙ ap (λ (n : ℕ). n + 1) c.read ∙ sym (length-append rows (row ∷ []));
      loaded = ap (λ (x : Loading). x.loaded) is ∙ c.loaded;
      batches = c.batches;
      puts = c.puts;
    }

-- or nothing is done
pub not_fit : (old new : Loading) (s : StoreView) → new ≡ old → StaysLoaded old s new s
not_fit old new s same begun rows l = subst (λ (x : Loading). IsLoading begun rows x s) (sym same) l

-- ---- what was read

-- a line was read whole, and what comes after it is left, as far as that is known
abbrev pub IsWhole : Option (List ℕ) → List ℕ → Option (List ℕ) → Type 0
IsWhole left line after = IfSome left (λ text. (rest : List ℕ) × (after ≡ Some rest) × (lines_of text ≡ line ∷ lines_of rest))

-- the next line is no row
abbrev pub BeginsNoRow : Option (List ℕ) → Type 0
BeginsNoRow left = IfSome left (λ text. (line : List ℕ) × (rest : List ℕ) × (lines_of text ≡ line ∷ lines_of rest) × (row_said line ≡ None))

-- so far
pub record IsReading (input left : Option (List ℕ)) (loading : Loading) (before now : StoreView) : Type 0 where
  pub rows : List Operation
  pub loads : IsLoading before rows loading now
  pub reads : HasRead input rows left

-- nothing yet
pub reading-begins : (input : Option (List ℕ)) (loading : Loading) (s : StoreView) → loading ≡ none_loaded → IsReading input input loading s s
reading-begins input loading s is = record {
  rows = [];
  loads = subst (λ (l : Loading). IsLoading s [] l s) (sym is) (record { put = []; all = refl; read = refl; loaded = refl; batches = 0; puts = (refl, refl) });
  reads = nothing input;
}
  where
    nothing : (input : Option (List ℕ)) → HasRead input [] input
    nothing None = tt
    nothing (Some all) = (all, refl, refl, refl)

-- a row more
pub reading-more : (input left after : Option (List ℕ)) (line : List ℕ) (row : Operation) (old new : Loading) (before now next : StoreView) → IsReading input left old before now
    → IsWhole left line after → row_said line ≡ Some row → Takes row old now new next → IsReading input after new before next
reading-more input left after line row old new before now next r reads said takes = record {
  rows = r.rows ++ row ∷ [];
  loads = takes before r.rows r.loads;
  reads = one_more input left after line row r.rows reads said r.reads;
}
  where
    one_more : (input left after : Option (List ℕ)) (line : List ℕ) (row : Operation) (rows : List Operation) → IsWhole left line after → row_said line ≡ Some row
        → HasRead input rows left → HasRead input (rows ++ row ∷ []) after
    one_more None left after line row rows reads said has = tt
    one_more (Some all) None after line row rows reads said (text, is, rest, good) = absurd (not_none is)
      where
        not_none : None ≡ Some text → ⊥
        not_none h = cc
    one_more (Some all) (Some left) after line row rows reads said (text, is, rest, good) =
        let same : left ≡ text = cc in
        let behind = reads.0 in
        let first : lines_of text ≡ line ∷ lines_of behind = ap lines_of (sym same) ∙ reads.2 in (
          behind,
          reads.1,
          rest ∙ ap (λ (ls : List (List ℕ)). rows ++ rows_of ls) first ∙ ap (λ (o : Option Operation). rows ++ with_row o (rows_of (lines_of behind))) said
              ∙ sym (append_assoc rows (row ∷ []) (rows_of (lines_of behind))),
          good ∙ ap are_rows first ∙ ap (λ (o : Option Operation). is_some o && are_rows (lines_of behind)) said,
        )

-- what was read begins the rows of the input
begins_rows : (input left : Option (List ℕ)) (rows : List Operation) → HasRead input rows left → AreFirstRows input rows
begins_rows None left rows has = tt
begins_rows (Some all) left rows (text, is, rest, good) = (rows_of (lines_of text), rest)

-- and so do all rows of it
whole-begins : (input : Option (List ℕ)) (whole : Bool) (rows : List Operation) → AreRowsOf input whole rows → AreFirstRows input rows
whole-begins None whole rows are = tt
whole-begins (Some all) whole rows (is, good) = ([], sym is ∙ sym (append-nil rows))

-- the end of the input
pub reading-ends : (input left after : Option (List ℕ)) (line : List ℕ) (loading : Loading) (before now : StoreView) → IsReading input left loading before now
    → ReadsLine most_row left false line after → AreRead input (Ok tt) loading before now
reading-ends input left after line loading before now r reads = record { rows = r.rows; has = now; loads = r.loads; ends = (at_end input left after line r.rows reads r.reads, refl) }
  where
    at_end : (input left after : Option (List ℕ)) (line : List ℕ) (rows : List Operation) → ReadsLine most_row left false line after → HasRead input rows left
        → IfSome input (λ all. (rows ≡ rows_of (lines_of all)) × (are_rows (lines_of all) ≡ true))
    at_end None left after line rows reads has = tt
    at_end (Some all) None after line rows reads (text, is, rest, good) = absurd (not_none is)
      where
        not_none : None ≡ Some text → ⊥
        not_none h = cc
    at_end (Some all) (Some left) after line rows reads (text, is, rest, good) =
        let none : lines_of text ≡ [] = let same : left ≡ text = cc in ap lines_of (sym same) ∙ reads in
        (sym (rest ∙ ap (λ (ls : List (List ℕ)). rows ++ rows_of ls) none ∙ append-nil rows), good ∙ ap are_rows none)

-- a line that is no row
pub reading-stops : (input left : Option (List ℕ)) (fault : ProgramError) (loading : Loading) (before now : StoreView) → IsReading input left loading before now
    → BeginsNoRow left → reason_of fault ≡ mistake → AreRead input (Err fault) loading before now
reading-stops input left fault loading before now r none is = record {
  rows = r.rows;
  has = now;
  loads = r.loads;
  ends = subst (λ (reason : Reason). EndsReadingFor reason input r.rows loading now now) (sym is) (at_line input left r.rows none r.reads, refl);
}
  where
    at_line : (input left : Option (List ℕ)) (rows : List Operation) → BeginsNoRow left → HasRead input rows left
        → IfSome input (λ all. (rows ≡ rows_of (lines_of all)) × (are_rows (lines_of all) ≡ false))
    at_line None left rows none has = tt
    at_line (Some all) None rows none (text, is, rest, good) = absurd (not_none is)
      where
        not_none : None ≡ Some text → ⊥
        not_none h = cc
    at_line (Some all) (Some left) rows (line, behind, lines, said) (text, is, rest, good) =
        let same : left ≡ text = cc in
        let first : lines_of text ≡ line ∷ lines_of behind = ap lines_of (sym same) ∙ lines in (
          sym (rest ∙ ap (λ (ls : List (List ℕ)). rows ++ rows_of ls) first ∙ ap (λ (o : Option Operation). rows ++ with_row o (rows_of (lines_of behind))) said ∙ append-nil rows),
          good ∙ ap are_rows first ∙ ap (λ (o : Option Operation). is_some o && are_rows (lines_of behind)) said,
        )

-- no memory, or too many rows
pub reading-short : (input left : Option (List ℕ)) (fault : ProgramError) (e : Refusal) (loading : Loading) (before now : StoreView) → IsReading input left loading before now
    → reason_of fault ≡ refusal e → IsShort input e → AreRead input (Err fault) loading before now
reading-short input left fault e loading before now r is short = record {
  rows = r.rows;
  has = now;
  loads = r.loads;
  ends = subst (λ (reason : Reason). EndsReadingFor reason input r.rows loading now now) (sym is) (begins_rows input left r.rows r.reads, inr (short, refl));
}

-- an input that can't be read
pub reading-unreadable : (input left : Option (List ℕ)) (fault : ProgramError) (loading : Loading) (before now : StoreView) → IsReading input left loading before now
    → reason_of fault ≡ unread → AreRead input (Err fault) loading before now
reading-unreadable input left fault loading before now r is = record {
  rows = r.rows;
  has = now;
  loads = r.loads;
  ends = subst (λ (reason : Reason). EndsReadingFor reason input r.rows loading now now) (sym is) (begins_rows input left r.rows r.reads, refl);
}

-- a row that was not taken
pub reading-not_taken : (input left : Option (List ℕ)) (fault : ProgramError) (e : Refusal) (old new : Loading) (before now next : StoreView) → IsReading input left old before now
    → reason_of fault ≡ refusal e → TakesNot old now e new next → AreRead input (Err fault) new before next
reading-not_taken input left fault e old new before now next r is (inl (short, stays)) =
    reading-short input left fault e new before next (record { rows = r.rows; loads = stays before r.rows r.loads; reads = r.reads }) is (inl short)
reading-not_taken input left fault e old new before now next r is (inr (same, refused)) = record {
  rows = r.rows;
  has = now;
  loads = not_fit old new now same before r.rows r.loads;
  ends = subst (λ (reason : Reason). EndsReadingFor reason input r.rows new now next) (sym is)
      (begins_rows input left r.rows r.reads, inl (subst (λ (l : Loading). AddsNot (rows_waiting l.batch) now e next) (sym same) refused));
}

-- ---- the whole

-- the rows that were read begin those of the input
ends-begin : (input : Option (List ℕ)) (ended : Result (Unit {0}) ProgramError) (rows : List Operation) (loading : Loading) (has after : StoreView)
    → EndsReading ended input rows loading has after → AreFirstRows input rows
ends-begin input (Ok done) rows loading has after (are, same) = whole-begins input true rows are
ends-begin input (Err fault) rows loading has after ends = by (reason_of fault) ends
  where
    by : (reason : Reason) → EndsReadingFor reason input rows loading has after → AreFirstRows input rows
    by mistake (are, same) = whole-begins input false rows are
    by (refusal e) (begins, stops) = begins
    by (unopened cause) none = absurd none
    by unread (begins, same) = begins
    by unwritten none = absurd none

-- some of them do
put-some : (all rows put waiting : List Operation) → rows ≡ put ++ waiting → BeginsWith all rows → BeginsWith all put
put-some all rows put waiting is (rest, begins) = (waiting ++ rest, begins ∙ ap (λ (l : List Operation). l ++ rest) is ∙ append_assoc put waiting rest)

ends-some : (input : Option (List ℕ)) (rows put waiting : List Operation) → rows ≡ put ++ waiting → AreFirstRows input rows → AreFirstRows input put
ends-some None rows put waiting is begins = tt
ends-some (Some all) rows put waiting is begins = put-some (rows_of (lines_of all)) rows put waiting is begins

-- what is in a store that ended so
ends-map : (ended : Result (Unit {0}) ProgramError) (input : Option (List ℕ)) (rows : List Operation) (has after : StoreView) → EndsWith ended input rows has after → map_in after ≡ map_in has
ends-map (Ok done) input rows has after (are, same) = ap map_in same
ends-map (Err fault) input rows has after ends = by (reason_of fault) ends
  where
    by : (reason : Reason) → EndsFor reason input rows has after → map_in after ≡ map_in has
    by mistake (are, same) = ap map_in same
    by (refusal e) (begins, inl (batch, first, refused)) = let keeps = adds_not-keeps batch e has after refused in keeps.map
    by (refusal e) (begins, inr (short, same)) = ap map_in same
    by (unopened cause) none = absurd none
    by unread (begins, same) = ap map_in same
    by unwritten none = absurd none

-- rows that were put, up to this end
put : (input : Option (List ℕ)) (ended : Result (Unit {0}) ProgramError) (loading : Loading) (rows : List Operation) (batches : ℕ) (before has after : StoreView)
    → PutsRows batches rows before has → loading.loaded ≡ length rows → EndsWith ended input rows has after → ArePut input ended loading before after
put input ended loading rows batches before has after puts counted ends = record {
  loads = record {
    rows = rows;
    batches = batches;
    has = has;
    puts = puts;
    ends = ends;
    map = ends-map ended input rows has after ends ∙ puts_rows-map batches rows before has puts;
  };
  number = counted;
}

-- an end that is no refusal, where those that waited are put
ends-put : (input : Option (List ℕ)) (ended : Result (Unit {0}) ProgramError) (rows : List Operation) (loading : Loading) (has after next : StoreView) → is_refused ended ≡ false
    → EndsReading ended input rows loading has after → EndsWith ended input rows next next
ends-put input (Ok done) rows loading has after next other (are, same) = (are, refl)
ends-put input (Err (Usage usage)) rows loading has after next other (are, same) = (are, refl)
ends-put input (Err (Refused e)) rows loading has after next other ends = absurd (true≢false other)
ends-put input (Err (Failed failure)) rows loading has after next other ends = absurd (true≢false other)
ends-put input (Err (Unopened cause)) rows loading has after next other ends = absurd ends
ends-put input (Err (InputFault error)) rows loading has after next other (begins, same) = (begins, refl)
ends-put input (Err (OutputFault error)) rows loading has after next other ends = absurd ends

-- the store has not changed after the last of them
ends-same : (input : Option (List ℕ)) (ended : Result (Unit {0}) ProgramError) (rows : List Operation) (loading : Loading) (has after : StoreView) → is_refused ended ≡ false
    → EndsReading ended input rows loading has after → after ≡ has
ends-same input (Ok done) rows loading has after other (are, same) = same
ends-same input (Err (Usage usage)) rows loading has after other (are, same) = same
ends-same input (Err (Refused e)) rows loading has after other ends = absurd (true≢false other)
ends-same input (Err (Failed failure)) rows loading has after other ends = absurd (true≢false other)
ends-same input (Err (Unopened cause)) rows loading has after other ends = absurd ends
ends-same input (Err (InputFault error)) rows loading has after other (begins, same) = same
ends-same input (Err (OutputFault error)) rows loading has after other ends = absurd ends

-- how far it is then
loads-then : (input : Option (List ℕ)) (ended : Result (Unit {0}) ProgramError) (loading : Loading) (before now : StoreView) → is_refused ended ≡ false
    → (r : AreRead input ended loading before now) → IsLoading before r.rows loading now
loads-then input ended loading before now other r =
    subst (λ (s : StoreView). IsLoading before r.rows loading s) (sym (ends-same input ended r.rows loading r.has now other r.ends)) r.loads

-- those that were read were put, where the rest of them was committed
pub put-read : (input : Option (List ℕ)) (ended : Result (Unit {0}) ProgramError) (loading new : Loading) (before now next : StoreView) → is_refused ended ≡ false
    → AreRead input ended loading before now → CommitsWaiting loading now new next → ArePut input ended new before next
put-read input ended loading new before now next other r commits =
    let done = commits.1 before r.rows (loads-then input ended loading before now other r) in
    let none : done.put ++ rows_waiting new.batch ≡ done.put = ap (λ (x : Loading). done.put ++ rows_waiting x.batch) commits.0 ∙ append-nil done.put in
    let all : done.put ≡ r.rows = sym (done.all ∙ none) in
    put input ended new r.rows done.batches before next next (subst (λ (rows : List Operation). PutsRows done.batches rows before next) all done.puts)
    (done.loaded ∙ ap (λ (rows : List Operation). length rows) all) (ends-put input ended r.rows loading r.has now next other r.ends)

-- and where it was not, some of them
pub put-refused : (input : Option (List ℕ)) (ended : Result (Unit {0}) ProgramError) (fault : ProgramError) (e : Refusal) (loading new : Loading) (before now next : StoreView)
    → is_refused ended ≡ false → AreRead input ended loading before now → reason_of fault ≡ refusal e → WaitingRefused loading now e new next
    → ArePut input (Err fault) new before next
put-refused input ended fault e loading new before now next other r is (same, refused) =
    let l = loads-then input ended loading before now other r in
    let first = ends-begin input ended r.rows loading r.has now r.ends in
    put input (Err fault) new l.put l.batches before now next l.puts (ap (λ (x : Loading). x.loaded) same ∙ l.loaded)
    (subst (λ (reason : Reason). EndsFor reason input l.put now next) (sym is) (
      ends-some input r.rows l.put (rows_waiting loading.batch) l.all first,
      inl (rows_waiting loading.batch, subst (AreFirstRows input) l.all first, refused),
    ))

-- what a reading that was refused has put
put-from_reading : (input : Option (List ℕ)) (fault : ProgramError) (e : Refusal) (loading : Loading) (before now : StoreView) → (r : AreRead input (Err fault) loading before now)
    → EndsReadingFor (refusal e) input r.rows loading r.has now → (EndsFor (refusal e) input r.loads.put r.has now → EndsWith (Err fault) input r.loads.put r.has now)
    → ArePut input (Err fault) loading before now
put-from_reading input fault e loading before now r ends is =
    let l = r.loads in
    put input (Err fault) loading l.put l.batches before r.has now l.puts l.loaded (is (
      ends-some input r.rows l.put (rows_waiting loading.batch) l.all ends.0,
      by ends.1,
    ))
  where
    by : StopsReading input loading r.has e now → StopsAt input r.loads.put r.has e now
    by (inl refused) = inl (rows_waiting loading.batch, subst (AreFirstRows input) r.loads.all ends.0, refused)
    by (inr short) = inr short

pub put-if_refused : (input : Option (List ℕ)) (ended : Result (Unit {0}) ProgramError) (loading : Loading) (before now : StoreView) → is_refused ended ≡ true
    → AreRead input ended loading before now → ArePut input ended loading before now
put-if_refused input (Err (Refused e)) loading before now is r = put-from_reading input (Refused e) e loading before now r r.ends (λ ends. ends)
put-if_refused input (Err (Failed failure)) loading before now is r = put-from_reading input (Failed failure) failure.refusal loading before now r r.ends (λ ends. ends)
put-if_refused input (Ok done) loading before now is r = absurd (true≢false (sym is))
put-if_refused input (Err (Usage usage)) loading before now is r = absurd (true≢false (sym is))
put-if_refused input (Err (Unopened cause)) loading before now is r = absurd (true≢false (sym is))
put-if_refused input (Err (InputFault error)) loading before now is r = absurd (true≢false (sym is))
put-if_refused input (Err (OutputFault error)) loading before now is r = absurd (true≢false (sym is))

-- ---- the sync

pub loaded-synced : (input : Option (List ℕ)) (loaded : Loaded) (loading : Loading) (before now after : StoreView) → ArePut input loaded.ended loading before now
    → loaded.rows ≡ loading.loaded → Serves now Sync Done after → IsLoaded input loaded before after
loaded-synced input loaded loading before now after put is serves = record { between = now; loads = put.loads; number = is ∙ put.number; syncs = serves }

-- or it is refused
pub refuses_synced : (input : Option (List ℕ)) (ended : Result (Unit {0}) ProgramError) (loading : Loading) (before now after : StoreView) (e : Refusal) → ArePut input ended loading before now
    → Serves now Sync (RefusedSo e) after → RefusesLastSync input before e
refuses_synced input ended loading before now after e put serves =
    record { ended = ended; between = now; loads = put.loads; refused = refuses Sync now after e serves }

-- ---- the answer

-- a store that was kept up before
loaded_behind : (input : Option (List ℕ)) (loaded : Loaded) (before kept after : StoreView) → IsKeptUp before kept → KeepsMap before kept → IsLoaded input loaded kept after
    → KeepsAndLoads input loaded before after
loaded_behind input loaded before kept after keeps same l =
    let synced : map_in after ≡ map_in l.between = ap (λ (s : State). present_map s.points) l.syncs.state in
    record { kept = kept; keeps = keeps; loads = l; map = synced ∙ l.loads.map ∙ ap (λ (m : Map). apply m l.loads.rows) same.map }

pub loads_behind : (input : Option (List ℕ)) (r : Result Loaded Refusal) (before kept after : StoreView) → IsKeptUp before kept → KeepsMap before kept
    → IfOk r (λ loaded. IsLoaded input loaded kept after) → IfOk r (λ loaded. KeepsAndLoads input loaded before after)
loads_behind input (Ok loaded) before kept after keeps same loads = loaded_behind input loaded before kept after keeps same loads
loads_behind input (Err e) before kept after keeps same loads = tt

-- or the sync after them failed
pub refuses_behind : (input : Option (List ℕ)) (r : Result Loaded Refusal) (before kept : StoreView) → IsKeptUp before kept → IfErr r (RefusesLastSync input kept)
    → IfErr r (RefusesToLoad input before)
refuses_behind input (Ok loaded) before kept keeps refused = tt
refuses_behind input (Err e) before kept keeps refused = record { kept = kept; keeps = keeps; refused = refused }

-- all rows of the input
pub has_loaded : (input : Option (List ℕ)) (loaded : Loaded) (before after : StoreView) (output : Output) → KeepsAndLoads input loaded before after → loaded.ended ≡ Ok tt
    → output ≡ LoadedRows loaded.rows → HasLoaded input before after output
has_loaded input loaded before after output l is told = record { loaded = loaded; loads = l; whole = is; told = told }

-- or not all of them, up to a fault
pub tells_loaded : (input lines output output_after : Option (List ℕ)) (loaded : Loaded) (fault : ProgramError) (told : Reason) (store after : StoreView) → WasOpened store → lines ≡ input
    → KeepsAndLoads lines loaded store after → loaded.ended ≡ Err fault → TellsNumber loaded.rows (reason_of fault) told output output_after
    → TellsLoaded input told output output_after
tells_loaded input lines output output_after loaded fault told store after opened same l is tells =
    inr record {
      store = store;
      after = after;
      loaded = loaded;
      fault = fault;
      opened = opened;
      loads = subst (λ (i : Option (List ℕ)). KeepsAndLoads i loaded store after) same l;
      ends = is;
      tells = tells;
    }

-- or it was refused: no store was opened
pub tells_unopened : (input output : Option (List ℕ)) (reason : Reason) → IsRefusalBy IsOpeningRefusal reason → TellsLoaded input reason output output
tells_unopened input output reason is = inl (not_opened (RefusesToLoad input) reason is, refl)

-- or one was
pub tells_refused : (input lines output : Option (List ℕ)) (reason : Reason) (e : Refusal) (store : StoreView) → reason ≡ refusal e → WasOpened store → lines ≡ input
    → RefusesToLoad lines store e → TellsLoaded input reason output output
tells_refused input lines output reason e store is opened same refused =
    inl (
      told_as (IsRefusedOpened (RefusesToLoad input)) e reason is
          (opened_refused (RefusesToLoad input) store e opened (subst (λ (i : Option (List ℕ)). RefusesToLoad i store e) same refused)),
      refl,
    )

-- what came of a loading, whose store is closed
pub loaded_answers : (input lines output output_after : Option (List ℕ)) (loaded : Loaded) (store after : StoreView) (result : Result Answer ProgramError) → WasOpened store → lines ≡ input
    → KeepsAndLoads lines loaded store after
    → IfOk result (λ answer. (loaded.ended ≡ Ok tt) × (answer.output ≡ LoadedRows loaded.rows) × Hands answer.file after.device × (output_after ≡ output))
    → IfOk result (λ answer. OfOpened (HasLoaded input) answer × (output_after ≡ output))
loaded_answers input lines output output_after loaded store after (Err fault) opened same l ends = tt
loaded_answers input lines output output_after loaded store after (Ok answer) opened same l (is, told, hands, kept) = (
  record {
    store = store;
    after = after;
    opened = opened;
    tells = has_loaded input loaded store after answer.output (subst (λ (i : Option (List ℕ)). KeepsAndLoads i loaded store after) same l) is told;
    hands = hands;
  },
  kept,
)

pub loaded_tells : (input lines output output_after : Option (List ℕ)) (loaded : Loaded) (store after : StoreView) (result : Result Answer ProgramError) → WasOpened store → lines ≡ input
    → KeepsAndLoads lines loaded store after
    → IfErr result (λ e. (fault : ProgramError) × (loaded.ended ≡ Err fault) × TellsNumber loaded.rows (reason_of fault) (reason_of e) output output_after)
    → IfErr result (λ e. TellsLoaded input (reason_of e) output output_after)
loaded_tells input lines output output_after loaded store after (Ok answer) opened same l ends = tt
loaded_tells input lines output output_after loaded store after (Err e) opened same l (fault, is, tells) =
    tells_loaded input lines output output_after loaded fault (reason_of e) store after opened same l is tells
