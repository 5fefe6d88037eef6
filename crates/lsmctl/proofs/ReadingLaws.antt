-- How a reading of rows goes on where it counts them, and where one of them is refused.
use Rattle.std.proofs.Common.{◌≡◌, ◌∙◌, ◌+◌, ◌⊎◌, ℕ, Bool, true, false, List, [], ◌∷◌, length, Option, Some, None, Err, refl, sym, ap, subst, length-append, inl, inr, Ok, true≢false, arith}
use Rattle.lsm_codec.specs.Map.{Operation}
use Rattle.lsm_device.specs.declared.refusal.Refusal.{Refusal}
use Rattle.lsm_device.specs.declared.refusal.Refusal.TheVariants.{Exhausted, NoMemory}
use Rattle.lsm_language.specs.declared.program_error.ProgramError.{ProgramError}
use Rattle.lsm_language.specs.declared.program_error.ProgramError.TheVariants.{Refused}
use Rattle.lsm_language.specs.Faults.{mistake, refusal, unread, reason_of}
use Rattle.lsm_language.specs.Reading.{ReadsLine}
use Rattle.lsm_language.specs.Rows.{lines_of, most_row, row_said, rows_of}
use Rattle.lsm_language.proofs.RowLaws.{no_row_first, row_whole}
use Rattle.lsm_store.specs.Backing.{StoreView}
use Rattle.lsmctl.specs.declared.loading.Loading.{Loading}
use Rattle.lsmctl.specs.Loading.{AreRead, CommitsWaiting, FitsIf, HasRead, HasTooMany, StaysLoaded, Takes, WaitingRefused}
use Rattle.lsmctl.proofs.LoadingLaws.{IsReading, reading-ends, reading-more, reading-short, reading-stops, reading-unreadable, taken_alone, taken_to}

-- a row more is one more
pub reading-counted : (input left : Option (List ℕ)) (row : Operation) (old new : Loading) (before now next : StoreView) (count : ℕ) → IsReading input left old before now
    → Takes row old now new next → old.read ≡ count → new.read ≡ count + 1
reading-counted input left row old new before now next count r takes is =
    let more = takes before r.rows r.loads in
    more.read ∙ length-append r.rows (row ∷ []) ∙ ap (λ (n : ℕ). n + 1) (sym r.loads.read) ∙ ap (λ (n : ℕ). n + 1) is

-- an input that can't be read, or no memory for a line
pub reading-unread : (input left : Option (List ℕ)) (fault : ProgramError) (loading : Loading) (before now : StoreView) → IsReading input left loading before now
    → (reason_of fault ≡ refusal NoMemory) ⊎ (reason_of fault ≡ unread) → AreRead input (Err fault) loading before now
reading-unread input left fault loading before now r (inl is) = reading-short input left fault NoMemory loading before now r is (inl refl)
reading-unread input left fault loading before now r (inr is) = reading-unreadable input left fault loading before now r is

-- a line that is no row, or no memory for one
pub reading-no_row : (input left after : Option (List ℕ)) (line : List ℕ) (fault : ProgramError) (loading : Loading) (before now : StoreView) → IsReading input left loading before now
    → ReadsLine most_row left true line after → ((reason_of fault ≡ mistake) × (row_said line ≡ None)) ⊎ (reason_of fault ≡ refusal NoMemory) → AreRead input (Err fault) loading before now
reading-no_row input left after line fault loading before now r reads (inl (is, none)) = reading-stops input left fault loading before now r (no_row_first left after line reads none) is
reading-no_row input left after line fault loading before now r reads (inr is) = reading-short input left fault NoMemory loading before now r is (inl refl)

-- the most rows that are read
too_many : (input left : Option (List ℕ)) (rows : List Operation) → length rows ≡ 18446744073709551615 → HasRead input rows left → HasTooMany input
too_many None left rows is has = tt
too_many (Some all) left rows is (text, same, rest, good) =
    let sum : length (rows_of (lines_of all)) ≡ length rows + length (rows_of (lines_of text)) = ap (λ (l : List Operation). length l) rest ∙ length-append rows (rows_of (lines_of text)) in
    omega (arith, sum, is)

pub reading-exhausted : (input left : Option (List ℕ)) (loading : Loading) (before now : StoreView) (count : ℕ) → count ≡ 18446744073709551615 → IsReading input left loading before now
    → loading.read ≡ count → AreRead input (Err (Refused Exhausted)) loading before now
reading-exhausted input left loading before now count all r is =
    reading-short input left (Refused Exhausted) Exhausted loading before now r refl (inr (refl, too_many input left r.rows (sym r.loads.read ∙ is ∙ all) r.reads))

-- ---- a row

-- by what is told of it
pub taken_when : (fits : Bool) (row : Operation) (old new : Loading) (s : StoreView) → fits ≡ true → FitsIf fits row old new → Takes row old s (record new { read = new.read + 1 }) s
taken_when true row old new s is fit = taken_to row old new s fit
taken_when false row old new s is fit = absurd (true≢false (sym is))

alone_when : (row : Operation) (batch : List Operation) (old mid new : Loading) (before after : StoreView) → CommitsWaiting old before mid after → batch ≡ row ∷ []
    → new ≡ record { batch = Some batch; read = mid.read + 1; loaded = mid.loaded } → Takes row old before new after
alone_when row batch old mid new before after done one is =
    taken_alone row old mid new before after done (is ∙ ap (λ (b : List Operation). made b mid) one)
  where
    made : List Operation → Loading → Loading
    made b mid = record { batch = Some b; read = mid.read + 1; loaded = mid.loaded }

-- where it did not go to those that wait, nothing had changed
unfit : (fits : Bool) (row : Operation) (old mid : Loading) → fits ≡ false → FitsIf fits row old mid → mid ≡ old
unfit true row old mid is fit = absurd (true≢false is)
unfit false row old mid is fit = fit

pub alone_unfit : (fits : Bool) (row : Operation) (batch : List Operation) (old mid done new : Loading) (before after : StoreView) → fits ≡ false → FitsIf fits row old mid
    → CommitsWaiting mid before done after → batch ≡ row ∷ [] → new ≡ record { batch = Some batch; read = done.read + 1; loaded = done.loaded } → Takes row old before new after
alone_unfit fits row batch old mid done new before after is fit commits one made =
    subst (λ (l : Loading). Takes row l before new after) (unfit fits row old mid is fit) (alone_when row batch mid done new before after commits one made)

pub stays_unfit : (fits : Bool) (row : Operation) (old mid done : Loading) (before after : StoreView) → fits ≡ false → FitsIf fits row old mid → CommitsWaiting mid before done after
    → StaysLoaded old before done after
stays_unfit fits row old mid done before after is fit commits = subst (λ (l : Loading). StaysLoaded l before done after) (unfit fits row old mid is fit) commits.1

pub refused_unfit : (fits : Bool) (row : Operation) (old mid new : Loading) (before after : StoreView) (e : Refusal) → fits ≡ false → FitsIf fits row old mid
    → WaitingRefused mid before e new after → WaitingRefused old before e new after
refused_unfit fits row old mid new before after e is fit refused = subst (λ (l : Loading). WaitingRefused l before e new after) (unfit fits row old mid is fit) refused

-- ---- a line, by what is told of it

pub ends_when : (more : Bool) (input left after : Option (List ℕ)) (line : List ℕ) (loading : Loading) (before now : StoreView) → more ≡ false → IsReading input left loading before now
    → ReadsLine most_row left more line after → AreRead input (Ok tt) loading before now
ends_when true input left after line loading before now is r reads = absurd (true≢false is)
ends_when false input left after line loading before now is r reads = reading-ends input left after line loading before now r reads

pub more_when : (more : Bool) (input left after : Option (List ℕ)) (line seen : List ℕ) (row : Operation) (old new : Loading) (before now next : StoreView) → more ≡ true → IsReading input left old before now
    → ReadsLine most_row left more line after → seen ≡ line → row_said seen ≡ Some row → Takes row old now new next → IsReading input after new before next
more_when true input left after line seen row old new before now next is r reads same said takes =
    let is_row = ap row_said (sym same) ∙ said in reading-more input left after line row old new before now next r (row_whole left after line row reads is_row) is_row takes
more_when false input left after line seen row old new before now next is r reads same said takes = absurd (true≢false (sym is))

pub no_row_when : (more : Bool) (input left after : Option (List ℕ)) (line seen : List ℕ) (fault : ProgramError) (loading : Loading) (before now : StoreView) → more ≡ true → IsReading input left loading before now
    → ReadsLine most_row left more line after → seen ≡ line → ((reason_of fault ≡ mistake) × (row_said seen ≡ None)) ⊎ (reason_of fault ≡ refusal NoMemory) → AreRead input (Err fault) loading before now
no_row_when true input left after line seen fault loading before now is r reads same why =
    reading-no_row input left after line fault loading before now r reads (subst (λ (l : List ℕ). ((reason_of fault ≡ mistake) × (row_said l ≡ None)) ⊎ (reason_of fault ≡ refusal NoMemory)) same why)
no_row_when false input left after line seen fault loading before now is r reads same why = absurd (true≢false (sym is))
