-- What a merge makes takes its outputs at most.
use Rattle.std.proofs.Common.{◌≡◌, ◌⊎◌, ℕ, zero, suc, ◌<◌, ◌≤◌, Bool, true, false, not, ◌&&◌, List, [], ◌∷◌, ◌++◌, length, slice_index_or, Option, Some, None, append-nil, refl, sym, ap, subst, ◌∙◌, arith, inl, inr}
use Rattle.std.specs.List.{AllByRecursion}
use Rattle.lsm_codec.specs.Keys.{Bytes}
use Rattle.lsm_codec.specs.Versions.{AreOrdered}
use Rattle.lsm_codec.proofs.Lists.{all_left, all_right, all_map}
use Rattle.lsm_levels.specs.Tables.{Table, KeyRange, IsRun, hull, meeting, meets, versions_of}
use Rattle.lsm_extent.specs.Area.{Area}
use Rattle.lsm_extent.specs.Gaps.{SurelyFit}
use Rattle.lsm_levels.specs.Choices.{chosen}
use Rattle.lsm_levels.specs.Levels.{Levels, level, all_tables}
use Rattle.lsm_levels.specs.declared.choosing.Choice.{Choice}
use Rattle.lsm_levels.proofs.ChoiceLaws.{choice_law, chosen_merges}
use Rattle.lsm_levels.proofs.PickLaws.{some_job}
use Rattle.lsm_levels.specs.Held.{HasItsTables, IsHeld, AreRuns, IsUpper}
use Rattle.lsm_levels.specs.Pick.{Job, Merge, is_bottom, is_flush}
use Rattle.lsm_levels.proofs.Runs.{run_at, run_filter, table_order, upper_there}
use Rattle.lsm_levels.proofs.RunOrders.{run_ordered}
use Rattle.lsm_room.specs.Outputs.{StandsDivided, MakesAtMost, FindsRoom, TakeAtMost}
use Rattle.lsm_room.specs.Measuring.{IsRaised, AreRaised, AreSizes, AreEnough, AreEnoughAt, AreEnoughOver, AreMerged, AreOfKept, HaveSizes, no_sizes}
use Rattle.lsm_room.specs.declared.bounds.Outputs.{Outputs}
use Rattle.lsm_room.specs.declared.bounds.Sizes.{Sizes}
use Rattle.lsm_room.proofs.Measures.{reached, some_blocks}

in_order : (sectors : List (List ℕ)) (from : ℕ) (run : List Table) → IsRun run → AllByRecursion (StandsDivided sectors from) run → AreOrdered (versions_of run)
in_order sectors from run is stand = run_ordered sectors from run is (all_map (λ t (s : StandsDivided sectors from t). s.stored) run stand)

none_below : (sectors : List (List ℕ)) (from : ℕ) (tables : List Table) (sizes : Sizes) → HaveSizes sectors from tables sizes → sizes.«data» ≡ 0 → tables ≡ []
none_below sectors from [] sizes have none = refl
none_below sectors from (t ∷ tables) sizes have none =
    let r = reached sectors from (t ∷ tables) no_sizes sizes have.stand have.are in
    absurd (omega (arith, none, r.blocks (omega (arith, none)), some_blocks sectors from t tables have.stand))

drops_both : (live bottom : Bool) → (not live && bottom) ≡ true → (live ≡ false) × (bottom ≡ true)
drops_both false bottom is = (refl, is)
drops_both true bottom is = absurd (let clash : false ≡ true = is in cc)

-- a merge of upper tables with those below
pub merge_takes : (levels : Levels) (live : Bool) (i : ℕ) (uppers lowers : List Table) (drops bottom : Bool) (outputs : Outputs) → drops ≡ (not live && is_bottom levels (Merge i uppers lowers)) → AreMerged live drops uppers lowers outputs
    → HasItsTables levels bottom i uppers lowers → outputs.blocks < 4294967296 → MakesAtMost levels live (Merge i uppers lowers) [] outputs.blocks outputs.largest
merge_takes levels live i uppers lowers drops bottom outputs drops_is are held low sectors from cuts images stand c made =
    by are.enough
  where
    have_u : HaveSizes sectors from uppers are.upper
    have_u = record { stand = all_left (StandsDivided sectors from) uppers lowers stand; are = are.upper_sizes }

    have_l : HaveSizes sectors from lowers are.lower
    have_l = record { stand = all_right (StandsDivided sectors from) uppers lowers stand; are = are.lower_sizes }

    of_kept : AreOfKept cuts (is_bottom levels (Merge i uppers lowers)) (versions_of (uppers ++ lowers)) images
    of_kept = record { tables = made.tables; each = made.each }

    by : AreEnoughOver live drops are.upper are.lower outputs ⊎ ((are.lower.«data» ≡ 0) × (AreEnough live are.upper outputs × IsRun uppers)) → TakeAtMost outputs.blocks outputs.largest images
    by (inl over) =
        over low sectors from uppers lowers have_u have_l (in_order sectors from lowers held.lower_run have_l.stand) cuts (is_bottom levels (Merge i uppers lowers)) images c
        (λ is. drops_both live (is_bottom levels (Merge i uppers lowers)) (sym drops_is ∙ is)) of_kept
    by (inr (none, (enough, run))) =
        let alone : uppers ++ lowers ≡ uppers = ap (λ (ts : List Table). uppers ++ ts) (none_below sectors from lowers are.lower have_l none) ∙ append-nil uppers in
        enough low sectors from uppers have_u (in_order sectors from uppers run have_u.stand) cuts (is_bottom levels (Merge i uppers lowers)) images c
        (subst (λ (ts : List Table). AreOfKept cuts (is_bottom levels (Merge i uppers lowers)) (versions_of ts) images) alone of_kept)

-- a rewrite
pub rewrite_takes : (levels : Levels) (live : Bool) (i : ℕ) (tables : List Table) (sizes : Sizes) (bottom : Bool) (outputs : Outputs) → AreSizes tables sizes → AreEnough live sizes outputs → HasItsTables levels bottom i [] tables
    → outputs.blocks < 4294967296 → MakesAtMost levels live (Merge i [] tables) [] outputs.blocks outputs.largest
rewrite_takes levels live i tables sizes bottom outputs are enough held low sectors from cuts images stand c made =
    enough low sectors from tables (record { stand = stand; are = are }) (in_order sectors from tables held.lower_run stand) cuts (is_bottom levels (Merge i [] tables)) images c (record { tables = made.tables; each = made.each })

-- the same of a job that is one
pub merge_makes : (levels : Levels) (live : Bool) (job : Job) (i : ℕ) (uppers lowers : List Table) (drops : Bool) (outputs : Outputs) → job ≡ Merge i uppers lowers → drops ≡ (not live && is_bottom levels job)
    → (HasItsTables levels (is_bottom levels (Merge i uppers lowers)) i uppers lowers → AreMerged live drops uppers lowers outputs)
    → outputs.blocks < 4294967296 → IsHeld levels (is_bottom levels job) job → is_flush job ≡ false → MakesAtMost levels live job [] outputs.blocks outputs.largest
merge_makes levels live job i uppers lowers drops outputs is drops_is are =
    subst
    (λ (j : Job). drops ≡ (not live && is_bottom levels j) → outputs.blocks < 4294967296 → IsHeld levels (is_bottom levels j) j → is_flush j ≡ false → MakesAtMost levels live j [] outputs.blocks outputs.largest)
    (sym is)
    (λ d low held none. merge_takes levels live i uppers lowers drops (is_bottom levels (Merge i uppers lowers)) outputs d (are held) held low)
    drops_is

pub rewrite_makes : (levels : Levels) (live : Bool) (job : Job) (i : ℕ) (tables : List Table) (sizes : Sizes) (outputs : Outputs) → job ≡ Merge i [] tables → AreSizes tables sizes → AreEnough live sizes outputs
    → outputs.blocks < 4294967296 → IsHeld levels (is_bottom levels job) job → is_flush job ≡ false → MakesAtMost levels live job [] outputs.blocks outputs.largest
rewrite_makes levels live job i tables sizes outputs is are enough =
    subst
    (λ (j : Job). outputs.blocks < 4294967296 → IsHeld levels (is_bottom levels j) j → is_flush j ≡ false → MakesAtMost levels live j [] outputs.blocks outputs.largest)
    (sym is)
    (λ low held none. rewrite_takes levels live i tables sizes (is_bottom levels (Merge i [] tables)) outputs are enough held low)

-- where there is no lower table, the upper ones are a run
pub enough_of : {Over Alone Run : Type 0} (n : ℕ) → Over ⊎ (n ≡ 0) → (n ≡ 0 → Alone) → Run → Over ⊎ ((n ≡ 0) × (Alone × Run))
enough_of n (inl over) alone run = inl over
enough_of n (inr none) alone run = inr (none, (alone none, run))

-- sizes that begin with none
pub from_none : (tables : List Table) (none sizes : Sizes) → none ≡ no_sizes → AreRaised none tables sizes → AreSizes tables sizes
from_none tables none sizes is are = subst (λ (s : Sizes). AreRaised s tables sizes) is are

pub of_one : (t : Table) (none sizes : Sizes) → none ≡ no_sizes → IsRaised none t sizes → AreSizes (t ∷ []) sizes
of_one t none sizes is raised = (sizes, subst (λ (s : Sizes). IsRaised s t sizes) is raised, refl)

-- ---- where the upper tables are a run

meeting_run : (range : Option KeyRange) (tables : List Table) → IsRun tables → IsRun (meeting range tables)
meeting_run None tables run = tt
meeting_run (Some range) tables run = run_filter (meets range) tables run

pub upper_run : (levels : Levels) → AreRuns levels → (i : ℕ) (upper : List Table) → IsUpper levels i upper → IsRun upper ⊎ (i ≡ 0)
upper_run levels are zero upper is = inr refl
upper_run levels are (suc i) upper is = inl (subst IsRun (sym is) (meeting_run (hull upper) (level levels (suc i)) (run_at levels are i)))

pub one_run : (levels : Levels) → AreRuns levels → (i : ℕ) (t : Table) → IsUpper levels i (t ∷ []) → IsRun (t ∷ [])
one_run levels are i t is = (table_order levels are i t (upper_there levels i (t ∷ []) is t (inl refl)), tt, tt)

pub run_there : (i : ℕ) (Run : Type 0) → Run ⊎ (i ≡ 0) → 0 < i → Run
run_there i Run (inl run) some = run
run_there i Run (inr none) some = absurd (omega (arith, none, some))

-- one run alone
pub all_one : (runs : List (List Table)) (run : List Table) → 1 ≤ length runs → length runs < 2 → run ≡ slice_index_or runs 0 run → IsRun run → IsRun (all_tables runs)
all_one [] run some few is one = absurd (omega (arith, some))
all_one (first ∷ []) run some few is one = subst IsRun (is ∙ sym (append-nil first)) one
all_one (first ∷ second ∷ rest) run some few is one = absurd (omega (arith, few))

-- ---- a table that is cut

pub no_keys : (keys : List Bytes) → length keys < 1 → keys ≡ []
no_keys [] few = refl
no_keys (key ∷ keys) few = absurd (omega (arith, few))

pub one_key : (keys : List Bytes) (key : Bytes) → 1 ≤ length keys → length keys < 2 → key ≡ slice_index_or keys 0 key → keys ≡ key ∷ []
one_key [] key some few is = absurd (omega (arith, some))
one_key (first ∷ []) key some few is = ap (λ (k : Bytes). k ∷ []) (sym is)
one_key (first ∷ second ∷ keys) key some few is = absurd (omega (arith, few))

-- a rewrite of it
pub cut_makes : (levels : Levels) (live : Bool) (job : Job) (i : ℕ) (t : Table) (keys : List Bytes) (key : Bytes) (outputs : Outputs) → job ≡ Merge i [] (t ∷ []) → keys ≡ key ∷ [] → AreEnoughAt live key t outputs
    → outputs.blocks < 4294967296 → MakesAtMost levels live job keys outputs.blocks outputs.largest
cut_makes levels live job i t keys key outputs is keys_are enough low =
    subst (λ (j : Job). MakesAtMost levels live j keys outputs.blocks outputs.largest) (sym is)
    (subst (λ (ks : List Bytes). MakesAtMost levels live (Merge i [] (t ∷ [])) ks outputs.blocks outputs.largest) (sym keys_are)
    (λ sectors from cuts images stand c made. enough low sectors from stand.0 cuts (is_bottom levels (Merge i [] (t ∷ []))) images c made.tables made.each))

-- ---- room

-- so it finds room
pub finds_room : (area : Area) (levels : Levels) (live : Bool) (job : Job) (keys : List Bytes) (outputs : Outputs) → SurelyFit area outputs.blocks outputs.largest → MakesAtMost levels live job keys outputs.blocks outputs.largest
    → FindsRoom area levels live job keys
finds_room area levels live job keys outputs fit makes sectors from cuts images stand c made =
    let most = makes sectors from cuts images stand c made in
    record { total = outputs.blocks; largest = outputs.largest; fit = fit; each = most.each; all = most.all }

-- what is chosen makes no more than is computed for the pick
pub chosen_makes : (levels : Levels) (live : Bool) (jobs : List Job) (choice : Choice) (pick : Job) (keys : List Bytes) (outputs : Outputs) → AreRuns levels → Some pick ≡ chosen levels jobs choice
    → (outputs.blocks < 4294967296 → IsHeld levels (is_bottom levels pick) pick → is_flush pick ≡ false → MakesAtMost levels live pick keys outputs.blocks outputs.largest)
    → outputs.blocks < 4294967296 → (job : Job) → chosen levels jobs choice ≡ Some job → MakesAtMost levels live job keys outputs.blocks outputs.largest
chosen_makes levels live jobs choice pick keys outputs runs is makes low job chosen_is =
    let may = choice_law levels jobs choice pick runs (sym is) in
    let same : pick ≡ job = some_job pick job (is ∙ chosen_is) in
    subst (λ (j : Job). MakesAtMost levels live j keys outputs.blocks outputs.largest) same (makes low may.held (chosen_merges levels jobs choice pick (sym is)))

-- so it finds room, where it is placed
pub chosen_finds_room : (area : Area) (levels : Levels) (live : Bool) (jobs : List Job) (choice : Choice) (pick : Job) (keys : List Bytes) (outputs : Outputs) → AreRuns levels → Some pick ≡ chosen levels jobs choice
    → (outputs.blocks < 4294967296 → IsHeld levels (is_bottom levels pick) pick → is_flush pick ≡ false → MakesAtMost levels live pick keys outputs.blocks outputs.largest)
    → outputs.blocks < 4294967296 → SurelyFit area outputs.blocks outputs.largest → (job : Job) → chosen levels jobs choice ≡ Some job → FindsRoom area levels live job keys
chosen_finds_room area levels live jobs choice pick keys outputs runs is makes low fit job chosen_is =
    finds_room area levels live job keys outputs fit (chosen_makes levels live jobs choice pick keys outputs runs is makes low job chosen_is)
