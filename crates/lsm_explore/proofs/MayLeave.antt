-- What is left of a life, as the batches tell that the code counts.
use Rattle.std.proofs.Common.{◌≡◌, ◌≤◌, ◌<◌, ◌^◌, ◌⊎◌, inl, inr, ℕ, zero, suc, ◌+◌, ◌-◌, Bool, true, Result, Ok, Err, List, [], ◌∷◌, ◌++◌, length, take, drop, Option, None, Some, slice_get, refl, ap, sym, subst, ◌∙◌, arith}
use Rattle.std.proofs.Math.Nat.{add-zero}
use Rattle.std.proofs.lemmas.List.{append-nil, take_all, take-append-le, length-append, length-map, length-take-le, length-drop}
use Rattle.lsm_root.proofs.Beginnings.{apply_all-append, take_sum}
use Rattle.std.specs.Prelude.{IsNone, IsSome}
use Rattle.std.specs.FinMap as finite
use Rattle.lsm_codec.specs.Map.{Map, Operation, apply, apply_all}
use Rattle.lsm_device.specs.declared.refusal.Refusal.{Refusal}
use Rattle.lsm_device.specs.declared.refusal.Refusal.TheVariants.{NoMemory, Io, Exhausted, Stopped}
use Rattle.lsm_device.specs.Disk.{Disk, image, seen, at_rest}
use Rattle.lsm_device.specs.Medium.{Medium, KeepsFuse, disk, crashed}
use Rattle.lsm_device.specs.Outcomes.{Leaves}
use Rattle.lsm_image.specs.Media.{begun}
use Rattle.lsm_root.specs.CrashState.{CrashState, MayRefuseOpening, formatted as empty_store}
use Rattle.lsm_open.specs.Image.{StandFor}
use Rattle.lsm_store.specs.Backing.{StoreView}
use Rattle.lsm_machine.specs.Calls.{Reply}
use Rattle.lsm_machine.specs.Calls.{Commit, CommitIf, Sync, SyncTo, Rotate, Number, Done, Value, Rows, Given, Handed, Refused, Unread, as_told}
use Rattle.lsm_machine.specs.Lives.{IsAfter, IsAnswered, IsPrefixFrom, KeptByLife}
use Rattle.lsm_machine.specs.Machine.{Machine, Step, Called, Worked}
use Rattle.lsm_machine.specs.Run.{Run, next_machine}
use Rattle.lsm_machine.proofs.Steps.{admits_step, step_stays, step_stopped}
use Rattle.lsm_machine.specs.Promise.{accepted, accepted_by, acknowledged, acknowledged_by, acknowledged_from, in_flight, maps_after}
use Rattle.lsm_machine.specs.RecoveryPoints.{batch_count, present_map}
use Rattle.lsm_machine.specs.State.{State}
use Rattle.lsm_machine.specs.Work.{Ask, Accept, Install}
use Rattle.lsm_lives.specs.Asked.{Asked, Told, Own, Build, AcceptBuilt, Replied, Built, result_of, step_in, IsTold, AreTold, told_stopped}
use Rattle.lsm_explore.specs.Expected.{steps_of, replies_of, reply_in, flies_by, last_of, flies_behind, batches_in, least_in, maps_from, MayBeLeft, IsFound}
use Rattle.lsm_lives.specs.Leading.{LifeView, IsLed, LeadsTo, BeginsOn, FailsOn}
use Rattle.lsm_lives.specs.Living.{IsLifeTold, Holds}
use Rattle.lsm_lives.specs.Replaying.{MakesEach}
use Rattle.lsm_lives.proofs.Lifetimes.{at_rest_holds}
use Rattle.lsm_explore.proofs.Generations.{life_within}
use Rattle.lsm_lives.proofs.Lived.{life_led}
use Rattle.lsm_machine.proofs.Lifelong.{promise_over_lives}
use Rattle.lsm_merge.specs.Results.{MergeResult}
use Rattle.lsm_device.specs.declared.calls.Calls.{Calls}

-- ---- what was told, and the replies of the machine

accepted_told : (step : Step) (reply : Reply) → accepted_by step reply ≡ accepted_by step (as_told reply)
accepted_told (Called (Commit batch)) Unread = refl
accepted_told (Called (CommitIf guards batch)) Unread = refl
accepted_told step Unread = refl
accepted_told step reply = refl

acknowledged_told : (opened done known : ℕ) (step : Step) (reply : Reply) → acknowledged_by opened done known step reply ≡ acknowledged_by opened done known step (as_told reply)
acknowledged_told opened done known (Called Sync) Unread = refl
acknowledged_told opened done known (Called (SyncTo number)) Unread = refl
acknowledged_told opened done known (Called Rotate) Unread = refl
acknowledged_told opened done known (Worked (Install job)) Unread = refl
acknowledged_told opened done known step Unread = refl
acknowledged_told opened done known step reply = refl

-- Of what was asked and told the same is accepted and acknowledged as of the machine's own steps and replies.
record IsSame (opened : ℕ) (asked : List Asked) (told : List Told) (steps : List Step) (replies : List Reply) : Type 0 where
  accepts : accepted steps replies ≡ accepted (steps_of asked) (replies_of told)
  acknowledges : (done known : ℕ) → acknowledged_from opened done known steps replies ≡ acknowledged_from opened done known (steps_of asked) (replies_of told)

-- of a step of the store's own
own_more : (opened : ℕ) (step own : Step) (reply its : Reply) (asked : List Asked) (told : List Told) (steps : List Step) (replies : List Reply) → step ≡ own → as_told reply ≡ its
    → IsSame opened asked told steps replies → IsSame opened (Own own ∷ asked) (Replied its ∷ told) (step ∷ steps) (reply ∷ replies)
own_more opened step own reply its asked told steps replies is e same =
    let accepts : accepted_by step reply ≡ accepted_by own its = accepted_told step reply ∙ (λ i. accepted_by (is i) (e i)) in
    let acknowledges : (done known : ℕ) → acknowledged_by opened done known step reply ≡ acknowledged_by opened done known own its = λ done known.
    acknowledged_told opened done known step reply ∙ (λ i. acknowledged_by opened done known (is i) (e i)) in
    record {
      accepts = λ i. accepts i ++ same.accepts i;
      acknowledges = λ done known.
          (λ i. acknowledged_from opened (done + length (accepts i)) (acknowledges done known i) steps replies)
          ∙ same.acknowledges (done + length (accepted_by own its)) (acknowledged_by opened done known own its);
    }

-- of a build, and of an accept of a result by its number, nothing is told that counts
ask_more : (opened job parts : ℕ) (step : Step) (reply : Reply) (answer : Told) (asked : List Asked) (told : List Told) (steps : List Step) (replies : List Reply) → step ≡ Worked (Ask job)
    → IsSame opened asked told steps replies → IsSame opened (Build job parts ∷ asked) (answer ∷ told) (step ∷ steps) (reply ∷ replies)
ask_more opened job parts step reply answer asked told steps replies is same =
    subst (λ (s : Step). IsSame opened (Build job parts ∷ asked) (answer ∷ told) (s ∷ steps) (reply ∷ replies)) (sym is)
    (record { accepts = same.accepts; acknowledges = λ done known. same.acknowledges (done + 0) known })

accept_more : (opened job number : ℕ) (result : Option MergeResult) (step : Step) (reply : Reply) (answer : Told) (asked : List Asked) (told : List Told) (steps : List Step) (replies : List Reply) → step ≡ Worked (Accept job result)
    → IsSame opened asked told steps replies → IsSame opened (AcceptBuilt job number ∷ asked) (answer ∷ told) (step ∷ steps) (reply ∷ replies)
accept_more opened job number result step reply answer asked told steps replies is same =
    subst (λ (s : Step). IsSame opened (AcceptBuilt job number ∷ asked) (answer ∷ told) (s ∷ steps) (reply ∷ replies)) (sym is)
    (record { accepts = same.accepts; acknowledges = λ done known. same.acknowledges (done + 0) known })

none_more : (opened : ℕ) (steps : List Step) (replies : List Reply) → steps ≡ [] → replies ≡ [] → IsSame opened [] [] steps replies
none_more opened steps replies s r =
    subst (λ (l : List Step). IsSame opened [] [] l replies) (sym s) (subst (λ (l : List Reply). IsSame opened [] [] [] l) (sym r)
    (record { accepts = refl; acknowledges = λ done known. refl }))

same_told : (results : List MergeResult) (opened : ℕ) (asked : List Asked) (told : List Told) (steps : List Step) (replies : List Reply) → AreTold results asked told steps replies → IsSame opened asked told steps replies
same_told results opened [] [] steps replies are = none_more opened steps replies are.0 are.1
same_told results opened (Own own ∷ asked) (Replied its ∷ told) (step ∷ steps) (reply ∷ replies) (is, (after, (same, e), rest)) =
    own_more opened step own reply its asked told steps replies is e (same_told after opened asked told steps replies rest)
same_told results opened (Own own ∷ asked) (Built number tables ∷ told) (step ∷ steps) (reply ∷ replies) (is, (after, never, rest)) = absurd never
same_told results opened (Build job parts ∷ asked) (answer ∷ told) (step ∷ steps) (reply ∷ replies) (is, (after, told_is, rest)) =
    ask_more opened job parts step reply answer asked told steps replies is (same_told after opened asked told steps replies rest)
same_told results opened (AcceptBuilt job number ∷ asked) (answer ∷ told) (step ∷ steps) (reply ∷ replies) (is, (after, told_is, rest)) =
    accept_more opened job number (result_of number results) step reply answer asked told steps replies is (same_told after opened asked told steps replies rest)
same_told results opened (first ∷ asked) (answer ∷ told) [] replies are = absurd are
same_told results opened (first ∷ asked) (answer ∷ told) (step ∷ steps) [] are = absurd are
same_told results opened [] (answer ∷ told) steps replies are = absurd are
same_told results opened (first ∷ asked) [] steps replies are = absurd are

-- where each step is told that the store is stopped, nothing is accepted, acknowledged or in flight

nothing_accepted : (step : Step) → accepted_by step (Refused Stopped) ≡ []
nothing_accepted (Called (Commit batch)) = refl
nothing_accepted (Called call) = refl
nothing_accepted (Worked piece) = refl

nothing_acknowledged : (opened done known : ℕ) (step : Step) → acknowledged_by opened done known step (Refused Stopped) ≡ known
nothing_acknowledged opened done known (Called Sync) = refl
nothing_acknowledged opened done known (Called (SyncTo number)) = refl
nothing_acknowledged opened done known (Called Rotate) = refl
nothing_acknowledged opened done known (Called call) = refl
nothing_acknowledged opened done known (Worked (Install job)) = refl
nothing_acknowledged opened done known (Worked piece) = refl

record IsQuiet (asked : List Asked) : Type 0 where
  accepts : accepted (steps_of asked) (replies_of (told_stopped asked)) ≡ []
  acknowledges : (opened done known : ℕ) → acknowledged_from opened done known (steps_of asked) (replies_of (told_stopped asked)) ≡ known

quiet : (asked : List Asked) → IsQuiet asked
quiet [] = record { accepts = refl; acknowledges = λ opened done known. refl }
quiet (first ∷ asked) =
    let step = step_in [] first in
    let rest = quiet asked in
    record {
      accepts = (λ i. nothing_accepted step i ++ rest.accepts i);
      acknowledges = λ opened done known.
          ap (λ (k : ℕ). acknowledged_from opened (done + length (accepted_by step (Refused Stopped))) k (steps_of asked) (replies_of (told_stopped asked))) (nothing_acknowledged opened done known step)
          ∙ rest.acknowledges opened (done + length (accepted_by step (Refused Stopped))) known;
    }

-- ---- the batch in flight

nothing_flies : (step : Step) → flies_by step (Refused Stopped) ≡ []
nothing_flies (Called (Commit batch)) = refl
nothing_flies (Called (CommitIf guards batch)) = refl
nothing_flies step = refl

-- a step that a stopped store was asked for is told nothing that may be in flight
stopped_flies : (results : List MergeResult) (asked : Asked) (told : Told) (reply : Reply) (after : List MergeResult) → IsTold results asked told reply after → reply ≡ Refused Stopped
    → flies_by (step_in [] asked) (reply_in told) ≡ []
stopped_flies results (Own own) (Replied its) reply after (same, e) stopped = ap (flies_by own) (sym e ∙ ap as_told stopped) ∙ nothing_flies own
stopped_flies results (Own own) (Built number tables) reply after told stopped = absurd told
stopped_flies results (Build job parts) told reply after is stopped = refl
stopped_flies results (AcceptBuilt job number) told reply after is stopped = refl

-- so after a fault of a write the batch in flight stays
stays_in_flight : (results : List MergeResult) (m : Machine) (asked : List Asked) (told : List Told) (steps : List Step) (replies : List Reply) → IsSome m.state.stopped → Run m steps replies
    → AreTold results asked told steps replies → (flight : List (List Operation)) → flies_behind flight (steps_of asked) (replies_of told) ≡ flight
stays_in_flight results m [] [] steps replies stopped run are flight = refl
stays_in_flight results m (first ∷ asked) (answer ∷ told) (step ∷ steps) (reply ∷ replies) stopped run (is, (after, told_is, rest)) flight =
    let may = admits_step m step reply run.0 in
    let none = stopped_flies results first answer reply after told_is (step_stopped m step reply stopped may) in
    ap (λ (l : List (List Operation)). flies_behind (last_of flight l) (steps_of asked) (replies_of told)) none
    ∙ stays_in_flight after m asked told steps replies stopped (subst (λ (n : Machine). Run n steps replies) (step_stays m step reply stopped may) run.1) rest flight
stays_in_flight results m (first ∷ asked) (answer ∷ told) [] replies stopped run are flight = absurd are
stays_in_flight results m (first ∷ asked) (answer ∷ told) (step ∷ steps) [] stopped run are flight = absurd are
stays_in_flight results m [] (answer ∷ told) steps replies stopped run are flight = absurd are
stays_in_flight results m (first ∷ asked) [] steps replies stopped run are flight = absurd are

-- The machine has no batch in flight, or the one that is told.
abbrev IsCovered : List (List Operation) → List (List Operation) → Type 0
IsCovered flight told = (flight ≡ []) ⊎ (flight ≡ told)

-- by one step of the store's own, whatever is told of those after it
own_covered : (m : Machine) (step : Step) (reply : Reply) (steps : List Step) (replies : List Reply) (own_steps : List Step) (told : List Reply)
    → ((before : List (List Operation)) → IsCovered (in_flight steps replies) (flies_behind before own_steps told))
    → (IsSome (next_machine m step reply).state.stopped → (before : List (List Operation)) → flies_behind before own_steps told ≡ before)
    → (before : List (List Operation)) → IsCovered (in_flight (step ∷ steps) (reply ∷ replies)) (flies_behind before (step ∷ own_steps) (as_told reply ∷ told))
own_covered m (Called (Commit batch)) (Refused Io) steps replies own_steps told rest still before = inr (sym (still refl (batch ∷ [])))
own_covered m (Called (CommitIf guards batch)) (Refused Io) steps replies own_steps told rest still before = inr (sym (still refl (batch ∷ [])))
own_covered m (Called (Commit batch)) Unread steps replies own_steps told rest still before = rest (batch ∷ [])
own_covered m (Called (CommitIf guards batch)) Unread steps replies own_steps told rest still before = rest (batch ∷ [])
own_covered m (Called (Commit batch)) reply steps replies own_steps told rest still before = rest before
own_covered m (Called (CommitIf guards batch)) reply steps replies own_steps told rest still before = rest before
own_covered m step Unread steps replies own_steps told rest still before = rest before
own_covered m step reply steps replies own_steps told rest still before = rest before

covered : (results : List MergeResult) (m : Machine) (asked : List Asked) (told : List Told) (steps : List Step) (replies : List Reply) → Run m steps replies → AreTold results asked told steps replies
    → (before : List (List Operation)) → IsCovered (in_flight steps replies) (flies_behind before (steps_of asked) (replies_of told))
covered results m [] [] steps replies run are before = inl ((λ i. in_flight (are.0 i) (are.1 i)))
covered results m (Own own ∷ asked) (Replied its ∷ told) (step ∷ steps) (reply ∷ replies) run (is, (after, (same, e), rest)) before =
    subst (λ (s : Step). IsCovered (in_flight (step ∷ steps) (reply ∷ replies)) (flies_behind before (s ∷ steps_of asked) (its ∷ replies_of told))) is
    (subst (λ (r : Reply). IsCovered (in_flight (step ∷ steps) (reply ∷ replies)) (flies_behind before (step ∷ steps_of asked) (r ∷ replies_of told))) e
    (own_covered m step reply steps replies (steps_of asked) (replies_of told) (covered after (next_machine m step reply) asked told steps replies run.1 rest)
    (λ stopped. stays_in_flight after (next_machine m step reply) asked told steps replies stopped run.1 rest) before))
covered results m (Own own ∷ asked) (Built number tables ∷ told) (step ∷ steps) (reply ∷ replies) run (is, (after, never, rest)) before = absurd never
covered results m (Build job parts ∷ asked) (answer ∷ told) (step ∷ steps) (reply ∷ replies) run (is, (after, told_is, rest)) before =
    subst (λ (s : Step). IsCovered (in_flight (s ∷ steps) (reply ∷ replies)) (flies_behind before (steps_of asked) (replies_of told))) (sym is)
    (covered after (next_machine m step reply) asked told steps replies run.1 rest before)
covered results m (AcceptBuilt job number ∷ asked) (answer ∷ told) (step ∷ steps) (reply ∷ replies) run (is, (after, told_is, rest)) before =
    subst (λ (s : Step). IsCovered (in_flight (s ∷ steps) (reply ∷ replies)) (flies_behind before (steps_of asked) (replies_of told))) (sym is)
    (covered after (next_machine m step reply) asked told steps replies run.1 rest before)
covered results m (first ∷ asked) (answer ∷ told) [] replies run are before = absurd are
covered results m (first ∷ asked) (answer ∷ told) (step ∷ steps) [] run are before = absurd are
covered results m [] (answer ∷ told) steps replies run are before = absurd are
covered results m (first ∷ asked) [] steps replies run are before = absurd are

-- a beginning of what is covered is one of what covers it
covered_beginning : (least : ℕ) (done flight told kept : List (List Operation)) → IsCovered flight told → IsPrefixFrom least (done ++ flight) kept → IsPrefixFrom least (done ++ told) kept
covered_beginning least done flight told kept (inr same) is = subst (λ (l : List (List Operation)). IsPrefixFrom least (done ++ l) kept) same is
covered_beginning least done flight told kept (inl none) is =
    let bare : done ++ flight ≡ done = ap (λ (l : List (List Operation)). done ++ l) none ∙ append-nil done in
    let within : is.holds ≤ length done = omega (arith, is.among, ap length bare) in
    record {
      holds = is.holds;
      at_least = is.at_least;
      among = omega (arith, within, length-append done told);
      is = is.is ∙ ap (take is.holds) bare ∙ sym (take-append-le is.holds done told within);
    }

-- ---- a life on sectors that stand for the map after some batches

-- what it leaves, in the words of the machine
pub record IsKept (log_sectors : ℕ) (opened : CrashState) (before : List (List Operation)) (asked : List Asked) (told : List Told) (sectors : List (List ℕ)) : Type 0 where
  pub steps : List Step
  pub replies : List Reply
  pub is_told : IsLifeTold asked told steps replies
  pub machine : Machine
  pub answered : IsAnswered log_sectors opened machine steps replies
  pub kept : List (List Operation)
  pub keeps : KeptByLife before steps replies kept
  pub left : CrashState
  pub after : IsAfter kept left
  pub stands : StandFor log_sectors left sectors
  pub generation : left.generation ≤ opened.generation + 1 + length asked

-- as many steps as were asked
told_length : (results : List MergeResult) (asked : List Asked) (told : List Told) (steps : List Step) (replies : List Reply) → AreTold results asked told steps replies → length steps ≡ length asked
told_length results [] [] steps replies are = ap length are.0
told_length results (first ∷ asked) (answer ∷ told) (step ∷ steps) (reply ∷ replies) (is, (after, told_is, rest)) = ap suc (told_length after asked told steps replies rest)
told_length results (first ∷ asked) (answer ∷ told) [] replies are = absurd are
told_length results (first ∷ asked) (answer ∷ told) (step ∷ steps) [] are = absurd are
told_length results [] (answer ∷ told) steps replies are = absurd are
told_length results (first ∷ asked) [] steps replies are = absurd are

life_length : (asked : List Asked) (told : List Told) (steps : List Step) (replies : List Reply) → IsLifeTold asked told steps replies → length steps ≡ length asked
life_length asked (Replied first ∷ told) steps (reply ∷ replies) (is, are) = told_length [] asked told steps replies are
life_length asked (Replied first ∷ told) steps [] is = absurd is
life_length asked (Built number tables ∷ told) steps replies is = absurd is
life_length asked [] steps replies is = absurd is

-- a fuse bounds nothing where none is set
no_fuse : (calls : Calls) → KeepsFuse None calls
no_fuse calls = record { at_most = λ n is. absurd (cc is) }

module _ (log_sectors : ℕ) (before : List (List Operation)) (opened : CrashState) (was : IsAfter before opened) (sectors : List (List ℕ)) (stands : StandFor log_sectors opened sectors) where
  pub kept_by_life : (fuse : Option ℕ) (asked : List Asked) (told : List Told) (end : Medium) → IsLed (begun sectors fuse) asked told end → (mask : List Bool)
      → IsKept log_sectors opened before asked told (image mask (disk end))
  kept_by_life fuse asked told end led mask =
      let life : LifeView = record { fuse = None; steps = asked; mask = mask } in
      let leads : LeadsTo life (begun sectors fuse) told (crashed mask end) = record { end = end; led = led; fuse = no_fuse end.calls; crash = refl } in
      let holds : Holds log_sectors opened [] (disk (begun sectors fuse)) = at_rest_holds log_sectors opened (at_rest sectors) (λ keep. stands) in
      let lived = life_led log_sectors opened [] life (begun sectors fuse) told (crashed mask end) leads holds in
      let promised = promise_over_lives log_sectors before opened (lived.steps ∷ []) (lived.replies ∷ []) lived.left was (lived.left, lived.life, refl) in
      record {
        steps = lived.steps;
        replies = lived.replies;
        is_told = lived.told;
        machine = lived.life.machine;
        answered = lived.life.answered;
        kept = promised.0;
        keeps = subst (λ (k : List (List Operation)). KeptByLife before lived.steps lived.replies k) (sym promised.1.3.0) promised.1.2.keeps;
        left = lived.left;
        after = promised.1.3.2;
        stands = lived.holds.reads;
        generation = omega (arith, life_within log_sectors opened lived.steps lived.replies lived.left lived.life, life_length asked told lived.steps lived.replies lived.told);
      }

-- ---- the first life

empty_was : IsAfter [] empty_store
empty_was = record { count = refl; same_map = refl }

-- the same of other batches, and of other bounds
moved : (least other : ℕ) (batches others kept : List (List Operation)) → other ≡ least → others ≡ batches → IsPrefixFrom least batches kept → IsPrefixFrom other others kept
moved least other batches others kept l b is =
    subst (λ (n : ℕ). IsPrefixFrom n others kept) (sym l) (subst (λ (bs : List (List Operation)). IsPrefixFrom least bs kept) (sym b) is)

-- a life that was opened
opened_beginning : (log_sectors n : ℕ) (m : Machine) (asked : List Asked) (told : List Told) (steps : List Step) (replies : List Reply) (kept : List (List Operation)) → IsAnswered log_sectors empty_store m steps replies
    → IsLifeTold asked (Replied (Number n) ∷ told) steps replies → KeptByLife [] steps replies kept → IsPrefixFrom (least_in asked told) (batches_in asked told) kept
opened_beginning log_sectors n m asked told steps (reply ∷ rest) kept answered is keeps =
    let same = same_told [] 0 asked told steps rest is.1 in
    let run = (subst (λ (r : Reply). IsAnswered log_sectors empty_store m steps (r ∷ rest)) is.0 answered).3 in
    let from : KeptByLife [] steps (Number n ∷ rest) kept = subst (λ (r : Reply). KeptByLife [] steps (r ∷ rest) kept) is.0 keeps in
    let flight = flies_behind [] (steps_of asked) (replies_of told) in
    let covers = covered_beginning (0 + acknowledged 0 steps rest) (accepted steps rest) (in_flight steps rest) flight kept (covered [] m asked told steps rest run is.1 []) from in
    moved (0 + acknowledged 0 steps rest) (least_in asked told) (accepted steps rest ++ flight) (batches_in asked told) kept
    (omega (arith, same.acknowledges 0 0)) (ap (λ (l : List (List Operation)). l ++ flight) (sym same.accepts)) covers
opened_beginning log_sectors n m asked told steps [] kept answered is keeps = absurd is

-- one that was refused
refused_beginning : (e : Refusal) (asked : List Asked) (told : List Told) (steps : List Step) (replies : List Reply) (kept : List (List Operation)) → told ≡ told_stopped asked
    → IsLifeTold asked (Replied (Refused e) ∷ told) steps replies → KeptByLife [] steps replies kept → IsPrefixFrom (least_in asked told) (batches_in asked told) kept
refused_beginning e asked told steps (reply ∷ rest) kept stopped is keeps =
    let none = quiet asked in
    let nothing : kept ≡ [] = subst (λ (r : Reply). KeptByLife [] steps (r ∷ rest) kept) is.0 keeps in
    subst (λ (t : List Told). IsPrefixFrom (least_in asked t) (batches_in asked t) kept) (sym stopped)
    (record { holds = 0; at_least = omega (arith, none.acknowledges 0 0 0); among = omega arith; is = nothing })
refused_beginning e asked told steps [] kept stopped is keeps = absurd is

beginning : (log_sectors : ℕ) (m : Machine) (before : Medium) (asked : List Asked) (first : Told) (told : List Told) (end : Medium) (steps : List Step) (replies : List Reply) (kept : List (List Operation)) → IsLed before asked (first ∷ told) end
    → IsAnswered log_sectors empty_store m steps replies → IsLifeTold asked (first ∷ told) steps replies → KeptByLife [] steps replies kept → IsPrefixFrom (least_in asked told) (batches_in asked told) kept
beginning log_sectors m before asked (Replied (Number n)) told end steps replies kept led answered is keeps = opened_beginning log_sectors n m asked told steps replies kept answered is keeps
beginning log_sectors m before asked (Replied (Refused e)) told end steps replies kept led answered is keeps = refused_beginning e asked told steps replies kept led.1 is keeps
beginning log_sectors m before asked (Replied Done) told end steps replies kept led answered is keeps = absurd led
beginning log_sectors m before asked (Replied (Value v)) told end steps replies kept led answered is keeps = absurd led
beginning log_sectors m before asked (Replied (Rows page)) told end steps replies kept led answered is keeps = absurd led
beginning log_sectors m before asked (Replied (Given job)) told end steps replies kept led answered is keeps = absurd led
beginning log_sectors m before asked (Replied (Handed input)) told end steps replies kept led answered is keeps = absurd led
beginning log_sectors m before asked (Replied Unread) told end steps replies kept led answered is keeps = absurd led
beginning log_sectors m before asked (Built number tables) told end steps replies kept led answered is keeps = absurd led

-- what a life on the sectors that a format left leaves
pub first_left : (log_sectors : ℕ) (sectors : List (List ℕ)) → StandFor log_sectors empty_store sectors → (fuse : Option ℕ) (asked : List Asked) (first : Told) (told : List Told) (end : Medium)
    → IsLed (begun sectors fuse) asked (first ∷ told) end → length asked < 2 ^ 32 → (mask : List Bool) → MayBeLeft 1 (least_in asked told) (batches_in asked told) (image mask (disk end))
first_left log_sectors sectors stands fuse asked first told end led few mask =
    let k = kept_by_life log_sectors [] empty_store empty_was sectors stands fuse asked (first ∷ told) end led mask in
    record {
      log_sectors = log_sectors;
      kept = k.kept;
      beginning = beginning log_sectors k.machine (begun sectors fuse) asked first told end k.steps k.replies k.kept led k.answered k.is_told k.keeps;
      left = k.left;
      after = k.after;
      stands = k.stands;
      early = omega (arith, k.generation, few);
    }

-- the same of all that was told, of which the first is what the opening answered
pub life_left : (log_sectors : ℕ) (sectors : List (List ℕ)) → StandFor log_sectors empty_store sectors → (fuse : Option ℕ) (asked : List Asked) (told : List Told) (end : Medium)
    → IsLed (begun sectors fuse) asked told end → length asked < 2 ^ 32 → (mask : List Bool) → MayBeLeft 1 (least_in asked (drop 1 told)) (batches_in asked (drop 1 told)) (image mask (disk end))
life_left log_sectors sectors stands fuse asked [] end led few mask = absurd led
life_left log_sectors sectors stands fuse asked (first ∷ told) end led few mask = first_left log_sectors sectors stands fuse asked first told end led few mask

-- as much was told as was asked, and what the opening answered
made_length : (results : List MergeResult) (old : StoreView) (asked : List Asked) (told : List Told) (new : StoreView) → MakesEach results old asked told new → length told ≡ length asked
made_length results old [] [] new makes = refl
made_length results old (first ∷ asked) (answer ∷ told) new (after, mid, one, rest) = ap suc (made_length after mid asked told new rest)
made_length results old [] (answer ∷ told) new makes = absurd makes
made_length results old (first ∷ asked) [] new makes = absurd makes

pub led_length : (before : Medium) (asked : List Asked) (told : List Told) (after : Medium) → IsLed before asked told after → length told ≡ length asked + 1
led_length before asked (Replied (Number n) ∷ told) after (s, begins, is, end, makes, ends) = omega (arith, made_length [] s asked told end makes)
led_length before asked (Replied (Refused e) ∷ told) after (fails, stopped) = omega (arith, ap length stopped, length-map asked (λ (_ : Asked). Replied (Refused Stopped)))
led_length before asked (Replied Done ∷ told) after led = absurd led
led_length before asked (Replied (Value v) ∷ told) after led = absurd led
led_length before asked (Replied (Rows page) ∷ told) after led = absurd led
led_length before asked (Replied (Given job) ∷ told) after led = absurd led
led_length before asked (Replied (Handed input) ∷ told) after led = absurd led
led_length before asked (Replied Unread ∷ told) after led = absurd led
led_length before asked (Built number tables ∷ told) after led = absurd led
led_length before asked [] after led = absurd led

-- ---- an opening that makes no step

whole : (batches kept : List (List Operation)) → IsPrefixFrom (length batches + 0) (batches ++ []) kept → kept ≡ batches
whole batches kept is =
    let long : length (batches ++ []) ≡ length batches = ap length (append-nil batches) in
    is.is ∙ take_all is.holds (batches ++ []) (omega (arith, is.at_least, long)) ∙ append-nil batches

reopened_kept : (n : ℕ) (before : List (List Operation)) (told : List Told) (steps : List Step) (replies : List Reply) (kept : List (List Operation))
    → IsLifeTold [] (Replied (Number n) ∷ told) steps replies → KeptByLife before steps replies kept → kept ≡ before
reopened_kept n before [] steps (reply ∷ rest) kept is keeps =
    whole before kept (subst (λ (r : Reply). KeptByLife before [] (r ∷ []) kept) is.0
    (subst (λ (s : List Step). KeptByLife before s (reply ∷ []) kept) is.1.0 (subst (λ (r : List Reply). KeptByLife before steps (reply ∷ r) kept) is.1.1 keeps)))
reopened_kept n before (more ∷ told) steps (reply ∷ rest) kept is keeps = absurd is.1
reopened_kept n before told steps [] kept is keeps = absurd is

unopened_kept : (e : Refusal) (before : List (List Operation)) (told : List Told) (steps : List Step) (replies : List Reply) (kept : List (List Operation))
    → IsLifeTold [] (Replied (Refused e) ∷ told) steps replies → KeptByLife before steps replies kept → kept ≡ before
unopened_kept e before told steps (reply ∷ rest) kept is keeps = subst (λ (r : Reply). KeptByLife before steps (r ∷ rest) kept) is.0 keeps
unopened_kept e before told steps [] kept is keeps = absurd is

same_kept : (on : Medium) (told : List Told) (end : Medium) (before : List (List Operation)) (steps : List Step) (replies : List Reply) (kept : List (List Operation)) → IsLed on [] told end
    → IsLifeTold [] told steps replies → KeptByLife before steps replies kept → kept ≡ before
same_kept on (Replied (Number n) ∷ told) end before steps replies kept led is keeps = reopened_kept n before told steps replies kept is keeps
same_kept on (Replied (Refused e) ∷ told) end before steps replies kept led is keeps = unopened_kept e before told steps replies kept is keeps
same_kept on (Replied Done ∷ told) end before steps replies kept led is keeps = absurd led
same_kept on (Replied (Value v) ∷ told) end before steps replies kept led is keeps = absurd led
same_kept on (Replied (Rows page) ∷ told) end before steps replies kept led is keeps = absurd led
same_kept on (Replied (Given job) ∷ told) end before steps replies kept led is keeps = absurd led
same_kept on (Replied (Handed input) ∷ told) end before steps replies kept led is keeps = absurd led
same_kept on (Replied Unread ∷ told) end before steps replies kept led is keeps = absurd led
same_kept on (Built number tables ∷ told) end before steps replies kept led is keeps = absurd led
same_kept on [] end before steps replies kept led is keeps = absurd led

-- what an opening of what may be left leaves may be left too
pub left_again : (spare least : ℕ) (batches : List (List Operation)) (sectors : List (List ℕ)) → MayBeLeft (spare + 1) least batches sectors → (fuse : Option ℕ) (told : List Told) (end : Medium)
    → IsLed (begun sectors fuse) [] told end → (mask : List Bool) → MayBeLeft spare least batches (image mask (disk end))
left_again spare least batches sectors may fuse told end led mask =
    let k = kept_by_life may.log_sectors may.kept may.left may.after sectors may.stands fuse [] told end led mask in
    let same = same_kept (begun sectors fuse) told end may.kept k.steps k.replies k.kept led k.is_told k.keeps in
    record {
      log_sectors = may.log_sectors;
      kept = k.kept;
      beginning = subst (λ (l : List (List Operation)). IsPrefixFrom least batches l) (sym same) may.beginning;
      left = k.left;
      after = k.after;
      stands = k.stands;
      early = omega (arith, k.generation, may.early);
    }

-- ---- what the last opening answers

maps_at : (m : Map) (batches : List (List Operation)) (n : ℕ) → n ≤ length batches → slice_get (m ∷ maps_after m batches) n ≡ Some (apply_all m (take n batches))
maps_at m batches zero within = refl
maps_at m [] (suc n) within = absurd (omega (arith, within))
maps_at m (batch ∷ rest) (suc n) within = maps_at (apply m batch) rest n (omega (arith, within))

pub opened_found : (spare least : ℕ) (batches : List (List Operation)) (sectors : List (List ℕ)) → MayBeLeft spare least batches sectors → (s : StoreView) → BeginsOn (begun sectors None) s → IsFound least batches s
opened_found spare least batches sectors may s begins =
    let opens = begins.opens may.log_sectors may.left may.stands in
    let b = may.beginning in
    let m = apply_all finite.empty (take least batches) in
    let long : length may.kept ≡ b.holds = ap length b.is ∙ length-take-le b.holds batches b.among in
    let count : batch_count s.state.points ≡ b.holds = ap (λ (t : State). batch_count t.points) opens.state ∙ add-zero may.left.count ∙ may.after.count ∙ long in
    let parts : apply_all finite.empty may.kept ≡ apply_all m (take (b.holds - least) (drop least batches)) =
    ap (apply_all finite.empty) (b.is ∙ ap (λ (n : ℕ). take n batches) (omega (arith, b.at_least)) ∙ take_sum least (b.holds - least) batches)
    ∙ apply_all-append finite.empty (take least batches) (take (b.holds - least) (drop least batches)) in
    let is_map : present_map s.state.points ≡ apply_all finite.empty may.kept = ap (λ (t : State). present_map t.points) opens.state ∙ may.after.same_map in
    record {
      backed = opens.backed;
      runs = subst (λ (t : State). IsNone t.stopped) (sym opens.state) refl;
      at_least = omega (arith, count, b.at_least);
      found = ap (λ (n : ℕ). slice_get (maps_from least batches) (n - least)) count
          ∙ maps_at m (drop least batches) (b.holds - least) (omega (arith, length-drop least batches, b.among))
          ∙ ap Some (sym (is_map ∙ parts));
    }

-- a disk of which each crash leaves the empty store reads as that
pub stands_as_read : (log_sectors : ℕ) (d : Disk) (sectors : List (List ℕ)) → sectors ≡ seen d → Leaves (StandFor log_sectors empty_store) d → StandFor log_sectors empty_store sectors
stands_as_read log_sectors d sectors is leaves = subst (StandFor log_sectors empty_store) (sym is) (at_rest_holds log_sectors empty_store d leaves).reads

-- what may be left where more openings may follow may be left where fewer may
pub fewer_follow : (spare least : ℕ) (batches : List (List Operation)) (sectors : List (List ℕ)) → MayBeLeft spare least batches sectors → MayBeLeft 0 least batches sectors
fewer_follow spare least batches sectors may = record {
  log_sectors = may.log_sectors;
  kept = may.kept;
  beginning = may.beginning;
  left = may.left;
  after = may.after;
  stands = may.stands;
  early = omega (arith, may.early);
}

-- an opening of what may be left is refused for want of memory or a fault alone
pub judged_fairly : (spare least : ℕ) (batches : List (List Operation)) (sectors : List (List ℕ)) → MayBeLeft spare least batches sectors → (e : Refusal) (after : Medium) → FailsOn (begun sectors None) e after
    → (e ≡ NoMemory) ⊎ (e ≡ Io)
judged_fairly spare least batches sectors may e after fails = by e ((fails.fails may.log_sectors may.left may.stands).fair)
  where
    by : (e : Refusal) → MayRefuseOpening may.left e → (e ≡ NoMemory) ⊎ (e ≡ Io)
    by NoMemory fair = inl refl
    by Io fair = inr refl
    by Exhausted fair = absurd (omega (arith, fair, may.early))
    by other fair = absurd fair

ok_err : (a : Bool) (e : Refusal) → ◌≡◌ {A = Result Bool Refusal} (Ok a) (Err e) → ⊥
ok_err a e is = cc

-- so what is answered of that is no Ok
pub judged_right : (e : Refusal) (right : Bool) → (e ≡ NoMemory) ⊎ (e ≡ Io) → ((e ≡ NoMemory) ⊎ (e ≡ Io) → ◌≡◌ {A = Result Bool Refusal} (Ok right) (Err NoMemory)) → right ≡ true
judged_right e right fair wanting = absurd (ok_err right NoMemory (wanting fair))
