-- What each of a crew does, the whole history has.
use Rattle.std.proofs.Common.{◌≡◌, ◌<◌, ◌≤◌, ℕ, zero, suc, ◌+◌, ◌==◌, Bool, true, false, List, [], ◌∷◌, ◌++◌, length, map, take, drop, Result, Ok, Err, IfOk, IfErr, MatchResult, refl, sym, ap, subst, ◌∙◌, arith}
use Rattle.std.specs.Prelude.{nat_lt, slice_index_or, if◌then◌else◌}
use Rattle.std.specs.List.{AllByRecursion}
use Rattle.std.proofs.lemmas.Bool.Decides.{nat_tests}
use Rattle.std.proofs.Math.Seq.{take-append_seam}
use Rattle.std.proofs.lemmas.Bool.{ltb-false}
use Rattle.std.proofs.lemmas.List.{length-append}
use Rattle.lsm_trail.specs.Begins.{Begin}
use Rattle.lsm_device.specs.declared.refusal.Refusal.{Refusal}
use Rattle.lsm_merge.specs.Results.{MergeResult}
use Rattle.lsm_store.specs.Backing.{StoreView}
use Rattle.lsm_machine.specs.Calls.{Call}
use Rattle.lsm_lives.specs.Asked.{Told}
use Rattle.lsm_trail.specs.History.{Event, TrailView, called, entries_by}
use Rattle.lsm_trail.specs.Knowledge.{Known, known}
use Rattle.lsm_shared.specs.Clients.{AgreesWith, AreAll, IsNoCall, MakesCall, has_client, newcomers}
use Rattle.lsm_shared.specs.Sessions.{IsEnded}
use Rattle.lsm_storm.specs.Counters.{AreCounting, GoesOnCounting, IsCounting, IsCountingStep}
use Rattle.lsm_storm.specs.Crews.{DoesTask, IsDone}
use Rattle.lsm_storm.specs.declared.crew.Tasks.{Tasks}
use Rattle.lsm_storm.specs.declared.crew.Tasks.TheVariants.{Storm, Tally}

-- ---- one call

with_one : (log : List Event) (e : Event) → AreCounting log → IsCountingStep e.step → AreCounting (log ++ e ∷ [])
with_one [] e all one = (one, tt)
with_one (x ∷ log) e (first, all) one = (first, with_one log e all one)

-- a client stays who it is
pub stays : {T : Type 0} (c d : Known) (call : Call) (told : T → Told) (r : Result T Refusal) → IfOk r (λ x. MakesCall c call (told x) d) → IfErr r (λ e. IsNoCall c call e d)
    → d.number ≡ c.number
stays c d call told (Ok x) makes denied = makes.adds.number
stays c d call told (Err e) makes denied = denied.0.number

-- and goes on counting
pub goes_on : {T : Type 0} (c d : Known) (call : Call) (told : T → Told) (r : Result T Refusal) → IsCounting call
    → IfOk r (λ x. MakesCall c call (told x) d) → IfErr r (λ e. IsNoCall c call e d) → GoesOnCounting c d
goes_on c d call told (Ok x) is makes denied = record {
  number = makes.adds.number;
  counting = λ all. subst AreCounting (sym makes.adds.mine) (with_one c.mine (called c.number call makes.reply makes.machine) all is);
}
goes_on c d call told (Err e) is makes denied = record {
  number = denied.0.number;
  counting = λ all. subst AreCounting (sym denied.0.mine) all;
}

pub goes_on-not : (c : Known) → GoesOnCounting c c
goes_on-not c = record { number = refl; counting = λ all. all }

pub goes_on-twice : (a b c : Known) → GoesOnCounting a b → GoesOnCounting b c → GoesOnCounting a c
goes_on-twice a b c one two = record { number = two.number ∙ one.number; counting = λ all. two.counting (one.counting all) }

-- ---- a history, from the entries of each client

own : (client : ℕ) → (client == client) ≡ true
own client = grind (arith, nat_tests)

first_counts : (e : Event) (log : List Event) (b : Bool) → b ≡ true → AreCounting (if b then e ∷ entries_by e.client log else entries_by e.client log) → IsCountingStep e.step
first_counts e log true is all = all.0
first_counts e log false is all = cc

rest_counts : (e : Event) (es : List Event) (b : Bool) → AreCounting (if b then e ∷ es else es) → AreCounting es
rest_counts e es true all = all.1
rest_counts e es false all = all

pub log_counts : (log : List Event) → ((client : ℕ) → AreCounting (entries_by client log)) → AreCounting log
log_counts [] each = tt
log_counts (e ∷ log) each = (
  first_counts e log (e.client == e.client) (own e.client) (each e.client),
  log_counts log (λ client. rest_counts e (entries_by client log) (e.client == client) (each client)),
)

-- ---- each client

abbrev pub HasOnlyCounted : Known → Type 0
HasOnlyCounted c = AreCounting c.mine

client_counts : (log : List Event) (clients : List Known) (client : ℕ) → AgreesWith log clients → AllByRecursion HasOnlyCounted clients
    → has_client client clients ≡ true → AreCounting (entries_by client log)
client_counts log [] client agrees counts has = cc
client_counts log (c ∷ cs) client (seen, mine, agrees) (one, counts) has = by (c.number == client) refl (client_counts log cs client agrees counts) has
  where
    by : (b : Bool) → (c.number == client) ≡ b → (has_client client cs ≡ true → AreCounting (entries_by client log))
        → (if b then true else has_client client cs) ≡ true → AreCounting (entries_by client log)
    by true is later h =
        let same : c.number ≡ client = grind (arith, nat_tests) in
        subst AreCounting (sym mine ∙ ap (λ (n : ℕ). entries_by n log) same) one
    by false is later h = later h

-- a client that there is, and any other number, of which there are no entries
any_counts : (count : ℕ) (log : List Event) (clients : List Known) (client : ℕ) → AgreesWith log clients → AllByRecursion HasOnlyCounted clients
    → AreAll count clients → ((other : ℕ) → count ≤ other → entries_by other log ≡ []) → AreCounting (entries_by client log)
any_counts count log clients client agrees counts all strangers = by (nat_lt client count) refl
  where
    by : (b : Bool) → nat_lt client count ≡ b → AreCounting (entries_by client log)
    by true is = client_counts log clients client agrees counts (all.1 client (grind (arith, nat_tests)))
    by false is = subst AreCounting (sym (strangers client (grind (arith, nat_tests)))) tt

-- a history of clients that have only counted
pub crew_counts : (count : ℕ) (log : List Event) (clients : List Known) → AgreesWith log clients → AllByRecursion HasOnlyCounted clients
    → AreAll count clients → ((other : ℕ) → count ≤ other → entries_by other log ≡ []) → AreCounting log
crew_counts count log clients agrees counts all strangers = log_counts log (λ client. any_counts count log clients client agrees counts all strangers)

-- ---- a crew, from its newcomers on

pub idle_newcomers : (b : Begin) (n : ℕ) → AllByRecursion (λ (c : Known). c.mine ≡ []) (newcomers b n)
idle_newcomers b zero = tt
idle_newcomers b (suc n) = with_last (newcomers b n) (known b n [] []) (idle_newcomers b n) refl
  where
    with_last : (cs : List Known) (c : Known) → AllByRecursion (λ (c : Known). c.mine ≡ []) cs → c.mine ≡ [] → AllByRecursion (λ (c : Known). c.mine ≡ []) (cs ++ c ∷ [])
    with_last [] c all is = (is, tt)
    with_last (x ∷ cs) c (one, all) is = (one, with_last cs c all is)

-- each of the crew goes on counting
pub all_go_on : (old new : List Known) → length new ≡ length old → AllByRecursion (λ (c : Known). c.mine ≡ []) old
    → ((i : ℕ) (d : Known) → i < length old → GoesOnCounting (slice_index_or old i d) (slice_index_or new i d)) → AllByRecursion HasOnlyCounted new
all_go_on [] [] same idle each = tt
all_go_on (c ∷ cs) (d ∷ ds) same (none, idle) each =
    let goes : GoesOnCounting c d = each 0 c (omega arith) in
    (goes.counting (subst AreCounting (sym none) tt), all_go_on cs ds (omega (arith, same)) idle (λ i x less. each (suc i) x (omega (arith, less))))
all_go_on [] (d ∷ ds) same idle each = absurd (omega (arith, same))
all_go_on (c ∷ cs) [] same idle each = absurd (omega (arith, same))

-- ---- all of a crew, after each did its part

has_more : (client : ℕ) (cs : List Known) (c : Known) → has_client client cs ≡ true → has_client client (cs ++ c ∷ []) ≡ true
has_more client [] c has = cc
has_more client (x ∷ cs) c has = by (x.number == client) (has_more client cs c) has
  where
    by : (b : Bool) → (has_client client cs ≡ true → has_client client (cs ++ c ∷ []) ≡ true) → (if b then true else has_client client cs) ≡ true
        → (if b then true else has_client client (cs ++ c ∷ [])) ≡ true
    by true later h = refl
    by false later h = later h

has_last : (cs : List Known) (c : Known) → has_client c.number (cs ++ c ∷ []) ≡ true
has_last [] c = by (c.number == c.number) (own c.number)
  where
    by : (b : Bool) → b ≡ true → (if b then true else false) ≡ true
    by true is = refl
    by false is = cc
has_last (x ∷ cs) c = by (x.number == c.number) (has_last cs c)
  where
    by : (b : Bool) → has_client c.number (cs ++ c ∷ []) ≡ true → (if b then true else has_client c.number (cs ++ c ∷ [])) ≡ true
    by true later = refl
    by false later = later

has_newcomer : (b : Begin) (n client : ℕ) → client < n → has_client client (newcomers b n) ≡ true
has_newcomer b zero client less = absurd (omega (arith, less))
has_newcomer b (suc n) client less = by (nat_lt client n) refl (has_newcomer b n client)
  where
    by : (t : Bool) → nat_lt client n ≡ t → (client < n → has_client client (newcomers b n) ≡ true) → has_client client (newcomers b n ++ known b n [] [] ∷ []) ≡ true
    by true is before = has_more client (newcomers b n) (known b n [] []) (before (grind (arith, nat_tests)))
    by false is before =
        let same : n ≡ client = omega (arith, less, ltb-false client n is) in
        subst (λ (k : ℕ). has_client k (newcomers b n ++ known b n [] [] ∷ []) ≡ true) same (has_last (newcomers b n) (known b n [] []))

count_newcomers : (b : Begin) (n : ℕ) → length (newcomers b n) ≡ n
count_newcomers b zero = refl
count_newcomers b (suc n) = omega (arith, length-append (newcomers b n) (known b n [] [] ∷ []), count_newcomers b n)

same_clients : (old new : List Known) (client : ℕ) → length new ≡ length old
    → ((i : ℕ) (d : Known) → i < length old → (slice_index_or new i d).number ≡ (slice_index_or old i d).number) → has_client client new ≡ has_client client old
same_clients [] [] client same each = refl
same_clients (c ∷ cs) (d ∷ ds) client same each =
    let first : d.number ≡ c.number = each 0 c (omega arith) in
    let rest = same_clients cs ds client (omega (arith, same)) (λ i x less. each (suc i) x (omega (arith, less))) in
    ap (λ (n : ℕ). if n == client then true else has_client client ds) first ∙ ap (λ (b : Bool). if c.number == client then true else b) rest
same_clients [] (d ∷ ds) client same each = absurd (omega (arith, same))
same_clients (c ∷ cs) [] client same each = absurd (omega (arith, same))

-- newcomers that stay who they are are all clients
pub are_all : (b : Begin) (new : List Known) → length new ≡ length (newcomers b b.clients)
    → ((i : ℕ) (d : Known) → i < length (newcomers b b.clients) → (slice_index_or new i d).number ≡ (slice_index_or (newcomers b b.clients) i d).number) → AreAll b.clients new
are_all b new same each = (
  same ∙ count_newcomers b b.clients,
  λ client less. same_clients (newcomers b b.clients) new client same each ∙ has_newcomer b b.clients client less,
)

-- ---- what all of them did

-- each of a crew did its part, from newcomers on
abbrev AllDid : Tasks → Begin → List Known → Type 0
AllDid tasks b new = (i : ℕ) (d : Known) → i < length (newcomers b b.clients) → DoesTask tasks (slice_index_or (newcomers b b.clients) i d) (slice_index_or new i d)

-- what one of them did, by what it was and what it is
pub one_did : (tasks : Tasks) (a b x y : Known) → a ≡ x → b ≡ y → DoesTask tasks a b → DoesTask tasks x y
one_did tasks a b x y was is did = subst (λ (old : Known). DoesTask tasks old y) was (subst (λ (new : Known). DoesTask tasks a new) is did)

same_number : (tasks : Tasks) (c d : Known) → DoesTask tasks c d → d.number ≡ c.number
same_number (Tally tries) c d does = does.number
same_number (Storm clients commits) c d does = does

-- they are all clients still
pub crew_stays : (tasks : Tasks) (b : Begin) (new : List Known) → length new ≡ length (newcomers b b.clients) → AllDid tasks b new → AreAll b.clients new
crew_stays tasks b new same did =
    are_all b new same (λ i d less. same_number tasks (slice_index_or (newcomers b b.clients) i d) (slice_index_or new i d) (did i d less))

-- and the history shows what they did
pub crew_done : (tasks : Tasks) (b : Begin) (new : List Known) (store : StoreView) (trail : TrailView) → length new ≡ length (newcomers b b.clients)
    → AllDid tasks b new → IsEnded b new store trail → IsDone tasks trail.log
crew_done (Storm clients commits) b new store trail same did ended = tt
crew_done (Tally tries) b new store trail same did ended =
    let all = crew_stays (Tally tries) b new same did in
    crew_counts b.clients trail.log new ended.told (all_go_on (newcomers b b.clients) new same (idle_newcomers b b.clients) did) all ended.strangers

-- ---- a crew that was written back to the list that it came from

written_back : (n : ℕ) (items crew : List Known) → n ≡ length items → length crew ≡ length items → take n (crew ++ drop (length crew) items) ≡ crew
written_back n items crew is same = ap (λ (k : ℕ). take k (crew ++ drop (length crew) items)) (is ∙ sym same) ∙ take-append_seam crew (drop (length crew) items)

-- from newcomers on, by what each of them did
did_all : (tasks : Tasks) (b : Begin) (old crew : List Known) → old ≡ newcomers b b.clients
    → ((i : ℕ) (d : Known) → i < length old → DoesTask tasks (slice_index_or old i d) (slice_index_or crew i d)) → AllDid tasks b crew
did_all tasks b old crew is did = subst (λ (l : List Known). (i : ℕ) (d : Known) → i < length l → DoesTask tasks (slice_index_or l i d) (slice_index_or crew i d)) is did

module _ (tasks : Tasks) (b : Begin) (n : ℕ) (items old crew : List Known) (count : n ≡ length items) (was : old ≡ items) (new : items ≡ newcomers b b.clients)
    (same : length crew ≡ length old) (did : (i : ℕ) (d : Known) → i < length old → DoesTask tasks (slice_index_or old i d) (slice_index_or crew i d)) where
  back : take n (crew ++ drop (length crew) items) ≡ crew
  back = written_back n items crew count (same ∙ ap length was)

  -- they are all clients still
  pub ended_all : AreAll b.clients (take n (crew ++ drop (length crew) items))
  ended_all = subst (AreAll b.clients) (sym back) (crew_stays tasks b crew (same ∙ ap length (was ∙ new)) (did_all tasks b old crew (was ∙ new) did))

  -- and the history shows what they did
  pub ended_done : (store : StoreView) (trail : TrailView) → IsEnded b (take n (crew ++ drop (length crew) items)) store trail → IsDone tasks trail.log
  ended_done store trail ended = crew_done tasks b crew store trail (same ∙ ap length (was ∙ new)) (did_all tasks b old crew (was ∙ new) did)
      (subst (λ (l : List Known). IsEnded b l store trail) back ended)
