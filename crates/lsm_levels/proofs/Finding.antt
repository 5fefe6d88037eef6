-- What a look-up finds where tables stand.
use Rattle.std.proofs.Common.{◌≡◌, ◌⊎◌, inl, inr, ⊎_elim, ℕ, Bool, true, is_some, List, [], ◌∷◌, map, Option, Some, None, Result, Ok, Err, refl, ap, sym, subst, ◌∙◌}
use Rattle.std.specs.Option.{option_or}
use Rattle.std.specs.List.{AllByRecursion}
use Rattle.std.specs.FinMap as finite
use Rattle.lsm_device.specs.declared.refusal.Refusal.{Refusal}
use Rattle.lsm_device.specs.declared.refusal.Refusal.TheVariants.{Io, NoMemory}
use Rattle.lsm_device.specs.Disk.{seen}
use Rattle.lsm_device.specs.Medium.{disk}
use Rattle.lsm_codec.specs.Guards.{Condition, is_same_value, is_met}
use Rattle.lsm_codec.specs.Keys.{Bytes}
use Rattle.lsm_codec.specs.Versions.{Version, newest}
use Rattle.lsm_mem.specs.Versions.{map_of}
use Rattle.lsm_mem.proofs.Maps.{value-from_newest}
use Rattle.lsm_mem.specs.Versions.{joined}
use Rattle.lsm_cache.specs.declared.name.BlockName.{BlockName}
use Rattle.lsm_levels.specs.Tables.{Table, IsRun, versions_of}
use Rattle.lsm_levels.specs.Orders.{IsVersionOrder}
use Rattle.lsm_levels.specs.Asking.{Source, Says, SaysOnce, IsDenied, said_in, asked_of_run}
use Rattle.lsm_levels.specs.Founds.{TestsRuns}
use Rattle.lsm_levels.specs.Lookups.{EndsOr, LooksUp, LooksUpUnless, CopiesFound, IsLookUp, IsTest, met_by, value_of, versions_in_places}
use Rattle.lsm_levels.specs.Stored.{IsStored, IsPlaced, AreStored, ArePlaced, IsReadable}
use Rattle.lsm_levels.specs.declared.placed.PlacedBlock.{PlacedBlock}
use Rattle.lsm_levels.proofs.LookingUp.{Outcome, same_refusal, given_bytes, Stays, says_fresh, placed_stands}
use Rattle.lsm_levels.proofs.StoredLaws.{run_says}
use Rattle.lsm_levels.proofs.NewestOf.{newest_place}

-- the first of runs that has a version decides
abbrev pub first_found : Bytes → ℕ → List (List Table) → Option Version
first_found key n [] = None
first_found key n (run ∷ older) = option_or (newest key n (versions_of run)) (first_found key n older)

pub first_newest : (key : Bytes) (n : ℕ) (runs : List (List Table)) → IsVersionOrder (map versions_of runs) → first_found key n runs ≡ newest key n (joined (map versions_of runs))
first_newest key n [] order = refl
first_newest key n (run ∷ older) order =
    ap (option_or (newest key n (versions_of run))) (first_newest key n older order.1) ∙ sym (newest_place key n (versions_of run) (map versions_of older) order)

abbrev Finds : Outcome → Option Version → Type 0
Finds found version = (found ≡ Err Io) ⊎ (found ≡ Ok version)

module _ (place : BlockName → Option ℕ) (sectors : List (List ℕ)) (area : ℕ) (key : Bytes) (n : ℕ) where
  run_finds : (run : List Table) → IsRun run → AllByRecursion (IsStored sectors area) run → AllByRecursion (IsPlaced place area) run → (found : Outcome) (old new : Source)
      → Stays place sectors old → Says key n (asked_of_run area key n run) found old new → Finds found (newest key n (versions_of run))
  run_finds run r stored placed found old new st says =
      run_says sectors area key n
      (λ o. ((b : PlacedBlock) → o ≡ Some b → place b.name ≡ Some b.sector) → Says key n o found old new → Finds found (newest key n (versions_of run)))
      run r stored
      (λ none stands h. inr (h.0 ∙ ap (λ (o : Option Version). Ok o) (sym none)))
      (λ b says stands h. ⊎_elim
      (λ (s : SaysOnce key n b found old new). inr (s.is ∙ ap (said_in key n) (given_bytes place sectors b s.bytes old new (stands b refl) st.0 st.1 st.2 s.given) ∙ says))
      (λ (d : (found ≡ Err Io) × IsDenied b old new). inl d.0)
      h)
      (placed_stands place sectors area key n run placed)
      says

  goes_first : (newer : Option Version) (first found : Outcome) (old mid new : Source) (older : List (List Table)) → Finds first newer → EndsOr first ((found ≡ first) × (new ≡ mid)) (LooksUp area key n older found mid new)
      → (LooksUp area key n older found mid new → Finds found (first_found key n older)) → Finds found (option_or newer (first_found key n older))
  goes_first newer first found old mid new older (inl io) ends later =
      let e : (found ≡ Err Io) × (new ≡ mid) = subst (λ (f : Outcome). EndsOr f ((found ≡ f) × (new ≡ mid)) (LooksUp area key n older found mid new)) io ends in
      inl e.0
  goes_first None first found old mid new older (inr is) ends later =
      later (subst (λ (f : Outcome). EndsOr f ((found ≡ f) × (new ≡ mid)) (LooksUp area key n older found mid new)) is ends)
  goes_first (Some v) first found old mid new older (inr is) ends later =
      let e : (found ≡ Ok (Some v)) × (new ≡ mid) = subst (λ (f : Outcome). EndsOr f ((found ≡ f) × (new ≡ mid)) (LooksUp area key n older found mid new)) is ends in
      inr e.0

  looks_find : (runs : List (List Table)) → AllByRecursion IsRun runs → AreStored sectors area runs → ArePlaced place area runs → (found : Outcome) (old new : Source)
      → Stays place sectors old → LooksUp area key n runs found old new → Finds found (first_found key n runs)
  looks_find [] r stored placed found old new st h = inr h.0
  looks_find (run ∷ older) r stored placed found old new st h =
      let mid = says_fresh place sectors key n (asked_of_run area key n run) (placed_stands place sectors area key n run placed.0) h.0 old h.1 h.2 st in
      goes_first (newest key n (versions_of run)) h.0 found old h.1 new older (run_finds run r.0 stored.0 placed.0 h.0 old h.1 st h.2) h.3
      (λ goes. looks_find older r.1 stored.1 placed.1 found h.1 new mid goes)

  unless_finds : (newer : Option Version) (runs : List (List Table)) → AllByRecursion IsRun runs → AreStored sectors area runs → ArePlaced place area runs → (found : Outcome) (old new : Source)
      → Stays place sectors old → LooksUpUnless newer area key n runs found old new → Finds found (option_or newer (first_found key n runs))
  unless_finds None runs r stored placed found old new st h = looks_find runs r stored placed found old new st h
  unless_finds (Some v) runs r stored placed found old new st h = inr h.0

abbrev no_answer : Refusal → Result (Option Bytes) Refusal
no_answer e = Err e

or_both : (a b c : Option Version) → option_or (option_or a b) c ≡ option_or a (option_or b c)
or_both None b c = refl
or_both (Some v) b c = refl

module _ (place : BlockName → Option ℕ) (memory sealed : List Version) (runs : List (List Table)) (area : ℕ) (key : Bytes) (n : ℕ) (r : AllByRecursion IsRun runs) where
  -- the newest version in all places
  abbrev newest_of_all : Option Version
  newest_of_all = newest key n (joined (versions_in_places memory sealed runs))

  -- its value is that of the map
  value_of_all : value_of newest_of_all ≡ finite.get (map_of (joined (versions_in_places memory sealed runs)) n) key
  value_of_all = value-from_newest (joined (versions_in_places memory sealed runs)) n key newest_of_all refl

  found_is : (found : Outcome) (old new : Source) → LooksUpUnless (option_or (newest key n memory) (newest key n sealed)) area key n runs found old new → IsReadable place area runs old → IsVersionOrder (versions_in_places memory sealed runs)
      → Finds found newest_of_all
  found_is found old new looks s order =
      let all : option_or (option_or (newest key n memory) (newest key n sealed)) (first_found key n runs) ≡ newest_of_all =
      or_both (newest key n memory) (newest key n sealed) (first_found key n runs)
      ∙ ap (λ (o : Option Version). option_or (newest key n memory) (option_or (newest key n sealed) o)) (first_newest key n runs order.1.1)
      ∙ ap (option_or (newest key n memory)) (sym (newest_place key n sealed (map versions_of runs) order.1))
      ∙ sym (newest_place key n memory (sealed ∷ map versions_of runs) order) in
      subst (Finds found) all
      (unless_finds place (seen (disk old.medium)) area key n (option_or (newest key n memory) (newest key n sealed)) runs r s.stored s.placed found old new (s.tells, refl, s.fresh) looks)

  -- the value of the map
  pub value_found : (value : Option Bytes) (old new : Source) → IsLookUp memory sealed runs area key n (Ok value) old new → IsReadable place area runs old → IsVersionOrder (versions_in_places memory sealed runs)
      → value ≡ finite.get (map_of (joined (versions_in_places memory sealed runs)) n) key
  value_found value old new look s order =
      ⊎_elim
      (λ (io : look.found ≡ Err Io). absurd (let no : Ok value ≡ Err Io = subst (λ (f : Outcome). CopiesFound f (Ok value)) io look.answers in cc))
      (λ (is : look.found ≡ Ok newest_of_all).
      ⊎_elim
      (λ (e : Ok value ≡ Ok (value_of newest_of_all)). let same : value ≡ value_of newest_of_all = cc in same ∙ value_of_all)
      (λ (e : (Ok value ≡ Err NoMemory) × (is_some (value_of newest_of_all) ≡ true)). absurd (let no : Ok value ≡ Err NoMemory = e.0 in cc))
      (subst (λ (f : Outcome). CopiesFound f (Ok value)) is look.answers))
      (found_is look.found old new look.looks s order)

  -- or a read faulted, or memory was refused for the copy of a value that the map has
  pub refusal_found : (e : Refusal) (old new : Source) → IsLookUp memory sealed runs area key n (Err e) old new → IsReadable place area runs old → IsVersionOrder (versions_in_places memory sealed runs)
      → (e ≡ Io) ⊎ ((e ≡ NoMemory) × (is_some (finite.get (map_of (joined (versions_in_places memory sealed runs)) n) key) ≡ true))
  refusal_found e old new look s order =
      ⊎_elim
      (λ (io : look.found ≡ Err Io).
      inl (same_refusal e Io (no_answer e) refl (subst (λ (f : Outcome). CopiesFound f (Err e)) io look.answers)))
      (λ (is : look.found ≡ Ok newest_of_all).
      ⊎_elim
      (λ (k : Err e ≡ Ok (value_of newest_of_all)). absurd cc)
      (λ (k : (Err e ≡ Err NoMemory) × (is_some (value_of newest_of_all) ≡ true)).
      inr (same_refusal e NoMemory (no_answer e) refl k.0, ap (λ (o : Option Bytes). is_some o) (sym value_of_all) ∙ k.1))
      (subst (λ (f : Outcome). CopiesFound f (Err e)) is look.answers))
      (found_is look.found old new look.looks s order)

-- ---- a test

module _ (place : BlockName → Option ℕ) (memory sealed : List Version) (runs : List (List Table)) (area : ℕ) (condition : Condition) (n : ℕ) (r : AllByRecursion IsRun runs) where
  abbrev found_so : Option Version
  found_so = newest_of_all place memory sealed runs area condition.key n r

  -- whether the map meets the condition
  pub met_found : (met : Bool) (old new : Source) → IsTest memory sealed runs area condition n (Ok met) old new → IsReadable place area runs old → IsVersionOrder (versions_in_places memory sealed runs)
      → met ≡ is_met (map_of (joined (versions_in_places memory sealed runs)) n) condition
  met_found met old new test s order =
      ⊎_elim
      (λ (io : test.found ≡ Err Io). absurd (let no : Ok met ≡ Err Io = subst (λ (f : Outcome). Ok met ≡ met_by f condition) io test.answers in cc))
      (λ (is : test.found ≡ Ok found_so).
      let one : Ok met ≡ Ok (is_same_value (value_of found_so) condition.value) = subst (λ (f : Outcome). Ok met ≡ met_by f condition) is test.answers in
      let same : met ≡ is_same_value (value_of found_so) condition.value = cc in
      same ∙ ap (λ (o : Option Bytes). is_same_value o condition.value) (value_of_all place memory sealed runs area condition.key n r))
      (found_is place memory sealed runs area condition.key n r test.found old new test.looks s order)

  -- or a read faulted
  pub refusal_tested : (e : Refusal) (old new : Source) → IsTest memory sealed runs area condition n (Err e) old new → IsReadable place area runs old → IsVersionOrder (versions_in_places memory sealed runs) → e ≡ Io
  refusal_tested e old new test s order =
      ⊎_elim
      (λ (io : test.found ≡ Err Io). let one : Err e ≡ Err Io = subst (λ (f : Outcome). Err e ≡ met_by f condition) io test.answers in cc)
      (λ (is : test.found ≡ Ok found_so). absurd (let no : Err e ≡ Ok (is_same_value (value_of found_so) condition.value) = subst (λ (f : Outcome). Err e ≡ met_by f condition) is test.answers in cc))
      (found_is place memory sealed runs area condition.key n r test.found old new test.looks s order)

-- ---- where a look-up ends

module _ (memory sealed : List Version) (runs : List (List Table)) (area : ℕ) (key : Bytes) (n : ℕ) where
  -- in memory
  pub ends_in_memory : (v : Version) (answer : Result (Option Bytes) Refusal) (s : Source) → Some v ≡ option_or (newest key n memory) (newest key n sealed) → CopiesFound (Ok (Some v)) answer → IsLookUp memory sealed runs area key n answer s s
  ends_in_memory v answer s e a = record { found = Ok (Some v); looks = subst (λ (o : Option Version). LooksUpUnless o area key n runs (Ok (Some v)) s s) e (refl, refl); answers = a }

  -- in runs
  pub ends_in_runs : (found : Outcome) (answer : Result (Option Bytes) Refusal) (old new : Source) → None ≡ option_or (newest key n memory) (newest key n sealed) → LooksUp area key n runs found old new → CopiesFound found answer → IsLookUp memory sealed runs area key n answer old new
  ends_in_runs found answer old new e looks a = record { found = found; looks = subst (λ (o : Option Version). LooksUpUnless o area key n runs found old new) e looks; answers = a }

-- ---- and where a test ends

module _ (memory sealed : List Version) (runs : List (List Table)) (area : ℕ) (condition : Condition) (n : ℕ) where
  abbrev newer_than_runs : Option Version
  newer_than_runs = option_or (newest condition.key n memory) (newest condition.key n sealed)

  -- in memory
  pub tests_in_memory : (v : Version) (answer : Result Bool Refusal) (s : Source) → Some v ≡ newer_than_runs → answer ≡ met_by (Ok (Some v)) condition → IsTest memory sealed runs area condition n answer s s
  tests_in_memory v answer s e a = record { found = Ok (Some v); looks = subst (λ (o : Option Version). LooksUpUnless o area condition.key n runs (Ok (Some v)) s s) e (refl, refl); answers = a }

  -- in runs
  pub tests_in_runs : (answer : Result Bool Refusal) (old new : Source) → None ≡ newer_than_runs → TestsRuns area condition.key n runs condition answer old new → IsTest memory sealed runs area condition n answer old new
  tests_in_runs answer old new e t = record { found = t.found; looks = subst (λ (o : Option Version). LooksUpUnless o area condition.key n runs t.found old new) e t.looks; answers = t.tells }
