-- What a look-up of memory, sealed memory and runs comes to, whatever it answers.
use Rattle.std.proofs.Common.{◌≡◌, ◌⊎◌, inl, inr, ⊎_elim, ℕ, Bool, true, is_some, List, length, IsTrue, Option, Some, None, Result, Ok, Err, refl, ap, sym, subst, ◌∙◌}
use Rattle.std.specs.Prelude.{IfErr, MatchResult, Vec, option_map}
use Rattle.std.specs.Option.{option_or}
use Rattle.std.specs.List.{AllByRecursion}
use Rattle.std.specs.FinMap as finite
use Rattle.lsm_device.specs.declared.refusal.Refusal.{Refusal}
use Rattle.lsm_device.specs.declared.refusal.Refusal.TheVariants.{Io, BadTable, NoMemory}
use Rattle.lsm_device.specs.Calls.{faults_after}
use Rattle.lsm_device.specs.Disk.{seen}
use Rattle.lsm_device.specs.Medium.{disk}
use Rattle.lsm_device.specs.Refusals.{faultless}
use Rattle.lsm_codec.specs.Guards.{Condition, is_met}
use Rattle.lsm_codec.specs.Keys.{Bytes}
use Rattle.lsm_codec.specs.Versions.{Version, newest}
use Rattle.lsm_mem.specs.Versions.{map_of}
use Rattle.lsm_mem.specs.Versions.{joined}
use Rattle.lsm_cache.specs.declared.name.BlockName.{BlockName}
use Rattle.lsm_cache.specs.Fresh.{IsFresh, IsNumberedBelow}
use Rattle.lsm_levels.specs.Tables.{Table, IsRun}
use Rattle.lsm_levels.specs.Orders.{IsVersionOrder}
use Rattle.lsm_levels.specs.Asking.{Source, OnlyReads}
use Rattle.lsm_levels.specs.Lookups.{CopiesFound, IsLookUp, IsTest, LooksUpUnless, answer_of, met_by, versions_in_places}
use Rattle.lsm_levels.specs.Stored.{AreNumberedBelow, ArePlaced, IsReadable}
use Rattle.lsm_levels.proofs.LookingUp.{IsCounted, Outcome, Stays, looks_counted, looks_fresh, looks_numbered, looks_only_reads, no_reads, nothing_counted}
use Rattle.lsm_levels.proofs.Finding.{met_found, refusal_found, refusal_tested, value_found}

-- ---- an answer has the refusal of what was found, or that of its copy

abbrev no_answer : Refusal → Result (Option Bytes) Refusal
no_answer e = Err e

copies_refusal : (found : Outcome) (e : Refusal) → CopiesFound found (Err e) → ((x : Refusal) → found ≡ Err x → (x ≡ Io) ⊎ (x ≡ BadTable)) → (e ≡ Io) ⊎ ((e ≡ BadTable) ⊎ (e ≡ NoMemory))
copies_refusal (Ok o) e (inl p) fair = absurd cc
copies_refusal (Ok o) e (inr p) fair = inr (inr (let k : no_answer e ≡ Err NoMemory = p.0 in cc))
copies_refusal (Err x) e h fair =
    let same : e ≡ x = let k : no_answer e ≡ Err x = h in cc in
    ⊎_elim (λ (io : x ≡ Io). inl (same ∙ io)) (λ (bad : x ≡ BadTable). inr (inl (same ∙ bad))) (fair x refl)

copies_io : (found : Outcome) (e : Refusal) → CopiesFound found (Err e) → e ≡ Io → found ≡ Err Io
copies_io (Ok o) e (inl p) io = absurd cc
copies_io (Ok o) e (inr p) io = absurd (let k : no_answer e ≡ Err NoMemory = p.0 in let no : no_answer Io ≡ Err NoMemory = ap no_answer (sym io) ∙ k in cc)
copies_io (Err x) e h io = let same : e ≡ x = let k : no_answer e ≡ Err x = h in cc in ap (λ (y : Refusal). Err y) (sym same ∙ io)

module _ {Z : Type 0} where
  copies_faultless : (found : Outcome) (result : Result (Option (Vec ℕ Z)) Refusal) → CopiesFound found (answer_of result) → faultless found ≡ faultless result
  copies_faultless (Ok o) (Ok v) h = refl
  copies_faultless (Ok o) (Err e) (inl p) = absurd cc
  copies_faultless (Ok o) (Err e) (inr p) = let same : e ≡ NoMemory = let k : no_answer e ≡ Err NoMemory = p.0 in cc in sym (ap (λ (x : Refusal). faultless (no_answer x)) same)
  copies_faultless (Err x) (Ok v) h = absurd cc
  copies_faultless (Err x) (Err e) h = let same : e ≡ x = let k : no_answer e ≡ Err x = h in cc in ap (λ (y : Refusal). faultless (no_answer y)) (sym same)

-- ---- where nothing newer is found, runs are looked through

module _ (area : ℕ) (key : Bytes) (n : ℕ) (runs : List (List Table)) (found : Outcome) (old new : Source) where
  unless_counted : (newer : Option Version) → LooksUpUnless newer area key n runs found old new → IsCounted (length runs) found old.medium.calls new.medium.calls
  unless_counted None h = looks_counted area key n runs found old new h
  unless_counted (Some v) h = subst (λ (s : Source). IsCounted (length runs) found old.medium.calls s.medium.calls) (sym h.1) (nothing_counted (length runs) found (Some v) old.medium.calls h.0)

  unless_only_reads : (newer : Option Version) → LooksUpUnless newer area key n runs found old new → OnlyReads old.medium new.medium
  unless_only_reads None h = looks_only_reads area key n runs found old new h
  unless_only_reads (Some v) h = subst (λ (s : Source). OnlyReads old.medium s.medium) (sym h.1) (no_reads old.medium)

  unless_numbered : (newer : Option Version) (number : ℕ) → LooksUpUnless newer area key n runs found old new → AreNumberedBelow number runs → IsNumberedBelow number old.cache → IsNumberedBelow number new.cache
  unless_numbered None number h all below = looks_numbered area key n number runs found old new h all below
  unless_numbered (Some v) number h all below = subst (λ (s : Source). IsNumberedBelow number s.cache) (sym h.1) below

  unless_fresh : (newer : Option Version) (place : BlockName → Option ℕ) (sectors : List (List ℕ)) → LooksUpUnless newer area key n runs found old new → ArePlaced place area runs → Stays place sectors old → Stays place sectors new
  unless_fresh None place sectors h placed st = looks_fresh place sectors area key n runs found old new h placed st
  unless_fresh (Some v) place sectors h placed st = subst (Stays place sectors) (sym h.1) st

-- ---- a whole look-up

module _ {Z : Type 0} (memory sealed : List Version) (runs : List (List Table)) (area : ℕ) (key : Bytes) (n : ℕ) (result : Result (Option (Vec ℕ Z)) Refusal) (old new : Source)
    (look : IsLookUp memory sealed runs area key n (answer_of result) old new) where
  abbrev newer : Option Version
  newer = option_or (newest key n memory) (newest key n sealed)

  pub look_counted : IsCounted (length runs) look.found old.medium.calls new.medium.calls
  look_counted = unless_counted area key n runs look.found old new newer look.looks

  pub look_only_reads : OnlyReads old.medium new.medium
  look_only_reads = unless_only_reads area key n runs look.found old new newer look.looks

  pub look_faults : new.medium.calls.faults ≡ faults_after (faultless result) old.medium.calls.faults
  look_faults = look_counted.faults ∙ ap (λ b. faults_after b old.medium.calls.faults) (copies_faultless look.found result look.answers)

  pub look_numbered : (number : ℕ) → AreNumberedBelow number runs → IsNumberedBelow number old.cache → IsNumberedBelow number new.cache
  look_numbered number all below = unless_numbered area key n runs look.found old new newer number look.looks all below

  pub look_fresh : (place : BlockName → Option ℕ) → IsTrue old.medium.lasting.tells → ArePlaced place area runs → IsFresh place (seen (disk old.medium)) old.cache → IsFresh place (seen (disk new.medium)) new.cache
  look_fresh place tells placed fresh =
      let st = unless_fresh area key n runs look.found old new newer place (seen (disk old.medium)) look.looks placed (tells, refl, fresh) in
      subst (λ (held : List (List ℕ)). IsFresh place held new.cache) (sym st.1) st.2

module _ {Z : Type 0} (memory sealed : List Version) (runs : List (List Table)) (area : ℕ) (key : Bytes) (n : ℕ) where
  abbrev refused : Refusal → Result (Option (Vec ℕ Z)) Refusal
  refused e = Err e

  pub look_refused : (result : Result (Option (Vec ℕ Z)) Refusal) (old new : Source) → IsLookUp memory sealed runs area key n (answer_of result) old new
      → IfErr result (λ refusal. (refusal ≡ Io) ⊎ ((refusal ≡ BadTable) ⊎ (refusal ≡ NoMemory)))
  look_refused (Ok value) old new look = tt
  look_refused (Err e) old new look = copies_refusal look.found e look.answers (look_counted memory sealed runs area key n (refused e) old new look).refusals

  pub look_stops : (result : Result (Option (Vec ℕ Z)) Refusal) (old new : Source) → IsLookUp memory sealed runs area key n (answer_of result) old new
      → IfErr result (λ refusal. refusal ≡ Io → IsTrue new.medium.calls.last_faulted)
  look_stops (Ok value) old new look = tt
  look_stops (Err e) old new look = λ io. (look_counted memory sealed runs area key n (refused e) old new look).stops (copies_io look.found e look.answers io)

  pub look_answers : (result : Result (Option (Vec ℕ Z)) Refusal) (old new : Source) → IsLookUp memory sealed runs area key n (answer_of result) old new
      → (place : BlockName → Option ℕ) → AllByRecursion IsRun runs → IsReadable place area runs old → IsVersionOrder (versions_in_places memory sealed runs)
      → MatchResult result (λ value. option_map (λ v. v.items) value ≡ finite.get (map_of (joined (versions_in_places memory sealed runs)) n) key)
      (λ refusal. (refusal ≡ Io) ⊎ ((refusal ≡ NoMemory) × (is_some (finite.get (map_of (joined (versions_in_places memory sealed runs)) n) key) ≡ true)))
  look_answers (Ok value) old new look place r readable order = value_found place memory sealed runs area key n r (option_map (λ v. v.items) value) old new look readable order
  look_answers (Err e) old new look place r readable order = refusal_found place memory sealed runs area key n r e old new look readable order

-- ---- a test

met_faultless : (found : Outcome) (condition : Condition) (result : Result Bool Refusal) → result ≡ met_by found condition → faultless found ≡ faultless result
met_faultless (Ok o) condition result is = sym (ap (λ (r : Result Bool Refusal). faultless r) is)
met_faultless (Err e) condition result is = sym (ap (λ (r : Result Bool Refusal). faultless r) is)

met_refusal : (found : Outcome) (condition : Condition) (e : Refusal) → Err e ≡ met_by found condition → found ≡ Err e
met_refusal (Ok o) condition e is = absurd cc
met_refusal (Err x) condition e is = let same : e ≡ x = cc in ap (λ (y : Refusal). Err y) (sym same)

module _ (memory sealed : List Version) (runs : List (List Table)) (area : ℕ) (condition : Condition) (n : ℕ) (result : Result Bool Refusal) (old new : Source) (test : IsTest memory sealed runs area condition n result old new) where
  abbrev in_memory : Option Version
  in_memory = option_or (newest condition.key n memory) (newest condition.key n sealed)

  pub test_counted : IsCounted (length runs) test.found old.medium.calls new.medium.calls
  test_counted = unless_counted area condition.key n runs test.found old new in_memory test.looks

  pub test_only_reads : OnlyReads old.medium new.medium
  test_only_reads = unless_only_reads area condition.key n runs test.found old new in_memory test.looks

  pub test_faults : new.medium.calls.faults ≡ faults_after (faultless result) old.medium.calls.faults
  test_faults = test_counted.faults ∙ ap (λ b. faults_after b old.medium.calls.faults) (met_faultless test.found condition result test.answers)

  pub test_numbered : (number : ℕ) → AreNumberedBelow number runs → IsNumberedBelow number old.cache → IsNumberedBelow number new.cache
  test_numbered number all below = unless_numbered area condition.key n runs test.found old new in_memory number test.looks all below

  pub test_fresh : (place : BlockName → Option ℕ) → IsTrue old.medium.lasting.tells → ArePlaced place area runs → IsFresh place (seen (disk old.medium)) old.cache → IsFresh place (seen (disk new.medium)) new.cache
  test_fresh place tells placed fresh =
      let st = unless_fresh area condition.key n runs test.found old new in_memory place (seen (disk old.medium)) test.looks placed (tells, refl, fresh) in
      subst (λ (held : List (List ℕ)). IsFresh place held new.cache) (sym st.1) st.2

module _ (memory sealed : List Version) (runs : List (List Table)) (area : ℕ) (condition : Condition) (n : ℕ) where
  pub test_refused : (result : Result Bool Refusal) (old new : Source) → IsTest memory sealed runs area condition n result old new → IfErr result (λ refusal. (refusal ≡ Io) ⊎ (refusal ≡ BadTable))
  test_refused (Ok met) old new test = tt
  test_refused (Err e) old new test = (test_counted memory sealed runs area condition n (Err e) old new test).refusals e (met_refusal test.found condition e test.answers)

  pub test_stops : (result : Result Bool Refusal) (old new : Source) → IsTest memory sealed runs area condition n result old new → IfErr result (λ refusal. refusal ≡ Io → IsTrue new.medium.calls.last_faulted)
  test_stops (Ok met) old new test = tt
  test_stops (Err e) old new test = λ io.
      (test_counted memory sealed runs area condition n (Err e) old new test).stops (met_refusal test.found condition e test.answers ∙ ap (λ (x : Refusal). Err x) io)

  pub test_answers : (result : Result Bool Refusal) (old new : Source) → IsTest memory sealed runs area condition n result old new
      → (place : BlockName → Option ℕ) → AllByRecursion IsRun runs → IsReadable place area runs old → IsVersionOrder (versions_in_places memory sealed runs)
      → MatchResult result (λ met. met ≡ is_met (map_of (joined (versions_in_places memory sealed runs)) n) condition) (λ refusal. refusal ≡ Io)
  test_answers (Ok met) old new test place r readable order = met_found place memory sealed runs area condition n r met old new test readable order
  test_answers (Err e) old new test place r readable order = refusal_tested place memory sealed runs area condition n r e old new test readable order
