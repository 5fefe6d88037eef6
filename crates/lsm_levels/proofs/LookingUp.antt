-- What holds of look-ups, step by step.
use Rattle.std.proofs.Common.{◌≡◌, ◌⊎◌, inl, inr, ℕ, zero, suc, ◌*◌, ◌<◌, ◌≤◌, ◌==◌, Bool, true, false, cond, IsTrue, is_some, List, [], ◌∷◌, ◌++◌, length, Option, Some, None, Result, Ok, Err, refl, ap, sym, subst, ◌∙◌, arith}
use Rattle.std.specs.Prelude.{IfSome}
use Rattle.std.specs.List.{AllByRecursion}
use Rattle.lsm_device.specs.declared.refusal.Refusal.{Refusal}
use Rattle.lsm_device.specs.declared.refusal.Refusal.TheVariants.{Io, BadTable}
use Rattle.lsm_device.specs.declared.calls.Calls.{Calls}
use Rattle.lsm_device.specs.Calls.{AtMost, faults_after}
use Rattle.lsm_device.specs.Disk.{seen}
use Rattle.lsm_device.specs.Medium.{Medium, disk}
use Rattle.lsm_device.specs.History.{present}
use Rattle.lsm_device.specs.Refusals.{faultless}
use Rattle.lsm_device.proofs.Counting.{AtMost-joined, AtMost-wider}
use Rattle.lsm_codec.specs.Keys.{Bytes}
use Rattle.lsm_codec.specs.Reading.{number_at}
use Rattle.lsm_codec.specs.Versions.{Version, is_version_of}
use Rattle.lsm_codec.specs.Entries.{are_zeros, entry_at, entries_from, entries_in}
use Rattle.lsm_cache.specs.declared.name.BlockName.{BlockName}
use Rattle.lsm_cache.specs.Recency.{bytes_of, sectors_read}
use Rattle.lsm_cache.specs.Reads.{block_at}
use Rattle.lsm_cache.specs.Fresh.{IsFresh, IsNumberedBelow}
use Rattle.lsm_cache.proofs.Kept.{kept_fresh, still_fresh, still_below}
use Rattle.lsm_device.proofs.RunCounts.{reads_are, fault_is, one_fault, faults_made}
use Rattle.lsm_levels.specs.Tables.{Table}
use Rattle.lsm_levels.specs.Asking.{Source, OnlyReads, IsGiven, Says, said, said_in, asked_of_run}
use Rattle.lsm_levels.specs.Lookups.{EndsOr, LooksUp}
use Rattle.lsm_levels.specs.Stored.{IsPlaced}
use Rattle.lsm_levels.specs.declared.placed.PlacedBlock.{PlacedBlock}
use Rattle.lsm_levels.proofs.AskedLaws.{of_run}

abbrev pub Outcome : Type 0
Outcome = Result (Option Version) Refusal

-- either way a look-up ends
pub ends_or : {E G C : Type 0} (first : Outcome) → (E → C) → (first ≡ Ok None → G → C) → EndsOr first E G → C
ends_or (Ok None) e g h = g refl h
ends_or (Ok (Some v)) e g h = e h
ends_or (Err x) e g h = e h

pub ends_map : {E G F H : Type 0} (first : Outcome) → (E → F) → (G → H) → EndsOr first E G → EndsOr first F H
ends_map (Ok None) e g h = g h
ends_map (Ok (Some v)) e g h = e h
ends_map (Err x) e g h = e h

-- ---- what a block says is a version, none, or BadTable

abbrev pub IsBad : Result Version Refusal → Type 0
IsBad (Ok v) = Unit {0}
IsBad (Err e) = e ≡ BadTable

pub bad_from : (n : ℕ) (bytes : List ℕ) → AllByRecursion IsBad (entries_from n bytes)
unfolding entries_from
bad_from zero bytes = elim (are_zeros bytes) as (λ b. AllByRecursion IsBad (cond b [] (Err BadTable ∷ []))) [ true ↦ tt | false ↦ (refl, tt) ]
bad_from (suc n) bytes = elim (entry_at bytes) as (λ o. AllByRecursion IsBad (elim o as (λ _. List (Result Version Refusal)) [ None ↦ Err BadTable ∷ [] | Some x ↦ Ok x.0 ∷ entries_from n x.1 ])) [
  | None ↦ (refl, tt)
  | Some x ↦ (tt, bad_from n x.1)
]

pub bad_in : (bytes : List ℕ) → AllByRecursion IsBad (entries_in bytes)
unfolding entries_in
bad_in bytes = elim (number_at 2 bytes) as (λ o. AllByRecursion IsBad (elim o as (λ _. List (Result Version Refusal)) [ None ↦ Err BadTable ∷ [] | Some x ↦ cond (x.0 == 0) (Err BadTable ∷ []) (entries_from x.0 x.1) ])) [
  | None ↦ (refl, tt)
  | Some x ↦ elim (x.0 == 0) as (λ b. AllByRecursion IsBad (cond b (Err BadTable ∷ []) (entries_from x.0 x.1))) [ true ↦ (refl, tt) | false ↦ bad_from x.0 x.1 ]
]

-- what is found, or BadTable
abbrev pub IsFair : Outcome → Type 0
IsFair (Ok o) = Unit {0}
IsFair (Err e) = e ≡ BadTable

said_fair : (key : Bytes) (n : ℕ) (items : List (Result Version Refusal)) → AllByRecursion IsBad items → IsFair (said key n items)
said_fair key n [] all = tt
said_fair key n (Err e ∷ rest) all = all.0
said_fair key n (Ok v ∷ rest) all = elim (is_version_of key n v) as (λ b. IsFair (cond b (Ok (Some v)) (said key n rest))) [ true ↦ tt | false ↦ said_fair key n rest all.1 ]

pub says_fair : (key : Bytes) (n : ℕ) (bytes : List ℕ) → IsFair (said_in key n bytes)
says_fair key n bytes = said_fair key n (entries_in bytes) (bad_in bytes)

abbrev refused : Refusal → Outcome
refused e = Err e

fair_faultless : (found : Outcome) → IsFair found → faultless found ≡ true
fair_faultless (Ok o) h = refl
fair_faultless (Err e) h = ap (λ (x : Refusal). faultless (refused x)) h

-- ---- how calls are counted

-- `count` runs were asked: at most eight reads for each, a fault just where Io is found, and then in the last call.
pub record IsCounted (count : ℕ) (found : Outcome) (old new : Calls) : Type 0 where
  pub at_most : AtMost (8 * count) 0 0 old new
  pub faults : new.faults ≡ faults_after (faultless found) old.faults
  pub stops : found ≡ Err Io → IsTrue new.last_faulted
  pub refusals : (e : Refusal) → found ≡ Err e → (e ≡ Io) ⊎ (e ≡ BadTable)

none_made : (count : ℕ) (c : Calls) → AtMost count 0 0 c c
none_made count c = record { read = (0, omega arith, refl); written = (0, omega arith, refl); synced = (0, omega arith, refl) }

not_io : (found : Outcome) → IsFair found → found ≡ Err Io → ⊥
not_io found fair e = let no : true ≡ false = sym (fair_faultless found fair) ∙ ap faultless e in cc

fair_refusals : (found : Outcome) → IsFair found → (e : Refusal) → found ≡ Err e → (e ≡ Io) ⊎ (e ≡ BadTable)
fair_refusals (Ok o) fair e is = absurd cc
fair_refusals (Err x) fair e is = let same : x ≡ e = cc in inr (sym same ∙ fair)

pub same_refusal : {X : Type 0} (a b : Refusal) (r : Result X Refusal) → r ≡ Err a → r ≡ Err b → a ≡ b
same_refusal a b (Ok x) p q = absurd cc
same_refusal a b (Err y) p q = let one : y ≡ a = cc in let other : y ≡ b = cc in sym one ∙ other

-- where nothing is read
pub nothing_counted : (count : ℕ) (found : Outcome) (o : Option Version) (c : Calls) → found ≡ Ok o → IsCounted count found c c
nothing_counted count found o c e =
    let fair : IsFair found = subst IsFair (sym e) tt in
    record {
      at_most = none_made (8 * count) c;
      faults = sym (ap (λ (f : Outcome). faults_after (faultless f) c.faults) e);
      stops = λ io. absurd (not_io found fair io);
      refusals = fair_refusals found fair;
    }

io_refusals : (found : Outcome) → found ≡ Err Io → (e : Refusal) → found ≡ Err e → (e ≡ Io) ⊎ (e ≡ BadTable)
io_refusals found io e is = inl (same_refusal e Io found is io)

pub says_counted : (key : Bytes) (n : ℕ) (o : Option PlacedBlock) (found : Outcome) (old new : Source) → Says key n o found old new → IsCounted 1 found old.medium.calls new.medium.calls
says_counted key n None found old new h = subst (λ (s : Source). IsCounted 1 found old.medium.calls s.medium.calls) (sym h.1) (nothing_counted 1 found None old.medium.calls h.0)
says_counted key n (Some b) found old new (inl s) =
    let count : ℕ = sectors_read b.name old.cache in
    let few : count ≤ 8 = elim (is_some (bytes_of b.name old.cache)) as (λ y. cond y 0 8 ≤ 8) [ true ↦ omega arith | false ↦ omega arith ] in
    let fair : IsFair found = subst IsFair (sym s.is) (says_fair key n s.bytes) in
    record {
      at_most = AtMost-wider count 0 0 (8 * 1) 0 0 _ _ (omega (arith, few)) (omega arith) (omega arith) (reads_are count _ _ s.given.counted);
      faults = ap (λ (c : Calls). c.faults) s.given.counted ∙ faults_made count old.medium.calls ∙ sym (ap (λ (y : Bool). faults_after y old.medium.calls.faults) (fair_faultless found fair));
      stops = λ e. absurd (not_io found fair e);
      refusals = fair_refusals found fair;
    }
says_counted key n (Some b) found old new (inr d) =
    record {
      at_most = AtMost-wider 8 0 0 (8 * 1) 0 0 _ _ (omega arith) (omega arith) (omega arith) (fault_is 8 _ _ d.1.faulted);
      faults = one_fault 8 _ _ d.1.faulted ∙ sym (ap (λ (f : Outcome). faults_after (faultless f) old.medium.calls.faults) d.0);
      stops = λ e. ap (λ (c : Calls). c.last_faulted) d.1.faulted.counted;
      refusals = io_refusals found d.0;
    }

counted_past : (count : ℕ) (first found : Outcome) (old mid new : Calls) → first ≡ Ok None → IsCounted 1 first old mid → IsCounted count found mid new → IsCounted (suc count) found old new
counted_past count first found old mid new none one more = record {
  at_most = AtMost-joined (8 * 1) 0 0 (8 * count) 0 0 (8 * suc count) 0 0 old mid new (omega arith) (omega arith) (omega arith) one.at_most more.at_most;
  faults = more.faults ∙ ap (faults_after (faultless found)) (one.faults ∙ ap (λ (f : Outcome). faults_after (faultless f) old.faults) none);
  stops = more.stops;
  refusals = more.refusals;
}

counted_here : (count : ℕ) (first found : Outcome) (old new : Calls) → found ≡ first → IsCounted 1 first old new → IsCounted (suc count) found old new
counted_here count first found old new same one = record {
  at_most = AtMost-wider (8 * 1) 0 0 (8 * suc count) 0 0 old new (omega arith) (omega arith) (omega arith) one.at_most;
  faults = one.faults ∙ sym (ap (λ (f : Outcome). faults_after (faultless f) old.faults) same);
  stops = λ e. one.stops (sym same ∙ e);
  refusals = λ e is. one.refusals e (sym same ∙ is);
}

pub looks_counted : (area : ℕ) (key : Bytes) (n : ℕ) (runs : List (List Table)) (found : Outcome) (old new : Source) → LooksUp area key n runs found old new → IsCounted (length runs) found old.medium.calls new.medium.calls
looks_counted area key n [] found old new h = subst (λ (s : Source). IsCounted 0 found old.medium.calls s.medium.calls) (sym h.1) (nothing_counted 0 found None old.medium.calls h.0)
looks_counted area key n (run ∷ older) found old new h =
    let one = says_counted key n (asked_of_run area key n run) h.0 old h.1 h.2 in
    ends_or h.0
    (λ ends. counted_here (length older) h.0 found old.medium.calls new.medium.calls ends.0 (subst (λ (s : Source). IsCounted 1 h.0 old.medium.calls s.medium.calls) (sym ends.1) one))
    (λ none goes. counted_past (length older) h.0 found old.medium.calls h.1.medium.calls new.medium.calls none one (looks_counted area key n older found h.1 new goes))
    h.3

-- ---- what each step keeps

pub looks_keep : (area : ℕ) (key : Bytes) (n : ℕ) (P : Source → Type 0) (Q : List Table → Type 0) →
    ((run : List Table) → Q run → (found : Outcome) (old new : Source) → Says key n (asked_of_run area key n run) found old new → P old → P new) →
    (runs : List (List Table)) → AllByRecursion Q runs → (found : Outcome) (old new : Source) → LooksUp area key n runs found old new → P old → P new
looks_keep area key n P Q step [] all found old new h p = subst P (sym h.1) p
looks_keep area key n P Q step (run ∷ older) all found old new h p =
    let q = step run all.0 h.0 old h.1 h.2 p in
    ends_or h.0 (λ ends. subst P (sym ends.1) q) (λ none goes. looks_keep area key n P Q step older all.1 found h.1 new goes q) h.3

all_trivial : {X : Type 0} (xs : List X) → AllByRecursion (λ x. Unit {0}) xs
all_trivial [] = tt
all_trivial (x ∷ xs) = (tt, all_trivial xs)

pub no_reads : (m : Medium) → OnlyReads m m
no_reads m = record { same_size = refl; same_lasting = refl; unchanged = λ t. refl }

pub more_reads : (a b c : Medium) → OnlyReads a b → OnlyReads b c → OnlyReads a c
more_reads a b c one two = record {
  same_size = two.same_size ∙ one.same_size;
  same_lasting = two.same_lasting ∙ one.same_lasting;
  unchanged = λ t. two.unchanged (ap (λ l. l.tells) one.same_lasting ∙ t) ∙ one.unchanged t;
}

pub says_only_reads : (key : Bytes) (n : ℕ) (o : Option PlacedBlock) (found : Outcome) (old new : Source) → Says key n o found old new → OnlyReads old.medium new.medium
says_only_reads key n None found old new h = subst (λ (s : Source). OnlyReads old.medium s.medium) (sym h.1) (no_reads old.medium)
says_only_reads key n (Some b) found old new (inl s) = s.given.only_reads
says_only_reads key n (Some b) found old new (inr d) = d.1.only_reads

pub looks_only_reads : (area : ℕ) (key : Bytes) (n : ℕ) (runs : List (List Table)) (found : Outcome) (old new : Source) → LooksUp area key n runs found old new → OnlyReads old.medium new.medium
looks_only_reads area key n runs found old new h =
    looks_keep area key n (λ s. OnlyReads old.medium s.medium) (λ run. Unit {0})
    (λ run q f a b says so_far. more_reads old.medium a.medium b.medium so_far (says_only_reads key n (asked_of_run area key n run) f a b says))
    runs (all_trivial runs) found old new h (no_reads old.medium)

says_numbered : (key : Bytes) (n number : ℕ) (o : Option PlacedBlock) → ((b : PlacedBlock) → o ≡ Some b → b.name.table < number) → (found : Outcome) (old new : Source) → Says key n o found old new → IsNumberedBelow number old.cache → IsNumberedBelow number new.cache
says_numbered key n number None low found old new h below = subst (λ (s : Source). IsNumberedBelow number s.cache) (sym h.1) below
says_numbered key n number (Some b) low found old new (inl s) below = still_below number b.name s.bytes old.cache new.cache (low b refl) below s.given.keeps
says_numbered key n number (Some b) low found old new (inr d) below = subst (IsNumberedBelow number) (sym d.1.stays) below

pub looks_numbered : (area : ℕ) (key : Bytes) (n number : ℕ) (runs : List (List Table)) (found : Outcome) (old new : Source) → LooksUp area key n runs found old new
    → AllByRecursion (AllByRecursion (λ t. t.number < number)) runs → IsNumberedBelow number old.cache → IsNumberedBelow number new.cache
looks_numbered area key n number runs found old new h all below =
    looks_keep area key n (λ s. IsNumberedBelow number s.cache) (AllByRecursion (λ t. t.number < number))
    (λ run q f a b says so_far.
    says_numbered key n number (asked_of_run area key n run)
    (λ p e. of_run area key n (λ t. t.number < number) (λ p. p.name.table < number) (λ t i low lt. low) run p q e) f a b says so_far)
    runs all found old new h below

-- ---- fresh caches

module _ (place : BlockName → Option ℕ) (sectors : List (List ℕ)) where
  -- the block that is given is the one that stands there
  pub given_bytes : (b : PlacedBlock) (bytes : List ℕ) (old new : Source) → place b.name ≡ Some b.sector → IsTrue old.medium.lasting.tells → seen (disk old.medium) ≡ sectors → IsFresh place sectors old.cache → IsGiven b bytes old new → bytes ≡ block_at sectors b.sector
  given_bytes b bytes old new stands tells same fresh g =
      elim (bytes_of b.name old.cache) as (λ o. bytes_of b.name old.cache ≡ o → IfSome o (λ kept. bytes ≡ kept) → bytes ≡ block_at sectors b.sector) [
        | Some k ↦ λ e h. h ∙ kept_fresh place sectors b.name b.sector k old.cache stands fresh e
        | None ↦ λ e h. g.read tells e ∙ ap (λ (s : List (List ℕ)). block_at s b.sector) same
      ] refl g.kept

  abbrev pub Stays : Source → Type 0
  Stays s = IsTrue s.medium.lasting.tells × (seen (disk s.medium) ≡ sectors) × IsFresh place sectors s.cache

  stays_read : (old new : Source) → OnlyReads old.medium new.medium → IsFresh place sectors new.cache → Stays old → Stays new
  stays_read old new reads fresh st =
      (ap (λ l. l.tells) reads.same_lasting ∙ st.0, ap (λ h. seen (present h)) (reads.unchanged st.0) ∙ st.1, fresh)

  pub says_fresh : (key : Bytes) (n : ℕ) (o : Option PlacedBlock) → ((b : PlacedBlock) → o ≡ Some b → place b.name ≡ Some b.sector) → (found : Outcome) (old new : Source) → Says key n o found old new → Stays old → Stays new
  says_fresh key n None stand found old new h st = subst Stays (sym h.1) st
  says_fresh key n (Some b) stand found old new (inl s) st =
      let its = given_bytes b s.bytes old new (stand b refl) st.0 st.1 st.2 s.given in
      stays_read old new s.given.only_reads (still_fresh place sectors b.name b.sector s.bytes old.cache (stand b refl) st.2 new.cache its s.given.keeps) st
  says_fresh key n (Some b) stand found old new (inr d) st = stays_read old new d.1.only_reads (subst (IsFresh place sectors) (sym d.1.stays) st.2) st

  pub placed_stands : (area : ℕ) (key : Bytes) (n : ℕ) (run : List Table) → AllByRecursion (IsPlaced place area) run → (b : PlacedBlock) → asked_of_run area key n run ≡ Some b → place b.name ≡ Some b.sector
  placed_stands area key n run all b e = of_run area key n (IsPlaced place area) (λ b. place b.name ≡ Some b.sector) (λ t i placed lt. placed.at i lt) run b all e

  pub looks_fresh : (area : ℕ) (key : Bytes) (n : ℕ) (runs : List (List Table)) (found : Outcome) (old new : Source) → LooksUp area key n runs found old new → AllByRecursion (AllByRecursion (IsPlaced place area)) runs → Stays old → Stays new
  looks_fresh area key n runs found old new h all st =
      looks_keep area key n Stays (AllByRecursion (IsPlaced place area))
      (λ run q f a b says so_far. says_fresh key n (asked_of_run area key n run) (placed_stands area key n run q) f a b says so_far)
      runs all found old new h st

-- ---- joining

-- one look-up after another
pub looks_append : (area : ℕ) (key : Bytes) (n : ℕ) (newer older : List (List Table)) (first found : Outcome) (old mid new : Source) → LooksUp area key n newer first old mid
    → EndsOr first ((found ≡ first) × (new ≡ mid)) (LooksUp area key n older found mid new) → LooksUp area key n (newer ++ older) found old new
looks_append area key n [] older first found old mid new h ends =
    let goes : LooksUp area key n older found mid new = subst (λ (f : Outcome). EndsOr f ((found ≡ f) × (new ≡ mid)) (LooksUp area key n older found mid new)) h.0 ends in
    subst (λ (s : Source). LooksUp area key n older found s new) h.1 goes
looks_append area key n (run ∷ newer) older first found old mid new h ends =
    (h.0, h.1, h.2, joined h.0 (λ k. looks_append area key n newer older first found h.1 mid new k ends) h.3)
  where
    joined : (f : Outcome) → (LooksUp area key n newer first h.1 mid → LooksUp area key n (newer ++ older) found h.1 new) → EndsOr f ((first ≡ f) × (mid ≡ h.1)) (LooksUp area key n newer first h.1 mid)
        → EndsOr f ((found ≡ f) × (new ≡ h.1)) (LooksUp area key n (newer ++ older) found h.1 new)
    joined (Ok None) later k = later k
    joined (Ok (Some v)) later k =
        let e : (found ≡ Ok (Some v)) × (new ≡ mid) = subst (λ (f : Outcome). EndsOr f ((found ≡ f) × (new ≡ mid)) (LooksUp area key n older found mid new)) k.0 ends in
        (e.0, e.1 ∙ k.1)
    joined (Err x) later k =
        let e : (found ≡ Err x) × (new ≡ mid) = subst (λ (f : Outcome). EndsOr f ((found ≡ f) × (new ≡ mid)) (LooksUp area key n older found mid new)) k.0 ends in
        (e.0, e.1 ∙ k.1)
