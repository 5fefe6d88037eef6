-- What is kept of an open log.
use Rattle.std.proofs.Common.{◌≡◌, ℕ, suc, ◌+◌, ◌≤◌, ◌^◌, Bool, true, List, [], ◌∷◌, ◌++◌, length, take, drop, refl, sym, ◌∙◌, ap, subst, arith, append_assoc, add-zero}
use Rattle.std.specs.Prelude.{All, sum_by}
use Rattle.std.proofs.lemmas.List.{append-nil, take_all, length-take, length-take-le, length-drop, length-append, length_push}
use Rattle.std.proofs.lemmas.List.Elements.{All-nil, All-cons, All-head, All-tail, All-take, All-push}
use Rattle.std.proofs.lemmas.List.Sums.{sum_by-append, sum_by-cons}
use Rattle.lsm_codec.specs.BatchText.{IsBatch, sectors_of}
use Rattle.lsm_codec.specs.Map.{Operation}
use Rattle.lsm_device.specs.Disk.{Disk, Write, written, image, seen, synced}
use Rattle.lsm_device.specs.History.{present, EachSince}
use Rattle.lsm_device.specs.Outcomes.{Leaves}
use Rattle.lsm_device.specs.Areas.{area, disk_in, IsOutside}
use Rattle.lsm_device.specs.Runs.{run_at, grown, HasSomeOf}
use Rattle.lsm_device.specs.Memory.{length-written}
use Rattle.lsm_device.proofs.Areas.{mask_in, area-image, area-seen, disk_in-synced, disk_in-grown, writes_in-run_at, writes_in-none}
use Rattle.lsm_device.proofs.Moments.{unchanged, weaker}
use Rattle.lsm_device.proofs.Runs.{take-run, grown-nil}
use Rattle.lsm_log.specs.declared.log.Log.{Log}
use Rattle.lsm_log.specs.Batches.{IsBetween, batch_sectors, all_sectors}
use Rattle.lsm_log.specs.Replay.{replay}
use Rattle.lsm_log.specs.Opened.{is_of, AreNumbers, Holds, IsOpen, IsFree, TakesBatch, batches_in, IsOfLog, IsGrownBy}
use Rattle.lsm_log.proofs.Replaying.{IsNumbered, batch_of_epoch, length-batch, length-all, replay-stops, all_sectors-append}
use Rattle.lsm_log.proofs.Regions.{none_stops, image_between, seen_replay, stands_replay, synced_holds, grown_holds}

abbrev Sectors : Type 0
Sectors = List (List ℕ)

abbrev Batches : Type 0
Batches = List (List Operation)

-- a batch after others
one_more : (epoch first : ℕ) (batches : Batches) (batch : List Operation) → all_sectors epoch first (batches ++ batch ∷ []) ≡ all_sectors epoch first batches ++ batch_sectors epoch (first + length batches) batch
one_more epoch first batches batch = all_sectors-append epoch first batches (batch ∷ []) ∙ ap (λ (l : Sectors). all_sectors epoch first batches ++ l) (append-nil (batch_sectors epoch (first + length batches) batch))

module _ (log : Log) (d : Disk) (opened : IsOpen log d) where
  abbrev added_sectors : Sectors
  added_sectors = all_sectors log.epoch (log.first + length opened.synced) opened.unsynced

  -- what reads give, and what stands
  pub read_batches : batches_in log (seen d) ≡ opened.synced ++ opened.unsynced
  read_batches = ap (replay log.epoch log.first) (area-seen log.start log.sectors d) ∙ seen_replay opened.holds opened.unsynced opened.batches opened.numbers refl

  pub standing_batches : batches_in log d.stands ≡ opened.synced
  standing_batches = stands_replay opened.holds opened.unsynced opened.batches opened.numbers

  pub open_whole : All IsBatch (batches_in log (seen d))
  open_whole = subst (All IsBatch) (sym read_batches) opened.batches

  pub open_next : log.next ≡ log.first + length (batches_in log (seen d))
  open_next = omega (arith, opened.next, ap length read_batches, length-append opened.synced opened.unsynced)

  pub open_used : log.used ≡ sum_by sectors_of (batches_in log (seen d))
  open_used = opened.used ∙ ap (sum_by sectors_of) (sym read_batches)

  -- the place after all sectors of the log
  place : log.used ≡ length (all_sectors log.epoch log.first opened.synced) + length added_sectors
  place =
      opened.used ∙ sum_by-append sectors_of opened.synced opened.unsynced
      ∙ ap (λ (n : ℕ). n + sum_by sectors_of opened.unsynced) (sym (length-all log.epoch log.first opened.synced))
      ∙ ap (λ (n : ℕ). length (all_sectors log.epoch log.first opened.synced) + n) (sym (length-all log.epoch (log.first + length opened.synced) opened.unsynced))

  -- every crash leaves all that stands and a beginning of what pends
  between : (mask : List Bool) → IsBetween opened.synced (opened.synced ++ opened.unsynced) (batches_in log (image mask d))
  between mask =
      subst (λ (l : Sectors). IsBetween opened.synced (opened.synced ++ opened.unsynced) (replay log.epoch log.first l)) (sym (area-image log.start log.sectors mask d))
      (image_between opened.holds opened.unsynced opened.batches opened.numbers (length added_sectors) (sym (take_all (length added_sectors) added_sectors (omega arith))) (mask_in log.start log.sectors mask d.pending))

  pub open_leaves : Leaves (λ c. IsBetween (batches_in log d.stands) (batches_in log (seen d)) (batches_in log c)) d
  open_leaves mask =
      subst (λ (l : Batches). IsBetween l (batches_in log (seen d)) (batches_in log (image mask d))) (sym standing_batches)
      (subst (λ (l : Batches). IsBetween opened.synced l (batches_in log (image mask d))) (sym read_batches) (between mask))

  -- after a sync of the region
  pub open_synced : (new : Disk) → disk_in log.start log.sectors new ≡ synced (disk_in log.start log.sectors d) → log.start + log.sectors ≤ length new.stands → IsOpen log new
  open_synced new is within = record {
    synced = opened.synced ++ opened.unsynced;
    unsynced = [];
    batches = subst (All IsBatch) (sym (append-nil (opened.synced ++ opened.unsynced))) opened.batches;
    numbers = subst (AreNumbers log.epoch log.first) (omega (arith, length-append opened.synced opened.unsynced)) opened.numbers;
    holds = subst (Holds log.epoch log.first (opened.synced ++ opened.unsynced) []) (sym is) (synced_holds opened.holds opened.unsynced opened.batches opened.numbers refl);
    within = within;
    next = omega (arith, opened.next, length-append opened.synced opened.unsynced);
    used = opened.used ∙ ap (sum_by sectors_of) (sym (append-nil (opened.synced ++ opened.unsynced)));
  }

  -- while its region stays
  pub open_same : (new : Disk) → disk_in log.start log.sectors new ≡ disk_in log.start log.sectors d → log.start + log.sectors ≤ length new.stands → IsOpen log new
  open_same new is within = record {
    synced = opened.synced;
    unsynced = opened.unsynced;
    batches = opened.batches;
    numbers = opened.numbers;
    holds = subst (Holds log.epoch log.first opened.synced added_sectors) (sym is) opened.holds;
    within = within;
    next = opened.next;
    used = opened.used;
  }

  pub open_after_sync : IsOpen log (synced d)
  open_after_sync = open_synced (synced d) (disk_in-synced log.start log.sectors d) (omega (arith, opened.within, length-written (length d.stands) d.stands d.pending refl))

  abbrev region : Disk → Disk
  region new = disk_in log.start log.sectors new

  -- what reads give and what stands, by the region
  reads_of : (new e : Disk) → disk_in log.start log.sectors new ≡ e → batches_in log (seen new) ≡ replay log.epoch log.first (seen e)
  reads_of new e is = ap (replay log.epoch log.first) (area-seen log.start log.sectors new ∙ ap seen is)

  stands_of : (new e : Disk) → disk_in log.start log.sectors new ≡ e → batches_in log new.stands ≡ replay log.epoch log.first e.stands
  stands_of new e is = ap (λ (f : Disk). replay log.epoch log.first f.stands) is

  -- the region was left as it was
  pub open_in_place : (new : Disk) → length new.stands ≡ length d.stands → disk_in log.start log.sectors new ≡ disk_in log.start log.sectors d
      → IsOpen log new × (batches_in log (seen new) ≡ batches_in log (seen d)) × (batches_in log new.stands ≡ batches_in log d.stands)
  open_in_place new size is = (
    open_same new is (omega (arith, size, opened.within)),
    reads_of new (region d) is ∙ sym (reads_of d (region d) refl),
    stands_of new (region d) is,
  )

  -- the region was synced
  pub open_settled : (new : Disk) → length new.stands ≡ length d.stands → disk_in log.start log.sectors new ≡ synced (disk_in log.start log.sectors d)
      → IsOpen log new × (batches_in log (seen new) ≡ batches_in log (seen d)) × (batches_in log new.stands ≡ batches_in log (seen d))
  open_settled new size is = (
    open_synced new is (omega (arith, size, opened.within)),
    reads_of new (synced (region d)) is ∙ sym (reads_of d (region d) refl),
    stands_of new (synced (region d)) is ∙ sym (reads_of d (region d) refl),
  )

  -- writes outside the region
  pub open_elsewhere : (ws : List Write) → All (IsOutside log.start log.sectors) ws → IsOpen log (grown ws d) × (batches_in log (seen (grown ws d)) ≡ batches_in log (seen d))
  open_elsewhere ws outside =
      let all = open_in_place (grown ws d) refl
      (disk_in-grown log.start log.sectors ws d ∙ ap (λ (vs : List Write). grown vs (disk_in log.start log.sectors d)) (writes_in-none log.start log.sectors ws outside) ∙ grown-nil (disk_in log.start log.sectors d)) in
      (all.0, all.1)

  -- a batch more
  module _ (batch : List Operation) (is : IsBatch batch) (number : log.next ≤ 2 ^ 63) (room : log.used + sectors_of batch ≤ log.sectors) where
    abbrev new_sectors : Sectors
    new_sectors = batch_sectors log.epoch log.next batch

    length_region : length (area log.start log.sectors d.stands) ≡ log.sectors
    length_region = length-take-le log.sectors (drop log.start d.stands) (omega (arith, length-drop log.start d.stands, opened.within))

    sectors_more : all_sectors log.epoch (log.first + length opened.synced) (opened.unsynced ++ batch ∷ []) ≡ added_sectors ++ new_sectors
    sectors_more =
        let same : (log.first + length opened.synced) + length opened.unsynced ≡ log.next = omega (arith, opened.next) in
        one_more log.epoch (log.first + length opened.synced) opened.unsynced batch ∙ ap (λ (n : ℕ). added_sectors ++ batch_sectors log.epoch n batch) same

    batches_more : All IsBatch (opened.synced ++ (opened.unsynced ++ batch ∷ []))
    batches_more = subst (All IsBatch) (append_assoc opened.synced opened.unsynced (batch ∷ [])) (All-push IsBatch (opened.synced ++ opened.unsynced) batch opened.batches is)

    numbers_more : AreNumbers log.epoch log.first (length opened.synced + length (opened.unsynced ++ batch ∷ []))
    numbers_more = record {
      epoch_low = opened.numbers.epoch_low;
      epoch_high = opened.numbers.epoch_high;
      first_low = opened.numbers.first_low;
      last_high = omega (arith, length_push opened.unsynced batch, opened.next, number);
    }

    -- some sectors more pend
    holds_some : (few : Sectors) → length few ≤ sectors_of batch → Holds log.epoch log.first opened.synced (added_sectors ++ few) (disk_in log.start log.sectors (grown (run_at (log.start + log.used) few) d))
    holds_some few le =
        let fits : log.used + length few ≤ log.sectors = omega (arith, room, le) in
        let inside : disk_in log.start log.sectors (grown (run_at (log.start + log.used) few) d) ≡ grown (run_at (length (all_sectors log.epoch log.first opened.synced) + length added_sectors) few) (disk_in log.start log.sectors d) =
        disk_in-grown log.start log.sectors (run_at (log.start + log.used) few) d
        ∙ ap (λ (ws : List Write). grown ws (disk_in log.start log.sectors d)) (writes_in-run_at log.start log.sectors log.used few fits ∙ ap (λ (n : ℕ). run_at n few) place) in
        subst (Holds log.epoch log.first opened.synced (added_sectors ++ few)) (sym inside) (grown_holds opened.holds few (omega (arith, place, fits, length_region)))

    few_of : (k : ℕ) → added_sectors ++ take k new_sectors ≡ take (length added_sectors + k) (all_sectors log.epoch (log.first + length opened.synced) (opened.unsynced ++ batch ∷ []))
    few_of k = sym (ap (take (length added_sectors + k)) sectors_more ∙ take_behind added_sectors new_sectors k)
      where
        take_behind : (xs ys : Sectors) (k : ℕ) → take (length xs + k) (xs ++ ys) ≡ xs ++ take k ys
        take_behind [] ys k = let same : 0 + k ≡ k = omega arith in ap (λ (n : ℕ). take n ys) same
        take_behind (x ∷ xs) ys k =
            let same : suc (length xs) + k ≡ suc (length xs + k) = omega arith in
            ap (λ (n : ℕ). take n (x ∷ xs ++ ys)) same ∙ ap (λ (l : Sectors). x ∷ l) (take_behind xs ys k)

    pub few_leaves : (e : Disk) → HasSomeOf d (run_at (log.start + log.used) new_sectors) e → Leaves (λ c. IsBetween (batches_in log d.stands) (batches_in log (seen d) ++ batch ∷ []) (batches_in log c)) e
    few_leaves e (k, le, some) mask =
        let few = take k new_sectors in
        let same : e ≡ grown (run_at (log.start + log.used) few) d = some ∙ ap (λ (ws : List Write). grown ws d) (take-run k (log.start + log.used) new_sectors) in
        let holds = holds_some few (omega (arith, length-take k new_sectors, length-batch log.epoch log.next batch)) in
        let here : IsBetween opened.synced (opened.synced ++ (opened.unsynced ++ batch ∷ [])) (batches_in log (image mask (grown (run_at (log.start + log.used) few) d))) =
        subst (λ (l : Sectors). IsBetween opened.synced (opened.synced ++ (opened.unsynced ++ batch ∷ [])) (replay log.epoch log.first l)) (sym (area-image log.start log.sectors mask (grown (run_at (log.start + log.used) few) d)))
        (image_between holds (opened.unsynced ++ batch ∷ []) batches_more numbers_more (length added_sectors + k) (few_of k) (mask_in log.start log.sectors mask (grown (run_at (log.start + log.used) few) d).pending)) in
        let most : opened.synced ++ (opened.unsynced ++ batch ∷ []) ≡ batches_in log (seen d) ++ batch ∷ [] = sym (append_assoc opened.synced opened.unsynced (batch ∷ [])) ∙ ap (λ (l : Batches). l ++ batch ∷ []) (sym read_batches) in
        subst (λ (f : Disk). IsBetween (batches_in log d.stands) (batches_in log (seen d) ++ batch ∷ []) (batches_in log (image mask f))) (sym same)
        (subst (λ (l : Batches). IsBetween l (batches_in log (seen d) ++ batch ∷ []) (batches_in log (image mask (grown (run_at (log.start + log.used) few) d)))) (sym standing_batches)
        (subst (λ (l : Batches). IsBetween opened.synced l (batches_in log (image mask (grown (run_at (log.start + log.used) few) d)))) most here))

    -- all of it pends
    holds_all : Holds log.epoch log.first opened.synced (all_sectors log.epoch (log.first + length opened.synced) (opened.unsynced ++ batch ∷ [])) (disk_in log.start log.sectors (grown (run_at (log.start + log.used) new_sectors) d))
    holds_all = subst (λ (l : Sectors). Holds log.epoch log.first opened.synced l (disk_in log.start log.sectors (grown (run_at (log.start + log.used) new_sectors) d))) (sym sectors_more) (holds_some new_sectors (omega (arith, length-batch log.epoch log.next batch)))

    pub all_read : batches_in log (seen (grown (run_at (log.start + log.used) new_sectors) d)) ≡ batches_in log (seen d) ++ batch ∷ []
    all_read =
        ap (replay log.epoch log.first) (area-seen log.start log.sectors (grown (run_at (log.start + log.used) new_sectors) d))
        ∙ seen_replay holds_all (opened.unsynced ++ batch ∷ []) batches_more numbers_more refl
        ∙ sym (append_assoc opened.synced opened.unsynced (batch ∷ []))
        ∙ ap (λ (l : Batches). l ++ batch ∷ []) (sym read_batches)

    pub open_more : (next : Log) → TakesBatch batch log next → (e : Disk) → e ≡ grown (run_at (log.start + log.used) new_sectors) d → IsOpen next e
    open_more next takes e is =
        let epoch = takes.epoch in
        let first = takes.first in
        let start = takes.start in
        let sectors = takes.sectors in
        let alone : sum_by sectors_of (batch ∷ []) ≡ sectors_of batch = sum_by-cons sectors_of batch [] ∙ add-zero (sectors_of batch) in
        let counts : sum_by sectors_of (opened.synced ++ (opened.unsynced ++ batch ∷ [])) ≡ log.used + sectors_of batch =
        ap (sum_by sectors_of) (sym (append_assoc opened.synced opened.unsynced (batch ∷ []))) ∙ sum_by-append sectors_of (opened.synced ++ opened.unsynced) (batch ∷ [])
        ∙ ap (λ (n : ℕ). n + sum_by sectors_of (batch ∷ [])) (sym opened.used) ∙ ap (λ (n : ℕ). log.used + n) alone in
        record {
          synced = opened.synced;
          unsynced = opened.unsynced ++ batch ∷ [];
          batches = batches_more;
          numbers = rw (epoch, first) numbers_more;
          holds = rw (epoch, first, start, sectors, is) holds_all;
          within = omega (arith, start, sectors, opened.within, ap (λ (f : Disk). length f.stands) is);
          next = omega (arith, takes.next, first, opened.next, length_push opened.unsynced batch);
          used = takes.used ∙ sym counts;
        }

    -- what pends more are sectors of the log's epoch in its region
    pub few_written : (e : Disk) → HasSomeOf d (run_at (log.start + log.used) new_sectors) e → IsGrownBy log d e
    few_written e (k, le, some) =
        let numbered : IsNumbered log.epoch log.next = record { epoch_low = opened.numbers.epoch_low; epoch_high = opened.numbers.epoch_high; number_low = omega (arith, opened.next, opened.numbers.first_low); number_high = number } in (
          run_at (log.start + log.used) (take k new_sectors),
          run_of_log (log.start + log.used) (take k new_sectors) (omega arith) (omega (arith, length-take k new_sectors, length-batch log.epoch log.next batch, room)) (All-take (λ (s : List ℕ). is_of log.epoch s ≡ true) k new_sectors (batch_of_epoch log.epoch log.next batch is numbered)),
          some ∙ ap (λ (ws : List Write). grown ws d) (take-run k (log.start + log.used) new_sectors),
        )
      where
        run_of_log : (at : ℕ) (sectors : Sectors) → log.start ≤ at → at + length sectors ≤ log.start + log.sectors → All (λ s. is_of log.epoch s ≡ true) sectors → All (IsOfLog log) (run_at at sectors)
        run_of_log at [] low high all = All-nil (IsOfLog log)
        run_of_log at (s ∷ rest) low high all =
            All-cons (IsOfLog log) (record { at = at; bytes = s }) (run_at (at + 1) rest) (record { low = low; high = omega arith; epoch = All-head (λ (s : List ℕ). is_of log.epoch s ≡ true) s rest all })
            (run_of_log (at + 1) rest (omega arith) (omega arith) (All-tail (λ (s : List ℕ). is_of log.epoch s ≡ true) s rest all))

  -- nothing was done
  pub none_leaves : (batch : List Operation) → Leaves (λ c. IsBetween (batches_in log d.stands) (batches_in log (seen d) ++ batch ∷ []) (batches_in log c)) d
  none_leaves batch mask = one_more_at_most (open_leaves mask)
    where
      one_more_at_most : {least most c : Batches} → IsBetween least most c → IsBetween least (most ++ batch ∷ []) c
      one_more_at_most {least} {most} {c} is = record {
        from = is.from;
        to = (is.to.0 ++ batch ∷ [], ap (λ (l : Batches). l ++ batch ∷ []) is.to.1 ∙ append_assoc c is.to.0 (batch ∷ []));
      }

  pub none_written : IsGrownBy log d d
  none_written = ([], All-nil (IsOfLog log), sym (grown-nil d))

-- no batch is read where a log may be opened
pub none_read : (start n epoch first : ℕ) (d : Disk) → IsFree start n epoch d → replay epoch first (area start n (seen d)) ≡ []
none_read start n epoch first d free =
    ap (replay epoch first) (area-seen start n d ∙ ap (written (area start n d.stands)) free.settled)
    ∙ replay-stops epoch first (area start n d.stands) (none_stops epoch (area start n d.stands) free.none)

-- a log that was opened just now
pub new_open : (log : Log) → AreNumbers log.epoch log.first 0 → log.used ≡ 0 → log.next ≡ log.first → (d : Disk) → IsFree log.start log.sectors log.epoch d → IsOpen log d
new_open log numbers unused next d free = record {
  synced = [];
  unsynced = [];
  batches = All-nil IsBatch;
  numbers = numbers;
  holds = record { front = refl; behind = free.none; pends = free.settled; room = omega arith };
  within = free.within;
  next = omega (arith, next);
  used = unused;
}

-- ---- what an append leaves

module _ (log : Log) (old : List Disk) (opened : IsOpen log (present old)) (batch : List Operation) where
  abbrev IsKeptOrTaken : Sectors → Type 0
  IsKeptOrTaken c = IsBetween (batches_in log (present old).stands) (batches_in log (seen (present old)) ++ batch ∷ []) (batches_in log c)

  pub append_nothing : (new : List Disk) → new ≡ old → EachSince (Leaves (λ c. IsBetween (batches_in log (present old).stands) (batches_in log (seen (present old)) ++ batch ∷ []) (batches_in log c))) old new
  append_nothing new same = unchanged (Leaves IsKeptOrTaken) old new same (none_leaves log (present old) opened batch)

  pub written_nothing : (new : List Disk) → new ≡ old → EachSince (IsGrownBy log (present old)) old new
  written_nothing new same = unchanged (IsGrownBy log (present old)) old new same (none_written log (present old) opened)

  module _ (is : IsBatch batch) (number : log.next ≤ 2 ^ 63) (room : log.used + sectors_of batch ≤ log.sectors) (new : List Disk) where
    abbrev IsStage : Disk → Type 0
    IsStage = HasSomeOf (present old) (run_at (log.start + log.used) (batch_sectors log.epoch log.next batch))

    pub append_moments : EachSince (HasSomeOf (present old) (run_at (log.start + log.used) (batch_sectors log.epoch log.next batch))) old new
        → EachSince (Leaves (λ c. IsBetween (batches_in log (present old).stands) (batches_in log (seen (present old)) ++ batch ∷ []) (batches_in log c))) old new
    append_moments moments = weaker IsStage (Leaves IsKeptOrTaken) old new (few_leaves log (present old) opened batch is number room) moments

    pub append_written : EachSince (HasSomeOf (present old) (run_at (log.start + log.used) (batch_sectors log.epoch log.next batch))) old new → EachSince (IsGrownBy log (present old)) old new
    append_written moments = weaker IsStage (IsGrownBy log (present old)) old new (few_written log (present old) opened batch is number room) moments

    module _ (all : present new ≡ grown (run_at (log.start + log.used) (batch_sectors log.epoch log.next batch)) (present old)) where
      pub append_open : (next : Log) → TakesBatch batch log next → IsOpen next (present new)
      append_open next takes = open_more log (present old) opened batch is number room next takes (present new) all

      pub append_reads : batches_in log (seen (present new)) ≡ batches_in log (seen (present old)) ++ batch ∷ []
      append_reads = ap (λ (d : Disk). batches_in log (seen d)) all ∙ all_read log (present old) opened batch is number room
