-- What crashes leave of a region that holds a log's batches and nothing else of its epoch.
use Rattle.std.proofs.Common.{◌≡◌, ◌⊎◌, inl, inr, ⊎_elim, ℕ, suc, ◌+◌, min, ◌<◌, ◌≤◌, Bool, true, false, List, [], ◌∷◌, ◌++◌, length, take, drop, refl, sym, ◌∙◌, ap, subst, arith, append_assoc}
use Rattle.std.specs.Prelude.{All}
use Rattle.std.proofs.lemmas.List.{append-nil, take_all, take-append-drop, length-take, length-drop, length-append, take_at, drop_at, take-take, drop-drop}
use Rattle.std.proofs.lemmas.List.Elements.{All-nil, All-cons, All-head, All-tail, All-drop}
use Rattle.std.proofs.lemmas.Bool.{cases_lt}
use Rattle.lsm_device.specs.Disk.{Disk, Write, written, kept, image, seen, synced}
use Rattle.lsm_device.specs.Runs.{run_at, grown}
use Rattle.lsm_device.specs.Memory.{length-written}
use Rattle.lsm_device.proofs.Runs.{overlay, written-kept-run, written-run_at, run_at-append}
use Rattle.lsm_codec.specs.BatchText.{IsBatch}
use Rattle.lsm_codec.specs.Map.{Operation}
use Rattle.lsm_log.specs.Batches.{IsBetween, all_sectors}
use Rattle.lsm_log.specs.Replay.{replay}
use Rattle.lsm_log.specs.Opened.{HasNone, AreNumbers, Holds, is_of}
use Rattle.lsm_log.proofs.Replaying.{Stops, replay-stops, replay-front, replay-some, all_sectors-append}

abbrev Sectors : Type 0
Sectors = List (List ℕ)

abbrev Batches : Type 0
Batches = List (List Operation)

pub none_stops : (epoch : ℕ) (sectors : Sectors) → HasNone epoch sectors → Stops epoch sectors
none_stops epoch [] none = tt
none_stops epoch (s ∷ rest) none = All-head (λ (x : List ℕ). is_of epoch x ≡ false) s rest none

-- over sectors that are not of the epoch, some of a run are a beginning of it, up to a sector that is not of the epoch
pub overlay_beginning : (epoch : ℕ) (mask : List Bool) (sectors tail : Sectors) → HasNone epoch tail → length sectors ≤ length tail
    → (j : ℕ) × (j ≤ length sectors) × ((rest : Sectors) × Stops epoch rest × (overlay mask sectors tail ≡ take j sectors ++ rest))
overlay_beginning epoch [] sectors tail none fits = (0, omega arith, (tail, none_stops epoch tail none, refl))
overlay_beginning epoch (b ∷ mask) [] tail none fits = (0, omega arith, (tail, none_stops epoch tail none, refl))
overlay_beginning epoch (b ∷ mask) (s ∷ ss) [] none fits = absurd (omega arith)
overlay_beginning epoch (true ∷ mask) (s ∷ ss) (t ∷ ts) none fits =
    let later = overlay_beginning epoch mask ss ts (All-tail (λ (x : List ℕ). is_of epoch x ≡ false) t ts none) (omega arith) in
    (suc later.0, omega (arith, later.1), (later.2.0, later.2.1, ap (λ (l : Sectors). s ∷ l) later.2.2))
overlay_beginning epoch (false ∷ mask) (s ∷ ss) (t ∷ ts) none fits =
    (0, omega arith, (t ∷ overlay mask ss ts, All-head (λ (x : List ℕ). is_of epoch x ≡ false) t ts none, refl))

-- the first parts of All
pub All-left : (xs ys : Batches) → All IsBatch (xs ++ ys) → All IsBatch xs
All-left [] ys all = All-nil IsBatch
All-left (x ∷ xs) ys all = All-cons IsBatch x xs (All-head IsBatch x (xs ++ ys) all) (All-left xs ys (All-tail IsBatch x (xs ++ ys) all))

pub All-right : (xs ys : Batches) → All IsBatch (xs ++ ys) → All IsBatch ys
All-right [] ys all = all
All-right (x ∷ xs) ys all = All-right xs ys (All-tail IsBatch x (xs ++ ys) all)

cases_le : (m n : ℕ) → (m ≤ n) ⊎ (n < m)
cases_le m n = ⊎_elim (λ lt. inr lt) (λ le. inl le) (cases_lt n m)

pub take_take_min : (m n : ℕ) (xs : Sectors) → take m (take n xs) ≡ take (min m n) xs
take_take_min m n xs = ⊎_elim
    (λ (le : m ≤ n). let same : m ≡ min m n = omega arith in take-take m n xs le ∙ ap (λ (k : ℕ). take k xs) same)
    (λ (lt : n < m). let same : n ≡ min m n = omega arith in take_all m (take n xs) (omega (arith, length-take n xs)) ∙ ap (λ (k : ℕ). take k xs) same)
    (cases_le m n)

-- some of the batches after the durable ones
between_take : (xs ys : Batches) (k : ℕ) → IsBetween xs (xs ++ ys) (xs ++ take k ys)
between_take xs ys k = record {
  from = (take k ys, refl);
  to = (drop k ys, ap (λ (l : Batches). xs ++ l) (sym (take-append-drop k ys)) ∙ sym (append_assoc xs (take k ys) (drop k ys)));
}

module _ {epoch first : ℕ} {durable : Batches} {pending : Sectors} {d : Disk} (holds : Holds epoch first durable pending d) where
  abbrev size : ℕ
  size = length (all_sectors epoch first durable)

  split : d.stands ≡ all_sectors epoch first durable ++ drop (length (all_sectors epoch first durable)) d.stands
  split = sym (take-append-drop (length (all_sectors epoch first durable)) d.stands) ∙ ap (λ (l : Sectors). l ++ drop (length (all_sectors epoch first durable)) d.stands) holds.front

  room_behind : length pending ≤ length (drop (length (all_sectors epoch first durable)) d.stands)
  room_behind = omega (arith, length-drop (length (all_sectors epoch first durable)) d.stands, holds.room)

  image_is : (mask : List Bool) → image mask d ≡ all_sectors epoch first durable ++ overlay mask pending (drop (length (all_sectors epoch first durable)) d.stands)
  image_is mask =
      ap (λ (ws : List Write). written d.stands (kept mask ws)) holds.pends
      ∙ ap (λ (l : Sectors). written l (kept mask (run_at (length (all_sectors epoch first durable)) pending))) split
      ∙ written-kept-run mask pending (all_sectors epoch first durable) (drop (length (all_sectors epoch first durable)) d.stands) (length (all_sectors epoch first durable)) refl room_behind

  -- reads give all that pends
  pub seen_is : seen d ≡ all_sectors epoch first durable ++ (pending ++ drop (length (all_sectors epoch first durable) + length pending) d.stands)
  seen_is =
      ap (written d.stands) holds.pends
      ∙ written-run_at d.stands (length (all_sectors epoch first durable)) pending holds.room
      ∙ ap (λ (l : Sectors). l ++ (pending ++ drop (length (all_sectors epoch first durable) + length pending) d.stands)) holds.front

  behind_all : HasNone epoch (drop (length (all_sectors epoch first durable) + length pending) d.stands)
  behind_all = subst (HasNone epoch) (drop-drop (length pending) (length (all_sectors epoch first durable)) d.stands) (All-drop (λ (x : List ℕ). is_of epoch x ≡ false) (length pending) (drop (length (all_sectors epoch first durable)) d.stands) holds.behind)

  module _ (more : Batches) (batches : All IsBatch (durable ++ more)) (numbers : AreNumbers epoch first (length durable + length more)) where
    numbers_durable : AreNumbers epoch first (length durable)
    numbers_durable = record { epoch_low = numbers.epoch_low; epoch_high = numbers.epoch_high; first_low = numbers.first_low; last_high = omega (arith, numbers.last_high) }

    numbers_more : AreNumbers epoch (first + length durable) (length more)
    numbers_more = record { epoch_low = numbers.epoch_low; epoch_high = numbers.epoch_high; first_low = omega (arith, numbers.first_low); last_high = omega (arith, numbers.last_high) }

    front_replay : (tail : Sectors) → replay epoch first (all_sectors epoch first durable ++ tail) ≡ durable ++ replay epoch (first + length durable) tail
    front_replay tail = replay-front epoch first durable tail (All-left durable more batches) numbers_durable

    -- every crash leaves all that stands, and of what pends a beginning
    pub image_between : (count : ℕ) → pending ≡ take count (all_sectors epoch (first + length durable) more) → (mask : List Bool) → IsBetween durable (durable ++ more) (replay epoch first (image mask d))
    image_between count is mask =
        let all = all_sectors epoch (first + length durable) more in
        let cut = overlay_beginning epoch mask pending (drop (length (all_sectors epoch first durable)) d.stands) holds.behind room_behind in
        let some = replay-some epoch (first + length durable) more (min cut.0 count) cut.2.0 (All-right durable more batches) numbers_more cut.2.1 in
        let few : take cut.0 pending ≡ take (min cut.0 count) all = ap (take cut.0) is ∙ take_take_min cut.0 count all in
        let read : replay epoch first (image mask d) ≡ durable ++ take some.0 more =
        ap (replay epoch first) (image_is mask ∙ ap (λ (l : Sectors). all_sectors epoch first durable ++ l) (cut.2.2 ∙ ap (λ (l : Sectors). l ++ cut.2.0) few))
        ∙ front_replay (take (min cut.0 count) all ++ cut.2.0)
        ∙ ap (λ (l : Batches). durable ++ l) some.2 in
        subst (IsBetween durable (durable ++ more)) (sym read) (between_take durable more some.0)

    -- reads give all of it
    pub seen_replay : pending ≡ all_sectors epoch (first + length durable) more → replay epoch first (seen d) ≡ durable ++ more
    seen_replay is =
        let tail = drop (length (all_sectors epoch first durable) + length pending) d.stands in
        ap (replay epoch first) (seen_is ∙ ap (λ (l : Sectors). all_sectors epoch first durable ++ (l ++ tail)) is)
        ∙ front_replay (all_sectors epoch (first + length durable) more ++ tail)
        ∙ ap (λ (l : Batches). durable ++ l) (replay-front epoch (first + length durable) more tail (All-right durable more batches) numbers_more ∙ ap (λ (l : Batches). more ++ l) (replay-stops epoch (first + length durable + length more) tail (none_stops epoch tail behind_all)) ∙ append-nil more)

    -- and of what stands, what was synced
    pub stands_replay : replay epoch first d.stands ≡ durable
    stands_replay =
        let tail = drop (length (all_sectors epoch first durable)) d.stands in
        ap (replay epoch first) split ∙ front_replay tail
        ∙ ap (λ (l : Batches). durable ++ l) (replay-stops epoch (first + length durable) tail (none_stops epoch tail holds.behind)) ∙ append-nil durable

    -- after a sync all of it stands
    pub synced_holds : pending ≡ all_sectors epoch (first + length durable) more → Holds epoch first (durable ++ more) [] (synced d)
    synced_holds is =
        let tail = drop (length (all_sectors epoch first durable) + length pending) d.stands in
        let all : all_sectors epoch first (durable ++ more) ≡ all_sectors epoch first durable ++ pending = all_sectors-append epoch first durable more ∙ ap (λ (l : Sectors). all_sectors epoch first durable ++ l) (sym is) in
        let now : seen d ≡ all_sectors epoch first (durable ++ more) ++ tail = seen_is ∙ sym (append_assoc (all_sectors epoch first durable) pending tail) ∙ ap (λ (l : Sectors). l ++ tail) (sym all) in
        record {
          front = ap (λ (l : Sectors). take (length (all_sectors epoch first (durable ++ more))) l) now ∙ take_at (all_sectors epoch first (durable ++ more)) tail (length (all_sectors epoch first (durable ++ more))) refl;
          behind = subst (HasNone epoch) (sym (ap (λ (l : Sectors). drop (length (all_sectors epoch first (durable ++ more))) l) now ∙ drop_at (all_sectors epoch first (durable ++ more)) tail (length (all_sectors epoch first (durable ++ more))) refl)) behind_all;
          pends = refl;
          room = omega (arith, ap length all, length-append (all_sectors epoch first durable) pending, length-written (length d.stands) d.stands d.pending refl, holds.room);
        }

  -- more sectors right after those that pend
  pub grown_holds : (sectors : Sectors) → length (all_sectors epoch first durable) + length pending + length sectors ≤ length d.stands
      → Holds epoch first durable (pending ++ sectors) (grown (run_at (length (all_sectors epoch first durable) + length pending) sectors) d)
  grown_holds sectors fits = record {
    front = holds.front;
    behind = holds.behind;
    pends = ap (λ (ws : List Write). ws ++ run_at (length (all_sectors epoch first durable) + length pending) sectors) holds.pends ∙ sym (run_at-append (length (all_sectors epoch first durable)) pending sectors);
    room = omega (arith, length-append pending sectors);
  }
