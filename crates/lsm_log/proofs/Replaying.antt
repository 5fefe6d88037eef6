-- What replay makes of a beginning of the sectors of some batches.
use Rattle.std.proofs.Common.{◌≡◌, ◌⊎◌, inl, inr, ⊎_elim, ℕ, zero, suc, ◌+◌, ◌-◌, ◌*◌, ◌<◌, ◌≤◌, ◌^◌, ◌==◌, true, false, cond, List, [], ◌∷◌, ◌++◌, length, take, drop, map, Some, None, refl, sym, ◌∙◌, ap, arith, append_assoc}
use Rattle.std.specs.Prelude.{Option, All, sum_by}
use Rattle.std.proofs.lemmas.Grind.{div_ceil_times}
use Rattle.std.proofs.lemmas.List.{take_all, take-append-drop, take-append-le, take-map, length-take, length-drop, length-map, length-append}
use Rattle.std.proofs.lemmas.List.Elements.{All-nil, All-cons, All-head, All-tail, All-take}
use Rattle.std.proofs.lemmas.List.Sums.{sum_by-cons}
use Rattle.std.proofs.lemmas.Bool.{eq-eqb, ne_eqb, and_from, and_left, or_left, or_right, cond-true, cond-false, cases_lt}
use Rattle.lsm_codec.specs.LogSectors.{Part, IsPart, log_sector, part_of}
use Rattle.std.specs.List.{flat_map}
use Rattle.lsm_codec.specs.BatchText.{operation_text, IsBatch, batch_text, sectors_of, batch_of}
use Rattle.lsm_codec.specs.Map.{Operation}
use Rattle.lsm_log.specs.Batches.{cut, parts_of, batch_sectors, all_sectors}
use Rattle.lsm_log.specs.Replay.{cons_while, map_while, is_awaited, texts_from, replay}
use Rattle.lsm_log.specs.Opened.{AreNumbers, has_epoch, is_of}
use Rattle.lsm_codec.proofs.BatchLaws.{batch_format}
use Rattle.lsm_codec.proofs.LogSectorLaws.{log_sector_format}

abbrev Sectors : Type 0
Sectors = List (List ℕ)

abbrev Batches : Type 0
Batches = List (List Operation)

abbrev parts_in : Sectors → List Part
parts_in sectors = map_while part_of sectors

-- ---- of an epoch

-- no sector, or first one that is not of the epoch
abbrev pub Stops : ℕ → List (List ℕ) → Type 0
Stops epoch [] = Unit {0}
Stops epoch (sector ∷ rest) = is_of epoch sector ≡ false

-- no part, or first one that is not of the epoch
abbrev StopsParts : ℕ → List Part → Type 0
StopsParts epoch [] = Unit {0}
StopsParts epoch (p ∷ rest) = (p.epoch == epoch) ≡ false

parts-stop : (epoch : ℕ) (sectors : Sectors) → Stops epoch sectors → StopsParts epoch (map_while part_of sectors)
parts-stop epoch [] stops = tt
parts-stop epoch (sector ∷ rest) stops = step (part_of sector) stops
  where
    step : (o : Option Part) → has_epoch epoch o ≡ false → StopsParts epoch (cons_while o (map_while part_of rest))
    step None is = tt
    step (Some p) is = is

texts-stop : (epoch number part parts : ℕ) (text : List ℕ) (ps : List Part) → StopsParts epoch ps → texts_from epoch number part parts text ps ≡ []
texts-stop epoch number part parts text [] stops = refl
texts-stop epoch number part parts text (p ∷ rest) stops = cond-false (is_awaited epoch number part parts p) _ [] (and_left _ _ stops)

pub replay-stops : (epoch first : ℕ) (sectors : Sectors) → Stops epoch sectors → replay epoch first sectors ≡ []
replay-stops epoch first sectors stops = ap (map_while batch_of) (texts-stop epoch first 0 0 [] (map_while part_of sectors) (parts-stop epoch sectors stops))

-- ---- one part

is_awaited-true : (p : Part) (parts : ℕ) → (p.part ≡ 0) ⊎ (p.parts ≡ parts) → is_awaited p.epoch p.batch p.part parts p ≡ true
is_awaited-true p parts same =
    and_from _ _ (eq-eqb p.epoch p.epoch refl) (and_from _ _ (eq-eqb p.batch p.batch refl) (and_from _ _ (eq-eqb p.part p.part refl)
    (⊎_elim (λ (e : p.part ≡ 0). or_left _ _ (eq-eqb p.part 0 e)) (λ (e : p.parts ≡ parts). or_right _ _ (eq-eqb p.parts parts e)) same)))

module _ (p : Part) (parts : ℕ) (same : (p.part ≡ 0) ⊎ (p.parts ≡ parts)) (text : List ℕ) (rest : List Part) where
  taken : texts_from p.epoch p.batch p.part parts text (p ∷ rest) ≡ cond (p.part + 1 == p.parts) ((text ++ p.payload) ∷ texts_from p.epoch (p.batch + 1) 0 0 [] rest) (texts_from p.epoch p.batch (p.part + 1) p.parts (text ++ p.payload) rest)
  taken = cond-true (is_awaited p.epoch p.batch p.part parts p) _ [] (is_awaited-true p parts same)

  -- the last part of a batch
  step_last : p.part + 1 ≡ p.parts → texts_from p.epoch p.batch p.part parts text (p ∷ rest) ≡ (text ++ p.payload) ∷ texts_from p.epoch (p.batch + 1) 0 0 [] rest
  step_last last = taken ∙ cond-true (p.part + 1 == p.parts) _ _ (eq-eqb (p.part + 1) p.parts last)

  -- another part
  step_more : p.part + 1 < p.parts → texts_from p.epoch p.batch p.part parts text (p ∷ rest) ≡ texts_from p.epoch p.batch (p.part + 1) p.parts (text ++ p.payload) rest
  step_more more = taken ∙ cond-false (p.part + 1 == p.parts) _ _ (ne_eqb (p.part + 1) p.parts (λ e. absurd (omega (arith, e, more))))

abbrev part_at : ℕ → ℕ → ℕ → ℕ → List ℕ → Part
part_at epoch number parts part text = record { epoch = epoch; batch = number; part = part; parts = parts; payload = take 480 text }

module _ (epoch number parts : ℕ) where
  -- all parts of a batch from one on
  whole : (n part before : ℕ) (text rest : List ℕ) (tail : List Part) → part + n ≡ parts → 1 ≤ n → length rest ≤ 480 * n → (part ≡ 0) ⊎ (parts ≡ before)
      → texts_from epoch number part before text (cut epoch number parts part rest n ++ tail) ≡ (text ++ rest) ∷ texts_from epoch (number + 1) 0 0 [] tail
  whole zero part before text rest tail counts some fits same = absurd (omega arith)
  whole (suc zero) part before text rest tail counts some fits same =
      step_last (part_at epoch number parts part rest) before same text tail (omega arith)
      ∙ ap (λ (t : List ℕ). (text ++ t) ∷ texts_from epoch (number + 1) 0 0 [] tail) (take_all 480 rest (omega arith))
  whole (suc (suc n)) part before text rest tail counts some fits same =
      step_more (part_at epoch number parts part rest) before same text (cut epoch number parts (part + 1) (drop 480 rest) (suc n) ++ tail) (omega arith)
      ∙ whole (suc n) (part + 1) parts (text ++ take 480 rest) (drop 480 rest) tail (omega arith) (omega arith) (omega (arith, length-drop 480 rest)) (inr refl)
      ∙ ap (λ (t : List ℕ). t ∷ texts_from epoch (number + 1) 0 0 [] tail) (append_assoc text (take 480 rest) (drop 480 rest) ∙ ap (λ (t : List ℕ). text ++ t) (take-append-drop 480 rest))

  -- not all of them
  some : (j n part before : ℕ) (text rest : List ℕ) (tail : List Part) → part + n ≡ parts → j < n → (part ≡ 0) ⊎ (parts ≡ before) → StopsParts epoch tail
      → texts_from epoch number part before text (take j (cut epoch number parts part rest n) ++ tail) ≡ []
  some zero n part before text rest tail counts few same stops = texts-stop epoch number part before text tail stops
  some (suc j) zero part before text rest tail counts few same stops = absurd (omega arith)
  some (suc j) (suc n) part before text rest tail counts few same stops =
      step_more (part_at epoch number parts part rest) before same text (take j (cut epoch number parts (part + 1) (drop 480 rest) n) ++ tail) (omega arith)
      ∙ some j n (part + 1) parts (text ++ take 480 rest) (drop 480 rest) tail (omega arith) (omega arith) (inr refl) stops

length-cut : (epoch number parts part : ℕ) (text : List ℕ) (n : ℕ) → length (cut epoch number parts part text n) ≡ n
length-cut epoch number parts part text zero = refl
length-cut epoch number parts part text (suc n) = ap suc (length-cut epoch number parts (part + 1) (drop 480 text) n)

pub length-batch : (epoch number : ℕ) (batch : List Operation) → length (batch_sectors epoch number batch) ≡ sectors_of batch
length-batch epoch number batch = length-map (parts_of epoch number batch) log_sector ∙ length-cut epoch number (sectors_of batch) 0 (batch_text batch) (sectors_of batch)

-- how many sectors batches take
pub length-all : (epoch first : ℕ) (batches : Batches) → length (all_sectors epoch first batches) ≡ sum_by sectors_of batches
length-all epoch first [] = refl
length-all epoch first (batch ∷ batches) =
    length-append (batch_sectors epoch first batch) (all_sectors epoch (first + 1) batches)
    ∙ ap (λ (n : ℕ). n + length (all_sectors epoch (first + 1) batches)) (length-batch epoch first batch)
    ∙ ap (λ (n : ℕ). sectors_of batch + n) (length-all epoch (first + 1) batches)
    ∙ sym (sum_by-cons sectors_of batch batches)

-- ---- the parts of a batch

-- the numbers of one batch
pub record IsNumbered (epoch number : ℕ) : Type 0 where
  pub epoch_low : 1 ≤ epoch
  pub epoch_high : epoch ≤ 2 ^ 63
  pub number_low : 1 ≤ number
  pub number_high : number ≤ 2 ^ 63

-- how many sectors a batch takes
pub record IsCount (text : List ℕ) (n : ℕ) : Type 0 where
  pub some : 1 ≤ n
  pub few : n ≤ 128
  pub fits : length text ≤ 480 * n
  pub full : 480 * n < length text + 480

some_text : (batch : List Operation) → 1 ≤ length (batch_text batch)
unfolding batch_text
some_text batch = let long : length (batch_text batch) ≡ suc (suc (length (flat_map operation_text batch))) = refl in omega (arith, long)

pub counted : (batch : List Operation) → IsBatch batch → IsCount (batch_text batch) (sectors_of batch)
counted batch is =
    let bounds = div_ceil_times (length (batch_text batch)) 480 (omega arith) in
    let long : 1 ≤ length (batch_text batch) = some_text batch in
    let short : length (batch_text batch) ≤ 61440 = is.fits in
    let fits : length (batch_text batch) ≤ sectors_of batch * 480 = bounds.0 in
    let full : sectors_of batch * 480 < length (batch_text batch) + 480 = bounds.1 in
    record { some = omega (arith, long, fits); few = omega (arith, short, full); fits = omega (arith, fits); full = omega (arith, full) }

module _ (epoch number parts : ℕ) (numbered : IsNumbered epoch number) (few : parts ≤ 128) where
  is_last_part : (part : ℕ) (text : List ℕ) → part + 1 ≡ parts → 1 ≤ length text → length text ≤ 480 → IsPart (part_at epoch number parts part text)
  is_last_part part text last some small = record {
    epoch_low = numbered.epoch_low;
    epoch_high = numbered.epoch_high;
    batch_low = numbered.number_low;
    batch_high = numbered.number_high;
    part_below = omega arith;
    parts_high = few;
    payload_low = omega (arith, length-take 480 text);
    payload_high = omega (arith, length-take 480 text);
    payload_whole = λ lt. absurd (omega (arith, lt, last));
  }

  is_whole_part : (part : ℕ) (text : List ℕ) → part < parts → 480 ≤ length text → IsPart (part_at epoch number parts part text)
  is_whole_part part text below large = record {
    epoch_low = numbered.epoch_low;
    epoch_high = numbered.epoch_high;
    batch_low = numbered.number_low;
    batch_high = numbered.number_high;
    part_below = below;
    parts_high = few;
    payload_low = omega (arith, length-take 480 text);
    payload_high = omega (arith, length-take 480 text);
    payload_whole = λ lt. omega (arith, length-take 480 text);
  }

  -- each is a part of the epoch
  abbrev IsPartOf : Part → Type 0
  IsPartOf p = IsPart p × (p.epoch ≡ epoch)

  cut_parts : (n part : ℕ) (rest : List ℕ) → part + n ≡ parts → length rest ≤ 480 * n → 480 * n < length rest + 480 → All (λ p. IsPart p × (p.epoch ≡ epoch)) (cut epoch number parts part rest n)
  cut_parts zero part rest counts fits full = All-nil (λ p. IsPart p × (p.epoch ≡ epoch))
  cut_parts (suc zero) part rest counts fits full =
      All-cons (λ (p : Part). IsPart p × (p.epoch ≡ epoch)) (part_at epoch number parts part rest) [] (is_last_part part rest (omega arith) (omega arith) (omega arith), refl) (All-nil (λ p. IsPart p × (p.epoch ≡ epoch)))
  cut_parts (suc (suc n)) part rest counts fits full =
      All-cons (λ (p : Part). IsPart p × (p.epoch ≡ epoch)) (part_at epoch number parts part rest) (cut epoch number parts (part + 1) (drop 480 rest) (suc n))
      (is_whole_part part rest (omega arith) (omega arith), refl)
      (cut_parts (suc n) (part + 1) (drop 480 rest) (omega arith) (omega (arith, length-drop 480 rest)) (omega (arith, length-drop 480 rest)))

module _ (epoch : ℕ) where
  abbrev IsPartOfEpoch : Part → Type 0
  IsPartOfEpoch p = IsPart p × (p.epoch ≡ epoch)

  -- sectors that spell parts in front
  parts-front : (ps : List Part) (tail : Sectors) → All (λ p. IsPart p × (p.epoch ≡ epoch)) ps → map_while part_of (map log_sector ps ++ tail) ≡ ps ++ map_while part_of tail
  parts-front [] tail all = refl
  parts-front (p ∷ ps) tail all =
      ap (λ (o : Option Part). cons_while o (map_while part_of (map log_sector ps ++ tail))) (log_sector_format.decoded p (All-head (λ (p : Part). IsPart p × (p.epoch ≡ epoch)) p ps all).0)
      ∙ ap (λ (l : List Part). p ∷ l) (parts-front ps tail (All-tail (λ (p : Part). IsPart p × (p.epoch ≡ epoch)) p ps all))

  -- and they are sectors of the epoch
  parts-of : (ps : List Part) → All (λ p. IsPart p × (p.epoch ≡ epoch)) ps → All (λ s. is_of epoch s ≡ true) (map log_sector ps)
  parts-of [] all = All-nil (λ s. is_of epoch s ≡ true)
  parts-of (p ∷ ps) all =
      let here = All-head (λ (p : Part). IsPart p × (p.epoch ≡ epoch)) p ps all in
      All-cons (λ (s : List ℕ). is_of epoch s ≡ true) (log_sector p) (map log_sector ps) (ap (has_epoch epoch) (log_sector_format.decoded p here.0) ∙ eq-eqb p.epoch epoch here.1)
      (parts-of ps (All-tail (λ (p : Part). IsPart p × (p.epoch ≡ epoch)) p ps all))

-- ---- one batch

module _ (epoch number : ℕ) (batch : List Operation) (is : IsBatch batch) (numbered : IsNumbered epoch number) where
  all_parts : All (λ p. IsPart p × (p.epoch ≡ epoch)) (parts_of epoch number batch)
  all_parts =
      let count = counted batch is in
      cut_parts epoch number (sectors_of batch) numbered count.few (sectors_of batch) 0 (batch_text batch) (omega arith) count.fits count.full

  -- each of its sectors is of the epoch
  pub batch_of_epoch : All (λ s. is_of epoch s ≡ true) (batch_sectors epoch number batch)
  batch_of_epoch = parts-of epoch (parts_of epoch number batch) all_parts

  module _ (tail : Sectors) where
    pub batch_whole : replay epoch number (batch_sectors epoch number batch ++ tail) ≡ batch ∷ replay epoch (number + 1) tail
    batch_whole =
        let count = counted batch is in
        ap (λ (ps : List Part). map_while batch_of (texts_from epoch number 0 0 [] ps)) (parts-front epoch (parts_of epoch number batch) tail all_parts)
        ∙ ap (map_while batch_of) (whole epoch number (sectors_of batch) (sectors_of batch) 0 0 [] (batch_text batch) (map_while part_of tail) (omega arith) count.some count.fits (inl refl))
        ∙ ap (λ (o : Option (List Operation)). cons_while o (replay epoch (number + 1) tail)) (batch_format.decoded batch is)

    pub batch_some : (j : ℕ) → j < sectors_of batch → Stops epoch tail → replay epoch number (take j (batch_sectors epoch number batch) ++ tail) ≡ []
    batch_some j few stops =
        ap (λ (l : Sectors). replay epoch number (l ++ tail)) (take-map log_sector j (parts_of epoch number batch))
        ∙ ap (λ (ps : List Part). map_while batch_of (texts_from epoch number 0 0 [] ps)) (parts-front epoch (take j (parts_of epoch number batch)) tail (All-take (λ (p : Part). IsPart p × (p.epoch ≡ epoch)) j (parts_of epoch number batch) all_parts))
        ∙ ap (map_while batch_of) (some epoch number (sectors_of batch) j (sectors_of batch) 0 0 [] (batch_text batch) (map_while part_of tail) (omega arith) few (inl refl) (parts-stop epoch tail stops))

-- ---- batches, one after the other

numbered_first : (epoch first count : ℕ) → AreNumbers epoch first (suc count) → IsNumbered epoch first
numbered_first epoch first count numbers = record {
  epoch_low = numbers.epoch_low;
  epoch_high = numbers.epoch_high;
  number_low = numbers.first_low;
  number_high = omega (arith, numbers.last_high);
}

numbers_next : (epoch first count : ℕ) → AreNumbers epoch first (suc count) → AreNumbers epoch (first + 1) count
numbers_next epoch first count numbers = record {
  epoch_low = numbers.epoch_low;
  epoch_high = numbers.epoch_high;
  first_low = omega (arith, numbers.first_low);
  last_high = omega (arith, numbers.last_high);
}

-- whole batches in front are read, and then what is after them
pub replay-front : (epoch first : ℕ) (batches : Batches) (tail : Sectors) → All IsBatch batches → AreNumbers epoch first (length batches) → replay epoch first (all_sectors epoch first batches ++ tail) ≡ batches ++ replay epoch (first + length batches) tail
replay-front epoch first [] tail all numbers = let same : first ≡ first + 0 = omega arith in ap (λ (n : ℕ). replay epoch n tail) same
replay-front epoch first (batch ∷ batches) tail all numbers =
    let next : (first + 1) + length batches ≡ first + suc (length batches) = omega arith in
    ap (replay epoch first) (append_assoc (batch_sectors epoch first batch) (all_sectors epoch (first + 1) batches) tail)
    ∙ batch_whole epoch first batch (All-head IsBatch batch batches all) (numbered_first epoch first (length batches) numbers) (all_sectors epoch (first + 1) batches ++ tail)
    ∙ ap (λ (l : Batches). batch ∷ l) (replay-front epoch (first + 1) batches tail (All-tail IsBatch batch batches all) (numbers_next epoch first (length batches) numbers) ∙ ap (λ (n : ℕ). batches ++ replay epoch n tail) next)

-- of the first few sectors of some batches, the first few batches
take_past : (j : ℕ) (xs ys : Sectors) → length xs ≤ j → take j (xs ++ ys) ≡ xs ++ take (j - length xs) ys
take_past j [] ys le = let same : j ≡ j - 0 = omega arith in ap (λ (n : ℕ). take n ys) same
take_past zero (x ∷ xs) ys le = absurd (omega arith)
take_past (suc j) (x ∷ xs) ys le =
    let same : j - length xs ≡ suc j - suc (length xs) = omega arith in
    ap (λ (l : Sectors). x ∷ l) (take_past j xs ys (omega arith) ∙ ap (λ (n : ℕ). xs ++ take n ys) same)

pub replay-some : (epoch first : ℕ) (batches : Batches) (j : ℕ) (tail : Sectors) → All IsBatch batches → AreNumbers epoch first (length batches) → Stops epoch tail
    → (k : ℕ) × (k ≤ length batches) × (replay epoch first (take j (all_sectors epoch first batches) ++ tail) ≡ take k batches)
replay-some epoch first [] zero tail all numbers stops = (0, omega arith, replay-stops epoch first tail stops)
replay-some epoch first [] (suc j) tail all numbers stops = (0, omega arith, replay-stops epoch first tail stops)
replay-some epoch first (batch ∷ batches) j tail all numbers stops =
    let is = All-head IsBatch batch batches all in
    let numbered = numbered_first epoch first (length batches) numbers in
    let long = length-batch epoch first batch in
    ⊎_elim
    (λ (few : j < sectors_of batch). (
      0,
      omega arith,
      ap (λ (l : Sectors). replay epoch first (l ++ tail)) (take-append-le j (batch_sectors epoch first batch) (all_sectors epoch (first + 1) batches) (omega (arith, few, long))) ∙ batch_some epoch first batch is numbered tail j few stops,
    ))
    (λ (more : sectors_of batch ≤ j).
    let rest = j - length (batch_sectors epoch first batch) in
    let later = replay-some epoch (first + 1) batches rest tail (All-tail IsBatch batch batches all) (numbers_next epoch first (length batches) numbers) stops in (
      suc later.0,
      omega (arith, later.1),
      ap (λ (l : Sectors). replay epoch first (l ++ tail)) (take_past j (batch_sectors epoch first batch) (all_sectors epoch (first + 1) batches) (omega (arith, more, long)))
          ∙ ap (replay epoch first) (append_assoc (batch_sectors epoch first batch) (take rest (all_sectors epoch (first + 1) batches)) tail)
          ∙ batch_whole epoch first batch is numbered (take rest (all_sectors epoch (first + 1) batches) ++ tail)
          ∙ ap (λ (l : Batches). batch ∷ l) later.2,
    ))
    (cases_lt j (sectors_of batch))

pub all_sectors-append : (epoch first : ℕ) (xs ys : Batches) → all_sectors epoch first (xs ++ ys) ≡ all_sectors epoch first xs ++ all_sectors epoch (first + length xs) ys
all_sectors-append epoch first [] ys = let same : first ≡ first + 0 = omega arith in ap (λ (n : ℕ). all_sectors epoch n ys) same
all_sectors-append epoch first (x ∷ xs) ys =
    let next : (first + 1) + length xs ≡ first + suc (length xs) = omega arith in
    ap (λ (l : Sectors). batch_sectors epoch first x ++ l) (all_sectors-append epoch (first + 1) xs ys ∙ ap (λ (n : ℕ). all_sectors epoch (first + 1) xs ++ all_sectors epoch n ys) next)
    ∙ sym (append_assoc (batch_sectors epoch first x) (all_sectors epoch (first + 1) xs) (all_sectors epoch (first + suc (length xs)) ys))
