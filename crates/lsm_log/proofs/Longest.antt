-- A replay gives the longest run of batches that the sectors begin with.
use Rattle.std.proofs.Common.{◌≡◌, ◌⊎◌, inl, inr, ⊎_elim, ℕ, suc, ◌+◌, ◌*◌, ◌<◌, ◌≤◌, ◌==◌, true, false, List, [], ◌∷◌, ◌++◌, length, take, drop, map, Some, None, refl, sym, ◌∙◌, ap, arith, append_assoc}
use Rattle.std.specs.Prelude.{Option, All}
use Rattle.std.proofs.lemmas.Grind.{div_ceil_times}
use Rattle.std.proofs.lemmas.List.{take_all, take_at, drop_at, length-append}
use Rattle.std.proofs.lemmas.List.Elements.{All-nil, All-cons, All-head, All-tail}
use Rattle.std.proofs.lemmas.Bool.{eqb-true, and_parts, or_cases, cond-true, cond-false, cases_Bool}
use Rattle.lsm_codec.specs.BatchText.{IsBatch, batch_text, sectors_of, batch_of}
use Rattle.lsm_codec.specs.LogSectors.{Part, IsPart, log_sector, part_of}
use Rattle.lsm_codec.specs.Map.{Operation}
use Rattle.lsm_codec.proofs.BatchLaws.{batch_format}
use Rattle.lsm_codec.proofs.LogSectorLaws.{log_sector_format, same_fields}
use Rattle.lsm_log.specs.Batches.{cut, parts_of, batch_sectors, all_sectors}
use Rattle.lsm_log.specs.Replay.{cons_while, map_while, is_awaited, texts_from, replay}
use Rattle.lsm_log.specs.Opened.{AreNumbers}
use Rattle.lsm_log.specs.Longest.{IsLongest}
use Rattle.lsm_log.proofs.Replaying.{IsNumbered, batch_whole, replay-front}

abbrev Sectors : Type 0
Sectors = List (List ℕ)

abbrev Batches : Type 0
Batches = List (List Operation)

-- ---- the sectors that spelled some parts

-- each sector that was read as a part spells it
spelled_front : (ps : List Part) (qs : List Part) (sectors : Sectors) → map_while part_of sectors ≡ ps ++ qs → (rest : Sectors) × (sectors ≡ map log_sector ps ++ rest) × (map_while part_of rest ≡ qs)
spelled_front [] qs sectors is = (sectors, refl, is)
spelled_front (p ∷ ps) qs [] is = absurd cc
spelled_front (p ∷ ps) qs (s ∷ sectors) is = by_part (λ later. spelled_front ps qs sectors later) (part_of s) refl is
  where
    by_part : (map_while part_of sectors ≡ ps ++ qs → (rest : Sectors) × (sectors ≡ map log_sector ps ++ rest) × (map_while part_of rest ≡ qs)) → (o : Option Part) → part_of s ≡ o → cons_while o (map_while part_of sectors) ≡ p ∷ (ps ++ qs) → (rest : Sectors) × (s ∷ sectors ≡ map log_sector (p ∷ ps) ++ rest) × (map_while part_of rest ≡ qs)
    by_part again None found e = absurd cc
    by_part again (Some q) found e =
        let same : q ≡ p = cc e in
        let later : map_while part_of sectors ≡ ps ++ qs = cc e in
        let behind = again later in
        let here : s ≡ log_sector p = (log_sector_format.spelled s q found).1 ∙ ap log_sector same in
        (behind.0, ap (λ (l : Sectors). s ∷ l) behind.1 ∙ ap (λ (t : List ℕ). t ∷ (map log_sector ps ++ behind.0)) here, behind.2)

all_parts : (sectors : Sectors) → All IsPart (map_while part_of sectors)
all_parts [] = All-nil IsPart
all_parts (s ∷ sectors) = by_part (all_parts sectors) (part_of s) refl
  where
    by_part : All IsPart (map_while part_of sectors) → (o : Option Part) → part_of s ≡ o → All IsPart (cons_while o (map_while part_of sectors))
    by_part later None found = All-nil IsPart
    by_part later (Some p) found = All-cons IsPart p (map_while part_of sectors) (log_sector_format.spelled s p found).0 later

-- ---- the parts that made a text

-- the parts of the first text, and those after them
record IsFirst (epoch number part parts : ℕ) (text : List ℕ) (ps : List Part) (whole : List ℕ) (later : Sectors) : Type 0 where
  count : ℕ
  total : ℕ
  payload : List ℕ
  behind : List Part
  text_is : whole ≡ text ++ payload
  parts_are : ps ≡ cut epoch number total part payload count ++ behind
  counts : part + count ≡ total
  same : (part ≡ 0) ⊎ (total ≡ parts)
  some : 1 ≤ count
  fits : length payload ≤ 480 * count
  full : 480 * count < length payload + 480
  later_is : later ≡ texts_from epoch (number + 1) 0 0 [] behind

module _ (epoch : ℕ) where
  first_text : (ps : List Part) (number part parts : ℕ) (text whole : List ℕ) (later : Sectors) → All IsPart ps → texts_from epoch number part parts text ps ≡ whole ∷ later → IsFirst epoch number part parts text ps whole later
  first_text [] number part parts text whole later all e = absurd cc
  first_text (p ∷ ps) number part parts text whole later all e = ⊎_elim
      (λ (next : is_awaited epoch number part parts p ≡ true). awaited (λ number part parts text e. first_text ps number part parts text whole later (All-tail IsPart p ps all) e) next)
      (λ (other : is_awaited epoch number part parts p ≡ false).
      let none : [] ≡ whole ∷ later = sym (cond-false (is_awaited epoch number part parts p) _ [] other) ∙ e in
      absurd cc)
      (cases_Bool (is_awaited epoch number part parts p))
    where
      fits : IsPart p
      fits = All-head IsPart p ps all

      awaited : ((number part parts : ℕ) (text : List ℕ) → texts_from epoch number part parts text ps ≡ whole ∷ later → IsFirst epoch number part parts text ps whole later)
          → is_awaited epoch number part parts p ≡ true → IsFirst epoch number part parts text (p ∷ ps) whole later
      awaited again next =
          let a = and_parts _ _ next in
          let b = and_parts _ _ a.1 in
          let c = and_parts _ _ b.1 in
          let epoch_is : p.epoch ≡ epoch = eqb-true p.epoch epoch a.0 in
          let batch_is : p.batch ≡ number = eqb-true p.batch number b.0 in
          let part_is : p.part ≡ part = eqb-true p.part part c.0 in
          let same : (part ≡ 0) ⊎ (p.parts ≡ parts) = ⊎_elim (λ (t : (part == 0) ≡ true). inl (eqb-true part 0 t)) (λ (t : (p.parts == parts) ≡ true). inr (eqb-true p.parts parts t)) (or_cases _ _ c.1) in
          let step = sym (cond-true (is_awaited epoch number part parts p) _ [] next) ∙ e in
          ⊎_elim
          (λ (last : (part + 1 == p.parts) ≡ true).
          let ended : (text ++ p.payload) ∷ texts_from epoch (number + 1) 0 0 [] ps ≡ whole ∷ later = sym (cond-true (part + 1 == p.parts) _ _ last) ∙ step in
          let short : take 480 p.payload ≡ p.payload = take_all 480 p.payload fits.payload_high in
          record {
            count = 1;
            total = p.parts;
            payload = p.payload;
            behind = ps;
            text_is = cc ended;
            parts_are = ap (λ (q : Part). q ∷ ps) (sym (same_fields epoch number part p.parts (take 480 p.payload) p (sym epoch_is) (sym batch_is) (sym part_is) refl short));
            counts = eqb-true (part + 1) p.parts last;
            same = same;
            some = omega arith;
            fits = omega (arith, fits.payload_high);
            full = omega (arith, fits.payload_low);
            later_is = cc ended;
          })
          (λ (more : (part + 1 == p.parts) ≡ false).
          let goes_on : texts_from epoch number (part + 1) p.parts (text ++ p.payload) ps ≡ whole ∷ later = sym (cond-false (part + 1 == p.parts) _ _ more) ∙ step in
          let rest = again number (part + 1) p.parts (text ++ p.payload) goes_on in
          let total_is : rest.total ≡ p.parts = ⊎_elim (λ (zero_is : part + 1 ≡ 0). absurd (omega (arith, zero_is))) (λ (is : rest.total ≡ p.parts). is) rest.same in
          let full : length p.payload ≡ 480 = fits.payload_whole (omega (arith, part_is, rest.counts, rest.some, total_is)) in
          let front : take 480 (p.payload ++ rest.payload) ≡ p.payload = take_at p.payload rest.payload 480 full in
          let back : drop 480 (p.payload ++ rest.payload) ≡ rest.payload = drop_at p.payload rest.payload 480 full in
          record {
            count = suc rest.count;
            total = rest.total;
            payload = p.payload ++ rest.payload;
            behind = rest.behind;
            text_is = rest.text_is ∙ append_assoc text p.payload rest.payload;
            parts_are =
                ap (λ (l : List Part). p ∷ l) (rest.parts_are ∙ ap (λ (t : List ℕ). cut epoch number rest.total (part + 1) t rest.count ++ rest.behind) (sym back))
                ∙ ap (λ (q : Part). q ∷ (cut epoch number rest.total (part + 1) (drop 480 (p.payload ++ rest.payload)) rest.count ++ rest.behind))
                (sym (same_fields epoch number part rest.total (take 480 (p.payload ++ rest.payload)) p (sym epoch_is) (sym batch_is) (sym part_is) total_is front));
            counts = omega (arith, rest.counts);
            same = ⊎_elim (λ (is : part ≡ 0). inl is) (λ (is : p.parts ≡ parts). inr (total_is ∙ is)) same;
            some = omega arith;
            fits = omega (arith, rest.fits, full, length-append p.payload rest.payload);
            full = omega (arith, rest.full, full, length-append p.payload rest.payload);
            later_is = rest.later_is;
          })
          (cases_Bool (part + 1 == p.parts))

  -- n is the number of parts of a batch of that text
  count_is : (batch : List Operation) (n : ℕ) → length (batch_text batch) ≤ 480 * n → 480 * n < length (batch_text batch) + 480 → n ≡ sectors_of batch
  count_is batch n fits full =
      let bounds = div_ceil_times (length (batch_text batch)) 480 (omega arith) in
      let low : length (batch_text batch) ≤ sectors_of batch * 480 = bounds.0 in
      let high : sectors_of batch * 480 < length (batch_text batch) + 480 = bounds.1 in
      omega (arith, low, high, fits, full)

  -- the sectors begin with the batches that were read
  begins : (texts : Sectors) (number : ℕ) (sectors : Sectors) → texts_from epoch number 0 0 [] (map_while part_of sectors) ≡ texts
      → ((rest : Sectors) × (sectors ≡ all_sectors epoch number (map_while batch_of texts) ++ rest)) × All IsBatch (map_while batch_of texts)
  begins [] number sectors e = ((sectors, refl), All-nil IsBatch)
  begins (text ∷ texts) number sectors e = by_batch (λ number sectors e. begins texts number sectors e) (batch_of text) refl
    where
      first : IsFirst epoch number 0 0 [] (map_while part_of sectors) text texts
      first = first_text (map_while part_of sectors) number 0 0 [] text texts (all_parts sectors) e

      by_batch : ((number : ℕ) (sectors : Sectors) → texts_from epoch number 0 0 [] (map_while part_of sectors) ≡ texts → ((rest : Sectors) × (sectors ≡ all_sectors epoch number (map_while batch_of texts) ++ rest)) × All IsBatch (map_while batch_of texts))
          → (o : Option (List Operation)) → batch_of text ≡ o
          → ((rest : Sectors) × (sectors ≡ all_sectors epoch number (cons_while o (map_while batch_of texts)) ++ rest)) × All IsBatch (cons_while o (map_while batch_of texts))
      by_batch again None found = ((sectors, refl), All-nil IsBatch)
      by_batch again (Some batch) found =
          let law = batch_format.spelled text batch found in
          let text_is : first.payload ≡ batch_text batch = sym first.text_is ∙ law.1 in
          let total_is : first.total ≡ sectors_of batch =
          count_is batch first.total
          (omega (arith, ap length text_is, first.fits, first.counts))
          (omega (arith, ap length text_is, first.full, first.counts)) in
          let count_same : first.count ≡ sectors_of batch = omega (arith, first.counts, total_is) in
          let parts_are : map_while part_of sectors ≡ parts_of epoch number batch ++ first.behind =
          first.parts_are
          ∙ ap (λ (t : List ℕ). cut epoch number first.total 0 t first.count ++ first.behind) text_is
          ∙ ap (λ (n : ℕ). cut epoch number n 0 (batch_text batch) first.count ++ first.behind) total_is
          ∙ ap (λ (n : ℕ). cut epoch number (sectors_of batch) 0 (batch_text batch) n ++ first.behind) count_same in
          let here = spelled_front (parts_of epoch number batch) first.behind sectors parts_are in
          let later = again (number + 1) here.0 (ap (texts_from epoch (number + 1) 0 0 []) here.2 ∙ sym first.later_is) in (
            (
              later.0.0,
              here.1 ∙ ap (λ (l : Sectors). batch_sectors epoch number batch ++ l) later.0.1 ∙ sym (append_assoc (batch_sectors epoch number batch) (all_sectors epoch (number + 1) (map_while batch_of texts)) later.0.0),
            ),
            All-cons IsBatch batch (map_while batch_of texts) law.0 later.1,
          )

pub replay_longest : (epoch first : ℕ) (sectors : List (List ℕ)) → AreNumbers epoch first 0 → IsLongest epoch first sectors (replay epoch first sectors)
replay_longest epoch first sectors numbers =
    let batches = replay epoch first sectors in
    let found = begins epoch (texts_from epoch first 0 0 [] (map_while part_of sectors)) first sectors refl in
    record {
      rest = found.0.0;
      front = found.0.1;
      whole = found.1;
      ends = λ low batch tail is next.
          let all : AreNumbers epoch first (length batches) = record { epoch_low = numbers.epoch_low; epoch_high = numbers.epoch_high; first_low = numbers.first_low; last_high = omega (arith, low) } in
          let numbered : IsNumbered epoch (first + length batches) = record { epoch_low = numbers.epoch_low; epoch_high = numbers.epoch_high; number_low = omega (arith, numbers.first_low); number_high = low } in
          let more : batches ≡ batches ++ (batch ∷ replay epoch (first + length batches + 1) tail) =
          ap (replay epoch first) (found.0.1 ∙ ap (λ (l : Sectors). all_sectors epoch first batches ++ l) next)
          ∙ replay-front epoch first batches (batch_sectors epoch (first + length batches) batch ++ tail) found.1 all
          ∙ ap (λ (l : Batches). batches ++ l) (batch_whole epoch (first + length batches) batch is numbered tail) in
          absurd (omega (arith, ap length more, length-append batches (batch ∷ replay epoch (first + length batches + 1) tail)));
    }
