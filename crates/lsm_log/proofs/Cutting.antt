-- The sectors of a batch, by their places.
use Rattle.std.proofs.Common.{◌≡◌, ℕ, zero, suc, ◌+◌, ◌-◌, ◌*◌, min, ◌<◌, List, [], length, get_or, take, drop, map, sym, ◌∙◌, ap, arith}
use Rattle.std.proofs.lemmas.List.{take_min, length-drop, drop-drop}
use Rattle.lsm_codec.specs.Map.{Operation}
use Rattle.lsm_codec.specs.BatchText.{batch_text, sectors_of}
use Rattle.lsm_codec.specs.LogSectors.{log_sector}
use Rattle.lsm_log.specs.Batches.{cut, batch_sectors}
use Rattle.lsm_log.proofs.Replaying.{length-batch}

get_or-cut : (epoch number parts part : ℕ) (text : List ℕ) (n i : ℕ) → i < n
    → get_or (map log_sector (cut epoch number parts part text n)) i [] ≡ log_sector (record { epoch = epoch; batch = number; part = part + i; parts = parts; payload = take 480 (drop (480 * i) text) })
get_or-cut epoch number parts part text zero i lt = absurd (omega arith)
get_or-cut epoch number parts part text (suc n) zero lt =
    let same : part ≡ part + 0 = omega arith in
    ap (λ (k : ℕ). log_sector (record { epoch = epoch; batch = number; part = k; parts = parts; payload = take 480 text })) same
get_or-cut epoch number parts part text (suc n) (suc i) lt =
    let same : (part + 1) + i ≡ part + suc i = omega arith in
    let place : 480 + 480 * i ≡ 480 * suc i = omega arith in
    get_or-cut epoch number parts (part + 1) (drop 480 text) n i (omega arith)
    ∙ ap (λ (k : ℕ). log_sector (record { epoch = epoch; batch = number; part = k; parts = parts; payload = take 480 (drop (480 * i) (drop 480 text)) })) same
    ∙ ap (λ (l : List ℕ). log_sector (record { epoch = epoch; batch = number; part = part + suc i; parts = parts; payload = take 480 l })) (drop-drop (480 * i) 480 text ∙ ap (λ (k : ℕ). drop k text) place)

-- a part's sector is the batch's at its place
pub sector_at : (epoch number : ℕ) (batch : List Operation) (text : List ℕ) (i parts : ℕ) (bytes : List ℕ) → i < parts → parts ≡ sectors_of batch → text ≡ batch_text batch
    → bytes ≡ log_sector (record { epoch = epoch; batch = number; part = i; parts = parts; payload = take 480 (drop (480 * i) text) })
    → (i < length (batch_sectors epoch number batch)) × (bytes ≡ get_or (batch_sectors epoch number batch) i [])
sector_at epoch number batch text i parts bytes lt count spelled is =
    let same : i ≡ 0 + i = omega arith in (
      omega (arith, lt, count, length-batch epoch number batch),
      is
          ∙ ap (λ (t : List ℕ). log_sector (record { epoch = epoch; batch = number; part = i; parts = parts; payload = take 480 (drop (480 * i) t) })) spelled
          ∙ ap (λ (n : ℕ). log_sector (record { epoch = epoch; batch = number; part = i; parts = n; payload = take 480 (drop (480 * i) (batch_text batch)) })) count
          ∙ ap (λ (n : ℕ). log_sector (record { epoch = epoch; batch = number; part = n; parts = sectors_of batch; payload = take 480 (drop (480 * i) (batch_text batch)) })) same
          ∙ sym (get_or-cut epoch number (sectors_of batch) 0 (batch_text batch) (sectors_of batch) i (omega (arith, lt, count))),
    )

-- the payload of a part, cut from the text
pub payload_is : (text : List ℕ) (from to : ℕ) → from < length text → to ≡ min (length text) (from + 480) → take (to - from) (drop from text) ≡ take 480 (drop from text)
payload_is text from to lt is =
    let same : to - from ≡ min 480 (length (drop from text)) = omega (arith, is, length-drop from text, lt) in
    ap (λ (n : ℕ). take n (drop from text)) same ∙ take_min 480 (drop from text)
