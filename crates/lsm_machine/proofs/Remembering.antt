-- How the recovery points go with the versions in memory.
use Rattle.std.proofs.Common.{◌≡◌, ℕ, zero, suc, ◌+◌, ◌-◌, ◌≤◌, ◌<◌, List, [], ◌∷◌, ◌++◌, length, refl, sym, ◌∙◌, ap, arith}
use Rattle.lsm_codec.specs.Map.{Map, Operation, apply}
use Rattle.lsm_codec.specs.Versions.{Version}
use Rattle.lsm_mem.specs.Versions.{map_of}
use Rattle.lsm_machine.specs.RecoveryPoints.{RecoveryPoint, RecoveryPoints, batch_count, last_map, present_map, present_point, with_batch, all_synced}
use Rattle.lsm_machine.specs.StateMaps.{maps_from, points_of}

length-maps_from : (vs : List Version) (from n : ℕ) → length (maps_from vs from n) ≡ n
length-maps_from vs from zero = refl
length-maps_from vs from (suc n) = ap suc (length-maps_from vs (suc from) n)

-- one map more
maps_from-push : (vs : List Version) (from n : ℕ) → maps_from vs from (n + 1) ≡ maps_from vs from n ++ map_of vs (from + n) ∷ []
maps_from-push vs from zero = let same : from ≡ from + 0 = omega arith in ap (λ (k : ℕ). map_of vs k ∷ []) same
maps_from-push vs from (suc n) =
    let more : suc n + 1 ≡ suc (n + 1) = omega arith in
    let same : suc from + n ≡ from + suc n = omega arith in
    ap (maps_from vs from) more
    ∙ ap (λ (l : List Map). map_of vs from ∷ l) (maps_from-push vs (suc from) n ∙ ap (λ (k : ℕ). maps_from vs (suc from) n ++ map_of vs k ∷ []) same)

-- versions with the same maps at these counts
maps_from-same : (vs ws : List Version) (from n : ℕ) → ((k : ℕ) → k < from + n → map_of ws k ≡ map_of vs k) → maps_from ws from n ≡ maps_from vs from n
maps_from-same vs ws from zero same = refl
maps_from-same vs ws from (suc n) same =
    ap (λ (m : Map). m ∷ maps_from ws (suc from) n) (same from (omega arith))
    ∙ ap (λ (l : List Map). map_of vs from ∷ l) (maps_from-same vs ws (suc from) n (λ k lt. same k (omega arith)))

last_map-maps_from : (vs : List Version) (m : Map) (from n : ℕ) → m ≡ map_of vs from → last_map m (maps_from vs (suc from) n) ≡ map_of vs (from + n)
last_map-maps_from vs m from zero is = let same : from ≡ from + 0 = omega arith in is ∙ ap (map_of vs) same
last_map-maps_from vs m from (suc n) is =
    let same : suc from + n ≡ from + suc n = omega arith in
    last_map-maps_from vs (map_of vs (suc from)) (suc from) n refl ∙ ap (map_of vs) same

pub batch_count-points_of : (vs : List Version) (count synced : ℕ) → synced ≤ count → batch_count (points_of vs count synced) ≡ count
batch_count-points_of vs count synced le = omega (arith, length-maps_from vs (suc synced) (count - synced))

pub present_map-points_of : (vs : List Version) (count synced : ℕ) → synced ≤ count → present_map (points_of vs count synced) ≡ map_of vs count
present_map-points_of vs count synced le =
    let same : synced + (count - synced) ≡ count = omega arith in
    last_map-maps_from vs (map_of vs synced) synced (count - synced) refl ∙ ap (map_of vs) same

abbrev made : ℕ → Map → List Map → RecoveryPoints
made synced first later = record { synced = synced; first = first; later = later }

abbrev pub point : ℕ → Map → RecoveryPoint
point count m = record { count = count; map = m }

pub present_point-points_of : (vs : List Version) (count synced : ℕ) → synced ≤ count → present_point (points_of vs count synced) ≡ point count (map_of vs count)
present_point-points_of vs count synced le =
    ap (λ (n : ℕ). point n (present_map (points_of vs count synced))) (batch_count-points_of vs count synced le)
    ∙ ap (point count) (present_map-points_of vs count synced le)

-- all batches are synced
pub all_synced-points_of : (vs : List Version) (count synced : ℕ) → synced ≤ count → all_synced (points_of vs count synced) ≡ points_of vs count count
all_synced-points_of vs count synced le =
    let none : zero ≡ count - count = omega arith in
    ap (λ (n : ℕ). made n (present_map (points_of vs count synced)) []) (batch_count-points_of vs count synced le)
    ∙ ap (λ (m : Map). made count m []) (present_map-points_of vs count synced le)
    ∙ ap (λ (n : ℕ). made count (map_of vs count) (maps_from vs (suc count) n)) none

-- versions that have the same maps at each count so far
module _ (vs ws : List Version) (count synced : ℕ) (le : synced ≤ count) (older : (n : ℕ) → n < count + 1 → map_of ws n ≡ map_of vs n) where
  pub points_of-same : points_of ws count synced ≡ points_of vs count synced
  points_of-same =
      ap (λ (m : Map). made synced m (maps_from ws (suc synced) (count - synced))) (older synced (omega arith))
      ∙ ap (made synced (map_of vs synced)) (maps_from-same vs ws (suc synced) (count - synced) (λ k lt. older k (omega arith)))

  -- and at the next one the map after a batch
  module _ (batch : List Operation) (applied : map_of ws (count + 1) ≡ apply (map_of vs count) batch) where
    pub points_of-next : points_of ws (count + 1) synced ≡ with_batch (points_of vs count synced) batch
    points_of-next =
        let more : count + 1 - synced ≡ (count - synced) + 1 = omega arith in
        let number : suc synced + (count - synced) ≡ count + 1 = omega arith in
        let top : map_of ws (suc synced + (count - synced)) ≡ apply (present_map (points_of vs count synced)) batch =
        ap (map_of ws) number ∙ applied ∙ ap (λ (m : Map). apply m batch) (sym (present_map-points_of vs count synced le)) in
        ap (λ (n : ℕ). made synced (map_of ws synced) (maps_from ws (suc synced) n)) more
        ∙ ap (λ (l : List Map). made synced (map_of ws synced) l) (maps_from-push ws (suc synced) (count - synced))
        ∙ ap (λ (m : Map). made synced m (maps_from ws (suc synced) (count - synced) ++ map_of ws (suc synced + (count - synced)) ∷ [])) (older synced (omega arith))
        ∙ ap (λ (l : List Map). made synced (map_of vs synced) (l ++ map_of ws (suc synced + (count - synced)) ∷ [])) (maps_from-same vs ws (suc synced) (count - synced) (λ k lt. older k (omega arith)))
        ∙ ap (λ (m : Map). made synced (map_of vs synced) (maps_from vs (suc synced) (count - synced) ++ m ∷ [])) top

    pub present_point-next : present_point (with_batch (points_of vs count synced) batch) ≡ point (count + 1) (map_of ws (count + 1))
    present_point-next = ap present_point (sym points_of-next) ∙ present_point-points_of ws (count + 1) synced (omega arith)
