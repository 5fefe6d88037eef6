-- Recovery points: which there are, and what batches and syncs make of them.
use Rattle.std.proofs.Common.{◌≡◌, ◌≤◌, ◌⊎◌, inl, inr, ⊎_elim, ℕ, zero, suc, ◌+◌, ◌-◌, List, [], ◌∷◌, ◌++◌, length, take, drop, refl, ap, sym, subst, ◌∙◌, arith}
use Rattle.std.specs.Prelude.{Contains}
use Rattle.std.proofs.Math.Nat.{add-zero}
use Rattle.std.proofs.lemmas.Bool.{cases_lt}
use Rattle.std.proofs.lemmas.List.{length-append, length-drop, take-append-drop, take_all, drop_all}
use Rattle.lsm_codec.specs.Map.{Map, Operation, apply, apply_all}
use Rattle.lsm_root.proofs.Beginnings.{apply_all-append, take_sum}
use Rattle.lsm_machine.specs.RecoveryPoints.{RecoveryPoint, RecoveryPoints, points_from, last_map, recovery_points, present_point, with_batch, all_synced, batch_count, present_map}
use Rattle.lsm_machine.specs.Promise.{maps_after, beginnings}
use Rattle.lsm_machine.proofs.Membership.{in_head, in_tail, one_in, in_cases}

-- the nth point of these
abbrev pub point_at : ℕ → Map → List Map → ℕ → RecoveryPoint
point_at k m maps n = record { count = k + n; map = last_map m (take n maps) }

same_count : (k n : ℕ) (m : Map) → suc k + n ≡ k + suc n
same_count k n m = omega arith

pub in_points : (k : ℕ) (m : Map) (maps : List Map) (point : RecoveryPoint) → Contains (points_from k m maps) point → (n : ℕ) × (n ≤ length maps) × (point ≡ point_at k m maps n)
in_points k m [] point found = (0, omega arith, one_in _ point found ∙ ap (λ c. let x : RecoveryPoint = record { count = c; map = m } in x) (sym (add-zero k)))
in_points k m (next ∷ rest) point found = ⊎_elim
    (λ e. (0, omega arith, e ∙ ap (λ c. let x : RecoveryPoint = record { count = c; map = m } in x) (sym (add-zero k))))
    (λ later. let of = in_points (suc k) next rest point later in
    (suc of.0, omega (arith, of.1), of.2 ∙ ap (λ c. let x : RecoveryPoint = record { count = c; map = last_map next (take of.0 rest) } in x) (same_count k of.0 m)))
    (in_cases (record { count = k; map = m }) point (points_from (suc k) next rest) found)

pub point_in : (k : ℕ) (m : Map) (maps : List Map) (n : ℕ) → n ≤ length maps → Contains (points_from k m maps) (point_at k m maps n)
point_in k m maps zero within = subst (λ c. Contains (points_from k m maps) (record { count = c; map = m })) (sym (add-zero k)) (first maps)
  where
    first : (ms : List Map) → Contains (points_from k m ms) (record { count = k; map = m })
    first [] = in_head _ []
    first (next ∷ rest) = in_head _ _
point_in k m [] (suc n) within = absurd (omega (arith, within))
point_in k m (next ∷ rest) (suc n) within =
    in_tail _ _ _ (subst (λ c. Contains (points_from (suc k) next rest) (record { count = c; map = last_map next (take n rest) })) (same_count k n m) (point_in (suc k) next rest n (omega (arith, within))))

split : (n all : ℕ) → n ≤ all + 1 → (n ≤ all) ⊎ (n ≡ all + 1)
split n all h = ⊎_elim (λ below. inl (omega (arith, below))) (λ reached. inr (omega (arith, reached, h))) (cases_lt n (all + 1))

-- the present point is one of them
pub present_in : (points : RecoveryPoints) → Contains (recovery_points points) (present_point points)
present_in points =
    subst (λ maps. Contains (recovery_points points) (record { count = batch_count points; map = last_map points.first maps })) (take_all (length points.later) points.later (omega arith))
    (point_in points.synced points.first points.later (length points.later) (omega arith))

-- a sync keeps it
pub present_synced : (points : RecoveryPoints) → present_point (all_synced points) ≡ present_point points
present_synced points = λ i. record { count = add-zero (batch_count points) i; map = present_map points }

take_front : {X : Type 0} (x : X) (n : ℕ) (xs : List X) → n ≤ length xs → take n (xs ++ x ∷ []) ≡ take n xs
take_front x zero xs h = refl
take_front x (suc n) [] h = absurd (omega (arith, h))
take_front x (suc n) (w ∷ xs) h = ap (λ l. w ∷ l) (take_front x n xs (omega (arith, h)))

-- with one batch more there are those that were, and the present one
pub with_batch_cases : (points : RecoveryPoints) (batch : List Operation) (point : RecoveryPoint) → Contains (recovery_points (with_batch points batch)) point
    → Contains (recovery_points points) point ⊎ (point ≡ present_point (with_batch points batch))
with_batch_cases points batch point found = by (in_points points.synced points.first (points.later ++ next ∷ []) point found)
  where
    next : Map
    next = apply (present_map points) batch

    longer : length (points.later ++ next ∷ []) ≡ length points.later + 1
    longer = length-append points.later (next ∷ [])

    by : (n : ℕ) × (n ≤ length (points.later ++ next ∷ [])) × (point ≡ point_at points.synced points.first (points.later ++ next ∷ []) n)
        → Contains (recovery_points points) point ⊎ (point ≡ present_point (with_batch points batch))
    by (n, within, is) = ⊎_elim
        (λ (before : n ≤ length points.later). inl (subst (Contains (recovery_points points)) (sym (is ∙ ap (λ l. at n (last_map points.first l)) (take_front next n points.later before)))
        (point_in points.synced points.first points.later n before)))
        (λ (last : n ≡ length (points.later ++ next ∷ [])). inr (is ∙ ap (λ k. at k (last_map points.first (take k (points.later ++ next ∷ [])))) last
        ∙ ap (λ l. at (length (points.later ++ next ∷ [])) (last_map points.first l)) (take_all _ (points.later ++ next ∷ []) (omega arith))))
        (⊎_elim (λ before. inl before) (λ e. inr (e ∙ sym longer)) (split n (length points.later) (omega (arith, within, longer))))
      where
        at : ℕ → Map → RecoveryPoint
        at k m = record { count = points.synced + k; map = m }

-- ---- the points that are beginnings of batches

pub length-maps_after : (m : Map) (bs : List (List Operation)) → length (maps_after m bs) ≡ length bs
length-maps_after m [] = refl
length-maps_after m (b ∷ bs) = ap suc (length-maps_after (apply m b) bs)

pub map_after : (m : Map) (bs : List (List Operation)) (n : ℕ) → last_map m (take n (maps_after m bs)) ≡ apply_all m (take n bs)
map_after m bs zero = refl
map_after m [] (suc n) = refl
map_after m (b ∷ bs) (suc n) = map_after (apply m b) bs n

pub last_after : (m : Map) (bs : List (List Operation)) → last_map m (maps_after m bs) ≡ apply_all m bs
last_after m [] = refl
last_after m (b ∷ bs) = last_after (apply m b) bs

maps_more : (m : Map) (bs : List (List Operation)) (b : List Operation) → maps_after m (bs ++ b ∷ []) ≡ maps_after m bs ++ apply (apply_all m bs) b ∷ []
maps_more m [] b = refl
maps_more m (c ∷ bs) b = ap (λ l. apply m c ∷ l) (maps_more (apply m c) bs b)

drop_front : {X : Type 0} (x : X) (n : ℕ) (xs : List X) → n ≤ length xs → drop n (xs ++ x ∷ []) ≡ drop n xs ++ x ∷ []
drop_front x zero xs h = refl
drop_front x (suc n) [] h = absurd (omega (arith, h))
drop_front x (suc n) (w ∷ xs) h = drop_front x n xs (omega (arith, h))

module _ (k : ℕ) (m : Map) where
  -- which there are
  pub in_beginnings : (done : List (List Operation)) (j : ℕ) (point : RecoveryPoint) → j ≤ length done → Contains (recovery_points (beginnings k m done j)) point
      → (n : ℕ) × (j ≤ n) × (n ≤ length done) × (point.count ≡ k + n) × (point.map ≡ apply_all m (take n done))
  in_beginnings done j point within found =
      let first : Map = apply_all m (take j done) in
      let of = in_points (k + j) first (maps_after first (drop j done)) point found in (
        j + of.0,
        omega arith,
        within_done of.0 (length done) within (rw length-drop at (rw (length-maps_after first (drop j done)) at of.1)),
        ap (λ (p : RecoveryPoint). p.count) of.2 ∙ add_up k j of.0,
        ap (λ (p : RecoveryPoint). p.map) of.2 ∙ map_after first (drop j done) of.0 ∙ sym (apply_all-append m (take j done) (take of.0 (drop j done))) ∙ ap (apply_all m) (sym (take_sum j of.0 done)),
      )
    where
      add_up : (a b c : ℕ) → (a + b) + c ≡ a + (b + c)
      add_up a b c = omega arith

      within_done : (n all : ℕ) → j ≤ all → n ≤ all - j → j + n ≤ all
      within_done n all le left = omega arith

  pub present_beginnings : (done : List (List Operation)) (j : ℕ) → present_map (beginnings k m done j) ≡ apply_all m done
  present_beginnings done j =
      last_after (apply_all m (take j done)) (drop j done)
      ∙ sym (apply_all-append m (take j done) (drop j done)) ∙ ap (apply_all m) (take-append-drop j done)

  pub count_beginnings : (done : List (List Operation)) (j : ℕ) → j ≤ length done → batch_count (beginnings k m done j) ≡ k + length done
  count_beginnings done j h = ap (λ n. (k + j) + n) (length-maps_after (apply_all m (take j done)) (drop j done)) ∙ rw length-drop (add_up k j (length done) h)
    where
      add_up : (a b c : ℕ) → b ≤ c → (a + b) + (c - b) ≡ a + c
      add_up a b c le = omega arith

  pub with_batch_beginnings : (done : List (List Operation)) (j : ℕ) (b : List Operation) → j ≤ length done → with_batch (beginnings k m done j) b ≡ beginnings k m (done ++ b ∷ []) j
  with_batch_beginnings done j b h =
      let first = apply_all m (take j done) in
      let later : maps_after first (drop j done) ++ apply (present_map (beginnings k m done j)) b ∷ [] ≡ maps_after first (drop j (done ++ b ∷ [])) =
      ap (λ p. maps_after first (drop j done) ++ apply p b ∷ []) (last_after first (drop j done))
      ∙ sym (maps_more first (drop j done) b) ∙ ap (maps_after first) (sym (drop_front b j done h)) in
      let whole : record { synced = k + j; first = first; later = maps_after first (drop j (done ++ b ∷ [])) } ≡ beginnings k m (done ++ b ∷ []) j =
      ap (λ t. let x : RecoveryPoints = record { synced = k + j; first = apply_all m t; later = maps_after (apply_all m t) (drop j (done ++ b ∷ [])) } in x) (sym (take_front b j done h)) in
      ap (λ l. let x : RecoveryPoints = record { synced = k + j; first = first; later = l } in x) later ∙ whole

  pub all_synced_beginnings : (done : List (List Operation)) (j : ℕ) → j ≤ length done → all_synced (beginnings k m done j) ≡ beginnings k m done (length done)
  all_synced_beginnings done j h =
      let all : take (length done) done ≡ done = take_all (length done) done (omega arith) in
      let counted : batch_count (beginnings k m done j) ≡ k + length done = count_beginnings done j h in
      let mapped : present_map (beginnings k m done j) ≡ apply_all m (take (length done) done) = present_beginnings done j ∙ ap (apply_all m) (sym all) in
      let nothing : [] ≡ maps_after (apply_all m (take (length done) done)) (drop (length done) done) = ap (maps_after (apply_all m (take (length done) done))) (sym (drop_all (length done) done (omega arith))) in
      λ i. record { synced = counted i; first = mapped i; later = nothing i }
