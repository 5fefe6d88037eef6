-- The levels that were read are those that are told.
use Rattle.std.proofs.Common.{◌≡◌, ℕ, suc, ◌+◌, Bool, IsTrue, List, [], ◌∷◌, ◌++◌, length, take, drop, Option, Some, refl, sym, ap, ◌∙◌, append_assoc, arith}
use Rattle.std.proofs.Math.Seq.{take-append_seam, drop-append_seam}
use Rattle.std.proofs.lemmas.List.{append-nil, length-append}
use Rattle.lsm_codec.specs.Manifests.{Contents}
use Rattle.lsm_codec.specs.Reading.{◌>>=◌}
use Rattle.lsm_levels.specs.Levels.{Levels, places}
use Rattle.lsm_levels.specs.Tables.{Table}
use Rattle.lsm_open.specs.ToldTables.{told_run, told_runs, told_levels, levels_of, AreRunsRead}

module _ (n : ℕ) (tells : Bool) (S : List (List ℕ)) (m : Contents) (t : IsTrue tells) where
  told_from : (k : ℕ) (before rest : List (List Table)) → AreRunsRead n tells S m k rest → told_runs n S m k ≡ Some before → told_runs n S m (k + length rest) ≡ Some (before ++ rest)
  told_from k before [] read is = let same : k + 0 ≡ k = omega arith in ap (told_runs n S m) same ∙ is ∙ ap (λ (l : List (List Table)). Some l) (sym (append-nil before))
  told_from k before (r ∷ rest) read is =
      let one : told_runs n S m (suc k) ≡ Some (before ++ r ∷ []) = ap (λ (o : Option (List (List Table))). o >>= λ (b : List (List Table)). told_run n S m k >>= λ (run : List Table). Some (b ++ run ∷ [])) is ∙ ap (λ (o : Option (List Table)). o >>= λ (run : List Table). Some (before ++ run ∷ [])) (read.0.told t) in
      let far : k + suc (length rest) ≡ suc k + length rest = omega arith in
      ap (told_runs n S m) far ∙ told_from (suc k) (before ++ r ∷ []) rest read.1 one ∙ ap (λ (l : List (List Table)). Some l) (append_assoc before (r ∷ []) rest)

  pub levels_told : (levels : Levels) → AreRunsRead n tells S m 0 (places levels) → length levels.runs ≡ m.runs → length levels.deeper ≡ 4 → told_levels n S m ≡ Some levels
  levels_told levels read runs four =
      let size : m.runs + 4 ≡ 0 + length (places levels) = omega (arith, length-append levels.runs levels.deeper, runs, four) in
      let all : told_runs n S m (m.runs + 4) ≡ Some (places levels) = ap (told_runs n S m) size ∙ told_from 0 [] (places levels) read refl in
      ap (λ (o : Option (List (List Table))). o >>= λ (all : List (List Table)). Some (levels_of m.runs all)) all
      ∙ ap (λ (k : ℕ). let l : Levels = record { runs = take k (places levels); deeper = drop k (places levels) } in Some l) (sym runs)
      ∙ ap (λ (x : List (List Table)). let l : Levels = record { runs = x; deeper = drop (length levels.runs) (places levels) } in Some l) (take-append_seam levels.runs levels.deeper)
      ∙ ap (λ (x : List (List Table)). let l : Levels = record { runs = levels.runs; deeper = x } in Some l) (drop-append_seam levels.runs levels.deeper)
