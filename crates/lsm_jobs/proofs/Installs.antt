-- Outputs of a job may be installed.
use Rattle.std.proofs.Common.{◌≡◌, ℕ, ◌<◌, List, ◌++◌, map, Some, None, ap, subst, ◌∙◌}
use Rattle.std.specs.List.{AllByRecursion}
use Rattle.lsm_codec.specs.Versions.{Version}
use Rattle.lsm_merge.specs.Inputs.{MergeInput}
use Rattle.lsm_mem.specs.Versions.{joined}
use Rattle.lsm_levels.specs.Tables.{Table, versions_of}
use Rattle.lsm_levels.specs.Levels.{Levels, places}
use Rattle.lsm_levels.specs.Orders.{IsNewerPlace}
use Rattle.lsm_levels.specs.Pick.{Job, Flush, Merge, installed_levels}
use Rattle.lsm_levels.specs.Held.{AreRuns, IsHeld, AreOutputs, AreOrdered, AreRanged}
use Rattle.lsm_levels.proofs.Members.{among_left, among_right}
use Rattle.lsm_codec.proofs.Lists.{all_map}
use Rattle.lsm_levels.proofs.Ranges.{all_of, of_all}
use Rattle.lsm_levels.proofs.Runs.{runs_law}
use Rattle.lsm_levels.proofs.Taking.{order_law, flush_law, merging_law}
use Rattle.lsm_jobs.specs.Slots.{slot_of, with_held}
use Rattle.lsm_jobs.specs.Keeping.{AreKept}
use Rattle.lsm_jobs.specs.Outputs.{AreMadeOf}
use Rattle.lsm_jobs.specs.Outcomes.{ReplaceInputs}
use Rattle.lsm_jobs.specs.Installs.{IsInputOf, InstallLaw}
use Rattle.lsm_jobs.proofs.Found.{found_law}
use Rattle.lsm_jobs.proofs.KeptJobs.{installing_law}
use Rattle.lsm_jobs.proofs.Outcomes.{made_ranged, made_among, merge_outputs, flush_outputs}

module _ (levels : Levels) (input : MergeInput) (outputs : List Table) (runs : AreRuns levels) (ordered : AreOrdered levels) (made : AreMadeOf input outputs) where
  -- a merge's tables are in the levels, so their versions are in their ranges
  inputs_ranged : (i : ℕ) (upper lower : List Table) → IsHeld levels input.bottom (Merge i upper lower) → AreRanged (upper ++ lower)
  inputs_ranged i upper lower held t a =
      let p = (merging_law levels input.bottom i upper lower outputs runs held).inputs_there t a in
      ordered.ranges p.0 t p.1

  replaces : (i : ℕ) (upper lower : List Table) → IsHeld levels input.bottom (Merge i upper lower) → IsInputOf levels (Merge i upper lower) input → ReplaceInputs i upper lower outputs
  replaces i upper lower held is =
      let ranged = inputs_ranged i upper lower held in
      merge_outputs input i upper lower outputs is made (λ t a. ranged t (among_left t upper lower a)) (λ t a. ranged t (among_right t upper lower a))

  are_outputs : (job : Job) → IsHeld levels input.bottom job → IsInputOf levels job input → AreOutputs job outputs
  are_outputs Flush held is = flush_outputs input outputs held is.0 made
  are_outputs (Merge i upper lower) held is = (replaces i upper lower held is).outputs

  -- what is made of newer versions is newer
  newer : (place : List Version) → IsNewerPlace (joined input.runs) place → IsNewerPlace (versions_of outputs) place
  newer place h = all_of (λ v. AllByRecursion (λ w. v.key ≡ w.key → w.number < v.number) place) (versions_of outputs)
      (λ v a. of_all (λ u. AllByRecursion (λ w. u.key ≡ w.key → w.number < u.number) place) (joined input.runs) h v (made_among input outputs made v a))

  stay_ordered : (job : Job) → IsHeld levels input.bottom job → IsInputOf levels job input → AreOrdered (installed_levels levels job outputs)
  stay_ordered Flush held is = flush_law levels outputs ordered (all_map newer (map versions_of (places levels)) is.1) (made_ranged input outputs made)
  stay_ordered (Merge i upper lower) held is = order_law levels input.bottom i upper lower outputs runs held ordered (replaces i upper lower held is).versions (made_ranged input outputs made)

pub install_law : InstallLaw
install_law levels next job slots slot outputs runs ordered kept found is made =
    let number : slot.number ≡ job = found_law.number job slots slot found in
    let own : slot_of slot.number slots ≡ Some slot = ap (λ (n : ℕ). slot_of n slots) number ∙ found in
    let held : IsHeld levels slot.input.bottom slot.job = kept.held slot (found_law.there job slots slot found) in
    let outs : AreOutputs slot.job outputs = are_outputs levels slot.input outputs runs ordered made slot.job held is in
    record {
      held = held;
      are_outputs = outs;
      runs = runs_law levels slot.input.bottom slot.job outputs runs held outs;
      ordered = stay_ordered levels slot.input outputs runs ordered made slot.job held is;
      kept = subst (λ (n : ℕ). AreKept (installed_levels levels slot.job outputs) next (with_held n None slots)) number (installing_law levels next slots slot outputs runs kept own outs);
    }
