use Rattle.std.proofs.Common.{◌≡◌, ◌∙◌, ap, sym, rules, [], ◌∷◌, length, take, drop, ◌/◌}
use Rattle.lsm_merge.specs.Keeping.{in_order, all_placed}
use Rattle.lsm_merge.specs.Loops.{shown}
use Rattle.lsm_merge.specs.Inputs.{items_of}
use Rattle.lsm_mem.specs.Versions.{joined}
use Rattle.lsm_merge.specs.Ranges.{shown_key, within}
use Rattle.lsm_mem.proofs.OrderTests.{tested}
use Rattle.lsm_merge.proofs.JoinLaws.{ordered_in_order, in_order-run, in_order-halves}
use Rattle.lsm_merge.proofs.Runs.{front_runs, back_runs, take-items_of, drop-items_of, one_vector, only_run}
use Rattle.lsm_merge.proofs.parts.+merge.Goals as goal

pub within-requires : goal.within-requires
within-requires g t c =
    let one : items_of c.args.runs.now ≡ c.run-item.result.items ∷ [] = one_vector c.args.runs.now c.run-item.result c.in-len1.len_at_least c.in-len1.len_below c.run-item.is in
    rw c.deref.ensures.value (only_run (items_of c.args.runs.now) c.run-item.result.items one c.requires)

pub merge-requires : goal.merge-requires
merge-requires g t c κs within =
    (search rules, (within, front_runs (length c.args.runs.now / 2) c.args.runs.now c.split_at.result.0.now c.split_at.ensures.front c.requires))

pub merge-requires-in_default : goal.merge-requires-in_default
merge-requires-in_default g t c κs within =
    (search rules, (within, back_runs (length c.args.runs.now / 2) c.args.runs.now c.split_at.result.1.now c.split_at.ensures.back c.requires))

pub merge_two-requires-clause-left_ordered : goal.merge_two-requires-clause-left_ordered
merge_two-requires-clause-left_ordered g t c =
    ordered_in_order c.deref-in_default.result.now (within (shown_key c.args.from) (shown_key c.args.to) (joined (items_of c.split_at.result.0.now))) (ap shown c.deref-in_default.ensures.value ∙ c.in_ok-newer-in_default.ensures)

pub merge_two-requires-clause-right_ordered : goal.merge_two-requires-clause-right_ordered
merge_two-requires-clause-right_ordered g t c =
    ordered_in_order c.deref-in_default-2.result.now (within (shown_key c.args.from) (shown_key c.args.to) (joined (items_of c.split_at.result.1.now))) (ap shown c.deref-in_default-2.ensures.value ∙ c.in_ok-older-in_default.ensures)

pub returns-in_ok-referred-in-len1 : goal.returns-in_ok-referred-in-len1
returns-in_ok-referred-in-len1 g t c =
    let from = shown_key c.args.from in
    let to = shown_key c.args.to in
    let run = c.run-item.result.items in
    let one : items_of c.args.runs.now ≡ run ∷ [] = one_vector c.args.runs.now c.run-item.result c.in-len1.len_at_least c.in-len1.len_below c.run-item.is in
    c.in_ok-referred-in-len1.ensures ∙ c.within.ensures ∙ ap (within from to) c.deref.ensures.value
    ∙ in_order-run from to run (tested run (only_run (items_of c.args.runs.now) run one c.requires))
    ∙ ap (λ runs. in_order (within from to (joined runs))) (sym one)

pub returns-in_ok-merge_two-in_default : goal.returns-in_ok-merge_two-in_default
returns-in_ok-merge_two-in_default g t c =
    let from = shown_key c.args.from in
    let to = shown_key c.args.to in
    let n = length c.args.runs.now / 2 in
    let runs = items_of c.args.runs.now in
    let front : items_of c.split_at.result.0.now ≡ take n runs = ap items_of c.split_at.ensures.front ∙ take-items_of n c.args.runs.now in
    let back : items_of c.split_at.result.1.now ≡ drop n runs = ap items_of c.split_at.ensures.back ∙ drop-items_of n c.args.runs.now in
    c.in_ok-merge_two-in_default.ensures
    ∙ ap (λ xs. all_placed xs (shown c.deref-in_default-2.result.now)) (ap shown c.deref-in_default.ensures.value ∙ c.in_ok-newer-in_default.ensures ∙ ap (λ rs. in_order (within from to (joined rs))) front)
    ∙ ap (all_placed (in_order (within from to (joined (take n runs))))) (ap shown c.deref-in_default-2.ensures.value ∙ c.in_ok-older-in_default.ensures ∙ ap (λ rs. in_order (within from to (joined rs))) back)
    ∙ in_order-halves from to runs n
