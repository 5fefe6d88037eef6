use Rattle.std.proofs.Common.{◌≡◌, ◌∙◌, ap, List, ℕ, Bool}
use Rattle.lsm_merge.specs.Inputs.{items_of, MergeInput}
use Rattle.lsm_mem.specs.Versions.{joined}
use Rattle.lsm_codec.specs.Versions.{Version}
use Rattle.lsm_merge.specs.Loops.{shown}
use Rattle.lsm_merge.specs.Ranges.{shown_key, within}
use Rattle.lsm_merge.proofs.JoinLaws.{ordered_in_order, part_is}
use Rattle.lsm_merge.proofs.parts.kept_part.Goals as goal

pub keep-requires : goal.keep-requires
keep-requires g c =
    ordered_in_order c.deref.result.now (within (shown_key c.args.from) (shown_key c.args.to) (joined (items_of c.runs.result.now))) (ap shown c.deref.ensures.value ∙ c.in_ok-entries.ensures)

abbrev one : List (List Version) → List ℕ → Bool → MergeInput
one runs cuts bottom = record { runs = runs; cuts = cuts; bottom = bottom }

pub returns : goal.returns
returns g c =
    let from = shown_key c.args.from in
    let to = shown_key c.args.to in
    let input = c.args.input.now in
    let ordered = ap shown c.deref.ensures.value ∙ c.in_ok-entries.ensures in
    let view : one (items_of c.runs.result.now) c.cuts.result.now c.is_bottom.result ≡ input =
    ap (λ runs. one runs c.cuts.result.now c.is_bottom.result) c.runs.ensures.same ∙ ap (λ cuts. one input.runs cuts c.is_bottom.result) c.cuts.ensures.same ∙ ap (one input.runs input.cuts) c.is_bottom.ensures in
    c.in_ok-shared.ensures ∙ ap shown c.deref-2.ensures.value
    ∙ part_is input (items_of c.runs.result.now) c.cuts.result.now c.is_bottom.result from to (shown c.deref.result.now) (shown c.in_ok-kept.kept.items) view ordered c.in_ok-kept.ensures
