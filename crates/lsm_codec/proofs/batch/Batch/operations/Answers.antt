use Rattle.std.proofs.Common.{◌≡◌, ℕ, ◌-◌, List, [], Option, Some, length, take, drop, ap, ◌∙◌, subst, is_some, arith}
use Rattle.std.proofs.lemmas.List.{take_all, length-drop}
use Rattle.lsm_codec.specs.BatchText.{IsBatch, operation_at, spelled, operations_in}
use Rattle.lsm_codec.specs.Map.{Operation}
use Rattle.lsm_codec.specs.Reading.{times, front_of}
use Rattle.lsm_codec.proofs.BatchLaws.{text_length_low}
use Rattle.lsm_codec.proofs.Spelled.{is_spelled, counted, behind_count}
use Rattle.lsm_codec.proofs.batch.Batch.operations.Goals as goal

pub read_u16-requires : goal.read_u16-requires
read_u16-requires g c =
    let law = (is_spelled c.self.inside.text.items c.self.invariant).1 in
    omega (arith, ap length c.as_slice-text.ensures.value, ap length law.1, text_length_low (spelled c.self.inside.text.items) law.0)

pub slice_bounds-new-count : goal.slice_bounds-new-count
slice_bounds-new-count g c =
    let law = (is_spelled c.self.inside.text.items c.self.invariant).1 in
    omega (arith, ap length c.as_slice-text.ensures.value, ap length law.1, text_length_low (spelled c.self.inside.text.items) law.0)

pub slice_bounds-new-start : goal.slice_bounds-new-start
slice_bounds-new-start g c =
    let law = (is_spelled c.self.inside.text.items c.self.invariant).1 in
    omega (arith, ap length c.as_slice-text.ensures.value, ap length law.1, text_length_low (spelled c.self.inside.text.items) law.0)

pub new-requires : goal.new-requires
new-requires g c =
    let text = c.as_slice-text.result.now in
    let os = spelled c.self.inside.text.items in
    let law = (is_spelled c.self.inside.text.items c.self.invariant).1 in
    let is = c.as_slice-text.ensures.value ∙ law.1 in
    let rest : take (length text - 2) (drop 2 text) ≡ drop 2 text = take_all (length text - 2) (drop 2 text) (omega (arith, length-drop 2 text)) in
    let read : times c.read_u16.result operation_at (take (length text - 2) (drop 2 text)) ≡ Some (os, []) =
    ap (λ (n : ℕ). times n operation_at (take (length text - 2) (drop 2 text))) (c.read_u16.ensures ∙ counted text os law.0 is) ∙ ap (times (length os) operation_at) rest ∙ behind_count text os law.0 is in
    ap is_some read

pub returns-clause-same : goal.returns-clause-same
returns-clause-same g c =
    let text = c.as_slice-text.result.now in
    let os = spelled c.self.inside.text.items in
    let law = (is_spelled c.self.inside.text.items c.self.invariant).1 in
    let is = c.as_slice-text.ensures.value ∙ law.1 in
    let rest : take (length text - 2) (drop 2 text) ≡ drop 2 text = take_all (length text - 2) (drop 2 text) (omega (arith, length-drop 2 text)) in
    let read : times c.read_u16.result operation_at (take (length text - 2) (drop 2 text)) ≡ Some (os, []) =
    ap (λ (n : ℕ). times n operation_at (take (length text - 2) (drop 2 text))) (c.read_u16.ensures ∙ counted text os law.0 is) ∙ ap (times (length os) operation_at) rest ∙ behind_count text os law.0 is in
    c.new.ensures ∙ ap (λ (r : Option (List Operation × List ℕ)). operations_in (front_of r)) read ∙ c.self.view_is

pub returns-clause-fits : goal.returns-clause-fits
returns-clause-fits g c = subst IsBatch c.self.view_is (is_spelled c.self.inside.text.items c.self.invariant).1.0
