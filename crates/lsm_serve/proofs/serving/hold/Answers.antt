use Rattle.std.proofs.Common.{◌∙◌, ◌++◌, ℕ, List, ap}
use Rattle.lsm_serve.specs.Answering.{outcome_of, outcome_text}
use Rattle.lsm_serve.proofs.serving.hold.Goals as goal

pub returns : goal.returns
returns c =
    c.in_ok-extend_from_slice.ensures.items
    ∙ ap (λ (l : List ℕ). c.args.held.now.items ++ l) (c.deref.ensures.value ∙ c.in_ok-text.ensures.text
    ∙ ap (λ (t : List ℕ). t ++ outcome_text c.args.number (outcome_of c.args.answer.now)) c.part_line.ensures.tag)
