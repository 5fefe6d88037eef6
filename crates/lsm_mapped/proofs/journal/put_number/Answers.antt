use Rattle.std.proofs.Common.{◌++◌, drop, ap, ◌∙◌, arith, List, ℕ}
use Rattle.std.proofs.lemmas.List.{take_rest}
use Rattle.lsm_mapped.specs.Records.{number_text}
use Rattle.lsm_mapped.proofs.Laying.{over-mid}
use Rattle.lsm_mapped.proofs.journal.put_number.Goals as goal

pub returns : goal.returns
unfolding number_text
returns c =
    let text = number_text c.args.number in
    over-mid c.args.at text c.args.bytes.now c.write_u32.new.buf (omega arith)
    (c.write_u32.ensures ∙ ap (λ (l : List ℕ). text ++ drop 4 l) (take_rest c.args.bytes.now c.args.at))
