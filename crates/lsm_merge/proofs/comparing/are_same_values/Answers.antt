use Rattle.lsm_merge.proofs.Sameness.{some_told}
use Rattle.lsm_merge.proofs.comparing.are_same_values.Goals as goal

pub returns-in-Some-Some : goal.returns-in-Some-Some
returns-in-Some-Some c = rw (c.in-Some-Some.is-0, c.in-Some-Some.is-1) (some_told c.in-Some-Some.value.now c.in-Some-Some.other.now c.are_same_bytes.result c.are_same_bytes.ensures)
