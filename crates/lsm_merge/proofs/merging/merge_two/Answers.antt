use Rattle.std.proofs.Common.{◌≡◌, ◌⊎◌, inl, inr, length, length-drop, drop, arith}
use Rattle.std.proofs.lemmas.Grind.{common_steps}
use Rattle.lsm_merge.proofs.Placing.{shown_at_end}
use Rattle.lsm_merge.proofs.merging.merge_two.Goals as goal
use Rattle.lsm_merge.proofs.merging.merge_two.Goals.{then-loop-i-test+else-j-right, else-loop-i-test}

pub returns : goal.returns
returns g c =
    let left = drop c.loop-i.i c.args.left.now in
    let right = drop c.loop-i.j c.args.right.now in
    let ends : (length left ≡ 0) ⊎ (length right ≡ 0) =
    elim c.loop-i-test.branch [ then-loop-i-test+else-j-right w ↦ inr (omega (arith, length-drop c.loop-i.j c.args.right.now)) | else-loop-i-test w ↦ inl (omega (arith, length-drop c.loop-i.i c.args.left.now)) ] in
    let all = shown_at_end c.loop-i.both.items left right c.loop-i.invariant.left_ordered ends in
    let first = c.in_ok-extend_from_slice.ensures.items in
    let second = c.in_ok-extend_from_slice-2.ensures.items in
    grind (arith, common_steps, all, first, second, c.loop-i.invariant.so_far)

--    ap shown second ∙ ap (λ z. shown (z ++ right)) first ∙ all ∙ c.loop-i.invariant.so_far
