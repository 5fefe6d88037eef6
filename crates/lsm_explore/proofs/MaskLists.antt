-- Masks with a place more.
use Rattle.std.proofs.Common.{◌≡◌, ◌<◌, ℕ, suc, ◌+◌, ◌-◌, Bool, not, List, [], ◌∷◌, ◌++◌, append_assoc, ap, sym, ◌∙◌, arith}
use Rattle.lsm_explore.specs.Masks.{every_second}

-- one place more of a mask that keeps every second write
pub second_more : (keep : Bool) (pending counter : ℕ) → counter < pending → (before after wanted : List Bool) → before ++ every_second keep (pending - counter) ≡ wanted → after ≡ before ++ keep ∷ []
    → after ++ every_second (not keep) (pending - (counter + 1)) ≡ wanted
second_more keep pending counter within before after wanted so_far added =
    let rest = every_second (not keep) (pending - (counter + 1)) in
    let left : pending - counter ≡ suc (pending - (counter + 1)) = omega (arith, within) in
    ap (λ (l : List Bool). l ++ rest) added ∙ append_assoc before (keep ∷ []) rest ∙ ap (λ (n : ℕ). before ++ every_second keep n) (sym left) ∙ so_far
