-- Tables put in the place of those that meet a range.
use Rattle.std.proofs.Common.{◌≡◌, ◌++◌, [], ℕ, Bool, true, false, cond, List, take, drop, filter, ap, ◌∙◌}
use Rattle.lsm_levels.specs.Tables.{Table, KeyRange, is_below, put_at, IsRun}

abbrev before : KeyRange → List Table → List Table
before range tables = filter (λ t. is_below t.last range.first) tables

pub either : (b : Bool) (xs ys : List Table) → IsRun xs → IsRun ys → IsRun (cond b xs ys)
either true xs ys h k = h
either false xs ys h k = k

-- what a splice makes of a run
pub spliced : (b : Bool) (range : KeyRange) (xs old now new : List Table) (s e : ℕ) → take s old ≡ filter (λ t. is_below t.last range.first) old → drop e old ≡ filter (λ t. is_below range.last t.first) old → old ≡ now
    → xs ≡ cond b (take s old ++ (new ++ drop e old)) old → xs ≡ cond b (put_at range new now) now
spliced true range xs old now new s e p q v h = h ∙ ap (λ t. t ++ (new ++ drop e old)) p ∙ ap (λ t. before range old ++ (new ++ t)) q ∙ ap (put_at range new) v
spliced false range xs old now new s e p q v h = h ∙ v

-- and what a cut makes of it
pub removed : (range : KeyRange) (xs old now : List Table) (s e : ℕ) → take s old ≡ filter (λ t. is_below t.last range.first) old → drop e old ≡ filter (λ t. is_below range.last t.first) old → old ≡ now
    → xs ≡ take s old ++ drop e old → xs ≡ put_at range [] now
removed range xs old now s e p q v h = h ∙ ap (λ t. t ++ drop e old) p ∙ ap (λ t. before range old ++ t) q ∙ ap (put_at range []) v
