use Rattle.std.proofs.Common.{◌≡◌, ◌<◌, List, [], ◌∷◌, ◌++◌, length, get_or, length-append, append_assoc, append-nil, Ok, IfOk, refl, ap, sym, subst, ◌∙◌, arith}
use Rattle.std.specs.Vec.Iter.{into_iter_items}
use Rattle.std.proofs.lemmas.List.{nil_from_length}
use Rattle.lsm_merge.specs.Inputs.{kept_of}
use Rattle.lsm_merge.specs.Parts.{part_of}
use Rattle.lsm_merge.proofs.RangeLaws.{is_in_order-keep}
use Rattle.lsm_merge.proofs.PartLaws.{joined_more, joined_all}
use Rattle.lsm_mem.specs.Versions.{joined}
use Rattle.lsm_merge.proofs.building.joined.Goals as goal

item_at : {X : Type 0} (before : List X) (x : X) (rest : List X) (d : X) → get_or (before ++ x ∷ rest) (length before) d ≡ x
item_at [] x rest d = refl
item_at (y ∷ before) x rest d = item_at before x rest d

within_at : {X : Type 0} (before : List X) (x : X) (rest : List X) → length before < length (before ++ x ∷ rest)
within_at before x rest = omega (arith, length-append before (x ∷ rest))

pub loop-part-preserved : goal.loop-part-preserved
loop-part-preserved g c =
    let at = c.loop-part in
    let x = c.in-Some.part in
    let rest = into_iter_items c.next.new.self in
    let steps : into_iter_items at.part-iterator ≡ x ∷ rest = c.in-Some.ensures.steps.0 in
    let all : at.yielded ++ x ∷ rest ≡ c.args.parts.items = rw (← steps) at.invariant.split in
    let i = length at.yielded in
    let borders = c.args.borders.now in
    let kept = kept_of c.args.input.now in
    let within : i < length c.args.parts.items = subst (λ xs. i < length xs) all (within_at at.yielded x rest) in
    let item : get_or c.args.parts.items i x ≡ Ok c.in_ok-part.field-0 = ap (λ xs. get_or xs i x) (sym all) ∙ item_at at.yielded x rest x ∙ c.in_ok-part.was in
    let part : c.in_ok-part.field-0.items ≡ part_of borders kept i = subst (λ r. IfOk r (λ v. v.items ≡ part_of borders kept i)) item (c.requires.each i x within) in
    record {
      split = append_assoc at.yielded (x ∷ []) _ ∙ all;
      len = let was = at.invariant.len in let gone = c.in-Some.ensures.steps.1 in let short = ap length steps in omega arith;
      so_far = joined_more borders kept i (length (at.yielded ++ x ∷ [])) at.all.items c.in_ok-part.field-0.items _ c.requires.ascending.tested (is_in_order-keep c.args.input.now.cuts c.args.input.now.bottom (joined c.args.input.now.runs)) (let l = c.requires.len in omega arith)
          (length-append at.yielded (x ∷ [])) at.invariant.so_far part c.in_ok-append.ensures.items;
    }

pub returns : goal.returns
returns g c =
    let at = c.loop-part in
    let none = c.in-None.ensures.steps in
    let empty : into_iter_items at.part-iterator ≡ [] = nil_from_length _ (sym at.invariant.len ∙ none.0) in
    let all : at.yielded ≡ c.args.parts.items = sym (append-nil at.yielded) ∙ rw empty at at.invariant.split in
    joined_all c.args.borders.now (kept_of c.args.input.now) (length at.yielded) at.all.items (ap length all ∙ c.requires.len) at.invariant.so_far
