use Rattle.std.proofs.Common.{◌≡◌, ◌+◌, [], ◌∷◌, length, sym, ap, ◌∙◌, subst, arith, ℕ}
use Rattle.std.proofs.lemmas.List.{nil_from_length}
use Rattle.std.specs.Vec.Iter.{into_iter_items}
use Rattle.lsm_mem.specs.EntryOrder.{with_batches}
use Rattle.lsm_mem.specs.Versions.{NumberedBelow}
use Rattle.lsm_open.proofs.replayed.insert_all.Goals as goal

pub overflow_add-number : goal.overflow_add-number
overflow_add-number g c =
    let steps : into_iter_items c.loop-batch.batch-iterator ≡ c.in-Some.batch ∷ into_iter_items c.next.new.self = c.in-Some.ensures.steps.0 in
    omega (arith, ap length steps, c.loop-batch.invariant.left, c.requires.room)

pub loop-batch-preserved : goal.loop-batch-preserved
loop-batch-preserved g c =
    let at = c.loop-batch in
    let rest = into_iter_items c.next.new.self in
    let steps : into_iter_items at.batch-iterator ≡ c.in-Some.batch ∷ rest = c.in-Some.ensures.steps.0 in
    record {
      left = omega (arith, ap length steps, at.invariant.left);
      numbered = c.in_ok-insert.ensures.numbered;
      inserted = at.invariant.inserted ∙ ap (λ batches. with_batches at.number batches at.mem) steps ∙ ap (with_batches (at.number + 1) rest) (sym c.in_ok-insert.ensures.ok);
      entries = λ h. c.insert.ensures.within (omega arith) (omega (arith, ap length steps, at.invariant.left, c.requires.room)) (at.invariant.entries h);
      len = let was = at.invariant.len in let gone = c.in-Some.ensures.steps.1 in let short = ap length steps in omega arith;
    }

pub returns-clause-inserted : goal.returns-clause-inserted
returns-clause-inserted g c =
    let at = c.loop-batch in
    let empty : into_iter_items at.batch-iterator ≡ [] = nil_from_length _ (sym at.invariant.len ∙ c.in-None.ensures.steps.0) in
    sym (at.invariant.inserted ∙ ap (λ batches. with_batches at.number batches at.mem) empty)

pub returns-clause-numbered : goal.returns-clause-numbered
returns-clause-numbered g c =
    let at = c.loop-batch in
    let none = c.in-None.ensures.steps.0 in
    let all : at.number ≡ c.args.count + length c.args.batches.items = omega (arith, at.invariant.left, at.invariant.len, none) in
    let P : ℕ → Type 0 = λ n. NumberedBelow (n + 1) at.mem in
    subst P all at.invariant.numbered

pub returns-clause-entries : goal.returns-clause-entries
returns-clause-entries g c = λ h. c.loop-batch.invariant.entries h
