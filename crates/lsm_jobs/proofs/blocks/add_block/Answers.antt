use Rattle.std.proofs.Common.{◌≡◌, List, [], ◌∷◌, ◌++◌, Ok, length, true, false, sym, ap, subst, ◌∙◌, arith}
use Rattle.std.specs.Vec.Iter.{into_iter_items}
use Rattle.lsm_codec.specs.Versions.{Version, AreOrdered}
use Rattle.lsm_codec.specs.Entries.{entries_in}
use Rattle.lsm_table.proofs.Items.{items_of}
use Rattle.lsm_jobs.specs.Gathering.{GoesOn, IsLonger}
use Rattle.lsm_jobs.proofs.GoingOn.{SameEnd, then_end, taken, none_out_of_order, longer_by_one}
use Rattle.lsm_jobs.proofs.blocks.add_block.Goals as goal

pub returns-then-not-comes_after-clause-bad : goal.returns-then-not-comes_after-clause-bad
returns-then-not-comes_after-clause-bad g c = λ is new h.
    let run = c.loop-entry.run.items in
    let v = c.in-Some.entry in
    let rest = into_iter_items c.next.new.self in
    let step : into_iter_items c.loop-entry.entry-iterator ≡ v ∷ rest = c.in-Some.ensures.steps.0 in
    none_out_of_order run v (items_of rest) new
    (λ ordered.
    let told = c.comes_after.ensures.1 (subst (λ (l : List Version). AreOrdered (l ++ v ∷ [])) (sym c.deref.ensures.value) ordered) in
    let clash : false ≡ true = sym c.if-not-comes_after.true ∙ told in
    cc)
    (subst (λ (l : List Version). GoesOn run (items_of l) new) step (c.loop-entry.invariant.same.back new h))

pub loop-entry-preserved : goal.loop-entry-preserved
loop-entry-preserved g c =
    let at = c.loop-entry in
    let run = at.run.items in
    let run0 = c.args.run.now.items in
    let items0 = entries_in c.args.block.now in
    let v = c.in-Some.entry in
    let rest = into_iter_items c.next.new.self in
    let step : into_iter_items at.entry-iterator ≡ v ∷ rest = c.in-Some.ensures.steps.0 in
    let is : c.push.new.self.items ≡ run ++ v ∷ [] = c.in_ok-push.ensures.items in
    let ordered : AreOrdered (run ++ v ∷ []) = subst (λ (l : List Version). AreOrdered (l ++ v ∷ [])) c.deref.ensures.value (c.comes_after.ensures.0 c.if-not-comes_after.false) in
    record {
      len = let was = at.invariant.len in let gone = c.in-Some.ensures.steps.1 in let short = ap length step in omega arith;
      same = subst (λ (r : List Version). SameEnd r (items_of rest) run0 items0) (sym is) (then_end (run ++ v ∷ []) (items_of rest) run (Ok v ∷ items_of rest) run0 items0 (taken run v (items_of rest)) (subst (λ (l : List Version). SameEnd run (items_of l) run0 items0) step at.invariant.same));
      longer = subst (λ (r : List Version). IsLonger run0 r) (sym is) (longer_by_one run0 run v at.invariant.longer);
      ordered = subst (λ (r : List Version). AreOrdered r) (sym is) ordered;
    }
