use Rattle.std.proofs.Common.{List, sym, subst}
use Rattle.lsm_codec.specs.Map.{Operation}
use Rattle.lsm_codec.specs.References.{shown_operation}
use Rattle.lsm_mem.specs.Sizes.{GrowsBy}
use Rattle.lsm_mem.proofs.Sizes.{all_seen, by_none, by_one_more, one_more_seen}
use Rattle.lsm_mem.proofs.size.MemSize.with_operations.Goals as goal

pub loop-operation-preserved : goal.loop-operation-preserved
loop-operation-preserved c =
    let size = c.loop-operation.size in
    let operation = shown_operation c.in-Some.operation in
    record {
      can = tt;
      finite = tt;
      grows = λ last rest.
          let more = by_one_more operation c.next.new.self size c.of_operation.result c.and-size.result last c.of_operation.ensures c.and-size.ensures rest in
          let P : List Operation → Type 0 = λ os. GrowsBy os size last in
          c.loop-operation.invariant.grows last (subst P (sym c.in-Some.ensures.steps) more);
      covers = λ number versions covered.
          one_more_seen number c.args.operations versions c.loop-operation.operation-iterator operation c.next.new.self size c.of_operation.result c.and-size.result c.in-Some.ensures.steps
          c.of_operation.ensures c.and-size.ensures (c.loop-operation.invariant.covers number versions covered);
    }

pub returns-clause-grows : goal.returns-clause-grows
returns-clause-grows c =
    let size = c.loop-operation.size in
    let P : List Operation → Type 0 = λ os. GrowsBy os size size in
    c.loop-operation.invariant.grows size (subst P (sym c.in-None.ensures.steps.0) (by_none size))

pub returns-clause-covers : goal.returns-clause-covers
returns-clause-covers c = λ number versions covered.
    all_seen number c.args.operations versions c.loop-operation.operation-iterator c.loop-operation.size c.in-None.ensures.steps.0 (c.loop-operation.invariant.covers number versions covered)
