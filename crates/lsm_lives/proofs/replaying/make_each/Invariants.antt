use Rattle.std.proofs.Common.{◌≡◌, ◌≤◌, ◌+◌, ◌++◌, List, drop, length, map, vec_len, vec_capacity}
use Rattle.lsm_store.specs.Backing.{StoreView}
use Rattle.lsm_lives.specs.Asked.{Told}
use Rattle.lsm_lives.specs.Calls.{asked_of, told_of}
use Rattle.lsm_lives.specs.Replaying.{AddsReplies, MakesEach}
use Rattle.lsm_lives.proofs.replaying.make_each.Given as goal

abbrev pub invariant-loop-step : goal.invariant-loop-step
invariant-loop-step g l = record {
  within : l.step-index ≤ length l.steps;
  length_is : vec_len l.replies ≡ vec_len l.fn.replies + l.step-index;
  capacity : vec_capacity l.replies ≡ vec_capacity l.fn.replies;
  built : vec_len l.results ≤ l.step-index;
  same_places : vec_capacity l.results ≡ vec_capacity l.fn.results;
  goes_on : (more : List Told) (last : StoreView) → MakesEach l.results.items l.store (map asked_of (drop l.step-index l.steps)) more last
      → AddsReplies l.fn.store (map asked_of l.steps) (map told_of l.fn.replies.items) (map told_of l.replies.items ++ more) last;
}
