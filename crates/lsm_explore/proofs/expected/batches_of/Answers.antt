use Rattle.std.proofs.Common.{◌≡◌, ℕ, List, [], map, length, ap, sym, ◌∙◌, arith}
use Rattle.std.specs.Prelude.{option_map}
use Rattle.std.proofs.lemmas.List.{length-map}
use Rattle.lsm_codec.specs.Map.{Operation}
use Rattle.lsm_machine.specs.Promise.{acknowledged_by}
use Rattle.lsm_lives.specs.Asked.{step_in}
use Rattle.lsm_lives.specs.Calls.{asked_of, told_of}
use Rattle.lsm_explore.specs.Expected.{as_list, reply_in, replies_of, steps_of}
use Rattle.lsm_explore.proofs.CountedBatches.{all_counted, counted_more, none_counted}
use Rattle.lsm_explore.proofs.expected.batches_of.Goals as goal

pub loop-i-init : goal.loop-i-init
loop-i-init g c = record {
  in_range = omega arith;
  counts = none_counted (map (λ batch. batch.now) c.new-accepted.result.items) (steps_of (map asked_of c.args.steps.now)) (replies_of (map told_of c.args.replies.now)) (ap (map (λ batch. batch.now)) c.new-accepted.ensures.items);
}

pub loop-i-preserved : goal.loop-i-preserved
loop-i-preserved g c =
    let step = c.index-steps-i.result in
    let reply = c.index-replies-i.result in
    let before : List (List Operation) = map (λ batch. batch.now) c.loop-i.accepted.items in
    let long : c.len.result ≡ length before = omega (arith, c.len.ensures, c.loop-i.accepted.ok.0, length-map c.loop-i.accepted.items (λ batch. batch.now)) in
    record {
      in_range = omega (arith, c.loop-i-test.true);
      counts = counted_more c.args.steps.now c.args.replies.now c.loop-i.i step reply before (as_list (option_map (λ batch. batch.now) c.loop-i.in_flight)) (map (λ batch. batch.now) c.add_accepted.new.accepted.items)
          (as_list (option_map (λ batch. batch.now) c.flying-in_flight.result)) c.loop-i.least c.acknowledged-least.result
          c.loop-i-test.true (omega (arith, c.loop-i-test.true, c.requires)) (sym c.index-steps-i.is) (sym c.index-replies-i.is) c.in_ok-add_accepted.ensures c.flying-in_flight.ensures
          (c.acknowledged-least.ensures ∙ ap (λ (n : ℕ). acknowledged_by 0 n c.loop-i.least (step_in [] (asked_of step)) (reply_in (told_of reply))) long) c.loop-i.invariant.counts;
    }

pub returns-clause-batches : goal.returns-clause-batches
returns-clause-batches g c =
    (all_counted c.args.steps.now c.args.replies.now c.loop-i.i (map (λ batch. batch.now) c.loop-i.accepted.items) (as_list (option_map (λ batch. batch.now) c.loop-i.in_flight)) (map (λ batch. batch.now) c.push_some.new.batches.items) c.loop-i.least
    (omega arith) (omega (arith, c.requires)) c.in_ok-push_some.ensures c.loop-i.invariant.counts).batches

pub returns-clause-least : goal.returns-clause-least
returns-clause-least g c =
    (all_counted c.args.steps.now c.args.replies.now c.loop-i.i (map (λ batch. batch.now) c.loop-i.accepted.items) (as_list (option_map (λ batch. batch.now) c.loop-i.in_flight)) (map (λ batch. batch.now) c.push_some.new.batches.items) c.loop-i.least
    (omega arith) (omega (arith, c.requires)) c.in_ok-push_some.ensures c.loop-i.invariant.counts).least

pub returns-clause-within : goal.returns-clause-within
returns-clause-within g c =
    let within = (all_counted c.args.steps.now c.args.replies.now c.loop-i.i (map (λ batch. batch.now) c.loop-i.accepted.items) (as_list (option_map (λ batch. batch.now) c.loop-i.in_flight)) (map (λ batch. batch.now) c.push_some.new.batches.items) c.loop-i.least
    (omega arith) (omega (arith, c.requires)) c.in_ok-push_some.ensures c.loop-i.invariant.counts).within in
    omega (arith, within, length-map c.push_some.new.batches.items (λ batch. batch.now))
