use Rattle.std.proofs.Common.{rules, refl, ◌≡◌, ℕ, Bool, true, not, arith, length, sym, ap, ◌∙◌}
use Rattle.std.proofs.lemmas.List.{take_all, drop_all}
use Rattle.std.proofs.lemmas.List.Sorted.{IsPartitionPoint-from_clause}
use Rattle.lsm_codec.specs.References.{shown}
use Rattle.std.specs.Prelude.{map, Some}
use Rattle.lsm_levels.specs.Cursors.{present}
use Rattle.lsm_levels.specs.Sources.{head_at, is_sooner}
use Rattle.lsm_levels.proofs.Parts.{left, partitioned}
use Rattle.lsm_codec.proofs.Lists.{all_map, filter_all, filter_none, passed}
use Rattle.lsm_levels.proofs.QueueLaws.{comes_before_all, falls}
use Rattle.lsm_levels.proofs.queue.count_later.Goals as goal

pub returns-clause-later : goal.returns-clause-later
returns-clause-later g c queued =
    let heads = map present c.args.sources.now in
    passed _ _ _ (IsPartitionPoint-from_clause (λ j. is_sooner (Some (shown c.args.version.now)) c.args.place (head_at heads j) j) _ _ c.partition_point.ensures.partitioned (partitioned _ _ (falls heads (shown c.args.version.now) c.args.place c.args.places.now queued)) (λ a r q k. search rules))

pub returns-clause-sooner : goal.returns-clause-sooner
returns-clause-sooner g c queued =
    let heads = map present c.args.sources.now in
    left (λ j. is_sooner (Some (shown c.args.version.now)) c.args.place (head_at heads j) j) _ (λ j. refl) _ _ (IsPartitionPoint-from_clause (λ j. is_sooner (Some (shown c.args.version.now)) c.args.place (head_at heads j) j) _ _ c.partition_point.ensures.partitioned (partitioned _ _ (falls heads (shown c.args.version.now) c.args.place c.args.places.now queued)) (λ a r q k. search rules))

-- where it comes before the last of the places, it comes before all of them
pub returns-then-is_sooner-clause-later : goal.returns-then-is_sooner-clause-later
returns-then-is_sooner-clause-later g c queued =
    let places = c.args.places.now in
    let later : ℕ → Bool = λ j. is_sooner (Some (shown c.args.version.now)) c.args.place (head_at (map present c.args.sources.now) j) j in
    let all = comes_before_all (map present c.args.sources.now) (shown c.args.version.now) c.args.place places c.in-Some._others.now c.in-Some.next.now (search rules) queued (sym c.is_sooner.ensures ∙ c.if-is_sooner.true) in
    take_all (length places) places (omega arith) ∙ sym (filter_all later places all)

pub returns-then-is_sooner-clause-sooner : goal.returns-then-is_sooner-clause-sooner
returns-then-is_sooner-clause-sooner g c queued =
    let places = c.args.places.now in
    let later : ℕ → Bool = λ j. is_sooner (Some (shown c.args.version.now)) c.args.place (head_at (map present c.args.sources.now) j) j in
    let all = comes_before_all (map present c.args.sources.now) (shown c.args.version.now) c.args.place places c.in-Some._others.now c.in-Some.next.now (search rules) queued (sym c.is_sooner.ensures ∙ c.if-is_sooner.true) in
    drop_all (length places) places (omega arith) ∙ sym (filter_none (λ j. not (later j)) places (all_map (λ j (e : later j ≡ true). ap not e) places all))
