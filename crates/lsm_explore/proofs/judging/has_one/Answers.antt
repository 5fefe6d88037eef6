use Rattle.std.proofs.Common.{◌≡◌, ◌-◌, ℕ, Some, slice_get, length, ap, sym, subst, ◌∙◌, arith}
use Rattle.lsm_machine.specs.RecoveryPoints.{batch_count, present_map}
use Rattle.lsm_explore.specs.Expected.{maps_from}
use Rattle.lsm_explore.specs.Plain.{rows_of}
use Rattle.lsm_lives.proofs.Listing.{all_pairs}
use Rattle.lsm_explore.proofs.ListedRows.{map_found, is_place}
use Rattle.lsm_explore.proofs.judging.has_one.Goals as goal

pub returns-in_ok-same-in-Some-get-clause-same : goal.returns-in_ok-same-in-Some-get-clause-same
returns-in_ok-same-in-Some-get-clause-same g c =
    let given = c.requires.found in
    let points = c.args.store.now.state.points in
    let all = maps_from given.0 given.1 in
    let place : batch_count points - given.0 ≡ c.in-Some.place = omega (arith, c.in-Some.ensures.1, given.2.from, c.batch_count.ensures) in
    let found : slice_get all c.in-Some.place ≡ Some (present_map points) = subst (λ (n : ℕ). slice_get all n ≡ Some (present_map points)) place given.3.found in
    let rows = map_found c.args.expected.now.maps.items all given.2.maps c.in-Some.place (present_map points) found c.in-Some-get.rows.now (rw (← c.deref.ensures.value) c.in-Some-get.ensures.lookup.1) in
    c.in_ok-same-in-Some-get.ensures.same.1 (ap rows_of c.deref-in-Some-get.ensures.value ∙ rows ∙ sym (all_pairs (present_map points)))

pub returns-in-None-clause-same : goal.returns-in-None-clause-same
returns-in-None-clause-same g c =
    let given = c.requires.found in
    let points = c.args.store.now.state.points in
    let all = maps_from given.0 given.1 in
    let place : batch_count points - given.0 ≡ c.in-Some.place = omega (arith, c.in-Some.ensures.1, given.2.from, c.batch_count.ensures) in
    let found : slice_get all c.in-Some.place ≡ Some (present_map points) = subst (λ (n : ℕ). slice_get all n ≡ Some (present_map points)) place given.3.found in
    let within = is_place c.args.expected.now.maps.items all given.2.maps c.in-Some.place (present_map points) found in
    absurd (omega (arith, within, c.in-None.ensures.lookup.3, ap length c.deref.ensures.value))
