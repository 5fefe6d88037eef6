use Rattle.std.proofs.Common.{inl, inr, ◌*◌, ℕ, Bool, true, IsTrue, List, refl, subst, sym, arith}
use Rattle.std.proofs.lemmas.Result.{err_from_is_err_and}
use Rattle.std.specs.Prelude.{MatchBool}
use Rattle.lsm_device.specs.Areas.{area}
use Rattle.lsm_device.specs.Disk.{Disk, seen}
use Rattle.lsm_device.specs.History.{present}
use Rattle.lsm_device.specs.Medium.{disk}
use Rattle.lsm_device.specs.Refusals.{is_no_fault}
use Rattle.lsm_log.specs.Opened.{HasNoneAbove}
use Rattle.lsm_open.specs.LogRegions.{first_region}
use Rattle.lsm_open.proofs.OpeningAnswers.{reads_ok, reads_err, reads_joined, reads_wider, with_told}
use Rattle.lsm_check.proofs.Readings.{short_replay, short_fault, batches_had}
use Rattle.lsm_check.proofs.ReadCounts.{between_zero, between_joined}
use Rattle.lsm_check.proofs.Refusing.{replay_refused, memory_refused}
use Rattle.lsm_check.proofs.checking.count_batches.Goals as goal

-- ---- how many there are

pub returns-clause-counted : goal.returns-clause-counted
returns-clause-counted g c = λ t.
    let D = g.D.Device in
    let S = seen (disk (D.medium c.args.device.now)) in
    let n = c.args.loaded.now.log_sectors in
    let m = c.args.loaded.now.manifest in
    let t1 : IsTrue (D.medium c.replay_regions.new.device).lasting.tells = rw c.replay_regions.ensures.same_lasting t in
    let had = batches_had n S m c.in_ok-replayed.replayed (c.in_ok-replayed.ensures.replayed t) in
    let k = c.generation.result in
    let none : MatchBool c.in_ok-fresh.fresh (HasNoneAbove k (area first_region (3 * n) S)) (¬ HasNoneAbove k (area first_region (3 * n) S)) =
    subst (λ (h : List Disk). MatchBool c.in_ok-fresh.fresh (HasNoneAbove k (area first_region (3 * n) (seen (present h)))) (¬ HasNoneAbove k (area first_region (3 * n) (seen (present h))))) (c.replay_regions.ensures.unchanged t) (c.in_ok-fresh.ensures.told t1) in
    record {
      follows = had.0;
      fresh = subst (λ (j : ℕ). HasNoneAbove j (area first_region (3 * n) S)) c.generation.ensures (subst (λ (b : Bool). MatchBool b (HasNoneAbove k (area first_region (3 * n) S)) (¬ HasNoneAbove k (area first_region (3 * n) S))) c.if-not-fresh.false none);
      counted = had.1;
    }

-- ---- fair refusals

pub returns-in_err-replayed-clause-fair : goal.returns-in_err-replayed-clause-fair
returns-in_err-replayed-clause-fair g c = λ batches t has.
    let D = g.D.Device in
    let p = err_from_is_err_and c.from_residual.result c.from_residual.ensures.1 in
    rw (p.1, p.2) (short_replay c.in_err-replayed.field-0.0 _ has.follows (with_told _ _ _ _ t c.in_err-replayed.ensures.refused))

pub returns-in_err-fresh-clause-fair : goal.returns-in_err-fresh-clause-fair
returns-in_err-fresh-clause-fair g c = λ batches t has.
    let p = err_from_is_err_and c.from_residual-in_err-fresh.result c.from_residual-in_err-fresh.ensures.1 in
    rw (p.1, p.2) (short_fault c.in_err-fresh.field-0.0 c.in_err-fresh.ensures.refused)

pub returns-then-not-fresh-clause-fair : goal.returns-then-not-fresh-clause-fair
returns-then-not-fresh-clause-fair g c = λ batches t has.
    let D = g.D.Device in
    let S = seen (disk (D.medium c.args.device.now)) in
    let n = c.args.loaded.now.log_sectors in
    let m = c.args.loaded.now.manifest in
    let t1 : IsTrue (D.medium c.replay_regions.new.device).lasting.tells = rw c.replay_regions.ensures.same_lasting t in
    let k = c.generation.result in
    let none : MatchBool c.in_ok-fresh.fresh (HasNoneAbove k (area first_region (3 * n) S)) (¬ HasNoneAbove k (area first_region (3 * n) S)) =
    subst (λ (h : List Disk). MatchBool c.in_ok-fresh.fresh (HasNoneAbove k (area first_region (3 * n) (seen (present h)))) (¬ HasNoneAbove k (area first_region (3 * n) (seen (present h))))) (c.replay_regions.ensures.unchanged t) (c.in_ok-fresh.ensures.told t1) in
    absurd (subst (λ (b : Bool). MatchBool b (HasNoneAbove k (area first_region (3 * n) S)) (¬ HasNoneAbove k (area first_region (3 * n) S))) c.if-not-fresh.true none (subst (λ (j : ℕ). HasNoneAbove j (area first_region (3 * n) S)) (sym c.generation.ensures) has.fresh))

-- ---- the device

pub returns-in_err-replayed-clause-device : goal.returns-in_err-replayed-clause-device
returns-in_err-replayed-clause-device g c =
    let D = g.D.Device in
    let p = err_from_is_err_and c.from_residual.result c.from_residual.ensures.1 in
    let e = c.in_err-replayed.field-0.0 in
    let n = c.args.loaded.now.log_sectors in
    rw (p.1, p.2) (reads_wider (3 * n) (6 * n) (is_no_fault e) _ _ (omega arith)
    (reads_err (3 * n) e (D.medium c.args.device.now) (D.medium c.replay_regions.new.device) c.replay_regions.ensures.calls c.in_err-replayed.ensures.faults c.in_err-replayed.ensures.stops c.replay_regions.ensures.unchanged c.replay_regions.ensures.same_size c.replay_regions.ensures.same_lasting))

pub returns-in_err-fresh-clause-device : goal.returns-in_err-fresh-clause-device
returns-in_err-fresh-clause-device g c =
    let D = g.D.Device in
    let p = err_from_is_err_and c.from_residual-in_err-fresh.result c.from_residual-in_err-fresh.ensures.1 in
    let e = c.in_err-fresh.field-0.0 in
    let n = c.args.loaded.now.log_sectors in
    let first = reads_ok (3 * n) (D.medium c.args.device.now) (D.medium c.replay_regions.new.device) c.replay_regions.ensures.calls c.in_ok-replayed.ensures.faults c.replay_regions.ensures.unchanged c.replay_regions.ensures.same_size c.replay_regions.ensures.same_lasting in
    rw (p.1, p.2) (reads_joined (3 * n) (3 * n) (6 * n) (is_no_fault e) _ _ _ (omega arith) first c.in_err-fresh.ensures.device)

pub returns-then-not-fresh-clause-device : goal.returns-then-not-fresh-clause-device
returns-then-not-fresh-clause-device g c =
    let D = g.D.Device in
    let n = c.args.loaded.now.log_sectors in
    let first = reads_ok (3 * n) (D.medium c.args.device.now) (D.medium c.replay_regions.new.device) c.replay_regions.ensures.calls c.in_ok-replayed.ensures.faults c.replay_regions.ensures.unchanged c.replay_regions.ensures.same_size c.replay_regions.ensures.same_lasting in
    reads_joined (3 * n) (3 * n) (6 * n) true _ _ _ (omega arith) first c.in_ok-fresh.ensures.device

pub returns-clause-device : goal.returns-clause-device
returns-clause-device g c =
    let D = g.D.Device in
    let n = c.args.loaded.now.log_sectors in
    let first = reads_ok (3 * n) (D.medium c.args.device.now) (D.medium c.replay_regions.new.device) c.replay_regions.ensures.calls c.in_ok-replayed.ensures.faults c.replay_regions.ensures.unchanged c.replay_regions.ensures.same_size c.replay_regions.ensures.same_lasting in
    reads_joined (3 * n) (3 * n) (6 * n) true _ _ _ (omega arith) first c.in_ok-fresh.ensures.device

pub returns-clause-whole : goal.returns-clause-whole
returns-clause-whole g c =
    let D = g.D.Device in
    let n = c.args.loaded.now.log_sectors in
    let old = (D.medium c.args.device.now).calls in
    let mid = (D.medium c.replay_regions.new.device).calls in
    let new = (D.medium c.has_none_above.new.device).calls in
    between_joined 0 (3 * n) (3 * n) (3 * n) (3 * n) (6 * n) old mid new (omega arith) (omega arith) (between_zero (3 * n) old mid c.replay_regions.ensures.calls) (c.in_ok-fresh.ensures.whole c.if-not-fresh.false)

-- ---- refusals

pub returns-in_err-replayed-clause-refused : goal.returns-in_err-replayed-clause-refused
returns-in_err-replayed-clause-refused g c =
    let p = err_from_is_err_and c.from_residual.result c.from_residual.ensures.1 in
    rw (p.1, p.2) (replay_refused c.in_err-replayed.field-0.0 _ c.in_err-replayed.ensures.refused)

pub returns-in_err-fresh-clause-refused : goal.returns-in_err-fresh-clause-refused
returns-in_err-fresh-clause-refused g c =
    let p = err_from_is_err_and c.from_residual-in_err-fresh.result c.from_residual-in_err-fresh.ensures.1 in
    rw (p.1, p.2) (memory_refused c.in_err-fresh.field-0.0 (inr c.in_err-fresh.ensures.refused))

-- ---- why it is refused

pub returns-in_err-replayed-clause-refusal : goal.returns-in_err-replayed-clause-refusal
returns-in_err-replayed-clause-refusal g c = λ t.
    let p = err_from_is_err_and c.from_residual.result c.from_residual.ensures.1 in
    rw (p.1, p.2) (inl (with_told _ _ _ _ t c.in_err-replayed.ensures.refused))

pub returns-in_err-fresh-clause-refusal : goal.returns-in_err-fresh-clause-refusal
returns-in_err-fresh-clause-refusal g c = λ t.
    let p = err_from_is_err_and c.from_residual-in_err-fresh.result c.from_residual-in_err-fresh.ensures.1 in
    rw (p.1, p.2) (inl (inr (inr c.in_err-fresh.ensures.refused)))

pub returns-then-not-fresh-clause-refusal : goal.returns-then-not-fresh-clause-refusal
returns-then-not-fresh-clause-refusal g c = λ t.
    let D = g.D.Device in
    let S = seen (disk (D.medium c.args.device.now)) in
    let n = c.args.loaded.now.log_sectors in
    let m = c.args.loaded.now.manifest in
    let t1 : IsTrue (D.medium c.replay_regions.new.device).lasting.tells = rw c.replay_regions.ensures.same_lasting t in
    let had = batches_had n S m c.in_ok-replayed.replayed (c.in_ok-replayed.ensures.replayed t) in
    let k = c.generation.result in
    let none : MatchBool c.in_ok-fresh.fresh (HasNoneAbove k (area first_region (3 * n) S)) (¬ HasNoneAbove k (area first_region (3 * n) S)) =
    subst (λ (h : List Disk). MatchBool c.in_ok-fresh.fresh (HasNoneAbove k (area first_region (3 * n) (seen (present h)))) (¬ HasNoneAbove k (area first_region (3 * n) (seen (present h))))) (c.replay_regions.ensures.unchanged t) (c.in_ok-fresh.ensures.told t1) in
    let later : ¬ HasNoneAbove k (area first_region (3 * n) S) = subst (λ (b : Bool). MatchBool b (HasNoneAbove k (area first_region (3 * n) S)) (¬ HasNoneAbove k (area first_region (3 * n) S))) c.if-not-fresh.true none in
    inr (refl, had.0, subst (λ (j : ℕ). ¬ HasNoneAbove j (area first_region (3 * n) S)) c.generation.ensures later)
