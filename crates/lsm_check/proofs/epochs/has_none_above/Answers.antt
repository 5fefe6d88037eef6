use Rattle.std.proofs.Common.{◌≡◌, ◌+◌, ◌*◌, ℕ, Bool, true, false, Some, option_map, slice_get, List, sym, ap, subst, ◌∙◌, arith}
use Rattle.std.proofs.lemmas.Result.{err_from_is_err_and}
use Rattle.lsm_device.specs.Areas.{area}
use Rattle.lsm_device.specs.Disk.{seen}
use Rattle.lsm_device.specs.Medium.{disk}
use Rattle.lsm_device.specs.Refusals.{faultless}
use Rattle.lsm_log.specs.Opened.{is_above, HasNoneAbove}
use Rattle.lsm_open.specs.LogRegions.{first_region}
use Rattle.lsm_open.specs.ReadParts.{ReadsAtMost}
use Rattle.lsm_open.proofs.OpeningAnswers.{reads_joined}
use Rattle.lsm_check.proofs.DeviceReads.{still_tells, still_seen}
use Rattle.lsm_check.proofs.LaterEpochs.{none_more, one_above}
use Rattle.lsm_check.proofs.ReadCounts.{between_joined}
use Rattle.lsm_check.specs.Counted.{ReadsBetween}
use Rattle.lsm_check.proofs.epochs.has_none_above.Goals as goal

pub returns-in_err-reads_above-clause-device : goal.returns-in_err-reads_above-clause-device
returns-in_err-reads_above-clause-device g c =
    let D = g.D.Device in
    let p = err_from_is_err_and c.from_residual.result c.from_residual.ensures.1 in
    let old = D.medium c.args.device.now in
    let mid = D.medium c.loop-i.device in
    let new = D.medium c.reads_above.new.device in
    rw (p.1, p.2) (subst (λ (ok : Bool). ReadsAtMost (3 * c.args.log_sectors) ok old new) (ap faultless c.in_err-reads_above.was)
    (reads_joined c.loop-i.i 1 (3 * c.args.log_sectors) (faultless c.reads_above.result) old mid new (omega (arith, c.loop-i-test.true)) c.loop-i.invariant.device c.reads_above.ensures.device))

pub returns-then-branch-clause-told : goal.returns-then-branch-clause-told
returns-then-branch-clause-told g c = λ t.
    let D = g.D.Device in
    let k = c.loop-i.invariant in
    let i = c.loop-i.i in
    let old = D.medium c.args.device.now in
    let mid = D.medium c.loop-i.device in
    let S = seen (disk old) in
    let told : option_map (is_above c.args.generation) (slice_get S (first_region + i)) ≡ Some true =
    ap (λ (s : List (List ℕ)). option_map (is_above c.args.generation) (slice_get s (first_region + i))) (sym (still_seen i true old mid k.device t))
    ∙ c.in_ok-reads_above.ensures.told (still_tells i true old mid k.device t) ∙ ap (λ (b : Bool). Some b) c.if-branch.true in
    one_above c.args.generation first_region i S (3 * c.args.log_sectors) (omega (arith, c.loop-i-test.true)) told

pub returns-then-branch-clause-device : goal.returns-then-branch-clause-device
returns-then-branch-clause-device g c =
    let D = g.D.Device in
    reads_joined c.loop-i.i 1 (3 * c.args.log_sectors) true (D.medium c.args.device.now) (D.medium c.loop-i.device) (D.medium c.reads_above.new.device) (omega (arith, c.loop-i-test.true)) c.loop-i.invariant.device c.in_ok-reads_above.ensures.device

pub loop-i-preserved : goal.loop-i-preserved
loop-i-preserved g c =
    let D = g.D.Device in
    let k = c.loop-i.invariant in
    let i = c.loop-i.i in
    let old = D.medium c.args.device.now in
    let mid = D.medium c.loop-i.device in
    let e = c.in_ok-reads_above.ensures in
    let S = seen (disk old) in
    record {
      same_size = e.device.same_size ∙ k.same_size;
      device = reads_joined i 1 (i + 1) true old mid (D.medium c.reads_above.new.device) (omega arith) k.device e.device;
      whole = between_joined i i 1 1 (i + 1) (i + 1) old.calls mid.calls (D.medium c.reads_above.new.device).calls (omega arith) (omega arith) k.whole e.whole;
      none = λ t.
          let told : option_map (is_above c.args.generation) (slice_get S (first_region + i)) ≡ Some false =
          ap (λ (s : List (List ℕ)). option_map (is_above c.args.generation) (slice_get s (first_region + i))) (sym (still_seen i true old mid k.device t))
          ∙ e.told (still_tells i true old mid k.device t) ∙ ap (λ (b : Bool). Some b) c.if-branch.false in
          none_more c.args.generation first_region i S told (k.none t);
    }

pub returns-clause-told : goal.returns-clause-told
returns-clause-told g c = λ t.
    let D = g.D.Device in
    let S = seen (disk (D.medium c.args.device.now)) in
    let end : c.loop-i.i ≡ 3 * c.args.log_sectors = omega (arith, c.loop-i-test.false, c.loop-i.auto.i-end) in
    subst (λ (n : ℕ). HasNoneAbove c.args.generation (area first_region n S)) end (c.loop-i.invariant.none t)

pub returns-clause-whole : goal.returns-clause-whole
returns-clause-whole g c = λ none.
    let D = g.D.Device in
    let n = 3 * c.args.log_sectors in
    let end : c.loop-i.i ≡ n = omega (arith, c.loop-i-test.false, c.loop-i.auto.i-end) in
    subst (λ (k : ℕ). ReadsBetween k k (D.medium c.args.device.now).calls (D.medium c.loop-i.device).calls) end c.loop-i.invariant.whole
