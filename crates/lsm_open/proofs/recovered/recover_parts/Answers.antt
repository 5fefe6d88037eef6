use Rattle.std.proofs.Common.{inr, true, false, sym, subst, ◌≡◌, List, ℕ, length, arith}
use Rattle.std.proofs.lemmas.Result.{err_from_is_err_and}
use Rattle.lsm_device.specs.Calls.{AtMost}
use Rattle.lsm_device.specs.declared.calls.Calls.{Calls}
use Rattle.lsm_device.specs.Disk.{Disk, seen, synced}
use Rattle.lsm_device.specs.History.{Becomes}
use Rattle.lsm_device.specs.Medium.{disk}
use Rattle.lsm_device.specs.Memory.{length-written}
use Rattle.lsm_device.proofs.Moments.{now_is}
use Rattle.lsm_device.proofs.Counting.{none_made, AtMost-joined, AtMost-wider}
use Rattle.lsm_open.specs.Layout.{layout_of}
use Rattle.std.specs.Prelude.{option_map}
use Rattle.std.specs.Arc.{arc_value}
use Rattle.lsm_open.specs.Placements.{contents_for}
use Rattle.lsm_open.specs.ReadParts.{sectors_read_by, sectors_read_most}
use Rattle.lsm_open.specs.Recovering.{placed_in, IsReopened}
use Rattle.lsm_open.proofs.OpeningMoments.{has_size, standing_after, crashes, fails, begun_fails}
use Rattle.lsm_open.proofs.OpeningReads.{begun_alone, begun_before}
use Rattle.lsm_open.proofs.OpeningAnswers.{written_after_sync}
use Rattle.lsm_open.proofs.OpeningRefusals.{from_begin, begun_faults}
use Rattle.lsm_root.specs.Roots.{root_of}
use Rattle.lsm_open.proofs.recovered.recover_parts.Goals as goal

pub returns-in_err-begin-clause-fails : goal.returns-in_err-begin-clause-fails
returns-in_err-begin-clause-fails g c = λ n left t is.
    let D = g.D.Device in
    let image : List (List ℕ) = seen (disk (D.medium c.args.device.now)) in
    let long : length image ≡ (D.medium c.args.device.now).size = length-written _ (disk (D.medium c.args.device.now)).stands (disk (D.medium c.args.device.now)).pending (g.met.D.Device.sound c.args.device.now t).now.size in
    let fair = has_size n left image (D.medium c.args.device.now).size is long c.root_laws.ensures.fits in
    let p = err_from_is_err_and c.from_residual.result c.from_residual.ensures.1 in
    rw (p.1, p.2) (begun_fails (D.medium c.args.device.now) (D.medium c.begin.new.device) n left c.in_err-begin.field-0.0 is fair c.in_err-begin.ensures.refused (c.in_err-begin.ensures.unchanged t))

pub returns-in_err-begin-clause-refused : goal.returns-in_err-begin-clause-refused
returns-in_err-begin-clause-refused g c =
    let p = err_from_is_err_and c.from_residual.result c.from_residual.ensures.1 in
    rw (p.1, p.2) (inr (from_begin _ c.in_err-begin.field-0.0 c.in_err-begin.ensures.refused))

pub returns-in_err-begin-clause-unwritten : goal.returns-in_err-begin-clause-unwritten
returns-in_err-begin-clause-unwritten g c =
    let p = err_from_is_err_and c.from_residual.result c.from_residual.ensures.1 in
    rw (p.1, p.2) (λ none. AtMost-wider 0 0 1 587842 0 1 _ _ (omega arith) (omega arith) (omega arith) c.begin.ensures.calls)

pub returns-in_err-begin-clause-settled : goal.returns-in_err-begin-clause-settled
returns-in_err-begin-clause-settled g c = λ t size.
    let p = err_from_is_err_and c.from_residual.result c.from_residual.ensures.1 in
    rw (p.1, p.2) (λ none. begun_faults _ c.in_err-begin.field-0.0 size c.in_err-begin.ensures.refused none)

pub returns-in_err-begin-clause-begins : goal.returns-in_err-begin-clause-begins
returns-in_err-begin-clause-begins g c = λ size.
    let D = g.D.Device in
    (false, subst (λ (k : Calls). AtMost 587842 42 2 k (D.medium c.begin.new.device).calls) (c.in_err-begin.ensures.counted size) (none_made 587842 42 2 _))

pub returns-in_err-parts-clause-refused : goal.returns-in_err-parts-clause-refused
returns-in_err-parts-clause-refused g c =
    let p = err_from_is_err_and c.from_residual-in_err-parts.result c.from_residual-in_err-parts.ensures.1 in
    rw (p.1, p.2) c.in_err-parts.ensures.refused

pub returns-in_err-parts-clause-unwritten : goal.returns-in_err-parts-clause-unwritten
returns-in_err-parts-clause-unwritten g c =
    let p = err_from_is_err_and c.from_residual-in_err-parts.result c.from_residual-in_err-parts.ensures.1 in
    rw (p.1, p.2) (λ none. AtMost-joined 0 0 1 587842 0 0 587842 0 1 _ _ _ (omega arith) (omega arith) (omega arith) c.begin.ensures.calls (c.in_err-parts.ensures.unwritten none))

pub returns-in_err-parts-clause-settled : goal.returns-in_err-parts-clause-settled
returns-in_err-parts-clause-settled g c = λ t size.
    let D = g.D.Device in
    let p = err_from_is_err_and c.from_residual-in_err-parts.result c.from_residual-in_err-parts.ensures.1 in
    rw (p.1, p.2) (λ none. subst (Becomes (synced (disk (D.medium c.args.device.now))) (D.medium c.args.device.now).history)
    (sym (c.in_err-parts.ensures.unchanged (rw c.begin.ensures.same_lasting t) none)) (c.in_ok-begin.ensures.stands t))

pub returns-in_err-parts-clause-begins : goal.returns-in_err-parts-clause-begins
returns-in_err-parts-clause-begins g c = λ size.
    let D = g.D.Device in
    (true, subst (λ (k : Calls). AtMost 587842 42 2 k (D.medium c.recover_settled.new.device).calls) (c.in_ok-begin.ensures.counted size) c.recover_settled.ensures.calls)

pub returns-clause-begins : goal.returns-clause-begins
returns-clause-begins g c = λ size.
    let D = g.D.Device in
    (true, subst (λ (k : Calls). AtMost 587842 42 2 k (D.medium c.recover_settled.new.device).calls) (c.in_ok-begin.ensures.counted size) c.recover_settled.ensures.calls)

pub returns-clause-any_moment : goal.returns-clause-any_moment
returns-clause-any_moment g c = λ n left t is.
    let D = g.D.Device in
    let begins = c.in_ok-begin.ensures.stands t in
    let here = standing_after (D.medium c.args.device.now) (D.medium c.begin.new.device) (D.medium c.recover_settled.new.device) n left is begins in
    crashes (D.medium c.args.device.now) (D.medium c.begin.new.device) (D.medium c.recover_settled.new.device) n left is begins (c.recover_settled.ensures.any_moment n left (rw c.begin.ensures.same_lasting t) here)

pub returns-in_err-parts-clause-fails : goal.returns-in_err-parts-clause-fails
returns-in_err-parts-clause-fails g c = λ n left t is.
    let D = g.D.Device in
    let begins = c.in_ok-begin.ensures.stands t in
    let here = standing_after (D.medium c.args.device.now) (D.medium c.begin.new.device) (D.medium c.recover_settled.new.device) n left is begins in
    let each = c.recover_settled.ensures.any_moment n left (rw c.begin.ensures.same_lasting t) here in
    let says = c.in_err-parts.ensures.fair n left (rw c.begin.ensures.same_lasting t) here in
    let p = err_from_is_err_and c.from_residual-in_err-parts.result c.from_residual-in_err-parts.ensures.1 in
    rw (p.1, p.2) (fails (D.medium c.args.device.now) (D.medium c.begin.new.device) (D.medium c.recover_settled.new.device) n left is begins c.in_err-parts.field-0.0 says each)

pub returns-clause-recovered : goal.returns-clause-recovered
returns-clause-recovered g c = λ n left t is.
    let D = g.D.Device in
    let begins = c.in_ok-begin.ensures.stands t in
    let here = standing_after (D.medium c.args.device.now) (D.medium c.begin.new.device) (D.medium c.recover_settled.new.device) n left is begins in
    c.in_ok-parts.ensures.recovered n left (rw c.begin.ensures.same_lasting t) here

pub returns-in_err-parts-clause-calls : goal.returns-in_err-parts-clause-calls
returns-in_err-parts-clause-calls g c = AtMost-joined 0 0 1 587842 42 2 587842 42 3 _ _ _ (omega arith) (omega arith) (omega arith) c.begin.ensures.calls c.recover_settled.ensures.calls

pub returns-clause-calls : goal.returns-clause-calls
returns-clause-calls g c = AtMost-joined 0 0 1 587842 42 2 587842 42 3 _ _ _ (omega arith) (omega arith) (omega arith) c.begin.ensures.calls c.recover_settled.ensures.calls

pub returns-in_err-begin-clause-reads : goal.returns-in_err-begin-clause-reads
returns-in_err-begin-clause-reads g c = λ t.
    let D = g.D.Device in
    begun_alone _ _ (D.medium c.begin.new.device).calls _ c.begin.ensures.calls

pub returns-in_err-parts-clause-reads : goal.returns-in_err-parts-clause-reads
returns-in_err-parts-clause-reads g c = λ t.
    let D = g.D.Device in
    let old = D.medium c.args.device.now in
    let mid = D.medium c.begin.new.device in
    let new = D.medium c.recover_settled.new.device in
    let is = now_is (synced (disk old)) old.history mid.history (c.in_ok-begin.ensures.stands t) in
    begun_before (sectors_read_by (root_of (seen (disk old)))) _ _ _ c.begin.ensures.calls
    (subst (λ (d : Disk). AtMost (sectors_read_by (root_of (seen d))) 42 2 mid.calls new.calls) is (c.recover_settled.ensures.reads (rw c.begin.ensures.same_lasting t)))

pub returns-clause-reads : goal.returns-clause-reads
returns-clause-reads g c = λ t.
    let D = g.D.Device in
    let old = D.medium c.args.device.now in
    let mid = D.medium c.begin.new.device in
    let new = D.medium c.recover_settled.new.device in
    let is = now_is (synced (disk old)) old.history mid.history (c.in_ok-begin.ensures.stands t) in
    begun_before (sectors_read_by (root_of (seen (disk old)))) _ _ _ c.begin.ensures.calls
    (subst (λ (d : Disk). AtMost (sectors_read_by (root_of (seen d))) 42 2 mid.calls new.calls) is (c.recover_settled.ensures.reads (rw c.begin.ensures.same_lasting t)))

pub returns-clause-most : goal.returns-clause-most
returns-clause-most g c =
    let p = c.in_ok-parts.parts in
    begun_before (sectors_read_most p.regions.log_sectors p.records.items) _ _ _ c.begin.ensures.calls c.in_ok-parts.ensures.most

pub returns-clause-reopened : goal.returns-clause-reopened
returns-clause-reopened g c = λ t.
    let D = g.D.Device in
    let p = c.in_ok-parts.parts in
    let begins = c.in_ok-begin.ensures.stands t in
    let is = now_is (synced (disk (D.medium c.args.device.now))) (D.medium c.args.device.now).history (D.medium c.begin.new.device).history begins in
    subst (λ (d : Disk). IsReopened (seen d) (placed_in (layout_of p.regions) p.levels p.records.items) p.count (option_map arc_value p.sealed) p.levels (disk (D.medium c.recover_settled.new.device))) is (c.in_ok-parts.ensures.reopened (rw c.begin.ensures.same_lasting t))

pub returns-clause-made : goal.returns-clause-made
returns-clause-made g c =
    let D = g.D.Device in
    written_after_sync (contents_for (placed_in (layout_of c.in_ok-parts.parts.regions) c.in_ok-parts.parts.levels c.in_ok-parts.parts.records.items)) (D.medium c.args.device.now).calls (D.medium c.begin.new.device).calls (D.medium c.recover_settled.new.device).calls c.in_ok-begin.ensures.made c.in_ok-parts.ensures.made
