use Rattle.std.proofs.Common.{◌≡◌, ◌+◌, ◌*◌, ℕ, Bool, true, true≢false, List, length, refl, sym, ap, subst, ◌∙◌, arith}
use Rattle.std.proofs.lemmas.Result.{err_from_is_err_and}
use Rattle.lsm_device.specs.Disk.{seen}
use Rattle.lsm_device.specs.Medium.{disk}
use Rattle.lsm_levels.specs.Stored.{IsStored}
use Rattle.lsm_open.specs.ReadParts.{ReadsAtMost}
use Rattle.lsm_open.proofs.OpeningAnswers.{reads_none, reads_joined, reads_wider}
use Rattle.lsm_table.specs.Outlines.{Outline}
use Rattle.lsm_device.specs.Refusals.{faultless}
use Rattle.lsm_check.specs.Sound.{AreRead}
use Rattle.lsm_check.proofs.DeviceReads.{still_tells, still_seen}
use Rattle.lsm_check.proofs.TableEntries.{none_read, all_read}
use Rattle.lsm_check.proofs.ReadCounts.{between_none, between_joined}
use Rattle.lsm_check.proofs.entries.entries_of.Goals as goal

pub loop-place-init : goal.loop-place-init
loop-place-init g c =
    let D = g.D.Device in
    record {
      same_size = refl;
      device = reads_none 0 (D.medium c.args.device.now);
      whole = between_none (D.medium c.args.device.now).calls;
      read = λ t ends. none_read (seen (disk (D.medium c.args.device.now))) c.args.area c.args.table.now c.new-entries.result.items c.new-entries.ensures.items;
      stored = λ t stored. refl;
    }

pub returns-in_err-ends-clause-fair : goal.returns-in_err-ends-clause-fair
returns-in_err-ends-clause-fair g c = λ t stored.
    let D = g.D.Device in
    let k = c.loop-place.invariant in
    let old = D.medium c.args.device.now in
    let mid = D.medium c.loop-place.device in
    let p = err_from_is_err_and c.from_residual-in_err-ends.result c.from_residual-in_err-ends.ensures.1 in
    let there : IsStored (seen (disk mid)) c.args.area c.args.table.now = subst (λ (s : List (List ℕ)). IsStored s c.args.area c.args.table.now) (sym (still_seen (8 * c.loop-place.place) true old mid k.device t)) stored in
    rw (p.1, p.2) (c.in_err-ends.ensures.fair (still_tells (8 * c.loop-place.place) true old mid k.device t) there)

pub returns-in_err-ends-clause-device : goal.returns-in_err-ends-clause-device
returns-in_err-ends-clause-device g c =
    let D = g.D.Device in
    let p = err_from_is_err_and c.from_residual-in_err-ends.result c.from_residual-in_err-ends.ensures.1 in
    let old = D.medium c.args.device.now in
    let mid = D.medium c.loop-place.device in
    let new = D.medium c.add_block.new.device in
    rw (p.1, p.2) (subst (λ (ok : Bool). ReadsAtMost 512 ok old new) (ap faultless c.in_err-ends.was)
    (reads_joined (8 * c.loop-place.place) 8 512 (faultless c.add_block.result) old mid new (omega (arith, c.loop-place-test.true, c.data_blocks-place-end.ensures.high)) c.loop-place.invariant.device c.add_block.ensures.device))

pub loop-place-preserved : goal.loop-place-preserved
loop-place-preserved g c =
    let D = g.D.Device in
    let k = c.loop-place.invariant in
    let place = c.loop-place.place in
    let old = D.medium c.args.device.now in
    let mid = D.medium c.loop-place.device in
    let e = c.in_ok-ends.ensures in
    record {
      same_size = e.device.same_size ∙ k.same_size;
      device = reads_joined (8 * place) 8 (8 * (place + 1)) true old mid (D.medium c.add_block.new.device) (omega arith) k.device e.device;
      whole = between_joined (8 * place) (8 * place) 8 8 (8 * (place + 1)) (8 * (place + 1)) old.calls mid.calls (D.medium c.add_block.new.device).calls (omega arith) (omega arith) k.whole e.whole;
      read = λ t ends.
          let same = still_seen (8 * place) true old mid k.device t in
          let before : c.loop-place.ends ≡ true → AreRead (seen (disk mid)) c.args.area place c.args.table.now c.loop-place.entries.items = λ was. subst (λ (s : List (List ℕ)). AreRead s c.args.area place c.args.table.now c.loop-place.entries.items) (sym same) (k.read t was) in
          subst (λ (s : List (List ℕ)). AreRead s c.args.area (place + 1) c.args.table.now c.add_block.new.entries.items) same (e.read (still_tells (8 * place) true old mid k.device t) ends before);
      stored = λ t stored.
          let there : IsStored (seen (disk mid)) c.args.area c.args.table.now = subst (λ (s : List (List ℕ)). IsStored s c.args.area c.args.table.now) (sym (still_seen (8 * place) true old mid k.device t)) stored in
          e.stored (still_tells (8 * place) true old mid k.device t) there (k.stored t stored);
    }

pub returns-then-not-ends-clause-fair : goal.returns-then-not-ends-clause-fair
returns-then-not-ends-clause-fair g c = λ t stored. absurd (true≢false (sym (c.loop-place.invariant.stored t stored) ∙ c.if-not-ends.true))

pub returns-then-not-ends-clause-device : goal.returns-then-not-ends-clause-device
returns-then-not-ends-clause-device g c =
    let D = g.D.Device in
    reads_wider (8 * c.loop-place.place) 512 true (D.medium c.args.device.now) (D.medium c.loop-place.device) (omega (arith, c.loop-place.auto.place-end, c.data_blocks-place-end.ensures.high)) c.loop-place.invariant.device

pub returns-clause-read : goal.returns-clause-read
returns-clause-read g c = λ t.
    let D = g.D.Device in
    let table = c.args.table.now in
    let size : c.data_blocks-place-end.result ≡ length table.outline.edges = c.data_blocks-place-end.ensures.count ∙ ap (λ (o : Outline). length o.edges) c.table.ensures.same in
    let end : c.loop-place.place ≡ length table.outline.edges = omega (arith, size, c.loop-place-test.false, c.loop-place.auto.place-end) in
    all_read (seen (disk (D.medium c.args.device.now))) c.args.area c.loop-place.place table c.loop-place.entries.items end (c.loop-place.invariant.read t c.if-not-ends.false)

pub returns-clause-device : goal.returns-clause-device
returns-clause-device g c =
    let D = g.D.Device in
    reads_wider (8 * c.loop-place.place) 512 true (D.medium c.args.device.now) (D.medium c.loop-place.device) (omega (arith, c.loop-place.auto.place-end, c.data_blocks-place-end.ensures.high)) c.loop-place.invariant.device

pub returns-clause-whole : goal.returns-clause-whole
returns-clause-whole g c =
    let D = g.D.Device in
    let table = c.args.table.now in
    let size : c.data_blocks-place-end.result ≡ length table.outline.edges = c.data_blocks-place-end.ensures.count ∙ ap (λ (o : Outline). length o.edges) c.table.ensures.same in
    let count = c.loop-place.invariant.whole in
    record {
      count = count.count;
      low = omega (arith, count.low, size, c.loop-place-test.false, c.loop-place.auto.place-end);
      high = omega (arith, count.high, c.loop-place.auto.place-end, c.data_blocks-place-end.ensures.high);
      made = count.made;
    }

pub returns-in_err-ends-clause-refused : goal.returns-in_err-ends-clause-refused
returns-in_err-ends-clause-refused g c =
    let p = err_from_is_err_and c.from_residual-in_err-ends.result c.from_residual-in_err-ends.ensures.1 in
    rw (p.1, p.2) c.in_err-ends.ensures.refused

pub returns-then-not-ends-clause-refused : goal.returns-then-not-ends-clause-refused
returns-then-not-ends-clause-refused g c = c.number.ensures
