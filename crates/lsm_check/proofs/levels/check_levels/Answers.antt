use Rattle.std.proofs.Common.{◌*◌, ◌++◌, ℕ, List, [], true, length, refl, sym, subst, ◌∙◌, arith}
use Rattle.std.specs.List.{AllByRecursion}
use Rattle.std.proofs.lemmas.List.{append-nil}
use Rattle.std.proofs.lemmas.Result.{err_from_is_err_and}
use Rattle.lsm_codec.proofs.Lists.{all_left, all_right}
use Rattle.lsm_device.specs.Disk.{seen}
use Rattle.lsm_device.specs.Medium.{disk}
use Rattle.lsm_levels.specs.Levels.{all_tables, places}
use Rattle.lsm_levels.specs.Stored.{LiesWithin, AreWithin}
use Rattle.lsm_levels.specs.Tables.{Table}
use Rattle.lsm_open.proofs.OpeningAnswers.{reads_joined, reads_wider}
use Rattle.lsm_check.specs.Images.{finds_no_fault}
use Rattle.lsm_check.specs.Sound.{IsTold, AreSound, AreSeen}
use Rattle.lsm_check.proofs.DeviceReads.{still_tells, still_seen}
use Rattle.lsm_check.proofs.FoundTables.{of_left, of_right}
use Rattle.lsm_check.proofs.SoundRuns.{seen_none, told_if_sound, places_parted, count_places}
use Rattle.lsm_check.proofs.ReadCounts.{between_joined, blocks_parted}
use Rattle.lsm_check.specs.Counted.{data_blocks_in}
use Rattle.lsm_check.proofs.levels.check_levels.Goals as goal

pub check_runs-requires-clause-within : goal.check_runs-requires-clause-within
check_runs-requires-clause-within g c =
    let D = g.D.Device in
    let size = (D.medium c.args.device.now).size in
    let levels = c.args.levels.now in
    subst (λ (rs : List (List Table)). AreWithin size c.args.area rs) (sym c.runs.ensures.same) (all_left (λ run. AllByRecursion (LiesWithin size c.args.area) run) levels.runs levels.deeper c.requires.within)

pub check_runs-requires-clause-few : goal.check_runs-requires-clause-few
check_runs-requires-clause-few g c =
    omega (arith, c.new-so_far.ensures.entries, c.requires.few, count_places c.args.levels.now c.runs.result.now c.args.levels.now.deeper c.runs.ensures.same refl)

pub returns-in_err-check_runs-clause-fair : goal.returns-in_err-check_runs-clause-fair
returns-in_err-check_runs-clause-fair g c tells sound =
    let D = g.D.Device in
    let S = seen (disk (D.medium c.args.device.now)) in
    let levels = c.args.levels.now in
    let whole = places_parted levels c.runs.result.now levels.deeper c.runs.ensures.same refl in
    let short = c.in_err-check_runs.ensures.fair [] (all_tables levels.deeper) tells (seen_none S c.args.area c.args.base c.new-so_far.result c.new-so_far.ensures) (subst (λ (ts : List Table). AreSound S c.args.area c.args.base ts) whole sound) in
    let p = err_from_is_err_and c.from_residual-in_err-check_runs.result c.from_residual-in_err-check_runs.ensures.1 in
    rw (p.1, p.2) short

pub returns-in_err-check_runs-clause-device : goal.returns-in_err-check_runs-clause-device
returns-in_err-check_runs-clause-device g c =
    let D = g.D.Device in
    let count = count_places c.args.levels.now c.runs.result.now c.args.levels.now.deeper c.runs.ensures.same refl in
    let p = err_from_is_err_and c.from_residual-in_err-check_runs.result c.from_residual-in_err-check_runs.ensures.1 in
    rw (p.1, p.2) (reads_wider (512 * length (all_tables c.runs.result.now)) 524288 (finds_no_fault c.in_err-check_runs.field-0.0) (D.medium c.args.device.now) (D.medium c.check_runs.new.device) (omega (arith, count, c.requires.few)) c.in_err-check_runs.ensures.device)

pub check_runs-requires-2-clause-within : goal.check_runs-requires-2-clause-within
check_runs-requires-2-clause-within g c =
    let D = g.D.Device in
    let size = (D.medium c.args.device.now).size in
    let levels = c.args.levels.now in
    subst (λ (n : ℕ). AreWithin n c.args.area c.deeper.result.now) (sym c.in_ok-check_runs.ensures.device.same_size)
    (subst (λ (rs : List (List Table)). AreWithin size c.args.area rs) (sym c.deeper.ensures.same) (all_right (λ run. AllByRecursion (LiesWithin size c.args.area) run) levels.runs levels.deeper c.requires.within))

pub check_runs-requires-2-clause-few : goal.check_runs-requires-2-clause-few
check_runs-requires-2-clause-few g c =
    omega (arith, c.in_ok-check_runs.ensures.few, c.new-so_far.ensures.entries, c.requires.few, count_places c.args.levels.now c.runs.result.now c.deeper.result.now c.runs.ensures.same c.deeper.ensures.same)

pub returns-in_err-check_runs-2-clause-fair : goal.returns-in_err-check_runs-2-clause-fair
returns-in_err-check_runs-2-clause-fair g c tells sound =
    let D = g.D.Device in
    let old = D.medium c.args.device.now in
    let mid = D.medium c.check_runs.new.device in
    let S = seen (disk old) in
    let area = c.args.area in
    let base = c.args.base in
    let newer = all_tables c.runs.result.now in
    let older = all_tables c.deeper.result.now in
    let reads = 512 * length newer in
    let only = c.in_ok-check_runs.ensures.device in
    let same = still_seen reads true old mid only tells in
    let whole = places_parted c.args.levels.now c.runs.result.now c.deeper.result.now c.runs.ensures.same c.deeper.ensures.same in
    let all : AreSound S area base (newer ++ older) = subst (λ (ts : List Table). AreSound S area base ts) whole sound in
    let first = c.in_ok-check_runs.ensures.sound [] tells (told_if_sound S area base [] newer older all) (seen_none S area base c.new-so_far.result c.new-so_far.ensures) in
    let short = c.in_err-check_runs-2.ensures.fair newer [] (still_tells reads true old mid only tells) (subst (λ (s : List (List ℕ)). AreSeen s area base newer c.check_runs.new.so_far) (sym same) first)
    (subst (λ (s : List (List ℕ)). AreSound s area base ((newer ++ older) ++ [])) (sym same) (subst (λ (ts : List Table). AreSound S area base ts) (sym (append-nil (newer ++ older))) all)) in
    let p = err_from_is_err_and c.from_residual-in_err-check_runs-2.result c.from_residual-in_err-check_runs-2.ensures.1 in
    rw (p.1, p.2) short

pub returns-in_err-check_runs-2-clause-device : goal.returns-in_err-check_runs-2-clause-device
returns-in_err-check_runs-2-clause-device g c =
    let D = g.D.Device in
    let count = count_places c.args.levels.now c.runs.result.now c.deeper.result.now c.runs.ensures.same c.deeper.ensures.same in
    let p = err_from_is_err_and c.from_residual-in_err-check_runs-2.result c.from_residual-in_err-check_runs-2.ensures.1 in
    rw (p.1, p.2) (reads_joined (512 * length (all_tables c.runs.result.now)) (512 * length (all_tables c.deeper.result.now)) 524288 (finds_no_fault c.in_err-check_runs-2.field-0.0) (D.medium c.args.device.now) (D.medium c.check_runs.new.device) (D.medium c.check_runs-2.new.device)
    (omega (arith, count, c.requires.few)) c.in_ok-check_runs.ensures.device c.in_err-check_runs-2.ensures.device)

pub returns-clause-sound : goal.returns-clause-sound
returns-clause-sound g c tells told =
    let D = g.D.Device in
    let old = D.medium c.args.device.now in
    let mid = D.medium c.check_runs.new.device in
    let S = seen (disk old) in
    let area = c.args.area in
    let base = c.args.base in
    let newer = all_tables c.runs.result.now in
    let older = all_tables c.deeper.result.now in
    let reads = 512 * length newer in
    let only = c.in_ok-check_runs.ensures.device in
    let same = still_seen reads true old mid only tells in
    let whole = places_parted c.args.levels.now c.runs.result.now c.deeper.result.now c.runs.ensures.same c.deeper.ensures.same in
    let all : AllByRecursion (IsTold S area) (newer ++ older) = subst (λ (ts : List Table). AllByRecursion (IsTold S area) ts) whole told in
    let first = c.in_ok-check_runs.ensures.sound [] tells (all_left (IsTold S area) newer older all) (seen_none S area base c.new-so_far.result c.new-so_far.ensures) in
    let second = c.in_ok-check_runs-2.ensures.sound newer (still_tells reads true old mid only tells) (subst (λ (s : List (List ℕ)). AllByRecursion (IsTold s area) older) (sym same) (all_right (IsTold S area) newer older all))
    (subst (λ (s : List (List ℕ)). AreSeen s area base newer c.check_runs.new.so_far) (sym same) first) in
    let are = subst (λ (ts : List Table). AreSeen S area base ts c.check_runs-2.new.so_far) (sym whole) (subst (λ (s : List (List ℕ)). AreSeen s area base (newer ++ older) c.check_runs-2.new.so_far) same second) in
    (are.sound, c.entries.ensures ∙ are.seen.entries)

pub returns-clause-device : goal.returns-clause-device
returns-clause-device g c =
    let D = g.D.Device in
    let count = count_places c.args.levels.now c.runs.result.now c.deeper.result.now c.runs.ensures.same c.deeper.ensures.same in
    reads_joined (512 * length (all_tables c.runs.result.now)) (512 * length (all_tables c.deeper.result.now)) 524288 true (D.medium c.args.device.now) (D.medium c.check_runs.new.device) (D.medium c.check_runs-2.new.device)
    (omega (arith, count, c.requires.few)) c.in_ok-check_runs.ensures.device c.in_ok-check_runs-2.ensures.device

pub returns-clause-whole : goal.returns-clause-whole
returns-clause-whole g c =
    let D = g.D.Device in
    let levels = c.args.levels.now in
    let newer = all_tables c.runs.result.now in
    let older = all_tables c.deeper.result.now in
    let count = count_places levels c.runs.result.now c.deeper.result.now c.runs.ensures.same c.deeper.ensures.same in
    let whole = places_parted levels c.runs.result.now c.deeper.result.now c.runs.ensures.same c.deeper.ensures.same in
    between_joined (8 * data_blocks_in newer) (512 * length newer) (8 * data_blocks_in older) (512 * length older) (8 * data_blocks_in (all_tables (places levels))) 524288 (D.medium c.args.device.now).calls (D.medium c.check_runs.new.device).calls (D.medium c.check_runs-2.new.device).calls
    (omega (arith, blocks_parted (all_tables (places levels)) newer older whole)) (omega (arith, count, c.requires.few)) c.in_ok-check_runs.ensures.whole c.in_ok-check_runs-2.ensures.whole

pub returns-in_err-check_runs-clause-refused : goal.returns-in_err-check_runs-clause-refused
returns-in_err-check_runs-clause-refused g c =
    let levels = c.args.levels.now in
    let whole = places_parted levels c.runs.result.now levels.deeper c.runs.ensures.same refl in
    let p = err_from_is_err_and c.from_residual-in_err-check_runs.result c.from_residual-in_err-check_runs.ensures.1 in
    rw (p.1, p.2) (of_left (all_tables (places levels)) (all_tables c.runs.result.now) (all_tables levels.deeper) whole c.in_err-check_runs.field-0.0 c.in_err-check_runs.ensures.refused)

pub returns-in_err-check_runs-2-clause-refused : goal.returns-in_err-check_runs-2-clause-refused
returns-in_err-check_runs-2-clause-refused g c =
    let levels = c.args.levels.now in
    let whole = places_parted levels c.runs.result.now c.deeper.result.now c.runs.ensures.same c.deeper.ensures.same in
    let p = err_from_is_err_and c.from_residual-in_err-check_runs-2.result c.from_residual-in_err-check_runs-2.ensures.1 in
    rw (p.1, p.2) (of_right (all_tables (places levels)) (all_tables c.runs.result.now) (all_tables c.deeper.result.now) whole c.in_err-check_runs-2.field-0.0 c.in_err-check_runs-2.ensures.refused)
