use Rattle.std.proofs.Common.{◌≡◌, ◌*◌, ◌≤◌, ℕ, length, sym, subst, arith}
use Rattle.std.specs.Prelude.{Option, MatchResult}
use Rattle.lsm_cache.specs.declared.name.BlockName.{BlockName}
use Rattle.lsm_codec.specs.Guards.{is_met}
use Rattle.lsm_device.proofs.Counting.{AtMost-wider}
use Rattle.lsm_device.specs.Refusals.{faultless}
use Rattle.lsm_device.specs.declared.refusal.Refusal.TheVariants.{Io}
use Rattle.lsm_levels.specs.Asking.{Source}
use Rattle.lsm_levels.specs.Levels.{Levels, places}
use Rattle.lsm_levels.specs.Lookups.{IsTest, versions_in_places, sealed_now}
use Rattle.lsm_levels.specs.Orders.{IsVersionOrder}
use Rattle.lsm_levels.specs.Stored.{AreWithin, IsReadable}
use Rattle.lsm_mem.specs.Versions.{joined}
use Rattle.lsm_mem.specs.Versions.{map_of}
use Rattle.lsm_open.specs.Tables.{first_data}
use Rattle.lsm_levels.proofs.NamedBlocks.{named_law}
use Rattle.lsm_store.specs.Reading.{ReadsThrough}
use Rattle.lsm_machine.proofs.ReadViews.{Parts, same_parts}
use Rattle.lsm_store.proofs.reading.ask_guard.Goals as goal

pub meets_guard-requires : goal.meets_guard-requires
meets_guard-requires g c =
    let v = c.view_of-view.result in
    let e = c.view_of-view.ensures in
    let size = (g.D.Device.medium c.args.device.now).size in
    subst (λ (a : ℕ). AreWithin size a (places v.levels.now)) (sym e.area) (subst (λ (l : Levels). AreWithin size (first_data c.args.memory.now.regions.log_sectors) (places l)) (sym e.levels) c.requires.lie.tables)

pub returns-clause-answers : goal.returns-clause-answers
returns-clause-answers g c =
    let v = c.view_of-view.result in
    let e = c.view_of-view.ensures in
    let old : Source = record { cache = c.args.cache.now; medium = g.D.Device.medium c.args.device.now } in
    let n = c.args.count in
    same_parts (λ (p : Parts). (place : BlockName → Option ℕ) → IsReadable place p.area (places p.levels) old → IsVersionOrder (versions_in_places p.memory p.sealed (places p.levels))
    → MatchResult c.meets_guard.result (λ met. met ≡ is_met (map_of (joined (versions_in_places p.memory p.sealed (places p.levels))) n) c.args.guard.now) (λ refusal. refusal ≡ Io))
    v.mem.now _ (sealed_now v.sealed) _ v.levels.now _ v.area _ e.memory e.sealed e.levels e.area c.meets_guard.ensures.answers

pub returns-clause-tests : goal.returns-clause-tests
returns-clause-tests g c =
    let v = c.view_of-view.result in
    let e = c.view_of-view.ensures in
    let old : Source = record { cache = c.args.cache.now; medium = g.D.Device.medium c.args.device.now } in
    let new : Source = record { cache = c.meets_guard.new.cache; medium = g.D.Device.medium c.meets_guard.new.device } in
    same_parts (λ (p : Parts). IsTest p.memory p.sealed (places p.levels) p.area c.args.guard.now c.args.count c.meets_guard.result old new)
    v.mem.now _ (sealed_now v.sealed) _ v.levels.now _ v.area _ e.memory e.sealed e.levels e.area c.meets_guard.ensures.tests

pub returns-clause-reads : goal.returns-clause-reads
returns-clause-reads g c =
    let v = c.view_of-view.result in
    let e = c.view_of-view.ensures in
    let f = c.meets_guard.ensures in
    let old : Source = record { cache = c.args.cache.now; medium = g.D.Device.medium c.args.device.now } in
    let new : Source = record { cache = c.meets_guard.new.cache; medium = g.D.Device.medium c.meets_guard.new.device } in
    let few : length (places v.levels.now) ≤ 16 = subst (λ (l : Levels). length (places l) ≤ 16) (sym e.levels) c.requires.lie.few in
    let most : 8 * length (places v.levels.now) ≤ 128 = omega (arith, few) in
    let none : 0 ≤ 0 = omega arith in
    subst (λ (a : ℕ). ReadsThrough 128 a c.args.memory.now.levels (faultless c.meets_guard.result) old new) e.area
    (subst (λ (l : Levels). ReadsThrough 128 v.area l (faultless c.meets_guard.result) old new) e.levels
    (record {
      calls = AtMost-wider (8 * length (places v.levels.now)) 0 0 128 0 0 old.medium.calls new.medium.calls most none none f.calls;
      faults = f.faults;
      unchanged = f.unchanged;
      same_size = f.same_size;
      same_lasting = f.same_lasting;
      fresh = f.fresh;
      others = λ number none before. named_law.tested v.mem.now (sealed_now v.sealed) (places v.levels.now) v.area c.args.guard.now c.args.count number _ old new f.tests none before;
    }))
