use Rattle.lsm_codec.proofs.Lists.{all_append}
use Rattle.lsm_levels.specs.Tables.{IsRun}
use Rattle.lsm_levels.specs.Levels.{places}
use Rattle.lsm_levels.specs.Asking.{Source}
use Rattle.lsm_levels.specs.Lookups.{sealed_now}
use Rattle.lsm_levels.proofs.AnswerLaws.{test_answers, test_counted, test_faults, test_fresh, test_numbered, test_only_reads, test_refused, test_stops}
use Rattle.lsm_levels.proofs.view.ReadView.meets_guard.Goals as goal

pub returns-clause-tests : goal.returns-clause-tests
returns-clause-tests g c = c.tested-answer.ensures

pub returns-clause-answers : goal.returns-clause-answers
returns-clause-answers g c = λ place readable order.
    let v = c.args.self.now in
    let old : Source = record { cache = c.args.cache.now; medium = g.D.Device.medium c.args.device.now } in
    let new : Source = record { cache = c.tested-answer.new.cache; medium = g.D.Device.medium c.tested-answer.new.device } in
    let all = all_append IsRun v.levels.now.runs v.levels.now.deeper c.runs-runs.ensures.runs.runs c.runs-runs.ensures.runs.deeper in
    test_answers v.mem.now (sealed_now v.sealed) (places v.levels.now) v.area c.args.guard.now c.args.at c.tested-answer.result old new c.tested-answer.ensures place all readable order

pub returns-clause-fresh : goal.returns-clause-fresh
returns-clause-fresh g c =
    let v = c.args.self.now in
    let old : Source = record { cache = c.args.cache.now; medium = g.D.Device.medium c.args.device.now } in
    let new : Source = record { cache = c.tested-answer.new.cache; medium = g.D.Device.medium c.tested-answer.new.device } in
    test_fresh v.mem.now (sealed_now v.sealed) (places v.levels.now) v.area c.args.guard.now c.args.at c.tested-answer.result old new c.tested-answer.ensures

pub returns-clause-numbered : goal.returns-clause-numbered
returns-clause-numbered g c =
    let v = c.args.self.now in
    let old : Source = record { cache = c.args.cache.now; medium = g.D.Device.medium c.args.device.now } in
    let new : Source = record { cache = c.tested-answer.new.cache; medium = g.D.Device.medium c.tested-answer.new.device } in
    test_numbered v.mem.now (sealed_now v.sealed) (places v.levels.now) v.area c.args.guard.now c.args.at c.tested-answer.result old new c.tested-answer.ensures

pub returns-clause-refused : goal.returns-clause-refused
returns-clause-refused g c =
    let v = c.args.self.now in
    let old : Source = record { cache = c.args.cache.now; medium = g.D.Device.medium c.args.device.now } in
    let new : Source = record { cache = c.tested-answer.new.cache; medium = g.D.Device.medium c.tested-answer.new.device } in
    test_refused v.mem.now (sealed_now v.sealed) (places v.levels.now) v.area c.args.guard.now c.args.at c.tested-answer.result old new c.tested-answer.ensures

pub returns-clause-faults : goal.returns-clause-faults
returns-clause-faults g c =
    let v = c.args.self.now in
    let old : Source = record { cache = c.args.cache.now; medium = g.D.Device.medium c.args.device.now } in
    let new : Source = record { cache = c.tested-answer.new.cache; medium = g.D.Device.medium c.tested-answer.new.device } in
    test_faults v.mem.now (sealed_now v.sealed) (places v.levels.now) v.area c.args.guard.now c.args.at c.tested-answer.result old new c.tested-answer.ensures

pub returns-clause-stops : goal.returns-clause-stops
returns-clause-stops g c =
    let v = c.args.self.now in
    let old : Source = record { cache = c.args.cache.now; medium = g.D.Device.medium c.args.device.now } in
    let new : Source = record { cache = c.tested-answer.new.cache; medium = g.D.Device.medium c.tested-answer.new.device } in
    test_stops v.mem.now (sealed_now v.sealed) (places v.levels.now) v.area c.args.guard.now c.args.at c.tested-answer.result old new c.tested-answer.ensures

pub returns-clause-calls : goal.returns-clause-calls
returns-clause-calls g c =
    let v = c.args.self.now in
    let old : Source = record { cache = c.args.cache.now; medium = g.D.Device.medium c.args.device.now } in
    let new : Source = record { cache = c.tested-answer.new.cache; medium = g.D.Device.medium c.tested-answer.new.device } in
    (test_counted v.mem.now (sealed_now v.sealed) (places v.levels.now) v.area c.args.guard.now c.args.at c.tested-answer.result old new c.tested-answer.ensures).at_most

pub returns-clause-unchanged : goal.returns-clause-unchanged
returns-clause-unchanged g c =
    let v = c.args.self.now in
    let old : Source = record { cache = c.args.cache.now; medium = g.D.Device.medium c.args.device.now } in
    let new : Source = record { cache = c.tested-answer.new.cache; medium = g.D.Device.medium c.tested-answer.new.device } in
    (test_only_reads v.mem.now (sealed_now v.sealed) (places v.levels.now) v.area c.args.guard.now c.args.at c.tested-answer.result old new c.tested-answer.ensures).unchanged

pub returns-clause-same_size : goal.returns-clause-same_size
returns-clause-same_size g c =
    let v = c.args.self.now in
    let old : Source = record { cache = c.args.cache.now; medium = g.D.Device.medium c.args.device.now } in
    let new : Source = record { cache = c.tested-answer.new.cache; medium = g.D.Device.medium c.tested-answer.new.device } in
    (test_only_reads v.mem.now (sealed_now v.sealed) (places v.levels.now) v.area c.args.guard.now c.args.at c.tested-answer.result old new c.tested-answer.ensures).same_size

pub returns-clause-same_lasting : goal.returns-clause-same_lasting
returns-clause-same_lasting g c =
    let v = c.args.self.now in
    let old : Source = record { cache = c.args.cache.now; medium = g.D.Device.medium c.args.device.now } in
    let new : Source = record { cache = c.tested-answer.new.cache; medium = g.D.Device.medium c.tested-answer.new.device } in
    (test_only_reads v.mem.now (sealed_now v.sealed) (places v.levels.now) v.area c.args.guard.now c.args.at c.tested-answer.result old new c.tested-answer.ensures).same_lasting
