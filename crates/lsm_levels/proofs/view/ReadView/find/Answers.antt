use Rattle.lsm_codec.proofs.Lists.{all_append}
use Rattle.lsm_levels.specs.Tables.{IsRun}
use Rattle.lsm_levels.specs.Levels.{places}
use Rattle.lsm_levels.specs.Asking.{Source}
use Rattle.lsm_levels.specs.Lookups.{sealed_now}
use Rattle.lsm_levels.proofs.AnswerLaws.{look_answers, look_counted, look_faults, look_fresh, look_numbered, look_only_reads, look_refused, look_stops}
use Rattle.lsm_levels.proofs.view.ReadView.find.Goals as goal

pub returns-clause-looks : goal.returns-clause-looks
returns-clause-looks g c = c.look_up-answer.ensures

pub returns-clause-answers : goal.returns-clause-answers
returns-clause-answers g c = λ place readable order.
    let v = c.args.self.now in
    let old : Source = record { cache = c.args.cache.now; medium = g.D.Device.medium c.args.device.now } in
    let new : Source = record { cache = c.look_up-answer.new.cache; medium = g.D.Device.medium c.look_up-answer.new.device } in
    let all = all_append IsRun v.levels.now.runs v.levels.now.deeper c.runs-runs.ensures.runs.runs c.runs-runs.ensures.runs.deeper in
    look_answers v.mem.now (sealed_now v.sealed) (places v.levels.now) v.area c.args.key.now c.args.at c.look_up-answer.result old new c.look_up-answer.ensures place all readable order

pub returns-clause-fresh : goal.returns-clause-fresh
returns-clause-fresh g c =
    let v = c.args.self.now in
    let old : Source = record { cache = c.args.cache.now; medium = g.D.Device.medium c.args.device.now } in
    let new : Source = record { cache = c.look_up-answer.new.cache; medium = g.D.Device.medium c.look_up-answer.new.device } in
    look_fresh v.mem.now (sealed_now v.sealed) (places v.levels.now) v.area c.args.key.now c.args.at c.look_up-answer.result old new c.look_up-answer.ensures

pub returns-clause-numbered : goal.returns-clause-numbered
returns-clause-numbered g c =
    let v = c.args.self.now in
    let old : Source = record { cache = c.args.cache.now; medium = g.D.Device.medium c.args.device.now } in
    let new : Source = record { cache = c.look_up-answer.new.cache; medium = g.D.Device.medium c.look_up-answer.new.device } in
    look_numbered v.mem.now (sealed_now v.sealed) (places v.levels.now) v.area c.args.key.now c.args.at c.look_up-answer.result old new c.look_up-answer.ensures

pub returns-clause-refused : goal.returns-clause-refused
returns-clause-refused g c =
    let v = c.args.self.now in
    let old : Source = record { cache = c.args.cache.now; medium = g.D.Device.medium c.args.device.now } in
    let new : Source = record { cache = c.look_up-answer.new.cache; medium = g.D.Device.medium c.look_up-answer.new.device } in
    look_refused v.mem.now (sealed_now v.sealed) (places v.levels.now) v.area c.args.key.now c.args.at c.look_up-answer.result old new c.look_up-answer.ensures

pub returns-clause-faults : goal.returns-clause-faults
returns-clause-faults g c =
    let v = c.args.self.now in
    let old : Source = record { cache = c.args.cache.now; medium = g.D.Device.medium c.args.device.now } in
    let new : Source = record { cache = c.look_up-answer.new.cache; medium = g.D.Device.medium c.look_up-answer.new.device } in
    look_faults v.mem.now (sealed_now v.sealed) (places v.levels.now) v.area c.args.key.now c.args.at c.look_up-answer.result old new c.look_up-answer.ensures

pub returns-clause-stops : goal.returns-clause-stops
returns-clause-stops g c =
    let v = c.args.self.now in
    let old : Source = record { cache = c.args.cache.now; medium = g.D.Device.medium c.args.device.now } in
    let new : Source = record { cache = c.look_up-answer.new.cache; medium = g.D.Device.medium c.look_up-answer.new.device } in
    look_stops v.mem.now (sealed_now v.sealed) (places v.levels.now) v.area c.args.key.now c.args.at c.look_up-answer.result old new c.look_up-answer.ensures

pub returns-clause-calls : goal.returns-clause-calls
returns-clause-calls g c =
    let v = c.args.self.now in
    let old : Source = record { cache = c.args.cache.now; medium = g.D.Device.medium c.args.device.now } in
    let new : Source = record { cache = c.look_up-answer.new.cache; medium = g.D.Device.medium c.look_up-answer.new.device } in
    (look_counted v.mem.now (sealed_now v.sealed) (places v.levels.now) v.area c.args.key.now c.args.at c.look_up-answer.result old new c.look_up-answer.ensures).at_most

pub returns-clause-unchanged : goal.returns-clause-unchanged
returns-clause-unchanged g c =
    let v = c.args.self.now in
    let old : Source = record { cache = c.args.cache.now; medium = g.D.Device.medium c.args.device.now } in
    let new : Source = record { cache = c.look_up-answer.new.cache; medium = g.D.Device.medium c.look_up-answer.new.device } in
    (look_only_reads v.mem.now (sealed_now v.sealed) (places v.levels.now) v.area c.args.key.now c.args.at c.look_up-answer.result old new c.look_up-answer.ensures).unchanged

pub returns-clause-same_size : goal.returns-clause-same_size
returns-clause-same_size g c =
    let v = c.args.self.now in
    let old : Source = record { cache = c.args.cache.now; medium = g.D.Device.medium c.args.device.now } in
    let new : Source = record { cache = c.look_up-answer.new.cache; medium = g.D.Device.medium c.look_up-answer.new.device } in
    (look_only_reads v.mem.now (sealed_now v.sealed) (places v.levels.now) v.area c.args.key.now c.args.at c.look_up-answer.result old new c.look_up-answer.ensures).same_size

pub returns-clause-same_lasting : goal.returns-clause-same_lasting
returns-clause-same_lasting g c =
    let v = c.args.self.now in
    let old : Source = record { cache = c.args.cache.now; medium = g.D.Device.medium c.args.device.now } in
    let new : Source = record { cache = c.look_up-answer.new.cache; medium = g.D.Device.medium c.look_up-answer.new.device } in
    (look_only_reads v.mem.now (sealed_now v.sealed) (places v.levels.now) v.area c.args.key.now c.args.at c.look_up-answer.result old new c.look_up-answer.ensures).same_lasting
