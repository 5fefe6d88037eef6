use Rattle.std.proofs.Common.{◌≡◌, ◌∷◌, ◌++◌, [], Some, None}
use Rattle.std.proofs.lemmas.Result.{err_from_is_err_and}
use Rattle.lsm_mem.specs.Ranges.{from_key}
use Rattle.lsm_levels.specs.Tables.{versions_of}
use Rattle.lsm_levels.specs.Asking.{Source}
use Rattle.lsm_levels.proofs.ScanSources.{first_do, first_refused, later_ask, later_do, later_give, none_ask, none_give}
use Rattle.lsm_levels.proofs.PageLaws.{first_fails, later_go, none_go}
use Rattle.lsm_levels.proofs.sources.+seek_runs.Goals as goal

pub returns-in_default-clause-asks : goal.returns-in_default-clause-asks
returns-in_default-clause-asks g t c =
    let a : Source = record { cache = c.args.cache.now; medium = g.D.Device.medium c.args.device.now } in
    none_ask c.args.area c.args.from.now c.args.runs.now c.in_default.ensures.cases c.args.sources.now.items a

pub returns-in_default-clause-gives : goal.returns-in_default-clause-gives
returns-in_default-clause-gives g t c = λ place sectors lefts r stored placed all shows.
    (none_give c.args.area c.args.from.now c.args.runs.now c.in_default.ensures.cases c.args.sources.now.items place sectors lefts all, shows)

pub returns-in_err-seek_run-clause-asks : goal.returns-in_err-seek_run-clause-asks
returns-in_err-seek_run-clause-asks g t c =
    let a : Source = record { cache = c.args.cache.now; medium = g.D.Device.medium c.args.device.now } in
    let b : Source = record { cache = c.seek_run.new.cache; medium = g.D.Device.medium c.seek_run.new.device } in
    let is : c.args.runs.now ≡ c.in-Some.run'.now ∷ c.in-Some.older.now = c.in-Some.ensures.cases.0 in
    let p = err_from_is_err_and c.from_residual.result c.from_residual.ensures.1 in
    rw (p.1, p.2) (first_refused c.args.area c.args.from.now c.in-Some.run'.now c.in-Some.older.now c.args.runs.now is c.args.sources.now.items c.seek_run.new.sources.items c.in_err-seek_run.field-0.0 a b c.in_err-seek_run.ensures.asks)

pub returns-in_err-seek_run-clause-gives : goal.returns-in_err-seek_run-clause-gives
returns-in_err-seek_run-clause-gives g t c = λ place sectors lefts r stored placed all shows.
    let is : c.args.runs.now ≡ c.in-Some.run'.now ∷ c.in-Some.older.now = c.in-Some.ensures.cases.0 in
    let p = err_from_is_err_and c.from_residual.result c.from_residual.ensures.1 in
    rw (p.1, p.2) (first_do c.args.area c.args.from.now c.in-Some.run'.now c.in-Some.older.now c.args.runs.now is place sectors r stored placed (λ r stored placed. c.in_err-seek_run.ensures.gives place sectors lefts r stored placed all shows))

pub returns-in_err-seek_runs-clause-asks : goal.returns-in_err-seek_runs-clause-asks
returns-in_err-seek_runs-clause-asks g t c =
    let a : Source = record { cache = c.args.cache.now; medium = g.D.Device.medium c.args.device.now } in
    let b : Source = record { cache = c.seek_run.new.cache; medium = g.D.Device.medium c.seek_run.new.device } in
    let d : Source = record { cache = c.seek_runs.new.cache; medium = g.D.Device.medium c.seek_runs.new.device } in
    let is : c.args.runs.now ≡ c.in-Some.run'.now ∷ c.in-Some.older.now = c.in-Some.ensures.cases.0 in
    let p = err_from_is_err_and c.from_residual-in_err-seek_runs.result c.from_residual-in_err-seek_runs.ensures.1 in
    rw (p.1, p.2) (later_ask c.args.area c.args.from.now c.in-Some.run'.now c.in-Some.older.now c.args.runs.now is c.args.sources.now.items c.seek_run.new.sources.items c.seek_runs.new.sources.items (Some c.in_err-seek_runs.field-0.0) a b d c.in_ok-seek_run.ensures.asks c.in_err-seek_runs.ensures.asks)

pub returns-in_err-seek_runs-clause-gives : goal.returns-in_err-seek_runs-clause-gives
returns-in_err-seek_runs-clause-gives g t c = λ place sectors lefts r stored placed all shows.
    let is : c.args.runs.now ≡ c.in-Some.run'.now ∷ c.in-Some.older.now = c.in-Some.ensures.cases.0 in
    let p = err_from_is_err_and c.from_residual-in_err-seek_runs.result c.from_residual-in_err-seek_runs.ensures.1 in
    let one = first_do c.args.area c.args.from.now c.in-Some.run'.now c.in-Some.older.now c.args.runs.now is place sectors r stored placed (λ r stored placed. c.in_ok-seek_run.ensures.gives place sectors lefts r stored placed all shows) in
    rw (p.1, p.2) (later_do c.args.area c.args.from.now c.in-Some.run'.now c.in-Some.older.now c.args.runs.now is place sectors r stored placed (λ r stored placed. c.in_err-seek_runs.ensures.gives place sectors (lefts ++ from_key c.args.from.now (versions_of c.in-Some.run'.now) ∷ []) r stored placed one.0 one.1))

pub returns-clause-asks : goal.returns-clause-asks
returns-clause-asks g t c =
    let a : Source = record { cache = c.args.cache.now; medium = g.D.Device.medium c.args.device.now } in
    let b : Source = record { cache = c.seek_run.new.cache; medium = g.D.Device.medium c.seek_run.new.device } in
    let d : Source = record { cache = c.seek_runs.new.cache; medium = g.D.Device.medium c.seek_runs.new.device } in
    let is : c.args.runs.now ≡ c.in-Some.run'.now ∷ c.in-Some.older.now = c.in-Some.ensures.cases.0 in
    later_ask c.args.area c.args.from.now c.in-Some.run'.now c.in-Some.older.now c.args.runs.now is c.args.sources.now.items c.seek_run.new.sources.items c.seek_runs.new.sources.items None a b d c.in_ok-seek_run.ensures.asks c.in_ok-seek_runs.ensures.asks

pub returns-clause-gives : goal.returns-clause-gives
returns-clause-gives g t c = λ place sectors lefts r stored placed all shows.
    let is : c.args.runs.now ≡ c.in-Some.run'.now ∷ c.in-Some.older.now = c.in-Some.ensures.cases.0 in
    let one = first_do c.args.area c.args.from.now c.in-Some.run'.now c.in-Some.older.now c.args.runs.now is place sectors r stored placed (λ r stored placed. c.in_ok-seek_run.ensures.gives place sectors lefts r stored placed all shows) in
    let two = later_do c.args.area c.args.from.now c.in-Some.run'.now c.in-Some.older.now c.args.runs.now is place sectors r stored placed (λ r stored placed. c.in_ok-seek_runs.ensures.gives place sectors (lefts ++ from_key c.args.from.now (versions_of c.in-Some.run'.now) ∷ []) r stored placed one.0 one.1) in
    (later_give c.args.area c.args.from.now c.in-Some.run'.now c.in-Some.older.now c.args.runs.now is place sectors r stored placed lefts c.seek_runs.new.sources.items two.0, two.1)

pub returns-in_default-clause-gathers : goal.returns-in_default-clause-gathers
returns-in_default-clause-gathers g t c =
    let a : Source = record { cache = c.args.cache.now; medium = g.D.Device.medium c.args.device.now } in
    none_go c.args.area c.args.from.now c.args.runs.now c.in_default.ensures.cases c.args.sources.now.items a

pub returns-in_err-seek_run-clause-gathers : goal.returns-in_err-seek_run-clause-gathers
returns-in_err-seek_run-clause-gathers g t c =
    let a : Source = record { cache = c.args.cache.now; medium = g.D.Device.medium c.args.device.now } in
    let b : Source = record { cache = c.seek_run.new.cache; medium = g.D.Device.medium c.seek_run.new.device } in
    let is : c.args.runs.now ≡ c.in-Some.run'.now ∷ c.in-Some.older.now = c.in-Some.ensures.cases.0 in
    let p = err_from_is_err_and c.from_residual.result c.from_residual.ensures.1 in
    rw (p.1, p.2) (first_fails c.args.area c.args.from.now c.in-Some.run'.now c.in-Some.older.now c.args.runs.now is c.args.sources.now.items c.seek_run.new.sources.items c.in_err-seek_run.field-0.0 a b c.in_err-seek_run.ensures.gathers)

pub returns-in_err-seek_runs-clause-gathers : goal.returns-in_err-seek_runs-clause-gathers
returns-in_err-seek_runs-clause-gathers g t c =
    let a : Source = record { cache = c.args.cache.now; medium = g.D.Device.medium c.args.device.now } in
    let b : Source = record { cache = c.seek_run.new.cache; medium = g.D.Device.medium c.seek_run.new.device } in
    let d : Source = record { cache = c.seek_runs.new.cache; medium = g.D.Device.medium c.seek_runs.new.device } in
    let is : c.args.runs.now ≡ c.in-Some.run'.now ∷ c.in-Some.older.now = c.in-Some.ensures.cases.0 in
    let p = err_from_is_err_and c.from_residual-in_err-seek_runs.result c.from_residual-in_err-seek_runs.ensures.1 in
    rw (p.1, p.2) (later_go c.args.area c.args.from.now c.in-Some.run'.now c.in-Some.older.now c.args.runs.now is c.args.sources.now.items c.seek_run.new.sources.items c.seek_runs.new.sources.items (Some c.in_err-seek_runs.field-0.0) a b d c.in_ok-seek_run.ensures.gathers c.in_err-seek_runs.ensures.gathers)

pub returns-clause-gathers : goal.returns-clause-gathers
returns-clause-gathers g t c =
    let a : Source = record { cache = c.args.cache.now; medium = g.D.Device.medium c.args.device.now } in
    let b : Source = record { cache = c.seek_run.new.cache; medium = g.D.Device.medium c.seek_run.new.device } in
    let d : Source = record { cache = c.seek_runs.new.cache; medium = g.D.Device.medium c.seek_runs.new.device } in
    let is : c.args.runs.now ≡ c.in-Some.run'.now ∷ c.in-Some.older.now = c.in-Some.ensures.cases.0 in
    later_go c.args.area c.args.from.now c.in-Some.run'.now c.in-Some.older.now c.args.runs.now is c.args.sources.now.items c.seek_run.new.sources.items c.seek_runs.new.sources.items None a b d c.in_ok-seek_run.ensures.gathers c.in_ok-seek_runs.ensures.gathers
