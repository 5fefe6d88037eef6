use Rattle.std.proofs.Common.{ℕ, List, Some, Option, inl, refl, sym, ap, subst, ◌∙◌}
use Rattle.std.specs.Prelude.{option_map}
use Rattle.std.proofs.lemmas.Result.{err_from_is_err_and}
use Rattle.lsm_device.specs.Disk.{seen}
use Rattle.lsm_device.specs.Medium.{disk}
use Rattle.lsm_levels.specs.Tables.{Table, table_at}
use Rattle.lsm_open.specs.ToldTables.{IsRefusedFor, IsNamedBy}
use Rattle.lsm_open.proofs.ToldRuns.{named_by, not_opened, told_with_deletes, told_without_deletes}
use Rattle.lsm_table.specs.Outlines.{Outline, outline_of}
use Rattle.lsm_open.proofs.tables.read_table.Goals as goal

pub returns-in_default-clause-told : goal.returns-in_default-clause-told
returns-in_default-clause-told g c = λ t. inl (refl, told_without_deletes c.args.log_sectors (seen (disk (g.D.Device.medium c.args.device.now))) c.args.listed g.versions c.in_default.is)

pub returns-in_err-open-clause-told : goal.returns-in_err-open-clause-told
returns-in_err-open-clause-told g c = λ t.
    let p = err_from_is_err_and c.from_residual-in_err-open.result c.from_residual-in_err-open.ensures.1 in
    let f : Outline → Table = λ o. table_at o c.args.listed.first_block c.in-Some.deletes g.versions in
    let bytes = ap (λ (b : List ℕ). outline_of c.args.listed c.read_described.new.footer b c.read_described.new.filter) c.deref.ensures.value in
    let told = told_with_deletes c.args.log_sectors (seen (disk (g.D.Device.medium c.args.device.now))) c.args.listed c.in-Some.deletes g.versions c.in-Some.is in
    rw (p.1, p.2) (subst (λ (x : Option Table). IsRefusedFor x c.in_err-open.field-0.0) (sym told)
    (subst (λ (x : Option Outline). IsRefusedFor (option_map f x) c.in_err-open.field-0.0) (bytes ∙ c.in_ok-index.ensures.given t)
    (not_opened (outline_of c.args.listed c.read_described.new.footer c.deref.result.now c.read_described.new.filter) f c.in_err-open.field-0.0 c.in_err-open.ensures.told)))

pub returns-clause-told : goal.returns-clause-told
returns-clause-told g c = λ t.
    let f : Outline → Table = λ o. table_at o c.args.listed.first_block c.in-Some.deletes g.versions in
    let bytes = ap (λ (b : List ℕ). outline_of c.args.listed c.read_described.new.footer b c.read_described.new.filter) c.deref.ensures.value in
    told_with_deletes c.args.log_sectors (seen (disk (g.D.Device.medium c.args.device.now))) c.args.listed c.in-Some.deletes g.versions c.in-Some.is
    ∙ ap (option_map f) (sym (bytes ∙ c.in_ok-index.ensures.given t) ∙ c.in_ok-open.ensures.told) ∙ ap (λ (x : Table). Some x) (sym c.in_ok-open.ensures.opened)

pub returns-clause-named : goal.returns-clause-named
returns-clause-named g c =
    let o : Outline = c.in_ok-open.field-0.outline in
    subst (λ (x : Table). IsNamedBy c.args.listed x) (sym c.in_ok-open.ensures.opened)
    (named_by c.args.listed o c.in-Some.deletes g.versions c.in-Some.is ((c.outline_law.ensures.exact c.args.listed c.read_described.new.footer c.deref.result.now c.read_described.new.filter o).0 c.in_ok-open.ensures.told).1.by_record)
