use Rattle.std.proofs.Common.{◌≡◌, ◌+◌, ◌*◌, ◌++◌, ℕ, Bool, true, Some, None, IsTrue, List, get_or, sym, ap, subst, ◌∙◌}
use Rattle.std.specs.Prelude.{◌&&◌}
use Rattle.std.proofs.lemmas.Bool.{and_parts}
use Rattle.std.proofs.lemmas.Result.{err_from_is_err_and}
use Rattle.lsm_cache.specs.Reads.{block_at}
use Rattle.lsm_codec.specs.Entries.{block_of}
use Rattle.lsm_codec.specs.Indexes.{Edge}
use Rattle.lsm_codec.specs.Versions.{Version}
use Rattle.lsm_device.specs.Disk.{seen}
use Rattle.lsm_device.specs.Medium.{disk}
use Rattle.lsm_device.specs.Refusals.{faultless}
use Rattle.lsm_device.specs.declared.refusal.Refusal.{Refusal}
use Rattle.lsm_device.specs.declared.refusal.Refusal.TheVariants.{BadTable}
use Rattle.lsm_levels.specs.Asking.{sector_of}
use Rattle.lsm_open.specs.ReadParts.{ReadsAtMost}
use Rattle.lsm_table.specs.Outlines.{Outline}
use Rattle.lsm_check.specs.Sound.{AreRead, ends_with}
use Rattle.lsm_check.proofs.Refusing.{only_short, block_refused}
use Rattle.lsm_check.proofs.TableEntries.{some_stored, ends_stored, block_more}
use Rattle.lsm_check.proofs.entries.add_block.Goals as goal

pub returns-in_err-block-clause-fair : goal.returns-in_err-block-clause-fair
returns-in_err-block-clause-fair g c = λ t stored.
    let D = g.D.Device in
    let table = c.args.table.now in
    let place = c.args.place in
    let S = seen (disk (D.medium c.args.device.now)) in
    let at : c.args.area + 8 * (c.first_block.result + place) ≡ sector_of c.args.area table place = ap (λ (m : ℕ). c.args.area + 8 * (m + place)) c.first_block.ensures in
    let p = err_from_is_err_and c.from_residual.result c.from_residual.ensures.1 in
    let e : Refusal = c.in_err-block.field-0.0 in
    let tells : Type 0 = IsTrue (D.medium c.args.device.now).lasting.tells in
    let none : Type 0 = block_of (block_at S (c.args.area + 8 * (c.first_block.result + place))) ≡ None in
    rw (p.1, p.2) (only_short e ((e ≡ BadTable) × (tells → none))
    (λ bad. some_stored S c.args.area place table c.requires.place stored (ap (λ (k : ℕ). block_of (block_at S k)) (sym at) ∙ bad.1 t)) c.in_err-block.ensures.refused)

pub returns-in_err-block-clause-device : goal.returns-in_err-block-clause-device
returns-in_err-block-clause-device g c =
    let D = g.D.Device in
    let p = err_from_is_err_and c.from_residual.result c.from_residual.ensures.1 in
    rw (p.1, p.2) (subst (λ (ok : Bool). ReadsAtMost 8 ok (D.medium c.args.device.now) (D.medium c.read_entries.new.device)) (ap faultless c.in_err-block.was) c.read_entries.ensures.device)

pub returns-clause-stored : goal.returns-clause-stored
returns-clause-stored g c = λ t stored before.
    let D = g.D.Device in
    let table = c.args.table.now in
    let place = c.args.place in
    let S = seen (disk (D.medium c.args.device.now)) in
    let block : List Version = c.in_ok-block.block.items in
    let edge : Edge = c.index-edges-place.result in
    let at : c.args.area + 8 * (c.first_block.result + place) ≡ sector_of c.args.area table place = ap (λ (m : ℕ). c.args.area + 8 * (m + place)) c.first_block.ensures in
    let edges : c.edges-edges.result.now ≡ table.outline.edges = c.edges-edges.ensures ∙ ap (λ (o : Outline). o.edges) c.table.ensures.same in
    let is : edge ≡ get_or table.outline.edges place edge = c.index-edges-place.is ∙ ap (λ (es : List Edge). get_or es place edge) edges in
    let spelled : block_of (block_at S (sector_of c.args.area table place)) ≡ Some block = ap (λ (k : ℕ). block_of (block_at S k)) (sym at) ∙ c.in_ok-block.ensures.spelled t in
    let ends : ends_with block edge ≡ true = ends_stored S c.args.area place table c.requires.place edge block is stored spelled in
    let found : c.ends_with-ends.result ≡ ends_with block edge = c.ends_with-ends.ensures ∙ ap (λ (b : List Version). ends_with b edge) c.deref.ensures.value in
    ap (λ (b : Bool). b && c.ends_with-ends.result) before ∙ found ∙ ends

pub returns-clause-read : goal.returns-clause-read
returns-clause-read g c = λ t both before.
    let D = g.D.Device in
    let table = c.args.table.now in
    let place = c.args.place in
    let S = seen (disk (D.medium c.args.device.now)) in
    let block : List Version = c.in_ok-block.block.items in
    let edge : Edge = c.index-edges-place.result in
    let at : c.args.area + 8 * (c.first_block.result + place) ≡ sector_of c.args.area table place = ap (λ (m : ℕ). c.args.area + 8 * (m + place)) c.first_block.ensures in
    let edges : c.edges-edges.result.now ≡ table.outline.edges = c.edges-edges.ensures ∙ ap (λ (o : Outline). o.edges) c.table.ensures.same in
    let is : edge ≡ get_or table.outline.edges place edge = c.index-edges-place.is ∙ ap (λ (es : List Edge). get_or es place edge) edges in
    let spelled : block_of (block_at S (sector_of c.args.area table place)) ≡ Some block = ap (λ (k : ℕ). block_of (block_at S k)) (sym at) ∙ c.in_ok-block.ensures.spelled t in
    let parts = and_parts c.args.before c.ends_with-ends.result both in
    let ends : ends_with block edge ≡ true = sym (c.ends_with-ends.ensures ∙ ap (λ (b : List Version). ends_with b edge) c.deref.ensures.value) ∙ parts.1 in
    let more : c.append.new.self.items ≡ c.args.entries.now.items ++ block = c.in_ok-append.ensures.items in
    subst (λ (l : List Version). AreRead S c.args.area (place + 1) table l) (sym more) (block_more S c.args.area place table c.requires.place edge block c.args.entries.now.items is spelled ends (before parts.0))

pub returns-in_err-block-clause-refused : goal.returns-in_err-block-clause-refused
returns-in_err-block-clause-refused g c =
    let p = err_from_is_err_and c.from_residual.result c.from_residual.ensures.1 in
    rw (p.1, p.2) (block_refused c.in_err-block.field-0.0 _ c.in_err-block.ensures.refused)
