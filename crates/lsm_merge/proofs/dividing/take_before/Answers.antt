use Rattle.std.proofs.Common.{◌∙◌, length, ap, refl, arith, length-append}
use Rattle.lsm_merge.specs.Divisions.{before, from}
use Rattle.lsm_merge.proofs.DivisionLaws.{sides, at_key}
use Rattle.lsm_merge.proofs.dividing.take_before.Goals as goal

pub split_off-requires : goal.split_off-requires
split_off-requires g c =
    let key = c.args.key.now in
    let entries = c.args.entries.now.items in
    let is = c.entries_until-end.ensures ∙ ap (before key) c.deref.ensures.value in
    omega (arith, c.args.entries.now.ok.0, ap length is, ap length (sides key entries c.requires), length-append (before key entries) (from key entries))

pub returns-clause-taken : goal.returns-clause-taken
returns-clause-taken g c =
    let key = c.args.key.now in
    let entries = c.args.entries.now.items in
    let is = c.entries_until-end.ensures ∙ ap (before key) c.deref.ensures.value in
    rw c.replace.ensures.value (c.in_ok-rest.ensures.items ∙ (at_key (length c.entries_until-end.result.now) key entries c.entries_until-end.result.now c.requires is refl).0)

pub returns-clause-left : goal.returns-clause-left
returns-clause-left g c =
    let key = c.args.key.now in
    let entries = c.args.entries.now.items in
    let is = c.entries_until-end.ensures ∙ ap (before key) c.deref.ensures.value in
    rw c.replace.ensures.after (c.in_ok-rest.ensures.tail ∙ (at_key (length c.entries_until-end.result.now) key entries c.entries_until-end.result.now c.requires is refl).1)
