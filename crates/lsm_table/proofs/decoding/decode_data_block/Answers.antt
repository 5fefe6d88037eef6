use Rattle.std.proofs.Common.{◌≡◌, List, [], ◌∷◌, ◌++◌, Ok, Err, inr, Result, sym, ap, subst, ◌∙◌}
use Rattle.std.proofs.lemmas.List.{append-nil}
use Rattle.std.proofs.lemmas.Result.{err_from_is_err_and}
use Rattle.std.specs.List.{AllByRecursion}
use Rattle.lsm_device.specs.declared.refusal.Refusal.{Refusal}
use Rattle.lsm_codec.specs.declared.version.VersionRef.{VersionRef}
use Rattle.lsm_codec.specs.References.{shown}
use Rattle.lsm_codec.specs.Versions.{Version}
use Rattle.lsm_codec.specs.Entries.{entries_in}
use Rattle.lsm_table.specs.Items.{shown_item}
use Rattle.lsm_table.proofs.Items.{Item, IsItem, items_of, block_items, one_more, not_all_entries}
use Rattle.lsm_table.proofs.decoding.decode_data_block.Goals as goal

pub loop-item-init : goal.loop-item-init
loop-item-init g c =
    let items = entries_in c.args.block.now in
    let e : c.into_iter-item-iterator.result ≡ items = cc in
    let none : c.in_ok-gathered.gathered ≡ [] = c.in_ok-gathered.ensures in
    record {
      can = tt;
      finite = tt;
      items = subst (λ (l : List Item). AllByRecursion IsItem l) (sym e) (block_items c.args.block.now (record { fit = c.fits-block }));
      read = sym (ap (λ (l : List Version). items_of l ++ c.into_iter-item-iterator.result) none ∙ e);
    }

pub returns-in_err-version-clause-refused : goal.returns-in_err-version-clause-refused
returns-in_err-version-clause-refused g c =
    let k = c.loop-item.invariant in
    let e = c.in_err-version.field-0.0 in
    let rest = c.next.new.self in
    let step : c.loop-item.item-iterator ≡ Err e ∷ rest = c.in-Some.ensures.steps ∙ ap (λ (i : Result VersionRef Refusal). shown_item i ∷ rest) c.in_err-version.was in
    let items : AllByRecursion IsItem (Err e ∷ rest) = subst (λ (l : List Item). AllByRecursion IsItem l) step k.items in
    let read : entries_in c.args.block.now ≡ items_of c.loop-item.gathered ++ Err e ∷ rest = k.read ∙ ap (λ (l : List Item). items_of c.loop-item.gathered ++ l) step in
    let p = err_from_is_err_and c.from_residual-in_err-version.result c.from_residual-in_err-version.ensures.1 in
    rw (p.1, p.2) (inr (items.0, λ all is. not_all_entries c.loop-item.gathered e rest all (sym read ∙ is)))

pub loop-item-preserved : goal.loop-item-preserved
loop-item-preserved g c =
    let k = c.loop-item.invariant in
    let entries = c.loop-item.gathered in
    let v = shown c.in_ok-version.version in
    let rest = c.next.new.self in
    let step : c.loop-item.item-iterator ≡ Ok v ∷ rest = c.in-Some.ensures.steps ∙ ap (λ (i : Result VersionRef Refusal). shown_item i ∷ rest) c.in_ok-version.was in
    let items : AllByRecursion IsItem (Ok v ∷ rest) = subst (λ (l : List Item). AllByRecursion IsItem l) step k.items in
    record {
      can = tt;
      finite = tt;
      items = items.1;
      read = k.read ∙ ap (λ (l : List Item). items_of entries ++ l) step ∙ one_more entries v rest ∙ ap (λ (l : List Version). items_of l ++ rest) (sym c.in_ok-push.ensures);
    }

pub returns-clause-spelled : goal.returns-clause-spelled
returns-clause-spelled g c =
    let none : c.loop-item.item-iterator ≡ [] = c.in-None.ensures.steps.0 in
    c.loop-item.invariant.read ∙ ap (λ (l : List Item). items_of c.loop-item.gathered ++ l) none ∙ append-nil (items_of c.loop-item.gathered) ∙ ap items_of (sym c.in_ok-into_entries.ensures)
