use Rattle.std.proofs.Common.{◌≡◌, Result, Ok, Err, [], ◌∷◌, length, sym, ap, ◌∙◌, arith}
use Rattle.std.specs.Prelude.{option_map}
use Rattle.lsm_codec.specs.Entries.{entries_in}
use Rattle.lsm_codec.specs.References.{shown}
use Rattle.lsm_codec.specs.declared.version.VersionRef.{VersionRef}
use Rattle.lsm_device.specs.declared.refusal.Refusal.{Refusal}
use Rattle.lsm_open.specs.Counting.{counted_more}
use Rattle.lsm_open.proofs.CountedReads.{Items, with_items, block_is, items_few, item_counted, items_end}
use Rattle.lsm_table.specs.Items.{shown_item}
use Rattle.lsm_open.proofs.counting.with_block.Goals as goal

pub loop-item-init : goal.loop-item-init
loop-item-init c =
    let bytes = c.args.block.now in
    let e : c.into_iter-item-iterator.result ≡ entries_in bytes = cc in
    record {
      can = tt;
      finite = tt;
      read = ap (with_items c.args.count) e;
      few = omega (arith, ap (λ (l : Items). length l) e, items_few bytes (record { fit = c.fits-block }) c.told-block);
      among = c.requires.among;
    }

pub loop-item-preserved : goal.loop-item-preserved
loop-item-preserved c =
    let k = c.loop-item.invariant in
    let v = shown c.in-Ok.version in
    let rest = c.next.new.self in
    let before = c.loop-item.more in
    let after = c.with_entry-more.result in
    let step : c.loop-item.item-iterator ≡ Ok v ∷ rest = c.in-Some.ensures.steps ∙ ap (λ (i : Result VersionRef Refusal). shown_item i ∷ rest) c.in-Ok.is in
    record {
      can = tt;
      finite = tt;
      read = sym (item_counted before after v rest c.with_entry-more.ensures.entries c.with_entry-more.ensures.deletes) ∙ sym (ap (with_items before) step) ∙ k.read;
      few = omega (arith, k.few, c.with_entry-more.ensures.entries, ap (λ (l : Items). length l) step);
      among = c.with_entry-more.ensures.still_among;
    }

pub returns-in_default-clause-counted : goal.returns-in_default-clause-counted
returns-in_default-clause-counted c =
    let k = c.loop-item.invariant in
    let bytes = c.args.block.now in
    let rest = c.next.new.self in
    let before = c.loop-item.more in
    let step : c.loop-item.item-iterator ≡ Err c.in_default.field-0 ∷ rest = c.in-Some.ensures.steps ∙ ap (λ (i : Result VersionRef Refusal). shown_item i ∷ rest) c.in_default.is in
    sym (ap (with_items before) step) ∙ k.read ∙ sym (ap (option_map (counted_more c.args.count)) (block_is bytes (record { fit = c.fits-block }) c.told-block))

pub returns-clause-counted : goal.returns-clause-counted
returns-clause-counted c =
    let k = c.loop-item.invariant in
    let bytes = c.args.block.now in
    let more = c.loop-item.more in
    let none : c.loop-item.item-iterator ≡ [] = c.in-None.ensures.steps.0 in
    sym (items_end more) ∙ sym (ap (with_items more) none) ∙ k.read ∙ sym (ap (option_map (counted_more c.args.count)) (block_is bytes (record { fit = c.fits-block }) c.told-block))
