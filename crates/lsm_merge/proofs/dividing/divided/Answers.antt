use Rattle.std.proofs.Common.{◌≡◌, ◌+◌, ◌∷◌, [], List, drop, sym, subst}
use Rattle.lsm_codec.specs.Keys.{Bytes}
use Rattle.lsm_codec.specs.Versions.{Version}
use Rattle.lsm_table.specs.Division.{IsTables}
use Rattle.lsm_merge.specs.Divisions.{AreTablesAt}
use Rattle.lsm_merge.proofs.DivisionLaws.{next_key, none_left, one_part_more, early_input, late_input}
use Rattle.lsm_merge.proofs.dividing.divided.Goals as goal

pub images-requires : goal.images-requires
images-requires g c = early_input c.as_slice.result.now c.loop-key.rest.items c.in_ok-front.front.items c.in_ok-front.ensures.taken c.loop-key.invariant.input

pub loop-key-preserved : goal.loop-key-preserved
loop-key-preserved g c =
    let at = c.loop-key in
    let keys = c.args.divisions.now in
    let rest = c.take_before.new.entries.items in
    let front = c.in_ok-images.field-0.items in
    let here : drop at.key-index keys ≡ c.as_slice.result.now ∷ drop (at.key-index + 1) keys = next_key keys at.key-index c.key-item.result c.as_slice.result.now c.loop-key-test.true c.key-item.is c.as_slice.ensures.same in
    record {
      input = late_input c.as_slice.result.now at.rest.items rest c.in_ok-front.ensures.left at.invariant.input;
      goes_on = one_part_more keys c.args.entries.items c.as_slice.result.now (drop (at.key-index + 1) keys) at.rest.items rest at.all.items front c.append.new.self.items c.in_ok-front.ensures.left
          (subst (λ (vs : List Version). IsTables vs front) c.in_ok-front.ensures.taken c.in_ok-images.ensures) c.in_ok-append.ensures.items
          (λ tables are. at.invariant.goes_on tables (subst (λ (ks : List Bytes). AreTablesAt ks at.rest.items tables) (sym here) are));
    }

pub returns : goal.returns
returns g c =
    let at = c.loop-key in
    let keys = c.args.divisions.now in
    let last = c.in_ok-images-2.field-0.items in
    let none : drop at.key-index keys ≡ [] = none_left keys at.key-index c.loop-key-test.false in
    subst (AreTablesAt keys c.args.entries.items) (sym c.in_ok-append-2.ensures.items)
    (at.invariant.goes_on last (subst (λ (ks : List Bytes). AreTablesAt ks at.rest.items last) (sym none) c.in_ok-images-2.ensures))
