use Rattle.std.proofs.Common.{Some, sym, arith, refl, ap, ◌∙◌}
use Rattle.lsm_codec.specs.Keys.{IsBytes}
use Rattle.lsm_codec.proofs.IndexLaws.{index_of_exact, rest_shorter, used_within, whole, not_whole, unread}
use Rattle.lsm_codec.proofs.index.Index.decode.Goals as goal

pub overflow_sub-text_len : goal.overflow_sub-text_len
overflow_sub-text_len g c =
    let bytes : IsBytes c.args.blocks.now = record { fit = λ i. omega (arith, c.type_inv.blocks i) } in
    let read = rw c.in-Some.is at c.in_ok-edges.ensures in
    rest_shorter c.args.count c.args.blocks.now bytes c.in-Some.edges.items c.in-Some.rest.now (sym read)

pub returns-then-is_padding-clause-answer : goal.returns-then-is_padding-clause-answer
returns-then-is_padding-clause-answer g c =
    let bytes : IsBytes c.args.blocks.now = record { fit = λ i. omega (arith, c.type_inv.blocks i) } in
    let read = rw c.in-Some.is at c.in_ok-edges.ensures in
    ap Some c.note_heads-past.ensures ∙ whole c.args.count c.args.blocks.now bytes c.in-Some.edges.items c.in-Some.rest.now (sym read) (c.if-is_padding.ensures.0 refl)

pub returns-then-is_padding-clause-exact : goal.returns-then-is_padding-clause-exact
returns-then-is_padding-clause-exact g c = index_of_exact c.args.count c.args.blocks.now

pub returns-in-Some-clause-answer : goal.returns-in-Some-clause-answer
returns-in-Some-clause-answer g c =
    let bytes : IsBytes c.args.blocks.now = record { fit = λ i. omega (arith, c.type_inv.blocks i) } in
    let read = rw c.in-Some.is at c.in_ok-edges.ensures in
    not_whole c.args.count c.args.blocks.now bytes c.in-Some.edges.items c.in-Some.rest.now (sym read) (λ h. absurd (cc (c.if-is_padding.ensures.1 h)))

pub returns-in-Some-clause-exact : goal.returns-in-Some-clause-exact
returns-in-Some-clause-exact g c = index_of_exact c.args.count c.args.blocks.now

pub returns-clause-answer : goal.returns-clause-answer
returns-clause-answer g c =
    let bytes : IsBytes c.args.blocks.now = record { fit = λ i. omega (arith, c.type_inv.blocks i) } in
    let none = rw c.in-None.is at c.in_ok-edges.ensures in
    unread c.args.count c.args.blocks.now bytes (sym none)

pub returns-clause-exact : goal.returns-clause-exact
returns-clause-exact g c = index_of_exact c.args.count c.args.blocks.now

pub returns-in_err-edges-clause-exact : goal.returns-in_err-edges-clause-exact
returns-in_err-edges-clause-exact g c = index_of_exact c.args.count c.args.blocks.now

pub invariant_of-result : goal.invariant_of-result
invariant_of-result g c =
    let bytes : IsBytes c.args.blocks.now = record { fit = λ i. omega (arith, c.type_inv.blocks i) } in
    let read = rw c.in-Some.is at c.in_ok-edges.ensures in
    rw c.note_heads-past.ensures (used_within c.args.count c.args.blocks.now bytes c.in-Some.edges.items c.in-Some.rest.now (sym read))
