use Rattle.std.proofs.Common.{◌≡◌, ℕ, nat_lt, Some, is_some, sym, ap, ◌∙◌, arith}
use Rattle.lsm_codec.specs.Keys.{IsBytes}
use Rattle.lsm_codec.proofs.BatchLaws.{too_long}
use Rattle.lsm_codec.proofs.Spelled.{decided, none_counted, none_count}
use Rattle.lsm_codec.proofs.batch_text.is_batch_text.Goals as goal

pub returns-then-text-gt-MAX_TEXT : goal.returns-then-text-gt-MAX_TEXT
returns-then-text-gt-MAX_TEXT c = ap is_some (sym (too_long c.args.text.now c.if-text-gt-MAX_TEXT.true))

pub returns-then-count-gt0 : goal.returns-then-count-gt0
returns-then-count-gt0 c =
    let bytes : IsBytes c.args.text.now = record { fit = λ i. omega (arith, c.type_inv.text i) } in
    c.are_changes.ensures ∙ decided c.args.text.now c.in-Some.rest.now c.in-Some.count (sym c.in-Some.ensures) bytes c.if-text-gt-MAX_TEXT.false c.if-count-gt0.true

pub returns-else-count-gt0 : goal.returns-else-count-gt0
returns-else-count-gt0 c =
    let zero : c.in-Some.count ≡ 0 = omega (arith, c.if-count-gt0.false) in
    let none = none_counted c.args.text.now c.in-Some.rest.now (sym c.in-Some.ensures ∙ ap (λ (n : ℕ). Some (n, c.in-Some.rest.now)) zero) in
    ap (λ (n : ℕ). nat_lt 0 n) zero ∙ ap is_some (sym none)

pub returns-in-None : goal.returns-in-None
returns-in-None c =
    ap is_some (sym (none_count c.args.text.now (sym c.in-None.ensures)))
