use Rattle.std.proofs.Common.{◌≡◌, ◌+◌, ◌-◌, ◌<◌, ◌∙◌, ℕ, Bool, true, false, List, length, get_or, sym, subst, arith}
use Rattle.lsm_codec.specs.Keys.{Bytes}
use Rattle.lsm_codec.specs.Versions.{Version, is_same_key}
use Rattle.lsm_table.specs.Division.{IsInput}
use Rattle.lsm_table.specs.Counting.{IsKeyStart}
use Rattle.lsm_table.proofs.Ends.{starts_before, starts_here, compared}
use Rattle.lsm_table.proofs.counting.key_start.Goals as goal

before : (es : List Version) (begun i j : ℕ) (a b : Version) (key next : Bytes) (r : Bool) → i ≡ j + 1 → i < length es → IsKeyStart es begun i → a ≡ get_or es j a → b ≡ get_or es i b → key ≡ a.key → next ≡ b.key → r ≡ is_same_key key next → r ≡ true → IsKeyStart es begun (i + 1)
before es begun i j a b key next r step lt start is_a is_b is_key is_next same is_true =
    subst (λ (k : ℕ). IsKeyStart es begun (k + 1)) (sym step)
    (starts_before es begun j b (omega arith) (subst (λ (k : ℕ). IsKeyStart es begun k) step start) (compared es j a b key next r (omega arith) is_a (subst (λ (k : ℕ). b ≡ get_or es k b) step is_b) is_key is_next same ∙ is_true))

here : (es : List Version) (i j : ℕ) (a b : Version) (key next : Bytes) (r : Bool) → i ≡ j + 1 → i < length es → IsInput es → a ≡ get_or es j a → b ≡ get_or es i b → key ≡ a.key → next ≡ b.key → r ≡ is_same_key key next → r ≡ false → IsKeyStart es i (i + 1)
here es i j a b key next r step lt input is_a is_b is_key is_next same is_false =
    subst (λ (k : ℕ). IsKeyStart es k (k + 1)) (sym step)
    (starts_here es j b input.ordered (omega arith) (compared es j a b key next r (omega arith) is_a (subst (λ (k : ℕ). b ≡ get_or es k b) step is_b) is_key is_next same ∙ is_false))

pub returns-then-is_same_key : goal.returns-then-is_same_key
returns-then-is_same_key g c =
    before c.args.entries.now c.args.begun c.args.i (c.args.i - 1) c.index-entries-i.result c.index-entries-i-2.result c.key.result.now c.key-2.result.now c.is_same_key.result (omega (arith, c.if-i-eq0.false)) c.requires.inside c.requires.before c.index-entries-i.is c.index-entries-i-2.is c.key.ensures.same c.key-2.ensures.same c.is_same_key.ensures c.if-is_same_key.true

pub returns : goal.returns
returns g c =
    here c.args.entries.now c.args.i (c.args.i - 1) c.index-entries-i.result c.index-entries-i-2.result c.key.result.now c.key-2.result.now c.is_same_key.result (omega (arith, c.if-i-eq0.false)) c.requires.inside c.requires.ordered c.index-entries-i.is c.index-entries-i-2.is c.key.ensures.same c.key-2.ensures.same c.is_same_key.ensures c.if-is_same_key.false
