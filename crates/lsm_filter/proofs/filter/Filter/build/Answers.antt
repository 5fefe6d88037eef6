use Rattle.std.proofs.Common.{◌∙◌, sym, ap, arith, List, ℕ, Bor, [], get_or}
use Rattle.std.specs.Prelude.{replicate}
use Rattle.lsm_filter.specs.Bits.{with_key}
use Rattle.lsm_filter.proofs.Setting.{with_next_key, with_all_keys, member_of}
use Rattle.lsm_filter.proofs.filter.Filter.build.Goals as goal

pub loop-key-preserved : goal.loop-key-preserved
loop-key-preserved g c =
    let none : Bor (List ℕ) = record { ref_ptr = (0, 0); now = [] } in
    c.insert.ensures
    ∙ ap (λ (bytes : List ℕ). with_key bytes (get_or c.args.keys.now c.loop-key.key-index none).now) c.loop-key.invariant
    ∙ sym (with_next_key (λ (key : Bor (List ℕ)). key.now) (replicate 4096 0) c.args.keys.now c.loop-key.key-index none c.loop-key-test.true)

pub returns-clause-bytes : goal.returns-clause-bytes
returns-clause-bytes g c = c.loop-key.invariant ∙ with_all_keys (λ (key : Bor (List ℕ)). key.now) (replicate 4096 0) c.args.keys.now c.loop-key.key-index (omega (arith, c.loop-key-test.false))

pub returns-clause-members : goal.returns-clause-members
returns-clause-members g c = λ k d within. rw (returns-clause-bytes g c) (member_of (λ (key : Bor (List ℕ)). key.now) c.args.keys.now k d within)
