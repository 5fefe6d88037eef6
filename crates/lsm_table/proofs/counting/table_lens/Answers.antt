use Rattle.std.proofs.Common.{◌≡◌, ◌-◌, [], ℕ, List, length, take, drop, subst, arith}
use Rattle.std.proofs.lemmas.List.{take_all, drop_all, append-nil, length-drop}
use Rattle.lsm_codec.specs.Versions.{Version}
use Rattle.lsm_table.specs.Counting.{EndsTable, EndTables}
use Rattle.lsm_table.proofs.Tables.{rest_input, lens_more}
use Rattle.lsm_table.proofs.counting.table_lens.Goals as goal

-- a slice to the end
to_end : (entries : List Version) (from : ℕ) → take (length entries - from) (drop from entries) ≡ drop from entries
to_end entries from = take_all (length entries - from) (drop from entries) (omega (arith, length-drop from entries))

pub table_len-len-requires-clause-input : goal.table_len-len-requires-clause-input
table_len-len-requires-clause-input g c =
    let es = c.args.entries.now in
    rest_input es _ c.loop-from.from (to_end es c.loop-from.from) c.requires

pub loop-from-preserved : goal.loop-from-preserved
loop-from-preserved g c =
    let es = c.args.entries.now in
    let from = c.loop-from.from in
    let n = c.table_len-len.result in
    let ends : EndsTable (drop from es) n = subst (λ (xs : List Version). EndsTable xs n) (to_end es from) c.table_len-len.ensures in
    record {
      within = omega (arith, ends.inside, length-drop from es, c.loop-from-test.true);
      so_far = lens_more es c.loop-from.lens.items c.push.new.self.items from n c.in_ok-push.ensures.items ends c.loop-from.invariant.so_far;
    }

pub returns : goal.returns
returns g c =
    let es = c.args.entries.now in
    let none : drop c.loop-from.from es ≡ [] = drop_all c.loop-from.from es (omega (arith, c.loop-from-test.false)) in
    subst (EndTables es) (append-nil c.loop-from.lens.items) (c.loop-from.invariant.so_far [] none)
