use Rattle.std.specs.Prelude.{◌+◌, ◌<◌, length, slice_index_or}
use Rattle.std.proofs.Common.{List, sym, ap, subst, take, ◌∙◌, arith}
use Rattle.std.proofs.lemmas.List.{get_or_default, length-set}
use Rattle.lsm_codec.specs.Versions.{Version}
use Rattle.lsm_merge.specs.Inputs.{items_of}
use Rattle.lsm_jobs.proofs.GatheredRuns.{CutTo, one_cut, set_items, vector_at, count_items}
use Rattle.lsm_jobs.proofs.runs.cut_back.Goals as goal

pub loop-i-preserved : goal.loop-i-preserved
loop-i-preserved g c =
    let runs = c.loop-i.runs in
    let i = c.loop-i.i in
    let run = c.index-runs-i.result in
    let lengths = c.args.lengths.now in
    let n = slice_index_or lengths i 0 in
    let old = items_of c.args.runs.now in
    let new = c.truncate.new.self in
    let within : i < length runs = omega (arith, c.loop-i-test.true, c.loop-i.auto.runs, c.requires) in
    record {
      count = length-set runs i new ∙ c.loop-i.invariant.count;
      cut = subst (λ (now : List (List Version)). CutTo lengths old (i + 1) now) (sym (set_items runs i new))
          (one_cut lengths old (items_of runs) i n run.items new.items (omega (arith, within, count_items runs i)) c.loop-i-test.true (get_or_default lengths i 0 n c.loop-i-test.true)
          (vector_at runs i run within c.index-runs-i.is) (c.truncate.ensures.items ∙ ap (λ v. take n v.items) (sym c.index-runs-i.is)) c.loop-i.invariant.cut);
    }
