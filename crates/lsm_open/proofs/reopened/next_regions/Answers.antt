use Rattle.std.proofs.Common.{◌≡◌, ◌+◌, ℕ, ap, refl, subst, ◌∙◌}
use Rattle.lsm_open.specs.Reopening.{least_free, IsNewIfOpen}
use Rattle.lsm_open.proofs.reopened.next_regions.Goals as goal

pub returns-clause-layout : goal.returns-clause-layout
returns-clause-layout g c =
    let more : c.generation-generation.result + 1 ≡ c.args.loaded.now.manifest.generation + 1 = ap (λ (k : ℕ). k + 1) c.generation-generation.ensures in
    record {
      log_size = refl;
      generation = more;
      base = c.base.ensures;
      next_table = c.next_table.ensures;
      least = c.open_least_free-open_region.ensures.least ∙ ap least_free c.deref.ensures.value;
      new_log = subst (λ (e : ℕ). IsNewIfOpen c.args.loaded.now.log_sectors e c.args.count c.open_least_free-open_region.result) more c.open_least_free-open_region.ensures.new_log;
    }
