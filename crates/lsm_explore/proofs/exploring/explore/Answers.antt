use Rattle.std.proofs.Common.{All, map, sym, subst, ◌∙◌, arith, rules}
use Rattle.lsm_device.specs.Disk.{IsSector}
use Rattle.lsm_root.specs.CrashState.{formatted as empty_store}
use Rattle.lsm_open.specs.Image.{StandFor}
use Rattle.lsm_lives.specs.Calls.{asked_of}
use Rattle.lsm_explore.specs.Exploring.{IsExploredFrom, Sectors}
use Rattle.lsm_explore.proofs.exploring.explore.Goals as goal

pub explore_from-requires : goal.explore_from-requires
explore_from-requires g c = (
  search rules,
  (
    search rules,
    (
      search rules,
      (
        search rules,
        (
          (c.args.log_sectors, subst (StandFor c.args.log_sectors empty_store) (sym (c.of-start.ensures ∙ c.deref.ensures.value)) c.in_ok-made.ensures.formatted),
          omega (arith, c.if-steps-gt-MOST_STEPS.false),
        ),
      ),
    ),
  ),
)

pub of-start-requires-clause-whole : goal.of-start-requires-clause-whole
of-start-requires-clause-whole g c = subst (All IsSector) (sym c.deref.ensures.value) c.in_ok-made.ensures.whole

pub returns-clause-explored : goal.returns-clause-explored
returns-clause-explored g c = record {
  sectors = c.in_ok-made.made.items;
  sized = c.in_ok-made.ensures.size;
  formatted = c.in_ok-made.ensures.formatted;
  lives = subst (λ (sectors : Sectors). IsExploredFrom sectors (map asked_of c.args.steps.now) c.args.twice c.in_ok-explored.explored) (c.of-start.ensures ∙ c.deref.ensures.value) c.in_ok-explored.ensures.lives;
}
