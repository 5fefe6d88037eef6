use Rattle.std.proofs.Common.{sym, ◌∙◌}
use Rattle.std.specs.List.{list_all}
use Rattle.std.proofs.lemmas.Bool.{MatchBool-at_true}
use Rattle.lsm_filter.specs.Bits.{is_perhaps}
use Rattle.lsm_levels.specs.Orders.{IsNewerPlace}
use Rattle.lsm_table.specs.Outlines.{Outline}
use Rattle.lsm_check.proofs.SoundTables.{tested_same}
use Rattle.lsm_check.proofs.table.test.Goals as goal

pub returns-clause-fits : goal.returns-clause-fits
returns-clause-fits g c versions seen =
    let o = c.args.table.now.outline in
    let entries = c.args.entries.now in
    let older : Type 0 = IsNewerPlace versions entries in
    record {
      told = sym c.tells_entries.ensures.told ∙ c.if-not-tells_entries.false;
      ordered = c.are_ordered.ensures.0 c.if-not-are_ordered.false;
      keys = tested_same (λ (p : Outline). list_all (λ v. is_perhaps p.filter v.key) entries) o c.table.result.now c.has_keys.result c.table.ensures.same c.has_keys.ensures c.if-not-has_keys.false;
      numbered = sym c.are_numbered.ensures ∙ c.if-not-are_numbered.false;
      older = MatchBool-at_true older (older → ⊥) c.if-not-are_older.false (c.are_older.ensures versions seen);
    }

pub returns-clause-few : goal.returns-clause-few
returns-clause-few g c = c.tells_entries.ensures.few c.if-not-tells_entries.false
