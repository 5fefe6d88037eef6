use Rattle.std.proofs.Common.{Err, Ok, refl, ap, ◌∙◌}
use Rattle.std.specs.Prelude.{Option}
use Rattle.std.proofs.lemmas.Result.{err_from_is_err_and}
use Rattle.lsm_codec.specs.Guards.{is_same_value}
use Rattle.lsm_codec.specs.Keys.{Bytes}
use Rattle.lsm_levels.specs.Founds.{spanned_in}
use Rattle.lsm_levels.proofs.lookup.test_in_levels.Goals as goal

pub returns-in_err-found : goal.returns-in_err-found
returns-in_err-found g c =
    let p = err_from_is_err_and c.from_residual.result c.from_residual.ensures.1 in
    rw (p.1, p.2) (record { found = Err c.in_err-found.field-0.0; looks = c.in_err-found.ensures; tells = refl })

pub returns : goal.returns
returns g c = record {
  found = spanned_in c.find_in_levels.new.bytes (Ok c.in_ok-found.found);
  looks = c.in_ok-found.ensures;
  tells = ap (λ b. Ok b) (c.is_met_by.ensures ∙ ap (λ (v : Option Bytes). is_same_value v c.args.guard.now.value) (rw c.as_array.ensures at c.value_at.ensures));
}
