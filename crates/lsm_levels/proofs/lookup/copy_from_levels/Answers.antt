use Rattle.std.proofs.Common.{Err, Ok, refl, subst}
use Rattle.std.specs.Prelude.{Option}
use Rattle.std.proofs.lemmas.Result.{err_from_is_err_and}
use Rattle.lsm_codec.specs.Keys.{Bytes}
use Rattle.lsm_levels.specs.Founds.{spanned_in}
use Rattle.lsm_levels.specs.Lookups.{Copies, answer_of}
use Rattle.lsm_levels.proofs.lookup.copy_from_levels.Goals as goal

pub returns-in_err-found : goal.returns-in_err-found
returns-in_err-found g c =
    let p = err_from_is_err_and c.from_residual.result c.from_residual.ensures.1 in
    rw (p.1, p.2) (record { found = Err c.in_err-found.field-0.0; looks = c.in_err-found.ensures; copies = refl })

pub returns : goal.returns
returns g c = record {
  found = spanned_in c.find_in_levels.new.bytes (Ok c.in_ok-found.found);
  looks = c.in_ok-found.ensures;
  copies = subst (λ (v : Option Bytes). Copies v (answer_of c.copied.result)) (rw c.as_array.ensures at c.value_at.ensures) c.copied.ensures;
}
