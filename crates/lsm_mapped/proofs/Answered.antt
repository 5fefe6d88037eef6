-- What is said of an answer that is Ok, and of one that isn't.
use Rattle.std.proofs.Common.{◌≡◌, ◌↔◌, Bool, true, false, Result, Ok, Err, sym, ◌∙◌}
use Rattle.std.specs.Prelude.{OnOk, OnErr, is_ok}

-- what is said where the test is true or false is said of the answer
pub on_ok_by : {T E P : Type 0} (r : Result T E) (ok : Bool) → is_ok r ≡ ok → (ok ≡ true → P) → OnOk r P
on_ok_by (Ok x) ok is then = then (sym is)
on_ok_by (Err e) ok is then = tt

pub on_err_by : {T E P : Type 0} (r : Result T E) (ok : Bool) → is_ok r ≡ ok → (ok ≡ false → P) → OnErr r P
on_err_by (Ok x) ok is then = tt
on_err_by (Err e) ok is then = then (sym is)

-- the answer is Ok where the test says so
pub ok_as : {P : Type 0} (answer ok : Bool) → answer ≡ ok → ((ok ≡ true) ↔ P) → (answer ≡ true) ↔ P
ok_as answer ok is (to, from) = (λ t. to (sym is ∙ t), λ p. is ∙ from p)
