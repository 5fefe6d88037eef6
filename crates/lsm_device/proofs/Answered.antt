-- What is said of an answer that is Ok.
use Rattle.std.proofs.Common.{◌≡◌, Bool, true, false, Result, Ok, Err, sym}
use Rattle.std.specs.Prelude.{OnOk, OnErr, is_ok}
use Rattle.std.proofs.lemmas.Bool.{false≢true}

-- it holds anyway
pub on_ok : {T E P : Type 0} (r : Result T E) → P → OnOk r P
on_ok (Ok x) p = p
on_ok (Err e) p = tt

-- it isn't Ok
pub not_ok : {T E : Type 0} (P : Type 0) (r : Result T E) → is_ok r ≡ false → OnOk r P
not_ok P (Ok x) is = absurd (false≢true (sym is))
not_ok P (Err e) is = tt

-- what is said where the test is true or false is said of the answer
pub on_ok_by : {T E P : Type 0} (r : Result T E) (ok : Bool) → is_ok r ≡ ok → (ok ≡ true → P) → OnOk r P
on_ok_by (Ok x) ok is then = then (sym is)
on_ok_by (Err e) ok is then = tt

pub on_err_by : {T E P : Type 0} (r : Result T E) (ok : Bool) → is_ok r ≡ ok → (ok ≡ false → P) → OnErr r P
on_err_by (Ok x) ok is then = tt
on_err_by (Err e) ok is then = then (sym is)
