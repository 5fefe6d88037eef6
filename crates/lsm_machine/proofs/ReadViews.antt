-- What a view of a store's memory and tables is asked.
use Rattle.std.proofs.Common.{◌≡◌, ℕ, List, refl, subst}
use Rattle.std.specs.Prelude.{Result, Ok, Err}
use Rattle.lsm_codec.specs.Versions.{Version}
use Rattle.lsm_device.specs.Refusals.{faultless}
use Rattle.lsm_device.specs.declared.refusal.Refusal.{Refusal}
use Rattle.lsm_levels.specs.Cursors.{is_faultless, refusal_of}
use Rattle.lsm_levels.specs.Levels.{Levels}

-- the parts of a view
pub record Parts : Type 0 where
  pub memory : List Version
  pub sealed : List Version
  pub levels : Levels
  pub area : ℕ

abbrev pub parts : List Version → List Version → Levels → ℕ → Parts
parts memory sealed levels area = record { memory = memory; sealed = sealed; levels = levels; area = area }

-- what holds of some parts holds of the same
pub same_parts : (P : Parts → Type 0) (m n s t : List Version) (l k : Levels) (a b : ℕ) → m ≡ n → s ≡ t → l ≡ k → a ≡ b → P (parts m s l a) → P (parts n t k b)
same_parts P m n s t l k a b mn st lk ab h =
    let same : parts m s l a ≡ parts n t k b = λ i. record { memory = mn i; sealed = st i; levels = lk i; area = ab i } in
    subst P same h

pub same_faults : {T : Type 0} (r : Result T Refusal) → is_faultless (refusal_of r) ≡ faultless r
same_faults (Ok x) = refl
same_faults (Err e) = refl
