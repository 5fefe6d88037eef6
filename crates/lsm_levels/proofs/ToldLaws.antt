-- What the steps of a look-up say.
use Rattle.std.proofs.Common.{◌≡◌, ℕ, List, [], ◌∷◌, ◌++◌, Some, None, Result, Ok, Err, refl, ap, sym}
use Rattle.lsm_device.specs.declared.refusal.Refusal.{Refusal}
use Rattle.lsm_codec.specs.Keys.{Bytes}
use Rattle.lsm_codec.specs.Versions.{Version}
use Rattle.lsm_levels.specs.Tables.{Table}
use Rattle.lsm_levels.specs.Asking.{Source, said}
use Rattle.lsm_levels.specs.Cursors.{first_refusal}
use Rattle.lsm_levels.specs.Lookups.{LooksUp}
use Rattle.lsm_levels.proofs.LookingUp.{Outcome, looks_append}

-- bytes that are no entry and come first are what entries say
pub said_refused : (key : Bytes) (n : ℕ) (items : List (Result Version Refusal)) (e : Refusal) → Some e ≡ first_refusal items → said key n items ≡ Err e
said_refused key n [] e is = absurd cc
said_refused key n (Ok v ∷ rest) e is = absurd cc
said_refused key n (Err x ∷ rest) e is = let same : e ≡ x = cc in ap (λ (r : Refusal). Err r) (sym same)

-- ---- newer runs, then older ones

module _ (area : ℕ) (key : Bytes) (n : ℕ) (newer older : List (List Table)) where
  -- the newer ones end a look-up by a refusal
  pub newer_refused : (e : Refusal) (old new : Source) → LooksUp area key n newer (Err e) old new → LooksUp area key n (newer ++ older) (Err e) old new
  newer_refused e old new looks = looks_append area key n newer older (Err e) (Err e) old new new looks (refl, refl)

  -- or by a version
  pub newer_told : (v : Version) (old new : Source) → LooksUp area key n newer (Ok (Some v)) old new → LooksUp area key n (newer ++ older) (Ok (Some v)) old new
  newer_told v old new looks = looks_append area key n newer older (Ok (Some v)) (Ok (Some v)) old new new looks (refl, refl)

  -- or the older ones are looked through too
  pub older_told : (found : Outcome) (old mid new : Source) → LooksUp area key n newer (Ok None) old mid → LooksUp area key n older found mid new → LooksUp area key n (newer ++ older) found old new
  older_told found old mid new looks later = looks_append area key n newer older (Ok None) found old mid new looks later
