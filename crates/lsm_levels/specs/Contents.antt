-- How the logic stores the versions of a table.
use Rattle.std.specs.Prelude.{ℕ, List, Option, refl}
use Rattle.std.specs.Coded.{Coded, code_by, coded×, coded_ℕ, coded_list, coded_option}
use Rattle.lsm_codec.specs.Versions.{Version}

abbrev VersionParts : Type 0
VersionParts = List ℕ × (ℕ × Option (List ℕ))

abbrev version_code : Coded Version
version_code = code_by VersionParts (coded× (coded_list coded_ℕ) (coded× coded_ℕ (coded_option (coded_list coded_ℕ)))) (λ v. (v.key, (v.number, v.value))) (λ p. record { key = p.0; number = p.1.0; value = p.1.1 }) (λ _. refl)

abbrev pub versions_code : Coded (List Version)
versions_code = coded_list version_code
