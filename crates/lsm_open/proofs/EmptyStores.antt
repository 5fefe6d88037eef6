-- What a format leaves stands for an empty store.
use Rattle.std.proofs.Common.{◌≡◌, ◌<◌, ℕ, ◌+◌, ◌*◌, Bool, false, List, [], length, drop, get_or, refl, sym, ◌∙◌, ap, subst, arith}
use Rattle.std.proofs.lemmas.List.{length-take, get_or-take, get_or-drop}
use Rattle.std.proofs.lemmas.List.Elements.{All-nil, All-from_get_or}
use Rattle.lsm_codec.specs.Formats.{blank}
use Rattle.lsm_codec.proofs.FormatLaws.{part_laws_hold}
use Rattle.lsm_device.specs.Areas.{area}
use Rattle.lsm_device.specs.Disk.{Disk, Write, written, kept, image}
use Rattle.lsm_device.specs.Outcomes.{Leaves}
use Rattle.lsm_log.specs.Opened.{has_epoch_above, is_above}
use Rattle.lsm_root.specs.CrashState.{formatted}
use Rattle.lsm_open.specs.Formatted.{empty_manifest, IsFormatted}
use Rattle.lsm_open.specs.Image.{StandFor}
use Rattle.lsm_open.specs.Tables.{IsTableAt}

blank_is_old : is_above 1 blank ≡ false
blank_is_old = ap (has_epoch_above 1) part_laws_hold.none

pub formatted_leaves : (log : ℕ) (d : Disk) → IsFormatted log d → Leaves (StandFor log formatted) d
formatted_leaves log d is mask =
    let same : image mask d ≡ d.stands = ap (λ (ws : List Write). written d.stands (kept mask ws)) is.settled ∙ ap (written d.stands) (kept_none mask) in
    subst (StandFor log formatted) (sym same) (record {
      manifest = empty_manifest;
      root = is.root;
      holds = record {
        tables = record { each = All-nil (IsTableAt log 0 d.stands); order = tt; ascend = tt };
        follows = refl;
        fresh = All-from_get_or (λ (s : List ℕ). is_above 1 s ≡ false) (area 130 (3 * log) d.stands) [] fresh_sector;
      };
      left_is = refl;
    })
  where
    fresh_sector : (i : ℕ) → i < length (area 130 (3 * log) d.stands) → is_above 1 (get_or (area 130 (3 * log) d.stands) i []) ≡ false
    fresh_sector i lt =
        let low : i < 3 * log = omega (arith, lt, length-take (3 * log) (drop 130 d.stands)) in
        subst (λ (s : List ℕ). is_above 1 s ≡ false) (sym (get_or-take (3 * log) (drop 130 d.stands) i [] low ∙ get_or-drop 130 d.stands i [] ∙ is.zeros (130 + i) (omega (arith, low)) (omega arith) (omega arith))) blank_is_old

    kept_none : (mask : List Bool) → kept mask [] ≡ []
    kept_none mask = refl
