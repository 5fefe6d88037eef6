-- Lives on a device that was made and formatted.
use Rattle.std.proofs.Common.{◌≡◌, ℕ, List, ap, ◌∙◌}
use Rattle.lsm_device.specs.Medium.{Medium, disk, zeroed}
use Rattle.lsm_device.specs.Outcomes.{Leaves}
use Rattle.lsm_root.specs.CrashState.{CrashState}
use Rattle.lsm_open.specs.Image.{StandFor}
use Rattle.lsm_lives.specs.Asked.{Told}
use Rattle.lsm_lives.specs.Devices.{AreLedOn}
use Rattle.lsm_lives.specs.Leading.{LifeView, AreLed}

pub led_on : (sectors log_sectors : ℕ) (opened : CrashState) (lives : List LifeView) (answers : List (List Told)) (new device after : Medium)
    → new ≡ zeroed sectors → device.size ≡ new.size → device.lasting ≡ new.lasting → Leaves (StandFor log_sectors opened) (disk device) → AreLed lives device answers after
    → AreLedOn sectors log_sectors opened lives answers after
led_on sectors log_sectors opened lives answers new device after zeros same_size same_lasting leaves led = record {
  device = device;
  size = same_size ∙ ap (λ (m : Medium). m.size) zeros;
  lasting = same_lasting ∙ ap (λ (m : Medium). m.lasting) zeros;
  leaves = leaves;
  led = led;
}
