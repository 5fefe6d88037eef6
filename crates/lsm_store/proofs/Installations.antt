-- What the installation of a root tells a store.
use Rattle.std.specs.Prelude.{◌≡◌, ℕ, IsTrue}
use Rattle.lsm_codec.specs.Manifests.{Contents}
use Rattle.lsm_device.specs.Calls.{AtMost}
use Rattle.lsm_device.specs.History.{EachSince}
use Rattle.lsm_device.specs.Medium.{Medium, disk}
use Rattle.lsm_device.specs.Outcomes.{Leaves}
use Rattle.lsm_root.specs.Installed.{IsReady, IsOldOrNew}
use Rattle.lsm_root.specs.Roots.{Stands}

-- So it is whether the installation is answered Ok or with a fault.
pub record IsInstalling (log generation : ℕ) (c : Contents) (old new : Medium) : Type 0 where
  pub moments : IsTrue old.lasting.tells → IsReady old.size log generation (disk old) → EachSince (Leaves (IsOldOrNew (disk old) (Stands log c))) old.history new.history
  pub calls : AtMost 0 42 2 old.calls new.calls
  pub same_size : new.size ≡ old.size
  pub same_lasting : new.lasting ≡ old.lasting
