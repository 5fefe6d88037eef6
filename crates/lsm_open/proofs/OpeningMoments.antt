-- What an opening leaves at each moment of the whole call.
use Rattle.std.proofs.Common.{◌≡◌, ◌⊎◌, inl, inr, ℕ, Bool, true, List, length, replicate, sym, subst}
use Rattle.lsm_codec.specs.Manifests.{Contents, IsManifest}
use Rattle.lsm_device.specs.Disk.{Disk, seen, synced}
use Rattle.lsm_device.specs.History.{present, Becomes, EachSince}
use Rattle.lsm_device.specs.Medium.{Medium, disk}
use Rattle.lsm_device.specs.Outcomes.{Leaves}
use Rattle.lsm_device.specs.declared.refusal.Refusal.{Refusal}
use Rattle.lsm_device.specs.declared.refusal.Refusal.TheVariants.{Io, BadGeometry}
use Rattle.lsm_device.proofs.Moments.{now_is, ended}
use Rattle.lsm_device.proofs.Outcomes.{seen_outcome}
use Rattle.lsm_root.specs.CrashState.{CrashState, left_by_opening, MayRefuseOpening}
use Rattle.lsm_open.specs.Image.{StandFor}
use Rattle.lsm_open.specs.Recovering.{StandForOne, CrashesWhileOpening, FailsToOpen}
use Rattle.lsm_root.proofs.Openings.{same_again}
use Rattle.lsm_root.specs.Layout.{IsDeviceSize, IsGeometry}
use Rattle.lsm_root.specs.Roots.{Stands, root_of}

abbrev Sectors : Type 0
Sectors = List (List ℕ)

-- the size of a device whose sectors stand for something is within the limits
pub has_size : (n : ℕ) (left : CrashState) (s : Sectors) (size : ℕ) → StandFor n left s → length s ≡ size → ((i : Sectors) (log : ℕ) (m : Contents) → root_of i ≡ Stands log m → IsGeometry (length i) log × IsManifest m) → IsDeviceSize size
has_size n left s size is long laws = subst IsDeviceSize long (laws s n is.manifest is.root).0.device

module _ (before mid after : Medium) (n : ℕ) (left : CrashState) (is : StandFor n left (seen (disk before))) (begins : Becomes (synced (disk before)) before.history mid.history) where
  pub standing_after : StandFor n left (seen (disk mid))
  standing_after = subst (λ (d : Disk). StandFor n left (seen d)) (sym (now_is (synced (disk before)) before.history mid.history begins)) is

  pub crashes : EachSince (Leaves (StandForOne n (left_by_opening left))) mid.history after.history → CrashesWhileOpening before n left after
  crashes each = record { synced_history = mid.history; first_sync = begins; crash = each }

  pub fails : (refusal : Refusal) → MayRefuseOpening left refusal → EachSince (Leaves (StandForOne n (left_by_opening left))) mid.history after.history → FailsToOpen before n left refusal after
  fails refusal fair each = record {
    fair = fair;
    again =
        let all : List Bool = replicate (length (disk after).pending) true in
        subst (StandForOne n (left_by_opening left)) (seen_outcome (disk after)) (ended (Leaves (StandForOne n (left_by_opening left))) mid.history after.history each all);
    crash = inr (crashes each);
  }

-- it failed in its first sync
fails_at_once : (before after : Medium) (n : ℕ) (left : CrashState) → StandFor n left (seen (disk before)) → after.history ≡ before.history → FailsToOpen before n left Io after
fails_at_once before after n left is same = record {
  fair = tt;
  again = (left, same_again left, subst (λ (h : List Disk). StandFor n left (seen (present h))) (sym same) is);
  crash = inl same;
}

-- it ended in its beginning
pub begun_fails : (before after : Medium) (n : ℕ) (left : CrashState) (refusal : Refusal) → StandFor n left (seen (disk before)) → IsDeviceSize before.size
    → ((refusal ≡ BadGeometry) × (IsDeviceSize before.size → ⊥)) ⊎ (refusal ≡ Io) → after.history ≡ before.history → FailsToOpen before n left refusal after
begun_fails before after n left refusal is fair (inl small) same = absurd (small.1 fair)
begun_fails before after n left refusal is fair (inr io) same = subst (λ (r : Refusal). FailsToOpen before n left r after) (sym io) (fails_at_once before after n left is same)
