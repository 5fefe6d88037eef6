-- What stands on a device whose first sectors were zeroed.
use Rattle.std.proofs.Common.{◌≡◌, ◌≢◌, ◌⊎◌, inl, inr, ⊎_elim, ◌≤◌, ◌<◌, ℕ, ◌+◌, ◌*◌, List, [], ◌++◌, length, drop, replicate, refl, sym, ◌∙◌, ap, subst, arith, lit≤}
use Rattle.std.proofs.lemmas.Bool.{cases_lt}
use Rattle.std.proofs.lemmas.List.{length-replicate, get_or-replicate, get_or_append_left}
use Rattle.std.proofs.lemmas.List.Elements.{All-nil}
use Rattle.lsm_codec.specs.Formats.{blank}
use Rattle.lsm_codec.specs.Manifests.{IsManifest, IsLogRecord, sector_count}
use Rattle.lsm_codec.proofs.ManifestLaws.{length-manifest_text, manifest_text_most, no_tables_fit}
use Rattle.lsm_device.specs.Disk.{Disk, Write, IsDisk, seen, synced}
use Rattle.lsm_device.specs.Memory.{length-written}
use Rattle.lsm_device.specs.Runs.{run_at, grown}
use Rattle.lsm_device.proofs.Outcomes.{seen-grown}
use Rattle.lsm_device.proofs.Runs.{written-run_at}
use Rattle.lsm_root.specs.Roots.{Reading, Blank, reading_of, in_slot, newer, sector_at, superblock_in, Stands}
use Rattle.lsm_root.specs.Installed.{IsNext, IsReady, IsInstalled, KeepsOthers}
use Rattle.lsm_root.proofs.Readings.{zeros}
use Rattle.lsm_open.specs.Formatted.{empty_manifest, IsFormatted}

pub empty_takes_one : sector_count empty_manifest ≡ 1
empty_takes_one = omega (arith, length-manifest_text empty_manifest, manifest_text_most empty_manifest)

-- where no sector of an empty manifest is
outside : (at : ℕ) → at ≢ 66 → (at < 66) ⊎ (66 + sector_count empty_manifest ≤ at)
outside at first = ⊎_elim (λ (low : at < 66). inl low) (λ (high : 66 ≤ at). inr (omega (arith, empty_takes_one, high, first))) (cases_lt at 66)

-- the disk whose first n sectors were zeroed
abbrev zeroed : ℕ → Disk → Disk
zeroed n d = synced (grown (run_at 0 (replicate n blank)) d)

module _ (size n : ℕ) (d : Disk) (on : IsDisk size d) (fits : n ≤ size) where
  front_is : seen (zeroed n d) ≡ replicate n blank ++ drop n (seen d)
  front_is =
      let long : length (seen d) ≡ size = length-written size d.stands d.pending on.size in
      seen-grown (run_at 0 (replicate n blank)) d
      ∙ written-run_at (seen d) 0 (replicate n blank) (omega (arith, long, fits, length-replicate n blank))
      ∙ ap (λ (k : ℕ). replicate n blank ++ drop k (seen d)) (omega (arith, length-replicate n blank))

  sector_is : (i : ℕ) → i < n → sector_at (seen (zeroed n d)) i ≡ blank
  sector_is i lt =
      ap (λ (l : List (List ℕ)). sector_at l i) front_is
      ∙ get_or_append_left (replicate n blank) (drop n (seen d)) [] i (omega (arith, lt, length-replicate n blank))
      ∙ get_or-replicate n i blank [] lt

  blank_superblocks : 2 ≤ n → superblock_in (seen (zeroed n d)) ≡ Blank
  blank_superblocks some =
      ap (λ (r : Reading). newer (in_slot 0 r) (in_slot 1 (reading_of (sector_at (seen (zeroed n d)) 1)))) (zeros _ (sector_is 0 (omega (arith, some))))
      ∙ ap (λ (r : Reading). newer Blank (in_slot 1 r)) (zeros _ (sector_is 1 (omega (arith, some))))

  -- generation 1 may be installed
  pub zeroed_ready : (log : ℕ) → 2 ≤ n → IsReady size log 1 (synced (grown (run_at 0 (replicate n blank)) d))
  zeroed_ready log some = record {
    settled = All-nil (λ (w : Write). 130 ≤ w.at);
    next = subst (IsNext size log 1) (sym (blank_superblocks some)) refl;
  }

  -- with an empty manifest it is an empty store
  pub is_formatted : (log : ℕ) (e : Disk) → n ≡ 130 + 3 * log → IsInstalled (synced (grown (run_at 0 (replicate n blank)) d)) (Stands log empty_manifest) e
      → KeepsOthers empty_manifest (seen (synced (grown (run_at 0 (replicate n blank)) d))) e.stands → IsFormatted log e
  is_formatted log e is installed others = record {
    settled = installed.settled;
    root = installed.stands.root;
    version = installed.stands.version;
    zeros = λ at lt slot first. others at slot (outside at first) ∙ sector_is at (omega (arith, is, lt));
  }

pub empty_is_manifest : IsManifest empty_manifest
empty_is_manifest = record {
  numbers = record { generation_low = omega arith; generation_high = lit≤ tt; base = omega arith; next_low = omega arith; next_high = lit≤ tt; runs = omega arith; logs = omega arith; tables = omega arith };
  logs = record { each = All-nil (IsLogRecord 1); agree = tt; begins = tt };
  tables = no_tables_fit 1 0 1 [];
}
