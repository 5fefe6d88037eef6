-- What a root that stands tells the next installation.
use Rattle.std.proofs.Common.{◌≡◌, ◌≤◌, ℕ, ◌+◌, Bool, true, false, cond, ◌==◌, nat_lt, List, length, All, Option, Some, None, refl, sym, ◌∙◌, ap, subst}
use Rattle.std.proofs.lemmas.Bool.{eqb-true}
use Rattle.std.proofs.lemmas.List.Elements.{All-nil}
use Rattle.lsm_codec.specs.declared.superblock.Superblock.{Superblock}
use Rattle.lsm_codec.specs.Superblocks.{IsSuperblock}
use Rattle.lsm_codec.specs.Manifests.{Contents, IsManifest, IsManifestOf, manifest_of}
use Rattle.lsm_codec.proofs.FormatLaws.{manifest_laws_hold}
use Rattle.lsm_device.specs.Disk.{Disk, Write, seen}
use Rattle.lsm_root.specs.Layout.{IsGeometry, LieInside}
use Rattle.lsm_root.specs.Roots.{Reading, Blank, Broken, Names, superblock_in, text_in, OtherSize, Unreadable, Stands, may_name, root_with, root_by, root_of}
use Rattle.lsm_root.specs.Installed.{IsNext, IsReady, IsInstalled}
use Rattle.lsm_root.proofs.Frames.{counted_fits}
use Rattle.lsm_root.proofs.Naming.{has_geometry, may_name-Decides}

-- the root that stands is a manifest of the device, and the next generation may be installed after it
pub record IsStanding (size log : ℕ) (m : Contents) (r : Reading) : Type 0 where
  pub next : IsNext size log (m.generation + 1) r
  pub geometry : IsGeometry size log
  pub fits : IsManifest m
  pub inside : LieInside size log m.tables

module _ (size log : ℕ) (m : Contents) (s : Superblock) (limits : IsSuperblock s) (sized : s.sectors ≡ size) where
  from_found : m.generation ≡ s.generation → s.log_sectors ≡ log → IsManifest m → LieInside s.sectors s.log_sectors m.tables → IsStanding size log m (Names s)
  from_found same logs fits inside = record {
    next = record { next = ap (λ (n : ℕ). n + 1) same; same_size = sized; same_log = logs };
    geometry = subst (λ (n : ℕ). IsGeometry n log) sized (subst (λ (n : ℕ). IsGeometry s.sectors n) logs (has_geometry s limits));
    fits = fits;
    inside = subst (λ (n : ℕ). LieInside n log m.tables) sized (subst (λ (n : ℕ). LieInside s.sectors n m.tables) logs inside);
  }

  from_read : (bytes : List ℕ) (read : Option Contents) → manifest_of s.version bytes ≡ read → root_with s read ≡ Stands log m → IsStanding size log m (Names s)
  from_read bytes None is same = absurd cc
  from_read bytes (Some c) is same = by_test (may_name s c) (may_name-Decides s c).0 same
    where
      by_test : (t : Bool) → (t ≡ true → (c.generation ≡ s.generation) × LieInside s.sectors s.log_sectors c.tables) → cond t (Stands s.log_sectors c) Unreadable ≡ Stands log m → IsStanding size log m (Names s)
      by_test true means same =
          let is_m : c ≡ m = cc in
          let logs : s.log_sectors ≡ log = cc in
          let named = means refl in
          from_found (sym (ap (λ (x : Contents). x.generation) is_m) ∙ named.0) logs (subst IsManifest is_m ((manifest_laws_hold.format s.version).spelled bytes c is).0.fits)
          (subst (λ (x : Contents). LieInside s.sectors s.log_sectors x.tables) is_m named.1)
      by_test false means same = absurd cc

pub standing : (image : List (List ℕ)) (log : ℕ) (m : Contents) → root_of image ≡ Stands log m → IsStanding (length image) log m (superblock_in image)
standing image log m is = by_place (nat_lt (length image) 2) is
  where
    by_size : (s : Superblock) (t : Bool) → superblock_in image ≡ Names s → (s.sectors == length image) ≡ t → cond t (root_with s (manifest_of s.version (text_in s image))) OtherSize ≡ Stands log m → IsStanding (length image) log m (Names s)
    by_size s true names e same = from_read (length image) log m s (counted_fits image s names) (eqb-true s.sectors (length image) e) (text_in s image) _ refl same
    by_size s false names e same = absurd cc

    by_reading : (r : Reading) → superblock_in image ≡ r → root_by r image ≡ Stands log m → IsStanding (length image) log m r
    by_reading Blank names same = absurd cc
    by_reading Broken names same = absurd cc
    by_reading (Names s) names same = by_size s _ names refl same

    by_place : (t : Bool) → cond t OtherSize (root_by (superblock_in image) image) ≡ Stands log m → IsStanding (length image) log m (superblock_in image)
    by_place true same = absurd cc
    by_place false same = by_reading (superblock_in image) refl same

-- and it is of the version of its superblock
pub its_version : (image : List (List ℕ)) (log : ℕ) (m : Contents) (s : Superblock) → superblock_in image ≡ Names s → root_of image ≡ Stands log m → IsManifestOf s.version m
its_version image log m s names is = by_place (nat_lt (length image) 2) is
  where
    by_read : (read : Option Contents) → manifest_of s.version (text_in s image) ≡ read → root_with s read ≡ Stands log m → IsManifestOf s.version m
    by_read None found same = absurd cc
    by_read (Some c) found same = by_test (may_name s c) same
      where
        by_test : (t : Bool) → cond t (Stands s.log_sectors c) Unreadable ≡ Stands log m → IsManifestOf s.version m
        by_test true same = let is_m : c ≡ m = cc in subst (IsManifestOf s.version) is_m ((manifest_laws_hold.format s.version).spelled (text_in s image) c found).0
        by_test false same = absurd cc

    by_size : (t : Bool) → cond t (root_with s (manifest_of s.version (text_in s image))) OtherSize ≡ Stands log m → IsManifestOf s.version m
    by_size true same = by_read (manifest_of s.version (text_in s image)) refl same
    by_size false same = absurd cc

    by_place : (t : Bool) → cond t OtherSize (root_by (superblock_in image) image) ≡ Stands log m → IsManifestOf s.version m
    by_place true same = absurd cc
    by_place false same = by_size (s.sectors == length image) (sym (ap (λ (r : Reading). root_by r image) names) ∙ same)

-- after an installation nothing pends, and the next generation may be installed
pub installed_ready : (size log : ℕ) (m : Contents) (start d : Disk) → length d.stands ≡ size → IsInstalled start (Stands log m) d → IsReady size log (m.generation + 1) d
installed_ready size log m start d long is =
    let here : IsNext size log (m.generation + 1) (superblock_in d.stands) = subst (λ (n : ℕ). IsNext n log (m.generation + 1) (superblock_in d.stands)) long (standing d.stands log m is.stands.root).next in
    record {
      settled = subst (All (λ w. 130 ≤ w.at)) (sym is.settled) (All-nil (λ (w : Write). 130 ≤ w.at));
      next = subst (λ (ws : List Write). let e : Disk = record { stands = d.stands; pending = ws } in IsNext size log (m.generation + 1) (superblock_in (seen e))) (sym is.settled) here;
    }
