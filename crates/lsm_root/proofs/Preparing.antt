-- A root that was prepared is what was asked for.
use Rattle.std.proofs.Common.{◌≡◌, ◌≤◌, ◌*◌, ℕ, List, [], length, Option, sym, ◌∙◌, ap, subst, arith}
use Rattle.std.specs.Prelude.{unwrap_or}
use Rattle.lsm_codec.specs.declared.superblock.FormatVersion.TheVariants.{Two}
use Rattle.lsm_codec.specs.declared.superblock.Superblock.{Superblock}
use Rattle.lsm_codec.specs.Manifests.{Contents, IsManifestOf, sector_count, manifest_bytes, manifest_of}
use Rattle.lsm_codec.proofs.FormatLaws.{manifest_laws_hold}
use Rattle.lsm_root.specs.Layout.{IsGeometry, LieInside}
use Rattle.lsm_root.specs.Planned.{Planned, contents_in, IsPrepared}

module _ (text : List ℕ) (m : Contents) (is : IsManifestOf Two m) (spells : text ≡ manifest_bytes m) where
  says : contents_in text ≡ m
  says = ap (λ (r : Option Contents). unwrap_or r (record { generation = 0; base = 0; next_table = 0; runs = 0; logs = []; tables = [] })) (ap (manifest_of Two) spells ∙ (manifest_laws_hold.format Two).decoded m is)

  pub plans : (size log : ℕ) → (let p : Planned = record { size = size; log = log; manifest = contents_in text } in p) ≡ record { size = size; log = log; manifest = m }
  plans size log = ap (λ (c : Contents). let p : Planned = record { size = size; log = log; manifest = c } in p) says

  pub prepares : (s : Superblock) → s.version ≡ Two → IsGeometry s.sectors s.log_sectors → LieInside s.sectors s.log_sectors m.tables → m.generation ≡ s.generation → s.manifest_sectors ≡ sector_count m → IsPrepared s text
  prepares s two geometry inside same count =
      let fits = is.fits in
      let few : sector_count m ≤ 41 = manifest_laws_hold.sectors_high m fits in
      record {
        superblock = record {
          generation_low = omega (arith, same, fits.numbers.generation_low);
          generation_high = omega (arith, same, fits.numbers.generation_high);
          sectors_low = geometry.device.low;
          sectors_high = geometry.device.high;
          log_low = geometry.log_low;
          log_high = geometry.log_high;
          manifest_low = omega (arith, count, manifest_laws_hold.sectors_low m);
          manifest_high = omega (arith, count, few);
        };
        version = two;
        manifest = subst (IsManifestOf Two) (sym says) is;
        inside = subst (λ (c : Contents). LieInside s.sectors s.log_sectors c.tables) (sym says) inside;
        spelled = spells ∙ ap manifest_bytes (sym says);
        generation = ap (λ (c : Contents). c.generation) says ∙ same;
        sectors = count ∙ ap sector_count (sym says);
      }

-- what is prepared fills its sectors, and they are few
pub fills : (s : Superblock) (text : List ℕ) → IsPrepared s text → length text ≡ 512 * s.manifest_sectors
fills s text is = ap length is.spelled ∙ manifest_laws_hold.size (contents_in text) ∙ ap (λ (n : ℕ). 512 * n) (sym is.sectors)

pub are_few : (s : Superblock) (text : List ℕ) → IsPrepared s text → s.manifest_sectors ≤ 41
are_few s text is = let few : sector_count (contents_in text) ≤ 41 = manifest_laws_hold.sectors_high (contents_in text) is.manifest.fits in omega (arith, is.sectors, few)
