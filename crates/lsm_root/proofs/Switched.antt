-- What a crash may leave at each step of an installation.
use Rattle.std.proofs.Common.{◌≡◌, inl, inr, ⊎_elim, ℕ, ◌+◌, ◌*◌, ◌%◌, ◌≤◌, Bool, true, List, [], ◌∷◌, length, take, drop, set, replicate, All, Some, refl, sym, ◌∙◌, ap, subst, arith}
use Rattle.std.proofs.lemmas.List.Elements.{All-nil, All-cons, All-take, All-weaker}
use Rattle.lsm_codec.specs.declared.superblock.FormatVersion.{FormatVersion}
use Rattle.lsm_codec.specs.declared.superblock.FormatVersion.TheVariants.{Two}
use Rattle.lsm_codec.specs.declared.superblock.Superblock.{Superblock}
use Rattle.lsm_codec.specs.Superblocks.{IsSuperblock, superblock_sector}
use Rattle.lsm_device.specs.Areas.{disk_in, IsOutside}
use Rattle.lsm_device.specs.Disk.{Disk, Write, written, kept, seen, image, appended, synced}
use Rattle.lsm_device.specs.History.{present, EachSince}
use Rattle.lsm_device.specs.Outcomes.{Leaves}
use Rattle.lsm_device.specs.Runs.{run_at, grown}
use Rattle.lsm_device.proofs.Areas.{disk_in-grown, disk_in-synced, writes_in-none}
use Rattle.lsm_device.proofs.Moments.{weaker}
use Rattle.lsm_device.proofs.Outcomes.{Within, All-kept_of, image-grown, seen-grown, seen_outcome, appended_outcome}
use Rattle.lsm_device.proofs.Runs.{All-run_at, grown-nil}
use Rattle.lsm_codec.proofs.FormatLaws.{manifest_laws_hold}
use Rattle.lsm_root.specs.Pieces.{pieces, joined}
use Rattle.lsm_root.specs.Layout.{LieInside, place}
use Rattle.lsm_root.specs.Planned.{Planned, contents_in, planned, IsPrepared}
use Rattle.lsm_root.specs.Roots.{IsInVersion, superblock_in, Root, Stands}
use Rattle.lsm_root.specs.Installed.{IsNext, IsSettled, IsReady, IsOld, IsNew, IsOldOrNew, IsInstalled, KeepsBehind, IsStage}
use Rattle.lsm_codec.specs.Manifests.{Contents, manifest_of}
use Rattle.lsm_root.proofs.Cutting.{length-pieces, joined-pieces}
use Rattle.lsm_root.proofs.Preparing.{fills}
use Rattle.lsm_root.proofs.Frames.{Image, InArea, same_length, superblock_stays, behind_stays, root_stays, root_of_outcome, superblock_of_outcome, run_stands, counts, switch_behind, switch_root}

-- what an installation asks of the disk, the manifest's text and the superblock
pub record CanInstall (start : Disk) (new : Superblock) (text : List ℕ) (m : Contents) : Type 0 where
  pub sized : length start.stands ≡ new.sectors
  pub settled : IsSettled start
  pub next : IsNext new.sectors new.log_sectors new.generation (superblock_in (seen start))
  pub fits : IsSuperblock new
  pub whole : length text ≡ 512 * new.manifest_sectors
  pub version : new.version ≡ Two
  pub reads : manifest_of new.version text ≡ Some m
  pub generation : m.generation ≡ new.generation
  pub inside : LieInside new.sectors new.log_sectors m.tables

-- the writes of the manifest, and that of the superblock
abbrev pub run_of : Superblock → List ℕ → List Write
run_of new text = run_at (place new.generation) (pieces new.manifest_sectors text)

abbrev pub last_of : Superblock → Write
last_of new = record { at = new.generation % 2; bytes = superblock_sector new }

module _ {start : Disk} {new : Superblock} {text : List ℕ} {m : Contents} (can : CanInstall start new text m) where
  inside : All (InArea new.generation) (run_of new text)
  inside = All-run_at (place new.generation) (place new.generation + 64) (place new.generation) (pieces new.manifest_sectors text) (omega arith) (omega (arith, length-pieces new.manifest_sectors text, can.fits.manifest_high))

  some_staged : (mask : List Bool) (ws : List Write) → All (InArea new.generation) ws → IsOld start (written (image mask start) ws)
  some_staged mask ws all =
      let still : IsNext new.sectors new.log_sectors new.generation (superblock_in (image mask start)) = subst (IsNext new.sectors new.log_sectors new.generation) (sym (superblock_of_outcome start mask can.settled)) can.next in record {
        root = root_stays new.generation (image mask start) ws all new.sectors new.log_sectors still ∙ root_of_outcome start mask can.settled;
        outcome = (image mask start, (mask, refl), behind_stays new.generation (image mask start) ws all);
      }

  -- the sectors once the manifest is written
  staged : Image
  staged = written (seen start) (run_of new text)

  staged_old : IsOld start (written (seen start) (run_of new text))
  staged_old = subst (λ (e : Image). IsOld start (written e (run_of new text))) (seen_outcome start) (some_staged (replicate (length start.pending) true) (run_of new text) inside)

  long : length (written (seen start) (run_of new text)) ≡ new.sectors
  long = same_length (seen start) (run_of new text) ∙ same_length start.stands start.pending ∙ can.sized

  text_stands : joined (take new.manifest_sectors (drop (place new.generation) (written (seen start) (run_of new text)))) ≡ text
  text_stands =
      let sectors = pieces new.manifest_sectors text in
      ap (λ (n : ℕ). joined (take n (drop (place new.generation) (written (seen start) (run_of new text))))) (sym (length-pieces new.manifest_sectors text))
      ∙ ap joined (run_stands (seen start) (place new.generation) sectors (omega (arith, same_length start.stands start.pending, can.sized, length-pieces new.manifest_sectors text, can.fits.manifest_high, can.fits.sectors_low)))
      ∙ joined-pieces new.manifest_sectors text can.whole

  still_next : IsNext new.sectors new.log_sectors new.generation (superblock_in (written (seen start) (run_of new text)))
  still_next = subst (IsNext new.sectors new.log_sectors new.generation) (sym (superblock_stays new.generation (seen start) (run_of new text) inside)) can.next

  flipped_new : IsNew start (Stands new.log_sectors m) (set (written (seen start) (run_of new text)) (new.generation % 2) (superblock_sector new))
  flipped_new = record {
    root = switch_root (written (seen start) (run_of new text)) new can.fits can.version long m
        still_next
        (ap (manifest_of new.version) text_stands ∙ can.reads)
        can.generation
        can.inside;
    version = subst (IsInVersion Two) (sym (counts (written (seen start) (run_of new text)) new can.fits can.version long still_next)) can.version;
    all = switch_behind (written (seen start) (run_of new text)) new can.fits can.version long ∙ behind_stays new.generation (seen start) (run_of new text) inside;
  }

  readied : seen (grown (run_of new text) start) ≡ written (seen start) (run_of new text)
  readied = seen-grown (run_of new text) start

  stage_leaves : (d : Disk) → IsStage start (run_of new text) (last_of new) d → Leaves (IsOldOrNew start (Stands new.log_sectors m)) d
  stage_leaves d (inl (k, le, is)) = subst (Leaves (IsOldOrNew start (Stands new.log_sectors m))) (sym is) (λ mask. inl (subst (IsOld start) (sym (image-grown mask (take k (run_of new text)) start))
      (some_staged mask (kept (drop (length start.pending) mask) (take k (run_of new text))) (All-kept_of (InArea new.generation) (drop (length start.pending) mask) (take k (run_of new text)) (All-take (InArea new.generation) k (run_of new text) inside)))))
  stage_leaves d (inr (inl is)) = subst (Leaves (IsOldOrNew start (Stands new.log_sectors m))) (sym is) (λ mask. inl (subst (IsOld start) (sym readied) staged_old))
  stage_leaves d (inr (inr (inl is))) = subst (Leaves (IsOldOrNew start (Stands new.log_sectors m))) (sym is) (λ mask. ⊎_elim
      (λ before. inl (subst (IsOld start) (sym (before ∙ readied)) staged_old))
      (λ after. inr (subst (IsNew start (Stands new.log_sectors m)) (sym (after ∙ ap (λ (l : Image). set l (new.generation % 2) (superblock_sector new)) readied)) flipped_new))
      (appended_outcome mask (last_of new) (synced (grown (run_of new text) start))))
  stage_leaves d (inr (inr (inr is))) = subst (Leaves (IsOldOrNew start (Stands new.log_sectors m))) (sym is) (λ mask. inr (subst (IsNew start (Stands new.log_sectors m)) (sym (ap (λ (l : Image). set l (new.generation % 2) (superblock_sector new)) readied)) flipped_new))

  pub installed : (d : Disk) → d ≡ synced (appended (last_of new) (synced (grown (run_of new text) start))) → IsInstalled start (Stands new.log_sectors m) d
  installed d is = subst (IsInstalled start (Stands new.log_sectors m)) (sym is) (record {
    settled = refl;
    stands = subst (IsNew start (Stands new.log_sectors m)) (sym (ap (λ (l : Image). set l (new.generation % 2) (superblock_sector new)) readied)) flipped_new;
  })

  -- nothing is written after the root
  out_of : (from n : ℕ) → 130 ≤ from → (ws : List Write) → All (Within 0 130) ws → All (IsOutside from n) ws
  out_of from n low ws all = All-weaker (Within 0 130) (IsOutside from n) (λ w is. inl (omega (arith, is.1))) ws all

  front : All (Within 0 130) (run_of new text)
  front = All-weaker (InArea new.generation) (Within 0 130) (λ w is. (omega arith, omega (arith, is.1))) (run_of new text) inside

  grown_behind : (from n : ℕ) → 130 ≤ from → (ws : List Write) → All (Within 0 130) ws → (d : Disk) → disk_in from n (grown ws d) ≡ disk_in from n d
  grown_behind from n low ws all d = disk_in-grown from n ws d ∙ ap (λ (l : List Write). grown l (disk_in from n d)) (writes_in-none from n ws (out_of from n low ws all)) ∙ grown-nil (disk_in from n d)

  last_front : All (Within 0 130) (last_of new ∷ [])
  last_front = All-cons (Within 0 130) (last_of new) [] (omega arith, omega arith) (All-nil (Within 0 130))

  ready_behind : (from n : ℕ) → 130 ≤ from → disk_in from n (synced (grown (run_of new text) start)) ≡ synced (disk_in from n start)
  ready_behind from n low = disk_in-synced from n (grown (run_of new text) start) ∙ ap synced (grown_behind from n low (run_of new text) front start)

  stage_behind : (d : Disk) → IsStage start (run_of new text) (last_of new) d → KeepsBehind start d
  stage_behind d (inl (k, le, is)) = λ from n low. inl (ap (disk_in from n) is ∙ grown_behind from n low (take k (run_of new text)) (All-take (Within 0 130) k (run_of new text) front) start)
  stage_behind d (inr (inl is)) = λ from n low. inr (ap (disk_in from n) is ∙ ready_behind from n low)
  stage_behind d (inr (inr (inl is))) = λ from n low. inr (ap (disk_in from n) is ∙ grown_behind from n low (last_of new ∷ []) last_front (synced (grown (run_of new text) start)) ∙ ready_behind from n low)
  stage_behind d (inr (inr (inr is))) = λ from n low. inr (ap (disk_in from n) is ∙ disk_in-synced from n (appended (last_of new) (synced (grown (run_of new text) start)))
      ∙ ap synced (grown_behind from n low (last_of new ∷ []) last_front (synced (grown (run_of new text) start)) ∙ ready_behind from n low))

abbrev pub written_as : Superblock → List ℕ → Write
written_as new bytes = record { at = new.generation % 2; bytes = bytes }

module _ {old : List Disk} {new : Superblock} {text : List ℕ} {m : Contents} (can : CanInstall (present old) new text m) (bytes : List ℕ) (is : bytes ≡ superblock_sector new) (now : List Disk) where
  module _ (stages : EachSince (IsStage (present old) (run_of new text) (record { at = new.generation % 2; bytes = bytes })) old now) where
    pub any_moment : EachSince (Leaves (IsOldOrNew (present old) (Stands new.log_sectors m))) old now
    any_moment = weaker (IsStage (present old) (run_of new text) (last_of new)) (Leaves (IsOldOrNew (present old) (Stands new.log_sectors m))) old now (stage_leaves can)
        (subst (λ (b : List ℕ). EachSince (IsStage (present old) (run_of new text) (written_as new b)) old now) is stages)

    pub any_behind : EachSince (KeepsBehind (present old)) old now
    any_behind = weaker (IsStage (present old) (run_of new text) (last_of new)) (KeepsBehind (present old)) old now (stage_behind can)
        (subst (λ (b : List ℕ). EachSince (IsStage (present old) (run_of new text) (written_as new b)) old now) is stages)

pub at_last : {start : Disk} {new : Superblock} {text : List ℕ} {m : Contents} → CanInstall start new text m → (bytes : List ℕ) → bytes ≡ superblock_sector new → (d : Disk)
    → d ≡ synced (appended (record { at = new.generation % 2; bytes = bytes }) (synced (grown (run_of new text) start))) → IsInstalled start (Stands new.log_sectors m) d
at_last {start} {new} {text} can bytes is d all = installed can d (all ∙ ap (λ (b : List ℕ). synced (appended (written_as new b) (synced (grown (run_of new text) start)))) is)

-- before the first call
pub none_leaves : (start : Disk) (next : Root) → IsSettled start → Leaves (IsOldOrNew start next) start
none_leaves start next settled = λ mask. inl (record { root = root_of_outcome start mask settled; outcome = (image mask start, (mask, refl), refl) })

pub none_behind : (start : Disk) → KeepsBehind start start
none_behind start = λ from n low. inl refl

-- from what was prepared
pub can_install : (size : ℕ) (d : Disk) (s : Superblock) (text : List ℕ) → length d.stands ≡ size → size ≡ s.sectors
    → IsReady size s.log_sectors (contents_in text).generation d → IsPrepared s text → CanInstall d s text (contents_in text)
can_install size d s text long same ready is = record {
  sized = long ∙ same;
  settled = ready.settled;
  next = subst (λ (n : ℕ). IsNext n s.log_sectors s.generation (superblock_in (seen d))) same (subst (λ (n : ℕ). IsNext size s.log_sectors n (superblock_in (seen d))) is.generation ready.next);
  fits = is.superblock;
  whole = fills s text is;
  version = is.version;
  reads = ap (λ (v : FormatVersion). manifest_of v text) is.version ∙ ap (manifest_of Two) is.spelled ∙ (manifest_laws_hold.format Two).decoded (contents_in text) is.manifest;
  generation = is.generation;
  inside = is.inside;
}

-- what an installation of what is planned does
module _ {s : Superblock} {text : List ℕ} {p : Planned} (view_is : planned s text ≡ p) (is : IsPrepared s text) (size : ℕ) (old : List Disk) (long : length (present old).stands ≡ size) (same : size ≡ p.size)
    (ready : IsReady size p.log p.manifest.generation (present old)) (read : List ℕ) (reads : read ≡ text) (bytes : List ℕ) (spelled : bytes ≡ superblock_sector s) where
  can : CanInstall (present old) s read (contents_in text)
  can = subst (λ (t : List ℕ). CanInstall (present old) s t (contents_in text)) (sym reads)
      (can_install size (present old) s text long (same ∙ sym (ap (λ (q : Planned). q.size) view_is)) (subst (λ (q : Planned). IsReady size q.log q.manifest.generation (present old)) (sym view_is) ready) is)

  pub planned_moment : (now : List Disk) → EachSince (IsStage (present old) (run_of s read) (written_as s bytes)) old now → EachSince (Leaves (IsOldOrNew (present old) (Stands p.log p.manifest))) old now
  planned_moment now stages = subst (λ (q : Planned). EachSince (Leaves (IsOldOrNew (present old) (Stands q.log q.manifest))) old now) view_is (any_moment can bytes spelled now stages)

  pub planned_behind : (now : List Disk) → EachSince (IsStage (present old) (run_of s read) (written_as s bytes)) old now → EachSince (KeepsBehind (present old)) old now
  planned_behind now stages = any_behind can bytes spelled now stages

  pub planned_installed : (d : Disk) → d ≡ synced (appended (written_as s bytes) (synced (grown (run_of s read) (present old)))) → IsInstalled (present old) (Stands p.log p.manifest) d
  planned_installed d all = subst (λ (q : Planned). IsInstalled (present old) (Stands q.log q.manifest) d) view_is (at_last can bytes spelled d all)
