-- Wrong bodies of an installation, and why no proof can take them: a disk that they make is not as promised.
use Rattle.std.proofs.Common.{◌≡◌, ⊎_elim, ℕ, ◌+◌, ◌%◌, Bool, true, false, cond, List, [], ◌∷◌, ◌++◌, length, set, replicate, Option, Some, None, refl, sym, ◌∙◌, ap, subst, arith}
use Rattle.std.proofs.lemmas.List.{drop_at, length-replicate}
use Rattle.lsm_codec.specs.declared.superblock.Superblock.{Superblock}
use Rattle.lsm_codec.specs.Manifests.{Contents, manifest_of}
use Rattle.lsm_codec.specs.Superblocks.{superblock_sector}
use Rattle.lsm_device.specs.Disk.{Disk, Write, written, kept, image, seen, appended}
use Rattle.lsm_device.specs.Outcomes.{Leaves}
use Rattle.lsm_device.specs.Runs.{grown}
use Rattle.lsm_device.proofs.Outcomes.{image-grown, kept_longer, kept_all}
use Rattle.lsm_root.specs.Roots.{Reading, Blank, Broken, Names, superblock_in, text_in, Root, Unreadable, Stands, may_name, root_with, root_of}
use Rattle.lsm_root.specs.Installed.{IsNext, IsOld, IsNew, IsOldOrNew, IsInstalled}
use Rattle.lsm_root.proofs.Frames.{same_length, switch_names}
use Rattle.lsm_root.proofs.Naming.{may_name-Decides}
use Rattle.lsm_root.proofs.Standing.{standing}
use Rattle.lsm_root.proofs.Switched.{CanInstall, run_of, last_of}

-- a superblock names only manifests of its generation
with_found : (s : Superblock) (log : ℕ) (m : Contents) (read : Option Contents) → root_with s read ≡ Stands log m → (read ≡ Some m) × (m.generation ≡ s.generation)
with_found s log m None is = absurd cc
with_found s log m (Some c) is = by_test (may_name s c) (λ e. ((may_name-Decides s c).0 e).0) is
  where
    by_test : (t : Bool) → (t ≡ true → c.generation ≡ s.generation) → cond t (Stands s.log_sectors c) Unreadable ≡ Stands log m → (Some c ≡ Some m) × (m.generation ≡ s.generation)
    by_test true means same =
        let found : c ≡ m = cc in
        (ap (λ (x : Contents). Some x) found, sym (ap (λ (x : Contents). x.generation) found) ∙ means refl)
    by_test false means same = absurd cc

-- the next generation is one
both_next : (a b c d n k : ℕ) (r : Reading) → IsNext a b n r → IsNext c d k r → n ≡ k
both_next a b c d n k Blank first second = first ∙ sym second
both_next a b c d n k Broken first second = absurd first
both_next a b c d n k (Names s) first second = first.next ∙ sym second.next

kept_none : (ws vs : List Write) (mask : List Bool) → kept (replicate (length ws) false ++ mask) (ws ++ vs) ≡ kept mask vs
kept_none [] vs mask = refl
kept_none (w ∷ ws) vs mask = kept_none ws vs mask

-- The superblock pends along with the manifest: a crash may keep it alone, and then it names what was in its area.
module _ {start : Disk} {new : Superblock} {text : List ℕ} {m : Contents} (can : CanInstall start new text m) (log : ℕ) (old : Contents) (stood : root_of (seen start) ≡ Stands log old)
    (other : manifest_of new.version (text_in new (seen start)) ≡ Some m → ⊥) where
  flipped_alone : List (List ℕ)
  flipped_alone = set (seen start) (new.generation % 2) (superblock_sector new)

  long : length (seen start) ≡ new.sectors
  long = same_length start.stands start.pending ∙ can.sized

  older : old.generation + 1 ≡ new.generation
  older = both_next _ _ _ _ _ _ (superblock_in (seen start)) (standing (seen start) log old stood).next can.next

  pub superblock_too_early : Leaves (IsOldOrNew start (Stands new.log_sectors m)) (grown (run_of new text ++ last_of new ∷ []) start) → ⊥
  superblock_too_early leaves =
      let run = run_of new text in
      let last : List Write = last_of new ∷ [] in
      let all = replicate (length start.pending) true in
      let rest = replicate (length run) false ++ true ∷ [] in
      let before : image (all ++ rest) start ≡ seen start = ap (written start.stands) (kept_longer all rest start.pending (omega (arith, length-replicate (length start.pending) true)) ∙ kept_all (length start.pending) start.pending (omega arith)) in
      let alone : image (all ++ rest) (grown (run ++ last) start) ≡ set (seen start) (new.generation % 2) (superblock_sector new) =
      image-grown (all ++ rest) (run ++ last) start
      ∙ ap (λ (b : List Bool). written (image (all ++ rest) start) (kept b (run ++ last))) (drop_at all rest (length start.pending) (length-replicate (length start.pending) true))
      ∙ ap (λ (ws : List Write). written (image (all ++ rest) start) ws) (kept_none run last (true ∷ []))
      ∙ ap (λ (l : List (List ℕ)). written l last) before in
      let root : root_of (set (seen start) (new.generation % 2) (superblock_sector new)) ≡ root_with new (manifest_of new.version (text_in new (seen start))) = switch_names (seen start) new can.fits can.version long can.next in
      ⊎_elim
      (λ (is : IsOld start (set (seen start) (new.generation % 2) (superblock_sector new))). absurd (omega (arith, older, (with_found new log old _ (sym root ∙ is.root ∙ stood)).1)))
      (λ (is : IsNew start (Stands new.log_sectors m) (set (seen start) (new.generation % 2) (superblock_sector new))). other (with_found new new.log_sectors m _ (sym root ∙ is.root)).0)
      (subst (IsOldOrNew start (Stands new.log_sectors m)) alone (leaves (all ++ rest)))

-- `Ok` while the superblock pends
pub ok_too_early : (start d : Disk) (next : Root) (w : Write) → d.pending ≡ [] → IsInstalled start next (appended w d) → ⊥
ok_too_early start d next w nothing installed =
    let left : (d.pending ++ w ∷ []) ≡ [] = installed.settled in
    let one : w ∷ [] ≡ [] = ap (λ (ws : List Write). ws ++ w ∷ []) (sym nothing) ∙ left in
    cc
