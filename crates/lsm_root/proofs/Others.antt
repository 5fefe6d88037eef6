-- What an installation leaves as it was.
use Rattle.std.proofs.Common.{◌≡◌, ◌≢◌, ◌⊎◌, ⊎_elim, ℕ, ◌+◌, ◌%◌, ◌<◌, ◌≤◌, List, [], ◌∷◌, All, set, refl, sym, ◌∙◌, ap, subst, arith}
use Rattle.std.proofs.lemmas.List.{get_or-set_other}
use Rattle.std.proofs.lemmas.List.Elements.{All-head, All-tail, All-weaker}
use Rattle.lsm_codec.specs.declared.superblock.Superblock.{Superblock}
use Rattle.lsm_codec.specs.Manifests.{sector_count}
use Rattle.lsm_device.specs.Disk.{Disk, Write, written, seen, appended, synced}
use Rattle.lsm_device.specs.Runs.{run_at, grown}
use Rattle.lsm_device.proofs.Outcomes.{Within, seen-grown}
use Rattle.lsm_device.proofs.Runs.{All-run_at}
use Rattle.lsm_root.specs.Installed.{KeepsOthers}
use Rattle.lsm_root.specs.Layout.{place}
use Rattle.lsm_root.specs.Pieces.{pieces}
use Rattle.lsm_root.specs.Planned.{Planned, contents_in, planned, IsPrepared}
use Rattle.lsm_root.specs.Roots.{sector_at}
use Rattle.lsm_root.proofs.Cutting.{length-pieces}
use Rattle.lsm_root.proofs.Frames.{Image}
use Rattle.lsm_root.proofs.Switched.{run_of, written_as}

-- a sector that no write is to
kept_sector : (at : ℕ) (e : Image) (ws : List Write) → All (λ w. at ≢ w.at) ws → sector_at (written e ws) at ≡ sector_at e at
kept_sector at e [] all = refl
kept_sector at e (w ∷ ws) all =
    kept_sector at (set e w.at w.bytes) ws (All-tail (λ (v : Write). at ≢ v.at) w ws all)
    ∙ get_or-set_other e w.at at w.bytes [] (All-head (λ (v : Write). at ≢ v.at) w ws all)

-- the sectors of a manifest's text have other places
elsewhere : (at from n : ℕ) (text : List ℕ) → (at < from) ⊎ (from + n ≤ at) → All (λ w. at ≢ w.at) (run_at from (pieces n text))
elsewhere at from n text out =
    All-weaker (Within from (from + n)) (λ (w : Write). at ≢ w.at)
    (λ w is. ⊎_elim (λ (low : at < from) (e : at ≡ w.at). absurd (omega (arith, is.0, low, e))) (λ (high : from + n ≤ at) (e : at ≡ w.at). absurd (omega (arith, is.1, high, e))) out)
    (run_at from (pieces n text)) (All-run_at from (from + n) from (pieces n text) (omega arith) (omega (arith, length-pieces n text)))

-- an installation of what is planned writes its superblock and its manifest's sectors alone
pub planned_others : (s : Superblock) (text : List ℕ) (p : Planned) → planned s text ≡ p → IsPrepared s text → (start : Disk) (read bytes : List ℕ) (d : Disk)
    → d ≡ synced (appended (written_as s bytes) (synced (grown (run_of s read) start))) → KeepsOthers p.manifest (seen start) d.stands
planned_others s text p view_is is start read bytes d all = subst (λ (q : Planned). KeepsOthers q.manifest (seen start) d.stands) view_is others
  where
    others : KeepsOthers (contents_in text) (seen start) d.stands
    others at slot out =
        let free : at ≢ s.generation % 2 = subst (λ (g : ℕ). at ≢ g % 2) is.generation slot in
        let outside : (at < place s.generation) ⊎ (place s.generation + s.manifest_sectors ≤ at) =
        subst (λ (n : ℕ). (at < place s.generation) ⊎ (place s.generation + n ≤ at)) (sym is.sectors)
        (subst (λ (g : ℕ). (at < place g) ⊎ (place g + sector_count (contents_in text) ≤ at)) is.generation out) in
        ap (λ (x : Disk). sector_at x.stands at) all
        ∙ get_or-set_other (seen (grown (run_of s read) start)) (s.generation % 2) at bytes [] free
        ∙ ap (λ (l : Image). sector_at l at) (seen-grown (run_of s read) start)
        ∙ kept_sector at (seen start) (run_of s read) (elsewhere at (place s.generation) s.manifest_sectors read outside)
