-- A cursor gives the versions of its run.
use Rattle.std.proofs.Common.{◌≡◌, ◌⊎◌, inl, inr, ℕ, List, [], ◌∷◌, drop, filter, Option, Some, None, Result, Ok, Err, refl}
use Rattle.std.specs.Prelude.{MatchResult}
use Rattle.std.specs.List.{AllByRecursion}
use Rattle.std.proofs.lemmas.Option.{same_Some}
use Rattle.lsm_device.specs.declared.refusal.Refusal.{Refusal}
use Rattle.lsm_device.specs.declared.refusal.Refusal.TheVariants.{NoMemory, Io}
use Rattle.lsm_device.specs.Disk.{seen}
use Rattle.lsm_device.specs.Medium.{disk}
use Rattle.lsm_codec.specs.Keys.{Bytes}
use Rattle.lsm_codec.specs.Versions.{Version}
use Rattle.lsm_mem.specs.Ranges.{from_key}
use Rattle.lsm_cache.specs.declared.name.BlockName.{BlockName}
use Rattle.lsm_levels.specs.Tables.{Table, IsRun, at_most, versions_of}
use Rattle.lsm_levels.specs.Asking.{Source}
use Rattle.lsm_levels.specs.Stored.{IsPlaced, IsReadable}
use Rattle.lsm_levels.specs.Cursors.{Cursor, CursorLaw, Gives, GoesOn, IsPlacedAt, Seeks, SeeksTo, Shows, blocks_from_key, passed_blocks}
use Rattle.lsm_levels.proofs.CursorBlocks.{all_blocks, left_of_all}
use Rattle.lsm_levels.proofs.CursorLaws.{Reached, goes_to_next, seek_blocks, step_blocks}
use Rattle.lsm_levels.proofs.CursorStored.{run_sought}
use Rattle.lsm_codec.proofs.Lists.{all_filter}

placed_from : (place : BlockName → Option ℕ) (area : ℕ) (key : Bytes) (run : List Table) → AllByRecursion (IsPlaced place area) run → AllByRecursion (IsPlacedAt place) (blocks_from_key area key run)
placed_from place area key run all =
    let tables : List Table = filter (λ t. at_most key t.last) run in
    left_of_all (IsPlacedAt place) area (passed_blocks key tables) tables
    (all_blocks (IsPlaced place area) (IsPlacedAt place) area (λ t i placed lt. placed.at i lt) tables (all_filter (IsPlaced place area) (λ t. at_most key t.last) run all))

seeks : (place : BlockName → Option ℕ) (area : ℕ) (key : Bytes) (run : List Table) (result : Result Cursor Refusal) (old new : Source) → IsRun run → IsReadable place area (run ∷ []) old → SeeksTo key (blocks_from_key area key run) result old new
    → MatchResult result (λ c. Gives place (seen (disk old.medium)) (from_key key (versions_of run)) c new) (λ refusal. (refusal ≡ Io) ⊎ (refusal ≡ NoMemory))
seeks place area key run result old new r readable h = by result h
  where
    shows : Shows place (seen (disk old.medium)) old
    shows = record { tells = readable.tells; holds = refl; fresh = readable.fresh }

    reached : (c : Cursor) (refusal : Option Refusal) → Seeks key (blocks_from_key area key run) c refusal old new → Reached place (seen (disk old.medium)) (from_key key (versions_of run)) c refusal new
    reached c refusal k = run_sought (seen (disk old.medium)) area place key run r readable.stored.0 c refusal old new (placed_from place area key run readable.placed.0) shows k

    gives : (c : Cursor) → Seeks key (blocks_from_key area key run) c None old new → Reached place (seen (disk old.medium)) (from_key key (versions_of run)) c None new → Gives place (seen (disk old.medium)) (from_key key (versions_of run)) c new
    gives c k (inl p) = record { left = p.1; placed = seek_blocks (IsPlacedAt place) key (blocks_from_key area key run) c None old new k (placed_from place area key run readable.placed.0); shows = p.2 }
    gives c k (inr io) = absurd cc

    only_io : (c : Cursor) (e : Refusal) → Reached place (seen (disk old.medium)) (from_key key (versions_of run)) c (Some e) new → e ≡ Io
    only_io c e (inl p) = absurd (let clash : Some e ≡ None = p.0 in cc)
    only_io c e (inr io) = same_Some e Io io

    refused : (e : Refusal) → ((e ≡ NoMemory) × (new ≡ old)) ⊎ ((c : Cursor) × Seeks key (blocks_from_key area key run) c (Some e) old new) → (e ≡ Io) ⊎ (e ≡ NoMemory)
    refused e (inl p) = inr p.0
    refused e (inr k) = inl (only_io k.0 e (reached k.0 (Some e) k.1))

    by : (x : Result Cursor Refusal) → SeeksTo key (blocks_from_key area key run) x old new → MatchResult x (λ c. Gives place (seen (disk old.medium)) (from_key key (versions_of run)) c new) (λ refusal. (refusal ≡ Io) ⊎ (refusal ≡ NoMemory))
    by (Ok c) k = gives c k (reached c None k)
    by (Err e) k = refused e k

goes_on : (place : BlockName → Option ℕ) (sectors : List (List ℕ)) (versions : List Version) (c next : Cursor) (refusal : Option Refusal) (old new : Source) → Gives place sectors versions c old → GoesOn (drop 1 c.items) c.blocks next refusal old new
    → ((refusal ≡ None) × Gives place sectors (drop 1 versions) next new) ⊎ (refusal ≡ Some Io)
goes_on place sectors versions c next refusal old new g h = by (goes_to_next place sectors c next refusal versions old new g.placed g.shows g.left h)
  where
    by : Reached place sectors (drop 1 versions) next refusal new → ((refusal ≡ None) × Gives place sectors (drop 1 versions) next new) ⊎ (refusal ≡ Some Io)
    by (inl p) = inl (p.0, record { left = p.1; placed = step_blocks (IsPlacedAt place) (drop 1 c.items) c.blocks next refusal old new h g.placed; shows = p.2 })
    by (inr io) = inr io

pub cursor_law : CursorLaw
cursor_law = record { seeks = seeks; goes_on = goes_on }
