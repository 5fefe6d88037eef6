-- An opening may be installed, and leaves the same in the next generation.
use Rattle.std.proofs.Common.{◌≡◌, ◌≢◌, ℕ, ◌+◌, ◌≤◌, List, [], length, refl, sym, ◌∙◌, ap, subst, arith, All}
use Rattle.std.specs.Prelude.{Option}
use Rattle.std.proofs.lemmas.List.{append-nil}
use Rattle.std.proofs.lemmas.List.Elements.{All-nil}
use Rattle.lsm_codec.specs.Manifests.{Contents, IsManifest}
use Rattle.lsm_codec.specs.Map.{Operation, apply_all}
use Rattle.lsm_codec.specs.declared.log_record.LogRecord.{LogRecord}
use Rattle.lsm_device.specs.Disk.{Disk, Write, image, seen, written, at_rest}
use Rattle.lsm_device.specs.Outcomes.{Leaves}
use Rattle.lsm_root.specs.CrashState.{CrashState, last_number, in_next_generation}
use Rattle.lsm_open.specs.LogRegions.{all_batches, regions_with_batches}
use Rattle.lsm_open.specs.Layout.{open_batches}
use Rattle.lsm_open.specs.Image.{count_in, left_in, HoldNamed, StandFor, StandForSome}
use Rattle.lsm_open.specs.Placements.{Placement, IsHeld, state_with}
use Rattle.lsm_open.specs.Reopening.{kept_records, HasCome}
use Rattle.lsm_open.specs.Switching.{MayBeInstalled, IsInLeastFree, reopened_at, MayReopen}
use Rattle.lsm_open.specs.declared.regions.OpenRegion.{OpenRegion}
use Rattle.lsm_open.proofs.KeptRecords.{same_batches, count_kept, all_hold, same_follow}
use Rattle.lsm_open.proofs.NewLogs.{HoldsAll, new_held, new_empty}
use Rattle.lsm_open.proofs.NextManifests.{closed_low}
use Rattle.lsm_open.proofs.TableFrames.{state_applied, base_map}
use Rattle.lsm_root.specs.Installed.{IsSettled}
use Rattle.lsm_root.specs.Layout.{IsGeometry}

abbrev Sectors : Type 0
Sectors = List (List ℕ)

abbrev Batches : Type 0
Batches = List (List Operation)

module _ (n : ℕ) (left : CrashState) (c : Sectors) (m : Contents) (holds : HoldNamed n m c) (left_is : left ≡ left_in n c m) (may : MayReopen n m c) (o : Option OpenRegion)
    (new : IsInLeastFree n (m.generation + 1) (count_in n c m) (kept_records n c m.logs) o) where
  abbrev q : Placement
  q = reopened_at n c m o

  closed_are : all_batches n c (kept_records n c m.logs) ≡ all_batches n c m.logs
  closed_are = same_batches n c m.logs

  holds_all : HoldsAll (reopened_at n c m o) m.generation (count_in n c m) c
  holds_all = record {
    generation = refl;
    inside = may.inside;
    closed = λ k r lt. record { region = may.low k r lt; some = all_hold n c m.logs k r lt };
    follows = same_follow n c (m.base + 1) m.logs holds.follows;
    counts = ap (λ (t : Batches). m.base + length t) (sym closed_are);
    fresh = holds.fresh;
    tables = holds.tables;
    generation_high = may.generation;
    count_high = may.count;
  }

  pub reopen_held : IsHeld (reopened_at n c m o) (at_rest c)
  reopen_held = new_held (reopened_at n c m o) m.generation (count_in n c m) c holds_all new

  none_open : open_batches o c ≡ []
  none_open = new_empty (reopened_at n c m o) m.generation (count_in n c m) c holds_all new

  applied : left ≡ record { count = m.base + length (all_batches n c m.logs); map = apply_all (base_map n c m) (all_batches n c m.logs); closed = regions_with_batches n c m.logs; generation = m.generation }
  applied = left_is ∙ state_applied n c m holds.tables

  abbrev made : Batches → ℕ → CrashState
  made bs k = record { count = m.base + length bs; map = apply_all (base_map n c m) bs; closed = k; generation = m.generation + 1 }

  -- what the next manifest names stands for the same in the next generation
  pub reopen_left : state_with (reopened_at n c m o) c (open_batches o c) ≡ in_next_generation left
  reopen_left =
      let kept = kept_records n c m.logs in
      let counted : length kept + 0 ≡ regions_with_batches n c m.logs = omega (arith, count_kept n c m.logs) in
      ap (λ (t : Batches). state_with q c t) none_open
      ∙ ap (λ (t : Batches). made t (length kept + 0)) (append-nil (all_batches n c kept) ∙ closed_are)
      ∙ ap (λ (k : ℕ). made (all_batches n c m.logs) k) counted
      ∙ sym (ap in_next_generation applied)

pub opening_installs : (n : ℕ) (left : CrashState) (d : Disk) (m : Contents) → HoldNamed n m (seen d) → left ≡ left_in n (seen d) m → MayReopen n m (seen d) → (o : Option OpenRegion)
    → IsInLeastFree n (m.generation + 1) (count_in n (seen d) m) (kept_records n (seen d) m.logs) o
    → MayBeInstalled (reopened_at n (seen d) m o) (in_next_generation left) d
opening_installs n left d m holds left_is may o new = record { held = reopen_held n left (seen d) m holds left_is may o new; left_is = sym (reopen_left n left (seen d) m holds left_is may o new) }

-- a disk at rest leaves what reads give
pub rests_stand : (n : ℕ) (left : CrashState) (d : Disk) → d.pending ≡ [] → StandFor n left (seen d) → Leaves (StandForSome n (λ x. x ≡ left)) d
rests_stand n left d rests is = λ mask.
    let same : image mask d ≡ seen d =
    ap (λ (ws : List Write). image mask (record { stands = d.stands; pending = ws })) rests ∙ sym (ap (λ (ws : List Write). written d.stands ws) rests) in
    (left, refl, subst (StandFor n left) (sym same) is)

pub settled_at_rest : (d : Disk) → d.pending ≡ [] → IsSettled d
settled_at_rest d rests = subst (All (λ (w : Write). 130 ≤ w.at)) (sym rests) (All-nil (λ (w : Write). 130 ≤ w.at))

-- a replay that came to the end of a manifest's regions, in a generation that isn't the last
pub may_reopen : (n count : ℕ) (m : Contents) (closed : List LogRecord) (s : Sectors) → IsGeometry (length s) n → IsManifest m → m.generation ≢ last_number → HasCome m count closed [] → closed ≡ kept_records n s m.logs → count ≡ count_in n s m → MayReopen n m s
may_reopen n count m closed s geometry fits has_next come kept counted = record {
  inside = omega (arith, geometry.log_high, geometry.device.low);
  low = subst (All (λ (r : LogRecord). r.region ≤ 2)) kept (closed_low m count closed fits come);
  generation = below m.generation fits.numbers.generation_high has_next;
  count = omega (arith, come.count_high, counted);
}
  where
    below : (g : ℕ) → g ≤ last_number → g ≢ last_number → g + 1 ≤ last_number
    below g le ne = omega arith
