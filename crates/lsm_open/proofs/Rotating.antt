-- A rotation may be installed.
use Rattle.std.proofs.Common.{◌≡◌, ℕ, ◌+◌, ◌≤◌, true, List, [], ◌++◌, length, Some, None, refl, sym, ◌∙◌, ap, subst, arith, All}
use Rattle.std.specs.Prelude.{Option, IsSome}
use Rattle.std.proofs.lemmas.List.{append-nil}
use Rattle.std.proofs.lemmas.List.Elements.{All-nil, All-cons}
use Rattle.lsm_codec.specs.declared.log_record.LogRecord.{LogRecord}
use Rattle.lsm_codec.specs.Map.{Operation, apply_all}
use Rattle.lsm_device.specs.Disk.{Disk, at_rest, seen, synced}
use Rattle.lsm_root.specs.CrashState.{CrashState, last_number}
use Rattle.lsm_open.specs.LogRegions.{batches_at, all_batches, follow_on, one_if_some}
use Rattle.lsm_open.specs.Layout.{record_of, open_records, open_batches, IsLogAtIfOpen}
use Rattle.lsm_open.specs.Placements.{Placement, table_map, closed_in, IsHeld, Carries, state_with, present_state}
use Rattle.lsm_open.specs.Switching.{MayBeInstalled, rotated_placement, left_rotated, MayRotate, IsInLeastFree}
use Rattle.lsm_open.specs.declared.regions.OpenRegion.{OpenRegion}
use Rattle.lsm_open.proofs.FreeWrites.{held_synced, present_synced}
use Rattle.lsm_open.proofs.HeldRegions.{all_open, placed}
use Rattle.lsm_open.proofs.NewLogs.{HoldsBatches, HoldsAll, new_held, new_empty}

abbrev Sectors : Type 0
Sectors = List (List ℕ)

abbrev Batches : Type 0
Batches = List (List Operation)

module _ (p : Placement) (c : Sectors) (o : OpenRegion) (count : ℕ) (held : IsHeld p (at_rest c)) (none_closed : p.logs.closed ≡ []) (some : IsSome p.logs.open_region → 1 ≤ length (open_batches p.logs.open_region c))
    (generation_high : p.logs.generation + 1 ≤ last_number) (count_high : count ≤ last_number) (count_is : count ≡ p.logs.base + length (closed_in p c ++ open_batches p.logs.open_region c))
    (new : IsInLeastFree p.logs.log_sectors (p.logs.generation + 1) count (open_records p.logs.open_region) (Some o)) where
  none_before : closed_in p c ≡ []
  none_before = ap (all_batches p.logs.log_sectors c) none_closed

  -- the batches of the region that is closed now are those of the open log
  now_closed : all_batches p.logs.log_sectors c (open_records p.logs.open_region) ≡ open_batches p.logs.open_region c
  now_closed = all_open p.logs.log_sectors c p.logs.open_region (placed p.logs (at_rest c) p.logs.open_region held.opened)

  holds_by : (x : Option OpenRegion) → IsLogAtIfOpen p.logs (at_rest c) x → (IsSome x → 1 ≤ length (open_batches x c)) → all_batches p.logs.log_sectors c (open_records x) ≡ open_batches x c → All (HoldsBatches p.logs.log_sectors c) (open_records x)
  holds_by None opened has same = All-nil (HoldsBatches p.logs.log_sectors c)
  holds_by (Some x) opened has same =
      let here : batches_at p.logs.log_sectors c (record_of x) ≡ open_batches (Some x) c = sym (append-nil (batches_at p.logs.log_sectors c (record_of x))) ∙ same in
      All-cons (HoldsBatches p.logs.log_sectors c) (record_of x) [] (record { region = opened.region; some = subst (λ (t : Batches). 1 ≤ length t) (sym here) (has refl) }) (All-nil (HoldsBatches p.logs.log_sectors c))

  follows_alone : follow_on p.logs.log_sectors c (p.logs.base + 1) (open_records p.logs.open_region) ≡ true
  follows_alone = subst (λ (logs : List LogRecord). follow_on p.logs.log_sectors c (p.logs.base + 1) (logs ++ open_records p.logs.open_region) ≡ true) none_closed held.follows

  alone : length (closed_in p c ++ open_batches p.logs.open_region c) ≡ length (open_batches p.logs.open_region c)
  alone = ap (λ (t : Batches). length (t ++ open_batches p.logs.open_region c)) none_before

  holds_all : HoldsAll (rotated_placement p o) p.logs.generation count c
  holds_all = record {
    generation = refl;
    inside = held.inside;
    closed = holds_by p.logs.open_region held.opened some now_closed;
    follows = follows_alone;
    counts = omega (arith, count_is, alone, ap length now_closed);
    fresh = held.above.stands;
    tables = held.tables;
    generation_high = generation_high;
    count_high = count_high;
  }

  pub rotate_held : IsHeld (rotated_placement p o) (at_rest c)
  rotate_held = new_held (rotated_placement p o) p.logs.generation count c holds_all new

  batches_are : closed_in p c ++ open_batches p.logs.open_region c ≡ closed_in (rotated_placement p o) c ++ open_batches (Some o) c
  batches_are =
      ap (λ (t : Batches). t ++ open_batches p.logs.open_region c) none_before
      ∙ sym now_closed
      ∙ sym (append-nil (all_batches p.logs.log_sectors c (open_records p.logs.open_region)))
      ∙ ap (λ (t : Batches). all_batches p.logs.log_sectors c (open_records p.logs.open_region) ++ t) (sym (new_empty (rotated_placement p o) p.logs.generation count c holds_all new))

  -- the same batches, all in the region that is closed now
  pub rotate_state : record (state_with p c (open_batches p.logs.open_region c)) { closed = length (open_records p.logs.open_region); generation = p.logs.generation + 1 } ≡ state_with (rotated_placement p o) c (open_batches (Some o) c)
  rotate_state =
      let none : length (open_records p.logs.open_region) ≡ length (open_records p.logs.open_region) + 0 = omega arith in
      ap (λ (bs : Batches). made bs (length (open_records p.logs.open_region))) batches_are
      ∙ ap (λ (k : ℕ). made (closed_in (rotated_placement p o) c ++ open_batches (Some o) c) k) (none ∙ ap (λ (t : Batches). length (open_records p.logs.open_region) + one_if_some t) (sym (new_empty (rotated_placement p o) p.logs.generation count c holds_all new)))
    where
      made : Batches → ℕ → CrashState
      made bs k = record { count = p.logs.base + length bs; map = apply_all (table_map p c) bs; closed = k; generation = p.logs.generation + 1 }

pub rotate_installs : (p : Placement) (d : Disk) (o : OpenRegion) → Carries d p → MayRotate p d
    → IsInLeastFree p.logs.log_sectors (p.logs.generation + 1) (present_state p d).count (open_records p.logs.open_region) (Some o) → MayBeInstalled (rotated_placement p o) (left_rotated p d) d
rotate_installs p d o carried may new =
    let held = held_synced p d carried.held in
    let same : present_state p (synced d) ≡ present_state p d = present_synced p d carried.held in
    let count : (present_state p d).count ≡ (present_state p (synced d)).count = ap (λ (x : CrashState). x.count) (sym same) in
    record {
      held = rotate_held p (seen d) o (present_state p d).count held may.none_closed may.some may.generation may.count count new;
      left_is = ap (λ (x : CrashState). record x { closed = length (open_records p.logs.open_region); generation = p.logs.generation + 1 }) (sym same)
          ∙ rotate_state p (seen d) o (present_state p d).count held may.none_closed may.some may.generation may.count count new;
    }
