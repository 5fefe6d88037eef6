-- A merge of levels may be installed.
use Rattle.std.proofs.Common.{◌≡◌, inl, inr, ℕ, ◌+◌, ◌*◌, false, List, ◌++◌, length, map, Some, None, refl, sym, ◌∙◌, ap, subst, arith, All, option_and_then}
use Rattle.std.specs.Prelude.{Option}
use Rattle.std.specs.Cmp.Lexicographic.{nat_list_cmp_total}
use Rattle.std.specs.FinMap.{same_map}
use Rattle.std.proofs.lemmas.List.{map-append}
use Rattle.std.proofs.lemmas.List.Elements.{All-nil, All-append}
use Rattle.lsm_codec.specs.declared.table_record.TableRecord.{TableRecord}
use Rattle.lsm_codec.specs.Keys.{Bytes}
use Rattle.lsm_codec.specs.Map.{Map, Operation, apply_all}
use Rattle.lsm_codec.specs.Versions.{Version}
use Rattle.lsm_device.specs.Areas.{area}
use Rattle.lsm_device.specs.Disk.{Disk, Write, seen, at_rest}
use Rattle.lsm_levels.specs.Orders.{IsVersionOrder}
use Rattle.lsm_log.specs.Opened.{is_above}
use Rattle.lsm_log.proofs.Epochs.{none_above_more}
use Rattle.lsm_codec.proofs.KeyOrder.{same_keys}
use Rattle.lsm_mem.specs.Versions.{value_at, map_of}
use Rattle.lsm_mem.proofs.Maps.{get-map_of}
use Rattle.lsm_mem.specs.Versions.{joined}
use Rattle.lsm_root.specs.CrashState.{CrashState, in_next_generation}
use Rattle.lsm_open.specs.LogRegions.{first_region, one_if_some}
use Rattle.lsm_open.specs.Layout.{open_batches, IsLogAtIfOpen}
use Rattle.lsm_open.specs.Placements.{Placement, table_map, closed_in, IsHeld, Carries, state_with, present_state}
use Rattle.lsm_open.specs.Replacing.{MayReplace}
use Rattle.lsm_open.specs.Switching.{MayBeInstalled, merged, Parts, with_inputs, with_outputs, KeepsNewestOrMap, AreMerged}
use Rattle.lsm_open.specs.Tables.{versions_at, table_versions, IsTableAt}
use Rattle.lsm_open.specs.declared.regions.OpenRegion.{OpenRegion}
use Rattle.lsm_open.proofs.Flushing.{joined_versions}
use Rattle.lsm_open.proofs.FreeWrites.{held_synced, present_synced}
use Rattle.lsm_open.proofs.ListPairs.{All-left, All-right}
use Rattle.lsm_open.proofs.VersionOrders.{merge_order, merge_newest, merge_map}

abbrev Sectors : Type 0
Sectors = List (List ℕ)

abbrev Versions : Type 0
Versions = List Version

abbrev Tables : Type 0
Tables = List TableRecord

module _ (n base : ℕ) (c : Sectors) (x : Parts) (new : List TableRecord) (each : All (IsTableAt n base c) (with_inputs x)) (order : IsVersionOrder (map (versions_at n c) (with_inputs x)))
    (each_new : All (IsTableAt n base c) new) (order_new : IsVersionOrder (map (versions_at n c) new))
    (may : MayReplace (table_versions n c x.upper) (table_versions n c x.between) (table_versions n c x.lower) (table_versions n c new))
    (kept : KeepsNewestOrMap base (table_versions n c x.upper ++ table_versions n c x.lower) (table_versions n c x.behind) (table_versions n c new)) where
  abbrev places : List TableRecord → List Versions
  places ts = map (versions_at n c) ts

  inputs_places : map (versions_at n c) (with_inputs x) ≡ map (versions_at n c) x.before ++ (map (versions_at n c) x.upper ++ (map (versions_at n c) x.between ++ (map (versions_at n c) x.lower ++ map (versions_at n c) x.behind)))
  inputs_places =
      map-append (versions_at n c) x.before (x.upper ++ (x.between ++ (x.lower ++ x.behind)))
      ∙ ap (λ (l : List Versions). places x.before ++ l) (map-append (versions_at n c) x.upper (x.between ++ (x.lower ++ x.behind))
      ∙ ap (λ (l : List Versions). places x.upper ++ l) (map-append (versions_at n c) x.between (x.lower ++ x.behind)
      ∙ ap (λ (l : List Versions). places x.between ++ l) (map-append (versions_at n c) x.lower x.behind)))

  outputs_places : map (versions_at n c) (with_outputs x new) ≡ map (versions_at n c) x.before ++ (map (versions_at n c) x.between ++ (map (versions_at n c) new ++ map (versions_at n c) x.behind))
  outputs_places =
      map-append (versions_at n c) x.before (x.between ++ (new ++ x.behind))
      ∙ ap (λ (l : List Versions). places x.before ++ l) (map-append (versions_at n c) x.between (new ++ x.behind)
      ∙ ap (λ (l : List Versions). places x.between ++ l) (map-append (versions_at n c) new x.behind))

  ordered : IsVersionOrder (map (versions_at n c) x.before ++ (map (versions_at n c) x.upper ++ (map (versions_at n c) x.between ++ (map (versions_at n c) x.lower ++ map (versions_at n c) x.behind))))
  ordered = subst IsVersionOrder inputs_places order

  may_places : MayReplace (joined (map (versions_at n c) x.upper)) (joined (map (versions_at n c) x.between)) (joined (map (versions_at n c) x.lower)) (joined (map (versions_at n c) new))
  may_places =
      subst (λ (u : Versions). MayReplace u (joined (places x.between)) (joined (places x.lower)) (joined (places new))) (sym (joined_versions n c x.upper))
      (subst (λ (f : Versions). MayReplace (table_versions n c x.upper) f (joined (places x.lower)) (joined (places new))) (sym (joined_versions n c x.between))
      (subst (λ (l : Versions). MayReplace (table_versions n c x.upper) (table_versions n c x.between) l (joined (places new))) (sym (joined_versions n c x.lower))
      (subst (λ (o : Versions). MayReplace (table_versions n c x.upper) (table_versions n c x.between) (table_versions n c x.lower) o) (sym (joined_versions n c new)) may)))

  kept_places : KeepsNewestOrMap base (joined (map (versions_at n c) x.upper) ++ joined (map (versions_at n c) x.lower)) (joined (map (versions_at n c) x.behind)) (joined (map (versions_at n c) new))
  kept_places =
      subst (λ (u : Versions). KeepsNewestOrMap base (u ++ joined (places x.lower)) (joined (places x.behind)) (joined (places new))) (sym (joined_versions n c x.upper))
      (subst (λ (l : Versions). KeepsNewestOrMap base (table_versions n c x.upper ++ l) (joined (places x.behind)) (joined (places new))) (sym (joined_versions n c x.lower))
      (subst (λ (d : Versions). KeepsNewestOrMap base (table_versions n c x.upper ++ table_versions n c x.lower) d (joined (places new))) (sym (joined_versions n c x.behind))
      (subst (λ (o : Versions). KeepsNewestOrMap base (table_versions n c x.upper ++ table_versions n c x.lower) (table_versions n c x.behind) o) (sym (joined_versions n c new)) kept)))

  pub merged_order : IsVersionOrder (map (versions_at n c) (with_outputs x new))
  merged_order = subst IsVersionOrder (sym outputs_places) (merge_order (places x.before) (places x.upper) (places x.between) (places x.lower) (places x.behind) (places new) ordered may_places order_new)

  pub merged_each : All (IsTableAt n base c) (with_outputs x new)
  merged_each =
      let T : TableRecord → Type 0 = IsTableAt n base c in
      let behind_a = All-right T x.before (x.upper ++ (x.between ++ (x.lower ++ x.behind))) each in
      let behind_u = All-right T x.upper (x.between ++ (x.lower ++ x.behind)) behind_a in
      let behind_f = All-right T x.between (x.lower ++ x.behind) behind_u in
      All-append T x.before (x.between ++ (new ++ x.behind)) (All-left T x.before (x.upper ++ (x.between ++ (x.lower ++ x.behind))) each)
      (All-append T x.between (new ++ x.behind) (All-left T x.between (x.lower ++ x.behind) behind_u)
      (All-append T new x.behind each_new (All-right T x.lower x.behind behind_f)))

  same_values : (q : Bytes) → value_at (joined (map (versions_at n c) x.before ++ (map (versions_at n c) x.between ++ (map (versions_at n c) new ++ map (versions_at n c) x.behind)))) base q
      ≡ value_at (joined (map (versions_at n c) x.before ++ (map (versions_at n c) x.upper ++ (map (versions_at n c) x.between ++ (map (versions_at n c) x.lower ++ map (versions_at n c) x.behind))))) base q
  same_values = by kept_places
    where
      by : KeepsNewestOrMap base (joined (map (versions_at n c) x.upper) ++ joined (map (versions_at n c) x.lower)) (joined (map (versions_at n c) x.behind)) (joined (map (versions_at n c) new))
          → (q : Bytes) → value_at (joined (map (versions_at n c) x.before ++ (map (versions_at n c) x.between ++ (map (versions_at n c) new ++ map (versions_at n c) x.behind)))) base q
          ≡ value_at (joined (map (versions_at n c) x.before ++ (map (versions_at n c) x.upper ++ (map (versions_at n c) x.between ++ (map (versions_at n c) x.lower ++ map (versions_at n c) x.behind))))) base q
      by (inl same) = λ q. ap (option_and_then (λ (v : Version). v.value)) (merge_newest (places x.before) (places x.upper) (places x.between) (places x.lower) (places x.behind) (places new) ordered may_places base same q)
      by (inr bottom) = merge_map (places x.before) (places x.upper) (places x.between) (places x.lower) (places x.behind) (places new) ordered may_places base bottom.0 bottom.1

  -- the tables stand for the same map
  pub merged_map : map_of (table_versions n c (with_outputs x new)) base ≡ map_of (table_versions n c (with_inputs x)) base
  merged_map =
      let made : Versions = table_versions n c (with_outputs x new) in
      let was : Versions = table_versions n c (with_inputs x) in
      same_map nat_list_cmp_total same_keys (map_of made base) (map_of was base) (λ q.
      get-map_of made base q
      ∙ ap (λ (vs : Versions). value_at vs base q) (sym (joined_versions n c (with_outputs x new)) ∙ ap joined outputs_places)
      ∙ same_values q
      ∙ sym (ap (λ (vs : Versions). value_at vs base q) (sym (joined_versions n c (with_inputs x)) ∙ ap joined inputs_places))
      ∙ sym (get-map_of was base q))

module _ (p : Placement) (c : Sectors) (next_table runs : ℕ) (x : Parts) (new : List TableRecord) (held : IsHeld p (at_rest c)) (are : AreMerged p c x new) where
  each_was : All (IsTableAt p.logs.log_sectors p.logs.base c) (with_inputs x)
  each_was = subst (All (IsTableAt p.logs.log_sectors p.logs.base c)) are.was held.tables.each

  order_was : IsVersionOrder (map (versions_at p.logs.log_sectors c) (with_inputs x))
  order_was = subst (λ (ts : Tables). IsVersionOrder (map (versions_at p.logs.log_sectors c) ts)) are.was held.tables.order

  opened_by : (o : Option OpenRegion) → IsLogAtIfOpen p.logs (at_rest c) o → IsLogAtIfOpen (merged p next_table runs (with_outputs x new)).logs (at_rest c) o
  opened_by (Some o) opened = record { region = opened.region; start = opened.start; sectors = opened.sectors; epoch = omega (arith, opened.epoch); is_open = opened.is_open }
  opened_by None opened = tt

  pub merge_held : IsHeld (merged p next_table runs (with_outputs x new)) (at_rest c)
  merge_held = record {
    inside = held.inside;
    closed = λ k r lt. let is = held.closed k r lt in record { region = is.region; settled = is.settled; some = is.some; other = is.other };
    follows = held.follows;
    opened = opened_by p.logs.open_region held.opened;
    above = record {
      stands = none_above_more p.logs.generation (p.logs.generation + 1) (area first_region (3 * p.logs.log_sectors) c) (omega arith) held.above.stands;
      pends = All-nil (λ (w : Write). is_above (p.logs.generation + 1) w.bytes ≡ false);
    };
    tables = record {
      each = merged_each p.logs.log_sectors p.logs.base c x new each_was order_was are.each are.order are.may are.kept;
      order = merged_order p.logs.log_sectors p.logs.base c x new each_was order_was are.each are.order are.may are.kept;
      ascend = are.ascend;
    };
    still = λ k t lt. refl;
  }

  merge_table_map : table_map (merged p next_table runs (with_outputs x new)) c ≡ table_map p c
  merge_table_map =
      merged_map p.logs.log_sectors p.logs.base c x new each_was order_was are.each are.order are.may are.kept
      ∙ ap (λ (ts : Tables). map_of (table_versions p.logs.log_sectors c ts) p.logs.base) (sym are.was)

  -- the same in the next generation
  pub merge_state : (xs : List (List Operation)) → in_next_generation (state_with p c xs) ≡ state_with (merged p next_table runs (with_outputs x new)) c xs
  merge_state xs = ap made (sym merge_table_map)
    where
      made : Map → CrashState
      made m = record { count = p.logs.base + length (closed_in p c ++ xs); map = apply_all m (closed_in p c ++ xs); closed = length p.logs.closed + one_if_some xs; generation = p.logs.generation + 1 }

pub merge_installs : (p : Placement) (d : Disk) (next_table runs : ℕ) (x : Parts) (new : List TableRecord) → Carries d p → AreMerged p (seen d) x new
    → MayBeInstalled (merged p next_table runs (with_outputs x new)) (in_next_generation (present_state p d)) d
merge_installs p d next_table runs x new carried are =
    let held = held_synced p d carried.held in
    record {
      held = merge_held p (seen d) next_table runs x new held are;
      left_is = ap in_next_generation (sym (present_synced p d carried.held)) ∙ merge_state p (seen d) next_table runs x new held are (open_batches p.logs.open_region (seen d));
    }
