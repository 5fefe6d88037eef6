-- The regions after a rotation.
use Rattle.std.proofs.Common.{◌≡◌, ℕ, ◌+◌, ◌≤◌, List, length, Some, None, refl, sym, ◌∙◌, ap, subst, arith}
use Rattle.std.specs.Prelude.{Option, option_map}
use Rattle.lsm_codec.specs.declared.log_record.LogRecord.{LogRecord}
use Rattle.lsm_open.specs.Layout.{Layout, open_records}
use Rattle.lsm_open.specs.Reopening.{least_free, IsNewIfOpen}
use Rattle.lsm_open.specs.Switching.{IsInLeastFree, IsRotated}
use Rattle.lsm_open.specs.declared.regions.OpenRegion.{OpenRegion}
use Rattle.lsm_open.proofs.NextManifests.{none_free}

-- besides the region of the open log another is free
one_at_most : (x : Option OpenRegion) → length (open_records x) ≤ 1
one_at_most (Some o) = omega arith
one_at_most None = omega arith

some_open : (x o : Option OpenRegion) → option_map (λ (o : OpenRegion). o.region) o ≡ least_free (open_records x) → (new : OpenRegion) × (o ≡ Some new)
some_open x (Some new) is = (new, refl)
some_open x None is = absurd (omega (arith, one_at_most x, none_free (open_records x) (omega (arith, one_at_most x)) (sym is)))

pub rotated_regions : (l : Layout) (count generation : ℕ) (closed : List LogRecord) (o : Option OpenRegion) → closed ≡ open_records l.open_region → generation ≡ l.generation + 1
    → option_map (λ (o : OpenRegion). o.region) o ≡ least_free closed → IsNewIfOpen l.log_sectors generation count o → IsRotated l count (record l { generation = generation; closed = closed; open_region = o })
rotated_regions l count generation closed o same next least new =
    let found = some_open l.open_region o (least ∙ ap least_free same) in
    record {
      new_log = found.0;
      least = subst (λ (x : Option OpenRegion). IsInLeastFree l.log_sectors (l.generation + 1) count (open_records l.open_region) x) found.1
          (record { least = least ∙ ap least_free same; new_log = subst (λ (g : ℕ). IsNewIfOpen l.log_sectors g count o) next new });
      layout = λ i. record l { generation = next i; closed = same i; open_region = found.1 i };
    }
