-- When a run of outputs lies within what a merge took in.
use Rattle.std.proofs.Common.{◌≡◌, ℕ, ◌+◌, ◌&&◌, Bool, true, List, length, get_or, Some, sym, ◌∙◌, ap, IsTrue}
use Rattle.std.specs.List.{AllByRecursion, list_any}
use Rattle.std.proofs.lemmas.Bool.{and_from, and_parts}
use Rattle.lsm_codec.specs.Keys.{Bytes}
use Rattle.lsm_levels.proofs.HullLaws.{hull_covers, hull_ends}
use Rattle.lsm_levels.proofs.KeyOrder.{at_most_trans}
use Rattle.lsm_levels.proofs.Members.{any_of, of_any}
use Rattle.lsm_levels.proofs.Ranges.{all_of, of_all, run_order}
use Rattle.lsm_levels.proofs.RunHulls.{hull_by_ends}
use Rattle.lsm_levels.specs.Held.{IsWithin}
use Rattle.lsm_levels.specs.Tables.{Table, KeyRange, at_most, hull, IsRun}

-- whether one of the tables begins at a range's first key or before it, and one ends at its last key or after it
abbrev pub are_around : List Table → KeyRange → Bool
are_around inputs range = list_any (λ t. at_most t.first range.first) inputs && list_any (λ t. at_most range.last t.last) inputs

module _ (inputs run : List Table) (range : KeyRange) (is : IsRun run) (hull_is : hull run ≡ Some range) where
  -- then each table of a run with that hull lies within them
  pub within_by : are_around inputs range ≡ true → AllByRecursion (IsWithin inputs) run
  within_by around =
      let both = and_parts (list_any (λ t. at_most t.first range.first) inputs) (list_any (λ t. at_most range.last t.last) inputs) around in
      let a = of_any (λ (t : Table). at_most t.first range.first) inputs both.0 in
      let b = of_any (λ (t : Table). at_most range.last t.last) inputs both.1 in
      all_of (IsWithin inputs) run (λ t there. record {
        order = run_order run is t there;
        a = a.0;
        b = b.0;
        first_in = a.1;
        first_from = at_most_trans a.0.first range.first t.first a.2 (hull_covers run range hull_is t there).0;
        last_in = b.1;
        last_to = at_most_trans t.last range.last b.0.last (hull_covers run range hull_is t there).1 b.2;
      })

  -- and only then
  pub around_by : AllByRecursion (IsWithin inputs) run → are_around inputs range ≡ true
  around_by all =
      let ends = hull_ends run range hull_is in
      let first = of_all (IsWithin inputs) run all ends.a ends.a_in in
      let last = of_all (IsWithin inputs) run all ends.b ends.b_in in
      and_from (list_any (λ t. at_most t.first range.first) inputs) (list_any (λ t. at_most range.last t.last) inputs)
      (any_of (λ (t : Table). at_most t.first range.first) first.a inputs first.first_in (ap (at_most first.a.first) (sym ends.first) ∙ first.first_from))
      (any_of (λ (t : Table). at_most range.last t.last) last.b inputs last.last_in (ap (λ key. at_most key last.b.last) (sym ends.last) ∙ last.last_to))

-- a test of the first key of the first table and the last of the last one tells it
pub told_by_ends : (inputs run : List Table) (a b : Table) (i : ℕ) (first last : Bytes) (x : Bool) → IsRun run → i + 1 ≡ length run → a ≡ get_or run 0 a → b ≡ get_or run i b → first ≡ a.first → last ≡ b.last
    → x ≡ (list_any (λ t. at_most t.first first) inputs && list_any (λ t. at_most last t.last) inputs)
    → (IsTrue x → AllByRecursion (IsWithin inputs) run) × (AllByRecursion (IsWithin inputs) run → IsTrue x)
told_by_ends inputs run a b i first last x is count at_first at_last first_is last_is tested =
    let range : KeyRange = record { first = a.first; last = b.last } in
    let hull_is : hull run ≡ Some range = sym (hull_by_ends run a b i is count at_first at_last) in
    let around : x ≡ are_around inputs range = tested ∙ (λ j. list_any (λ (t : Table). at_most t.first (first_is j)) inputs && list_any (λ (t : Table). at_most (last_is j) t.last) inputs) in
    (λ yes. within_by inputs run range is hull_is (sym around ∙ yes), λ all. around ∙ around_by inputs run range is hull_is all)
