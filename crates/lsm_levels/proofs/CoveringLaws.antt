-- The table of a run whose range has a key.
use Rattle.std.proofs.Common.{◌≡◌, Bool, true, false, cond, ◌&&◌, List, [], ◌∷◌, filter, slice_get, Some, None, refl, ap, ◌∙◌}
use Rattle.std.specs.List.{AllByRecursion}
use Rattle.std.proofs.lemmas.Option.{same_Some}
use Rattle.lsm_codec.specs.Keys.{Bytes}
use Rattle.lsm_levels.specs.Tables.{Table, at_most, is_below, IsRun}
use Rattle.lsm_levels.specs.Asking.{covers, covering}
use Rattle.lsm_levels.proofs.KeyOrder.{below_not, below_at_most, not_below, below_then}

-- the tables of a run that end at a key or after it
abbrev ending : Bytes → List Table → List Table
ending key run = filter (λ t. at_most key t.last) run

begins_late : (key : Bytes) (t : Table) → at_most t.first key ≡ false → covers key t ≡ false
begins_late key t h = by (at_most key t.last)
  where
    by : (b : Bool) → (b && at_most t.first key) ≡ false
    by true = h
    by false = refl

all_late : (key : Bytes) (run : List Table) → AllByRecursion (λ t. at_most t.first key ≡ false) run → covering key run ≡ None
all_late key [] h = refl
all_late key (t ∷ rest) h = ap (λ b. cond b (Some t) (covering key rest)) (begins_late key t h.0) ∙ all_late key rest h.1

-- tables that come after a table which begins after a key
later_late : (key : Bytes) (t : Table) (rest : List Table) → at_most t.first t.last ≡ true → at_most t.first key ≡ false → AllByRecursion (λ u. is_below t.last u.first ≡ true) rest → AllByRecursion (λ u. at_most u.first key ≡ false) rest
later_late key t [] order late h = tt
later_late key t (u ∷ rest) order late h =
    let above : is_below key t.first ≡ true = not_below key t.first late in
    let beyond : is_below key u.first ≡ true = below_then key t.last u.first (below_then key t.first t.last above order) (below_at_most t.last u.first h.0) in
    (below_not key u.first beyond, later_late key t rest order late h.1)

-- the first table that doesn't end before a key begins by it
pub covered : (key : Bytes) (run : List Table) (t : Table) → slice_get (ending key run) 0 ≡ Some t → at_most t.first key ≡ true → covering key run ≡ Some t
covered key [] t e h = absurd cc
covered key (u ∷ rest) t e h = elim (at_most key u.last) as (λ b. slice_get (cond b (u ∷ ending key rest) (ending key rest)) 0 ≡ Some t → cond (b && at_most u.first key) (Some u) (covering key rest) ≡ Some t) [
  | true ↦ λ e.
      let same : u ≡ t = same_Some u t e in
      ap (λ b. cond b (Some u) (covering key rest)) (ap (λ (x : Table). at_most x.first key) same ∙ h) ∙ e
  | false ↦ λ e. covered key rest t e h
] e

-- it begins after it
pub uncovered : (key : Bytes) (run : List Table) (t : Table) → IsRun run → slice_get (ending key run) 0 ≡ Some t → at_most t.first key ≡ false → covering key run ≡ None
uncovered key [] t r e h = absurd cc
uncovered key (u ∷ rest) t r e h = elim (at_most key u.last) as (λ b. slice_get (cond b (u ∷ ending key rest) (ending key rest)) 0 ≡ Some t → cond (b && at_most u.first key) (Some u) (covering key rest) ≡ None) [
  | true ↦ λ e.
      let late : at_most u.first key ≡ false = ap (λ (x : Table). at_most x.first key) (same_Some u t e) ∙ h in
      ap (λ b. cond b (Some u) (covering key rest)) late ∙ all_late key rest (later_late key u rest r.0 late r.1)
  | false ↦ λ e. uncovered key rest t r.2 e h
] e

-- all end before it
pub all_early : (key : Bytes) (run : List Table) → slice_get (ending key run) 0 ≡ None → covering key run ≡ None
all_early key [] e = refl
all_early key (u ∷ rest) e = elim (at_most key u.last) as (λ b. slice_get (cond b (u ∷ ending key rest) (ending key rest)) 0 ≡ None → cond (b && at_most u.first key) (Some u) (covering key rest) ≡ None) [
  | true ↦ λ e. absurd cc
  | false ↦ λ e. all_early key rest e
] e
