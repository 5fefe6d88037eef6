-- One table in the place of another.
use Rattle.std.proofs.Common.{◌≡◌, inl, ◌≤◌, Bool, true, false, ◌&&◌, List, [], ◌∷◌, length, get_or, refl, sym, ◌∙◌, subst, arith}
use Rattle.std.specs.List.{AllByRecursion}
use Rattle.lsm_levels.specs.Tables.{Table, at_most, IsRun}
use Rattle.lsm_levels.specs.Held.{IsWithin}

in_both : (a b : Bool) → (a && b) ≡ true → (a ≡ true) × (b ≡ true)
in_both true b h = (refl, h)
in_both false b h = absurd cc

-- a table that lies within the first of some is a run within them
pub one_output : (lower new : List Table) (old t : Table) (b : Bool) → 1 ≤ length lower → old ≡ get_or lower 0 old → b ≡ (at_most t.first t.last && (at_most old.first t.first && at_most t.last old.last)) → b ≡ true
    → new ≡ t ∷ [] → IsRun new × AllByRecursion (IsWithin lower) new
one_output [] new old t b some at is lies same = absurd (omega (arith, some))
one_output (x ∷ rest) new old t b some at is lies same =
    let all = in_both (at_most t.first t.last) (at_most old.first t.first && at_most t.last old.last) (sym is ∙ lies) in
    let ends = in_both (at_most old.first t.first) (at_most t.last old.last) all.1 in
    subst (λ (l : List Table). IsRun l × AllByRecursion (IsWithin (x ∷ rest)) l) (sym same)
    ((all.0, tt, tt), (record { order = all.0; a = old; b = old; first_in = inl at; first_from = ends.0; last_in = inl at; last_to = ends.1 }, tt))
