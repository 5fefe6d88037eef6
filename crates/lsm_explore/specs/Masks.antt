-- Which subsets of pending writes are kept by the crashes that are tried.
use Rattle.std.specs.Prelude.{ℕ, zero, suc, nat_lt, Bool, true, false, not, List, [], ◌∷◌, ◌++◌, map, replicate, if◌then◌else◌}

-- each subset of n writes
abbrev pub each_mask : ℕ → List (List Bool)
each_mask zero = [] ∷ []
each_mask (suc n) = map (λ mask. mask ++ false ∷ []) (each_mask n) ++ map (λ mask. mask ++ true ∷ []) (each_mask n)

-- of n writes every second one, the first of them where it is to be kept
abbrev pub every_second : Bool → ℕ → List Bool
every_second keep zero = []
every_second keep (suc n) = keep ∷ every_second (not keep) n

-- no write, all, and every second one from the first on
abbrev pub three_masks : ℕ → List (List Bool)
three_masks n = [] ∷ replicate n true ∷ every_second true n ∷ []

-- more writes than those of which each subset is tried
abbrev pub is_skipped : ℕ → Bool
is_skipped n = nat_lt 12 n

-- the masks that are tried where n writes pend
abbrev pub masks_for : ℕ → List (List Bool)
masks_for n = if is_skipped n then three_masks n else each_mask n
