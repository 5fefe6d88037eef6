use Rattle.std.proofs.Common.{◌≡◌, ◌++◌, ◌∷◌, [], map, drop}
use Rattle.lsm_explore.proofs.masks.add_longer.Given as goal

-- with those of the masks that are left, they are those at the end
abbrev pub invariant-loop-mask : goal.invariant-loop-mask
invariant-loop-mask g l = map (λ mask. mask.items) l.more.items ++ map (λ mask. mask ++ l.last ∷ []) (map (λ mask. mask.items) (drop l.mask-index l.masks))
    ≡ map (λ mask. mask.items) l.fn.more.items ++ map (λ mask. mask ++ l.last ∷ []) (map (λ mask. mask.items) l.masks)
