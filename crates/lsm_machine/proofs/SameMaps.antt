-- Maps of versions.
use Rattle.std.proofs.Common.{◌≡◌, ℕ, List, sym, ◌∙◌}
use Rattle.std.specs.Cmp.Lexicographic.{nat_list_cmp_total}
use Rattle.std.specs.FinMap.{same_map}
use Rattle.lsm_codec.specs.Keys.{Bytes}
use Rattle.lsm_codec.specs.Versions.{Version}
use Rattle.lsm_codec.proofs.KeyOrder.{same_keys}
use Rattle.lsm_mem.specs.Versions.{value_at, map_of}
use Rattle.lsm_mem.proofs.Maps.{get-map_of}

-- maps of versions with the same values are equal
pub map_of-values : (n m : ℕ) (vs ws : List Version) → ((q : Bytes) → value_at vs n q ≡ value_at ws m q) → map_of vs n ≡ map_of ws m
map_of-values n m vs ws h = same_map nat_list_cmp_total same_keys (map_of vs n) (map_of ws m) (λ q. get-map_of vs n q ∙ h q ∙ sym (get-map_of ws m q))
