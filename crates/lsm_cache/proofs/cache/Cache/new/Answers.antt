use Rattle.std.proofs.Common.{◌≡◌, refl}
use Rattle.std.specs.NonZero.{non_zero_usize_get}
use Rattle.lsm_cache.proofs.cache.Cache.new.Goals as goal

pub returns : goal.returns
returns g c =
    let size : non_zero_usize_get c.unwrap-capacity.result ≡ c.args.capacity = rw c.unwrap-capacity.ensures at c.new.ensures in
    rw (c.in_ok-blocks.ensures, size) refl
