-- The limits of sizes.
use Rattle.std.specs.Prelude.{ℕ, ◌+◌, ◌*◌, ◌&&◌, Bool, nat_le}

-- `IsGeometry` as a test: 8,192 to 1,048,576 sectors of the device, 128 to 2,048 of each log region
abbrev pub is_geometry : ℕ → ℕ → Bool
is_geometry sectors log = (nat_le 8192 sectors && nat_le sectors 1048576) && (nat_le 128 log && nat_le log 2048)

-- The limits of a storm: 1 to 2,048 commits of all clients together, and at most 64 clients and workers.
abbrev pub is_load : ℕ → ℕ → ℕ → Bool
is_load clients commits workers = (nat_le 1 (clients * commits) && nat_le (clients * commits) 2048) && nat_le (clients + workers) 64
