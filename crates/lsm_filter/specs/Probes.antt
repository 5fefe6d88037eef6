-- The bits of a key in a filter.
use Rattle.std.specs.Prelude.{ℕ, ◌+◌, ◌*◌, ◌/◌, ◌%◌, ◌^◌, List, [], ◌∷◌, map, fold, bit_or, bit_xor}

-- the hash of a key with a byte more: exclusive-or with the byte, then times the prime
abbrev pub fnv_step : ℕ → ℕ → ℕ
fnv_step hash byte = (bit_xor hash byte * 1099511628211) % 2 ^ 64

-- the hash of a key: FNV-1a of 64 bits
abbrev pub fnv_hash : List ℕ → ℕ
fnv_hash key = fold fnv_step 14695981039346656037 key

-- the bit that a hash gives in a turn: from its lower half on, in steps of its upper half with the lowest bit set
unfoldable pub probe : ℕ → ℕ → ℕ
probe hash turn = (hash % 2 ^ 32 + turn * bit_or (hash / 2 ^ 32) 1) % 32768

-- the seven turns of a key
abbrev pub turns : List ℕ
turns = 0 ∷ 1 ∷ 2 ∷ 3 ∷ 4 ∷ 5 ∷ 6 ∷ []

-- the bits of a key
abbrev pub probes : List ℕ → List ℕ
probes key = map (probe (fnv_hash key)) turns
