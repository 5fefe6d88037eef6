-- Laws of filters.
use Rattle.std.specs.Prelude.{◌≡◌, ℕ, ◌<◌, true, List, ◌∷◌, [], ◌++◌, length, All, Contains}
use Rattle.lsm_filter.specs.Bits.{is_set, is_perhaps, with_key, filter_of, is_probed}

-- A filter is one block of bytes. Each of its keys is perhaps in it, and a bit is set exactly where one of them has it. It
-- can be built key by key, and neither order nor number of the keys matters.
pub record FilterLaws : Type 0 where
  pub whole : (keys : List (List ℕ)) → length (filter_of keys) ≡ 4096
  pub bytes : (keys : List (List ℕ)) → All (λ byte. byte < 256) (filter_of keys)
  pub members : (keys : List (List ℕ)) (key : List ℕ) → Contains keys key → is_perhaps (filter_of keys) key ≡ true
  pub exact : (keys : List (List ℕ)) (bit : ℕ) → bit < 32768 → is_set (filter_of keys) bit ≡ is_probed keys bit
  pub more : (keys : List (List ℕ)) (key : List ℕ) → filter_of (keys ++ key ∷ []) ≡ with_key (filter_of keys) key
  pub same : (keys others : List (List ℕ)) → ((key : List ℕ) → Contains keys key → Contains others key)
      → ((key : List ℕ) → Contains others key → Contains keys key) → filter_of keys ≡ filter_of others
