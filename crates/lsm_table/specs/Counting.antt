-- Counting blocks without making them, and where a table ends.
use Rattle.std.specs.Prelude.{◌≡◌, ℕ, ◌+◌, ◌<◌, ◌≤◌, cond, leb, List, [], ◌∷◌, ◌++◌, length, take, drop}
use Rattle.lsm_table.specs.declared.layout.Layout.{Layout}
use Rattle.lsm_codec.specs.Versions.{Version}
use Rattle.lsm_table.specs.Division.{KeepsLimits, IsTooMuch, ShareNoKey, first_group}

-- the layout with an entry of this size after the others
abbrev pub with_entry : Layout → ℕ → Layout
with_entry s size = cond (leb (s.used + size) 4096) (record { blocks = s.blocks; used = s.used + size }) (record { blocks = s.blocks + 1; used = 2 + size })

-- The first n entries are the first table.
pub record EndsTable (entries : List Version) (n : ℕ) : Type 0 where
  pub some : 0 < n
  pub inside : n ≤ length entries
  pub within : KeepsLimits (take n entries)
  pub whole_keys : ShareNoKey (take n entries) (drop n entries)
  pub greedy : 0 < length (drop n entries) → IsTooMuch (take n entries ++ first_group (drop n entries))

-- the tables of the entries have these numbers of entries, one after the other
abbrev pub EndTables : List Version → List ℕ → Type 0
EndTables entries [] = entries ≡ []
EndTables entries (n ∷ lens) = EndsTable entries n × EndTables (drop n entries) lens

-- the entries from begun up to i are of the first key that begins there
abbrev pub IsOneGroup : List Version → ℕ → ℕ → Type 0
IsOneGroup entries begun i = i ≤ begun + length (first_group (drop begun entries))

-- Of the first i entries those from begun on are of the last key.
pub record IsKeyStart (entries : List Version) (begun i : ℕ) : Type 0 where
  pub within : begun ≤ i
  pub begins : 0 < i → begun < i
  pub group : IsOneGroup entries begun i
  pub apart : 0 < begun → ShareNoKey (take begun entries) (drop begun entries)
