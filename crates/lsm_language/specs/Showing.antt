-- What is shown of bytes that may be anything: of a line that can't be read, and of what the system says.
use Rattle.std.specs.Prelude.{ℕ, ◌&&◌, Bool, true, false, List, length, map, nat_le, take, if◌then◌else◌}
use Rattle.std.specs.List.{list_all}
use Rattle.lsm_device.specs.declared.refusal.Refusal.{Refusal}
use Rattle.lsm_device.specs.declared.refusal.Refusal.TheVariants.{Io, Stopped}

-- a byte that is shown: itself where it is printable ASCII, and else `?`
abbrev pub is_printable : ℕ → Bool
is_printable b = nat_le 32 b && nat_le b 126

abbrev pub printable : ℕ → ℕ
printable b = if is_printable b then b else 63

-- the first bytes, as they are shown
abbrev pub shown : List ℕ → List ℕ
shown bytes = map printable (take 80 bytes)

-- whether a text is such: 80 bytes at most, all of them printable, so that they stand in one line
abbrev pub is_shown : List ℕ → Bool
is_shown text = nat_le (length text) 80 && list_all is_printable text

-- whether a refusal tells of a call of the device that failed
abbrev pub is_of_device : Refusal → Bool
is_of_device Io = true
is_of_device Stopped = true
is_of_device other = false
