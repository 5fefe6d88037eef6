-- The largest entry, one entry more and one block more.
use Rattle.std.proofs.Common.{◌≡◌, ℕ, ◌+◌, ◌<◌, ◌≤◌, Bool, true, false, List, [], ◌∷◌, ◌++◌, length, map, take, get_or, refl, sym, ap, ◌∙◌, arith}
use Rattle.std.specs.Prelude.{ltb, if◌then◌else◌}
use Rattle.std.specs.List.{AllByRecursion}
use Rattle.std.proofs.lemmas.List.{take_more}
use Rattle.std.proofs.lemmas.Bool.{ltb-true, ltb-false}
use Rattle.lsm_codec.specs.Versions.{Version}
use Rattle.lsm_codec.specs.Entries.{entry_size}
use Rattle.lsm_table.specs.Division.{Block, entries_of}
use Rattle.lsm_table.specs.Sizes.{larger, largest_from, largest_entry}
use Rattle.lsm_table.proofs.Filters.{entries_more}

largest-append : (n : ℕ) (xs ys : List Version) → largest_from n (xs ++ ys) ≡ largest_from (largest_from n xs) ys
largest-append n [] ys = refl
largest-append n (x ∷ xs) ys = largest-append (larger n x) xs ys

pub entry_more : (start : ℕ) (entries : List Version) (i : ℕ) (v : Version) (before after : ℕ) → i < length entries → v ≡ get_or entries i v → before ≡ largest_from start (take i entries) → after ≡ larger before v → after ≡ largest_from start (take (i + 1) entries)
entry_more start entries i v before after lt is so_far grown =
    grown ∙ ap (λ (n : ℕ). larger n v) so_far ∙ ap (larger (largest_from start (take i entries))) is
    ∙ sym (ap (largest_from start) (take_more entries i v lt) ∙ largest-append start (take i entries) (get_or entries i v ∷ []))

pub block_more : {X : Type 0} (items : X → Block) (blocks : List X) (i : ℕ) (b : X) (before after : ℕ) → i < length blocks → b ≡ get_or blocks i b → before ≡ largest_entry (entries_of (map items (take i blocks))) → after ≡ largest_from before (items b) → after ≡ largest_entry (entries_of (map items (take (i + 1) blocks)))
block_more items blocks i b before after lt is so_far grown =
    let done : List Version = entries_of (map items (take i blocks)) in
    grown ∙ ap (λ (n : ℕ). largest_from n (items b)) so_far
    ∙ sym (ap largest_entry (entries_more items blocks i b lt is) ∙ largest-append 0 done (items b))

chosen_least : (n size : ℕ) (b : Bool) → ltb n size ≡ b → (n ≤ (if b then size else n)) × (size ≤ (if b then size else n))
chosen_least n size true e = (omega (arith, ltb-true n size e), omega arith)
chosen_least n size false e = (omega arith, omega (arith, ltb-false n size e))

larger_least : (n : ℕ) (v : Version) → (n ≤ larger n v) × (entry_size v ≤ larger n v)
larger_least n v = chosen_least n (entry_size v) (ltb n (entry_size v)) refl

from_least : (n : ℕ) (vs : List Version) → n ≤ largest_from n vs
from_least n [] = omega arith
from_least n (v ∷ vs) = omega (arith, from_least (larger n v) vs, (larger_least n v).0)

all_from : (n : ℕ) (vs : List Version) → AllByRecursion (λ v. entry_size v ≤ largest_from n vs) vs
all_from n [] = tt
all_from n (v ∷ vs) = (omega (arith, from_least (larger n v) vs, (larger_least n v).1), all_from (larger n v) vs)

-- no entry takes more
pub none_larger : (vs : List Version) → AllByRecursion (λ v. entry_size v ≤ largest_entry vs) vs
none_larger vs = all_from 0 vs
