-- Deletes of entries, one entry more and one block more.
use Rattle.std.proofs.Common.{◌≡◌, ℕ, ◌+◌, ◌<◌, ◌≤◌, List, [], ◌∷◌, ◌++◌, length, map, take, drop, get_or, Option, Some, None, sym, ap, ◌∙◌, arith}
use Rattle.std.proofs.lemmas.List.{take_more, take-append-drop, map-append, length-append, length-take}
use Rattle.std.proofs.lemmas.Grind.{flat_map-append}
use Rattle.std.proofs.lemmas.List.Sums.{sum_by-append, sum_by-take-le}
use Rattle.lsm_codec.specs.Keys.{Bytes}
use Rattle.lsm_codec.specs.Versions.{Version, one_if_none, deletes_in}
use Rattle.lsm_table.specs.Division.{Block, entries_of}
use Rattle.lsm_table.proofs.Filters.{entries_more}

at_most_one : (value : Option Bytes) → one_if_none value ≤ 1
at_most_one None = omega arith
at_most_one (Some value) = omega arith

one_more : (vs : List Version) (v : Version) → deletes_in (vs ++ v ∷ []) ≡ deletes_in vs + one_if_none v.value
one_more vs v = omega (arith, sum_by-append (λ (w : Version). one_if_none w.value) vs (v ∷ []))

-- no more deletes than entries
pub few_deletes : (vs : List Version) → deletes_in vs ≤ length vs
few_deletes [] = omega arith
few_deletes (v ∷ vs) = omega (arith, few_deletes vs, at_most_one v.value, sum_by-append (λ (w : Version). one_if_none w.value) (v ∷ []) vs)

-- nor are there more in the first i
pub few_taken : (vs : List Version) (i : ℕ) → deletes_in (take i vs) ≤ length vs
few_taken vs i = omega (arith, sum_by-take-le (λ (w : Version). one_if_none w.value) vs i, few_deletes vs)

pub taken_few : (vs : List Version) (i : ℕ) → deletes_in (take i vs) ≤ i
taken_few vs i = omega (arith, few_deletes (take i vs), length-take i vs)

pub entry_more : (entries : List Version) (i : ℕ) (v : Version) (before : ℕ) → i < length entries → v ≡ get_or entries i v → before ≡ deletes_in (take i entries) → before + one_if_none v.value ≡ deletes_in (take (i + 1) entries)
entry_more entries i v before lt is so_far =
    let next : take (i + 1) entries ≡ take i entries ++ v ∷ [] = take_more entries i v lt ∙ ap (λ (w : Version). take i entries ++ w ∷ []) (sym is) in
    omega (arith, so_far, one_more (take i entries) v, ap deletes_in next)

pub block_more : {X : Type 0} (items : X → Block) (blocks : List X) (i : ℕ) (b : X) (before : ℕ) → i < length blocks → b ≡ get_or blocks i b → before ≡ deletes_in (entries_of (map items (take i blocks)))
    → before + deletes_in (items b) ≡ deletes_in (entries_of (map items (take (i + 1) blocks)))
block_more items blocks i b before lt is so_far =
    omega (arith, so_far, sum_by-append (λ (w : Version). one_if_none w.value) (entries_of (map items (take i blocks))) (items b), ap deletes_in (entries_more items blocks i b lt is))

-- no more deletes in the first i blocks than entries in all
pub few_in_blocks : {X : Type 0} (items : X → Block) (blocks : List X) (i : ℕ) → deletes_in (entries_of (map items (take i blocks))) ≤ length (entries_of (map items blocks))
few_in_blocks items blocks i =
    let first : List Version = entries_of (map items (take i blocks)) in
    let rest : List Version = entries_of (map items (drop i blocks)) in
    let whole : entries_of (map items blocks) ≡ first ++ rest =
    ap (λ bs. entries_of (map items bs)) (sym (take-append-drop i blocks)) ∙ ap entries_of (map-append items (take i blocks) (drop i blocks)) ∙ flat_map-append (λ block. block) (map items (take i blocks)) (map items (drop i blocks)) in
    omega (arith, few_deletes first, ap (λ (es : List Version). length es) whole, length-append first rest)
