-- The blocks of what a merge keeps.
use Rattle.std.proofs.Common.{◌≡◌, ℕ, ◌+◌, ◌≤◌, Bool, true, false, cond, not, ◌&&◌, ◌||◌, ltb, is_some, List, [], ◌∷◌, ◌++◌, filter, Option, Some, None, append_assoc, refl, sym, ap, subst, ◌∙◌, arith, inl, inr}
use Rattle.std.specs.Prelude.{sum_by, is_none, ◌==◌}
use Rattle.std.specs.List.{list_any}
use Rattle.std.specs.declared.cmp.Ordering.{Ordering}
use Rattle.std.specs.declared.cmp.Ordering.TheVariants.{Less, Equal, Greater}
use Rattle.std.specs.FinMap.Entries.{by_order}
use Rattle.std.proofs.lemmas.Bool.{cond_both, le-ltb, eqb-true}
use Rattle.std.proofs.lemmas.List.Sums.{sum_by-cons}
use Rattle.lsm_codec.specs.Keys.{Bytes}
use Rattle.lsm_codec.specs.Versions.{Version, AreOrdered, entry_order, is_same_key, newest}
use Rattle.lsm_codec.proofs.KeyOrder.{same_key}
use Rattle.lsm_mem.specs.EntryOrder.{placed}
use Rattle.lsm_mem.specs.Ranges.{is_version}
use Rattle.lsm_table.specs.BlockCounts.{block_count, most_blocks, IsPart}
use Rattle.lsm_table.proofs.Adding.{block_laws}
use Rattle.lsm_merge.specs.Keeping.{all_placed, in_order, is_newest_at_a_cut, kept_at, is_older_put, deletes_nothing, settled, keep}
use Rattle.lsm_mem.proofs.OrderTests.{tested}
use Rattle.lsm_merge.proofs.Placing.{all_placed-nil}
use Rattle.lsm_merge.proofs.RangeLaws.{filter_cond}
use Rattle.lsm_jobs.specs.MergedBlocks.{most_put_blocks, MergedBlocksLaw}

-- the most blocks that come of a version more, where it passes
abbrev most_where : (Version → Bool) → Version → ℕ
most_where test v = cond (test v) (most_blocks v) 0

-- ---- a version is placed

one_first : (b : Bool) (v : Version) (front versions : List Version) → block_count (front ++ cond b (v ∷ versions) versions) ≤ block_count (front ++ versions) + cond b (most_blocks v) 0
one_first true v front versions = block_laws.one_more front versions v
one_first false v front versions = omega arith

one_gone : (b : Bool) (v : Version) (front versions : List Version) → block_count (front ++ versions) ≤ block_count (front ++ cond b (v ∷ versions) versions)
one_gone true v front versions = block_laws.one_less front versions v
one_gone false v front versions = omega arith

one_behind : (b : Bool) (w : Version) (front these others : List Version) (more : ℕ) → ((front : List Version) → block_count (front ++ these) ≤ block_count (front ++ others) + more)
    → block_count (front ++ cond b (w ∷ these) these) ≤ block_count (front ++ cond b (w ∷ others) others) + more
one_behind true w front these others more behind =
    omega (arith, behind (front ++ w ∷ []), ap block_count (append_assoc front (w ∷ []) these), ap block_count (append_assoc front (w ∷ []) others))
one_behind false w front these others more behind = behind front

placed_at : (test : Version → Bool) (v w : Version) (rest front : List Version) (o : Ordering)
    → ((front : List Version) → block_count (front ++ filter test (placed v rest)) ≤ block_count (front ++ filter test rest) + most_where test v)
    → block_count (front ++ filter test (by_order o (v ∷ w ∷ rest) (v ∷ rest) (w ∷ placed v rest))) ≤ block_count (front ++ filter test (w ∷ rest)) + most_where test v
placed_at test v w rest front Less behind = one_first (test v) v front (filter test (w ∷ rest))
placed_at test v w rest front Equal behind = omega (arith, one_first (test v) v front (filter test rest), one_gone (test w) w front (filter test rest))
placed_at test v w rest front Greater behind = one_behind (test w) w front (filter test (placed v rest)) (filter test rest) (most_where test v) behind

placed_blocks : (test : Version → Bool) (v : Version) (versions front : List Version) → block_count (front ++ filter test (placed v versions)) ≤ block_count (front ++ filter test versions) + most_where test v
placed_blocks test v [] front = one_first (test v) v front []
placed_blocks test v (w ∷ rest) front = placed_at test v w rest front (entry_order v w) (placed_blocks test v rest)

all_placed_blocks : (test : Version → Bool) (added versions : List Version) → block_count (filter test (all_placed added versions)) ≤ block_count (filter test versions) + sum_by (most_where test) added
all_placed_blocks test [] versions = omega arith
all_placed_blocks test (v ∷ added) versions =
    omega (arith, placed_blocks test v (all_placed added versions) [], all_placed_blocks test added versions, sum_by-cons (most_where test) v added)

-- ---- what passes is a part

pass_part : (b : Bool) (v : Version) (some all : List Version) → IsPart some all → IsPart (cond b (v ∷ some) some) (v ∷ all)
pass_part true v some all part = inl (some, refl, part)
pass_part false v some all part = inr part

pub filter_part : (test : Version → Bool) (versions : List Version) → IsPart (filter test versions) versions
filter_part test [] = refl
filter_part test (v ∷ versions) = pass_part (test v) v (filter test versions) versions (filter_part test versions)

both_part : (a b c : Bool) (v : Version) (some all : List Version) → (a ≡ true → b ≡ true → c ≡ true) → IsPart some all → IsPart (cond a (cond b (v ∷ some) some) some) (cond c (v ∷ all) all)
both_part true true true v some all pass part = inl (some, refl, part)
both_part true false true v some all pass part = inr part
both_part false b true v some all pass part = inr part
both_part true true false v some all pass part = absurd (let clash : false ≡ true = pass refl refl in cc)
both_part true false false v some all pass part = part
both_part false b false v some all pass part = part

filters_part : (first second test : Version → Bool) (versions : List Version) → ((v : Version) → first v ≡ true → second v ≡ true → test v ≡ true) → IsPart (filter second (filter first versions)) (filter test versions)
filters_part first second test [] pass = refl
filters_part first second test (v ∷ versions) pass =
    let parts = both_part (first v) (second v) (test v) v (filter second (filter first versions)) (filter test versions) (pass v) (filters_part first second test versions pass) in
    subst (λ (xs : List Version). IsPart xs (filter test (v ∷ versions))) (sym (filter_cond second (first v) v (filter first versions))) parts

-- ---- versions over a run in order

over_run : (upper lower : List Version) → AreOrdered lower → in_order (upper ++ lower) ≡ all_placed upper lower
over_run [] lower ordered = all_placed-nil lower (tested lower ordered)
over_run (v ∷ upper) lower ordered = ap (placed v) (over_run upper lower ordered)

fewer_where : (test : Version → Bool) (versions : List Version) → sum_by (most_where test) versions ≤ sum_by most_blocks versions
fewer_where test [] = omega arith
fewer_where test (v ∷ versions) = omega (arith, at_most (test v), fewer_where test versions, sum_by-cons (most_where test) v versions, sum_by-cons most_blocks v versions)
  where
    at_most : (b : Bool) → cond b (most_blocks v) 0 ≤ most_blocks v
    at_most true = omega arith
    at_most false = omega arith

passed_blocks : (test : Version → Bool) (upper lower : List Version) → AreOrdered lower → block_count (filter test (in_order (upper ++ lower))) ≤ block_count lower + sum_by (most_where test) upper
passed_blocks test upper lower ordered =
    omega (arith, all_placed_blocks test upper lower, block_laws.part (filter test lower) lower (filter_part test lower), ap (λ (xs : List Version). block_count (filter test xs)) (over_run upper lower ordered))

kept_at_blocks : (cuts : List ℕ) (upper lower : List Version) → AreOrdered lower → block_count (kept_at cuts (upper ++ lower)) ≤ block_count lower + sum_by most_blocks upper
kept_at_blocks cuts upper lower ordered =
    omega (arith, passed_blocks (is_newest_at_a_cut cuts (upper ++ lower)) upper lower ordered, fewer_where (is_newest_at_a_cut cuts (upper ++ lower)) upper)

kept_blocks : (cuts : List ℕ) (bottom : Bool) (upper lower : List Version) → AreOrdered lower → block_count (keep cuts bottom (upper ++ lower)) ≤ block_count lower + sum_by most_blocks upper
unfolding keep
kept_blocks cuts false upper lower ordered = kept_at_blocks cuts upper lower ordered
kept_blocks cuts true upper lower ordered =
    let all = kept_at cuts (upper ++ lower) in
    omega (arith, kept_at_blocks cuts upper lower ordered, block_laws.part (settled all) all (filter_part (λ v. not (deletes_nothing all v)) all))

-- ---- at the bottom, with one cut

or_false : (b : Bool) → (b || false) ≡ true → b ≡ true
or_false true is = refl
or_false false is = is

same_found : (found : Option Version) (v w : Version) → (is_version v found || false) ≡ true → (is_version w found || false) ≡ true → v.number ≡ w.number
same_found None v w is also = absurd (let clash : false ≡ true = is in cc)
same_found (Some f) v w is also =
    omega (arith, eqb-true f.number v.number (or_false (f.number == v.number) is), eqb-true f.number w.number (or_false (f.number == w.number) also))

-- two versions of one key that are the newest at the cut are one
older_at : (cut : ℕ) (versions : List Version) (v w : Version) (b : Bool) → is_same_key v.key w.key ≡ b → is_newest_at_a_cut (cut ∷ []) versions v ≡ true → is_newest_at_a_cut (cut ∷ []) versions w ≡ true
    → ((b && ltb w.number v.number) && is_some w.value) ≡ false
older_at cut versions v w false same is also = refl
older_at cut versions v w true same is also =
    let key : v.key ≡ w.key = same_key v.key w.key same in
    let again : (is_version w (newest v.key cut versions) || false) ≡ true = subst (λ (k : Bytes). (is_version w (newest k cut versions) || false) ≡ true) (sym key) also in
    let number : v.number ≡ w.number = same_found (newest v.key cut versions) v w is again in
    ap (λ (b : Bool). b && is_some w.value) (le-ltb w.number v.number (omega arith))

none_older : (cut : ℕ) (versions these : List Version) (v : Version) → is_newest_at_a_cut (cut ∷ []) versions v ≡ true → list_any (is_older_put v) (filter (is_newest_at_a_cut (cut ∷ []) versions) these) ≡ false
none_older cut versions [] v is = refl
none_older cut versions (w ∷ these) v is =
    cond_both (is_newest_at_a_cut (cut ∷ []) versions w) (w ∷ filter (is_newest_at_a_cut (cut ∷ []) versions) these) (filter (is_newest_at_a_cut (cut ∷ []) versions) these) (λ (xs : List Version). list_any (is_older_put v) xs ≡ false)
    (λ also. ap (λ (b : Bool). b || list_any (is_older_put v) (filter (is_newest_at_a_cut (cut ∷ []) versions) these)) (older_at cut versions v w (is_same_key v.key w.key) refl is also) ∙ none_older cut versions these v is)
    (λ _. none_older cut versions these v is)

-- what is left is a put
put_left : (value : Option Bytes) (older : Bool) → older ≡ false → not (is_none value && not older) ≡ true → is_some value ≡ true
put_left None older none left = absurd (let clash : false ≡ true = sym (ap (λ (b : Bool). not (not b)) none) ∙ left in cc)
put_left (Some value) older none left = refl

settled_blocks : (cut : ℕ) (upper lower : List Version) → AreOrdered lower → block_count (keep (cut ∷ []) true (upper ++ lower)) ≤ block_count lower + sum_by most_put_blocks upper
unfolding keep
settled_blocks cut upper lower ordered =
    let versions : List Version = upper ++ lower in
    let all : List Version = kept_at (cut ∷ []) versions in
    let part : IsPart (settled all) (filter (λ v. is_some v.value) (in_order versions)) =
    filters_part (is_newest_at_a_cut (cut ∷ []) versions) (λ v. not (deletes_nothing all v)) (λ v. is_some v.value) (in_order versions)
    (λ v is left. put_left v.value (list_any (is_older_put v) all) (none_older cut versions (in_order versions) v is) left) in
    omega (arith, block_laws.part (settled all) (filter (λ v. is_some v.value) (in_order versions)) part, passed_blocks (λ v. is_some v.value) upper lower ordered)

pub merged_blocks_law : MergedBlocksLaw
merged_blocks_law = record { kept = kept_blocks; settled = settled_blocks }
