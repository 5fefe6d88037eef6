-- Of a key no more versions are kept than there are cuts.
use Rattle.std.proofs.Common.{◌≡◌, ℕ, ◌+◌, ◌<◌, ◌≤◌, Bool, true, false, cond, not, ◌||◌, ◌==◌, List, [], ◌∷◌, length, filter, Option, Some, None, refl, ap, sym, ◌∙◌, arith}
use Rattle.std.specs.Prelude.{count_by}
use Rattle.std.proofs.lemmas.Bool.{eqb-true, ne_eqb}
use Rattle.lsm_table.specs.Division.{IsInput}
use Rattle.lsm_codec.specs.Keys.{Bytes}
use Rattle.lsm_codec.specs.Versions.{Version, is_same_key, newest}
use Rattle.lsm_mem.specs.Ranges.{is_version}
use Rattle.lsm_codec.proofs.KeyOrder.{same_key}
use Rattle.lsm_merge.specs.Keeping.{in_order, is_newest_at_a_cut, deletes_nothing, kept_at, keep}
use Rattle.lsm_mem.proofs.OrderTests.{is_in_order, in_order_cons}
use Rattle.lsm_merge.specs.Inputs.{MergeInput, IsCuts, kept_of}
use Rattle.lsm_mem.specs.Versions.{joined}
use Rattle.lsm_mem.proofs.Orders.{older_number}
use Rattle.lsm_mem.proofs.FirstLaws.{in_order_skip, first_less}
use Rattle.lsm_merge.proofs.RangeLaws.{is_in_order-in_order, is_in_order-keep}
use Rattle.lsm_mem.proofs.FirstLaws.{is_in_order-filter}
use Rattle.lsm_mem.proofs.OrderTests.{tested, ordered_tested}
use Rattle.lsm_table.proofs.Ends.{count-cons}

abbrev of_key : Bytes → Version → Bool
of_key key v = is_same_key key v.key

-- 1 for a version of the key that passes
abbrev one : Bool → Bool → ℕ
one passes is_version_of = cond passes (cond is_version_of 1 0) 0

-- how many versions of a key pass
abbrev passing : Bytes → (Version → Bool) → List Version → ℕ
passing key test [] = 0
passing key test (v ∷ rest) = one (test v) (of_key key v) + passing key test rest

counted_at : (key : Bytes) (v : Version) (kept : List Version) (n : ℕ) (b : Bool) → count_by (of_key key) kept ≡ n → count_by (of_key key) (cond b (v ∷ kept) kept) ≡ one b (of_key key v) + n
counted_at key v kept n true e = count-cons (of_key key) v kept ∙ ap (λ (m : ℕ). cond (of_key key v) 1 0 + m) e
counted_at key v kept n false e = let goal : count_by (of_key key) kept ≡ 0 + n = omega (arith, e) in goal

counted : (key : Bytes) (test : Version → Bool) (versions : List Version) → count_by (of_key key) (filter test versions) ≡ passing key test versions
counted key test [] = refl
counted key test (v ∷ rest) = counted_at key v (filter test rest) (passing key test rest) (test v) (counted key test rest)

either : (a b m : Bool) → one (a || b) m ≤ one a m + one b m
either true true true = omega arith
either true true false = omega arith
either true false true = omega arith
either true false false = omega arith
either false true true = omega arith
either false true false = omega arith
either false false m = omega arith

passing-either : (key : Bytes) (t u : Version → Bool) (versions : List Version) → passing key (λ v. t v || u v) versions ≤ passing key t versions + passing key u versions
passing-either key t u [] = omega arith
passing-either key t u (v ∷ rest) =
    let here = either (t v) (u v) (of_key key v) in
    let on = passing-either key t u rest in
    omega (arith, here, on)

passing-none : (key : Bytes) (versions : List Version) → passing key (λ v. false) versions ≡ 0
passing-none key [] = refl
passing-none key (v ∷ rest) = let on = passing-none key rest in omega (arith, on)

-- of versions in order those after one of a key have other numbers
none_later_at : (f v w : Version) (b : Bool) → f.number ≡ v.number → (b ≡ true → w.number < v.number) → one (is_version w (Some f)) b ≡ 0
none_later_at f v w true same older =
    let less = older refl in
    let other : (f.number == w.number) ≡ false = ne_eqb f.number w.number (λ e. omega (arith, less, same, e)) in
    ap (λ (t : Bool). one t true) other
none_later_at f v w false same older = nothing (f.number == w.number)
  where
    nothing : (t : Bool) → one t false ≡ 0
    nothing true = refl
    nothing false = refl

none_later : (key : Bytes) (f v : Version) (rest : List Version) → is_in_order (v ∷ rest) ≡ true → of_key key v ≡ true → f.number ≡ v.number → passing key (λ w. is_version w (Some f)) rest ≡ 0
none_later key f v [] order of same = refl
none_later key f v (w ∷ rest) order of same =
    let here = none_later_at f v w (of_key key w) same (λ is. older_number key v w (first_less v w rest order) of is) in
    let on = none_later key f v rest (in_order_skip v w rest order) of same in
    omega (arith, here, on)

-- of a key one version at most is the one that was found
once_at : (key : Bytes) (f v : Version) (rest : List Version) (t b : Bool) → is_version v (Some f) ≡ t → of_key key v ≡ b → is_in_order (v ∷ rest) ≡ true → passing key (λ w. is_version w (Some f)) rest ≤ 1 → one t b + passing key (λ w. is_version w (Some f)) rest ≤ 1
once_at key f v rest true true is of order on =
    let none = none_later key f v rest order of (eqb-true f.number v.number is) in
    omega (arith, none)
once_at key f v rest true false is of order on = omega (arith, on)
once_at key f v rest false b is of order on = omega (arith, on)

once : (key : Bytes) (found : Option Version) (versions : List Version) → is_in_order versions ≡ true → passing key (λ v. is_version v found) versions ≤ 1
once key None versions order = let none = passing-none key versions in omega (arith, none)
once key (Some f) [] order = omega arith
once key (Some f) (v ∷ rest) order =
    once_at key f v rest (is_version v (Some f)) (of_key key v) refl refl order (once key (Some f) rest (in_order_cons v rest order).1)

same_found_at : (key : Bytes) (n : ℕ) (all : List Version) (v : Version) (b : Bool) → of_key key v ≡ b → one (is_version v (newest v.key n all)) b ≡ one (is_version v (newest key n all)) b
same_found_at key n all v true of = ap (λ (k : Bytes). one (is_version v (newest k n all)) true) (sym (same_key key v.key of))
same_found_at key n all v false of = nothing (is_version v (newest v.key n all)) ∙ sym (nothing (is_version v (newest key n all)))
  where
    nothing : (t : Bool) → one t false ≡ 0
    nothing true = refl
    nothing false = refl

same_found : (key : Bytes) (n : ℕ) (all versions : List Version) → passing key (λ v. is_version v (newest v.key n all)) versions ≡ passing key (λ v. is_version v (newest key n all)) versions
same_found key n all [] = refl
same_found key n all (v ∷ rest) =
    let here = same_found_at key n all v (of_key key v) refl in
    let on = same_found key n all rest in
    omega (arith, here, on)

at_most_cuts : (key : Bytes) (cuts : List ℕ) (all versions : List Version) → is_in_order versions ≡ true → passing key (is_newest_at_a_cut cuts all) versions ≤ length cuts
at_most_cuts key [] all versions order = let none = passing-none key versions in omega (arith, none)
at_most_cuts key (n ∷ cuts) all versions order =
    let split = passing-either key (λ v. is_version v (newest v.key n all)) (is_newest_at_a_cut cuts all) versions in
    let here = same_found key n all versions in
    let first = once key (newest key n all) versions order in
    let on = at_most_cuts key cuts all versions order in
    omega (arith, split, here, first, on)

fewer_at : (a m : Bool) → one a m ≤ cond m 1 0
fewer_at true true = omega arith
fewer_at true false = omega arith
fewer_at false true = omega arith
fewer_at false false = omega arith

fewer : (key : Bytes) (test : Version → Bool) (versions : List Version) → passing key test versions ≤ count_by (of_key key) versions
fewer key test [] = omega arith
fewer key test (v ∷ rest) =
    let here = fewer_at (test v) (of_key key v) in
    let on = fewer key test rest in
    let all = count-cons (of_key key) v rest in
    omega (arith, here, on, all)

few_at_cuts : (key : Bytes) (cuts : List ℕ) (versions : List Version) → count_by (of_key key) (kept_at cuts versions) ≤ length cuts
few_at_cuts key cuts versions =
    let kept = counted key (is_newest_at_a_cut cuts versions) (in_order versions) in
    let few = at_most_cuts key cuts versions (in_order versions) (is_in_order-in_order versions) in
    omega (arith, kept, few)

few_kept : (key : Bytes) (cuts : List ℕ) (bottom : Bool) (versions : List Version) → count_by (of_key key) (keep cuts bottom versions) ≤ length cuts
unfolding keep
few_kept key cuts true versions =
    let kept = kept_at cuts versions in
    let settling = counted key (λ v. not (deletes_nothing kept v)) kept in
    let less = fewer key (λ v. not (deletes_nothing kept v)) kept in
    let few = few_at_cuts key cuts versions in
    omega (arith, settling, less, few)
few_kept key cuts false versions = few_at_cuts key cuts versions

-- what is kept can be divided into tables
pub kept-IsInput : (input : MergeInput) → IsCuts input.cuts → IsInput (kept_of input)
kept-IsInput input cuts = record {
  ordered = ordered_tested (kept_of input) (is_in_order-keep input.cuts input.bottom (joined input.runs));
  few = λ key. let few = few_kept key input.cuts input.bottom (joined input.runs) in let most = cuts.at_most in omega (arith, few, most);
}

-- so can what a test passes of it
pub filtered-IsInput : (test : Version → Bool) (entries : List Version) → IsInput entries → IsInput (filter test entries)
filtered-IsInput test entries is = record {
  ordered = ordered_tested (filter test entries) (is_in_order-filter test entries (tested entries is.ordered));
  few = λ key. let kept = counted key test entries in let less = fewer key test entries in let most = is.few key in omega (arith, kept, less, most);
}
