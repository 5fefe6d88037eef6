-- A merge keeps the maps at its cuts.
use Rattle.std.proofs.Common.{◌≡◌, ◌⊎◌, inl, inr, ℕ, ◌≤◌, suc, zero, ◌<◌, Bool, true, false, cond, not, ◌&&◌, ◌||◌, leb, ltb, List, [], ◌∷◌, length, get_or, filter, Option, Some, None, refl, ap, sym, subst, ◌∙◌, arith}
use Rattle.std.specs.Prelude.{is_none, is_some, option_and_then}
use Rattle.std.specs.List.{list_any, All, Contains, AllByRecursion}
use Rattle.std.proofs.lemmas.Bool.{and_parts, or_left, or_right, eq-eqb, not-true, le-leb}
use Rattle.std.proofs.lemmas.List.Elements.{All-weaker, All-filter, All-contains_itself, All-from_recursion, recursion_from_All, filter_passes}
use Rattle.std.specs.declared.cmp.Ordering.{Ordering}
use Rattle.std.specs.declared.cmp.Ordering.TheVariants.{Less, Equal, Greater}
use Rattle.std.specs.Ordering.{is_eq, ordering_then, nat_cmp}
use Rattle.lsm_codec.specs.Keys.{Bytes, byte_order}
use Rattle.lsm_codec.specs.Versions.{Version, is_same_key, entry_order, newer_of, newest, is_version_of}
use Rattle.lsm_mem.specs.Versions.{value_at, map_of, NumberedAtMost}
use Rattle.lsm_mem.specs.Ranges.{is_version}
use Rattle.lsm_codec.proofs.KeyOrder.{is_lt_Less, same_key}
use Rattle.lsm_merge.specs.Keeping.{in_order, is_newest_at_a_cut, kept_at, is_older_put, deletes_nothing, settled, keep}
use Rattle.lsm_merge.specs.Loops.{starts_with_key}
use Rattle.lsm_mem.proofs.OrderTests.{is_before, is_in_order, in_order_cons}
use Rattle.lsm_merge.specs.Laws.{IsKeptAt, HaveSameMap, KeepLaw}
use Rattle.std.specs.Cmp.Lexicographic.{nat_list_cmp_total}
use Rattle.std.specs.FinMap.{same_map}
use Rattle.lsm_codec.proofs.KeyOrder.{same_keys}
use Rattle.lsm_codec.proofs.Lists.{all_filter}
use Rattle.lsm_mem.proofs.Batches.{all_placed as each_placed}
use Rattle.lsm_mem.proofs.Maps.{get-map_of}
use Rattle.lsm_mem.proofs.OrderTests.{ordered_tested}
use Rattle.lsm_mem.proofs.Orders.{same_key-from}
use Rattle.lsm_merge.proofs.NewestLaws.{newest-in_order}
use Rattle.lsm_mem.proofs.FirstLaws.{first_at, newest-first, is_version_of-key, first-filter, first_key}
use Rattle.lsm_merge.proofs.RangeLaws.{any_cond, is_in_order-in_order, is_in_order-keep}
use Rattle.lsm_mem.proofs.FirstLaws.{is_before-filter, is_in_order-filter}
use Rattle.lsm_merge.proofs.SettledLaws.{from_the_back, settled-from_the_back, Far, none, more, far_from}

any_from : (p : ℕ → Bool) (cuts : List ℕ) (k : ℕ) (n : ℕ) → k < length cuts → get_or cuts k n ≡ n → p n ≡ true → list_any p cuts ≡ true
any_from p [] k n h e t = absurd (omega arith)
any_from p (m ∷ cuts) zero n h e t = or_left (p m) (list_any p cuts) (ap p e ∙ t)
any_from p (m ∷ cuts) (suc k) n h e t = or_right (p m) (list_any p cuts) (any_from p cuts k n (omega arith) e t)

newest-cut : (cuts : List ℕ) (versions : List Version) (n : ℕ) → Contains cuts n → (key : Bytes) → newest key n (kept_at cuts versions) ≡ newest key n versions
newest-cut cuts versions n (k, within, at) key =
    let ordered = is_in_order-in_order versions in
    newest-first key n (kept_at cuts versions) (is_in_order-filter _ (in_order versions) ordered)
    ∙ first-filter (is_newest_at_a_cut cuts versions) key n (in_order versions) (λ v found.
    let same : key ≡ v.key = first_key key n (in_order versions) v found in
    let is_newest : newest v.key n versions ≡ Some v = subst (λ x. newest x n versions ≡ Some v) same (sym (newest-in_order key n versions) ∙ newest-first key n (in_order versions) ordered ∙ found) in
    any_from (λ m. is_version v (newest v.key m versions)) cuts k n within at (ap (is_version v) is_newest ∙ eq-eqb v.number v.number refl))
    ∙ sym (newest-first key n (in_order versions) ordered) ∙ newest-in_order key n versions

-- what holds of each version holds of each in order, and of each that is kept
each_in_order : (P : Version → Type 0) (versions : List Version) → AllByRecursion P versions → AllByRecursion P (in_order versions)
each_in_order P [] h = h
each_in_order P (v ∷ rest) h = each_placed P v (in_order rest) h.0 (each_in_order P rest h.1)

each_kept_at : (P : Version → Type 0) (cuts : List ℕ) (versions : List Version) → AllByRecursion P versions → AllByRecursion P (kept_at cuts versions)
each_kept_at P cuts versions h = all_filter P (is_newest_at_a_cut cuts versions) (in_order versions) (each_in_order P versions h)

-- at counts that no version is above the same is the newest
newest-above : (key : Bytes) (m n : ℕ) (versions : List Version) → NumberedAtMost m versions → NumberedAtMost n versions → newest key m versions ≡ newest key n versions
newest-above key m n [] h k = refl
newest-above key m n (v ∷ rest) h k =
    ap (λ o. cond (is_same_key key v.key && leb v.number m) (Some (newer_of v o)) o) (newest-above key m n rest h.1 k.1)
    ∙ ap (λ b. cond (is_same_key key v.key && b) (Some (newer_of v (newest key n rest))) (newest key n rest)) (le-leb v.number m h.0 ∙ sym (le-leb v.number n k.0))

-- and of what is kept
pub newest-kept : (cuts : List ℕ) (versions : List Version) (n : ℕ) → IsKeptAt cuts versions n → (key : Bytes) → newest key n (kept_at cuts versions) ≡ newest key n versions
newest-kept cuts versions n h key = by h.at
  where
    by : (n ≡ h.cut) ⊎ (NumberedAtMost n versions × NumberedAtMost h.cut versions) → newest key n (kept_at cuts versions) ≡ newest key n versions
    by (inl same) = newest-cut cuts versions n (subst (Contains cuts) (sym same) h.is_cut) key
    by (inr (low, high)) =
        newest-above key n h.cut (kept_at cuts versions) (each_kept_at (λ v. v.number ≤ n) cuts versions low) (each_kept_at (λ v. v.number ≤ h.cut) cuts versions high)
        ∙ newest-cut cuts versions h.cut h.is_cut key
        ∙ newest-above key h.cut n versions high low

-- none of greater keys is found
far_first : (w : Version) (n : ℕ) (rest : List Version) → Far w rest → first_at w.key n rest ≡ None
far_first w n [] none = refl
far_first w n (u ∷ rest) (more _ _ e f) =
    ap (λ o. cond (is_eq o && leb u.number n) (Some u) (first_at w.key n rest)) e ∙ far_first w n rest f

key_is_less : (w u : Version) (o : Ordering) → byte_order w.key u.key ≡ o → entry_order w u ≡ Less → is_eq o ≡ false → byte_order w.key u.key ≡ Less
key_is_less w u Less e h f = e
key_is_less w u Equal e h f = let k : true ≡ false = f in cc
key_is_less w u Greater e h f = let g : Greater ≡ Less = sym (ap (λ o. ordering_then o (nat_cmp u.number w.number)) e) ∙ h in cc

-- where the next is not of its key, no later version is
not_started : (w : Version) (n : ℕ) (rest : List Version) → is_before w rest ≡ true → is_in_order rest ≡ true → starts_with_key w.key rest ≡ false → first_at w.key n rest ≡ None
not_started w n [] h k s = refl
not_started w n (u ∷ rest) h k s =
    let less = is_lt_Less _ h in
    let other : is_eq (byte_order w.key u.key) ≡ false = false_back (is_same_key w.key u.key) (λ e. let same = same_key w.key u.key e in sym s ∙ same_key-from u.key w.key (sym same)) in
    far_first w n (u ∷ rest) (far_from w u rest (key_is_less w u (byte_order w.key u.key) refl less other) k)
  where
    false_back : (b : Bool) → (b ≡ true → false ≡ true) → b ≡ false
    false_back true f = sym (f refl)
    false_back false f = refl

value_of : Option Version → Option Bytes
value_of o = option_and_then (λ v. v.value) o

none_value : (o : Option Bytes) → is_none o ≡ true → o ≡ None
none_value None e = refl
none_value (Some x) e = let k : false ≡ true = e in cc

value_at_cases : (key : Bytes) (n : ℕ) (w : Version) (rest later : List Version) (b c : Bool) → is_version_of key n w ≡ b → (is_none w.value && not (starts_with_key w.key later)) ≡ c → is_before w later ≡ true → is_in_order later ≡ true
    → option_and_then (λ v. v.value) (first_at key n later) ≡ option_and_then (λ v. v.value) (first_at key n rest)
    → option_and_then (λ v. v.value) (first_at key n (cond c later (w ∷ later))) ≡ option_and_then (λ v. v.value) (cond b (Some w) (first_at key n rest))
value_at_cases key n w rest later true true e f before ordered h =
    let parts = and_parts (is_none w.value) (not (starts_with_key w.key later)) f in
    let same : key ≡ w.key = same_key key w.key (is_version_of-key key n w e) in
    ap (λ k. option_and_then (λ v. v.value) (first_at k n later)) same
    ∙ ap (option_and_then (λ v. v.value)) (not_started w n later before ordered (not-true (starts_with_key w.key later) parts.1))
    ∙ sym (none_value w.value parts.0)
value_at_cases key n w rest later true false e f before ordered h = ap (λ b. option_and_then (λ v. v.value) (cond b (Some w) (first_at key n later))) e
value_at_cases key n w rest later false true e f before ordered h = h
value_at_cases key n w rest later false false e f before ordered h = ap (λ b. option_and_then (λ v. v.value) (cond b (Some w) (first_at key n later))) e ∙ h

-- the values at a count stay where deletes that delete nothing go
pub value-settled : (key : Bytes) (n : ℕ) (versions : List Version) → is_in_order versions ≡ true → option_and_then (λ v. v.value) (first_at key n (from_the_back versions)) ≡ option_and_then (λ v. v.value) (first_at key n versions)
value-settled key n [] h = refl
value-settled key n (w ∷ rest) h =
    let a = in_order_cons w rest h in
    let same = settled-from_the_back rest a.1 in
    let before : is_before w (from_the_back rest) ≡ true = subst (λ xs. is_before w xs ≡ true) same (is_before-filter _ w rest a.0 a.1) in
    let ordered : is_in_order (from_the_back rest) ≡ true = subst (λ xs. is_in_order xs ≡ true) same (is_in_order-filter _ rest a.1) in
    value_at_cases key n w rest (from_the_back rest) (is_version_of key n w) (is_none w.value && not (starts_with_key w.key (from_the_back rest))) refl refl before ordered (value-settled key n rest a.1)

pub value_at-settled : (versions : List Version) (n : ℕ) (key : Bytes) → is_in_order versions ≡ true → value_at (settled versions) n key ≡ value_at versions n key
value_at-settled versions n key h =
    let same = settled-from_the_back versions h in
    ap (option_and_then (λ v. v.value)) (newest-first key n (settled versions) (is_in_order-filter _ versions h) ∙ ap (first_at key n) same)
    ∙ value-settled key n versions h
    ∙ ap (option_and_then (λ v. v.value)) (sym (newest-first key n versions h))

any_step : (a b r : Bool) → (a ≡ true → b ≡ true) → cond b (a || r) r ≡ (a || r)
any_step true true r h = refl
any_step true false r h = let k : false ≡ true = h refl in cc
any_step false true r h = refl
any_step false false r h = refl

any_passed : (p test : Version → Bool) → ((v : Version) → p v ≡ true → test v ≡ true) → (versions : List Version) → list_any p (filter test versions) ≡ list_any p versions
any_passed p test h [] = refl
any_passed p test h (v ∷ rest) =
    any_cond p (test v) v (filter test rest) ∙ any_step (p v) (test v) (list_any p (filter test rest)) (h v) ∙ ap (λ b. p v || b) (any_passed p test h rest)

put_stays : (o : Option Bytes) (b : Bool) → is_some o ≡ true → not (is_none o && b) ≡ true
put_stays None b e = let k : false ≡ true = e in cc
put_stays (Some x) b e = refl

older_put_stays : (all : List Version) (v w : Version) → is_older_put v w ≡ true → not (deletes_nothing all w) ≡ true
older_put_stays all v w e = put_stays w.value (not (list_any (is_older_put w) all)) (and_parts (is_same_key v.key w.key && ltb w.number v.number) (is_some w.value) e).1

-- what is settled has no delete that deletes nothing
pub no_idle-settled : (versions : List Version) → All (λ v. deletes_nothing (settled versions) v ≡ false) (settled versions)
no_idle-settled versions =
    All-weaker (λ v. not (deletes_nothing versions v) ≡ true) (λ v. deletes_nothing (settled versions) v ≡ false)
    (λ v h. ap (λ b. is_none v.value && not b) (any_passed (is_older_put v) (λ w. not (deletes_nothing versions w)) (older_put_stays versions v) versions) ∙ not-true (deletes_nothing versions v) h)
    (settled versions) (filter_passes (λ v. not (deletes_nothing versions v)) versions)

same_map_at : (n : ℕ) (versions kept : List Version) → ((key : Bytes) → value_at kept n key ≡ value_at versions n key) → HaveSameMap n versions kept
same_map_at n versions kept same = record { values = same; maps = same_map nat_list_cmp_total same_keys (map_of kept n) (map_of versions n) (λ key. get-map_of kept n key ∙ same key ∙ sym (get-map_of versions n key)) }

among_kept_at : (cuts : List ℕ) (versions : List Version) → All (Contains versions) (kept_at cuts versions)
among_kept_at cuts versions = All-from_recursion (Contains versions) (kept_at cuts versions) (each_kept_at (Contains versions) cuts versions (recursion_from_All (Contains versions) versions (All-contains_itself versions)))

pub keep_law : KeepLaw
unfolding keep
keep_law cuts versions = record {
  same_map = λ bottom. elim bottom as (λ b. (n : ℕ) → IsKeptAt cuts versions n → HaveSameMap n versions (keep cuts b versions)) [
    | true ↦ λ n h. same_map_at n versions (settled (kept_at cuts versions)) (λ key. value_at-settled (kept_at cuts versions) n key (is_in_order-keep cuts false versions) ∙ ap (option_and_then (λ v. v.value)) (newest-kept cuts versions n h key))
    | false ↦ λ n h. same_map_at n versions (kept_at cuts versions) (λ key. ap (option_and_then (λ v. v.value)) (newest-kept cuts versions n h key))
  ];
  same_newest = λ n h key. newest-kept cuts versions n h key;
  ordered = λ bottom. ordered_tested (keep cuts bottom versions) (is_in_order-keep cuts bottom versions);
  among = λ bottom. elim bottom as (λ b. All (Contains versions) (keep cuts b versions)) [
    | true ↦ All-filter (λ v. not (deletes_nothing (kept_at cuts versions) v)) (Contains versions) (kept_at cuts versions) (among_kept_at cuts versions)
    | false ↦ among_kept_at cuts versions
  ];
  asked_for = λ bottom. elim bottom as (λ b. All (λ v. is_newest_at_a_cut cuts versions v ≡ true) (keep cuts b versions)) [
    | true ↦ All-filter (λ v. not (deletes_nothing (kept_at cuts versions) v)) (λ v. is_newest_at_a_cut cuts versions v ≡ true) (kept_at cuts versions) (filter_passes (is_newest_at_a_cut cuts versions) (in_order versions))
    | false ↦ filter_passes (is_newest_at_a_cut cuts versions) (in_order versions)
  ];
  no_idle_delete = no_idle-settled (kept_at cuts versions);
}
