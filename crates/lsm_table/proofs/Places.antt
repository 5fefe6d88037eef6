-- The version asked for is in the block of its place, or in no block.
use Rattle.std.proofs.Common.{◌≡◌, ℕ, suc, ◌+◌, ◌-◌, ◌<◌, ◌≤◌, Bool, true, false, cond, ◌&&◌, ◌||◌, eqb, leb, ltb, List, [], ◌∷◌, ◌++◌, length, get_or, Option, Some, None, refl, sym, ap, subst, ◌∙◌, arith, inl, inr}
use Rattle.std.specs.List.{AllByRecursion}
use Rattle.std.specs.declared.cmp.Ordering.{Ordering}
use Rattle.std.specs.declared.cmp.Ordering.TheVariants.{Less, Equal, Greater}
use Rattle.std.specs.Ordering.{nat_cmp, is_lt, is_gt, ordering_then}
use Rattle.std.proofs.lemmas.Bool.{lt-leb, le-leb, le-ltb, eqb-true, cases_lt}
use Rattle.std.proofs.lemmas.Cmp.{nat_list_cmp_total, tied_itself, ranked, by_ranked}
use Rattle.std.proofs.lemmas.Map.Lookups.{exact_bytes}
use Rattle.std.proofs.lemmas.Option.{same_Some}
use Rattle.lsm_codec.specs.Keys.{Bytes, byte_order}
use Rattle.lsm_codec.specs.Versions.{Version, IsEntry, entry_order, is_same_key, newer_of, newest}
use Rattle.lsm_codec.specs.Pairs.{Pairwise}
use Rattle.lsm_table.specs.Division.{Block, TableBlocks, entries_of}
use Rattle.lsm_codec.specs.Indexes.{Edge}
use Rattle.lsm_table.specs.BlockEdges.{last_edge, edges_of, first_key_of}
use Rattle.lsm_table.specs.Places.{stands_before, place_from, place_of, IsSorted, at_place}
use Rattle.lsm_codec.proofs.KeyOrder.{same_key, key_itself}
use Rattle.lsm_table.proofs.Orders.{Before, IsNotAfter, before_along, keys_rise, itself_at_most, next_before, befores, later_pairs, front_pairs}
use Rattle.lsm_codec.proofs.KeyOrder.{is_lt_Less}
use Rattle.lsm_codec.proofs.Lists.{all_left}

later_number : (m n : ℕ) → nat_cmp n m ≡ Less → n < m
later_number m n less = by_ranked (n < m) (n ≡ m) (m < n) (nat_cmp n m) (ranked n m (nat_cmp n m) refl)
    (λ e lt. lt)
    (λ e same. absurd (let clash : Equal ≡ Less = sym e ∙ less in cc))
    (λ e gt. absurd (let clash : Greater ≡ Less = sym e ∙ less in cc))

-- of one key, the newer comes before
newer_number : (key : Bytes) (m n : ℕ) → ordering_then (byte_order key key) (nat_cmp n m) ≡ Less → n < m
newer_number key m n less = later_number m n (ap (λ (o : Ordering). ordering_then o (nat_cmp n m)) (sym (tied_itself nat_list_cmp_total key)) ∙ less)

-- ---- what matches

abbrev matches : Bytes → ℕ → Version → Bool
matches key at v = is_same_key key v.key && leb v.number at

abbrev NoMatch : Bytes → ℕ → List Version → Type 0
NoMatch key at vs = AllByRecursion (λ v. matches key at v ≡ false) vs

and_false : (a b : Bool) → (a ≡ true → b ≡ false) → (a && b) ≡ false
and_false true b h = h refl
and_false false b h = refl

left_true : (a b : Bool) → (a && b) ≡ true → a ≡ true
left_true true b h = refl
left_true false b h = h

both_true : (a b : Bool) → a ≡ true → b ≡ true → (a && b) ≡ true
both_true a b p q = rw (p, q) refl

abbrev asked : Bytes → ℕ → Version
asked key at = record { key = key; number = at; value = None }

-- v comes before the key's version of the number
abbrev StandsBefore : Bytes → ℕ → Version → Type 0
StandsBefore key at v = Before v (asked key at)

no_match : (key : Bytes) (at : ℕ) (v : Version) → StandsBefore key at v → matches key at v ≡ false
no_match key at v before = and_false (is_same_key key v.key) (leb v.number at)
    (λ same.
    let e : key ≡ v.key = same_key key v.key same in
    lt-leb v.number at (newer_number v.key v.number at (subst (λ (k : Bytes). ordering_then (byte_order v.key k) (nat_cmp at v.number) ≡ Less) e before)))

all_before : (key : Bytes) (at : ℕ) (v : Version) (block : Block) → Pairwise Before (v ∷ block) → stands_before key at (last_edge v block) ≡ true → AllByRecursion (StandsBefore key at) (v ∷ block)
all_before key at v [] ordered before = (is_lt_Less (entry_order v (asked key at)) before, tt)
all_before key at v (w ∷ rest) ordered before =
    let others = all_before key at w rest ordered.1 before in
    (before_along v w (asked key at) (next_before v w rest ordered) others.0, others)

none_match : (key : Bytes) (at : ℕ) (vs : List Version) → AllByRecursion (StandsBefore key at) vs → NoMatch key at vs
none_match key at [] all = tt
none_match key at (v ∷ vs) all = (no_match key at v all.0, none_match key at vs all.1)

newest_past : (key : Bytes) (at : ℕ) (a b : List Version) → NoMatch key at a → newest key at (a ++ b) ≡ newest key at b
newest_past key at [] b none = refl
newest_past key at (v ∷ a) b none = ap (λ (t : Bool). cond t (Some (newer_of v (newest key at (a ++ b)))) (newest key at (a ++ b))) none.0 ∙ newest_past key at a b none.1

newest_none : (key : Bytes) (at : ℕ) (vs : List Version) → NoMatch key at vs → newest key at vs ≡ None
newest_none key at [] none = refl
newest_none key at (v ∷ vs) none = ap (λ (t : Bool). cond t (Some (newer_of v (newest key at vs))) (newest key at vs)) none.0 ∙ newest_none key at vs none.1

newest_alone : (key : Bytes) (at : ℕ) (a b : List Version) → NoMatch key at b → newest key at (a ++ b) ≡ newest key at a
newest_alone key at [] b none = newest_none key at b none
newest_alone key at (v ∷ a) b none = ap (λ (o : Option Version). cond (matches key at v) (Some (newer_of v o)) o) (newest_alone key at a b none)

newest_all : (P : Version → Type 0) (key : Bytes) (at : ℕ) (vs : List Version) → AllByRecursion P vs → (w : Version) → newest key at vs ≡ Some w → P w × (matches key at w ≡ true)
newest_all P key at [] all w e = absurd cc
newest_all P key at (v ∷ vs) all w e = elim (matches key at v) as (λ t. matches key at v ≡ t → cond t (Some (newer_of v (newest key at vs))) (newest key at vs) ≡ Some w → P w × (matches key at w ≡ true)) [
  | false ↦ λ m e. newest_all P key at vs all.1 w e
  | true ↦ λ m e. elim (newest key at vs) as (λ o. newest key at vs ≡ o → Some (newer_of v o) ≡ Some w → P w × (matches key at w ≡ true)) [
    | None ↦ λ o e. subst (λ (x : Version). P x × (matches key at x ≡ true)) (same_Some v w e) (all.0, m)
    | Some x ↦ λ o e.
        let rest = newest_all P key at vs all.1 x o in
        elim (ltb v.number x.number) as (λ b. Some (cond b x v) ≡ Some w → P w × (matches key at w ≡ true)) [
          | true ↦ λ e. subst (λ (y : Version). P y × (matches key at y ≡ true)) (same_Some x w e) rest
          | false ↦ λ e. subst (λ (y : Version). P y × (matches key at y ≡ true)) (same_Some v w e) (all.0, m)
        ] e
  ] refl e
] refl e

-- the first that matches is the newest
first_wins : (key : Bytes) (at : ℕ) (v : Version) (rest : List Version) → AllByRecursion (Before v) rest → matches key at v ≡ true → newest key at (v ∷ rest) ≡ Some v
first_wins key at v rest before m =
    ap (λ (t : Bool). cond t (Some (newer_of v (newest key at rest))) (newest key at rest)) m
    ∙ ap (λ (x : Version). Some x) (elim (newest key at rest) as (λ o. newest key at rest ≡ o → newer_of v o ≡ v) [
      | None ↦ λ e. refl
      | Some w ↦ λ e.
          let h = newest_all (Before v) key at rest before w e in
          let same : v.key ≡ w.key = sym (same_key key v.key (left_true (is_same_key key v.key) (leb v.number at) m)) ∙ same_key key w.key (left_true (is_same_key key w.key) (leb w.number at) h.1) in
          let less : w.number < v.number = newer_number v.key v.number w.number (subst (λ (k : Bytes). ordering_then (byte_order v.key k) (nat_cmp w.number v.number) ≡ Less) (sym same) h.0) in
          rw (le-ltb v.number w.number (omega arith)) refl
    ] refl)

abbrev matches_edge : Bytes → ℕ → Edge → Bool
matches_edge key at e = is_same_key key e.key && leb e.number at

last_wins : (key : Bytes) (at : ℕ) (v : Version) (block more : List Version) → Pairwise Before ((v ∷ block) ++ more) → matches_edge key at (last_edge v block) ≡ true → newest key at ((v ∷ block) ++ more) ≡ newest key at (v ∷ block)
last_wins key at v [] more ordered m = first_wins key at v more (befores v more ordered) m ∙ sym (first_wins key at v [] tt m)
last_wins key at v (w ∷ rest) more ordered m = elim (matches key at v) as (λ t. matches key at v ≡ t → newest key at ((v ∷ w ∷ rest) ++ more) ≡ newest key at (v ∷ w ∷ rest)) [
  | true ↦ λ t. first_wins key at v ((w ∷ rest) ++ more) (befores v ((w ∷ rest) ++ more) ordered) t ∙ sym (first_wins key at v (w ∷ rest) (all_left (Before v) (w ∷ rest) more (befores v ((w ∷ rest) ++ more) ordered)) t)
  | false ↦ λ t. newest_past key at (v ∷ []) ((w ∷ rest) ++ more) (t, tt) ∙ last_wins key at w rest more ordered.1 m ∙ sym (newest_past key at (v ∷ []) (w ∷ rest) (t, tt))
] refl

rising : (v : Version) (more : List Version) → AllByRecursion (Before v) more → AllByRecursion (λ x. IsNotAfter v.key x.key) more
rising v [] all = tt
rising v (w ∷ more) all = (keys_rise v w all.0, rising v more all.1)

after_last : (v : Version) (block more : List Version) → Pairwise Before ((v ∷ block) ++ more) → AllByRecursion (λ x. IsNotAfter (last_edge v block).key x.key) more
after_last v [] more ordered = rising v more (befores v more ordered)
after_last v (w ∷ rest) more ordered = after_last w rest more ordered.1

-- none of greater keys matches
none_above : (key : Bytes) (at : ℕ) (low : Bytes) (more : List Version) → is_gt (byte_order low key) ≡ true → AllByRecursion (λ x. IsNotAfter low x.key) more → NoMatch key at more
none_above key at low [] gt all = tt
none_above key at low (x ∷ more) gt all = (
  and_false (is_same_key key x.key) (leb x.number at) (λ same. absurd (let clash : is_gt (byte_order low key) ≡ false = subst (λ (k : Bytes). IsNotAfter low k) (sym (same_key key x.key same)) all.0 in cc)),
  none_above key at low more gt all.1,
)

abbrev in_block : ℕ → TableBlocks → Option ℕ → List Version
in_block n table None = []
in_block n table (Some k) = get_or table (k - n) []

place_low : (n : ℕ) (key : Bytes) (at : ℕ) (edges : List Edge) (k : ℕ) → place_from n key at edges ≡ Some k → n ≤ k
unfolding place_from
place_low n key at [] k e = absurd cc
place_low n key at (x ∷ edges) k e = elim (stands_before key at x) as (λ b. cond b (place_from (n + 1) key at edges) (Some n) ≡ Some k → n ≤ k) [
  | true ↦ λ e. let h = place_low (n + 1) key at edges k e in omega arith
  | false ↦ λ e. let h : n ≡ k = same_Some n k e in omega arith
] e

shifted : (n : ℕ) (b : Block) (table : TableBlocks) (r : Option ℕ) → ((k : ℕ) → r ≡ Some k → n + 1 ≤ k) → in_block (n + 1) table r ≡ in_block n (b ∷ table) r
shifted n b table None low = refl
shifted n b table (Some k) low =
    let h = low k refl in
    let e : suc (k - (n + 1)) ≡ k - n = omega arith in
    ap (λ (i : ℕ). get_or (b ∷ table) i []) e

number_before : (m n : ℕ) → m < n → nat_cmp m n ≡ Less
number_before m n lt = by_ranked (m < n) (m ≡ n) (n < m) (nat_cmp m n) (ranked m n (nat_cmp m n) refl) (λ e h. e) (λ e h. absurd (omega arith)) (λ e h. absurd (omega arith))

-- a block whose edge doesn't come before the place
decided : (key : Bytes) (at : ℕ) (v : Version) (block more : List Version) → Pairwise Before ((v ∷ block) ++ more) → stands_before key at (last_edge v block) ≡ false → newest key at ((v ∷ block) ++ more) ≡ newest key at (v ∷ block)
decided key at v block more ordered after =
    let edge : Edge = last_edge v block in
    elim (byte_order edge.key key) as (λ o. byte_order edge.key key ≡ o → is_lt (ordering_then o (nat_cmp at edge.number)) ≡ false → newest key at ((v ∷ block) ++ more) ≡ newest key at (v ∷ block)) [
      | Less ↦ λ o n. absurd cc
      | Equal ↦ λ o n.
          let same : edge.key ≡ key = exact_bytes edge.key key o in
          let le : edge.number ≤ at = elim (cases_lt at edge.number) [
            | inl lt ↦ absurd (let clash : is_lt (nat_cmp at edge.number) ≡ true = rw (number_before at edge.number lt) refl in cc)
            | inr le ↦ le
          ] in
          last_wins key at v block more ordered (both_true (is_same_key key edge.key) (leb edge.number at) (subst (λ (k : Bytes). is_same_key k edge.key ≡ true) same (key_itself edge.key)) (le-leb edge.number at le))
      | Greater ↦ λ o n. newest_alone key at (v ∷ block) more (none_above key at edge.key more (ap is_gt o) (after_last v block more ordered))
    ] refl after

finds_from : (n : ℕ) (key : Bytes) (at : ℕ) (table : TableBlocks) → Pairwise Before (entries_of table) → AllByRecursion (λ block. 0 < length block) table → newest key at (entries_of table) ≡ newest key at (in_block n table (place_from n key at (edges_of table)))
unfolding place_from
finds_from n key at [] ordered some = refl
finds_from n key at ([] ∷ table) ordered some = absurd (omega (arith, some.0))
finds_from n key at ((v ∷ block) ∷ table) ordered some =
    elim (stands_before key at (last_edge v block)) as (λ b. stands_before key at (last_edge v block) ≡ b → newest key at ((v ∷ block) ++ entries_of table) ≡ newest key at (in_block n ((v ∷ block) ∷ table) (cond b (place_from (n + 1) key at (edges_of table)) (Some n)))) [
      | true ↦ λ before.
          let none = none_match key at (v ∷ block) (all_before key at v block (front_pairs (v ∷ block) (entries_of table) ordered) before) in
          newest_past key at (v ∷ block) (entries_of table) none
          ∙ finds_from (n + 1) key at table (later_pairs Before (v ∷ block) (entries_of table) ordered) some.1
          ∙ ap (newest key at) (shifted n (v ∷ block) table (place_from (n + 1) key at (edges_of table)) (place_low (n + 1) key at (edges_of table)))
      | false ↦ λ after.
          let zero_off : n - n ≡ 0 = omega arith in
          decided key at v block (entries_of table) ordered after ∙ ap (λ (i : ℕ). newest key at (get_or ((v ∷ block) ∷ table) i [])) (sym zero_off)
    ] refl

none_numbered_0 : (key : Bytes) (at : ℕ) (vs : List Version) → at ≡ 0 → AllByRecursion IsEntry vs → NoMatch key at vs
none_numbered_0 key at [] zeroth all = tt
none_numbered_0 key at (v ∷ vs) zeroth all = (and_false (is_same_key key v.key) (leb v.number at) (λ same. lt-leb v.number at (omega (arith, all.0.number_low))), none_numbered_0 key at vs zeroth all.1)

none_below_first : (key : Bytes) (at : ℕ) (table : TableBlocks) → is_gt (byte_order (first_key_of table) key) ≡ true → Pairwise Before (entries_of table) → AllByRecursion (λ block. 0 < length block) table → NoMatch key at (entries_of table)
none_below_first key at [] gt ordered some = tt
none_below_first key at ([] ∷ table) gt ordered some = absurd (omega (arith, some.0))
none_below_first key at ((v ∷ block) ∷ table) gt ordered some =
    none_above key at v.key (v ∷ (block ++ entries_of table)) gt (itself_at_most v.key, rising v (block ++ entries_of table) (befores v (block ++ entries_of table) ordered))

at_first : (table : TableBlocks) (r : Option ℕ) → in_block 0 table r ≡ at_place table r
at_first table None = refl
at_first table (Some k) = let e : k - 0 ≡ k = omega arith in ap (λ (i : ℕ). get_or table i []) e

finds : (key : Bytes) (at : ℕ) (table : TableBlocks) → IsSorted table → newest key at (entries_of table) ≡ newest key at (at_place table (place_of (first_key_of table) (edges_of table) key at))
finds key at table is =
    elim (eqb at 0) as (λ b. eqb at 0 ≡ b → newest key at (entries_of table) ≡ newest key at (at_place table (cond (b || is_gt (byte_order (first_key_of table) key)) None (place_from 0 key at (edges_of table))))) [
      | true ↦ λ e. newest_none key at (entries_of table) (none_numbered_0 key at (entries_of table) (eqb-true at 0 e) is.versions)
      | false ↦ λ e. elim (is_gt (byte_order (first_key_of table) key)) as (λ b. is_gt (byte_order (first_key_of table) key) ≡ b → newest key at (entries_of table) ≡ newest key at (at_place table (cond b None (place_from 0 key at (edges_of table))))) [
        | true ↦ λ gt. newest_none key at (entries_of table) (none_below_first key at table gt is.ordered is.nonempty)
        | false ↦ λ gt. finds_from 0 key at table is.ordered is.nonempty ∙ ap (newest key at) (at_first table (place_from 0 key at (edges_of table)))
      ] refl
    ] refl

pub finds_by : (first : Bytes) (edges : List Edge) (key : Bytes) (at : ℕ) (r : Option ℕ) → r ≡ place_of first edges key at → (table : TableBlocks) → IsSorted table → first ≡ first_key_of table → edges ≡ edges_of table → newest key at (entries_of table) ≡ newest key at (at_place table r)
finds_by first edges key at r e table is same_first same_edges =
    finds key at table is ∙ ap (λ (p : Option ℕ). newest key at (at_place table p)) (ap (λ (f : Bytes). place_of f (edges_of table) key at) (sym same_first) ∙ ap (λ (es : List Edge). place_of first es key at) (sym same_edges) ∙ sym e)

-- above 0 and not below the first key, where the search finds it
pub place_after : (first found : Bytes) (key : Bytes) (at : ℕ) (edges index : List Edge) (r : Option ℕ) (gt : Bool) → (at ≡ 0 → ⊥) → found ≡ first → gt ≡ is_gt (byte_order found key) → gt ≡ false → index ≡ edges → r ≡ place_from 0 key at index → r ≡ place_of first edges key at
place_after first found key at edges index r gt above same_first compared not_gt same_edges searched =
    let low : eqb at 0 ≡ false = elim (eqb at 0) as (λ b. eqb at 0 ≡ b → eqb at 0 ≡ false) [ true ↦ λ e. absurd (above (eqb-true at 0 e)) | false ↦ λ e. e ] refl in
    let below : is_gt (byte_order first key) ≡ false = ap (λ (f : Bytes). is_gt (byte_order f key)) (sym same_first) ∙ sym compared ∙ not_gt in
    searched ∙ ap (place_from 0 key at) same_edges ∙ sym (ap (λ (b : Bool). cond (b || is_gt (byte_order first key)) None (place_from 0 key at edges)) low ∙ ap (λ (b : Bool). cond b None (place_from 0 key at edges)) below)
