-- Where the key changes, what is before shares no key with what is after.
use Rattle.std.proofs.Common.{◌≡◌, ◌≢◌, ℕ, ◌+◌, ◌<◌, false, List, [], ◌∷◌, ◌++◌, length, take, drop, get_or, refl, sym, ap, subst, ◌∙◌, arith}
use Rattle.std.specs.List.{AllByRecursion}
use Rattle.std.specs.declared.cmp.Ordering.{Ordering}
use Rattle.std.specs.declared.cmp.Ordering.TheVariants.{Less, Equal, Greater}
use Rattle.std.specs.Ordering.{nat_cmp, is_gt, ordering_then, ordering_reverse, on, then_cmp, flip_args}
use Rattle.std.specs.Cmp.{IsTotalOrder}
use Rattle.std.proofs.lemmas.Cmp.{nat_list_cmp_total, nat_cmp_total, then_total, on_total, back_total, upto}
use Rattle.std.proofs.lemmas.List.{take_more, drop_more, take-append-drop, append_assoc}
use Rattle.std.proofs.lemmas.Map.Lookups.{exact_bytes}
use Rattle.std.proofs.lemmas.List.Elements.{All-from_recursion, recursion_from_All}
use Rattle.lsm_codec.proofs.Lists.{all_left, all_right}
use Rattle.lsm_codec.specs.Keys.{Bytes, byte_order}
use Rattle.lsm_codec.specs.Versions.{Version, entry_order}
use Rattle.lsm_codec.specs.Pairs.{Pairwise}
use Rattle.lsm_table.specs.Division.{ShareNoKey}
use Rattle.lsm_table.proofs.Groups.{Lacks}

abbrev pub IsNotAfter : Bytes → Bytes → Type 0
IsNotAfter a b = is_gt (byte_order a b) ≡ false

abbrev pub Before : Version → Version → Type 0
Before v w = entry_order v w ≡ Less

abbrev newer_first : Version → Version → Ordering
newer_first = then_cmp (on (λ v. v.key) byte_order) (on (λ v. v.number) (flip_args nat_cmp))

newer_first_total : IsTotalOrder newer_first
newer_first_total = then_total (on_total (λ (v : Version). v.key) nat_list_cmp_total) (on_total (λ (v : Version). v.number) (back_total nat_cmp_total))

pub before_along : (u v w : Version) → Before u v → Before v w → Before u w
before_along u v w uv vw = newer_first_total.trans u v w uv vw

pub keys_rise : (v w : Version) → Before v w → IsNotAfter v.key w.key
keys_rise v w before = elim (byte_order v.key w.key) as (λ o. ordering_then o (nat_cmp w.number v.number) ≡ Less → is_gt o ≡ false) [
  | Less ↦ λ e. refl
  | Equal ↦ λ e. refl
  | Greater ↦ λ e. absurd cc
] before

reversed : (o p : Ordering) → p ≡ ordering_reverse o → is_gt o ≡ false → is_gt p ≡ false → o ≡ Equal
reversed Less p e one two = absurd (let h : is_gt (ordering_reverse Less) ≡ false = subst (λ (q : Ordering). is_gt q ≡ false) e two in cc)
reversed Equal p e one two = refl
reversed Greater p e one two = absurd cc

pub both_at_most : (a b : Bytes) → IsNotAfter a b → IsNotAfter b a → a ≡ b
both_at_most a b one two = exact_bytes a b (reversed (byte_order a b) (byte_order b a) (nat_list_cmp_total.antisymm b a) one two)

pub at_most_along : (a b c : Bytes) → IsNotAfter a b → IsNotAfter b c → IsNotAfter a c
at_most_along a b c one two = upto nat_list_cmp_total a b c one two

-- v, u, then another key w, and x
far_apart : (v u w x : Bytes) → IsNotAfter v u → IsNotAfter u w → u ≢ w → IsNotAfter w x → v ≢ x
far_apart v u w x vu uw ne wx same =
    let xu : IsNotAfter x u = subst (λ (k : Bytes). IsNotAfter k u) same vu in
    ne (both_at_most u w uw (at_most_along w x u wx xu))

same_at_most : (a b c : Bytes) → a ≡ b → IsNotAfter b c → IsNotAfter a c
same_at_most a b c same le = subst (λ (k : Bytes). IsNotAfter k c) (sym same) le

lacks_after : (v u : Bytes) (w : Version) (others : List Version) → IsNotAfter v u → IsNotAfter u w.key → u ≢ w.key → AllByRecursion (Before w) others → Lacks v others
lacks_after v u w [] vu uw ne befores = tt
lacks_after v u w (x ∷ others) vu uw ne befores = (far_apart v u w.key x.key vu uw ne (keys_rise w x befores.0), lacks_after v u w others vu uw ne befores.1)

-- of a list in order, the first comes before the next, and before each later one
pub next_before : (v w : Version) (rest : List Version) → Pairwise Before (v ∷ w ∷ rest) → Before v w
next_before v w rest ordered = ordered.0 0 v (omega arith)

pub befores : (v : Version) (rest : List Version) → Pairwise Before (v ∷ rest) → AllByRecursion (Before v) rest
befores v rest ordered = recursion_from_All (Before v) rest ordered.0

pub later_pairs : (R : Version → Version → Type 0) (front rest : List Version) → Pairwise R (front ++ rest) → Pairwise R rest
later_pairs R [] rest pairs = pairs
later_pairs R (v ∷ front) rest pairs = later_pairs R front rest pairs.1

pub front_pairs : (a b : List Version) → Pairwise Before (a ++ b) → Pairwise Before a
front_pairs [] b ordered = tt
front_pairs (v ∷ a) b ordered = (All-from_recursion (Before v) a (all_left (Before v) a b (befores v (a ++ b) ordered)), front_pairs a b ordered.1)

abbrev Before-keys : Bytes → Version → Type 0
Before-keys u w = IsNotAfter u w.key × (u ≢ w.key)

lacks_from : (v u : Bytes) (w : Version) (others : List Version) → IsNotAfter v u → Before-keys u w → AllByRecursion (Before w) others → Lacks v (w ∷ others)
lacks_from v u w others vu uw befores =
    (λ same. uw.1 (both_at_most u w.key uw.0 (subst (λ (k : Bytes). IsNotAfter k u) same vu)), lacks_after v u w others vu uw.0 uw.1 befores)

pub itself_at_most : (a : Bytes) → IsNotAfter a a
itself_at_most a = elim (byte_order a a) as (λ o. byte_order a a ≡ o → is_gt o ≡ false) [
  | Less ↦ λ e. refl
  | Equal ↦ λ e. refl
  | Greater ↦ λ e. absurd (let back : Greater ≡ ordering_reverse Greater = sym e ∙ nat_list_cmp_total.antisymm a a ∙ ap ordering_reverse e in cc)
] refl

apart_at : (front others : List Version) (u w : Version) → Pairwise Before (front ++ u ∷ w ∷ others) → u.key ≢ w.key → ShareNoKey (front ++ u ∷ []) (w ∷ others)
apart_at [] others u w pairs ne = (lacks_from u.key u.key w others (itself_at_most u.key) (keys_rise u w (next_before u w others pairs), ne) (befores w others pairs.1), tt)
apart_at (v ∷ front) others u w pairs ne =
    let ends = later_pairs Before front (u ∷ w ∷ others) pairs.1 in
    let vu : IsNotAfter v.key u.key = keys_rise v u (all_right (Before v) front (u ∷ w ∷ others) (befores v (front ++ u ∷ w ∷ others) pairs)).0 in
    (lacks_from v.key u.key w others vu (keys_rise u w (next_before u w others ends), ne) (befores w others ends.1), apart_at front others u w pairs.1 ne)

-- where the key changes
pub apart_here : (entries : List Version) (i : ℕ) (d : Version) → Pairwise Before entries → i + 1 < length entries → (get_or entries i d).key ≢ (get_or entries (i + 1) d).key → ShareNoKey (take (i + 1) entries) (drop (i + 1) entries)
apart_here entries i d pairs lt ne =
    let u : Version = get_or entries i d in
    let w : Version = get_or entries (i + 1) d in
    let others : List Version = drop (i + 1 + 1) entries in
    let back : drop (i + 1) entries ≡ w ∷ others = drop_more entries (i + 1) d lt in
    let front : take (i + 1) entries ≡ take i entries ++ u ∷ [] = take_more entries i d (omega arith) in
    let whole : entries ≡ take i entries ++ u ∷ w ∷ others =
    sym (take-append-drop (i + 1) entries) ∙ ap (λ (es : List Version). es ++ drop (i + 1) entries) front ∙ ap (λ (es : List Version). (take i entries ++ u ∷ []) ++ es) back ∙ append_assoc (take i entries) (u ∷ []) (w ∷ others) in
    subst (λ (es : List Version). ShareNoKey es (drop (i + 1) entries)) (sym front)
    (subst (λ (es : List Version). ShareNoKey (take i entries ++ u ∷ []) es) (sym back) (apart_at (take i entries) others u w (subst (λ (es : List Version). Pairwise Before es) whole pairs) ne))
