-- Two divisions of the same entries are the same.
use Rattle.std.proofs.Common.{◌≡◌, ◌≢◌, ◌<◌, ◌≤◌, List, [], ◌∷◌, ◌++◌, length, refl, sym, ap, subst, ◌∙◌, append_assoc, arith, inl, inr}
use Rattle.std.specs.List.{All, flat_map}
use Rattle.std.proofs.lemmas.List.Elements.{All-tail}
use Rattle.std.proofs.lemmas.Bool.{cases_lt}
use Rattle.std.proofs.lemmas.List.{append-nil, length-append, nil_from_length, append_cancel_left}
use Rattle.lsm_codec.proofs.Lists.{all_append}
use Rattle.lsm_codec.specs.Versions.{Version}
use Rattle.lsm_table.specs.Division.{TableBlocks, entries_of, blocks, first_group, AllAdjacent, IsBlocks, KeepsLimits, IsTooMuch, ShareNoKey, IsTables}
use Rattle.lsm_table.specs.Laws.{OneDivision}
use Rattle.lsm_table.proofs.Blocks.{only_blocks, blocks_grow}
use Rattle.lsm_table.proofs.Groups.{first_group_apart, first_group_split, apart-append, parted}

-- what passes a limit passes it with more
pub more_is_too_much : (some more : List Version) → IsTooMuch some → IsTooMuch (some ++ more)
more_is_too_much some more (inl blocks) = inl (omega (arith, blocks_grow some more))
more_is_too_much some more (inr entries) = inr (omega (arith, length-append some more))

pub not_too_much : (entries : List Version) → KeepsLimits entries → IsTooMuch entries → ⊥
not_too_much entries within (inl blocks) = omega (arith, within.few_blocks)
not_too_much entries within (inr many) = omega (arith, within.few_entries)

pub some_entries : (t : TableBlocks) → 0 < length t → IsBlocks (entries_of t) t → 0 < length (entries_of t)
some_entries [] some is = absurd (omega arith)
some_entries (b ∷ t) some is = omega (arith, is.nonempty.0, length-append b (entries_of t))

later_adjacent : {X : Type 0} (R : X → X → Type 0) (x : X) (xs : List X) → AllAdjacent R (x ∷ xs) → AllAdjacent R xs
later_adjacent R x [] h = tt
later_adjacent R x (y ∷ xs) h = h.1

later : (t : TableBlocks) (ts : List TableBlocks) (entries : List Version) → IsTables entries (t ∷ ts) → IsTables (flat_map entries_of ts) ts
later t ts entries is = record {
  whole = refl;
  nonempty = is.nonempty.1;
  in_blocks = is.in_blocks.1;
  within = is.within.1;
  whole_keys = is.whole_keys.1;
  greedy = later_adjacent _ t ts is.greedy;
}

pub apart_from_none : (these : List Version) → ShareNoKey these []
apart_from_none [] = tt
apart_from_none (v ∷ these) = (tt, apart_from_none these)

apart_from_both : (these a b : List Version) → ShareNoKey these a → ShareNoKey these b → ShareNoKey these (a ++ b)
apart_from_both [] a b pa pb = tt
apart_from_both (v ∷ these) a b pa pb = (all_append (λ w. v.key ≢ w.key) a b pa.0 pb.0, apart_from_both these a b pa.1 pb.1)

-- a table's keys are in none of the later ones
pub apart_from_all : (these : List Version) (ts : List TableBlocks) → All (λ other. ShareNoKey these (entries_of other)) ts → ShareNoKey these (flat_map entries_of ts)
apart_from_all these [] apart = apart_from_none these
apart_from_all these (t ∷ ts) apart = apart_from_both these (entries_of t) (flat_map entries_of ts) (apart 0 t (omega arith)) (apart_from_all these ts (All-tail (λ other. ShareNoKey these (entries_of other)) t ts apart))

-- the first table of one division is no shorter than that of another
no_shorter : (entries : List Version) (t u : TableBlocks) (ts us : List TableBlocks) → IsTables entries (t ∷ ts) → IsTables entries (u ∷ us) → length (entries_of t) < length (entries_of u) → ⊥
no_shorter entries t u [] us is other lt =
    let total = ap (λ (es : List Version). length es) (is.whole ∙ sym other.whole) in
    omega (arith, total, length-append (entries_of t) [], length-append (entries_of u) (flat_map entries_of us))
no_shorter entries t u (n ∷ ts) us is other lt =
    let same : entries_of t ++ flat_map entries_of (n ∷ ts) ≡ entries_of u ++ flat_map entries_of us = is.whole ∙ sym other.whole in
    let p = parted (entries_of t) (flat_map entries_of (n ∷ ts)) (entries_of u) (flat_map entries_of us) same (omega arith) in
    let x : List Version = p.0 in
    let some_x : 0 < length x = omega (arith, ap (λ (es : List Version). length es) p.1, length-append (entries_of t) x) in
    let apart_u : ShareNoKey (entries_of t ++ x) (flat_map entries_of us) = subst (λ (es : List Version). ShareNoKey es (flat_map entries_of us)) p.1 (apart_from_all (entries_of u) us other.whole_keys.0) in
    let group_x : first_group (x ++ flat_map entries_of us) ≡ first_group x = first_group_apart x (flat_map entries_of us) some_x (apart-append (entries_of t) x (flat_map entries_of us) apart_u) in
    let group_n : first_group (entries_of n ++ flat_map entries_of ts) ≡ first_group (entries_of n) =
    first_group_apart (entries_of n) (flat_map entries_of ts) (some_entries n is.nonempty.1.0 is.in_blocks.1.0) (apart_from_all (entries_of n) ts is.whole_keys.1.0) in
    let group : first_group (entries_of n) ≡ first_group x = sym group_n ∙ ap first_group p.2 ∙ group_x in
    let rest = first_group_split x in
    let too_much : IsTooMuch (entries_of t ++ first_group x) = subst (λ (g : List Version). IsTooMuch (entries_of t ++ g)) group is.greedy.0 in
    let all : (entries_of t ++ first_group x) ++ rest.0 ≡ entries_of u = append_assoc (entries_of t) (first_group x) rest.0 ∙ ap (λ (es : List Version). entries_of t ++ es) (sym rest.1) ∙ sym p.1 in
    not_too_much (entries_of u) other.within.0 (subst IsTooMuch all (more_is_too_much (entries_of t ++ first_group x) rest.0 too_much))

same_first : (entries : List Version) (t u : TableBlocks) (ts us : List TableBlocks) → IsTables entries (t ∷ ts) → IsTables entries (u ∷ us) → entries_of t ≡ entries_of u
same_first entries t u ts us is other =
    let le : length (entries_of t) ≤ length (entries_of u) = elim (cases_lt (length (entries_of u)) (length (entries_of t))) [ inl lt ↦ absurd (no_shorter entries u t us ts other is lt) | inr le ↦ le ] in
    let ge : length (entries_of u) ≤ length (entries_of t) = elim (cases_lt (length (entries_of t)) (length (entries_of u))) [ inl lt ↦ absurd (no_shorter entries t u ts us is other lt) | inr le ↦ le ] in
    let p = parted (entries_of t) (flat_map entries_of ts) (entries_of u) (flat_map entries_of us) (is.whole ∙ sym other.whole) le in
    let none : p.0 ≡ [] = nil_from_length p.0 (omega (arith, ap (λ (es : List Version). length es) p.1, length-append (entries_of t) p.0)) in
    sym (p.1 ∙ ap (λ (es : List Version). entries_of t ++ es) none ∙ append-nil (entries_of t))

pub one_division : OneDivision
one_division entries [] [] is other = refl
one_division entries [] (u ∷ us) is other =
    let some = some_entries u other.nonempty.0 other.in_blocks.0 in
    absurd (omega (arith, some, ap (λ (es : List Version). length es) (is.whole ∙ sym other.whole), length-append (entries_of u) (flat_map entries_of us)))
one_division entries (t ∷ ts) [] is other =
    let some = some_entries t is.nonempty.0 is.in_blocks.0 in
    absurd (omega (arith, some, ap (λ (es : List Version). length es) (is.whole ∙ sym other.whole), length-append (entries_of t) (flat_map entries_of ts)))
one_division entries (t ∷ ts) (u ∷ us) is other =
    let same = same_first entries t u ts us is other in
    let first : t ≡ u = only_blocks (entries_of t) t is.nonempty.0 is.in_blocks.0 ∙ ap blocks same ∙ sym (only_blocks (entries_of u) u other.nonempty.0 other.in_blocks.0) in
    let rest : flat_map entries_of ts ≡ flat_map entries_of us = append_cancel_left (entries_of t) (flat_map entries_of ts) (flat_map entries_of us) (is.whole ∙ sym other.whole ∙ ap (λ (es : List Version). es ++ flat_map entries_of us) (sym same)) in
    let others : ts ≡ us = one_division (flat_map entries_of ts) ts us (later t ts entries is) (subst (λ (es : List Version). IsTables es us) (sym rest) (later u us entries other)) in
    ap (λ (x : TableBlocks). x ∷ ts) first ∙ ap (λ (xs : List TableBlocks). u ∷ xs) others
