-- Where the first table ends.
use Rattle.std.proofs.Common.{◌≡◌, ◌≢◌, ℕ, zero, suc, ◌+◌, ◌-◌, ◌<◌, ◌≤◌, Bool, true, false, cond, List, [], ◌∷◌, ◌++◌, length, take, drop, get_or, add-one, refl, sym, ap, subst, ◌∙◌, arith, inl, inr}
use Rattle.std.specs.Prelude.{count_by}
use Rattle.std.specs.List.{prefix_len}
use Rattle.std.proofs.lemmas.Bool.{cases_lt, cases_eq}
use Rattle.std.proofs.lemmas.List.{take_at, take-append-drop, take-take, take_all, drop_all, length-drop, length-take, length-take-le, get_or-drop, get_or_default}
use Rattle.std.proofs.lemmas.List.Sums.{prefix_len_passes, prefix_len_stops, sum_by-append}
use Rattle.std.proofs.lemmas.List.Folds.{length-prefix_len}
use Rattle.std.proofs.Math.Seq.{take-append-add}
use Rattle.lsm_codec.specs.Keys.{Bytes}
use Rattle.lsm_codec.specs.Versions.{Version, is_same_key}
use Rattle.lsm_codec.specs.Pairs.{Pairwise}
use Rattle.lsm_table.specs.Division.{IsInput, blocks, first_group, KeepsLimits, IsTooMuch, ShareNoKey}
use Rattle.lsm_table.specs.Counting.{EndsTable, IsOneGroup, IsKeyStart}
use Rattle.lsm_table.proofs.Blocks.{blocks_grow, blocks_few}
use Rattle.lsm_table.specs.declared.layout.Layout.{Layout}
use Rattle.lsm_table.proofs.Counts.{counted, counted_blocks}
use Rattle.lsm_codec.proofs.KeyOrder.{same_key, key_itself}
use Rattle.lsm_table.proofs.Groups.{first_group_split}
use Rattle.lsm_table.proofs.OneDivision.{more_is_too_much}
use Rattle.lsm_table.proofs.Orders.{Before, apart_here}

abbrev pub with_key : Bytes → Version → Bool
with_key key w = is_same_key key w.key

pub group_length : (v : Version) (rest : List Version) → length (first_group (v ∷ rest)) ≡ 1 + prefix_len (with_key v.key) rest
group_length v rest = omega (arith, length-prefix_len (with_key v.key) rest)

pub count-cons : (p : Version → Bool) (v : Version) (rest : List Version) → count_by p (v ∷ rest) ≡ cond (p v) 1 0 + count_by p rest
count-cons p v rest = omega (arith, sum_by-append (λ x. cond (p x) 1 0) (v ∷ []) rest)

pub prefix_counts : (p : Version → Bool) (xs : List Version) → prefix_len p xs ≤ count_by p xs
prefix_counts p [] = omega arith
prefix_counts p (v ∷ rest) = elim (p v) as (λ b. p v ≡ b → cond b (1 + prefix_len p rest) 0 ≤ count_by p (v ∷ rest)) [
  | true ↦ λ e. let c : count_by p (v ∷ rest) ≡ 1 + count_by p rest = count-cons p v rest ∙ ap (λ (b : Bool). cond b 1 0 + count_by p rest) e in omega (arith, prefix_counts p rest)
  | false ↦ λ e. omega arith
] refl

group_few : (entries : List Version) → IsInput entries → length (first_group entries) ≤ 33
group_few [] input = omega arith
group_few (v ∷ rest) input =
    let c : count_by (with_key v.key) (v ∷ rest) ≡ 1 + count_by (with_key v.key) rest = count-cons (with_key v.key) v rest ∙ ap (λ (b : Bool). cond b 1 0 + count_by (with_key v.key) rest) (key_itself v.key) in
    omega (arith, input.few v.key, c, prefix_counts (with_key v.key) rest, group_length v rest)

group_is_take : (xs : List Version) → first_group xs ≡ take (length (first_group xs)) xs
group_is_take xs = let s = first_group_split xs in sym (ap (λ (es : List Version). take (length (first_group xs)) es) s.1 ∙ take_at (first_group xs) s.0 (length (first_group xs)) refl)

-- the key at a place of the first group
key_in_group : (v : Version) (rest : List Version) (n : ℕ) (d : Version) → n < length (first_group (v ∷ rest)) → v.key ≡ (get_or (v ∷ rest) n d).key
key_in_group v rest zero d lt = refl
key_in_group v rest (suc n) d lt = same_key v.key (get_or rest n d).key (prefix_len_passes (with_key v.key) rest n d (omega (arith, group_length v rest)))

group_more : (v : Version) (rest : List Version) (n : ℕ) (d : Version) → n < length (first_group (v ∷ rest)) → n + 1 < length (v ∷ rest) → is_same_key (get_or (v ∷ rest) n d).key (get_or rest n d).key ≡ true → n + 1 < length (first_group (v ∷ rest))
group_more v rest n d lt within same = elim (cases_lt n (prefix_len (with_key v.key) rest)) [
  | inl more ↦ omega (arith, group_length v rest)
  | inr le ↦
      let here : n ≡ prefix_len (with_key v.key) rest = omega (arith, group_length v rest) in
      let yes : is_same_key v.key (get_or rest n d).key ≡ true = subst (λ (k : Bytes). is_same_key k (get_or rest n d).key ≡ true) (sym (key_in_group v rest n d lt)) same in
      let no : is_same_key v.key (get_or rest (prefix_len (with_key v.key) rest) d).key ≡ false = prefix_len_stops (with_key v.key) rest d (omega arith) in
      absurd (let clash : is_same_key v.key (get_or rest n d).key ≡ false = ap (λ (k : ℕ). is_same_key v.key (get_or rest k d).key) here ∙ no in cc)
]

pub group_begins : (entries : List Version) (i : ℕ) → i < length entries → IsOneGroup entries i (i + 1)
group_begins entries i lt = elim (drop i entries) as (λ xs. drop i entries ≡ xs → i + 1 ≤ i + length (first_group xs)) [
  | [] ↦ λ e. absurd (omega (arith, ap (λ (es : List Version). length es) e, length-drop i entries))
  | v ∷ rest ↦ λ e. omega (arith, group_length v rest)
] refl

pub group_goes_on : (entries : List Version) (begun i : ℕ) (d : Version) → begun ≤ i → i + 1 < length entries → IsOneGroup entries begun (i + 1) → is_same_key (get_or entries i d).key (get_or entries (i + 1) d).key ≡ true → IsOneGroup entries begun (i + 1 + 1)
group_goes_on entries begun i d le lt group same =
    let n : ℕ = i - begun in
    let at : get_or (drop begun entries) n d ≡ get_or entries i d = get_or-drop begun entries n d ∙ ap (λ (k : ℕ). get_or entries k d) (omega arith) in
    let at_next : get_or (drop begun entries) (suc n) d ≡ get_or entries (i + 1) d =
    ap (λ (k : ℕ). get_or (drop begun entries) k d) (sym (add-one n)) ∙ get_or-drop begun entries (n + 1) d ∙ ap (λ (k : ℕ). get_or entries k d) (omega arith) in
    let size = length-drop begun entries in
    elim (drop begun entries) as (λ xs. get_or xs n d ≡ get_or entries i d → get_or xs (suc n) d ≡ get_or entries (i + 1) d → length xs ≡ length entries - begun → i + 1 ≤ begun + length (first_group xs) → i + 1 + 1 ≤ begun + length (first_group xs)) [
      | [] ↦ λ a b s g. absurd (omega arith)
      | v ∷ rest ↦ λ a b s g.
          let same' : is_same_key (get_or (v ∷ rest) n d).key (get_or rest n d).key ≡ true = rw (a, b) same in
          let h = group_more v rest n d (omega arith) (omega arith) same' in
          omega (arith, h)
    ] at at_next size group

pub starts_at_0 : (entries : List Version) (begun : ℕ) → 0 < length entries → IsKeyStart entries begun 0 → IsKeyStart entries begun 1
starts_at_0 entries begun lt start =
    let none : begun ≡ 0 = omega (arith, start.within) in
    record { within = omega (arith, start.within); begins = λ h. omega (arith, start.within); group = subst (λ (b : ℕ). IsOneGroup entries b 1) (sym none) (group_begins entries 0 lt); apart = start.apart }

pub starts_before : (entries : List Version) (begun i : ℕ) (d : Version) → i + 1 < length entries → IsKeyStart entries begun (i + 1) → is_same_key (get_or entries i d).key (get_or entries (i + 1) d).key ≡ true → IsKeyStart entries begun (i + 1 + 1)
starts_before entries begun i d lt start same =
    let low = start.begins (omega arith) in
    record { within = omega (arith, start.within); begins = λ h. omega (arith, start.within); group = group_goes_on entries begun i d (omega arith) lt start.group same; apart = start.apart }

pub starts_here : (entries : List Version) (i : ℕ) (d : Version) → Pairwise Before entries → i + 1 < length entries → is_same_key (get_or entries i d).key (get_or entries (i + 1) d).key ≡ false → IsKeyStart entries (i + 1) (i + 1 + 1)
starts_here entries i d ordered lt other =
    let ne : (get_or entries i d).key ≢ (get_or entries (i + 1) d).key =
    λ same. let yes : is_same_key (get_or entries i d).key (get_or entries (i + 1) d).key ≡ true = subst (λ (k : Bytes). is_same_key (get_or entries i d).key k ≡ true) same (key_itself (get_or entries i d).key) in absurd cc in
    record { within = omega arith; begins = λ h. omega arith; group = group_begins entries (i + 1) lt; apart = λ h. apart_here entries i d ordered lt ne }

-- the limit is passed within the key that begins there
pub ends_before : (entries : List Version) (begun i : ℕ) → IsInput entries → i < length entries → IsKeyStart entries begun (i + 1)
    → KeepsLimits (take i entries) → IsTooMuch (take (i + 1) entries) → EndsTable entries begun
ends_before entries begun i input lt start within too_much =
    let group = start.group in
    let low = start.begins (omega arith) in
    let le : begun ≤ i = omega arith in
    let size : length (take (i + 1) entries) ≡ i + 1 = length-take-le (i + 1) entries (omega arith) in
    let some : 0 < begun = elim (cases_eq begun 0) [
      | inl none ↦
          let few : i + 1 ≤ 33 = omega (arith, group_few entries input, subst (λ (b : ℕ). i + 1 ≤ b + length (first_group (drop b entries))) none group) in
          absurd (elim too_much [
            | inl many ↦ omega (arith, blocks_few (take (i + 1) entries))
            | inr many ↦ omega arith
          ])
      | inr ne ↦ omega arith
    ] in
    let front : take i entries ≡ take begun entries ++ drop begun (take i entries) = sym (take-append-drop begun (take i entries)) ∙ ap (λ (es : List Version). es ++ drop begun (take i entries)) (take-take begun i entries le) in
    let m : ℕ = length (first_group (drop begun entries)) in
    let len_begun : length (take begun entries) ≡ begun = length-take-le begun entries (omega arith) in
    let grouped : take begun entries ++ first_group (drop begun entries) ≡ take (begun + m) entries =
    ap (λ (es : List Version). take begun entries ++ es) (group_is_take (drop begun entries))
    ∙ sym (take-append-add (take begun entries) (drop begun entries) m)
    ∙ ap (λ (k : ℕ). take (k + m) (take begun entries ++ drop begun entries)) len_begun
    ∙ ap (λ (es : List Version). take (begun + m) es) (take-append-drop begun entries) in
    let longer : take (begun + m) entries ≡ take (i + 1) entries ++ drop (i + 1) (take (begun + m) entries) =
    sym (take-append-drop (i + 1) (take (begun + m) entries)) ∙ ap (λ (es : List Version). es ++ drop (i + 1) (take (begun + m) entries)) (take-take (i + 1) (begun + m) entries group) in
    record {
      some = some;
      inside = omega arith;
      within = record {
        few_blocks = omega (arith, within.few_blocks, blocks_grow (take begun entries) (drop begun (take i entries)), ap (λ (es : List Version). length (blocks es)) front);
        few_entries = omega (arith, within.few_entries, len_begun, length-take-le i entries (omega arith));
      };
      whole_keys = start.apart some;
      greedy = λ more. subst IsTooMuch (sym (grouped ∙ longer)) (more_is_too_much (take (i + 1) entries) (drop (i + 1) (take (begun + m) entries)) too_much);
    }

apart_from_none : (these : List Version) → ShareNoKey these []
apart_from_none [] = tt
apart_from_none (v ∷ these) = (tt, apart_from_none these)

-- all are one table
pub ends_at_end : (entries : List Version) → 0 < length entries → KeepsLimits entries → EndsTable entries (length entries)
ends_at_end entries some within =
    let all : take (length entries) entries ≡ entries = take_all (length entries) entries (omega arith) in
    let none : drop (length entries) entries ≡ [] = drop_all (length entries) entries (omega arith) in
    record {
      some = some;
      inside = omega arith;
      within = subst KeepsLimits (sym all) within;
      whole_keys = subst (λ (es : List Version). ShareNoKey (take (length entries) entries) es) (sym none) (apart_from_none (take (length entries) entries));
      greedy = λ more. absurd (omega (arith, ap (λ (es : List Version). length es) none));
    }

pub kept_within : (entries : List Version) (i : ℕ) (s : Layout) → s ≡ counted (take i entries) → s.blocks ≤ 64 → i ≤ 3200 → KeepsLimits (take i entries)
kept_within entries i s is few_blocks few_entries = record {
  few_blocks = omega (arith, counted_blocks (take i entries), ap (λ (t : Layout). t.blocks) is);
  few_entries = omega (arith, length-take i entries);
}

pub passed : (entries : List Version) (i : ℕ) → length entries ≤ i → KeepsLimits (take i entries) → KeepsLimits entries
passed entries i le within = subst KeepsLimits (take_all i entries le) within

-- what a comparison of two keys, one after the other, said
pub compared : (entries : List Version) (i : ℕ) (a b : Version) (key next : Bytes) (r : Bool) → i + 1 < length entries → a ≡ get_or entries i a → b ≡ get_or entries (i + 1) b → key ≡ a.key → next ≡ b.key → r ≡ is_same_key key next
    → is_same_key (get_or entries i b).key (get_or entries (i + 1) b).key ≡ r
compared entries i a b key next r lt is_a is_b is_key is_next same =
    let first : key ≡ (get_or entries i b).key = is_key ∙ ap (λ (v : Version). v.key) (is_a ∙ get_or_default entries i a b (omega arith)) in
    let second : next ≡ (get_or entries (i + 1) b).key = is_next ∙ ap (λ (v : Version). v.key) is_b in
    sym (same ∙ ap (λ (k : Bytes). is_same_key k next) first ∙ ap (is_same_key (get_or entries i b).key) second)
