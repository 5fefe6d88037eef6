-- Laying entries down, one after the other.
use Rattle.std.proofs.Common.{◌≡◌, ℕ, ◌+◌, ◌<◌, ◌≤◌, List, [], ◌∷◌, ◌++◌, length, take, drop, get_or, refl, sym, ap, subst, ◌∙◌, append_assoc, arith, inl, inr}
use Rattle.std.specs.Prelude.{fold}
use Rattle.std.specs.List.{AllByRecursion}
use Rattle.std.proofs.lemmas.Bool.{le-leb, lt-leb, cases_lt}
use Rattle.std.proofs.lemmas.List.{take_more, drop_more, length-drop}
use Rattle.std.proofs.lemmas.List.Sums.{fold_more}
use Rattle.lsm_codec.specs.Versions.{Version, IsEntry}
use Rattle.lsm_codec.specs.Entries.{entry_size, block_size}
use Rattle.lsm_codec.proofs.Lists.{all_append}
use Rattle.lsm_codec.proofs.Sizes.{size-push}
use Rattle.lsm_table.specs.Division.{Block, TableBlocks, laid, blocks}
use Rattle.lsm_table.proofs.Blocks.{laid_fits, laid_full}
use Rattle.lsm_table.specs.Filled.{Filled, none_filled, with_next, blocks_in, AreNextBlocks}

abbrev parts : TableBlocks → Block → ℕ → ℕ → Filled
parts full begun n used = record { full = full; begun = begun; layout = record { blocks = n; used = used } }

full_next : (full : TableBlocks) (begun : Block) (n used : ℕ) (v : Version) → 4096 < used + entry_size v → with_next (parts full begun n used) v ≡ parts (full ++ begun ∷ []) (v ∷ []) (n + 1) (2 + entry_size v)
full_next full begun n used v lt = rw (lt-leb (used + entry_size v) 4096 lt) refl

fit_next : (full : TableBlocks) (begun : Block) (n used : ℕ) (v : Version) → used + entry_size v ≤ 4096 → with_next (parts full begun n used) v ≡ parts full (begun ++ v ∷ []) n (used + entry_size v)
fit_next full begun n used v le = rw (le-leb (used + entry_size v) 4096 le) refl

abbrev blocks_after : List Version → Filled → TableBlocks
blocks_after rest s = blocks_in (fold with_next s rest)

filled_laid : (full : TableBlocks) (begun : Block) (n used : ℕ) (rest : List Version) → used ≡ block_size begun → blocks_after rest (parts full begun n used) ≡ full ++ laid begun rest
unfolding laid
filled_laid full begun n used [] e = refl
filled_laid full begun n used (v ∷ rest) e = elim (cases_lt 4096 (used + entry_size v)) [
  | inl lt ↦
      let over : 4096 < block_size begun + entry_size v = omega (arith, e) in
      ap (blocks_after rest) (full_next full begun n used v lt)
      ∙ filled_laid (full ++ begun ∷ []) (v ∷ []) (n + 1) (2 + entry_size v) rest (omega (arith, size-push [] v))
      ∙ append_assoc full (begun ∷ []) (laid (v ∷ []) rest)
      ∙ ap (λ (t : TableBlocks). full ++ t) (sym (laid_full begun v rest over))
  | inr le ↦
      let one : block_size (begun ++ v ∷ []) ≤ 4096 = omega (arith, size-push begun v, e) in
      ap (blocks_after rest) (fit_next full begun n used v le)
      ∙ filled_laid full (begun ++ v ∷ []) n (used + entry_size v) rest (omega (arith, size-push begun v, e))
      ∙ ap (λ (t : TableBlocks). full ++ t) (sym (laid_fits begun (v ∷ []) rest one))
]

-- blocks filled with these entries
abbrev pub filled : List Version → Filled
filled entries = fold with_next none_filled entries

pub all_filled : (entries : List Version) → blocks_in (filled entries) ≡ blocks entries
unfolding blocks
all_filled entries = filled_laid [] [] 1 2 entries refl

-- The first `place` entries are in these blocks, and the others are left.
pub record IsFilling (done : Filled) (place : ℕ) (left entries : List Version) : Type 0 where
  pub is : done ≡ filled (take place entries)
  pub rest : left ≡ drop place entries
  pub versions : AllByRecursion IsEntry (take place entries)
  pub used : done.layout.used ≤ 4096
  pub count : done.layout.blocks ≤ place + 1

-- an entry comes off the front
pub fills_more : (before after : Filled) (place : ℕ) (left left' entries : List Version) (v : Version) → IsFilling before place left entries → left ≡ v ∷ left' → after ≡ with_next before v → IsEntry v → after.layout.used ≤ 4096 → after.layout.blocks ≤ before.layout.blocks + 1 → IsFilling after (place + 1) left' entries
fills_more before after place left left' entries v so_far is added version used count =
    let lt : place < length entries = omega (arith, length-drop place entries, ap (λ (es : List Version). length es) (sym is ∙ so_far.rest)) in
    let e : v ∷ left' ≡ get_or entries place v ∷ drop (place + 1) entries = sym is ∙ so_far.rest ∙ drop_more entries place v lt in
    let first : v ≡ get_or entries place v = cc in
    let others : left' ≡ drop (place + 1) entries = cc in
    let more : take (place + 1) entries ≡ take place entries ++ v ∷ [] = take_more entries place v lt ∙ ap (λ (w : Version). take place entries ++ w ∷ []) (sym first) in
    record {
      is = added ∙ ap (λ (s : Filled). with_next s v) so_far.is ∙ ap (with_next (filled (take place entries))) first ∙ sym (fold_more with_next none_filled entries place v lt);
      rest = others;
      versions = subst (λ (es : List Version). AllByRecursion IsEntry es) (sym more) (all_append IsEntry (take place entries) (v ∷ []) so_far.versions (version, tt));
      used = used;
      count = omega (arith, so_far.count, count);
    }

-- none comes off where none is left
pub none_off : (place len : ℕ) (left entries : List Version) → left ≡ drop place entries → place < len → len ≤ length entries → left ≡ [] → ⊥
none_off place len left entries rest lt le none = omega (arith, length-drop place entries, ap (λ (es : List Version). length es) (sym none ∙ rest))

pub all_off : (done : Filled) (place len : ℕ) (left entries : List Version) (made : TableBlocks) → IsFilling done place left entries → place ≡ len → made ≡ blocks_in done → AreNextBlocks made len entries left
all_off done place len left entries made so_far ended finished =
    subst (λ (n : ℕ). AreNextBlocks made n entries left) ended
    (record { are = finished ∙ ap blocks_in so_far.is ∙ all_filled (take place entries); versions = so_far.versions; rest = so_far.rest })
