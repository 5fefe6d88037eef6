-- Counting blocks gives how many they are.
use Rattle.std.proofs.Common.{◌≡◌, ℕ, ◌+◌, ◌<◌, ◌≤◌, List, [], ◌∷◌, ◌++◌, length, take, get_or, refl, sym, ap, ◌∙◌, arith, inl, inr}
use Rattle.std.specs.List.{fold}
use Rattle.std.proofs.lemmas.List.Sums.{fold_more}
use Rattle.std.proofs.lemmas.Bool.{le-leb, lt-leb, cases_lt}
use Rattle.lsm_table.specs.declared.layout.Layout.{Layout}
use Rattle.lsm_codec.specs.Versions.{Version}
use Rattle.lsm_codec.specs.Entries.{entry_size, block_size}
use Rattle.lsm_table.specs.Division.{Block, TableBlocks, laid, blocks}
use Rattle.lsm_table.specs.Counting.{with_entry}
use Rattle.lsm_codec.proofs.Sizes.{size-push}
use Rattle.lsm_table.proofs.Blocks.{laid_full, laid_fits}

abbrev pub counting : Layout → Version → Layout
counting s v = with_entry s (entry_size v)

abbrev pub layout : ℕ → ℕ → Layout
layout n used = record { blocks = n; used = used }

abbrev pub counted : List Version → Layout
counted entries = fold counting (layout 1 2) entries

pub full_entry : (n used size : ℕ) → 4096 < used + size → with_entry (layout n used) size ≡ layout (n + 1) (2 + size)
full_entry n used size lt = rw (lt-leb (used + size) 4096 lt) refl

pub fit_entry : (n used size : ℕ) → used + size ≤ 4096 → with_entry (layout n used) size ≡ layout n (used + size)
fit_entry n used size le = rw (le-leb (used + size) 4096 le) refl

abbrev pub blocks_after : List Version → Layout → ℕ
blocks_after rest s = (fold counting s rest).blocks + 1

pub counted_laid : (n : ℕ) (b : Block) (rest : List Version) → blocks_after rest (layout n (block_size b)) ≡ n + length (laid b rest)
unfolding laid
counted_laid n b [] = refl
counted_laid n b (v ∷ rest) = elim (cases_lt 4096 (block_size b + entry_size v)) [
  | inl lt ↦
      let size : 2 + entry_size v ≡ block_size (v ∷ []) = omega (arith, size-push [] v) in
      let here : blocks_after rest (with_entry (layout n (block_size b)) (entry_size v)) ≡ n + 1 + length (laid (v ∷ []) rest) =
      ap (blocks_after rest) (full_entry n (block_size b) (entry_size v) lt) ∙ ap (λ (s : ℕ). blocks_after rest (layout (n + 1) s)) size ∙ counted_laid (n + 1) (v ∷ []) rest in
      let more : n + 1 + length (laid (v ∷ []) rest) ≡ n + length (b ∷ laid (v ∷ []) rest) = omega arith in
      here ∙ more ∙ ap (λ (t : TableBlocks). n + length t) (sym (laid_full b v rest lt))
  | inr le ↦
      let here : blocks_after rest (with_entry (layout n (block_size b)) (entry_size v)) ≡ n + length (laid (b ++ v ∷ []) rest) =
      ap (blocks_after rest) (fit_entry n (block_size b) (entry_size v) le) ∙ ap (λ (s : ℕ). blocks_after rest (layout n s)) (sym (size-push b v)) ∙ counted_laid n (b ++ v ∷ []) rest in
      let one : block_size (b ++ v ∷ []) ≤ 4096 = omega (arith, size-push b v) in
      here ∙ ap (λ (t : TableBlocks). n + length t) (sym (laid_fits b (v ∷ []) rest one))
]

pub counted_blocks : (entries : List Version) → (counted entries).blocks ≡ length (blocks entries)
unfolding blocks
counted_blocks entries = omega (arith, counted_laid 1 [] entries)

-- one entry more
pub counts_more : (entries : List Version) (i : ℕ) (before after : Layout) (v : Version) (size : ℕ) → i < length entries → before ≡ counted (take i entries) → v ≡ get_or entries i v → size ≡ entry_size v → after ≡ with_entry before size → after ≡ counted (take (i + 1) entries)
counts_more entries i before after v size lt so_far is same_size laid_down =
    let here : with_entry before size ≡ counting (counted (take i entries)) (get_or entries i v) = ap (λ (s : Layout). with_entry s size) so_far ∙ ap (with_entry (counted (take i entries))) (same_size ∙ ap entry_size is) in
    laid_down ∙ here ∙ sym (fold_more counting (layout 1 2) entries i v lt)
