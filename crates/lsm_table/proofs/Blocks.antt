-- Entries laid down in order: the resulting blocks are the only ones that the definition allows.
use Rattle.std.proofs.Common.{◌≡◌, ◌+◌, ◌<◌, ◌≤◌, List, [], ◌∷◌, ◌++◌, length, refl, sym, ap, subst, ◌∙◌, append_assoc, arith, inl, inr}
use Rattle.std.specs.List.{AllByRecursion}
use Rattle.std.proofs.lemmas.Bool.{le-leb, lt-leb, cases_lt}
use Rattle.std.proofs.lemmas.List.{append-nil, length-append}
use Rattle.lsm_codec.specs.Versions.{Version}
use Rattle.lsm_codec.proofs.Sizes.{size-append, size-push}
use Rattle.lsm_codec.specs.Entries.{entry_size, block_size}
use Rattle.lsm_table.specs.Division.{Block, TableBlocks, entries_of, AllAdjacent, IsFullBefore, IsBlocks, laid, blocks}

size_grows : (b x : Block) (v : Version) → block_size b + entry_size v ≤ block_size (b ++ v ∷ x)
size_grows b x v = omega (arith, size-push b v, size-append (b ++ v ∷ []) x, ap block_size (append_assoc b (v ∷ []) x))

-- what fits goes into the block that is begun
pub laid_fits : (b x : Block) (rest : List Version) → block_size (b ++ x) ≤ 4096 → laid b (x ++ rest) ≡ laid (b ++ x) rest
unfolding laid
laid_fits b [] rest fits = ap (λ (y : Block). laid y rest) (sym (append-nil b))
laid_fits b (v ∷ x) rest fits =
    let le : block_size b + entry_size v ≤ 4096 = omega (arith, size_grows b x v) in
    let regrouped : (b ++ v ∷ []) ++ x ≡ b ++ v ∷ x = append_assoc b (v ∷ []) x in
    let more : block_size ((b ++ v ∷ []) ++ x) ≤ 4096 = rw regrouped fits in
    rw (le-leb (block_size b + entry_size v) 4096 le) (laid_fits (b ++ v ∷ []) x rest more ∙ ap (λ (y : Block). laid y rest) regrouped)

-- what doesn't begins the next
pub laid_full : (b : Block) (v : Version) (rest : List Version) → 4096 < block_size b + entry_size v → laid b (v ∷ rest) ≡ b ∷ laid (v ∷ []) rest
unfolding laid
laid_full b v rest lt = rw (lt-leb (block_size b + entry_size v) 4096 lt) refl

laid_over : (b : Block) (bs : TableBlocks) → AllByRecursion (λ block. 0 < length block) bs → AllByRecursion (λ block. block_size block ≤ 4096) bs → AllAdjacent IsFullBefore (b ∷ bs) → laid b (entries_of bs) ≡ b ∷ bs
unfolding laid
laid_over b [] some fits full = refl
laid_over b ([] ∷ bs) some fits full = absurd full.0
laid_over b ((v ∷ x) ∷ bs) some fits full =
    laid_full b v (x ++ entries_of bs) full.0
    ∙ ap (λ (t : TableBlocks). b ∷ t) (laid_fits (v ∷ []) x (entries_of bs) fits.0 ∙ laid_over (v ∷ x) bs some.1 fits.1 full.1)

pub only_blocks : (entries : List Version) (bs : TableBlocks) → 0 < length bs → IsBlocks entries bs → bs ≡ blocks entries
unfolding blocks
only_blocks entries [] some is = absurd (omega arith)
only_blocks entries (b ∷ bs) some is =
    sym (ap (λ (es : List Version). laid [] es) (sym is.whole) ∙ laid_fits [] b (entries_of bs) is.fits.0 ∙ laid_over b bs is.nonempty.1 is.fits.1 is.full)

-- ---- the resulting blocks are such blocks

joined_laid : (b : Block) (rest : List Version) → entries_of (laid b rest) ≡ b ++ rest
unfolding laid
joined_laid b [] = refl
joined_laid b (v ∷ rest) = elim (cases_lt 4096 (block_size b + entry_size v)) [
  | inl lt ↦ rw (lt-leb (block_size b + entry_size v) 4096 lt) (ap (λ (es : List Version). b ++ es) (joined_laid (v ∷ []) rest))
  | inr le ↦ rw (le-leb (block_size b + entry_size v) 4096 le) (joined_laid (b ++ v ∷ []) rest ∙ append_assoc b (v ∷ []) rest)
]

some_laid : (b : Block) (rest : List Version) → 0 < length b → AllByRecursion (λ block. 0 < length block) (laid b rest)
unfolding laid
some_laid b [] some = (some, tt)
some_laid b (v ∷ rest) some = elim (cases_lt 4096 (block_size b + entry_size v)) [
  | inl lt ↦ rw (lt-leb (block_size b + entry_size v) 4096 lt) (some, some_laid (v ∷ []) rest (omega arith))
  | inr le ↦ rw (le-leb (block_size b + entry_size v) 4096 le) (some_laid (b ++ v ∷ []) rest (omega (arith, length-append b (v ∷ []))))
]

abbrev pub Fits : List Version → Type 0
Fits entries = AllByRecursion (λ v. entry_size v ≤ 4094) entries

laid_is_fit : (b : Block) (rest : List Version) → block_size b ≤ 4096 → Fits rest → AllByRecursion (λ block. block_size block ≤ 4096) (laid b rest)
unfolding laid
laid_is_fit b [] fit fits = (fit, tt)
laid_is_fit b (v ∷ rest) fit fits = elim (cases_lt 4096 (block_size b + entry_size v)) [
  | inl lt ↦ rw (lt-leb (block_size b + entry_size v) 4096 lt) (fit, laid_is_fit (v ∷ []) rest (omega (arith, size-push [] v, fits.0)) fits.1)
  | inr le ↦ rw (le-leb (block_size b + entry_size v) 4096 le) (laid_is_fit (b ++ v ∷ []) rest (omega (arith, size-push b v)) fits.1)
]

-- the first block begins as the one that was begun
first_laid : (v : Version) (b : Block) (rest : List Version) → (x : Block) × (y : TableBlocks) × (laid (v ∷ b) rest ≡ (v ∷ x) ∷ y)
unfolding laid
first_laid v b [] = (b, [], refl)
first_laid v b (w ∷ rest) = elim (cases_lt 4096 (block_size (v ∷ b) + entry_size w)) [
  | inl lt ↦ (b, laid (w ∷ []) rest, rw (lt-leb (block_size (v ∷ b) + entry_size w) 4096 lt) refl)
  | inr le ↦ let next = first_laid v (b ++ w ∷ []) rest in (next.0, next.1, rw (le-leb (block_size (v ∷ b) + entry_size w) 4096 le) next.2)
]

full_laid : (b : Block) (rest : List Version) → AllAdjacent IsFullBefore (laid b rest)
unfolding laid
full_laid b [] = tt
full_laid b (v ∷ rest) = elim (cases_lt 4096 (block_size b + entry_size v)) [
  | inl lt ↦
      let next = first_laid v [] rest in
      let others : AllAdjacent IsFullBefore ((v ∷ next.0) ∷ next.1) = subst (λ (t : TableBlocks). AllAdjacent IsFullBefore t) next.2 (full_laid (v ∷ []) rest) in
      rw (lt-leb (block_size b + entry_size v) 4096 lt) (subst (λ (t : TableBlocks). AllAdjacent IsFullBefore (b ∷ t)) (sym next.2) (lt, others))
  | inr le ↦ rw (le-leb (block_size b + entry_size v) 4096 le) (full_laid (b ++ v ∷ []) rest)
]

pub are_blocks : (entries : List Version) → 0 < length entries → Fits entries → IsBlocks entries (blocks entries)
unfolding blocks
are_blocks [] some fits = absurd (omega arith)
are_blocks (v ∷ rest) some fits =
    let e : laid [] (v ∷ rest) ≡ laid (v ∷ []) rest = laid_fits [] (v ∷ []) rest (omega (arith, size-push [] v, fits.0)) in
    subst (λ (t : TableBlocks). IsBlocks (v ∷ rest) t) (sym e) (record {
      whole = joined_laid (v ∷ []) rest;
      nonempty = some_laid (v ∷ []) rest (omega arith);
      fits = laid_is_fit (v ∷ []) rest (omega (arith, size-push [] v, fits.0)) fits.1;
      full = full_laid (v ∷ []) rest;
    })

-- ---- how many they are

laid_some : (b : Block) (rest : List Version) → 1 ≤ length (laid b rest)
unfolding laid
laid_some b [] = omega arith
laid_some b (v ∷ rest) = elim (cases_lt 4096 (block_size b + entry_size v)) [
  | inl lt ↦ rw (lt-leb (block_size b + entry_size v) 4096 lt) (omega arith)
  | inr le ↦ rw (le-leb (block_size b + entry_size v) 4096 le) (laid_some (b ++ v ∷ []) rest)
]

laid_grows : (b : Block) (some more : List Version) → length (laid b some) ≤ length (laid b (some ++ more))
unfolding laid
laid_grows b [] more = laid_some b more
laid_grows b (v ∷ rest) more = elim (cases_lt 4096 (block_size b + entry_size v)) [
  | inl lt ↦ let h = laid_grows (v ∷ []) rest more in rw (lt-leb (block_size b + entry_size v) 4096 lt) (omega (arith, h))
  | inr le ↦ rw (le-leb (block_size b + entry_size v) 4096 le) (laid_grows (b ++ v ∷ []) rest more)
]

pub blocks_grow : (some more : List Version) → length (blocks some) ≤ length (blocks (some ++ more))
unfolding blocks
blocks_grow some more = laid_grows [] some more

laid_few : (b : Block) (rest : List Version) → length (laid b rest) ≤ 1 + length rest
unfolding laid
laid_few b [] = omega arith
laid_few b (v ∷ rest) = elim (cases_lt 4096 (block_size b + entry_size v)) [
  | inl lt ↦ let h = laid_few (v ∷ []) rest in rw (lt-leb (block_size b + entry_size v) 4096 lt) (omega (arith, h))
  | inr le ↦ let h = laid_few (b ++ v ∷ []) rest in rw (le-leb (block_size b + entry_size v) 4096 le) (omega (arith, h))
]

pub blocks_few : (entries : List Version) → length (blocks entries) ≤ 1 + length entries
unfolding blocks
blocks_few entries = laid_few [] entries

pub blocks_some : (entries : List Version) → 1 ≤ length (blocks entries)
unfolding blocks
blocks_some entries = laid_some [] entries
