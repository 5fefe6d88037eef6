-- Slots are looked through from the first on, and the data blocks of tables counted.
use Rattle.std.proofs.Common.{◌≡◌, ℕ, ◌+◌, ◌<◌, ◌≤◌, true, false, cond, List, [], ◌∷◌, ◌++◌, length, get_or, replicate, take, drop, Option, Some, None, sym, ap, ◌∙◌}
use Rattle.std.specs.Prelude.{not, is_some}
use Rattle.std.proofs.lemmas.List.{drop_more, drop_all, replicate-append-replicate}
use Rattle.std.proofs.lemmas.List.Sums.{sum_by_more}
use Rattle.lsm_levels.specs.Tables.{Table}
use Rattle.lsm_jobs.specs.Slots.{Slot, Slots}
use Rattle.lsm_jobs.specs.Gathering.{data_blocks}
use Rattle.lsm_jobs.specs.Holding.{has_number, place_from, free_from}

module _ (slots : Slots) (n : ℕ) (held : Option Slot) (within : n < length slots) (at : held ≡ get_or slots n held) where
  split : drop n slots ≡ held ∷ drop (n + 1) slots
  split = drop_more slots n held within ∙ ap (λ (x : Option Slot). x ∷ drop (n + 1) slots) (sym at)

  module _ (number : ℕ) (whole : Option ℕ) (so_far : place_from n number (drop n slots) ≡ whole) where
    pub place_further : false ≡ has_number number held → place_from (n + 1) number (drop (n + 1) slots) ≡ whole
    place_further other = ap (λ b. cond b (Some n) (place_from (n + 1) number (drop (n + 1) slots))) other ∙ sym (ap (place_from n number) split) ∙ so_far

    pub place_here : true ≡ has_number number held → Some n ≡ whole
    place_here is = ap (λ b. cond b (Some n) (place_from (n + 1) number (drop (n + 1) slots))) is ∙ sym (ap (place_from n number) split) ∙ so_far

  module _ (whole : Option ℕ) (so_far : free_from n (drop n slots) ≡ whole) where
    pub free_further : is_some held ≡ true → free_from (n + 1) (drop (n + 1) slots) ≡ whole
    free_further some = sym (ap (λ b. cond (not b) (Some n) (free_from (n + 1) (drop (n + 1) slots))) some) ∙ sym (ap (free_from n) split) ∙ so_far

    pub free_here : is_some held ≡ false → Some n ≡ whole
    free_here none = sym (ap (λ b. cond (not b) (Some n) (free_from (n + 1) (drop (n + 1) slots))) none) ∙ sym (ap (free_from n) split) ∙ so_far

pub place_nowhere : (slots : Slots) (n number : ℕ) (whole : Option ℕ) → length slots ≤ n → place_from n number (drop n slots) ≡ whole → None ≡ whole
place_nowhere slots n number whole all so_far = sym (ap (place_from n number) (drop_all n slots all)) ∙ so_far

pub free_nowhere : (slots : Slots) (n : ℕ) (whole : Option ℕ) → length slots ≤ n → free_from n (drop n slots) ≡ whole → None ≡ whole
free_nowhere slots n whole all so_far = sym (ap (free_from n) (drop_all n slots all)) ∙ so_far

-- one free slot more
pub one_free : {A : Type 0} (slots more : List (Option A)) (n : ℕ) → slots ≡ replicate n None → more ≡ slots ++ None ∷ [] → more ≡ replicate (n + 1) None
one_free slots more n so_far pushed = pushed ∙ ap (λ ss. ss ++ None ∷ []) so_far ∙ replicate-append-replicate n 1 None

-- the data blocks of one table more
pub blocks_more : (tables : List Table) (i blocks more : ℕ) (t : Table) → i < length tables → t ≡ get_or tables i t → blocks ≡ data_blocks (take i tables) → more ≡ length t.outline.edges → blocks + more ≡ data_blocks (take (i + 1) tables)
blocks_more tables i blocks more t within at so_far is =
    ap (λ (k : ℕ). k + more) so_far ∙ ap (λ (k : ℕ). data_blocks (take i tables) + k) (is ∙ ap (λ (x : Table). length x.outline.edges) at)
    ∙ sym (sum_by_more (λ (x : Table). length x.outline.edges) tables i t within)
