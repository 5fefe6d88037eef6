-- Sectors that a replay takes one after the other.
use Rattle.std.proofs.Common.{◌≡◌, ◌<◌, ◌≤◌, ℕ, ◌+◌, List, [], ◌∷◌, ◌++◌, length, length-append, get_or, take, drop, true, false, refl, sym, ◌∙◌, ap, arith, append_assoc, subst}
use Rattle.std.proofs.lemmas.List.{take_all, take_more, take-append-drop, drop_more}
use Rattle.lsm_log.specs.declared.read_batches.ReadBatches.{ReadBatches}
use Rattle.lsm_log.specs.ReadSoFar.{batches_with, awaited_in, HasTaken, HaveTaken}

module _ {A : Type 0} (sectors : List (List ℕ)) (sector : List ℕ) (i : ℕ) (lt : i < length sectors) (is : sector ≡ get_or sectors i []) (old mid new : ReadBatches A) (so_far : HaveTaken true (take i sectors) old mid) where
  split : take (i + 1) sectors ≡ take i sectors ++ sector ∷ []
  split = take_more sectors i [] lt ∙ ap (λ (s : List ℕ). take i sectors ++ s ∷ []) (sym is)

  behind : (rest : List (List ℕ)) → take (i + 1) sectors ++ rest ≡ take i sectors ++ (sector ∷ rest)
  behind rest = ap (λ (l : List (List ℕ)). l ++ rest) split ∙ append_assoc (take i sectors) (sector ∷ []) rest

  -- one more is taken
  pub takes_one_more : HasTaken true sector mid new → HaveTaken true (take (i + 1) sectors) old new
  takes_one_more taken rest = (
    (taken rest).0 ∙ (so_far (sector ∷ rest)).0 ∙ ap (batches_with old) (sym (behind rest)),
    ap (awaited_in old) (behind rest) ∙ (so_far (sector ∷ rest)).1
        ∙ ap (λ (n : ℕ). length (take i sectors) + n) (taken rest).1
        ∙ omega (arith, ap length split, length-append (take i sectors) (sector ∷ [])),
  )

  all_split : sectors ≡ take i sectors ++ (sector ∷ drop (i + 1) sectors)
  all_split = sym (take-append-drop i sectors) ∙ ap (λ (l : List (List ℕ)). take i sectors ++ l) (drop_more sectors i [] lt ∙ ap (λ (s : List ℕ). s ∷ drop (i + 1) sectors) (sym is))

  -- the next one isn't
  pub takes_no_more : HasTaken false sector mid new → HaveTaken false sectors old new
  takes_no_more taken rest =
      taken (drop (i + 1) sectors ++ rest)
      ∙ (so_far (sector ∷ (drop (i + 1) sectors ++ rest))).0
      ∙ ap (batches_with old) (sym (ap (λ (l : List (List ℕ)). l ++ rest) all_split ∙ append_assoc (take i sectors) (sector ∷ drop (i + 1) sectors) rest))

-- none is taken yet
pub takes_none : {A : Type 0} (sectors : List (List ℕ)) (old : ReadBatches A) → HaveTaken true (take 0 sectors) old old
takes_none sectors old rest = (refl, omega arith)

-- all are
pub takes_all : {A : Type 0} (sectors : List (List ℕ)) (i : ℕ) (old new : ReadBatches A) → length sectors ≤ i → HaveTaken true (take i sectors) old new → HaveTaken true sectors old new
takes_all {A} sectors i old new all so_far = subst (λ (l : List (List ℕ)). HaveTaken true l old new) (take_all i sectors all) so_far
