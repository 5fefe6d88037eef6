-- Each two of a list.
use Rattle.std.proofs.Common.{List, [], ◌∷◌, ◌++◌, All}
use Rattle.std.proofs.lemmas.List.Elements.{All-nil, All-cons, All-head, All-tail, All-append}
use Rattle.lsm_codec.specs.Pairs.{Pairwise}

module _ {X : Type 0} where
  pub All-left : (P : X → Type 0) (xs ys : List X) → All P (xs ++ ys) → All P xs
  All-left P [] ys all = All-nil P
  All-left P (x ∷ xs) ys all = All-cons P x xs (All-head P x (xs ++ ys) all) (All-left P xs ys (All-tail P x (xs ++ ys) all))

  pub All-right : (P : X → Type 0) (xs ys : List X) → All P (xs ++ ys) → All P ys
  All-right P [] ys all = all
  All-right P (x ∷ xs) ys all = All-right P xs ys (All-tail P x (xs ++ ys) all)

  module _ (R : X → X → Type 0) where
    -- each of the first list with each of the second
    abbrev pub Cross : List X → List X → Type 0
    Cross xs ys = All (λ x. All (R x) ys) xs

    pub pairwise_left : (xs ys : List X) → Pairwise R (xs ++ ys) → Pairwise R xs
    pairwise_left [] ys all = tt
    pairwise_left (x ∷ xs) ys all = (All-left (R x) xs ys all.0, pairwise_left xs ys all.1)

    pub pairwise_right : (xs ys : List X) → Pairwise R (xs ++ ys) → Pairwise R ys
    pairwise_right [] ys all = all
    pairwise_right (x ∷ xs) ys all = pairwise_right xs ys all.1

    pub pairwise_cross : (xs ys : List X) → Pairwise R (xs ++ ys) → All (λ x. All (R x) ys) xs
    pairwise_cross [] ys all = All-nil (λ (x : X). All (R x) ys)
    pairwise_cross (x ∷ xs) ys all = All-cons (λ (x : X). All (R x) ys) x xs (All-right (R x) xs ys all.0) (pairwise_cross xs ys all.1)

    pub pairwise_join : (xs ys : List X) → Pairwise R xs → Pairwise R ys → All (λ x. All (R x) ys) xs → Pairwise R (xs ++ ys)
    pairwise_join [] ys first second cross = second
    pairwise_join (x ∷ xs) ys first second cross = (
      All-append (R x) xs ys first.0 (All-head (λ (x : X). All (R x) ys) x xs cross),
      pairwise_join xs ys first.1 second (All-tail (λ (x : X). All (R x) ys) x xs cross),
    )
