-- What holds of each block that is kept goes on to hold when one is asked for.
use Rattle.std.proofs.Common.{◌≡◌, ◌<◌, ◌⊎◌, inl, inr, ⊎_elim, ℕ, true, false, not, List, [], ◌∷◌, ap, Option, Some, None, IfSome, All, refl, sym, ◌∙◌, subst}
use Rattle.std.specs.Map.{lookup}
use Rattle.std.proofs.lemmas.List.Elements.{All-take, All-cons, All-head, All-tail, All-filter}
use Rattle.lsm_cache.specs.declared.name.BlockName.{BlockName}
use Rattle.lsm_cache.specs.Recency.{Cached, is_same_block, bytes_of, asked, refused, IsAsked}
use Rattle.lsm_cache.specs.Reads.{block_at}
use Rattle.lsm_cache.specs.Fresh.{IsFresh, IsNumberedBelow}
use Rattle.lsm_cache.proofs.Recent.{same_name}

module _ (P : BlockName × List ℕ → Type 0) (name : BlockName) (bytes : List ℕ) where
  found_in : (bs : List (BlockName × List ℕ)) → All P bs → lookup (is_same_block name) bs ≡ Some bytes → P (name, bytes)
  found_in [] all is = let no : None ≡ Some bytes = is in cc
  found_in (b ∷ bs) all is = (elim (is_same_block name b.0) as (λ y. is_same_block name b.0 ≡ y → P (name, bytes)) [
    | true ↦ λ t.
        let its : Some b.1 ≡ Some bytes = rw t at is in
        let value : b.1 ≡ bytes = cc in
        let at : P (b.0, bytes) = subst (λ (v : List ℕ). P (b.0, v)) value (All-head P b bs all) in
        subst (λ (n : BlockName). P (n, bytes)) (sym (same_name name b.0 t)) at
    | false ↦ λ t. found_in bs (All-tail P b bs all) (rw t at is)
  ]) refl

  -- it holds of the one that is found
  pub All-bytes_of : (c : Cached) → All P c.blocks → bytes_of name c ≡ Some bytes → P (name, bytes)
  All-bytes_of c all is = found_in c.blocks all is

  -- and of each after one was asked for, if it holds of that one
  pub All-asked : (old new : Cached) → P (name, bytes) → All P old.blocks → IsAsked name bytes old new → All P new.blocks
  All-asked old new this all after = ⊎_elim
      (λ (is : new ≡ asked name bytes old). rw is (All-take P old.capacity _ (All-cons P (name, bytes) _ this (All-filter (λ b. not (is_same_block name b.0)) P old.blocks all))))
      (λ (is : (bytes_of name old ≡ None) × (new ≡ refused old)). rw is.1 all)
      after

module _ (place : BlockName → Option ℕ) (sectors : List (List ℕ)) (name : BlockName) (at : ℕ) (out : List ℕ) (c : Cached) (stands : place name ≡ Some at) (fresh : IsFresh place sectors c) where
  -- a block that a fresh cache keeps is the one at its place
  pub kept_fresh : bytes_of name c ≡ Some out → out ≡ block_at sectors at
  kept_fresh is =
      let kept : IfSome (place name) (λ n. out ≡ block_at sectors n) = All-bytes_of (λ b. IfSome (place b.0) (λ n. b.1 ≡ block_at sectors n)) name out c fresh is in
      rw stands at kept

  -- and it stays fresh
  pub still_fresh : (new : Cached) → out ≡ block_at sectors at → IsAsked name out c new → IsFresh place sectors new
  still_fresh new this after = All-asked (λ b. IfSome (place b.0) (λ n. b.1 ≡ block_at sectors n)) name out c new (rw stands this) fresh after

  -- a block that is given is the one at its place: as it is kept, or else as it is read
  pub given_fresh : IfSome (bytes_of name c) (λ kept. out ≡ kept) → (bytes_of name c ≡ None → out ≡ block_at sectors at) → out ≡ block_at sectors at
  given_fresh kept read = (elim (bytes_of name c) as (λ o. bytes_of name c ≡ o → IfSome o (λ kept. out ≡ kept) → out ≡ block_at sectors at) [
    | None ↦ λ is its. read is
    | Some bytes ↦ λ is its. kept_fresh (is ∙ ap (λ b. Some b) (sym its))
  ]) refl kept

  pub given_still_fresh : (new : Cached) → IfSome (bytes_of name c) (λ kept. out ≡ kept) → (bytes_of name c ≡ None → out ≡ block_at sectors at) → IsAsked name out c new → IsFresh place sectors new
  given_still_fresh new kept read after = still_fresh new (given_fresh kept read) after

-- the numbers of tables stay below
pub still_below : (number : ℕ) (name : BlockName) (out : List ℕ) (c new : Cached) → name.table < number → IsNumberedBelow number c → IsAsked name out c new → IsNumberedBelow number new
still_below number name out c new low below after = All-asked (λ b. b.0.table < number) name out c new low below after

-- a block was asked for that was not kept
pub asked_new : (name : BlockName) (out : List ℕ) (before c new : Cached) → before ≡ c → bytes_of name before ≡ None → (new ≡ asked name out before) ⊎ (new ≡ refused before) → IsAsked name out c new
asked_new name out before c new same none after = rw (← same) (⊎_elim
    (λ (is : new ≡ asked name out before). inl is)
    (λ (is : new ≡ refused before). inr (none, is))
    after)

-- as many blocks may be kept as before
pub asked_capacity : (name : BlockName) (out : List ℕ) (c new : Cached) → IsAsked name out c new → new.capacity ≡ c.capacity
asked_capacity name out c new after = ⊎_elim
    (λ (is : new ≡ asked name out c). ap (λ (k : Cached). k.capacity) is)
    (λ (is : (bytes_of name c ≡ None) × (new ≡ refused c)). ap (λ (k : Cached). k.capacity) is.1)
    after

-- a block that is kept is not absent
pub kept_not_absent : {P : Type 0} (o : Option (List ℕ)) (bytes : List ℕ) → o ≡ Some bytes → o ≡ None → P
kept_not_absent o bytes is none = let no : Some bytes ≡ None = sym is ∙ none in cc
