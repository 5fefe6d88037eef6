-- A region that is read piece by piece.
use Rattle.std.proofs.Common.{◌≡◌, ◌<◌, ◌≤◌, ℕ, ◌+◌, ◌-◌, ◌/◌, List, [], ◌∷◌, ◌++◌, length, take, drop, true, false, refl, sym, ◌∙◌, ap, arith, subst, append-nil, take_all, length-take-le, drop-drop}
use Rattle.std.specs.Prelude.{slice_get, Some}
use Rattle.std.proofs.lemmas.List.{take-append-drop, drop_all}
use Rattle.lsm_device.specs.Areas.{area}
use Rattle.lsm_device.specs.Runs.{pieces}
use Rattle.lsm_device.proofs.Pieces.{count_of, length-pieces}
use Rattle.lsm_log.specs.declared.read_batches.ReadBatches.{ReadBatches}
use Rattle.lsm_log.proofs.Gathering.{next_sector}
use Rattle.lsm_log.specs.ReadSoFar.{batches_with, awaited_in, HaveTaken}

-- How far a region is read: its first k sectors are, and each was awaited.
pub record HasRead {A : Type 0} (k : ℕ) (sectors : List (List ℕ)) (old new : ReadBatches A) : Type 0 where
  pub batches : batches_with new (drop k sectors) ≡ batches_with old sectors
  pub awaited : k + awaited_in new (drop k sectors) ≡ awaited_in old sectors

pub read_none : {A : Type 0} (sectors : List (List ℕ)) (old : ReadBatches A) → HasRead 0 sectors old old
read_none sectors old = record { batches = refl; awaited = omega arith }

behind_part : (from count : ℕ) (sectors part : List (List ℕ)) → part ≡ take count (drop from sectors) → drop from sectors ≡ part ++ drop (from + count) sectors
behind_part from count sectors part is =
    sym (take-append-drop count (drop from sectors))
    ∙ ap (λ (l : List (List ℕ)). l ++ drop count (drop from sectors)) (sym is)
    ∙ ap (λ (l : List (List ℕ)). part ++ l) (drop-drop count from sectors)

module _ {A : Type 0} (sectors part : List (List ℕ)) (k from count : ℕ) (same : k ≡ from) (is : part ≡ take count (drop from sectors)) (old mid new : ReadBatches A) (so_far : HasRead k sectors old mid) where
  here : HasRead from sectors old mid
  here = subst (λ (n : ℕ). HasRead n sectors old mid) same so_far

  next : drop from sectors ≡ part ++ drop (from + count) sectors
  next = behind_part from count sectors part is

  -- all of some more sectors are awaited
  pub read_more : (after : ℕ) → after ≡ from + count → length part ≡ count → HaveTaken true part mid new → HasRead after sectors old new
  read_more after place long taken =
      let its = taken (drop (from + count) sectors) in
      subst (λ (n : ℕ). HasRead n sectors old new) (sym place) (record {
        batches = its.0 ∙ ap (batches_with mid) (sym next) ∙ here.batches;
        awaited = omega (arith, long, its.1, ap (awaited_in mid) next, here.awaited);
      })

  -- one of them isn't
  pub read_ends : HaveTaken false part mid new → new.batches.items ≡ batches_with old sectors
  read_ends taken = taken (drop (from + count) sectors) ∙ ap (batches_with mid) (sym next) ∙ here.batches

-- all of the region is read
pub read_all : {A : Type 0} (sectors : List (List ℕ)) (k : ℕ) (old new : ReadBatches A) → length sectors ≤ k → HasRead k sectors old new → new.batches.items ≡ batches_with old sectors
read_all sectors k old new all so_far =
    sym (append-nil new.batches.items) ∙ ap (batches_with new) (sym (drop_all k sectors all)) ∙ so_far.batches

-- the one sector that was read is the next of the region
pub one_read : (start n done : ℕ) (sectors : List (List ℕ)) (out shown : List ℕ) → done < n → start + n ≤ length sectors → 512 ≤ length out → shown ≡ take 512 out → slice_get sectors (start + done) ≡ Some (take 512 out)
    → pieces (length shown / 512) shown ≡ take 1 (drop done (area start n sectors))
one_read start n done sectors out shown below within room same read =
    let long : length shown ≡ 512 = ap length same ∙ length-take-le 512 out room in
    let place : start + done - start ≡ done = omega arith in
    let is = next_sector start n (start + done) sectors (take 512 out) (omega arith) (omega (arith, below)) (omega (arith, within, below)) read in
    ap (λ (k : ℕ). pieces k shown) (count_of (length shown) 1 (omega (arith, long)))
    ∙ ap (λ (l : List ℕ). l ∷ []) (take_all 512 shown (omega (arith, long)) ∙ same)
    ∙ sym (ap (take 1) (ap (λ (k : ℕ). drop k (area start n sectors)) (sym place) ∙ is))

pub one_long : (out shown : List ℕ) → 512 ≤ length out → shown ≡ take 512 out → length (pieces (length shown / 512) shown) ≡ 1
one_long out shown room same =
    let long : length shown ≡ 512 = ap length same ∙ length-take-le 512 out room in
    length-pieces (length shown / 512) shown ∙ count_of (length shown) 1 (omega (arith, long))
