-- The log records of the regions that hold batches stand for the same as all of them.
use Rattle.std.proofs.Common.{◌≡◌, ℕ, ◌+◌, ◌≤◌, ◌==◌, ◌&&◌, Bool, true, List, [], ◌∷◌, ◌++◌, length, refl, sym, ◌∙◌, ap, subst, arith, append_assoc, All}
use Rattle.std.proofs.lemmas.Bool.{and_parts}
use Rattle.std.proofs.lemmas.List.{length-append}
use Rattle.std.proofs.lemmas.List.Elements.{All-nil, All-cons}
use Rattle.lsm_codec.specs.declared.log_record.LogRecord.{LogRecord}
use Rattle.lsm_codec.specs.Map.{Operation}
use Rattle.lsm_open.specs.LogRegions.{batches_at, all_batches, follow_on, one_if_some, regions_with_batches}
use Rattle.lsm_open.specs.Reopening.{kept_before, kept_records}

abbrev Sectors : Type 0
Sectors = List (List ℕ)

abbrev Batches : Type 0
Batches = List (List Operation)

module _ (n : ℕ) (s : Sectors) where
  -- ---- records, one list after the other

  pub all_batches-append : (xs ys : List LogRecord) → all_batches n s (xs ++ ys) ≡ all_batches n s xs ++ all_batches n s ys
  all_batches-append [] ys = refl
  all_batches-append (x ∷ xs) ys = ap (λ (l : Batches). batches_at n s x ++ l) (all_batches-append xs ys) ∙ sym (append_assoc (batches_at n s x) (all_batches n s xs) (all_batches n s ys))

  pub regions-append : (xs ys : List LogRecord) → regions_with_batches n s (xs ++ ys) ≡ regions_with_batches n s xs + regions_with_batches n s ys
  regions-append [] ys = omega arith
  regions-append (x ∷ xs) ys = let later = regions-append xs ys in omega (arith, later)

  pub follow_on-append : (k : ℕ) (xs ys : List LogRecord) → follow_on n s k xs ≡ true → follow_on n s (k + length (all_batches n s xs)) ys ≡ true → follow_on n s k (xs ++ ys) ≡ true
  follow_on-append k [] ys first next = let same : k + 0 ≡ k = omega arith in subst (λ (m : ℕ). follow_on n s m ys ≡ true) same next
  follow_on-append k (x ∷ xs) ys first next =
      let both = and_parts (x.first_batch == k) (follow_on n s (k + length (batches_at n s x)) xs) first in
      let long : k + length (batches_at n s x ++ all_batches n s xs) ≡ (k + length (batches_at n s x)) + length (all_batches n s xs) = omega (arith, length-append (batches_at n s x) (all_batches n s xs)) in
      ap (λ (b : Bool). b && follow_on n s (k + length (batches_at n s x)) (xs ++ ys)) both.0
      ∙ follow_on-append (k + length (batches_at n s x)) xs ys both.1 (subst (λ (m : ℕ). follow_on n s m ys ≡ true) long next)

  -- ---- those with batches alone

  kept_batches : (bs : Batches) (r : LogRecord) (rest : List LogRecord) → batches_at n s r ≡ bs → all_batches n s (kept_before bs r rest) ≡ bs ++ all_batches n s rest
  kept_batches [] r rest is = refl
  kept_batches (b ∷ bs) r rest is = ap (λ (l : Batches). l ++ all_batches n s rest) is

  pub same_batches : (logs : List LogRecord) → all_batches n s (kept_records n s logs) ≡ all_batches n s logs
  same_batches [] = refl
  same_batches (r ∷ rest) = kept_batches (batches_at n s r) r (kept_records n s rest) refl ∙ ap (λ (l : Batches). batches_at n s r ++ l) (same_batches rest)

  kept_length : (bs : Batches) (r : LogRecord) (rest : List LogRecord) → length (kept_before bs r rest) ≡ one_if_some bs + length rest
  kept_length [] r rest = omega arith
  kept_length (b ∷ bs) r rest = omega arith

  pub count_kept : (logs : List LogRecord) → length (kept_records n s logs) ≡ regions_with_batches n s logs
  count_kept [] = refl
  count_kept (r ∷ rest) = let later = count_kept rest in omega (arith, later, kept_length (batches_at n s r) r (kept_records n s rest))

  kept_follow : (k : ℕ) (bs : Batches) (r : LogRecord) (rest : List LogRecord) → batches_at n s r ≡ bs → (r.first_batch == k) ≡ true → follow_on n s (k + length bs) rest ≡ true → follow_on n s k (kept_before bs r rest) ≡ true
  kept_follow k [] r rest is first next = let same : k + 0 ≡ k = omega arith in subst (λ (m : ℕ). follow_on n s m rest ≡ true) same next
  kept_follow k (b ∷ bs) r rest is first next =
      ap (λ (t : Bool). t && follow_on n s (k + length (batches_at n s r)) rest) first ∙ subst (λ (l : Batches). follow_on n s (k + length l) rest ≡ true) (sym is) next

  pub same_follow : (k : ℕ) (logs : List LogRecord) → follow_on n s k logs ≡ true → follow_on n s k (kept_records n s logs) ≡ true
  same_follow k [] follows = refl
  same_follow k (r ∷ rest) follows =
      let both = and_parts (r.first_batch == k) (follow_on n s (k + length (batches_at n s r)) rest) follows in
      kept_follow k (batches_at n s r) r (kept_records n s rest) refl both.0 (same_follow (k + length (batches_at n s r)) rest both.1)

  abbrev pub Holds : LogRecord → Type 0
  Holds r = 1 ≤ length (batches_at n s r)

  kept_hold : (bs : Batches) (r : LogRecord) (rest : List LogRecord) → batches_at n s r ≡ bs → All Holds rest → All Holds (kept_before bs r rest)
  kept_hold [] r rest is all = all
  kept_hold (b ∷ bs) r rest is all = All-cons Holds r rest (omega (arith, ap length is)) all

  pub all_hold : (logs : List LogRecord) → All Holds (kept_records n s logs)
  all_hold [] = All-nil Holds
  all_hold (r ∷ rest) = kept_hold (batches_at n s r) r (kept_records n s rest) refl (all_hold rest)
