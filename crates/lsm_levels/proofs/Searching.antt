-- Where a run is searched.
use Rattle.std.proofs.Common.{◌≡◌, ℕ, ◌≤◌, Bool, true, false, cond, not, ◌&&◌, List, [], ◌∷◌, length, take, filter, refl, ap, ◌∙◌, arith}
use Rattle.std.proofs.lemmas.List.{length-take-le}
use Rattle.std.specs.List.{AllByRecursion}
use Rattle.lsm_codec.specs.Keys.{Bytes}
use Rattle.lsm_levels.specs.Tables.{Table, at_most, is_below, IsRun}
use Rattle.lsm_levels.proofs.KeyOrder.{at_most_trans, below_at_most, below_not, then_below, not_below, below_is, at_most_turned}
use Rattle.lsm_levels.proofs.Parts.{Falls, filter_fewer}
use Rattle.lsm_codec.proofs.Lists.{all_map}

-- the ranges of a run's tables are not empty
pub run_ranges : (run : List Table) → IsRun run → AllByRecursion (λ t. at_most t.first t.last ≡ true) run
run_ranges [] h = tt
run_ranges (t ∷ rest) h = (h.0, run_ranges rest h.2)

both : {X : Type 0} (P Q : X → Type 0) (xs : List X) → AllByRecursion P xs → AllByRecursion Q xs → AllByRecursion (λ x. P x × Q x) xs
both P Q [] h k = tt
both P Q (x ∷ xs) h k = ((h.0, k.0), both P Q xs h.1 k.1)

-- tables that end before a key come first
pub falls_before : (key : Bytes) (run : List Table) → IsRun run → Falls (λ t. is_below t.last key) run
falls_before key [] h = tt
falls_before key (t ∷ rest) h = (
  λ e. all_map
      (λ u k. below_is u.last key ∙ ap not (at_most_trans key t.last u.last (at_most_turned t.last key ∙ ap not e) (at_most_trans t.last u.first u.last (below_at_most t.last u.first k.0) k.1)))
      rest
      (both (λ u. is_below t.last u.first ≡ true) (λ u. at_most u.first u.last ≡ true) rest h.1 (run_ranges rest h.2)),
  falls_before key rest h.2,
)

-- tables that begin at a key or before it come first
pub falls_up_to : (key : Bytes) (run : List Table) → IsRun run → Falls (λ t. at_most t.first key) run
falls_up_to key [] h = tt
falls_up_to key (t ∷ rest) h = (
  λ e. all_map
      (λ u k. below_not key u.first (then_below key t.last u.first (at_most_trans key t.first t.last (below_at_most key t.first (not_below key t.first e)) h.0) k))
      rest
      h.1,
  falls_up_to key rest h.2,
)

-- a filter by two tests
pub filter_twice : {X : Type 0} (p q : X → Bool) (xs : List X) → filter q (filter p xs) ≡ filter (λ x. p x && q x) xs
filter_twice p q [] = refl
filter_twice p q (x ∷ xs) = by (filter_twice p q xs) (p x)
  where
    by : filter q (filter p xs) ≡ filter (λ x. p x && q x) xs → (b : Bool) → filter q (cond b (x ∷ filter p xs) (filter p xs)) ≡ cond (b && q x) (x ∷ filter (λ x. p x && q x) xs) (filter (λ x. p x && q x) xs)
    by more true = ap (λ t. cond (q x) (x ∷ t) t) more
    by more false = more

-- what ends before a range begins before its end, so the places where a range begins and ends are in order
pub counts_in_order : (first last : Bytes) (run : List Table) (start end : ℕ) → IsRun run → at_most first last ≡ true
    → start ≤ length run → take start run ≡ filter (λ t. is_below t.last first) run → end ≤ length run → take end run ≡ filter (λ t. at_most t.first last) run → start ≤ end
counts_in_order first last run start end r h sl se el ee =
    omega (
      arith,
      ap length se,
      ap length ee,
      length-take-le start run sl,
      length-take-le end run el,
      filter_fewer (λ t. is_below t.last first) (λ t. at_most t.first last) run
          (all_map (λ t k. λ e. at_most_trans t.first t.last last k (at_most_trans t.last first last (below_at_most t.last first e) h)) run (run_ranges run r)),
    )
