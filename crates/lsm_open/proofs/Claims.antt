-- Extents of tables that are handed out one after the other.
use Rattle.std.proofs.Common.{◌≡◌, ⊎_elim, ℕ, ◌+◌, ◌<◌, ◌≤◌, ◌&&◌, ◌||◌, not, Bool, true, false, leb, ltb, List, ◌++◌, length, take, drop, get_or, All, Option, Some, None, refl, sym, ap, subst, ◌∙◌, arith}
use Rattle.std.specs.Prelude.{MatchOption}
use Rattle.std.specs.List.{list_any}
use Rattle.std.specs.Option.{SomeIff}
use Rattle.std.proofs.lemmas.Bool.{lt-leb, le-ltb, lt-ltb}
use Rattle.std.proofs.lemmas.List.{drop_more, take-append-drop}
use Rattle.std.proofs.lemmas.List.Elements.{All-head, All-weaker}
use Rattle.std.proofs.lemmas.List.Folds.{list_any_none}
use Rattle.lsm_codec.specs.Pairs.{Pairwise}
use Rattle.lsm_codec.specs.TableRecords.{AreApart, extent_blocks, extent_end}
use Rattle.lsm_codec.specs.declared.table_record.TableRecord.{TableRecord}
use Rattle.lsm_extent.specs.Area.{Area, covers, is_held, IsFreeRun, handed_out}
use Rattle.lsm_extent.specs.declared.extent.Extent.{Extent}
use Rattle.lsm_open.proofs.ListPairs.{pairwise_cross}
use Rattle.lsm_open.specs.ToldTables.{record_extent}

-- the tables before one are apart from it
pub apart_before : (ts : List TableRecord) (i : ℕ) (d : TableRecord) → i < length ts → Pairwise AreApart ts → All (λ u. AreApart u (get_or ts i d)) (take i ts)
apart_before ts i d lt apart =
    let split : take i ts ++ drop i ts ≡ ts = take-append-drop i ts in
    let each = pairwise_cross AreApart (take i ts) (drop i ts) (subst (Pairwise AreApart) (sym split) apart) in
    All-weaker (λ u. All (AreApart u) (drop i ts)) (λ u. AreApart u (get_or ts i d))
    (λ u h. All-head (AreApart u) (get_or ts i d) (drop (i + 1) ts) (subst (λ (l : List TableRecord). All (AreApart u) l) (drop_more ts i d lt) h)) (take i ts) each

not_covered : (k : ℕ) (t u : TableRecord) → t.first_block ≤ k → k < extent_end t → AreApart u t → covers k (record_extent u) ≡ false
not_covered k t u low high = ⊎_elim
    (λ before. second (leb u.first_block k) (ltb k (extent_end u)) (le-ltb k (extent_end u) (omega (arith, before, low))))
    (λ after. ap (λ (b : Bool). b && ltb k (extent_end u)) (lt-leb u.first_block k (omega (arith, after, high))))
  where
    second : (a b : Bool) → b ≡ false → (a && b) ≡ false
    second true b is = is
    second false b is = refl

-- a table's blocks are free where those before it are handed out alone
pub free_then : (old : Area) (blocks : ℕ) (done : List TableRecord) (t : TableRecord) → old.blocks ≡ blocks → ((k : ℕ) → is_held old.held k ≡ list_any (λ u. covers k (record_extent u)) done) → extent_end t ≤ blocks → All (λ u. AreApart u t) done
    → IsFreeRun old t.first_block (extent_blocks t)
free_then old blocks done t size only inside apart = record {
  each = λ k low high.
      let none : list_any (λ u. covers k (record_extent u)) done ≡ false = list_any_none (λ u. covers k (record_extent u)) done (All-weaker (λ u. AreApart u t) (λ u. covers k (record_extent u) ≡ false) (λ u h. not_covered k t u low high h) done apart) in
      ap (λ (b : Bool). ltb k old.blocks && not b) (only k ∙ none) ∙ ap (λ (b : Bool). b && true) (lt-ltb k old.blocks (omega (arith, high, size, inside)));
}

-- blocks that are free are given
pub given_then : (old new : Area) (given : Option Extent) (e : Extent) → SomeIff given (IsFreeRun old e.first e.blocks) e → MatchOption given (new ≡ old) (λ x. new ≡ handed_out x old) → IsFreeRun old e.first e.blocks → new ≡ handed_out e old
given_then old new None e claimed held free = absurd (claimed free)
given_then old new (Some x) e claimed held free = held ∙ ap (λ (y : Extent). handed_out y old) claimed.1

pub or_swap : (a b : Bool) → (a || b) ≡ (b || a)
or_swap true true = refl
or_swap true false = refl
or_swap false true = refl
or_swap false false = refl
