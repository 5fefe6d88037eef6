-- Sizes of batches.
use Rattle.std.proofs.Common.{◌≡◌, ℕ, ◌≤◌, List, [], ◌∷◌, refl, sym, ap, subst, ◌∙◌, arith}
use Rattle.std.proofs.lemmas.List.Sums.{sum_by-cons}
use Rattle.lsm_codec.proofs.Lists.{all_map}
use Rattle.lsm_codec.specs.Entries.{entry_size}
use Rattle.lsm_codec.specs.Map.{Operation}
use Rattle.lsm_codec.specs.Versions.{Version}
use Rattle.lsm_mem.specs.EntryOrder.{placed, version_by, with_batch}
use Rattle.lsm_mem.specs.Sizes.{AreTogether, Covers, GrowsBy, IsAnEntry, bytes_of, up_to_64_bits}
use Rattle.lsm_mem.specs.declared.size.MemSize.{MemSize}
use Rattle.lsm_mem.proofs.Batches.{all_placed}
use Rattle.lsm_mem.proofs.Weights.{placed_one, placed_few}

-- no operation makes anything
pub by_none : (size : MemSize) → GrowsBy [] size size
by_none size = record {
  entries = omega arith;
  bytes = omega arith;
  large = omega arith;
  deletes = omega arith;
  delete_bytes = omega arith;
}

-- one operation first, and then the others
pub by_one_more : (operation : Operation) (rest : List Operation) (old one mid new : MemSize) → IsAnEntry (up_to_64_bits (bytes_of operation)) one → AreTogether old one mid → GrowsBy rest mid new → GrowsBy (operation ∷ rest) old new
by_one_more operation rest old one mid new first both others =
    let all = sum_by-cons bytes_of operation rest in
    record {
      entries = omega (arith, first.entries, both.entries, others.entries);
      bytes = omega (arith, first.bytes, both.bytes, others.bytes, all);
      large = omega (arith, first.large, both.large, others.large);
      deletes = omega (arith, first.deletes, both.deletes, others.deletes);
      delete_bytes = omega (arith, first.delete_bytes, both.delete_bytes, others.delete_bytes, all);
    }

-- a size with that of an entry covers what it covered with a version that is so large
pub covers_one_more : (number : ℕ) (operation : Operation) (versions : List Version) (old one mid : MemSize) → IsAnEntry (up_to_64_bits (bytes_of operation)) one → AreTogether old one mid → Covers versions old
    → Covers (placed (version_by number operation) versions) mid
covers_one_more number operation versions old one mid first both covers =
    let v : Version = version_by number operation in
    record {
      entries = omega (arith, first.entries, both.entries, covers.entries, placed_few v versions);
      bytes = omega (arith, first.bytes, both.bytes, covers.bytes, placed_one entry_size v versions);
      each = all_placed (λ w. up_to_64_bits (entry_size w) ≤ mid.largest) v versions (omega (arith, first.largest, both.largest))
          (all_map (λ w le. omega (arith, le, both.largest)) versions covers.each);
    }

-- A size covers the versions `seen` so far; the operations `left` make of them what all operations make of `versions`.
pub record CoversSoFar (number : ℕ) (all : List Operation) (versions : List Version) (left : List Operation) (size : MemSize) : Type 0 where
  pub seen : List Version
  pub covers : Covers seen size
  pub same : with_batch number left seen ≡ with_batch number all versions

pub nothing_seen : (number : ℕ) (all : List Operation) (versions : List Version) (size : MemSize) → Covers versions size → CoversSoFar number all versions all size
nothing_seen number all versions size covers = record { seen = versions; covers = covers; same = refl }

pub one_more_seen : (number : ℕ) (all : List Operation) (versions : List Version) (before : List Operation) (operation : Operation) (left : List Operation) (old one mid : MemSize) → before ≡ operation ∷ left
    → IsAnEntry (up_to_64_bits (bytes_of operation)) one → AreTogether old one mid → CoversSoFar number all versions before old → CoversSoFar number all versions left mid
one_more_seen number all versions before operation left old one mid steps first both so_far = record {
  seen = placed (version_by number operation) so_far.seen;
  covers = covers_one_more number operation so_far.seen old one mid first both so_far.covers;
  same = sym (ap (λ (os : List Operation). with_batch number os so_far.seen) steps) ∙ so_far.same;
}

pub all_seen : (number : ℕ) (all : List Operation) (versions : List Version) (left : List Operation) (size : MemSize) → left ≡ [] → CoversSoFar number all versions left size → Covers (with_batch number all versions) size
all_seen number all versions left size none so_far =
    subst (λ (vs : List Version). Covers vs size) (sym (ap (λ (os : List Operation). with_batch number os so_far.seen) none) ∙ so_far.same) so_far.covers
