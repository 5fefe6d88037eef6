-- How many data blocks what a merge keeps takes, by the numbers of its tables.
use Rattle.std.proofs.Common.{◌≡◌, ℕ, ◌+◌, ◌-◌, ◌*◌, ◌/◌, ◌<◌, ◌≤◌, Bool, true, List, [], ◌∷◌, ◌++◌, length, refl, ap, subst, arith, Contains}
use Rattle.std.specs.Prelude.{sum_by}
use Rattle.std.specs.List.{AllByRecursion}
use Prim.Native.Nat.{max}
use Rattle.std.proofs.lemmas.Nat.{le-div}
use Rattle.std.proofs.lemmas.List.{length-append}
use Rattle.std.proofs.lemmas.List.Sums.{sum_by-append}
use Rattle.std.proofs.lemmas.List.Elements.{All-from_recursion, All-contains, All-weaker, recursion_from_All}
use native.Mathlib.Nat.{div-mul-le_self}
use Rattle.lsm_codec.specs.Versions.{Version, IsEntry, AreOrdered}
use Rattle.lsm_codec.specs.Entries.{entry_size}
use Rattle.lsm_codec.proofs.Lists.{all_append, all_map}
use Rattle.lsm_table.specs.Division.{blocks, laid}
use Rattle.lsm_table.specs.BlockCounts.{block_count, most_blocks}
use Rattle.lsm_table.proofs.Adding.{block_laws}
use Rattle.lsm_table.proofs.ByteCounts.{byte_laws}
use Rattle.lsm_merge.specs.Keeping.{keep}
use Rattle.lsm_merge.proofs.MapLaws.{keep_law}
use Rattle.lsm_levels.specs.Tables.{Table, versions_of}
use Rattle.lsm_jobs.proofs.MergedBlocks.{merged_blocks_law}
use Rattle.lsm_room.specs.Outputs.{StandsDivided}
use Rattle.lsm_room.specs.Measuring.{AreSizes, no_sizes}
use Rattle.lsm_room.specs.declared.bounds.Sizes.{Sizes}
use Rattle.lsm_room.proofs.Filling.{by_number}
use Rattle.lsm_room.proofs.Inputs.{most_in, puts_in}
use Rattle.lsm_room.proofs.Keeping.{kept_few, kept_weighs, few_puts, puts_and_deletes, one_if_some}
use Rattle.lsm_room.proofs.Measures.{IsReached, one_table, held, reached}

-- None of the sums of sizes is the greatest number, or above.
pub record AreExact (sizes : Sizes) : Type 0 where
  pub entries : sizes.entries < 18446744073709551615
  pub blocks : sizes.«data» < 18446744073709551615
  pub large : sizes.large < 18446744073709551615

pub none_laid : block_count [] ≡ 1
unfolding blocks laid
none_laid = refl

module _ (sectors : List (List ℕ)) (from : ℕ) where
  -- The upper and the lower tables of a merge, with their sizes.
  pub record AreInputs (upper lower : List Table) (u l : Sizes) : Type 0 where
    pub uppers : AllByRecursion (StandsDivided sectors from) upper
    pub lowers : AllByRecursion (StandsDivided sectors from) lower
    pub upper_sizes : AreSizes upper u
    pub lower_sizes : AreSizes lower l
    pub upper_exact : AreExact u
    pub lower_exact : AreExact l

  module _ (upper lower : List Table) (u l : Sizes) (are : AreInputs upper lower u l) (cuts : List ℕ) (bottom : Bool) where
    ups : IsReached sectors from no_sizes upper u
    ups = reached sectors from upper no_sizes u are.uppers are.upper_sizes

    lows : IsReached sectors from no_sizes lower l
    lows = reached sectors from lower no_sizes l are.lowers are.lower_sizes

    abbrev all : List Version
    all = versions_of upper ++ versions_of lower

    abbrev kept : List Version
    kept = keep cuts bottom all

    abbrev most : ℕ
    most = max u.largest l.largest

    all_small : AllByRecursion (λ v. entry_size v ≤ most) all
    all_small = all_append (λ v. entry_size v ≤ most) (versions_of upper) (versions_of lower) (all_map (λ v h. omega (arith, h)) (versions_of upper) ups.small) (all_map (λ v h. omega (arith, h)) (versions_of lower) lows.small)

    all_entries : AllByRecursion IsEntry all
    all_entries = all_append IsEntry (versions_of upper) (versions_of lower) ups.are lows.are

    of_kept : (P : Version → Type 0) → AllByRecursion P all → AllByRecursion P kept
    of_kept P holds =
        recursion_from_All P kept (All-weaker (Contains all) P (λ v c. All-contains P all v (All-from_recursion P all holds) c) kept ((keep_law cuts all).among bottom))

    -- no more entries are kept than there are
    pub few_entries : length kept ≤ u.entries + l.entries
    few_entries =
        omega (arith, kept_few cuts bottom all, length-append (versions_of upper) (versions_of lower), ups.entries are.upper_exact.entries, lows.entries are.lower_exact.entries)

    kept_bytes : sum_by entry_size kept ≤ 4094 * (u.«data» + l.«data»)
    kept_bytes =
        omega (arith, kept_weighs entry_size cuts bottom all, sum_by-append entry_size (versions_of upper) (versions_of lower), held sectors from upper are.uppers, held sectors from lower are.lowers, ups.blocks are.upper_exact.blocks, lows.blocks are.lower_exact.blocks)

    -- by their bytes, where none is large
    pub by_bytes : most ≤ 2047 → block_count kept ≤ (4094 * (u.«data» + l.«data»)) / (4095 - most) + 1
    by_bytes small =
        let few : (block_count kept - 1) * (4095 - most) ≤ sum_by entry_size kept = byte_laws.small kept most (of_kept (λ v. entry_size v ≤ most) all_small) in
        let within = le-div (block_count kept - 1) (4094 * (u.«data» + l.«data»)) (4095 - most) (omega (arith, small)) (omega (arith, few, kept_bytes)) in
        omega (arith, within)

    -- and whatever their sizes
    pub by_pairs : block_count kept ≤ 2 * (u.«data» + l.«data») + 1
    by_pairs = omega (arith, byte_laws.any kept, kept_bytes)

    -- by their number
    pub by_count : (count : ℕ) → length kept ≤ count → 0 < length kept → 0 < most → most ≤ 4094 → block_count kept ≤ count / (4094 / most) + 1
    by_count count few some low high = by kept refl
      where
        by : (these : List Version) → kept ≡ these → block_count kept ≤ count / (4094 / most) + 1
        by [] none = absurd (omega (arith, some, ap (λ (vs : List Version). length vs) none))
        by (v ∷ rest) is =
            let each : 1 ≤ 4094 / most = le-div 1 4094 most low (omega (arith, high)) in
            let own = by_number v rest most low high (subst (AllByRecursion IsEntry) is (of_kept IsEntry all_entries)) (subst (AllByRecursion (λ w. entry_size w ≤ most)) is (of_kept (λ v. entry_size v ≤ most) all_small)) in
            let within = le-div (length (v ∷ rest) / (4094 / most)) count (4094 / most) (omega (arith, each)) (omega (arith, div-mul-le_self (length (v ∷ rest)) (4094 / most), few, ap (λ (vs : List Version). length vs) is)) in
            omega (arith, own, within, ap block_count is)

    -- whatever is kept, the largest has some bytes
    pub some_most : 0 < length kept → 0 < most
    some_most some = by kept refl
      where
        by : (these : List Version) → kept ≡ these → 0 < most
        by [] none = absurd (omega (arith, some, ap (λ (vs : List Version). length vs) none))
        by (v ∷ rest) is = omega (arith, (subst (AllByRecursion (λ w. entry_size w ≤ most)) is (of_kept (λ v. entry_size v ≤ most) all_small)).0)

    -- and no more than one each
    pub by_each : block_count kept ≤ length kept + 1
    by_each = omega (arith, block_laws.appended [] kept, none_laid)

    -- by those of the upper tables, over the blocks of the lower ones
    over : AreOrdered (versions_of lower) → block_count kept ≤ block_count (versions_of lower) + sum_by most_blocks (versions_of upper)
    over ordered = merged_blocks_law.kept cuts bottom (versions_of upper) (versions_of lower) ordered

    pub by_entries : AreOrdered (versions_of lower) → block_count (versions_of lower) ≤ max l.«data» 1 → block_count kept ≤ max l.«data» 1 + u.entries + u.large
    by_entries ordered few =
        omega (arith, over ordered, few, most_in (versions_of upper), ups.entries are.upper_exact.entries, ups.large are.upper_exact.large)

  -- in one table the entries of the lower tables take their blocks at most
  pub lower_blocks : (upper lower : List Table) (u l : Sizes) → AreInputs upper lower u l → block_count (versions_of lower) ≤ max l.«data» 1
  lower_blocks upper [] u l are = omega (arith, none_laid)
  lower_blocks upper (t ∷ lower) u l are =
      let lows = reached sectors from (t ∷ lower) no_sizes l are.lowers are.lower_sizes in
      omega (arith, one_table sectors from t lower are.lowers, lows.blocks are.lower_exact.blocks)

  -- at the bottom, with one count, puts alone are kept
  module _ (upper lower : List Table) (u l : Sizes) (are : AreInputs upper lower u l) (cut : ℕ) where
    rise : IsReached sectors from no_sizes upper u
    rise = reached sectors from upper no_sizes u are.uppers are.upper_sizes

    lie : IsReached sectors from no_sizes lower l
    lie = reached sectors from lower no_sizes l are.lowers are.lower_sizes

    pub by_puts : AreOrdered (versions_of lower) → block_count (versions_of lower) ≤ max l.«data» 1 → block_count (keep (cut ∷ []) true (versions_of upper ++ versions_of lower)) ≤ max l.«data» 1 + (u.entries - u.deletes) + u.large
    by_puts ordered few =
        omega (arith, merged_blocks_law.settled cut (versions_of upper) (versions_of lower) ordered, few, puts_in (versions_of upper), rise.entries are.upper_exact.entries, rise.large are.upper_exact.large, rise.deletes)

    pub few_settled : length (keep (cut ∷ []) true (versions_of upper ++ versions_of lower)) ≤ (u.entries - u.deletes) + l.entries
    few_settled =
        omega (arith, few_puts cut (versions_of upper ++ versions_of lower), sum_by-append one_if_some (versions_of upper) (versions_of lower), puts_and_deletes (versions_of upper), puts_and_deletes (versions_of lower), rise.entries are.upper_exact.entries, rise.deletes, lie.entries are.lower_exact.entries)
