-- That outputs are enough for what a merge makes.
use Rattle.std.proofs.Common.{◌≡◌, ◌⊎◌, ℕ, zero, suc, ◌+◌, ◌-◌, ◌*◌, ◌/◌, ◌<◌, ◌≤◌, Bool, true, false, List, [], ◌∷◌, ◌++◌, length, append-nil, refl, sym, ap, subst, arith, inl, inr}
use Rattle.std.proofs.lemmas.Bool.{cases_lt}
use Rattle.std.specs.Prelude.{count_by, if◌then◌else◌}
use Rattle.std.specs.Int.{div_ceil}
use Prim.Native.Nat.{min, max}
use Rattle.lsm_codec.specs.Keys.{Bytes}
use Rattle.lsm_codec.specs.Versions.{Version, AreOrdered}
use Rattle.lsm_codec.proofs.Lists.{all_map}
use Rattle.lsm_table.specs.Division.{TableBlocks, blocks}
use Rattle.lsm_table.specs.BlockCounts.{block_count, data_blocks}
use Rattle.lsm_table.proofs.Ends.{with_key}
use Rattle.lsm_merge.specs.Keeping.{keep}
use Rattle.lsm_merge.proofs.FewLaws.{kept-IsInput}
use Rattle.lsm_levels.specs.Tables.{Table, versions_of}
use Rattle.lsm_levels.proofs.LevelVersions.{versions_append}
use Rattle.lsm_jobs.proofs.MergedBlocks.{merged_blocks_law}
use Rattle.lsm_room.specs.Outputs.{AreCuts, TakeAtMost}
use Rattle.lsm_room.specs.Measuring.{AreEnough, AreEnoughFor, AreEnoughOver, AreOfKept, Hold, HoldImages, HaveSizes, most_images, no_sizes}
use Rattle.lsm_room.specs.declared.bounds.Outputs.{Outputs}
use Rattle.lsm_room.specs.declared.bounds.Sizes.{Sizes}
use Rattle.lsm_room.proofs.Images.{AreFew, data_most, few_of_one, few_of_many, all_most, each_most, one_image}
use Rattle.lsm_room.proofs.Keeping.{one_kept, kept_few}
use Rattle.lsm_room.proofs.KeptBlocks.{AreInputs, AreExact, few_entries, few_settled, by_bytes, by_pairs, by_count, by_each, by_entries, by_puts, some_most, lower_blocks}
use Rattle.lsm_room.proofs.Measures.{reached}

-- ---- of a key

module _ (cuts : List ℕ) (bottom : Bool) (versions : List Version) (images : List TableBlocks) (are : AreOfKept cuts bottom versions images) where
  abbrev kept : List Version
  kept = keep cuts bottom versions

  pub few_alone : length cuts ≡ 1 → AreFew 1 kept images
  few_alone one = record { tables = are.tables; each = are.each; few = by cuts refl one }
    where
      by : (these : List ℕ) → cuts ≡ these → length cuts ≡ 1 → (key : Bytes) → count_by (with_key key) kept ≤ 1
      by [] is one key = absurd (omega (arith, one, ap (λ (cs : List ℕ). length cs) is))
      by (cut ∷ []) is one key = subst (λ (cs : List ℕ). count_by (with_key key) (keep cs bottom versions) ≤ 1) (sym is) (one_kept cut versions key bottom)
      by (cut ∷ other ∷ rest) is one key = absurd (omega (arith, one, ap (λ (cs : List ℕ). length cs) is))

  pub few_live : (live : Bool) → AreCuts live cuts → AreFew 33 kept images
  few_live live c = record {
    tables = are.tables;
    each = are.each;
    few = λ key. subst (λ (vs : List Version). count_by (with_key key) (keep cuts bottom vs) ≤ 33) (append-nil versions) ((kept-IsInput (record { runs = versions ∷ []; cuts = cuts; bottom = bottom }) c.are).few key);
  }

  -- ---- by blocks and entries

  taken : (blocks count images_most : ℕ) (outputs : Outputs) → length images ≤ images_most → block_count kept ≤ blocks → Hold (blocks + (images_most - 1)) images_most outputs → 0 < images_most → TakeAtMost outputs.blocks outputs.largest images
  taken blocks count images_most outputs few block_few hold some =
      let data_few : data_blocks images ≤ blocks + (images_most - 1) = omega (arith, data_most kept images are.tables, few, block_few, some) in
      record {
        each = all_map (λ image h. omega (arith, h, hold.each)) images (each_most images (blocks + (images_most - 1)) are.each data_few);
        all = omega (arith, all_most images (blocks + (images_most - 1)) images_most are.each data_few few, hold.all);
      }

  pub enough : (live : Bool) (blocks count : ℕ) (outputs : Outputs) → HoldImages live blocks count outputs → outputs.blocks < 4294967296 → AreCuts live cuts → block_count kept ≤ blocks → length kept ≤ count → TakeAtMost outputs.blocks outputs.largest images
  enough false blocks count outputs holds low c block_few entry_few =
      taken blocks count (most_images false blocks count) outputs (few_of_one kept images (few_alone (c.one refl)) blocks count block_few entry_few) block_few (holds low) (omega arith)
  enough true blocks count outputs holds low c block_few entry_few =
      taken blocks count (most_images true blocks count) outputs (few_of_many kept images (few_live true c) blocks count block_few entry_few) block_few (holds low) (omega arith)

  -- ---- in one image

  enough_one : (live : Bool) (blocks count total : ℕ) → most_images live blocks count ≤ 1 → min blocks 64 + (div_ceil (264 * min blocks 64) 4096 + 2) ≤ total → AreCuts live cuts → block_count kept ≤ blocks → length kept ≤ count → TakeAtMost total total images
  enough_one live blocks count total one least c block_few entry_few = one_image images blocks total are.each (few_images live c one) (omega (arith, data_most kept images are.tables, few_images live c one, block_few)) least
    where
      few_images : (live : Bool) → AreCuts live cuts → most_images live blocks count ≤ 1 → length images ≤ 1
      few_images false c one = omega (arith, few_of_one kept images (few_alone (c.one refl)) blocks count block_few entry_few, one)
      few_images true c one = omega (arith, few_of_many kept images (few_live true c) blocks count block_few entry_few, one)

pub enough_for : (live : Bool) (blocks count : ℕ) (outputs : Outputs) → HoldImages live blocks count outputs → AreEnoughFor live blocks count outputs
enough_for live blocks count outputs holds low cuts bottom versions images c are block_few entry_few = enough cuts bottom versions images are live blocks count outputs holds low c block_few entry_few

-- one image, where there can be no more
pub enough_for_one : (live : Bool) (blocks count : ℕ) (outputs : Outputs) → most_images live blocks count ≤ 1 → (outputs.blocks < 4294967296 → min blocks 64 + (div_ceil (264 * min blocks 64) 4096 + 2) ≤ outputs.blocks) → outputs.largest ≡ outputs.blocks
    → AreEnoughFor live blocks count outputs
enough_for_one live blocks count outputs one least same low cuts bottom versions images c are block_few entry_few =
    subst (λ (n : ℕ). TakeAtMost outputs.blocks n images) (sym same) (enough_one cuts bottom versions images are live blocks count outputs.blocks one (least low) c block_few entry_few)

-- blocks and entries are then below 2^32 and 2^64 - 2
pub few_for_one : (live : Bool) (blocks count : ℕ) → most_images live blocks count ≤ 1 → (blocks < 4294967296) × (count < 18446744073709551614)
few_for_one false blocks count one = (omega (arith, one), omega (arith, one))
few_for_one true blocks count one = (omega (arith, one), omega (arith, one))

-- and so they are where the outputs are below 2^32
pub few_count : (live : Bool) (blocks count : ℕ) (outputs : Outputs) → HoldImages live blocks count outputs → outputs.blocks < 4294967296 → (blocks < 4294967296) × (count < 18446744073709551614)
few_count false blocks count outputs holds low = let hold = holds low in (omega (arith, hold.all, low), omega (arith, hold.all, low))
few_count true blocks count outputs holds low = let hold = holds low in (omega (arith, hold.all, low), omega (arith, hold.all, low))

exact : (sectors : List (List ℕ)) (from : ℕ) (tables : List Table) (sizes : Sizes) → HaveSizes sectors from tables sizes → sizes.entries < 18446744073709551615 → AreExact sizes
exact sectors from tables sizes have low =
    let r = reached sectors from tables no_sizes sizes have.stand have.are in
    record {
      entries = low;
      blocks = omega (arith, r.blocks_high, r.blocks_few, r.entries low, low);
      large = omega (arith, r.large_high, r.blocks_few, r.entries low, low);
    }

-- ---- a run alone

pub alone_enough : (live : Bool) (sizes : Sizes) (outputs : Outputs) → AreEnoughFor live (max sizes.«data» 1) sizes.entries outputs → (outputs.blocks < 4294967296 → sizes.entries < 18446744073709551614) → AreEnough live sizes outputs
alone_enough live sizes outputs holds few low sectors from tables have ordered cuts bottom images c are =
    let e : AreExact sizes = exact sectors from tables sizes have (omega (arith, few low)) in
    let r = reached sectors from tables no_sizes sizes have.stand have.are in
    let inputs : AreInputs sectors from [] tables no_sizes sizes = record { uppers = tt; lowers = have.stand; upper_sizes = refl; lower_sizes = have.are; upper_exact = record { entries = omega arith; blocks = omega arith; large = omega arith }; lower_exact = e } in
    let blocks_few : block_count (keep cuts bottom (versions_of tables)) ≤ max sizes.«data» 1 =
    omega (arith, merged_blocks_law.kept cuts bottom [] (versions_of tables) ordered, lower_blocks sectors from [] tables no_sizes sizes inputs) in
    holds low cuts bottom (versions_of tables) images c are blocks_few (omega (arith, kept_few cuts bottom (versions_of tables), r.entries e.entries))

-- ---- upper tables over a run

-- The candidates for the data blocks, of which the least is taken, as they are computed.
pub record AreCandidates (drops : Bool) (u l : Sizes) (puts entries bytes count : ℕ) : Type 0 where
  pub put : puts ≡ (if drops then u.entries - u.deletes else u.entries)
  pub by_entries : entries < 4294967296 → max l.«data» 1 + puts + u.large ≤ entries
  pub by_bytes : bytes < 4294967296 → max u.largest l.largest ≤ 2047 → u.«data» + l.«data» < 18446744073709551615 → (4094 * (u.«data» + l.«data»)) / (4095 - max u.largest l.largest) + 1 ≤ bytes
  pub by_pairs : bytes < 4294967296 → 2047 < max u.largest l.largest → u.«data» + l.«data» < 18446744073709551615 → 2 * (u.«data» + l.«data») + 1 ≤ bytes
  pub by_count : count < 4294967296 → 0 < max u.largest l.largest → max u.largest l.largest ≤ 4094 → puts + l.entries < 18446744073709551615 → (puts + l.entries) / (4094 / max u.largest l.largest) + 1 ≤ count
  pub by_each : count < 4294967296 → 4094 < max u.largest l.largest → puts + l.entries < 18446744073709551615 → puts + l.entries + 1 ≤ count
  pub some : (0 < entries) × (0 < bytes) × (0 < count)

at_most_or : (n limit most : ℕ) → (most < limit → n ≤ most) → (n ≤ most) ⊎ (limit ≤ most)
at_most_or n limit most within = elim (cases_lt most limit) [
  | inl lt ↦ inl (within lt)
  | inr ge ↦ inr ge
]

least_of : (n limit a b c : ℕ) → (n ≤ a) ⊎ (limit ≤ a) → (n ≤ b) ⊎ (limit ≤ b) → (n ≤ c) ⊎ (limit ≤ c) → min (min a b) c < limit → n ≤ min (min a b) c
least_of n limit a b c (inl p) (inl q) (inl r) low = omega (arith, p, q, r, low)
least_of n limit a b c (inl p) (inl q) (inr r) low = omega (arith, p, q, r, low)
least_of n limit a b c (inl p) (inr q) (inl r) low = omega (arith, p, q, r, low)
least_of n limit a b c (inl p) (inr q) (inr r) low = omega (arith, p, q, r, low)
least_of n limit a b c (inr p) (inl q) (inl r) low = omega (arith, p, q, r, low)
least_of n limit a b c (inr p) (inl q) (inr r) low = omega (arith, p, q, r, low)
least_of n limit a b c (inr p) (inr q) (inl r) low = omega (arith, p, q, r, low)
least_of n limit a b c (inr p) (inr q) (inr r) low = omega (arith, p, q, r, low)

some_or_none : (n : ℕ) → (0 < n) ⊎ (n ≡ 0)
some_or_none zero = inr refl
some_or_none (suc n) = inl (omega arith)

module _ (sectors : List (List ℕ)) (from : ℕ) (uppers lowers : List Table) (u l : Sizes) (inputs : AreInputs sectors from uppers lowers u l) (ordered : AreOrdered (versions_of lowers)) where
  abbrev versions : List Version
  versions = versions_of uppers ++ versions_of lowers

  abbrev largest : ℕ
  largest = max u.largest l.largest

  lower_few : block_count (versions_of lowers) ≤ max l.«data» 1
  lower_few = lower_blocks sectors from uppers lowers u l inputs

  settled_few : (cuts : List ℕ) (bottom : Bool) → length cuts ≡ 1 → bottom ≡ true
      → (block_count (keep cuts bottom versions) ≤ max l.«data» 1 + (u.entries - u.deletes) + u.large) × (length (keep cuts bottom versions) ≤ (u.entries - u.deletes) + l.entries)
  settled_few [] bottom one is = absurd (omega (arith, one))
  settled_few (cut ∷ []) false one is = absurd (let clash : false ≡ true = is in cc)
  settled_few (cut ∷ []) true one is = (by_puts sectors from uppers lowers u l inputs cut ordered lower_few, few_settled sectors from uppers lowers u l inputs cut)
  settled_few (cut ∷ other ∷ rest) bottom one is = absurd (omega (arith, one))

  module _ (cuts : List ℕ) (bottom : Bool) where
    abbrev own : List Version
    own = keep cuts bottom versions

    puts_few : (live drops : Bool) (puts : ℕ) → AreCuts live cuts → (drops ≡ true → (live ≡ false) × (bottom ≡ true)) → puts ≡ (if drops then u.entries - u.deletes else u.entries)
        → (block_count own ≤ max l.«data» 1 + puts + u.large) × ((length own ≤ puts + l.entries) × (puts ≤ u.entries))
    puts_few live false puts c dropping is =
        (omega (arith, is, by_entries sectors from uppers lowers u l inputs cuts bottom ordered lower_few), (omega (arith, is, few_entries sectors from uppers lowers u l inputs cuts bottom), omega (arith, is)))
    puts_few live true puts c dropping is =
        let drop = dropping refl in
        let few = settled_few cuts bottom (c.one drop.0) drop.1 in
        (omega (arith, is, few.0), (omega (arith, is, few.1), omega (arith, is)))

    module _ (drops : Bool) (puts entries bytes count : ℕ) (candidates : AreCandidates drops u l puts entries bytes count) where
      within_bytes : u.«data» + l.«data» < 18446744073709551615 → bytes < 4294967296 → (2047 < largest) ⊎ (largest ≤ 2047) → block_count own ≤ bytes
      within_bytes sums low (inl large) = omega (arith, candidates.by_pairs low large sums, by_pairs sectors from uppers lowers u l inputs cuts bottom)
      within_bytes sums low (inr small) = omega (arith, candidates.by_bytes low small sums, by_bytes sectors from uppers lowers u l inputs cuts bottom small)

      within_count : puts + l.entries < 18446744073709551615 → length own ≤ puts + l.entries → count < 4294967296 → (0 < length own) ⊎ (length own ≡ 0) → (4094 < largest) ⊎ (largest ≤ 4094) → block_count own ≤ count
      within_count sums few low (inr none) size = omega (arith, by_each sectors from uppers lowers u l inputs cuts bottom, none, candidates.some.2)
      within_count sums few low (inl some) (inl large) = omega (arith, by_each sectors from uppers lowers u l inputs cuts bottom, few, candidates.by_each low large sums)
      within_count sums few low (inl some) (inr small) =
          let has : 0 < largest = some_most sectors from uppers lowers u l inputs cuts bottom some in
          omega (arith, by_count sectors from uppers lowers u l inputs cuts bottom (puts + l.entries) few some has small, candidates.by_count low has small sums)

module _ (live drops : Bool) (u l : Sizes) (puts entries bytes count : ℕ) (candidates : AreCandidates drops u l puts entries bytes count) (outputs : Outputs) (total : ℕ)
    (total_is : total ≡ min (u.entries + l.entries) 18446744073709551615) (holds : HoldImages live (min (min entries bytes) count) total outputs) where
  pub mixed_enough : AreEnoughOver live drops u l outputs
  mixed_enough low sectors from uppers lowers have_u have_l ordered cuts bottom images c dropping are =
      let few = few_count live (min (min entries bytes) count) total outputs holds low in
      let inputs : AreInputs sectors from uppers lowers u l = record {
        uppers = have_u.stand;
        lowers = have_l.stand;
        upper_sizes = have_u.are;
        lower_sizes = have_l.are;
        upper_exact = exact sectors from uppers u have_u (omega (arith, few.1, total_is));
        lower_exact = exact sectors from lowers l have_l (omega (arith, few.1, total_is));
      } in
      let ups = reached sectors from uppers no_sizes u have_u.stand have_u.are in
      let lows = reached sectors from lowers no_sizes l have_l.stand have_l.are in
      let both : versions_of (uppers ++ lowers) ≡ versions_of uppers ++ versions_of lowers = versions_append uppers lowers in
      let kept_both : keep cuts bottom (versions_of (uppers ++ lowers)) ≡ keep cuts bottom (versions_of uppers ++ versions_of lowers) = ap (keep cuts bottom) both in
      let sums : u.«data» + l.«data» < 18446744073709551615 =
      omega (arith, ups.blocks_high, ups.blocks_few, ups.entries inputs.upper_exact.entries, lows.blocks_high, lows.blocks_few, lows.entries inputs.lower_exact.entries, few.1, total_is) in
      let bounds = puts_few sectors from uppers lowers u l inputs ordered cuts bottom live drops puts c dropping candidates.put in
      let kept : List Version = keep cuts bottom (versions_of uppers ++ versions_of lowers) in
      let block_few : block_count kept ≤ min (min entries bytes) count =
      least_of (block_count kept) 4294967296 entries bytes count
      (at_most_or (block_count kept) 4294967296 entries (λ h. omega (arith, candidates.by_entries h, bounds.0)))
      (at_most_or (block_count kept) 4294967296 bytes (λ h. within_bytes sectors from uppers lowers u l inputs ordered cuts bottom drops puts entries bytes count candidates sums h (cases_lt 2047 (max u.largest l.largest))))
      (at_most_or (block_count kept) 4294967296 count
      (λ h. within_count sectors from uppers lowers u l inputs ordered cuts bottom drops puts entries bytes count candidates (omega (arith, few.1, total_is, bounds.1.1)) bounds.1.0 h (some_or_none (length kept)) (cases_lt 4094 (max u.largest l.largest))))
      few.0
      in
      enough cuts bottom (versions_of (uppers ++ lowers)) images are live (min (min entries bytes) count) total outputs holds low c
      (omega (arith, block_few, ap block_count kept_both))
      (omega (arith, few_entries sectors from uppers lowers u l inputs cuts bottom, total_is, few.1, ap (λ (vs : List Version). length vs) kept_both))
