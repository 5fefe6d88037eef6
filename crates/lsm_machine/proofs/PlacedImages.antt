-- Where images are placed: the lowest fit as it is computed.
use Rattle.std.proofs.Common.{◌≡◌, inl, inr, ⊎_elim, ℕ, zero, suc, ◌+◌, ◌<◌, ◌≤◌, Bool, true, false, cond, ◌&&◌, ltb, not, List, [], ◌∷◌, ◌++◌, Option, Some, None, option_map, option_and_then, refl, sym, ap, ◌∙◌, arith}
use Rattle.std.proofs.lemmas.Bool.{and_parts, ltb-true, false≢true, cases_lt}
use Rattle.lsm_extent.specs.Area.{Area, is_free, is_held, IsFreeRun, IsLowestFit, HasNoFit, handed_out}
use Rattle.std.specs.List.{flat_map}
use Rattle.lsm_codec.specs.Versions.{Version}
use Rattle.lsm_table.specs.Division.{TableBlocks, entries_of}
use Rattle.lsm_table.specs.Extents.{extent_size}
use Rattle.lsm_levels.specs.Tables.{Table, table_of, versions_of}
use Rattle.lsm_jobs.specs.Placing.{extent_of, ArePlaced, FindNoRoom}
use Rattle.lsm_machine.specs.JobAnswers.{PlacingLaw, PlacedVersionsLaw}
use Rattle.lsm_machine.specs.Placings.{is_free_run, first_fit, lowest_fit, place_all}

module _ (area : Area) where
  free_run : (first blocks : ℕ) → is_free_run area first blocks ≡ true → (k : ℕ) → first ≤ k → k < first + blocks → is_free area k ≡ true
  free_run first zero h k low high = absurd (omega (arith, low, high))
  free_run first (suc blocks) h k low high =
      let parts = and_parts (is_free area first) (is_free_run area (suc first) blocks) h in
      ⊎_elim
      (λ (here : k < suc first). let same : first ≡ k = omega (arith, low, here) in ap (is_free area) (sym same) ∙ parts.0)
      (λ (later : suc first ≤ k). free_run (suc first) blocks parts.1 k later (omega (arith, high)))
      (cases_lt k (suc first))

  run_free : (first blocks : ℕ) → ((k : ℕ) → first ≤ k → k < first + blocks → is_free area k ≡ true) → is_free_run area first blocks ≡ true
  run_free first zero h = refl
  run_free first (suc blocks) h =
      ap (λ b. b && is_free_run area (suc first) blocks) (h first (omega arith) (omega arith))
      ∙ run_free (suc first) blocks (λ k low high. h k (omega (arith, low)) (omega (arith, high)))

  fit_at : (blocks more at s : ℕ) → IsFreeRun area s blocks → at ≤ s → s < at + more → ((other : ℕ) → IsFreeRun area other blocks → s ≤ other) → first_fit area blocks more at ≡ Some s
  fit_at blocks zero at s free low high least = absurd (omega (arith, low, high))
  fit_at blocks (suc more) at s free low high least = by (λ behind. fit_at blocks more (suc at) s free behind (omega (arith, high)) least) (is_free_run area at blocks) refl
    where
      by : (suc at ≤ s → first_fit area blocks more (suc at) ≡ Some s) → (b : Bool) → is_free_run area at blocks ≡ b → cond b (Some at) (first_fit area blocks more (suc at)) ≡ Some s
      by behind true e =
          let below = least at (record { each = free_run at blocks e }) in
          let same : at ≡ s = omega (arith, low, below) in
          ap (λ (k : ℕ). Some k) same
      by behind false e = ⊎_elim
          (λ (here : s < suc at). let same : s ≡ at = omega (arith, low, here) in absurd (false≢true (sym e ∙ ap (λ (k : ℕ). is_free_run area k blocks) (sym same) ∙ run_free s blocks free.each)))
          (λ (later : suc at ≤ s). behind later)
          (cases_lt s (suc at))

  no_fit_at : (blocks more at : ℕ) → HasNoFit area blocks → first_fit area blocks more at ≡ None
  no_fit_at blocks zero at h = refl
  no_fit_at blocks (suc more) at h = by (no_fit_at blocks more (suc at) h) (is_free_run area at blocks) refl
    where
      by : first_fit area blocks more (suc at) ≡ None → (b : Bool) → is_free_run area at blocks ≡ b → cond b (Some at) (first_fit area blocks more (suc at)) ≡ None
      by none true e = absurd (h.none at (record { each = free_run at blocks e }))
      by none false e = none

  -- the lowest fit begins with one of the area's blocks, or with the first of all where it has none
  begins_within : (blocks s : ℕ) → IsLowestFit area blocks s → s < 0 + suc area.blocks
  begins_within zero s h = let le = h.lowest 0 (record { each = λ k low high. absurd (omega (arith, low, high)) }) in omega (arith, le)
  begins_within (suc blocks) s h =
      let free = h.fits.each s (omega arith) (omega arith) in
      let below = ltb-true s area.blocks (and_parts (ltb s area.blocks) (not (is_held area.held s)) free).0 in
      omega (arith, below)

  pub fit_found : (blocks s : ℕ) → IsLowestFit area blocks s → lowest_fit area blocks ≡ Some s
  fit_found blocks s h = fit_at blocks (suc area.blocks) 0 s h.fits (omega arith) (begins_within blocks s h) h.lowest

  pub no_fit_found : (blocks : ℕ) → HasNoFit area blocks → lowest_fit area blocks ≡ None
  no_fit_found blocks h = no_fit_at blocks (suc area.blocks) 0 h

abbrev Placed : ℕ → Area → TableBlocks → List TableBlocks → Option ℕ → Option (List Table)
Placed number area image rest fit =
    option_and_then (λ start. option_map (λ later. table_of number start image ∷ later) (place_all (number + 1) (handed_out (record { first = start; blocks = extent_size image }) area) rest)) fit

pub all_placed : (number : ℕ) (area : Area) (images : List TableBlocks) (tables : List Table) → ArePlaced number area images tables → place_all number area images ≡ Some tables
all_placed number area [] [] h = refl
all_placed number area [] (t ∷ tables) h = absurd h
all_placed number area (image ∷ images) [] h = absurd h
all_placed number area (image ∷ images) (t ∷ tables) (one, later) =
    let more = all_placed (number + 1) (handed_out (extent_of t) area) images tables later in
    let table : t ≡ table_of number t.start image = one.of.same ∙ ap (λ (n : ℕ). table_of n t.start image) one.number_is in
    ap (Placed number area image images) (fit_found area (extent_size image) t.start one.lowest)
    ∙ ap (λ (blocks : ℕ). option_map (λ (ts : List Table). table_of number t.start image ∷ ts) (place_all (number + 1) (handed_out (record { first = t.start; blocks = blocks }) area) images)) (sym one.blocks)
    ∙ ap (option_map (λ (ts : List Table). table_of number t.start image ∷ ts)) more
    ∙ ap (λ (u : Table). Some (u ∷ tables)) (sym table)

pub none_placed : (number : ℕ) (area : Area) (images : List TableBlocks) → FindNoRoom area images → place_all number area images ≡ None
none_placed number area [] h = absurd h
none_placed number area (image ∷ rest) (inl none) = ap (Placed number area image rest) (no_fit_found area (extent_size image) none)
none_placed number area (image ∷ rest) (inr (start, lowest, later)) =
    ap (Placed number area image rest) (fit_found area (extent_size image) start lowest)
    ∙ ap (option_map (λ (ts : List Table). table_of number start image ∷ ts)) (none_placed (number + 1) (handed_out (record { first = start; blocks = extent_size image }) area) rest later)

pub placing_law : PlacingLaw
placing_law = record { placed = all_placed; none = none_placed }

-- ---- the versions of what is placed

none_some : (tables : List Table) → None ≡ Some tables → ⊥
none_some tables e = cc

some_tables : (these tables : List Table) → Some these ≡ Some tables → these ≡ tables
some_tables these tables e = cc

placed_versions : (number : ℕ) (area : Area) (images : List TableBlocks) (tables : List Table) → place_all number area images ≡ Some tables → versions_of tables ≡ flat_map entries_of images
placed_versions number area [] tables e = ap versions_of (sym (some_tables [] tables e))
placed_versions number area (image ∷ rest) tables e = by (λ a later is. placed_versions (number + 1) a rest later is) (lowest_fit area (extent_size image)) e
  where
    next : ℕ → Area
    next start = handed_out (record { first = start; blocks = extent_size image }) area

    behind : (start : ℕ) (o : Option (List Table)) → ((later : List Table) → o ≡ Some later → versions_of later ≡ flat_map entries_of rest) → option_map (λ later. table_of number start image ∷ later) o ≡ Some tables
        → versions_of tables ≡ entries_of image ++ flat_map entries_of rest
    behind start None same is = absurd (none_some tables is)
    behind start (Some later) same is = ap versions_of (sym (some_tables (table_of number start image ∷ later) tables is)) ∙ ap (λ (vs : List Version). entries_of image ++ vs) (same later refl)

    by : ((a : Area) (later : List Table) → place_all (number + 1) a rest ≡ Some later → versions_of later ≡ flat_map entries_of rest) → (o : Option ℕ) → Placed number area image rest o ≡ Some tables
        → versions_of tables ≡ entries_of image ++ flat_map entries_of rest
    by same None is = absurd (none_some tables is)
    by same (Some start) is = behind start (place_all (number + 1) (next start) rest) (same (next start)) is

pub placed_versions_law : PlacedVersionsLaw
placed_versions_law number area result tables made placed = placed_versions number area result.images tables placed ∙ made.whole
