-- What jobs have placed, and their outputs, as a job is taken, goes on or is gone.
use Rattle.std.proofs.Common.{◌≡◌, inl, inr, ⊎_elim, ℕ, suc, ◌+◌, ◌-◌, ◌≤◌, ◌==◌, Bool, true, false, cond, List, [], ◌∷◌, ◌++◌, map, All, Option, Some, None, refl, sym, ◌∙◌, ap, subst, arith}
use Rattle.std.specs.List.{AllByRecursion}
use Rattle.std.proofs.lemmas.List.Elements.{All-nil, All-cons, All-append}
use Rattle.lsm_codec.proofs.Lists.{all_left, all_right, all_append}
use Rattle.lsm_codec.specs.Pairs.{Pairwise}
use Rattle.lsm_codec.specs.TableRecords.{AreApart}
use Rattle.lsm_codec.specs.declared.table_record.TableRecord.{TableRecord}
use Rattle.lsm_cache.specs.Recency.{Cached}
use Rattle.lsm_jobs.specs.Pieces.{sector_count, written_of}
use Rattle.lsm_jobs.specs.Slots.{Slot, Slots, slot_of, with_slot, with_held, left_at, outputs_at, outputs_of}
use Rattle.lsm_levels.specs.Levels.{Levels, all_tables, places}
use Rattle.lsm_levels.specs.NamedBlocks.{HasNoBlock}
use Rattle.lsm_levels.specs.Tables.{Table, record_of}
use Rattle.lsm_open.specs.Placements.{Placement}
use Rattle.lsm_open.specs.ToldTables.{records_of_runs, records_of_levels, records_of, IsOutlined}
use Rattle.lsm_open.specs.Writing.{PlacedTable, IsClear, ArePlacedApart}
use Rattle.lsm_machine.specs.Accounts.{outputs_in, LieApart, AllLieApart}
use Rattle.lsm_store.specs.Backing.{HasNoneOf}
use Rattle.lsm_store.specs.InstalledJobs.{output_level, placed_outputs, placed_for, placed_by}
use Rattle.lsm_levels.proofs.OldestRuns.{tables_append}
use Rattle.lsm_store.proofs.WrittenOutputs.{has_placed}

-- ---- a job without outputs

pub nothing_placed : (slot : Slot) → outputs_at slot.stage ≡ [] → placed_for slot ≡ []
nothing_placed slot none = ap (λ (ts : List Table). placed_outputs (output_level slot.job) (written_of ts (left_at slot.stage)) ts) none

pub taken_placed : (new : Slot) (slots : Slots) → outputs_at new.stage ≡ [] → placed_by (with_slot new slots) ≡ placed_by slots
taken_placed new [] none = refl
taken_placed new (None ∷ rest) none = ap (λ (l : List PlacedTable). l ++ placed_by rest) (nothing_placed new none)
taken_placed new (Some one ∷ rest) none = ap (λ (l : List PlacedTable). placed_for one ++ l) (taken_placed new rest none)

-- where neither it nor what comes in its place has outputs, what is placed stays
pub held_placed : (job : ℕ) (old now : Slot) (slots : Slots) → slot_of job slots ≡ Some old → outputs_at old.stage ≡ [] → outputs_at now.stage ≡ [] → placed_by (with_held job (Some now) slots) ≡ placed_by slots
held_placed job old now slots is before after =
    let has = has_placed slots job old is in
    has.changed now
    ∙ ap (λ (l : List PlacedTable). has.before ++ (l ++ has.behind)) (nothing_placed now after ∙ sym (nothing_placed old before))
    ∙ sym has.own

-- ---- the outputs in slots

module _ (P : Table → Type 0) where
  pub all_held : (job : ℕ) (now : Option Slot) (slots : Slots) → AllByRecursion P (outputs_of now) → AllByRecursion P (outputs_in slots) → AllByRecursion P (outputs_in (with_held job now slots))
  all_held job now [] one all = tt
  all_held job now (None ∷ rest) one all = all_held job now rest one all
  all_held job now (Some held ∷ rest) one all =
      by (held.number == job) (all_held job now rest one (all_right P (outputs_at held.stage) (outputs_in rest) all))
    where
      by : (b : Bool) → AllByRecursion P (outputs_in (with_held job now rest)) → AllByRecursion P (outputs_in (cond b (now ∷ rest) (Some held ∷ with_held job now rest)))
      by true later = all_append P (outputs_of now) (outputs_in rest) one (all_right P (outputs_at held.stage) (outputs_in rest) all)
      by false later = all_append P (outputs_at held.stage) (outputs_in (with_held job now rest)) (all_left P (outputs_at held.stage) (outputs_in rest) all) later

  -- those of one job are among them
  pub one_held : (job : ℕ) (slot : Slot) (slots : Slots) → slot_of job slots ≡ Some slot → AllByRecursion P (outputs_in slots) → AllByRecursion P (outputs_at slot.stage)
  one_held job slot [] is all = absurd cc
  one_held job slot (None ∷ rest) is all = one_held job slot rest is all
  one_held job slot (Some held ∷ rest) is all = by (held.number == job) is (λ later. one_held job slot rest later (all_right P (outputs_at held.stage) (outputs_in rest) all))
    where
      by : (b : Bool) → cond b (Some held) (slot_of job rest) ≡ Some slot → (slot_of job rest ≡ Some slot → AllByRecursion P (outputs_at slot.stage)) → AllByRecursion P (outputs_at slot.stage)
      by true here later = let same : held ≡ slot = cc in subst (λ (s : Slot). AllByRecursion P (outputs_at s.stage)) same (all_left P (outputs_at held.stage) (outputs_in rest) all)
      by false there later = later there

-- a cache has no block of those that it had none of, and of others that it has none of
pub none_of_held : (next later job : ℕ) (now : Option Slot) (slots : Slots) (c : Cached) → next ≤ later → AllByRecursion (λ t. HasNoBlock t.number c) (outputs_of now) → HasNoneOf next (outputs_in slots) c
    → HasNoneOf later (outputs_in (with_held job now slots)) c
none_of_held next later job now slots c le one is = record { later = λ n h. is.later n (omega (arith, le, h)); written = all_held (λ t. HasNoBlock t.number c) job now slots one is.written }

-- ---- the extents of what is placed, by the tables

-- each is the output of some level
abbrev ArePlacedAs : List PlacedTable → List Table → Type 0
ArePlacedAs [] [] = Unit {0}
ArePlacedAs (x ∷ xs) (t ∷ ts) = ((level : ℕ) × (x.table ≡ record_of level 0 t)) × ArePlacedAs xs ts
ArePlacedAs [] (t ∷ ts) = ⊥
ArePlacedAs (x ∷ xs) [] = ⊥

placed_as_one : (level written : ℕ) (ts : List Table) → ArePlacedAs (placed_outputs level written ts) ts
placed_as_one level written [] = tt
placed_as_one level written (t ∷ ts) = ((level, refl), placed_as_one level (written - sector_count t) ts)

as_append : (xs ys : List PlacedTable) (ts us : List Table) → ArePlacedAs xs ts → ArePlacedAs ys us → ArePlacedAs (xs ++ ys) (ts ++ us)
as_append [] ys [] us one two = two
as_append [] ys (t ∷ ts) us one two = absurd one
as_append (x ∷ xs) ys [] us one two = absurd one
as_append (x ∷ xs) ys (t ∷ ts) us one two = (one.0, as_append xs ys ts us one.1 two)

placed_as : (slots : Slots) → ArePlacedAs (placed_by slots) (outputs_in slots)
placed_as [] = tt
placed_as (None ∷ rest) = placed_as rest
placed_as (Some slot ∷ rest) =
    as_append (placed_for slot) (placed_by rest) (outputs_at slot.stage) (outputs_in rest) (placed_as_one (output_level slot.job) (written_of (outputs_at slot.stage) (left_at slot.stage)) (outputs_at slot.stage)) (placed_as rest)

module _ (P : TableRecord → Type 0) (Q : Table → Type 0) (goes : (level run : ℕ) (t : Table) → Q t → P (record_of level run t)) where
  all_as : (xs : List PlacedTable) (ts : List Table) → ArePlacedAs xs ts → AllByRecursion Q ts → All (λ x. P x.table) xs
  all_as [] [] are all = All-nil (λ (x : PlacedTable). P x.table)
  all_as [] (t ∷ ts) are all = absurd are
  all_as (x ∷ xs) [] are all = absurd are
  all_as (x ∷ xs) (t ∷ ts) are all = All-cons (λ (x : PlacedTable). P x.table) x xs (subst P (sym are.0.1) (goes are.0.0 0 t all.0)) (all_as xs ts are.1 all.1)

  in_run : (level run : ℕ) (ts : List Table) → AllByRecursion Q ts → All P (map (record_of level run) ts)
  in_run level run [] all = All-nil P
  in_run level run (t ∷ ts) all = All-cons P (record_of level run t) (map (record_of level run) ts) (goes level run t all.0) (in_run level run ts all.1)

  in_runs : (run : ℕ) (runs : List (List Table)) → AllByRecursion Q (all_tables runs) → All P (records_of_runs run runs)
  in_runs run [] all = All-nil P
  in_runs run (ts ∷ rest) all =
      All-append P (map (record_of 0 run) ts) (records_of_runs (suc run) rest) (in_run 0 run ts (all_left Q ts (all_tables rest) all)) (in_runs (suc run) rest (all_right Q ts (all_tables rest) all))

  in_levels : (level : ℕ) (runs : List (List Table)) → AllByRecursion Q (all_tables runs) → All P (records_of_levels level runs)
  in_levels level [] all = All-nil P
  in_levels level (ts ∷ rest) all =
      All-append P (map (record_of level 0) ts) (records_of_levels (suc level) rest) (in_run level 0 ts (all_left Q ts (all_tables rest) all)) (in_levels (suc level) rest (all_right Q ts (all_tables rest) all))

  -- what holds of the tables of levels holds of their records
  pub in_records : (levels : Levels) → AllByRecursion Q (all_tables (places levels)) → All P (records_of levels)
  in_records levels all =
      let each = subst (AllByRecursion Q) (tables_append levels.runs levels.deeper) all in
      All-append P (records_of_runs 0 levels.runs) (records_of_levels 1 levels.deeper) (in_runs 0 levels.runs (all_left Q (all_tables levels.runs) (all_tables levels.deeper) each)) (in_levels 1 levels.deeper (all_right Q (all_tables levels.runs) (all_tables levels.deeper) each))

  -- and what holds of outputs of what is placed
  pub in_placed : (slots : Slots) → AllByRecursion Q (outputs_in slots) → All (λ x. P x.table) (placed_by slots)
  in_placed slots all = all_as (placed_by slots) (outputs_in slots) (placed_as slots) all

-- tables that lie apart have records that do
records_apart : (a b r s : ℕ) (t u : Table) → IsOutlined t → IsOutlined u → LieApart t u → AreApart (record_of a r t) (record_of b s u)
records_apart a b r s t u one two apart =
    let mine : t.blocks ≡ _ = ap (λ (x : Table). x.blocks) one in
    let its : u.blocks ≡ _ = ap (λ (x : Table). x.blocks) two in
    ⊎_elim (λ (h : t.start + t.blocks ≤ u.start). inl (omega (arith, h, mine))) (λ (h : u.start + u.blocks ≤ t.start). inr (omega (arith, h, its))) apart

both_each : (t : Table) (us : List Table) → AllByRecursion IsOutlined us → AllByRecursion (LieApart t) us → AllByRecursion (λ u. IsOutlined u × LieApart t u) us
both_each t [] all apart = tt
both_each t (u ∷ us) all apart = ((all.0, apart.0), both_each t us all.1 apart.1)

placed_pairs : (xs : List PlacedTable) (ts : List Table) → ArePlacedAs xs ts → AllByRecursion IsOutlined ts → AllLieApart ts → Pairwise ArePlacedApart xs
placed_pairs [] [] are all apart = tt
placed_pairs [] (t ∷ ts) are all apart = absurd are
placed_pairs (x ∷ xs) [] are all apart = absurd are
placed_pairs (x ∷ xs) (t ∷ ts) are all apart =
    let level = are.0.0 in (
      subst (λ (r : TableRecord). All (λ y. AreApart r y.table) xs) (sym are.0.1)
          (all_as (AreApart (record_of level 0 t)) (λ u. IsOutlined u × LieApart t u) (λ b s u h. records_apart level b 0 s t u all.0 h.0 h.1) xs ts are.1 (both_each t ts all.1 apart.0)),
      placed_pairs xs ts are.1 all.1 apart.1,
    )

apart_left : (xs ys : List Table) → AllLieApart (xs ++ ys) → AllLieApart ys
apart_left [] ys apart = apart
apart_left (x ∷ xs) ys apart = apart_left xs ys apart.1

-- each of those after lies apart from each of those before
apart_cross : (xs ys : List Table) → AllLieApart (xs ++ ys) → AllByRecursion (λ y. AllByRecursion (λ x. LieApart y x) xs) ys
apart_cross [] ys apart = each ys
  where
    each : (us : List Table) → AllByRecursion (λ y. Unit {0}) us
    each [] = tt
    each (u ∷ us) = (tt, each us)
apart_cross (x ∷ xs) ys apart = join ys (all_right (LieApart x) xs ys apart.0) (apart_cross xs ys apart.1)
  where
    turned : (y : Table) → LieApart x y → LieApart y x
    turned y = ⊎_elim (λ a. inr a) (λ b. inl b)

    join : (us : List Table) → AllByRecursion (LieApart x) us → AllByRecursion (λ y. AllByRecursion (λ z. LieApart y z) xs) us → AllByRecursion (λ y. LieApart y x × AllByRecursion (λ z. LieApart y z) xs) us
    join [] one two = tt
    join (u ∷ us) one two = ((turned u one.0, two.0), join us one.1 two.1)

-- Where the tables of levels and the outputs in slots lie apart, what is placed does.
module _ (levels : Levels) (slots : Slots) (outlined : AllByRecursion IsOutlined (all_tables (places levels) ++ outputs_in slots)) (apart : AllLieApart (all_tables (places levels) ++ outputs_in slots)) where
  abbrev ts : List Table
  ts = all_tables (places levels)

  abbrev us : List Table
  us = outputs_in slots

  pub placed_apart : Pairwise ArePlacedApart (placed_by slots)
  placed_apart = placed_pairs (placed_by slots) us (placed_as slots) (all_right IsOutlined ts us outlined) (apart_left ts us apart)

  pub placed_clear : (p : Placement) → records_of levels ≡ p.tables → All (IsClear p) (placed_by slots)
  placed_clear p named =
      subst (λ (l : List TableRecord). All (λ (x : PlacedTable). All (AreApart x.table) l) (placed_by slots)) named
      (in_placed (λ r. All (AreApart r) (records_of levels)) (λ u. IsOutlined u × AllByRecursion (LieApart u) ts)
      (λ a r u h. in_records (AreApart (record_of a r u)) (λ t. IsOutlined t × LieApart u t) (λ b s t g. records_apart a b r s u t h.0 g.0 g.1) levels (both_each u ts (all_left IsOutlined ts us outlined) h.1))
      slots (joined us (all_right IsOutlined ts us outlined) (apart_cross ts us apart)))
    where
      joined : (vs : List Table) → AllByRecursion IsOutlined vs → AllByRecursion (λ u. AllByRecursion (LieApart u) ts) vs → AllByRecursion (λ u. IsOutlined u × AllByRecursion (LieApart u) ts) vs
      joined [] one two = tt
      joined (v ∷ vs) one two = ((one.0, two.0), joined vs one.1 two.1)
