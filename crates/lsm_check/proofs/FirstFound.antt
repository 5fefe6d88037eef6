-- What an opening is refused with is found first.
use Rattle.std.proofs.Common.{◌≡◌, ◌⊎◌, inl, inr, ℕ, ◌+◌, ◌*◌, ◌==◌, Bool, true, false, List, Option, Some, None, refl, sym, ◌∙◌, ap, subst}
use Rattle.std.specs.Prelude.{Err, option_map}
use Rattle.std.proofs.lemmas.Bool.{eqb-true, eqb-false}
use Rattle.std.proofs.lemmas.Option.{same_Some, none-some}
use Rattle.lsm_codec.specs.Manifests.{Contents}
use Rattle.lsm_codec.specs.declared.table_record.TableRecord.{TableRecord}
use Rattle.lsm_device.specs.Areas.{area}
use Rattle.lsm_device.specs.declared.refusal.Refusal.{Refusal}
use Rattle.lsm_device.specs.declared.refusal.Refusal.TheVariants.{NoMemory, Io, BadManifest, Exhausted}
use Rattle.lsm_levels.specs.Levels.{Levels}
use Rattle.lsm_log.specs.Opened.{HasNoneAbove}
use Rattle.lsm_open.specs.Counting.{with_tables, counted_records, IsCountedRoot}
use Rattle.lsm_root.specs.CrashState.{last_number}
use Rattle.lsm_open.specs.LogRegions.{first_region, follow_on}
use Rattle.lsm_open.specs.RefusedOpenings.{opening_refusal}
use Rattle.lsm_open.specs.ToldTables.{told_levels, IsRefusedFor}
use Rattle.lsm_open.proofs.OneMeaning.{same_stands}
use Rattle.lsm_open.proofs.OpeningAnswers.{tables_say, replay_says, keep_says, none_says}
use Rattle.lsm_check.specs.declared.finding.Finding.TheVariants.{Refused}
use Rattle.lsm_check.specs.Found.{Finds, IsNotRefused, HasLaterSector, IsReadRefusal}
use Rattle.lsm_check.specs.Images.{IsCheckRefusal}
use Rattle.lsm_check.specs.Named.{IsRegionsRefusal, AreToldBy}
use Rattle.lsm_check.proofs.Readings.{short_memory}

-- an opening's refusal, or want of memory, or a fault
pub as_read : (s : List (List ℕ)) (e : Refusal) → (opening_refusal s ≡ Some e) ⊎ ((e ≡ NoMemory) ⊎ (e ≡ Io)) → IsReadRefusal s e
as_read s e (inl says) = inl says
as_read s e (inr other) = inr (inl (short_memory e other))

-- ---- a manifest that is counted

-- counts change no generation
counted_generation : (stood m : Contents) (o : Option (List TableRecord)) → option_map (with_tables stood) o ≡ Some m → m.generation ≡ stood.generation
counted_generation stood m None e = absurd cc
counted_generation stood m (Some us) e = ap (λ (c : Contents). c.generation) (sym (same_Some (with_tables stood us) m e))

module _ (n : ℕ) (s : List (List ℕ)) (m : Contents) (root : IsCountedRoot n m s) where
  same_generation : m.generation ≡ root.stood.generation
  same_generation = counted_generation root.stood m (counted_records n s root.stood.tables) root.counted_is

  none_later : HasNoneAbove m.generation (area first_region (3 * n) s) → HasLaterSector s → ⊥
  none_later fresh has =
      let same = same_stands n has.log_sectors root.stood has.manifest (sym root.root ∙ has.root) in
      let stood : HasNoneAbove root.stood.generation (area first_region (3 * n) s) = subst (λ (j : ℕ). HasNoneAbove j (area first_region (3 * n) s)) same_generation fresh in
      let there : HasNoneAbove has.manifest.generation (area first_region (3 * n) s) = subst (λ (c : Contents). HasNoneAbove c.generation (area first_region (3 * n) s)) same.1 stood in
      has.later (subst (λ (k : ℕ). HasNoneAbove has.manifest.generation (area first_region (3 * k) s)) same.0 there)

  one_later : ¬ HasNoneAbove m.generation (area first_region (3 * n) s) → HasLaterSector s
  one_later none = record {
    log_sectors = n;
    manifest = root.stood;
    root = root.root;
    later = λ fresh. none (subst (λ (j : ℕ). HasNoneAbove j (area first_region (3 * n) s)) (sym same_generation) fresh);
  }

  -- tables that aren't told
  pub tables_read : (e : Refusal) → IsRefusedFor (told_levels n s m) e → IsReadRefusal s e
  tables_read e refused = as_read s e (tables_say s n m root e refused)

  module _ (levels : Levels) (told : told_levels n s m ≡ Some levels) where
    not_refused : follow_on n s (m.base + 1) m.logs ≡ true → IsNotRefused s
    not_refused follows = by (m.generation == last_number) refl
      where
        by_last : (opening_refusal s ≡ Some Exhausted) ⊎ ((Exhausted ≡ NoMemory) ⊎ (Exhausted ≡ Io)) → IsNotRefused s
        by_last (inl says) = inr says
        by_last (inr (inl e)) = absurd cc
        by_last (inr (inr e)) = absurd cc

        by : (b : Bool) → (m.generation == last_number) ≡ b → IsNotRefused s
        by true is = by_last (keep_says s n m root levels told follows Exhausted (inl (refl, eqb-true m.generation last_number is)))
        by false is = inl (none_says s n m root levels told follows (eqb-false m.generation last_number is))

    -- regions that are refused
    pub regions_read : (e : Refusal) → IsRegionsRefusal n s m e → IsReadRefusal s e
    regions_read e (inl usual) = as_read s e (replay_says s n m root levels told e usual)
    regions_read e (inr found) = inr (inr (found.0, not_refused found.1, one_later found.2))

-- ---- what was read, or refused

-- all was read: an opening isn't refused, and no sector is later
pub read_not_refused : (n : ℕ) (s : List (List ℕ)) (m : Contents) (levels : Levels) (batches : ℕ) → AreToldBy n s m levels batches → IsNotRefused s
read_not_refused n s m levels batches is = not_refused n s m is.root levels is.told is.has.follows

pub read_none_later : (n : ℕ) (s : List (List ℕ)) (m : Contents) (levels : Levels) (batches : ℕ) → AreToldBy n s m levels batches → HasLaterSector s → ⊥
read_none_later n s m levels batches is = none_later n s m is.root is.has.fresh

pub one_or_other : (s : List (List ℕ)) (refusal : Refusal) → IsNotRefused s → opening_refusal s ≡ Some refusal → (refusal ≡ Exhausted → ⊥) → ⊥
one_or_other s refusal (inl none) says not_last = none-some refusal (sym none ∙ says)
one_or_other s refusal (inr last) says not_last = not_last (same_Some refusal Exhausted (sym says ∙ last))

pub first_refused : (s : List (List ℕ)) (e refusal : Refusal) → IsReadRefusal s e → opening_refusal s ≡ Some refusal → (refusal ≡ Exhausted → ⊥) → Finds (Refused refusal) (Err (Refused e))
first_refused s e refusal (inl says) is not_last = inl (ap (λ (r : Refusal). Refused r) (same_Some e refusal (sym says ∙ is)))
first_refused s e refusal (inr (inl short)) is not_last = inr short
first_refused s e refusal (inr (inr later)) is not_last = absurd (one_or_other s refusal later.1 is not_last)

only_later : (s : List (List ℕ)) (e : Refusal) → IsNotRefused s → IsCheckRefusal e → opening_refusal s ≡ Some e → ⊥
only_later s e (inl none) known says = none-some e (sym none ∙ says)
only_later s e (inr last) known says = subst IsCheckRefusal (same_Some e Exhausted (sym says ∙ last)) known

pub later_refused : (s : List (List ℕ)) (e : Refusal) → IsNotRefused s → IsCheckRefusal e → IsReadRefusal s e → Finds (Refused BadManifest) (Err (Refused e))
later_refused s e none known (inl says) = absurd (only_later s e none known says)
later_refused s e none known (inr (inl short)) = inr short
later_refused s e none known (inr (inr later)) = inl (ap (λ (r : Refusal). Refused r) later.0)
