-- One region more, or one batch more, is replayed.
use Rattle.std.proofs.Common.{◌≡◌, ◌≢◌, ℕ, ◌+◌, ◌≤◌, ◌&&◌, Bool, false, List, [], ◌∷◌, ◌++◌, length, refl, sym, ◌∙◌, ap, subst, arith, append_assoc}
use Rattle.std.proofs.lemmas.Bool.{eq-eqb, ne_eqb}
use Rattle.std.proofs.lemmas.List.{append-nil, length-append}
use Rattle.std.proofs.lemmas.List.Elements.{All-nil}
use Rattle.lsm_codec.specs.declared.log_record.LogRecord.{LogRecord}
use Rattle.lsm_codec.specs.Manifests.{Contents, IsManifest}
use Rattle.lsm_codec.specs.Map.{Operation}
use Rattle.lsm_mem.specs.EntryOrder.{with_batches}
use Rattle.lsm_mem.proofs.Replays.{with_batches-append}
use Rattle.lsm_root.specs.CrashState.{last_number}
use Rattle.lsm_open.specs.LogRegions.{batches_at, all_batches, follow_on}
use Rattle.lsm_open.specs.Reopening.{kept_before, kept_records, HasCome, HasReplayed, GoesOn}
use Rattle.lsm_open.specs.declared.replayed.Replayed.{Replayed}
use Rattle.lsm_open.proofs.NextManifests.{come_dropped, come_kept}

abbrev Batches : Type 0
Batches = List (List Operation)

kept-append : (bs : Batches) (r : LogRecord) (xs : List LogRecord) → kept_before bs r xs ≡ kept_before bs r [] ++ xs
kept-append [] r xs = refl
kept-append (b ∷ bs) r xs = refl

come_by : (m : Contents) (count more : ℕ) (closed now : List LogRecord) (r : LogRecord) (rest : List LogRecord) (bs : Batches) → HasCome m count closed (r ∷ rest) → r.first_batch ≡ count + 1 → now ≡ closed ++ kept_before bs r []
    → more ≡ count + length bs → more ≤ last_number → HasCome m more now rest
come_by m count more closed now r rest [] come first kept counts high =
    let same : count ≡ more = omega (arith, counts) in
    subst (λ (l : List LogRecord). HasCome m more l rest) (sym (kept ∙ append-nil closed)) (subst (λ (n : ℕ). HasCome m n closed rest) same (come_dropped m count closed r rest come))
come_by m count more closed now r rest (b ∷ bs) come first kept counts high =
    subst (λ (l : List LogRecord). HasCome m more l rest) (sym kept) (come_kept m count more closed r rest come first (omega (arith, counts)) high)

module _ {A : Type 0} (m : Contents) (old new : Replayed A) (r : LogRecord) (rest : List LogRecord) (bs : Batches) (step : HasReplayed r bs old new) where
  pub come_step : HasCome m old.count old.closed.items (r ∷ rest) → HasCome m new.count new.closed.items rest
  come_step come = come_by m old.count new.count old.closed.items new.closed.items r rest bs come step.first step.closed step.count step.count_high

  module _ (n : ℕ) (s : List (List ℕ)) (is : bs ≡ batches_at n s r) (on : GoesOn n s m old (r ∷ rest)) where
    kept_step : kept_records n s m.logs ≡ new.closed.items ++ kept_records n s rest
    kept_step =
        on.kept
        ∙ ap (λ (l : List LogRecord). old.closed.items ++ l) (kept-append (batches_at n s r) r (kept_records n s rest))
        ∙ sym (append_assoc old.closed.items (kept_before (batches_at n s r) r []) (kept_records n s rest))
        ∙ ap (λ (b : Batches). (old.closed.items ++ kept_before b r []) ++ kept_records n s rest) (sym is)
        ∙ ap (λ (l : List LogRecord). l ++ kept_records n s rest) (sym step.closed)

    counts_step : m.base + length (all_batches n s m.logs) ≡ new.count + length (all_batches n s rest)
    counts_step = omega (arith, on.counts, step.count, ap length is, length-append (batches_at n s r) (all_batches n s rest))

    versions_step : with_batches m.base (all_batches n s m.logs) [] ≡ with_batches new.count (all_batches n s rest) new.mem
    versions_step =
        on.versions
        ∙ with_batches-append old.count (batches_at n s r) (all_batches n s rest) old.mem
        ∙ ap (λ (b : Batches). with_batches (old.count + length b) (all_batches n s rest) (with_batches old.count b old.mem)) (sym is)
        ∙ ap (λ (k : ℕ). with_batches k (all_batches n s rest) (with_batches old.count bs old.mem)) (sym step.count)
        ∙ ap (with_batches new.count (all_batches n s rest)) (sym step.versions)

    follows_step : follow_on n s (m.base + 1) m.logs ≡ follow_on n s (new.count + 1) rest
    follows_step =
        let long : (old.count + 1) + length (batches_at n s r) ≡ new.count + 1 = omega (arith, step.count, ap length is) in
        on.follows
        ∙ ap (λ (b : Bool). b && follow_on n s ((old.count + 1) + length (batches_at n s r)) rest) (eq-eqb r.first_batch (old.count + 1) step.first)
        ∙ ap (λ (k : ℕ). follow_on n s k rest) long

    pub goes_on_step : GoesOn n s m new rest
    goes_on_step = record { kept = kept_step; counts = counts_step; versions = versions_step; follows = follows_step }

-- a region whose first batch doesn't come next
pub mismatch : {A : Type 0} (m : Contents) (old : Replayed A) (r : LogRecord) (rest : List LogRecord) (n : ℕ) (s : List (List ℕ)) → GoesOn n s m old (r ∷ rest) → r.first_batch ≢ old.count + 1 → follow_on n s (m.base + 1) m.logs ≡ false
mismatch m old r rest n s on other =
    on.follows ∙ ap (λ (b : Bool). b && follow_on n s ((old.count + 1) + length (batches_at n s r)) rest) (ne_eqb r.first_batch (old.count + 1) other)

pub goes_started : {A : Type 0} (m : Contents) (new : Replayed A) (n : ℕ) (s : List (List ℕ)) → new.closed.items ≡ [] → new.mem ≡ [] → new.count ≡ m.base → GoesOn n s m new m.logs
goes_started m new n s closed mem count = record {
  kept = ap (λ (l : List LogRecord). l ++ kept_records n s m.logs) (sym closed);
  counts = ap (λ (k : ℕ). k + length (all_batches n s m.logs)) (sym count);
  versions = ap (λ (k : ℕ). with_batches k (all_batches n s m.logs) []) (sym count) ∙ ap (with_batches new.count (all_batches n s m.logs)) (sym mem);
  follows = ap (λ (k : ℕ). follow_on n s (k + 1) m.logs) (sym count);
}

-- before the first region
pub come_started : (m : Contents) (count : ℕ) (closed : List LogRecord) → IsManifest m → closed ≡ [] → count ≡ m.base → HasCome m count closed m.logs
come_started m count closed fits none base = subst (λ (l : List LogRecord). HasCome m count l m.logs) (sym none) record {
  count_high = omega (arith, base, fits.numbers.base);
  each = fits.logs.each;
  agree = fits.logs.agree;
  few = omega (arith, fits.numbers.logs);
  before = All-nil (λ (r : LogRecord). r.first_batch ≤ count);
  begins = base;
}
