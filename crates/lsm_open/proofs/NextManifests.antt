-- The manifest of the next generation is within the limits.
use Rattle.std.proofs.Common.{◌≡◌, ◌≢◌, ◌⊎◌, inl, inr, ⊎_elim, ℕ, ◌+◌, ◌≤◌, ◌<◌, ◌==◌, not, Bool, true, false, cond, List, [], ◌∷◌, ◌++◌, length, Some, None, refl, sym, ap, subst, arith, append_assoc, All}
use Rattle.std.specs.Prelude.{Option, unwrap_or}
use Rattle.std.proofs.lemmas.Bool.{and_parts, and_cases, eqb-true, eqb-false, not-true, not-false}
use Rattle.std.proofs.lemmas.List.{append-nil, length-append}
use Rattle.std.proofs.lemmas.List.Elements.{All-nil, All-cons, All-head, All-tail, All-append, All-push, All-weaker}
use Rattle.lsm_codec.specs.declared.log_record.LogRecord.{LogRecord}
use Rattle.lsm_codec.specs.Pairs.{Pairwise}
use Rattle.lsm_codec.specs.Manifests.{Contents, IsLogRecord, LogsAgree, BeginsAfter, LogsFit, IsManifest}
use Rattle.lsm_root.specs.CrashState.{last_number}
use Rattle.lsm_open.specs.Reopening.{is_free, least_free, new_records, next_contents, BeginsAt, HasCome}

abbrev Records : Type 0
Records = List LogRecord

-- ---- lists

All-without : {X : Type 0} (P : X → Type 0) (xs : List X) (y : X) (ys : List X) → All P (xs ++ y ∷ ys) → All P (xs ++ ys)
All-without P [] y ys all = All-tail P y ys all
All-without P (x ∷ xs) y ys all = All-cons P x (xs ++ ys) (All-head P x (xs ++ y ∷ ys) all) (All-without P xs y ys (All-tail P x (xs ++ y ∷ ys) all))

pairwise_without : {X : Type 0} (R : X → X → Type 0) (xs : List X) (y : X) (ys : List X) → Pairwise R (xs ++ y ∷ ys) → Pairwise R (xs ++ ys)
pairwise_without R [] y ys all = all.1
pairwise_without R (x ∷ xs) y ys all = (All-without (R x) xs y ys all.0, pairwise_without R xs y ys all.1)

pairwise_push : {X : Type 0} (R : X → X → Type 0) (xs : List X) (y : X) → Pairwise R xs → All (λ x. R x y) xs → Pairwise R (xs ++ y ∷ [])
pairwise_push R [] y all last = (All-nil (R y), tt)
pairwise_push R (x ∷ xs) y all last = (All-push (R x) xs y all.0 (All-head (λ z. R z y) x xs last), pairwise_push R xs y all.1 (All-tail (λ z. R z y) x xs last))

-- ---- the regions that are free

-- a region that may be free is one of three
pub least_low : (closed : List LogRecord) (region : ℕ) → least_free closed ≡ Some region → region ≤ 2
least_low closed region is = by (is_free 0 closed) (is_free 1 closed) (is_free 2 closed) is
  where
    by : (a b c : Bool) → cond a (Some 0) (cond b (Some 1) (cond c (Some 2) None)) ≡ Some region → region ≤ 2
    by true b c e = let same : 0 ≡ region = ap (λ (o : Option ℕ). unwrap_or o 3) e in omega (arith, same)
    by false true c e = let same : 1 ≡ region = ap (λ (o : Option ℕ). unwrap_or o 3) e in omega (arith, same)
    by false false true e = let same : 2 ≡ region = ap (λ (o : Option ℕ). unwrap_or o 3) e in omega (arith, same)
    by false false false e = absurd (cc)

abbrev IsElsewhere : ℕ → LogRecord → Type 0
IsElsewhere region r = r.region ≢ region

elsewhere : (region : ℕ) (logs : Records) → is_free region logs ≡ true → All (IsElsewhere region) logs
elsewhere region [] free = All-nil (IsElsewhere region)
elsewhere region (r ∷ rest) free =
    let both = and_parts (not (r.region == region)) (is_free region rest) free in
    All-cons (IsElsewhere region) r rest (eqb-false r.region region (not-true (r.region == region) both.0)) (elsewhere region rest both.1)

pub least_elsewhere : (logs : Records) (region : ℕ) → least_free logs ≡ Some region → All (IsElsewhere region) logs
least_elsewhere logs region is = by (is_free 0 logs) (is_free 1 logs) (is_free 2 logs) refl refl refl is
  where
    at : (k : ℕ) → is_free k logs ≡ true → k ≡ region → All (IsElsewhere region) logs
    at k free same = subst (λ (j : ℕ). All (IsElsewhere j) logs) same (elsewhere k logs free)

    by : (a b c : Bool) → is_free 0 logs ≡ a → is_free 1 logs ≡ b → is_free 2 logs ≡ c → cond a (Some 0) (cond b (Some 1) (cond c (Some 2) None)) ≡ Some region → All (IsElsewhere region) logs
    by true b c p q r e = at 0 p (ap (λ (o : Option ℕ). unwrap_or o 3) e)
    by false true c p q r e = at 1 q (ap (λ (o : Option ℕ). unwrap_or o 3) e)
    by false false true p q r e = at 2 r (ap (λ (o : Option ℕ). unwrap_or o 3) e)
    by false false false p q r e = absurd (cc)

none_of_them : (logs : Records) → least_free logs ≡ None → (is_free 0 logs ≡ false) × (is_free 1 logs ≡ false) × (is_free 2 logs ≡ false)
none_of_them logs is = by (is_free 0 logs) (is_free 1 logs) (is_free 2 logs) is
  where
    by : (a b c : Bool) → cond {A = Option ℕ} a (Some 0) (cond b (Some 1) (cond c (Some 2) None)) ≡ None → (a ≡ false) × (b ≡ false) × (c ≡ false)
    by true b c e = absurd (cc)
    by false true c e = absurd (cc)
    by false false true e = absurd (cc)
    by false false false e = (refl, refl, refl)

-- a region that is not free is that of the first log or of another
taken : (region : ℕ) (r : LogRecord) (rest : Records) → is_free region (r ∷ rest) ≡ false → (r.region ≡ region) ⊎ (is_free region rest ≡ false)
taken region r rest none = ⊎_elim
    (λ (h : not (r.region == region) ≡ false). inl (eqb-true r.region region (not-false (r.region == region) h)))
    (λ (h : is_free region rest ≡ false). inr h)
    (and_cases (not (r.region == region)) (is_free region rest) none)

taken_last : (region : ℕ) (r : LogRecord) → is_free region (r ∷ []) ≡ false → r.region ≡ region
taken_last region r none = ⊎_elim (λ (h : r.region ≡ region). h) (λ (h : true ≡ false). absurd (cc)) (taken region r [] none)

two_of_three : (a b : ℕ) → (a ≡ 0) ⊎ (b ≡ 0) → (a ≡ 1) ⊎ (b ≡ 1) → (a ≡ 2) ⊎ (b ≡ 2) → ⊥
two_of_three a b (inl p) (inl q) r = omega (arith, p, q)
two_of_three a b (inl p) (inr q) (inl r) = omega (arith, p, r)
two_of_three a b (inl p) (inr q) (inr r) = omega (arith, q, r)
two_of_three a b (inr p) (inl q) (inl r) = omega (arith, q, r)
two_of_three a b (inr p) (inl q) (inr r) = omega (arith, p, r)
two_of_three a b (inr p) (inr q) r = omega (arith, p, q)

of_two : (region : ℕ) (a b : LogRecord) → is_free region (a ∷ b ∷ []) ≡ false → (a.region ≡ region) ⊎ (b.region ≡ region)
of_two region a b none = ⊎_elim (λ (h : a.region ≡ region). inl h) (λ (h : is_free region (b ∷ []) ≡ false). inr (taken_last region b h)) (taken region a (b ∷ []) none)

-- where none is free, three regions are taken
pub none_free : (logs : Records) → length logs ≤ 3 → least_free logs ≡ None → length logs ≡ 3
none_free [] few is = absurd (let none = none_of_them [] is in no none.0)
  where
    no : true ≡ false → ⊥
    no e = cc
none_free (a ∷ []) few is = absurd (let none = none_of_them (a ∷ []) is in omega (arith, taken_last 0 a none.0, taken_last 1 a none.1))
none_free (a ∷ b ∷ []) few is = absurd (let none = none_of_them (a ∷ b ∷ []) is in two_of_three a.region b.region (of_two 0 a b none.0) (of_two 1 a b none.1) (of_two 2 a b none.2))
none_free (a ∷ b ∷ c ∷ []) few is = omega arith
none_free (a ∷ b ∷ c ∷ d ∷ rest) few is = absurd (omega (arith, few))

abbrev IsLow : LogRecord → Type 0
IsLow r = r.region ≤ 2

four_low : (a b c region : ℕ) → a ≤ 2 → b ≤ 2 → c ≤ 2 → region ≤ 2 → a ≢ b → a ≢ c → b ≢ c → a ≢ region → b ≢ region → c ≢ region → ⊥
four_low a b c region la lb lc lr ab ac bc ar br cr = omega arith

-- where one is free, at most two are taken
pub one_free : (logs : Records) (region : ℕ) → region ≤ 2 → All IsLow logs → Pairwise LogsAgree logs → All (IsElsewhere region) logs → length logs ≤ 2
one_free [] region low lows agree other = omega arith
one_free (a ∷ []) region low lows agree other = omega arith
one_free (a ∷ b ∷ []) region low lows agree other = omega arith
one_free (a ∷ b ∷ c ∷ rest) region low lows agree other =
    let low_b = All-tail IsLow a (b ∷ c ∷ rest) lows in
    let low_c = All-tail IsLow b (c ∷ rest) low_b in
    let other_b = All-tail (IsElsewhere region) a (b ∷ c ∷ rest) other in
    let other_c = All-tail (IsElsewhere region) b (c ∷ rest) other_b in
    let ab = All-head (LogsAgree a) b (c ∷ rest) agree.0 in
    let ac = All-head (LogsAgree a) c rest (All-tail (LogsAgree a) b (c ∷ rest) agree.0) in
    let bc = All-head (LogsAgree b) c rest agree.1.0 in
    absurd (four_low a.region b.region c.region region (All-head IsLow a (b ∷ c ∷ rest) lows) (All-head IsLow b (c ∷ rest) low_b) (All-head IsLow c rest low_c) low ab.regions ac.regions bc.regions
    (All-head (IsElsewhere region) a (b ∷ c ∷ rest) other) (All-head (IsElsewhere region) b (c ∷ rest) other_b) (All-head (IsElsewhere region) c rest other_c))

-- ---- how far a replay has come

pub come_started : (m : Contents) → IsManifest m → HasCome m m.base [] m.logs
come_started m is = record {
  count_high = is.numbers.base;
  each = is.logs.each;
  agree = is.logs.agree;
  few = omega (arith, is.numbers.logs);
  before = All-nil (λ (r : LogRecord). r.first_batch ≤ m.base);
  begins = refl;
}

pub come_dropped : (m : Contents) (count : ℕ) (closed : Records) (r : LogRecord) (rest : Records) → HasCome m count closed (r ∷ rest) → HasCome m count closed rest
come_dropped m count closed r rest come = record {
  count_high = come.count_high;
  each = All-without (IsLogRecord m.generation) closed r rest come.each;
  agree = pairwise_without LogsAgree closed r rest come.agree;
  few = omega (arith, come.few);
  before = come.before;
  begins = come.begins;
}

begins_kept : (base count more : ℕ) (closed : Records) (r : LogRecord) → BeginsAt base count closed → r.first_batch ≡ count + 1 → BeginsAt base more (closed ++ r ∷ [])
begins_kept base count more [] r begins first = omega (arith, begins, first)
begins_kept base count more (a ∷ closed) r begins first = begins

pub come_kept : (m : Contents) (count more : ℕ) (closed : Records) (r : LogRecord) (rest : Records) → HasCome m count closed (r ∷ rest) → r.first_batch ≡ count + 1 → count < more → more ≤ last_number → HasCome m more (closed ++ r ∷ []) rest
come_kept m count more closed r rest come first up high =
    let same : closed ++ (r ∷ rest) ≡ (closed ++ r ∷ []) ++ rest = sym (append_assoc closed (r ∷ []) rest) in
    record {
      count_high = high;
      each = subst (All (IsLogRecord m.generation)) same come.each;
      agree = subst (Pairwise LogsAgree) same come.agree;
      few = omega (arith, come.few, length-append closed (r ∷ []));
      before = All-push (λ (a : LogRecord). a.first_batch ≤ more) closed r (All-weaker (λ (a : LogRecord). a.first_batch ≤ count) (λ (a : LogRecord). a.first_batch ≤ more) (λ a le. omega (arith, le, up)) closed come.before) (omega (arith, first, up));
      begins = begins_kept m.base count more closed r come.begins first;
    }

-- ---- the next manifest

module _ (m : Contents) (count : ℕ) (closed : Records) (is : IsManifest m) (come : HasCome m count closed []) where
  pub closed_each : All (IsLogRecord m.generation) closed
  closed_each = subst (All (IsLogRecord m.generation)) (append-nil closed) come.each

  pub closed_agree : Pairwise LogsAgree closed
  closed_agree = subst (Pairwise LogsAgree) (append-nil closed) come.agree

  pub closed_few : length closed ≤ 3
  closed_few = omega (arith, come.few)

  pub closed_low : All IsLow closed
  closed_low = All-weaker (IsLogRecord m.generation) IsLow (λ r fits. fits.region) closed closed_each

  later_record : (r : LogRecord) → IsLogRecord m.generation r → IsLogRecord (m.generation + 1) r
  later_record r fits = record { region = fits.region; epoch_low = fits.epoch_low; epoch_high = omega (arith, fits.epoch_high); first_high = fits.first_high }

  closed_later : All (IsLogRecord (m.generation + 1)) closed
  closed_later = All-weaker (IsLogRecord m.generation) (IsLogRecord (m.generation + 1)) later_record closed closed_each

  -- a record of the next epoch, after the batches so far, in a region that is free
  abbrev new : ℕ → LogRecord
  new region = record { region = region; epoch = m.generation + 1; first_batch = count + 1 }

  new_fits : (region : ℕ) → region ≤ 2 → IsLogRecord (m.generation + 1) (new region)
  new_fits region low = record { region = low; epoch_low = omega arith; epoch_high = omega arith; first_high = omega (arith, come.count_high) }

  agree_here : (region : ℕ) (xs : Records) → All (IsLogRecord m.generation) xs → All (λ r. r.first_batch ≤ count) xs → All (IsElsewhere region) xs → All (λ r. LogsAgree r (new region)) xs
  agree_here region [] each before other = All-nil (λ (r : LogRecord). LogsAgree r (new region))
  agree_here region (x ∷ xs) each before other =
      let fits = All-head (IsLogRecord m.generation) x xs each in
      let first = All-head (λ (r : LogRecord). r.first_batch ≤ count) x xs before in
      All-cons (λ (r : LogRecord). LogsAgree r (new region)) x xs
      (record { regions = All-head (IsElsewhere region) x xs other; epochs = omega (arith, fits.epoch_high); firsts = omega (arith, first) })
      (agree_here region xs (All-tail (IsLogRecord m.generation) x xs each) (All-tail (λ (r : LogRecord). r.first_batch ≤ count) x xs before) (All-tail (IsElsewhere region) x xs other))

  logs_fit : (o : Option ℕ) → least_free closed ≡ o → LogsFit (record { generation = m.generation + 1; base = m.base; next_table = m.next_table; runs = m.runs; logs = closed ++ new_records o (m.generation + 1) (count + 1); tables = m.tables })
  logs_fit None none = record {
    each = All-append (IsLogRecord (m.generation + 1)) closed [] closed_later (All-nil (IsLogRecord (m.generation + 1)));
    agree = subst (Pairwise LogsAgree) (sym (append-nil closed)) closed_agree;
    begins = begins_none closed come.begins (none_free closed closed_few none);
  }
    where
      begins_none : (xs : Records) → BeginsAt m.base count xs → length xs ≡ 3 → BeginsAfter m.base (xs ++ [])
      begins_none [] begins three = tt
      begins_none (x ∷ xs) begins three = begins
  logs_fit (Some region) free = record {
    each = All-push (IsLogRecord (m.generation + 1)) closed (new region) closed_later (new_fits region (least_low closed region free));
    agree = pairwise_push LogsAgree closed (new region) closed_agree (agree_here region closed closed_each come.before (least_elsewhere closed region free));
    begins = begins_new closed come.begins;
  }
    where
      begins_new : (xs : Records) → BeginsAt m.base count xs → BeginsAfter m.base (xs ++ new region ∷ [])
      begins_new [] begins = omega (arith, begins)
      begins_new (x ∷ xs) begins = begins

  count_logs : (o : Option ℕ) → least_free closed ≡ o → length (closed ++ new_records o (m.generation + 1) (count + 1)) ≤ 3
  count_logs None none = omega (arith, closed_few, ap length (append-nil closed))
  count_logs (Some region) free = omega (arith, length-append closed (new region ∷ []), one_free closed region (least_low closed region free) closed_low closed_agree (least_elsewhere closed region free))

  pub next_fits : m.generation ≢ last_number → IsManifest (next_contents m closed count)
  next_fits has_next = record {
    numbers = record {
      generation_low = omega arith;
      generation_high = below m.generation is.numbers.generation_high has_next;
      base = is.numbers.base;
      next_low = is.numbers.next_low;
      next_high = is.numbers.next_high;
      runs = is.numbers.runs;
      logs = count_logs (least_free closed) refl;
      tables = is.numbers.tables;
    };
    logs = logs_fit (least_free closed) refl;
    tables = record { each = is.tables.each; agree = is.tables.agree; runs = is.tables.runs };
  }
    where
      below : (g : ℕ) → g ≤ last_number → g ≢ last_number → g + 1 ≤ last_number
      below g le ne = omega arith
