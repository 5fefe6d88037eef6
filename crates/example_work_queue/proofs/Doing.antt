-- What one deed makes of a queue.
use Rattle.std.proofs.Common.{◌≡◌, ◌≢◌, ◌⊎◌, ◌<◌, ◌≤◌, ◌+◌, ◌^◌, ◌&&◌, ℕ, Bool, true, false, Option, Some, None, inl, inr, ⊎_elim, refl, ap, sym, subst, ◌∙◌, arith}
use Rattle.std.specs.Prelude.{nat_le, IsSome, IsNone, is_some}
use Rattle.std.proofs.lemmas.Bool.{cases_lt}
use Rattle.std.specs.FinMap as finite
use Rattle.lsm_codec.specs.Keys.{Bytes}
use Rattle.lsm_codec.specs.Map.{Map, apply}
use Rattle.example_work_queue.specs.Tasks.{NotGiven, Waiting, Claimed, Finished, IsLastRow, IsQueue, IsTaskKey, is_given, last_given, last_key, number_bytes, number_of, claimed_key, status, status_by, waiting_key}
use Rattle.example_work_queue.specs.Deeds.{Deed, Adds, Claims, Finishes, Does, MayBeDone, batch_of}
use Rattle.example_work_queue.proofs.Keys.{bytes_back, same_waiting, same_claimed, waiting_not_last, claimed_not_last, waiting_not_claimed, claimed_not_waiting, claimed_with_waiting, waiting_with_claimed, same_or_other, got_put, got_put_other, got_deleted, got_deleted_other}

-- ---- statuses

some_none : {X : Type 0} (x : X) (o : Option X) → o ≡ Some x → IsNone o → ⊥
some_none x o e none = not_both (sym (ap is_some e) ∙ none)
  where
    not_both : true ≡ false → ⊥
    not_both h = cc

le_true : (a b : ℕ) → a ≤ b → nat_le a b ≡ true
le_true a b h = grind arith

le_false : (a b : ℕ) → b < a → nat_le a b ≡ false
le_false a b h = grind arith

le_of : (a b : ℕ) → nat_le a b ≡ true → a ≤ b
le_of a b h = grind arith

both_true : (a b : Bool) → (a && b) ≡ true → (a ≡ true) × (b ≡ true)
both_true true b h = (refl, h)
both_true false b h = absurd cc

pub given : (m : Map) (n : ℕ) → 1 ≤ n → n ≤ last_given m → is_given m n ≡ true
given m n low high = λ i. le_true 1 n low i && le_true n (last_given m) high i

pub not_given : (m : Map) (n : ℕ) → last_given m < n → is_given m n ≡ false
not_given m n above = by (nat_le 1 n) (nat_le n (last_given m)) (le_false n (last_given m) above)
  where
    by : (a b : Bool) → b ≡ false → (a && b) ≡ false
    by true b e = e
    by false b e = refl

-- what a map says of a task, by its rows
pub reads : (m : Map) (n : ℕ) (b : Bool) (waiting claimed : Option Bytes) → is_given m n ≡ b → finite.get m (waiting_key n) ≡ waiting → finite.get m (claimed_key n) ≡ claimed
    → status m n ≡ status_by b waiting claimed
reads m n b waiting claimed e w c = λ i. status_by (e i) (w i) (c i)

-- a task that waits
pub record IsWaiting (m : Map) (n : ℕ) (task : Bytes) : Type 0 where
  pub low : 1 ≤ n
  pub high : n ≤ last_given m
  pub row : finite.get m (waiting_key n) ≡ Some task

-- a task that is claimed
pub record IsClaimed (m : Map) (n : ℕ) (task : Bytes) : Type 0 where
  pub low : 1 ≤ n
  pub high : n ≤ last_given m
  pub no_row : finite.get m (waiting_key n) ≡ None
  pub row : finite.get m (claimed_key n) ≡ Some task

by_waiting : (b : Bool) (w c : Option Bytes) (task : Bytes) → status_by b w c ≡ Waiting task → (b ≡ true) × (w ≡ Some task)
by_waiting false w c task e = absurd cc
by_waiting true (Some t) c task e = (refl, cc)
by_waiting true None (Some t) task e = absurd cc
by_waiting true None None task e = absurd cc

by_claimed : (b : Bool) (w c : Option Bytes) (task : Bytes) → status_by b w c ≡ Claimed task → (b ≡ true) × (w ≡ None) × (c ≡ Some task)
by_claimed false w c task e = absurd cc
by_claimed true (Some t) c task e = absurd cc
by_claimed true None (Some t) task e = (refl, refl, cc)
by_claimed true None None task e = absurd cc

pub waits : (m : Map) (n : ℕ) (task : Bytes) → status m n ≡ Waiting task → IsWaiting m n task
waits m n task e =
    let parts = by_waiting (is_given m n) (finite.get m (waiting_key n)) (finite.get m (claimed_key n)) task e in
    let within = both_true (nat_le 1 n) (nat_le n (last_given m)) parts.0 in
    record { low = le_of 1 n within.0; high = le_of n (last_given m) within.1; row = parts.1 }

pub is_waiting : (m : Map) (n : ℕ) (task : Bytes) → IsWaiting m n task → status m n ≡ Waiting task
is_waiting m n task w = reads m n true (Some task) (finite.get m (claimed_key n)) (given m n w.low w.high) w.row refl

pub claimed : (m : Map) (n : ℕ) (task : Bytes) → status m n ≡ Claimed task → IsClaimed m n task
claimed m n task e =
    let parts = by_claimed (is_given m n) (finite.get m (waiting_key n)) (finite.get m (claimed_key n)) task e in
    let within = both_true (nat_le 1 n) (nat_le n (last_given m)) parts.0 in
    record { low = le_of 1 n within.0; high = le_of n (last_given m) within.1; no_row = parts.1; row = parts.2 }

pub is_claimed : (m : Map) (n : ℕ) (task : Bytes) → IsClaimed m n task → status m n ≡ Claimed task
is_claimed m n task c = reads m n true None (Some task) (given m n c.low c.high) c.no_row c.row

-- ---- queues

last_row_small : (row : Option Bytes) → IsLastRow row → number_of row < 2 ^ 64
last_row_small row (inl none) = by row none
  where
    by : (o : Option Bytes) → IsNone o → number_of o < 2 ^ 64
    by None h = omega arith
    by (Some x) h = absurd cc
last_row_small row (inr (n, small, e)) = let is = ap number_of e ∙ bytes_back n small in omega (arith, small, is)

pub last_small : (m : Map) → IsQueue m → last_given m < 2 ^ 64
last_small m q = last_row_small (finite.get m last_key) q.last

-- a number that wasn't given has no row
task_none : (m : Map) (n : ℕ) (key : Bytes) → IsQueue m → last_given m < n → n < 2 ^ 64 → key ≢ last_key
    → ((k : ℕ) → k ≤ last_given m → (key ≡ waiting_key k) ⊎ (key ≡ claimed_key k) → k ≡ n) → finite.get m key ≡ None
task_none m n key q above small not_last only = by (finite.get m key) refl
  where
    by : (o : Option Bytes) → finite.get m key ≡ o → o ≡ None
    by None e = refl
    by (Some x) e = absurd (⊎_elim not_last (λ (t : IsTaskKey (last_given m) key). let same = only t.0 t.2 t.3 in omega (arith, t.2, same)) (q.rows key (ap is_some e)))

pub unused_waiting : (m : Map) (n : ℕ) → IsQueue m → last_given m < n → n < 2 ^ 64 → finite.get m (waiting_key n) ≡ None
unused_waiting m n q above small = task_none m n (waiting_key n) q above small (waiting_not_last n)
    (λ k low is. let fits : k < 2 ^ 64 = omega arith in ⊎_elim (λ e. same_waiting k n fits small (sym e)) (λ e. absurd (waiting_not_claimed n k e)) is)

pub unused_claimed : (m : Map) (n : ℕ) → IsQueue m → last_given m < n → n < 2 ^ 64 → finite.get m (claimed_key n) ≡ None
unused_claimed m n q above small = task_none m n (claimed_key n) q above small (claimed_not_last n)
    (λ k low is. let fits : k < 2 ^ 64 = omega arith in ⊎_elim (λ e. absurd (claimed_not_waiting n k e)) (λ e. same_claimed k n fits small (sym e)) is)

is_none : {X : Type 0} (o : Option X) → IsNone o → o ≡ None
is_none None h = refl
is_none (Some x) h = absurd cc

-- a row of a task tells its status
pub waits_by_row : (m : Map) (n : ℕ) (task : Bytes) → IsQueue m → n < 2 ^ 64 → finite.get m (waiting_key n) ≡ Some task → IsWaiting m n task
waits_by_row m n task q small row = ⊎_elim (λ e. absurd (waiting_not_last n e))
    (λ (t : IsTaskKey (last_given m) (waiting_key n)).
    let l = last_small m q in
    let fits : t.0 < 2 ^ 64 = omega (arith, l, t.2) in
    let same : n ≡ t.0 = ⊎_elim (λ e. same_waiting n t.0 small fits e) (λ e. absurd (waiting_not_claimed n t.0 e)) t.3 in
    record { low = omega (arith, t.1, same); high = omega (arith, t.2, same); row = row })
    (q.rows (waiting_key n) (ap is_some row))

pub claimed_by_row : (m : Map) (n : ℕ) (task : Bytes) → IsQueue m → n < 2 ^ 64 → finite.get m (claimed_key n) ≡ Some task → IsClaimed m n task
claimed_by_row m n task q small row = ⊎_elim (λ e. absurd (claimed_not_last n e))
    (λ (t : IsTaskKey (last_given m) (claimed_key n)).
    let l = last_small m q in
    let fits : t.0 < 2 ^ 64 = omega (arith, l, t.2) in
    let same : n ≡ t.0 = ⊎_elim (λ e. absurd (claimed_not_waiting n t.0 e)) (λ e. same_claimed n t.0 small fits e) t.3 in
    let none : finite.get m (waiting_key n) ≡ None = ⊎_elim (λ h. is_none (finite.get m (waiting_key n)) h) (λ h. absurd (some_none task (finite.get m (claimed_key n)) row h)) (q.apart n) in
    record { low = omega (arith, t.1, same); high = omega (arith, t.2, same); no_row = none; row = row })
    (q.rows (claimed_key n) (ap is_some row))

-- ---- another task

le_same : (j n last : ℕ) → n ≡ last + 1 → j ≢ n → nat_le j n ≡ nat_le j last
le_same j n last e apart = grind arith

-- Where two maps have the same rows of a task, and the numbers that were given are the same but for one other, it has one status.
pub keeps : (old new : Map) (j : ℕ) → is_given new j ≡ is_given old j → finite.get new (waiting_key j) ≡ finite.get old (waiting_key j) → finite.get new (claimed_key j) ≡ finite.get old (claimed_key j)
    → status new j ≡ status old j
keeps old new j e w c = λ i. status_by (e i) (w i) (c i)

-- numbers that don't fit were never given
pub keeps_none : (old new : Map) (j : ℕ) → last_given old < j → last_given new < j → status new j ≡ status old j
keeps_none old new j one two = reads new j false _ _ (not_given new j two) refl refl ∙ sym (reads old j false _ _ (not_given old j one) refl refl)

-- ---- a task is added

module _ (m : Map) (q : IsQueue m) (n : ℕ) (task : Bytes) (next : n ≡ last_given m + 1) (small : n < 2 ^ 64) where
  numbered : Map
  numbered = finite.insert m last_key (number_bytes n)

  added : Map
  added = finite.insert numbered (waiting_key n) task

  added_row : finite.get added (waiting_key n) ≡ Some task
  unfolding added
  added_row = got_put numbered (waiting_key n) task

  added_last_row : finite.get added last_key ≡ Some (number_bytes n)
  unfolding added numbered
  added_last_row = got_put_other numbered (waiting_key n) task last_key (λ e. waiting_not_last n (sym e)) ∙ got_put m last_key (number_bytes n)

  added_other : (key : Bytes) → key ≢ last_key → key ≢ waiting_key n → finite.get added key ≡ finite.get m key
  unfolding added numbered
  added_other key one two = got_put_other numbered (waiting_key n) task key two ∙ got_put_other m last_key (number_bytes n) key one

  added_last : last_given added ≡ n
  added_last = ap number_of added_last_row ∙ bytes_back n small

  added_claimed : (j : ℕ) → finite.get added (claimed_key j) ≡ finite.get m (claimed_key j)
  added_claimed j = added_other (claimed_key j) (claimed_not_last j) (claimed_not_waiting j n)

  added_waits : status added n ≡ Waiting task
  added_waits = reads added n true (Some task) (finite.get added (claimed_key n)) (given added n (omega arith) (omega (arith, added_last))) added_row refl

  was_not_given : status m n ≡ NotGiven
  was_not_given = reads m n false _ _ (not_given m n (omega arith)) refl refl

  added_others : (j : ℕ) → j ≢ n → status added j ≡ status m j
  added_others j apart = ⊎_elim
      (λ (fits : j < 2 ^ 64). keeps m added j
      (λ i. nat_le 1 j && (ap (nat_le j) added_last ∙ le_same j n (last_given m) next apart) i)
      (added_other (waiting_key j) (waiting_not_last j) (λ e. apart (same_waiting j n fits small e)))
      (added_claimed j))
      (λ (above : 2 ^ 64 ≤ j). keeps_none m added j (let l = last_small m q in omega (arith, l)) (omega (arith, added_last)))
      (cases_lt j (2 ^ 64))

  added_rows : (key : Bytes) → IsSome (finite.get added key) → (key ≡ last_key) ⊎ IsTaskKey (last_given added) key
  added_rows key some = ⊎_elim (λ e. inl e)
      (λ one. ⊎_elim (λ e. inr (n, omega arith, omega (arith, added_last), inl e))
      (λ two. ⊎_elim (λ e. inl e) (λ (t : IsTaskKey (last_given m) key). inr (t.0, t.1, omega (arith, t.2, added_last), t.3)) (q.rows key (ap is_some (sym (added_other key one two)) ∙ some)))
      (same_or_other key (waiting_key n)))
      (same_or_other key last_key)

  added_apart : (j : ℕ) → IsNone (finite.get added (waiting_key j)) ⊎ IsNone (finite.get added (claimed_key j))
  added_apart j = ⊎_elim
      (λ e. inr (ap (λ (key : Bytes). is_some (finite.get added key)) (claimed_with_waiting j n e) ∙ ap is_some (added_claimed n ∙ unused_claimed m n q (omega arith) small)))
      (λ other. ⊎_elim
      (λ none. inl (ap is_some (added_other (waiting_key j) (waiting_not_last j) other) ∙ none))
      (λ none. inr (ap is_some (added_claimed j) ∙ none))
      (q.apart j))
      (same_or_other (waiting_key j) (waiting_key n))

  pub adds : Does (Adds n task) m (apply m (batch_of (Adds n task)))
  unfolding added numbered
  adds = record {
    moves = (was_not_given, added_waits);
    others = added_others;
    queue = record { last = inr (n, small, added_last_row); rows = added_rows; apart = added_apart };
  }

-- ---- a task is claimed

module _ (m : Map) (q : IsQueue m) (n : ℕ) (task : Bytes) (w : IsWaiting m n task) where
  taken : Map
  taken = finite.remove m (waiting_key n)

  held : Map
  held = finite.insert taken (claimed_key n) task

  n_small : n < 2 ^ 64
  n_small = let l = last_small m q in omega (arith, l, w.high)

  held_row : finite.get held (claimed_key n) ≡ Some task
  unfolding held
  held_row = got_put taken (claimed_key n) task

  held_no_row : finite.get held (waiting_key n) ≡ None
  unfolding held taken
  held_no_row = got_put_other taken (claimed_key n) task (waiting_key n) (waiting_not_claimed n n) ∙ got_deleted m (waiting_key n)

  held_other : (key : Bytes) → key ≢ waiting_key n → key ≢ claimed_key n → finite.get held key ≡ finite.get m key
  unfolding held taken
  held_other key one two = got_put_other taken (claimed_key n) task key two ∙ got_deleted_other m (waiting_key n) key one

  held_last_row : finite.get held last_key ≡ finite.get m last_key
  held_last_row = held_other last_key (λ e. waiting_not_last n (sym e)) (λ e. claimed_not_last n (sym e))

  held_last : last_given held ≡ last_given m
  held_last = ap number_of held_last_row

  held_claimed : status held n ≡ Claimed task
  held_claimed = is_claimed held n task (record { low = w.low; high = omega (arith, w.high, held_last); no_row = held_no_row; row = held_row })

  held_others : (j : ℕ) → j ≢ n → status held j ≡ status m j
  held_others j apart = ⊎_elim
      (λ (fits : j < 2 ^ 64). keeps m held j
      (ap (λ (last : ℕ). nat_le 1 j && nat_le j last) held_last)
      (held_other (waiting_key j) (λ e. apart (same_waiting j n fits n_small e)) (waiting_not_claimed j n))
      (held_other (claimed_key j) (claimed_not_waiting j n) (λ e. apart (same_claimed j n fits n_small e))))
      (λ (above : 2 ^ 64 ≤ j). let l = last_small m q in keeps_none m held j (omega (arith, l)) (omega (arith, l, held_last)))
      (cases_lt j (2 ^ 64))

  held_rows : (key : Bytes) → IsSome (finite.get held key) → (key ≡ last_key) ⊎ IsTaskKey (last_given held) key
  held_rows key some = ⊎_elim (λ e. inr (n, w.low, omega (arith, w.high, held_last), inl e))
      (λ one. ⊎_elim (λ e. inr (n, w.low, omega (arith, w.high, held_last), inr e))
      (λ two. ⊎_elim (λ e. inl e) (λ (t : IsTaskKey (last_given m) key). inr (t.0, t.1, omega (arith, t.2, held_last), t.3)) (q.rows key (ap is_some (sym (held_other key one two)) ∙ some)))
      (same_or_other key (claimed_key n)))
      (same_or_other key (waiting_key n))

  held_apart : (j : ℕ) → IsNone (finite.get held (waiting_key j)) ⊎ IsNone (finite.get held (claimed_key j))
  held_apart j = ⊎_elim
      (λ e. inl (ap (λ (key : Bytes). is_some (finite.get held key)) e ∙ ap is_some held_no_row))
      (λ other. ⊎_elim
      (λ none. inl (ap is_some (held_other (waiting_key j) other (waiting_not_claimed j n)) ∙ none))
      (λ none. inr (ap is_some (held_other (claimed_key j) (claimed_not_waiting j n) (λ e. other (waiting_with_claimed j n e))) ∙ none))
      (q.apart j))
      (same_or_other (waiting_key j) (waiting_key n))

  pub claims : Does (Claims n task) m (apply m (batch_of (Claims n task)))
  unfolding held taken
  claims = record {
    moves = (is_waiting m n task w, held_claimed);
    others = held_others;
    queue = record { last = subst IsLastRow (sym held_last_row) q.last; rows = held_rows; apart = held_apart };
  }

-- ---- a task is finished

module _ (m : Map) (q : IsQueue m) (n : ℕ) (task : Bytes) (c : IsClaimed m n task) where
  done : Map
  done = finite.remove m (claimed_key n)

  fits_n : n < 2 ^ 64
  fits_n = let l = last_small m q in omega (arith, l, c.high)

  done_no_row : finite.get done (claimed_key n) ≡ None
  unfolding done
  done_no_row = got_deleted m (claimed_key n)

  done_other : (key : Bytes) → key ≢ claimed_key n → finite.get done key ≡ finite.get m key
  unfolding done
  done_other key one = got_deleted_other m (claimed_key n) key one

  done_waiting : (j : ℕ) → finite.get done (waiting_key j) ≡ finite.get m (waiting_key j)
  done_waiting j = done_other (waiting_key j) (waiting_not_claimed j n)

  done_last_row : finite.get done last_key ≡ finite.get m last_key
  done_last_row = done_other last_key (λ e. claimed_not_last n (sym e))

  done_last : last_given done ≡ last_given m
  done_last = ap number_of done_last_row

  done_finished : status done n ≡ Finished
  done_finished = reads done n true None None (given done n c.low (omega (arith, c.high, done_last))) (done_waiting n ∙ c.no_row) done_no_row

  done_others : (j : ℕ) → j ≢ n → status done j ≡ status m j
  done_others j apart = ⊎_elim
      (λ (fits : j < 2 ^ 64). keeps m done j
      (ap (λ (last : ℕ). nat_le 1 j && nat_le j last) done_last)
      (done_waiting j)
      (done_other (claimed_key j) (λ e. apart (same_claimed j n fits fits_n e))))
      (λ (above : 2 ^ 64 ≤ j). let l = last_small m q in keeps_none m done j (omega (arith, l)) (omega (arith, l, done_last)))
      (cases_lt j (2 ^ 64))

  done_rows : (key : Bytes) → IsSome (finite.get done key) → (key ≡ last_key) ⊎ IsTaskKey (last_given done) key
  done_rows key some = ⊎_elim (λ e. inr (n, c.low, omega (arith, c.high, done_last), inr e))
      (λ one. ⊎_elim (λ e. inl e) (λ (t : IsTaskKey (last_given m) key). inr (t.0, t.1, omega (arith, t.2, done_last), t.3)) (q.rows key (ap is_some (sym (done_other key one)) ∙ some)))
      (same_or_other key (claimed_key n))

  done_apart : (j : ℕ) → IsNone (finite.get done (waiting_key j)) ⊎ IsNone (finite.get done (claimed_key j))
  done_apart j = ⊎_elim
      (λ e. inr (ap (λ (key : Bytes). is_some (finite.get done key)) e ∙ ap is_some done_no_row))
      (λ other. ⊎_elim
      (λ none. inl (ap is_some (done_waiting j) ∙ none))
      (λ none. inr (ap is_some (done_other (claimed_key j) other) ∙ none))
      (q.apart j))
      (same_or_other (claimed_key j) (claimed_key n))

  pub finishes : Does (Finishes n) m (apply m (batch_of (Finishes n)))
  unfolding done
  finishes = record {
    moves = ((task, is_claimed m n task c), done_finished);
    others = done_others;
    queue = record { last = subst IsLastRow (sym done_last_row) q.last; rows = done_rows; apart = done_apart };
  }

-- ---- any deed

pub does : (m : Map) (deed : Deed) → IsQueue m → MayBeDone m deed → Does deed m (apply m (batch_of deed))
does m (Adds n task) q (next, small) = adds m q n task next small
does m (Claims n task) q waiting = claims m q n task (waits m n task waiting)
does m (Finishes n) q (task, is) = finishes m q n task (claimed m n task is)
