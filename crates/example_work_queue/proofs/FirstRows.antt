-- The first of the rows of tasks that wait is that of the lowest number.
use Rattle.std.proofs.Common.{◌≡◌, ◌⊎◌, ◌<◌, ◌≤◌, ◌+◌, ◌*◌, ◌/◌, ◌^◌, ◌%◌, ◌&&◌, ℕ, zero, suc, Bool, true, false, true≢false, cond, List, [], ◌∷◌, length, take, filter, Option, Some, None, inl, inr, ⊎_elim, refl, ap, sym, subst, ◌∙◌, arith}
use Rattle.std.specs.Prelude.{slice_index, drop, T, is_some}
use Rattle.std.proofs.Math.Nat.{mul-le-mul_right, add-mul}
use Rattle.std.proofs.lemmas.Cmp.{ranked}
use Rattle.std.specs.Cmp.Lexicographic.{slice_cmp}
use Rattle.std.specs.FinMap as finite
use Rattle.std.specs.FinMap.{find, is_sorted, get-entries, entries_sorted}
use Rattle.std.specs.FinMap.Entries.{below_all}
use Rattle.std.specs.Int.{bytes_high_first}
use Rattle.std.specs.Ordering.{eq_by_cmp, is_le, is_lt, nat_cmp, ordering_then}
use Rattle.std.specs.declared.cmp.Ordering.{Ordering}
use Rattle.std.specs.declared.cmp.Ordering.TheVariants.{Less, Equal, Greater}
use Rattle.byteorder.specs.Endian.{big_from}
use Rattle.byteorder.specs.Numbers.{big_from-cons, big_from-lt, length-bytes_high_first}
use Rattle.lsm_codec.specs.Keys.{Bytes, byte_order}
use Rattle.lsm_codec.specs.Map.{Map}
use Rattle.lsm_codec.proofs.KeyOrder.{same_key, key_itself, is_lt_Less}
use Rattle.lsm_codec.proofs.Numbers.{byte_at-pow}
use Rattle.lsm_device.specs.declared.refusal.Refusal.{Refusal}
use Rattle.lsm_mem.specs.Paging.{Page, is_before, page_of, pairs_in}
use Rattle.lsm_store.specs.Backing.{StoreView}
use Rattle.lsm_machine.specs.Calls.{Reply, Rows, Scan}
use Rattle.lsm_machine.specs.Effects.{reply_by}
use Rattle.lsm_machine.specs.Refusals.{full_refusal}
use Rattle.lsm_store.specs.Serving.{Serves}
use Rattle.lsm_machine.specs.State.{State}
use Rattle.lsm_machine.specs.RecoveryPoints.{present_map}
use Rattle.lsm_machine.specs.declared.asked.At.TheVariants.{Now}
use Rattle.example_work_queue.specs.Committing.{HoldsQueue, IsFirstOf, map_in}
use Rattle.example_work_queue.specs.Tasks.{IsQueue, IsTaskKey, Waiting, claimed_key, first_task, last_given, last_key, number_bytes, number_in, status, waiting_key}
use Rattle.example_work_queue.proofs.Doing.{last_small, waits}
use Rattle.example_work_queue.proofs.Keys.{bytes_back, same_waiting}

-- ---- the order of keys is that of numbers

low_byte : (y : ℕ) → y % 256 < 256
low_byte y = omega arith

fits_byte : (n x i : ℕ) → slice_index (bytes_high_first n x) i < 256
fits_byte zero x i = omega arith
fits_byte (suc n) x zero = subst (λ (b : ℕ). b < 256) (sym (byte_at-pow n x)) (low_byte (x / 256 ^ n))
fits_byte (suc n) x (suc i) = fits_byte n x i

above : (a b p x y : ℕ) → a < b → x < p → a * p + x < b * p + y
above a b p x y less small =
    let grown : (a + 1) * p ≤ b * p = mul-le-mul_right p (omega arith) in
    let spread : (a + 1) * p ≡ a * p + 1 * p = add-mul a 1 p in
    omega arith

then_less : (a b : ℕ) (r : Ordering) → ordering_then (nat_cmp a b) r ≡ Less → (a < b) ⊎ ((a ≡ b) × (r ≡ Less))
then_less a b r e = by (nat_cmp a b) refl
  where
    by : (o : Ordering) → nat_cmp a b ≡ o → (a < b) ⊎ ((a ≡ b) × (r ≡ Less))
    by Less is = inl (ranked a b Less (sym is))
    by Equal is = inr (ranked a b Equal (sym is), ap (λ (o : Ordering). ordering_then o r) (sym is) ∙ e)
    by Greater is = absurd (greater (ap (λ (o : Ordering). ordering_then o r) (sym is) ∙ e))
      where
        greater : Greater ≡ Less → ⊥
        greater h = cc

less_number : (n : ℕ) (xs ys : Bytes) → length xs ≡ n → length ys ≡ n → ((i : ℕ) → slice_index xs i < 256) → slice_cmp nat_cmp xs ys ≡ Less → big_from 0 n xs < big_from 0 n ys
less_number zero [] [] one two fit e = absurd cc
less_number zero [] (y ∷ ys) one two fit e = absurd (omega arith)
less_number zero (x ∷ xs) ys one two fit e = absurd (omega arith)
less_number (suc n) [] ys one two fit e = absurd (omega arith)
less_number (suc n) (x ∷ xs) [] one two fit e = absurd (omega arith)
less_number (suc n) (x ∷ xs) (y ∷ ys) one two fit e =
    let small = big_from-lt 0 n xs (λ i. fit (suc i)) in
    rw (big_from-cons 0 n x xs, big_from-cons 0 n y ys)
    (⊎_elim (λ less. above x y (256 ^ n) (big_from 0 n xs) (big_from 0 n ys) less small)
    (λ (h : (x ≡ y) × (slice_cmp nat_cmp xs ys ≡ Less)).
    let ih = less_number n xs ys (omega arith) (omega arith) (λ i. fit (suc i)) h.1 in
    subst (λ (z : ℕ). x * 256 ^ n + big_from 0 n xs < z * 256 ^ n + big_from 0 n ys) h.0 (omega (arith, ih)))
    (then_less x y (slice_cmp nat_cmp xs ys) e))

less_key : (a b : ℕ) → byte_order (waiting_key a) (waiting_key b) ≡ Less → number_in (number_bytes a) < number_in (number_bytes b)
unfolding number_bytes number_in
less_key a b e = less_number 8 (bytes_high_first 8 a) (bytes_high_first 8 b) (length-bytes_high_first 8 a) (length-bytes_high_first 8 b) (fits_byte 8 a) e

-- ---- the first of some pairs

abbrev Pairs : Type 0
Pairs = List (Bytes × Bytes)

both_parts : (a b : Bool) → T (a && b) → T a × T b
both_parts true b h = (tt, h)
both_parts false b h = absurd h

is_true : (b : Bool) → T b → b ≡ true
is_true true h = refl
is_true false h = absurd h

same_first : (a b : Bytes × Bytes) (x y : Pairs) → a ∷ x ≡ b ∷ y → a ≡ b
same_first a b x y e = cc

module _ (test : Bytes → Bool) where
  abbrev passed : Pairs → Pairs
  passed es = filter (λ e. test e.0) es

  abbrev rest_passed : (e : Bytes × Bytes) (es : Pairs) (b : Bool) → Pairs
  rest_passed e es b = cond b (e ∷ passed es) (passed es)

  abbrev found_behind : Bytes → Bytes × Bytes → Pairs → Bool → Option Bytes
  found_behind key e es b = cond b (Some e.1) (find byte_order key es)

  missed : (key : Bytes) (e : Bytes × Bytes) → test e.0 ≡ false → test key ≡ true → eq_by_cmp byte_order key e.0 ≡ true → ⊥
  missed key e fails passes same = true≢false (sym passes ∙ ap test (same_key key e.0 same) ∙ fails)

  none_step : (e : Bytes × Bytes) (es : Pairs) (key value : Bytes) → test key ≡ true → (passed es ≡ [] → find byte_order key es ≡ Some value → ⊥)
      → (b : Bool) → test e.0 ≡ b → (c : Bool) → eq_by_cmp byte_order key e.0 ≡ c → rest_passed e es b ≡ [] → found_behind key e es c ≡ Some value → ⊥
  none_step e es key value passes ih true t c same none found = cc
  none_step e es key value passes ih false t true same none found = missed key e t passes same
  none_step e es key value passes ih false t false same none found = ih none found

  pub none_pass : (es : Pairs) → passed es ≡ [] → (key value : Bytes) → find byte_order key es ≡ Some value → test key ≡ true → ⊥
  none_pass [] none key value found passes = cc
  none_pass (e ∷ es) none key value found passes = none_step e es key value passes (λ n f. none_pass es n key value f passes) (test e.0) refl (eq_by_cmp byte_order key e.0) refl none found

  below_step : (x : Bytes) (e : Bytes × Bytes) (es : Pairs) (key value : Bytes) → byte_order x e.0 ≡ Less → (find byte_order key es ≡ Some value → byte_order x key ≡ Less)
      → (c : Bool) → eq_by_cmp byte_order key e.0 ≡ c → found_behind key e es c ≡ Some value → byte_order x key ≡ Less
  below_step x e es key value here ih true same found = ap (byte_order x) (same_key key e.0 same) ∙ here
  below_step x e es key value here ih false same found = ih found

  below_found : (x : Bytes) (es : Pairs) → T (below_all byte_order x es) → (key value : Bytes) → find byte_order key es ≡ Some value → byte_order x key ≡ Less
  below_found x [] below key value found = absurd (none_some found)
    where
      none_some : None ≡ Some value → ⊥
      none_some h = cc
  below_found x (e ∷ es) below key value found =
      let parts = both_parts (is_lt (byte_order x e.0)) (below_all byte_order x es) below in
      below_step x e es key value (is_lt_Less (byte_order x e.0) (is_true (is_lt (byte_order x e.0)) parts.0)) (λ f. below_found x es parts.1 key value f) (eq_by_cmp byte_order key e.0) refl found

  least_step : (e : Bytes × Bytes) (es : Pairs) (row : Bytes × Bytes) (rest : Pairs) (key value : Bytes) → test key ≡ true → T (below_all byte_order e.0 es)
      → (passed es ≡ row ∷ rest → find byte_order key es ≡ Some value → (byte_order row.0 key ≡ Less) ⊎ (row.0 ≡ key))
      → (b : Bool) → test e.0 ≡ b → (c : Bool) → eq_by_cmp byte_order key e.0 ≡ c → rest_passed e es b ≡ row ∷ rest → found_behind key e es c ≡ Some value
      → (byte_order row.0 key ≡ Less) ⊎ (row.0 ≡ key)
  least_step e es row rest key value passes below ih true t true same is found = inr (ap (λ (p : Bytes × Bytes). p.0) (sym (same_first e row (passed es) rest is)) ∙ sym (same_key key e.0 same))
  least_step e es row rest key value passes below ih true t false same is found = inl (ap (λ (p : Bytes × Bytes). byte_order p.0 key) (sym (same_first e row (passed es) rest is)) ∙ below_found e.0 es below key value found)
  least_step e es row rest key value passes below ih false t true same is found = absurd (missed key e t passes same)
  least_step e es row rest key value passes below ih false t false same is found = ih is found

  pub first_least : (es : Pairs) → T (is_sorted byte_order es) → (row : Bytes × Bytes) (rest : Pairs) → passed es ≡ row ∷ rest
      → (key value : Bytes) → find byte_order key es ≡ Some value → test key ≡ true → (byte_order row.0 key ≡ Less) ⊎ (row.0 ≡ key)
  first_least [] sorted row rest is key value found passes = absurd (not_nil is)
    where
      not_nil : [] ≡ row ∷ rest → ⊥
      not_nil h = cc
  first_least (e ∷ es) sorted row rest is key value found passes =
      let parts = both_parts (below_all byte_order e.0 es) (is_sorted byte_order es) sorted in
      least_step e es row rest key value passes parts.0 (λ i f. first_least es parts.1 row rest i key value f passes) (test e.0) refl (eq_by_cmp byte_order key e.0) refl is found

  abbrev IsFound : Bytes × Bytes → Pairs → Type 0
  IsFound row es = (find byte_order row.0 es ≡ Some row.1) × (test row.0 ≡ true)

  found_further : (e : Bytes × Bytes) (es : Pairs) (row : Bytes × Bytes) → test e.0 ≡ false → IsFound row es → (c : Bool) → eq_by_cmp byte_order row.0 e.0 ≡ c → found_behind row.0 e es c ≡ Some row.1
  found_further e es row t more true same = absurd (missed row.0 e t more.1 same)
  found_further e es row t more false same = more.0

  found_step : (e : Bytes × Bytes) (es : Pairs) (row : Bytes × Bytes) (rest : Pairs) → (passed es ≡ row ∷ rest → IsFound row es)
      → (b : Bool) → test e.0 ≡ b → rest_passed e es b ≡ row ∷ rest → IsFound row (e ∷ es)
  found_step e es row rest ih true t is = subst (λ (p : Bytes × Bytes). IsFound p (e ∷ es)) (same_first e row (passed es) rest is)
      (ap (λ (b : Bool). cond b (Some e.1) (find byte_order e.0 es)) (key_itself e.0), t)
  found_step e es row rest ih false t is = let more = ih is in (found_further e es row t more (eq_by_cmp byte_order row.0 e.0) refl, more.1)

  pub first_found : (es : Pairs) (row : Bytes × Bytes) (rest : Pairs) → passed es ≡ row ∷ rest → IsFound row es
  first_found [] row rest is = absurd (not_nil is)
    where
      not_nil : [] ≡ row ∷ rest → ⊥
      not_nil h = cc
  first_found (e ∷ es) row rest is = found_step e es row rest (λ i. first_found es row rest i) (test e.0) refl is

-- ---- the rows of tasks that wait

abbrev is_w : Bytes → Bool
is_w key = is_le (byte_order (119 ∷ []) key) && is_before (Some (120 ∷ [])) key

w_waits : (n : ℕ) → is_w (waiting_key n) ≡ true
unfolding number_bytes
w_waits n = refl

not_last : is_w last_key ≡ true → ⊥
not_last h = true≢false (sym h)

not_claimed : (n : ℕ) → is_w (claimed_key n) ≡ true → ⊥
not_claimed n h = true≢false (sym h)

module _ (m : Map) (q : IsQueue m) where
  abbrev rows : Pairs
  rows = pairs_in m (119 ∷ []) (Some (120 ∷ []))

  waiting_found : (number : ℕ) (task : Bytes) → status m number ≡ Waiting task → find byte_order (waiting_key number) (finite.entries m) ≡ Some task
  waiting_found number task is = sym (get-entries m (waiting_key number)) ∙ (waits m number task is).row

  waiting_small : (number : ℕ) (task : Bytes) → status m number ≡ Waiting task → number < 2 ^ 64
  waiting_small number task is = let l = last_small m q in let w = waits m number task is in omega (arith, l, w.high)

  first_key_waits : (key value : Bytes) → find byte_order key (finite.entries m) ≡ Some value → is_w key ≡ true → (k : ℕ) × (k < 2 ^ 64) × (key ≡ waiting_key k)
  first_key_waits key value found passes = ⊎_elim
      (λ e. absurd (not_last (ap is_w (sym e) ∙ passes)))
      (λ (t : IsTaskKey (last_given m) key). ⊎_elim
      (λ e. let l = last_small m q in (t.0, omega (arith, l, t.2), e))
      (λ e. absurd (not_claimed t.0 (ap is_w (sym e) ∙ passes)))
      t.3)
      (q.rows key (ap is_some (get-entries m key ∙ found)))

  pub first_of : (pairs : Pairs) → rows ≡ pairs → IsFirstOf m (first_task pairs)
  first_of [] none = λ number task is. none_pass is_w (finite.entries m) none (waiting_key number) task (waiting_found number task is) (w_waits number)
  first_of (row ∷ rest) is = λ other task waiting.
      let found = first_found is_w (finite.entries m) row rest is in
      let key = first_key_waits row.0 row.1 found.0 found.1 in
      let small = waiting_small other task waiting in
      let number : number_in (drop 1 row.0) ≡ key.0 = ap (λ (b : Bytes). number_in (drop 1 b)) key.2 ∙ bytes_back key.0 key.1 in
      ⊎_elim
      (λ less. let below = less_key key.0 other (ap (λ (b : Bytes). byte_order b (waiting_key other)) (sym key.2) ∙ less) in
      let one = bytes_back key.0 key.1 in let two = bytes_back other small in omega (arith, below, one, two, number))
      (λ same. let e = same_waiting key.0 other key.1 small (sym key.2 ∙ same) in omega (arith, e, number))
      (first_least is_w (finite.entries m) (entries_sorted m) row rest is (waiting_key other) task (waiting_found other task waiting) (w_waits other))

-- ---- as a store answers

one_row : (pairs : Pairs) → first_task (take 1 pairs) ≡ first_task pairs
one_row [] = refl
one_row (row ∷ rest) = refl

page_in : Page → Reply → Page
page_in other (Rows page) = page
page_in other reply = other

page_is : (s : State) (page : Page) (refused : Option Refusal) → Rows page ≡ reply_by s (Scan Now (119 ∷ []) (Some (120 ∷ [])) 1) refused → page ≡ page_of (present_map s.points) (119 ∷ []) (Some (120 ∷ [])) 1
unfolding page_in
page_is s page None e = ap (page_in page) e
page_is s page (Some refusal) e = absurd cc

-- where the store told these rows, the first of them is of the task that has waited longest
pub told_first : (old asked : StoreView) (page : Page) (found : Option (ℕ × Bytes)) → HoldsQueue old → Serves old (Scan Now (119 ∷ []) (Some (120 ∷ [])) 1) (Rows page) asked → found ≡ first_task page.rows
    → IsFirstOf (map_in old) found
told_first old asked page found h serves is =
    let call = Scan Now (119 ∷ []) (Some (120 ∷ [])) 1 in
    let whole = page_is old.state page (full_refusal old.state call) (serves.allowed h.backed) in
    let pairs = pairs_in (map_in old) (119 ∷ []) (Some (120 ∷ [])) in
    subst (IsFirstOf (map_in old)) (sym (is ∙ ap (λ (p : Page). first_task p.rows) whole ∙ one_row pairs)) (first_of (map_in old) h.queue pairs refl)
