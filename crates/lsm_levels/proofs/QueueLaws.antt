-- Where a source stands in a queue.
use Rattle.std.proofs.Common.{◌≡◌, ◌≢◌, ◌⊎◌, inl, inr, ⊎_elim, ℕ, zero, suc, ◌+◌, ◌-◌, ◌<◌, ◌≤◌, arith, Bool, true, false, not, ◌||◌, ◌&&◌, eqb, ltb, is_some, List, [], ◌∷◌, ◌++◌, length, map, set, take, drop, insert, filter, Option, Some, None, MatchOption, refl, sym, ap, ◌∙◌, subst}
use Rattle.std.specs.List.{AllByRecursion}
use Rattle.std.specs.declared.cmp.Ordering.{Ordering}
use Rattle.std.specs.declared.cmp.Ordering.TheVariants.{Less, Equal, Greater}
use Rattle.std.specs.Ordering.{is_lt, nat_cmp, ordering_then, ordering_reverse}
use Rattle.std.specs.Cmp.{IsTotalOrder}
use Rattle.std.proofs.lemmas.Bool.{eqb-true, eqb-false, eq-eqb, ltb-true, lt-ltb}
use Rattle.std.proofs.lemmas.Cmp.{nat_list_cmp_total, nat_cmp_total, then_total, on_total, ranked, tied_itself}
use Rattle.std.proofs.lemmas.List.{length-append, same_from_push}
use Rattle.std.proofs.Math.Seq.{drop-append_seam, take-append_seam}
use Rattle.lsm_codec.specs.Keys.{Bytes, byte_order}
use Rattle.lsm_codec.specs.Versions.{Version}
use Rattle.lsm_codec.proofs.KeyOrder.{is_lt_Less}
use Rattle.lsm_levels.specs.Among.{IsAmong}
use Rattle.lsm_levels.specs.Cursors.{Cursor, present}
use Rattle.lsm_levels.specs.Sources.{head_at, is_sooner, comes_before, IsNext}
use Rattle.lsm_levels.specs.Queues.{AreSpent, EndsIn, IsQueue, IsQueued, OneGoesOn}
use Rattle.lsm_levels.proofs.Least.{not_less}
use Rattle.lsm_levels.proofs.Members.{among_left, among_right, among_either}
use Rattle.lsm_levels.proofs.Parts.{Falls, all_passed, all_up_to_last}
use Rattle.lsm_codec.proofs.Lists.{all_map, all_append, all_left, all_right}

no : true ≡ false → ⊥
no e = cc

-- the order of keys and places
abbrev place_order : Bytes × ℕ → Bytes × ℕ → Ordering
place_order a b = ordering_then (byte_order a.0 b.0) (nat_cmp a.1 b.1)

place_order_total : IsTotalOrder place_order
place_order_total = then_total (on_total (λ (p : Bytes × ℕ). p.0) nat_list_cmp_total) (on_total (λ (p : Bytes × ℕ). p.1) nat_cmp_total)

-- what comes before one that comes before another
both_sooner : (a b c : Option Version) (i j k : ℕ) → is_sooner a i b j ≡ true → is_sooner b j c k ≡ true → is_sooner a i c k ≡ true
both_sooner None b c i j k e f = absurd (no (sym e))
both_sooner (Some u) None c i j k e f = absurd (no (sym e))
both_sooner (Some u) (Some v) None i j k e f = absurd (no (sym f))
both_sooner (Some u) (Some v) (Some w) i j k e f = ap is_lt (place_order_total.trans (u.key, i) (v.key, j) (w.key, k) (is_lt_Less _ e) (is_lt_Less _ f))

-- of two others one comes first
other_sooner : (v : Version) (b : Option Version) (i j : ℕ) → is_some b ≡ true → (i ≡ j → ⊥) → is_sooner (Some v) i b j ≡ false → is_sooner b j (Some v) i ≡ true
other_sooner v None i j some apart e = absurd (no (sym some))
other_sooner v (Some w) i j some apart e = by (place_order (v.key, i) (w.key, j)) refl
  where
    same_place : (r : Ordering) → ordering_then r (nat_cmp i j) ≡ Equal → i ≡ j
    same_place Less h = absurd (let other : Less ≡ Equal = h in cc)
    same_place Equal h = ranked i j Equal (sym h)
    same_place Greater h = absurd (let other : Greater ≡ Equal = h in cc)

    by : (r : Ordering) → place_order (v.key, i) (w.key, j) ≡ r → is_lt (place_order (w.key, j) (v.key, i)) ≡ true
    by Less h = absurd (no (sym (ap is_lt h) ∙ e))
    by Equal h = absurd (apart (same_place (byte_order v.key w.key) h))
    by Greater h = ap is_lt (place_order_total.antisymm (w.key, j) (v.key, i) ∙ ap ordering_reverse h)

-- a version comes before the first places of a queue
pub falls : (heads : List (Option Version)) (v : Version) (i : ℕ) (places : List ℕ) → IsQueued heads places → Falls (λ j. is_sooner (Some v) i (head_at heads j) j) places
falls heads v i [] h = tt
falls heads v i (j ∷ rest) h = (λ e. all_map (λ k before. later k before e (is_sooner (Some v) i (head_at heads k) k) refl) rest h.0, falls heads v i rest h.1)
  where
    later : (k : ℕ) → comes_before heads k j ≡ true → is_sooner (Some v) i (head_at heads j) j ≡ false → (b : Bool) → is_sooner (Some v) i (head_at heads k) k ≡ b → is_sooner (Some v) i (head_at heads k) k ≡ false
    later k before e false is = is
    later k before e true is = absurd (no (sym (both_sooner (Some v) (head_at heads k) (head_at heads j) i k j is before) ∙ e))

-- and before all of them where it comes before the last
pub comes_before_all : (heads : List (Option Version)) (v : Version) (i : ℕ) (places front : List ℕ) (next : ℕ) → places ≡ front ++ next ∷ [] → IsQueued heads places → is_sooner (Some v) i (head_at heads next) next ≡ true
    → AllByRecursion (λ j. is_sooner (Some v) i (head_at heads j) j ≡ true) places
comes_before_all heads v i places front next is queued sooner =
    let later : ℕ → Bool = λ j. is_sooner (Some v) i (head_at heads j) j in
    subst (AllByRecursion (λ j. later j ≡ true)) (sym is) (all_up_to_last later front next (subst (Falls later) is (falls heads v i places queued)) sooner)

-- ---- put in

queued_in : (heads : List (Option Version)) (i : ℕ) (front back : List ℕ) → IsQueued heads (front ++ back) → AllByRecursion (λ j. comes_before heads i j ≡ true) front → AllByRecursion (λ j. comes_before heads j i ≡ true) back
    → IsQueued heads (front ++ i ∷ back)
queued_in heads i [] back h a b = (b, h)
queued_in heads i (j ∷ front) back h a b = (
  all_append (λ k. comes_before heads k j ≡ true) front (i ∷ back) (all_left (λ k. comes_before heads k j ≡ true) front back h.0) (a.0, all_right (λ k. comes_before heads k j ≡ true) front back h.0),
  queued_in heads i front back h.1 a.1 b,
)

split_at : (n : ℕ) (xs : List ℕ) → take n xs ++ drop n xs ≡ xs
split_at zero [] = refl
split_at zero (x ∷ xs) = refl
split_at (suc n) [] = refl
split_at (suc n) (x ∷ xs) = ap (λ (t : List ℕ). x ∷ t) (split_at n xs)

all_in : (P : ℕ → Type 0) (front back : List ℕ) (i : ℕ) → AllByRecursion P (front ++ back) → P i → AllByRecursion P (front ++ i ∷ back)
all_in P front back i h p = all_append P front (i ∷ back) (all_left P front back h) (p, all_right P front back h)

module _ (heads : List (Option Version)) (v : Version) (i : ℕ) (is_in : ℕ → Bool) (here : head_at heads i ≡ Some v) (out : is_in i ≡ false) where
  abbrev test : ℕ → Bool
  test j = is_sooner (Some v) i (head_at heads j) j

  fails : (b : Bool) → not b ≡ true → b ≡ false
  fails true e = absurd (no (sym e))
  fails false e = refl

  before_it : (xs : List ℕ) → AllByRecursion (λ j. test j ≡ true → comes_before heads i j ≡ true) xs
  before_it [] = tt
  before_it (j ∷ xs) = (λ e. ap (λ (o : Option Version). is_sooner o i (head_at heads j) j) here ∙ e, before_it xs)

  after_it : (xs : List ℕ) → AllByRecursion (λ j. is_some (head_at heads j) ≡ true) xs → AllByRecursion (λ j. is_in j ≡ true) xs → AllByRecursion (λ j. not (test j) ≡ true → comes_before heads j i ≡ true) xs
  after_it [] s h = tt
  after_it (j ∷ xs) s h = (
    λ e. ap (λ (o : Option Version). is_sooner (head_at heads j) j o i) here
        ∙ other_sooner v (head_at heads j) i j s.0 (λ same. no (sym (subst (λ k. is_in k ≡ true) (sym same) h.0) ∙ out)) (fails (test j) e),
    after_it xs s.1 h.1,
  )

  -- with the source in its place
  pub put_in_queue : (n : ℕ) (old new : List ℕ) → take n old ≡ filter test old → drop n old ≡ filter (λ j. not (test j)) old → new ≡ insert old n i → IsQueue heads is_in old → IsQueue heads (λ j. is_in j || eqb j i) new
  put_in_queue n old new later sooner is q = subst (IsQueue heads (λ j. is_in j || eqb j i)) (sym is) (record {
    order = queued_in heads i (take n old) (drop n old) (whole (IsQueued heads) q.order)
        (subst (AllByRecursion (λ j. comes_before heads i j ≡ true)) (sym later) (all_passed (λ j. comes_before heads i j ≡ true) test old (before_it old)))
        (subst (AllByRecursion (λ j. comes_before heads j i ≡ true)) (sym sooner) (all_passed (λ j. comes_before heads j i ≡ true) (λ j. not (test j)) old (after_it old q.some q.chosen)));
    some = all_in (λ j. is_some (head_at heads j) ≡ true) (take n old) (drop n old) i (whole (AllByRecursion (λ j. is_some (head_at heads j) ≡ true)) q.some) (ap is_some here);
    chosen = all_in (λ j. (is_in j || eqb j i) ≡ true) (take n old) (drop n old) i
        (whole (AllByRecursion (λ j. (is_in j || eqb j i) ≡ true)) (all_map (λ j e. ap (λ b. b || eqb j i) e) old q.chosen))
        (ap (λ b. b || eqb i i) out ∙ eq-eqb i i refl);
    has = λ j w e found. by j (is_in j) refl e (λ e. q.has j w e found);
  })
    where
      whole : (P : List ℕ → Type 0) → P old → P (take n old ++ drop n old)
      whole P h = subst P (sym (split_at n old)) h

      by : (j : ℕ) (b : Bool) → is_in j ≡ b → (b || eqb j i) ≡ true → (is_in j ≡ true → IsAmong j old) → IsAmong j (take n old ++ i ∷ drop n old)
      by j true e f has = ⊎_elim (λ a. among_left j (take n old) (i ∷ drop n old) a) (λ a. among_right j (take n old) (i ∷ drop n old) (inr a)) (among_either j (take n old) (drop n old) (whole (IsAmong j) (has e)))
      by j false e f has = among_right j (take n old) (i ∷ drop n old) (inl (eqb-true j i f))

-- ---- the next

queued_last : (heads : List (Option Version)) (front : List ℕ) (i : ℕ) → IsQueued heads (front ++ i ∷ []) → AllByRecursion (λ j. comes_before heads i j ≡ true) front × IsQueued heads front
queued_last heads [] i h = (tt, tt)
queued_last heads (j ∷ front) i h =
    let later = queued_last heads front i h.1 in
    (((all_right (λ k. comes_before heads k j ≡ true) front (i ∷ []) h.0).0, later.0), (all_left (λ k. comes_before heads k j ≡ true) front (i ∷ []) h.0, later.1))

of_all : (P : ℕ → Type 0) (xs : List ℕ) → AllByRecursion P xs → (j : ℕ) → IsAmong j xs → P j
of_all P [] h j a = absurd a
of_all P (x ∷ xs) h j (inl e) = subst P (sym e) h.0
of_all P (x ∷ xs) h j (inr a) = of_all P xs h.1 j a

-- the last of a queue of all sources is the one that comes next
pub last_is_next : (heads : List (Option Version)) (front : List ℕ) (i : ℕ) → IsQueue heads (λ j. true) (front ++ i ∷ []) → IsNext heads i
last_is_next heads front i q = record { before = λ j w e. by j (among_either j front (i ∷ []) (q.has j w refl e)) }
  where
    by : (j : ℕ) → IsAmong j front ⊎ IsAmong j (i ∷ []) → (j ≡ i) ⊎ (comes_before heads i j ≡ true)
    by j (inl a) = inr (of_all (λ k. comes_before heads i k ≡ true) front (queued_last heads front i q.order).0 j a)
    by j (inr (inl e)) = inl e
    by j (inr (inr none)) = absurd none

-- no source comes before itself
apart_one : (h : Option Version) (i : ℕ) → is_sooner h i h i ≡ true → ⊥
apart_one None i e = no (sym e)
apart_one (Some v) i e = no (sym e ∙ ap is_lt (tied_itself place_order_total (v.key, i)))

not_same : (heads : List (Option Version)) (i j : ℕ) → comes_before heads i j ≡ true → not (eqb j i) ≡ true
not_same heads i j h = by (eqb j i) refl
  where
    by : (b : Bool) → eqb j i ≡ b → not b ≡ true
    by false e = refl
    by true e = absurd (apart_one (head_at heads i) i (subst (λ (k : ℕ). comes_before heads i k ≡ true) (eqb-true j i e) h))

without_last : (heads : List (Option Version)) (front : List ℕ) (i : ℕ) → IsQueue heads (λ j. true) (front ++ i ∷ []) → IsQueue heads (λ j. not (eqb j i)) front
without_last heads front i q = record {
  order = (queued_last heads front i q.order).1;
  some = all_left (λ j. is_some (head_at heads j) ≡ true) front (i ∷ []) q.some;
  chosen = all_map (λ j h. not_same heads i j h) front (queued_last heads front i q.order).0;
  has = λ j w h e. by j h (among_either j front (i ∷ []) (q.has j w refl e));
}
  where
    by : (j : ℕ) → not (eqb j i) ≡ true → IsAmong j front ⊎ IsAmong j (i ∷ []) → IsAmong j front
    by j h (inl a) = a
    by j h (inr (inl e)) = absurd (no (sym h ∙ ap not (eq-eqb j i e)))
    by j h (inr (inr none)) = absurd none

-- no source has a version left
spent : (heads : List (Option Version)) → ((j : ℕ) (v : Version) → head_at heads j ≡ Some v → ⊥) → AreSpent heads
spent [] none = tt
spent (h ∷ rest) none = (by h refl, spent rest (λ j v e. none (suc j) v e))
  where
    by : (o : Option Version) → h ≡ o → h ≡ None
    by None e = e
    by (Some v) e = absurd (none 0 v e)

pub none_long : (places : List ℕ) → length places ≡ 0 → places ≡ []
none_long [] e = refl
none_long (i ∷ rest) e = absurd (omega (arith, e))

-- the last place is that of the source that comes next
pub next_found : (heads : List (Option Version)) (places : List ℕ) (r : Option ℕ) → MatchOption r (places ≡ []) (λ i. EndsIn i places) → IsQueue heads (λ j. true) places
    → MatchOption r (AreSpent heads) (λ i. IsNext heads i × (is_some (head_at heads i) ≡ true))
next_found heads places None e q = spent heads (λ j v found. subst (IsAmong j) e (q.has j v refl found))
next_found heads places (Some i) e q =
    let whole : IsQueue heads (λ j. true) (e.others ++ i ∷ []) = subst (IsQueue heads (λ j. true)) e.is q in
    (last_is_next heads e.others i whole, (all_right (λ j. is_some (head_at heads j) ≡ true) e.others (i ∷ []) whole.some).0)

-- ---- one goes on

apart : (j i : ℕ) → not (eqb j i) ≡ true → j ≢ i
apart j i h e = no (sym h ∙ ap not (eq-eqb j i e))

-- what goes on is one source, so the others stay in order
module _ (heads next : List (Option Version)) (i : ℕ) (on : OneGoesOn i heads next) where
  same_before : (j k : ℕ) → not (eqb j i) ≡ true → not (eqb k i) ≡ true → comes_before heads j k ≡ true → comes_before next j k ≡ true
  same_before j k a b e =
      ap (λ (o : Option Version). is_sooner o j (head_at next k) k) (on.others j (apart j i a)) ∙ ap (λ (o : Option Version). is_sooner (head_at heads j) j o k) (on.others k (apart k i b)) ∙ e

  all_before : (k : ℕ) (places : List ℕ) → not (eqb k i) ≡ true → AllByRecursion (λ j. not (eqb j i) ≡ true) places → AllByRecursion (λ j. comes_before heads j k ≡ true) places → AllByRecursion (λ j. comes_before next j k ≡ true) places
  all_before k [] b a h = tt
  all_before k (j ∷ rest) b a h = (same_before j k a.0 b h.0, all_before k rest b a.1 h.1)

  still_queued : (places : List ℕ) → AllByRecursion (λ j. not (eqb j i) ≡ true) places → IsQueued heads places → IsQueued next places
  still_queued [] a h = tt
  still_queued (k ∷ rest) a h = (all_before k rest a.0 a.1 h.0, still_queued rest a.1 h.1)

  still_some : (places : List ℕ) → AllByRecursion (λ j. not (eqb j i) ≡ true) places → AllByRecursion (λ j. is_some (head_at heads j) ≡ true) places → AllByRecursion (λ j. is_some (head_at next j) ≡ true) places
  still_some [] a h = tt
  still_some (k ∷ rest) a h = (ap is_some (on.others k (apart k i a.0)) ∙ h.0, still_some rest a.1 h.1)

  pub others_stay : (places : List ℕ) → IsQueue heads (λ j. not (eqb j i)) places → IsQueue next (λ j. not (eqb j i)) places
  others_stay places q = record {
    order = still_queued places q.chosen q.order;
    some = still_some places q.chosen q.some;
    chosen = q.chosen;
    has = λ j v e found. q.has j v e (sym (on.others j (apart j i e)) ∙ found);
  }

-- so it is where a cursor of many is replaced
pub cursor_goes_on : (cursors : List Cursor) (i : ℕ) (c : Cursor) → OneGoesOn i (map present cursors) (map present (set cursors i c))
cursor_goes_on cursors i c = record { others = λ j other. by cursors i j other }
  where
    by : (cs : List Cursor) (i j : ℕ) → j ≢ i → head_at (map present (set cs i c)) j ≡ head_at (map present cs) j
    by [] i j other = refl
    by (d ∷ cs) zero zero other = absurd (other refl)
    by (d ∷ cs) zero (suc j) other = refl
    by (d ∷ cs) (suc i) zero other = refl
    by (d ∷ cs) (suc i) (suc j) other = by cs i j (λ e. other (ap suc e))

same_chosen : (heads : List (Option Version)) (a b : ℕ → Bool) (places : List ℕ) → ((j : ℕ) → a j ≡ b j) → IsQueue heads a places → IsQueue heads b places
same_chosen heads a b places same q = record {
  order = q.order;
  some = q.some;
  chosen = all_map (λ j e. sym (same j) ∙ e) places q.chosen;
  has = λ j v e found. q.has j v (same j ∙ e) found;
}

-- ---- the last one in its place

pub last_turned : (at : ℕ) (others : List ℕ) (i : ℕ) → at ≤ length others
    → take at (others ++ i ∷ []) ++ (drop (length (drop at (others ++ i ∷ [])) - 1) (drop at (others ++ i ∷ [])) ++ take (length (drop at (others ++ i ∷ [])) - 1) (drop at (others ++ i ∷ []))) ≡ insert others at i
last_turned zero others i le =
    let n : length (others ++ i ∷ []) - 1 ≡ length others = omega (arith, length-append others (i ∷ [])) in
    ap (λ (k : ℕ). drop k (others ++ i ∷ []) ++ take k (others ++ i ∷ [])) n ∙ ap (λ (xs : List ℕ). xs ++ take (length others) (others ++ i ∷ [])) (drop-append_seam others (i ∷ [])) ∙ ap (λ (xs : List ℕ). i ∷ xs) (take-append_seam others (i ∷ []))
last_turned (suc at) [] i le = absurd (omega (arith, le))
last_turned (suc at) (j ∷ others) i le = ap (λ (xs : List ℕ). j ∷ xs) (last_turned at others i (omega (arith, le)))

module _ (heads : List (Option Version)) (is_in : ℕ → Bool) (i : ℕ) (chosen : is_in i ≡ true) where
  abbrev others_in : ℕ → Bool
  others_in j = is_in j && not (eqb j i)

  not_itself : others_in i ≡ false
  not_itself = by (is_in i) (eqb i i) (eq-eqb i i refl)
    where
      by : (a b : Bool) → b ≡ true → (a && not b) ≡ false
      by false b e = refl
      by true false e = absurd (no (sym e))
      by true true e = refl

  with_itself : (j : ℕ) → (others_in j || eqb j i) ≡ is_in j
  with_itself j = by (is_in j) (eqb j i) refl refl
    where
      by : (a b : Bool) → is_in j ≡ a → eqb j i ≡ b → ((a && not b) || b) ≡ a
      by false false e f = refl
      by false true e f = absurd (no (sym chosen ∙ ap is_in (sym (eqb-true j i f)) ∙ e))
      by true false e f = refl
      by true true e f = refl

  -- among the others
  pub settled_in : (v : Version) (n : ℕ) (others new : List ℕ) → head_at heads i ≡ Some v
      → take n others ≡ filter (λ j. is_sooner (Some v) i (head_at heads j) j) others → drop n others ≡ filter (λ j. not (is_sooner (Some v) i (head_at heads j) j)) others
      → new ≡ insert others n i → IsQueue heads others_in others → IsQueue heads is_in new
  settled_in v n others new here later sooner is q =
      same_chosen heads (λ j. others_in j || eqb j i) is_in new with_itself (put_in_queue heads v i others_in here not_itself n others new later sooner is q)

  -- or without it, where it has no version left
  pub settled_out : (others : List ℕ) → head_at heads i ≡ None → IsQueue heads others_in others → IsQueue heads is_in others
  settled_out others none q = record {
    order = q.order;
    some = q.some;
    chosen = all_map (λ j e. by j (is_in j) refl e) others q.chosen;
    has = λ j v e found. q.has j v (apart j v e found (eqb j i) refl) found;
  }
    where
      by : (j : ℕ) (a : Bool) → is_in j ≡ a → (a && not (eqb j i)) ≡ true → is_in j ≡ true
      by j true e h = e
      by j false e h = absurd (no (sym h))

      apart : (j : ℕ) (v : Version) → is_in j ≡ true → head_at heads j ≡ Some v → (b : Bool) → eqb j i ≡ b → others_in j ≡ true
      apart j v e found false f = ap (λ (a : Bool). a && not (eqb j i)) e ∙ ap not f
      apart j v e found true f = absurd (let clash : None ≡ Some v = sym none ∙ ap (head_at heads) (sym (eqb-true j i f)) ∙ found in cc)

-- what settling the last of some places makes of them
abbrev pub Settles : List (Option Version) → List ℕ → List ℕ → Type 0
Settles heads old new = (is_in : ℕ → Bool) (others : List ℕ) (i : ℕ) → old ≡ others ++ i ∷ [] → is_in i ≡ true → IsQueue heads (λ j. is_in j && not (eqb j i)) others → IsQueue heads is_in new

module _ (heads : List (Option Version)) (old front new : List ℕ) (k : ℕ) (last : old ≡ front ++ k ∷ []) where
  among_front : (is_in : ℕ → Bool) (others : List ℕ) (i : ℕ) → old ≡ others ++ i ∷ [] → is_in i ≡ true → IsQueue heads (λ j. is_in j && not (eqb j i)) others → (is_in k ≡ true) × IsQueue heads (λ j. is_in j && not (eqb j k)) front
  among_front is_in others i is chosen q =
      let e = same_from_push others front i k (sym is ∙ last) in
      (subst (λ (m : ℕ). is_in m ≡ true) e.1 chosen, subst (IsQueue heads (λ j. is_in j && not (eqb j k))) e.0 (subst (λ (m : ℕ). IsQueue heads (λ j. is_in j && not (eqb j m)) others) e.1 q))

  pub settles_in : (v : Version) (n : ℕ) → Some v ≡ head_at heads k
      → (IsQueued heads front → take n front ≡ filter (λ j. is_sooner (Some v) k (head_at heads j) j) front) → (IsQueued heads front → drop n front ≡ filter (λ j. not (is_sooner (Some v) k (head_at heads j) j)) front)
      → ((others : List ℕ) (i : ℕ) → old ≡ others ++ i ∷ [] → new ≡ insert others n i) → Settles heads old new
  settles_in v n here later sooner turned is_in others i is chosen q =
      let of = among_front is_in others i is chosen q in
      settled_in heads is_in k of.0 v n front new (sym here) (later of.1.order) (sooner of.1.order) (turned front k last) of.1

  pub settles_out : (n : ℕ) → None ≡ head_at heads k → n ≡ length old → new ≡ take (n - 1) old → Settles heads old new
  settles_out n none len rest is_in others i is chosen q =
      let of = among_front is_in others i is chosen q in
      let fewer : n - 1 ≡ length front = omega (arith, len, ap length last, length-append front (k ∷ [])) in
      let same : new ≡ front = rest ∙ ap (λ (m : ℕ). take m old) fewer ∙ ap (take (length front)) last ∙ take-append_seam front (k ∷ []) in
      subst (IsQueue heads is_in) (sym same) (settled_out heads is_in k of.0 front (sym none) of.1)

-- a whole slice of a vector
pub whole_slice : (n : ℕ) (new old : List ℕ) → n ≡ length old → length new ≡ length old → take n (new ++ drop (length new) old) ≡ new
whole_slice n new old len same = ap (λ (m : ℕ). take m (new ++ drop (length new) old)) (len ∙ sym same) ∙ take-append_seam new (drop (length new) old)

-- the last goes on, and is settled again
pub settled_again : (heads next : List (Option Version)) (i : ℕ) (old new : List ℕ)
    → Settles next old new → EndsIn i old → IsQueue heads (λ j. true) old → OneGoesOn i heads next → IsQueue next (λ j. true) new
settled_again heads next i old new settles e q on =
    settles (λ j. true) e.others i e.is refl (others_stay heads next i on e.others (without_last heads e.others i (subst (IsQueue heads (λ j. true)) e.is q)))

-- ---- all, one after the other

none_below : (j : ℕ) → ltb j 0 ≡ true → ⊥
none_below j e = absurd (omega (arith, ltb-true j 0 e))

pub none_queued : (heads : List (Option Version)) → IsQueue heads (λ j. ltb j 0) []
none_queued heads = record { order = tt; some = tt; chosen = tt; has = λ j v e found. none_below j e }

next_chosen : (n j : ℕ) → ltb j n ≡ (ltb j (n + 1) && not (eqb j n))
next_chosen n j = by (ltb j n) (ltb j (n + 1)) (eqb j n) refl refl refl
  where
    not_last : ltb j n ≡ true → j ≡ n → ⊥
    not_last e same = absurd (omega (arith, ltb-true j n e, same))

    below : ltb j n ≡ true → ltb j (n + 1) ≡ true
    below e = lt-ltb j (n + 1) (omega (arith, ltb-true j n e))

    last : ltb j n ≡ false → ltb j (n + 1) ≡ true → j ≡ n
    last e f = omega (arith, ltb-true j (n + 1) f, not_less j n e)

    by : (a b c : Bool) → ltb j n ≡ a → ltb j (n + 1) ≡ b → eqb j n ≡ c → a ≡ (b && not c)
    by true true true e f g = absurd (not_last e (eqb-true j n g))
    by true true false e f g = refl
    by true false c e f g = absurd (no (sym (below e) ∙ f))
    by false true true e f g = refl
    by false true false e f g = absurd (eqb-false j n g (last e f))
    by false false c e f g = refl

pub one_more : (heads : List (Option Version)) (n : ℕ) (old new : List ℕ)
    → Settles heads (old ++ n ∷ []) new → IsQueue heads (λ j. ltb j n) old → IsQueue heads (λ j. ltb j (n + 1)) new
one_more heads n old new settles q =
    settles (λ j. ltb j (n + 1)) old n refl (lt-ltb n (n + 1) (omega arith)) (same_chosen heads (λ j. ltb j n) (λ j. ltb j (n + 1) && not (eqb j n)) old (next_chosen n) q)

inside : (heads : List (Option Version)) (j : ℕ) (v : Version) → head_at heads j ≡ Some v → j < length heads
inside [] j v e = absurd (let clash : None ≡ Some v = e in cc)
inside (h ∷ rest) zero v e = omega arith
inside (h ∷ rest) (suc j) v e = omega (arith, inside rest j v e)

pub all_queued : (heads : List (Option Version)) (n : ℕ) (places : List ℕ) → length heads ≤ n → IsQueue heads (λ j. ltb j n) places → IsQueue heads (λ j. true) places
all_queued heads n places le q = record {
  order = q.order;
  some = q.some;
  chosen = all_map (λ j e. refl) places q.chosen;
  has = λ j v e found. q.has j v (lt-ltb j n (omega (arith, le, inside heads j v found))) found;
}
