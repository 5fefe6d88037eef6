-- Each step keeps the rule of the words.
use Rattle.std.proofs.Common.{◌≡◌, ◌≢◌, ℕ, zero, suc, ◌+◌, ◌*◌, ◌<◌, ◌≤◌, List, [], ◌∷◌, ◌++◌, length, set, Option, Some, None, refl, ap, sym, ◌∙◌, subst, ⊎_elim, arith, length-append, length-set, eqb, eq-eqb, get_or-set_other, get_or-set_same, replicate, zero-le}
use Rattle.std.specs.Prelude.{slice_index}
use mathlib.Core.List.{IsPrefix}
use mathlib.Core.Option.{some, none, some-ne-none, some-injective}
use lib.ListN.{get_elem?, length-replicate}
use lib.Seq.{set-get_or}
use prog.Atomic.{either}
use Rattle.atomic_table.specs.Table.{State, step, keeps, stepped, opening, Allows, Splits, Joins}
use Rattle.atomic_table.proofs.Lists.{at_set, set_again}
use Rattle.lsm_machine.specs.RecoveryPoints.{batch_count}
use Rattle.lsm_trail.specs.Begins.{Begin, CanPin}
use Rattle.lsm_trail.specs.History.{Event, IsLegal, entries_by, numbers}
use Rattle.lsm_trail.specs.Knowledge.{Keeper, Known, Sees, View, known, keeping, view_of, nobody, hearing, telling}
use Rattle.lsm_trail.specs.Rule.{StandsAt, Drafted, FitsKeeper, FitsClient, Fits, Kept, first_view}
use Rattle.lsm_trail.specs.Steps.{Puts, published, Publishes, Notes, Looks, Peeks, Compares, dealer, dealt_to}
use Rattle.lsm_trail.specs.declared.numbers.Numbers.{Numbers}
use Rattle.lsm_trail.proofs.Lists.{prefix_self, prefix_more, prefix_snoc, at_snoc_at, drafted_snoc, drafted_set, placed, placed_here, placed_else}
use Rattle.lsm_trail.proofs.Histories.{entries_by-mine, entries_by-other, legal_none}

abbrev St : Type 0
St = State Event View

-- a fact on each view, where one view is changed
views_set : (P : ℕ → View → Type 0) (views : List View) (id : ℕ) (w : View) → P id w → ((j : ℕ) (u : View) → j ≢ id → get_elem? views j ≡ some u → P j u) → (j : ℕ) (u : View) → get_elem? (set views id w) j ≡ some u → P j u
views_set P views id w mine others j u e = ⊎_elim
    (λ (x : (j ≡ id) × (w ≡ u)). subst (λ (y : ℕ × View). P y.0 y.1) (λ i. (sym x.0 i, x.1 i)) mine)
    (λ (x : (j ≢ id) × (get_elem? views j ≡ some u)). others j u x.0 x.1)
    (at_set views id j w u e)

-- where one comes
views_snoc : (P : ℕ → View → Type 0) (views : List View) (w : View) → P (length views) w → ((j : ℕ) (u : View) → get_elem? views j ≡ some u → P j u) → (j : ℕ) (u : View) → get_elem? (views ++ w ∷ []) j ≡ some u → P j u
views_snoc P views w mine others j u e = ⊎_elim
    (λ (x : (j < length views) × (get_elem? views j ≡ some u)). others j u x.1)
    (λ (x : (j ≡ length views) × (w ≡ u)). subst (λ (y : ℕ × View). P y.0 y.1) (λ i. (sym x.0 i, x.1 i)) mine)
    (at_snoc_at views w u j e)

module _ (b : Begin) where
  -- a step that changes no word
  unmoved : (s : St) (r : Kept b s) (i id : ℕ) (cs : List (ℕ × Event)) (w : View) → Fits b r.log r.dealt r.writer r.seat s.words id w → Kept b (stepped s i (slice_index s.words i) id cs w keeps)
  unmoved s r i id cs w mine = subst (λ (ws : List ℕ). Kept b record { words = ws; homes = s.homes; views = set s.views id w }) (sym (set-get_or s.words i 0)) record {
    log = r.log;
    dealt = r.dealt;
    writer = r.writer;
    seat = r.seat;
    legal = r.legal;
    wide = r.wide;
    room = r.room;
    count = r.count;
    rows = r.rows;
    strangers = r.strangers;
    fits = views_set (Fits b r.log r.dealt r.writer r.seat s.words) s.views id w mine (λ j u _ e. r.fits j u e);
  }

  -- a row before the place that is written stays
  row_set : (words : List ℕ) (i x at : ℕ) (n : Numbers) → at + 2 < i → StandsAt words at n → StandsAt (set words i x) at n
  row_set words i x at n far row = (
    get_or-set_other words i at x 0 (λ e. omega arith) ∙ row.0,
    get_or-set_other words i (at + 1) x 0 (λ e. omega arith) ∙ row.1,
    get_or-set_other words i (at + 2) x 0 (λ e. omega arith) ∙ row.2,
  )

  row_count : (words : List ℕ) (x at : ℕ) (n : Numbers) → 0 < at → StandsAt words at n → StandsAt (set words 0 x) at n
  row_count words x at n far row = (
    get_or-set_other words 0 at x 0 (λ e. omega arith) ∙ row.0,
    get_or-set_other words 0 (at + 1) x 0 (λ e. omega arith) ∙ row.1,
    get_or-set_other words 0 (at + 2) x 0 (λ e. omega arith) ∙ row.2,
  )

  prefix_length : {A : Type 0} (xs ys : List A) → IsPrefix xs ys → length xs ≤ length ys
  prefix_length xs ys p = omega (arith, sym (ap length p.1) ∙ length-append xs p.0)

  -- only the writer's view tells of words
  others_keeper : (log log' : List Event) (dealt dealt' writer : ℕ) (words words' : List ℕ) (j : ℕ) (k : Option Keeper) → j ≢ writer → FitsKeeper b log dealt writer words j k → FitsKeeper b log' dealt' writer words' j k
  others_keeper log log' dealt dealt' writer words words' j None apart f = tt
  others_keeper log log' dealt dealt' writer words words' j (Some k) apart f = absurd (apart f.1)

  pub puts : (slots id : ℕ) (k : Keeper) (c : Option Known) (i new : ℕ) → i ≡ 3 * length k.log + 4 + length k.draft → i < 3 * b.limit + 4
      → Allows (Kept b) slots id (view_of (Some k) c, []) i (λ _. new) (λ _. Puts (step slots i new 0 none) (view_of (Some k) c, []) new)
  puts slots id k c i new there inside s r _ at _ =
      let f = r.fits id (view_of (Some k) c) at in
      let same : k.log ≡ r.log = f.0.2 in
      let far : length k.log ≡ length r.log = ap length same in
      let w = view_of (Some (keeping k.begin k.dealt k.log (k.draft ++ new ∷ []))) c in
      let words' = set s.words i new in
      let place : 3 * length r.log + 4 + length k.draft ≡ i = omega arith in
      let here : slice_index words' i ≡ new = get_or-set_same s.words i new 0 (omega (arith, r.wide)) in
      let drafted : Drafted words' (3 * length r.log + 4) (k.draft ++ new ∷ []) = drafted_snoc words' (3 * length r.log + 4) k.draft new (drafted_set s.words (3 * length r.log + 4) k.draft i new (omega arith) f.0.4)
      (ap (λ (z : ℕ). slice_index words' z) place ∙ here) in (
        w,
        keeps,
        tt,
        record {
          log = r.log;
          dealt = r.dealt;
          writer = r.writer;
          seat = r.seat;
          legal = r.legal;
          wide = length-set s.words i new ∙ r.wide;
          room = r.room;
          count = get_or-set_other s.words i 0 new 0 (λ e. omega arith) ∙ r.count;
          rows = λ seen p. row_set s.words i new (3 * length seen + 1) (numbers b seen) (let l = prefix_length seen r.log p in omega arith) (r.rows seen p);
          strangers = r.strangers;
          fits = views_set (Fits b r.log r.dealt r.writer r.seat words') s.views id w ((f.0.0, f.0.1, f.0.2, f.0.3, drafted), f.1, f.2)
              (λ j u apart e. let g = r.fits j u e in (others_keeper r.log r.log r.dealt r.dealt r.writer s.words words' j u.keeper (λ is. apart (is ∙ sym f.0.1)) g.0, g.1, g.2));
        },
        (refl, refl),
      )

  -- what stands of another client's part, after an entry of this one
  others_client : (log : List Event) (e : Event) (dealt : ℕ) (seat : ℕ → ℕ) (id j : ℕ) (c : Option Known) → seat e.client ≡ id → j ≢ id → FitsClient b log dealt seat j c → FitsClient b (log ++ e ∷ []) dealt seat j c
  others_client log e dealt seat id j None is apart f = tt
  others_client log e dealt seat id j (Some c) is apart f =
      let other : e.client ≢ c.number = λ same. apart (sym f.1 ∙ ap seat (sym same) ∙ is) in
      (f.0, f.1, f.2, prefix_more c.seen log e f.3, entries_by-other c.number log e other ∙ f.4)

  -- the row of the history with one entry more, from the draft
  new_row : (words : List ℕ) (log : List Event) (e : Event) (n : Numbers) → Drafted words (3 * length log + 4) (n.calls ∷ n.batches ∷ n.synced ∷ []) → StandsAt words (3 * length (log ++ e ∷ []) + 1) n
  new_row words log e n d =
      let at : 3 * length (log ++ e ∷ []) + 1 ≡ 3 * length log + 4 = omega (arith, length-append log (e ∷ [])) in
      let k = 3 * length log + 4 in
      let two : (k + 1) + 1 ≡ k + 2 = omega arith in
      subst (λ (z : ℕ). StandsAt words z n) (sym at) (d.0, d.1.0, subst (λ (z : ℕ). slice_index words z ≡ n.synced) two d.1.1.0)

  publishes_on : (s : St) (r : Kept b s) (id : ℕ) (k : Keeper) (c : Known) (e : Event) → get_elem? s.views id ≡ some (view_of (Some k) (Some c)) → e.client ≡ c.number → length k.log < b.limit → IsLegal b (k.log ++ e ∷ [])
      → k.draft ≡ (numbers b (k.log ++ e ∷ [])).calls ∷ (numbers b (k.log ++ e ∷ [])).batches ∷ (numbers b (k.log ++ e ∷ [])).synced ∷ []
      → Kept b (stepped s 0 (length k.log + 1) id [] (published k c e) keeps)
  publishes_on s r id k c e at by room legal draft =
      let f = r.fits id (view_of (Some k) (Some c)) at in
      let same : k.log ≡ r.log = f.0.2 in
      let log' = r.log ++ e ∷ [] in
      let now : k.log ++ e ∷ [] ≡ log' = ap (λ l. l ++ e ∷ []) same in
      let words' = set s.words 0 (length k.log + 1) in
      let is : r.seat e.client ≡ id = ap r.seat by ∙ f.1.1 in
      let wide = r.wide in
      let n = numbers b (r.log ++ e ∷ []) in
      let drafted : Drafted s.words (3 * length r.log + 4) (n.calls ∷ n.batches ∷ n.synced ∷ []) =
      subst (λ (l : List Event). Drafted s.words (3 * length r.log + 4) ((numbers b l).calls ∷ (numbers b l).batches ∷ (numbers b l).synced ∷ [])) now
      (subst (λ (ds : List ℕ). Drafted s.words (3 * length r.log + 4) ds) draft f.0.4) in
      record {
        log = log';
        dealt = r.dealt;
        writer = r.writer;
        seat = r.seat;
        legal = subst (IsLegal b) now legal;
        wide = length-set s.words 0 (length k.log + 1) ∙ r.wide;
        room = omega (arith, room, ap length same, length-append r.log (e ∷ []));
        count = get_or-set_same s.words 0 (length k.log + 1) 0 (omega arith) ∙ omega (arith, ap length same, length-append r.log (e ∷ []));
        rows = λ seen p. ⊎_elim
            (λ (q : IsPrefix seen r.log). row_count s.words (length k.log + 1) (3 * length seen + 1) (numbers b seen) (omega arith) (r.rows seen q))
            (λ (q : seen ≡ log'). subst (λ (l : List Event). StandsAt words' (3 * length l + 1) (numbers b l)) (sym q)
            (row_count s.words (length k.log + 1) (3 * length log' + 1) (numbers b log') (omega arith) (new_row s.words r.log e n drafted)))
            (prefix_snoc seen r.log e p);
        strangers = λ x far. entries_by-other x r.log e (λ same. let l : c.number < r.dealt = f.1.2 in omega (arith, by, same)) ∙ r.strangers x far;
        fits = views_set (Fits b log' r.dealt r.writer r.seat words') s.views id (published k c e) (
          (f.0.0, f.0.1, now, f.0.3, tt),
          (f.1.0, f.1.1, f.1.2, subst (λ (l : List Event). IsPrefix l log') (sym now) (prefix_self log'), entries_by-mine c.number r.log e by ∙ ap (λ l. l ++ e ∷ []) f.1.4),
          (log', refl),
        )
            (λ j u apart e'. let g = r.fits j u e' in (others_keeper r.log log' r.dealt r.dealt r.writer s.words words' j u.keeper (λ x. apart (x ∙ sym f.0.1)) g.0, others_client r.log e r.dealt r.seat id j u.client is apart g.1, prefix_more u.told r.log e g.2));
      }

  pub publishes : (slots id : ℕ) (k : Keeper) (c : Known) (e : Event) (old : ℕ) → old ≡ length k.log → e.client ≡ c.number → length k.log < b.limit → IsLegal b (k.log ++ e ∷ [])
      → k.draft ≡ (numbers b (k.log ++ e ∷ [])).calls ∷ (numbers b (k.log ++ e ∷ [])).batches ∷ (numbers b (k.log ++ e ∷ [])).synced ∷ []
      → Allows (Kept b) slots id (view_of (Some k) (Some c), []) 0 (λ n. either (eqb n old) (old + 1) n) (Publishes (step slots 0 old (old + 1) (some e)) (view_of (Some k) (Some c), []))
  publishes slots id k c e old is by room legal draft s r _ at _ =
      let f = r.fits id (view_of (Some k) (Some c)) at in
      let same : k.log ≡ r.log = f.0.2 in
      let w = published k c e in
      let hit : slice_index s.words 0 ≡ old = omega (arith, r.count, ap length same) in
      let next : length k.log + 1 ≡ old + 1 = omega arith in (
        w,
        keeps,
        tt,
        subst (λ t. Kept b (stepped s 0 (either t (old + 1) (slice_index s.words 0)) id [] w keeps)) (sym (eq-eqb (slice_index s.words 0) old hit))
            (subst (λ (x : ℕ). Kept b (stepped s 0 x id [] w keeps)) next (publishes_on s r id k c e at by room legal draft)),
        (refl, (refl, subst (IsPrefix c.seen) (sym same) f.1.3, ap (entries_by c.number) same ∙ f.1.4)),
      )

  pub notes : (slots id : ℕ) (k : Keeper) (c : Known) → Allows (Kept b) slots id (view_of (Some k) (Some c), []) 0 (λ n. n) (Notes (step slots 0 0 0 none) (view_of (Some k) (Some c), []))
  notes slots id k c s r _ at _ =
      let f = r.fits id (view_of (Some k) (Some c)) at in
      let same : k.log ≡ r.log = f.0.2 in
      let w = view_of (Some k) (Some (known c.begin c.number k.log c.mine)) in (
        w,
        keeps,
        tt,
        unmoved s r 0 id [] w (f.0, (f.1.0, f.1.1, f.1.2, subst (λ (l : List Event). IsPrefix l r.log) (sym same) (prefix_self r.log), f.1.4), (r.log, refl)),
        (refl, (refl, subst (IsPrefix c.seen) (sym same) f.1.3, ap (entries_by c.number) same ∙ f.1.4)),
      )

  pub looks : (slots id : ℕ) (told : List Event) (c : Known) → Allows (Kept b) slots id (hearing told c, []) 0 (λ n. n) (Looks (step slots 0 0 0 none) (hearing told c, []))
  looks slots id told c s r _ at _ =
      let knew = r.fits id (hearing told c) at in
      let f = knew.1 in
      let d = known c.begin c.number r.log c.mine in
      let sees : Sees c d = record {
        begin = refl;
        number = refl;
        seen = f.3;
        mine = refl;
        legal = subst (λ (x : Begin). IsLegal x r.log) (sym f.0) r.legal;
        own = f.4;
        room = subst (λ (x : Begin). length r.log ≤ x.limit) (sym f.0) r.room;
      } in (
        view_of None (Some d),
        keeps,
        tt,
        unmoved s r 0 id [] (view_of None (Some d)) (tt, (f.0, f.1, f.2, prefix_self r.log, f.4), (r.log, refl)),
        (refl, refl, refl, (sees, knew.2, sym r.count)),
      )

  pub peeks : (slots id : ℕ) (c : Known) (word : ℕ) → Allows (Kept b) slots id (view_of None (Some c), []) word (λ n. n) (Peeks (step slots word 0 0 none) (view_of None (Some c), []))
  peeks slots id c word s r _ at _ =
      let f = r.fits id (view_of None (Some c)) at in
      let row : StandsAt s.words (3 * length c.seen + 1) (numbers c.begin c.seen) = subst (λ (x : Begin). StandsAt s.words (3 * length c.seen + 1) (numbers x c.seen)) (sym f.1.0) (r.rows c.seen f.1.3) in
      let k = 3 * length c.seen in (
        view_of None (Some c),
        keeps,
        tt,
        unmoved s r word id [] (view_of None (Some c)) f,
        (
          refl,
          record {
            calls = λ e. ap (λ (i : ℕ). slice_index s.words i) e ∙ row.0;
            batches = λ e. let there : word ≡ (k + 1) + 1 = omega arith in ap (λ (i : ℕ). slice_index s.words i) there ∙ row.1;
            synced = λ e. let there : word ≡ (k + 1) + 2 = omega arith in ap (λ (i : ℕ). slice_index s.words i) there ∙ row.2;
          },
        ),
      )

  pub compares : (slots id : ℕ) (k : Keeper) (c : Known) → Allows (Kept b) slots id (view_of (Some k) (Some c), []) 0 (λ n. n) (Compares (step slots 0 0 0 none) (view_of (Some k) (Some c), []))
  compares slots id k c s r _ at _ =
      let f = r.fits id (view_of (Some k) (Some c)) at in
      let w = view_of (Some k) None in
      let same : k.log ≡ r.log = f.0.2 in (
        w,
        keeps,
        tt,
        unmoved s r 0 id [] w (f.0, tt, (r.log, refl)),
        (
          refl,
          (
            refl,
            subst (IsPrefix c.seen) (sym same) f.1.3,
            ap (entries_by c.number) same ∙ f.1.4,
            λ x far. ap (entries_by x) same ∙ r.strangers x (let d = f.0.3 in omega arith),
          ),
        ),
      )

  pub blanks : (id : ℕ) (v : View) → Splits (Kept b) id v v nobody
  blanks id v s r at = record {
    log = r.log;
    dealt = r.dealt;
    writer = r.writer;
    seat = r.seat;
    legal = r.legal;
    wide = r.wide;
    room = r.room;
    count = r.count;
    rows = r.rows;
    strangers = r.strangers;
    fits = views_snoc (Fits b r.log r.dealt r.writer r.seat s.words) (set s.views id v) nobody (tt, tt, (r.log, refl))
        (λ j u e. r.fits j u (subst (λ l. get_elem? l j ≡ some u) (set_again s.views id v at) e));
  }

  -- a new pass tells what a client has seen
  pub tells : (id : ℕ) (c : Known) → Splits (Kept b) id (view_of None (Some c)) (view_of None (Some c)) (telling c.seen)
  tells id c s r at =
      let v = view_of None (Some c) in
      let f = r.fits id v at in record {
        log = r.log;
        dealt = r.dealt;
        writer = r.writer;
        seat = r.seat;
        legal = r.legal;
        wide = r.wide;
        room = r.room;
        count = r.count;
        rows = r.rows;
        strangers = r.strangers;
        fits = views_snoc (Fits b r.log r.dealt r.writer r.seat s.words) (set s.views id v) (telling c.seen) (tt, tt, f.1.3)
            (λ j u e. r.fits j u (subst (λ l. get_elem? l j ≡ some u) (set_again s.views id v at) e));
      }

  -- a client is told what that pass tells
  pub hears : (id : ℕ) (c : Known) (other : ℕ) (told : List Event) → Joins (Kept b) id (view_of None (Some c)) other (telling told) (hearing told c) nobody
  hears id c other told s r at apart there =
      let f = r.fits id (view_of None (Some c)) at in
      let both = hearing told c in
      let was : get_elem? s.views other ≡ some (telling told) =
      ⊎_elim (λ (t : (other ≡ id) × (both ≡ telling told)). absurd (apart t.0)) (λ (t : (other ≢ id) × (get_elem? s.views other ≡ some (telling told))). t.1) (at_set s.views id other both (telling told) there) in
      let g = (r.fits other (telling told) was).2 in record {
        log = r.log;
        dealt = r.dealt;
        writer = r.writer;
        seat = r.seat;
        legal = r.legal;
        wide = r.wide;
        room = r.room;
        count = r.count;
        rows = r.rows;
        strangers = r.strangers;
        fits = views_set (Fits b r.log r.dealt r.writer r.seat s.words) (set s.views id both) other nobody (tt, tt, (r.log, refl))
            (λ j u far e. views_set (Fits b r.log r.dealt r.writer r.seat s.words) s.views id both (tt, f.1, g) (λ j' u' _ e'. r.fits j' u' e') j u e);
      }

  -- what stands of a client's part, where another's goes to another place
  moved_client : (log : List Event) (dealt dealt' : ℕ) (seat : ℕ → ℕ) (number from to j : ℕ) (c : Option Known) → dealt ≤ dealt' → (j ≡ seat number → ⊥) → FitsClient b log dealt seat j c → FitsClient b log dealt' (placed seat number to) j c
  moved_client log dealt dealt' seat number from to j None more apart f = tt
  moved_client log dealt dealt' seat number from to j (Some c) more apart f =
      let other : c.number ≢ number = λ same. apart (sym f.1 ∙ ap seat same) in
      let below = f.2 in
      (f.0, placed_else seat number to c.number other ∙ f.1, omega arith, f.3, f.4)

  -- the lock's pass takes in a client's part
  pub lends : (id : ℕ) (k : Keeper) (other : ℕ) (c : Known) → Joins (Kept b) id (view_of (Some k) None) other (view_of None (Some c)) (view_of (Some k) (Some c)) nobody
  lends id k other c s r at apart there =
      let f = r.fits id (view_of (Some k) None) at in
      let both = view_of (Some k) (Some c) in
      let was : get_elem? s.views other ≡ some (view_of None (Some c)) =
      ⊎_elim (λ (t : (other ≡ id) × (both ≡ view_of None (Some c))). absurd (apart t.0)) (λ (t : (other ≢ id) × (get_elem? s.views other ≡ some (view_of None (Some c)))). t.1) (at_set s.views id other both (view_of None (Some c)) there) in
      let g = (r.fits other (view_of None (Some c)) was).1 in
      let seat' = placed r.seat c.number id in
      record {
        log = r.log;
        dealt = r.dealt;
        writer = r.writer;
        seat = seat';
        legal = r.legal;
        wide = r.wide;
        room = r.room;
        count = r.count;
        rows = r.rows;
        strangers = r.strangers;
        fits = views_set (Fits b r.log r.dealt r.writer seat' s.words) (set s.views id both) other nobody (tt, tt, (r.log, refl))
            (λ j u far e. ⊎_elim
            (λ (t : (j ≡ id) × (both ≡ u)). subst (λ (y : ℕ × View). Fits b r.log r.dealt r.writer seat' s.words y.0 y.1) (λ i. (sym t.0 i, t.1 i)) (f.0, (g.0, placed_here r.seat c.number id c.number refl, g.2, g.3, g.4), (r.log, refl)))
            (λ (t : (j ≢ id) × (get_elem? s.views j ≡ some u)). let h = r.fits j u t.1 in (h.0, moved_client r.log r.dealt r.dealt r.seat c.number other id j u.client (omega arith) (λ is. far (is ∙ g.1)) h.1, h.2))
            (at_set s.views id j both u e));
      }

  -- and gives it back, to a new pass
  pub gives_back : (id : ℕ) (k : Keeper) (c : Known) → Splits (Kept b) id (view_of (Some k) (Some c)) (view_of (Some k) None) (view_of None (Some c))
  gives_back id k c s r at =
      let f = r.fits id (view_of (Some k) (Some c)) at in
      let left = view_of (Some k) None in
      let right = view_of None (Some c) in
      let views' = set s.views id left in
      let seat' = placed r.seat c.number (length views') in
      record {
        log = r.log;
        dealt = r.dealt;
        writer = r.writer;
        seat = seat';
        legal = r.legal;
        wide = r.wide;
        room = r.room;
        count = r.count;
        rows = r.rows;
        strangers = r.strangers;
        fits = views_snoc (Fits b r.log r.dealt r.writer seat' s.words) views' right (tt, (f.1.0, placed_here r.seat c.number (length views') c.number refl, f.1.2, f.1.3, f.1.4), (r.log, refl))
            (views_set (Fits b r.log r.dealt r.writer seat' s.words) s.views id left (f.0, tt, (r.log, refl))
            (λ j u far e. let h = r.fits j u e in (h.0, moved_client r.log r.dealt r.dealt r.seat c.number id (length views') j u.client (omega arith) (λ is. far (is ∙ f.1.1)) h.1, h.2)));
      }

  -- what stands of the other clients' parts, where there is a new client
  more_clients : (log : List Event) (dealt : ℕ) (seat : ℕ → ℕ) (to j : ℕ) (c : Option Known) → FitsClient b log dealt seat j c → FitsClient b log (dealt + 1) (placed seat dealt to) j c
  more_clients log dealt seat to j None f = tt
  more_clients log dealt seat to j (Some c) f =
      let below = f.2 in
      let other : c.number ≢ dealt = λ same. omega arith in
      (f.0, placed_else seat dealt to c.number other ∙ f.1, omega arith, f.3, f.4)

  pub deals : (id : ℕ) (k : Keeper) → Splits (Kept b) id (view_of (Some k) None) (dealer (view_of (Some k) None)) (dealt_to (view_of (Some k) None))
  deals id k s r at =
      let f = r.fits id (view_of (Some k) None) at in
      let left = dealer (view_of (Some k) None) in
      let right = dealt_to (view_of (Some k) None) in
      let views' = set s.views id left in
      let seat' = placed r.seat r.dealt (length views') in
      let is : k.dealt ≡ r.dealt = f.0.3 in
      record {
        log = r.log;
        dealt = r.dealt + 1;
        writer = r.writer;
        seat = seat';
        legal = r.legal;
        wide = r.wide;
        room = r.room;
        count = r.count;
        rows = r.rows;
        strangers = λ x far. r.strangers x (omega arith);
        fits = views_snoc (Fits b r.log (r.dealt + 1) r.writer seat' s.words) views' right
            (tt, (f.0.0, placed_here r.seat r.dealt (length views') k.dealt is, omega arith, (r.log, refl), r.strangers k.dealt (omega arith)), (r.log, refl))
            (views_set (Fits b r.log (r.dealt + 1) r.writer seat' s.words) s.views id left ((f.0.0, f.0.1, f.0.2, ap (λ (n : ℕ). n + 1) is, f.0.4), tt, (r.log, refl))
            (λ j u far e. let h = r.fits j u e in (others_keeper r.log r.log r.dealt (r.dealt + 1) r.writer s.words s.words j u.keeper (λ x. far (x ∙ sym f.0.1)) h.0, more_clients r.log r.dealt r.seat (length views') j u.client h.1, h.2)));
      }

  zeros : (n i : ℕ) → slice_index (replicate n 0) i ≡ 0
  zeros zero i = refl
  zeros (suc n) zero = refl
  zeros (suc n) (suc i) = zeros n i

  prefix_of_none : (xs : List Event) → IsPrefix xs [] → xs ≡ []
  prefix_of_none [] p = refl
  prefix_of_none (x ∷ xs) p = absurd (cc (p.1))

  -- the words of an empty history
  abbrev first_words : List ℕ
  first_words = set (set (replicate (3 * b.limit + 4) 0) 2 (batch_count b.store.state.points)) 3 b.store.state.points.synced

  length-first_words : length first_words ≡ 3 * b.limit + 4
  length-first_words = length-set (set (replicate (3 * b.limit + 4) 0) 2 (batch_count b.store.state.points)) 3 b.store.state.points.synced ∙ (length-set (replicate (3 * b.limit + 4) 0) 2 (batch_count b.store.state.points) ∙ length-replicate (3 * b.limit + 4) 0)

  first_row : StandsAt first_words 1 (numbers b [])
  first_row =
      let none = replicate (3 * b.limit + 4) 0 in
      let batches = batch_count b.store.state.points in
      let synced = b.store.state.points.synced in
      let one = set none 2 batches in (
        get_or-set_other one 3 1 synced 0 (λ e. omega arith) ∙ (get_or-set_other none 2 1 batches 0 (λ e. omega arith) ∙ zeros (3 * b.limit + 4) 1),
        get_or-set_other one 3 2 synced 0 (λ e. omega arith) ∙ get_or-set_same none 2 batches 0 (omega (arith, length-replicate {A = ℕ} (3 * b.limit + 4) 0)),
        get_or-set_same one 3 synced 0 (omega (arith, length-set none 2 batches, length-replicate {A = ℕ} (3 * b.limit + 4) 0)),
      )

  first_count : slice_index first_words 0 ≡ 0
  first_count =
      let none = replicate (3 * b.limit + 4) 0 in
      let batches = batch_count b.store.state.points in
      get_or-set_other (set none 2 batches) 3 0 b.store.state.points.synced 0 (λ e. omega arith) ∙ (get_or-set_other none 2 0 batches 0 (λ e. omega arith) ∙ zeros (3 * b.limit + 4) 0)

  one : (by : ℕ) (v : View) → get_elem? (first_view b ∷ []) by ≡ some v → Fits b [] 0 0 (λ c. c) first_words by v
  one zero v e = subst (Fits b [] 0 0 (λ c. c) first_words 0) (some-injective _ _ e) ((refl, refl, refl, refl, tt), tt, ([], refl))
  one (suc by) v e = absurd (some-ne-none v (sym e))

  pub begins : (words : List ℕ) → CanPin b → words ≡ first_words → Kept b (opening words [] (first_view b))
  begins words can is = subst (λ (ws : List ℕ). Kept b (opening ws [] (first_view b))) (sym is) record {
    log = [];
    dealt = 0;
    writer = 0;
    seat = λ c. c;
    legal = legal_none b can;
    wide = length-first_words;
    room = zero-le;
    count = first_count;
    rows = λ seen p. subst (λ (l : List Event). StandsAt first_words (3 * length l + 1) (numbers b l)) (sym (prefix_of_none seen p)) first_row;
    strangers = λ c _. refl;
    fits = one;
  }
