-- How sources come to a page.
use Rattle.std.proofs.Common.{◌≡◌, ◌⊎◌, inl, inr, ℕ, zero, suc, ◌+◌, ◌<◌, ◌≤◌, Bool, true, false, is_some, List, [], ◌∷◌, ◌++◌, length, map, set, drop, get_or, slice_get, Option, Some, None, refl, ap, sym, subst, ◌∙◌, arith}
use Rattle.std.specs.List.{AllByRecursion}
use Rattle.std.proofs.lemmas.Option.{same_Some, slice_get-get_or}
use Rattle.lsm_device.specs.declared.refusal.Refusal.{Refusal}
use Rattle.lsm_device.specs.declared.refusal.Refusal.TheVariants.{NoMemory, Io, BadTable}
use Rattle.lsm_codec.specs.Versions.{Version}
use Rattle.lsm_codec.specs.Entries.{entries_in}
use Rattle.lsm_cache.specs.declared.name.BlockName.{BlockName}
use Rattle.lsm_mem.specs.Paging.{Page}
use Rattle.lsm_mem.specs.Gathering.{Gathering, page_with}
use Rattle.lsm_mem.specs.Versions.{joined}
use Rattle.lsm_levels.specs.Asking.{Source}
use Rattle.lsm_table.specs.Items.{first_version}
use Rattle.lsm_levels.specs.Cursors.{Items, Cursor, GoesOn, Gives, present}
use Rattle.lsm_levels.specs.Queues.{AreSpent, OneGoesOn}
use Rattle.lsm_levels.specs.Sources.{IsNext, Splits, head_at, heads_of}
use Rattle.lsm_levels.specs.Scans.{Advances, AllGive, AreEndingWithin, AreReady, AsksOn, blocks_to_come, ComesTo, GivesLeft, HasCome, IsFairItem, Takes, steps_left, steps_of}
use Rattle.lsm_levels.proofs.CursorGives.{cursor_law}
use Rattle.lsm_levels.proofs.ScanAsking.{all_of_place, all_with, blocks_at_place, blocks_with, fair_dropped, fair_in, fair_refusal, goes_asking}
use Rattle.lsm_levels.proofs.QueueLaws.{cursor_goes_on}
use Rattle.lsm_levels.specs.declared.placed.PlacedBlock.{PlacedBlock}
use Rattle.lsm_levels.proofs.SourceLaws.{next_law}

no_some : {X : Type 0} (x : X) → None ≡ Some x → ⊥
no_some x e = cc

-- the cursor of a place that has a version left
pub cursor_at : (cursors : List Cursor) (i : ℕ) → is_some (head_at (map present cursors) i) ≡ true → (c : Cursor) × (slice_get cursors i ≡ Some c)
cursor_at [] i some = absurd (let clash : false ≡ true = some in cc)
cursor_at (c ∷ cursors) zero some = (c, refl)
cursor_at (c ∷ cursors) (suc i) some = cursor_at cursors i some

pub place_within : (cursors : List Cursor) (i : ℕ) → is_some (head_at (map present cursors) i) ≡ true → i < length cursors
place_within [] i some = absurd (let clash : false ≡ true = some in cc)
place_within (c ∷ cursors) zero some = omega arith
place_within (c ∷ cursors) (suc i) some = let more = place_within cursors i some in omega (arith, more)

pub head_of_cursor : (cursors : List Cursor) (i : ℕ) (c : Cursor) → slice_get cursors i ≡ Some c → head_at (map present cursors) i ≡ present c
head_of_cursor [] i c is = absurd (no_some c is)
head_of_cursor (d ∷ cursors) zero c is = ap present (same_Some d c is)
head_of_cursor (d ∷ cursors) (suc i) c is = head_of_cursor cursors i c is

-- ---- what is left of each

module _ (place : BlockName → Option ℕ) (sectors : List (List ℕ)) where
  pub heads_given : (lefts : List (List Version)) (cursors : List Cursor) → AllGive place sectors lefts cursors → heads_of lefts ≡ map present cursors
  heads_given [] [] h = refl
  heads_given [] (c ∷ cursors) h = absurd h
  heads_given (l ∷ lefts) [] h = absurd h
  heads_given (l ∷ lefts) (c ∷ cursors) h = ap (λ (o : Option Version). o ∷ heads_of lefts) (sym h.0.left.stands) ∙ ap (λ (os : List (Option Version)). present c ∷ os) (heads_given lefts cursors h.1)

  record GivenAt (lefts : List (List Version)) (i : ℕ) (c : Cursor) : Type 0 where
    versions : List Version
    at : slice_get lefts i ≡ Some versions
    gives : GivesLeft place sectors versions c

  given_at : (lefts : List (List Version)) (cursors : List Cursor) (i : ℕ) (c : Cursor) → AllGive place sectors lefts cursors → slice_get cursors i ≡ Some c → GivenAt lefts i c
  given_at [] [] i c h is = absurd (no_some c is)
  given_at [] (d ∷ cursors) i c h is = absurd h
  given_at (l ∷ lefts) [] i c h is = absurd h
  given_at (l ∷ lefts) (d ∷ cursors) zero c h is = record { versions = l; at = refl; gives = subst (GivesLeft place sectors l) (same_Some d c is) h.0 }
  given_at (l ∷ lefts) (d ∷ cursors) (suc i) c h is =
      let more = given_at lefts cursors i c h.1 is in
      record { versions = more.versions; at = more.at; gives = more.gives }

  given_with : (lefts : List (List Version)) (cursors : List Cursor) (i : ℕ) (versions : List Version) (c : Cursor) → AllGive place sectors lefts cursors → GivesLeft place sectors versions c → AllGive place sectors (set lefts i versions) (set cursors i c)
  given_with [] [] i versions c h g = tt
  given_with [] (d ∷ cursors) i versions c h g = absurd h
  given_with (l ∷ lefts) [] i versions c h g = absurd h
  given_with (l ∷ lefts) (d ∷ cursors) zero versions c h g = (g, h.1)
  given_with (l ∷ lefts) (d ∷ cursors) (suc i) versions c h g = (h.0, given_with lefts cursors i versions c h.1 g)

  pub given_more : (lefts : List (List Version)) (cursors : List Cursor) (others : List (List Version)) (behind : List Cursor) → AllGive place sectors lefts cursors → AllGive place sectors others behind → AllGive place sectors (lefts ++ others) (cursors ++ behind)
  given_more [] [] others behind h k = k
  given_more [] (c ∷ cursors) others behind h k = absurd h
  given_more (l ∷ lefts) [] others behind h k = absurd h
  given_more (l ∷ lefts) (c ∷ cursors) others behind h k = (h.0, given_more lefts cursors others behind h.1 k)

  -- no version is left
  none_first : (versions : List Version) → slice_get versions 0 ≡ None → versions ≡ []
  none_first [] e = refl
  none_first (v ∷ versions) e = absurd (no_some v (sym e))

  none_joined : (lefts : List (List Version)) → AreSpent (heads_of lefts) → joined lefts ≡ []
  none_joined [] spent = refl
  none_joined (l ∷ lefts) spent = ap (λ (vs : List Version). vs ++ joined lefts) (none_first l spent.0) ∙ none_joined lefts spent.1

  module _ (page : Page) where
    pub all_spent : (g : Gathering) (cursors : List Cursor) (s : Source) → ComesTo place sectors page g cursors s → g.next ≡ None → AreSpent (map present cursors) → HasCome page g
    all_spent g cursors s h going spent =
        let none : joined h.lefts ≡ [] = none_joined h.lefts (subst AreSpent (sym (heads_given h.lefts cursors h.gives)) spent) in
        inl (going, ap (page_with g) (sym none) ∙ h.whole)

    -- the version that comes next
    record TakenAt (g : Gathering) (cursors : List Cursor) (i : ℕ) (c : Cursor) (v : Version) (lefts : List (List Version)) : Type 0 where
      rest : List Version
      gives : GivesLeft place sectors (v ∷ rest) c
      splits : Splits lefts i v rest

    taken_at : (g : Gathering) (cursors : List Cursor) (s : Source) (i : ℕ) (c : Cursor) (v : Version) (h : ComesTo place sectors page g cursors s)
        → IsNext (map present cursors) i → slice_get cursors i ≡ Some c → present c ≡ Some v → TakenAt g cursors i c v h.lefts
    taken_at g cursors s i c v h next at here = by found.versions refl
      where
        found : GivenAt h.lefts i c
        found = given_at h.lefts cursors i c h.gives at

        by : (versions : List Version) → found.versions ≡ versions → TakenAt g cursors i c v h.lefts
        by [] e = absurd (no_some v (sym (found.gives.left.stands ∙ ap (λ (vs : List Version). slice_get vs 0) e) ∙ here))
        by (w ∷ rest) e =
            let same : w ≡ v = same_Some w v (sym (found.gives.left.stands ∙ ap (λ (vs : List Version). slice_get vs 0) e) ∙ here) in
            let is : found.versions ≡ v ∷ rest = e ∙ ap (λ (x : Version). x ∷ rest) same in
            record {
              rest = rest;
              gives = subst (λ (vs : List Version). GivesLeft place sectors vs c) is found.gives;
              splits = next_law h.lefts i v rest h.order (found.at ∙ ap (λ (vs : List Version). Some vs) is) (subst (λ (heads : List (Option Version)). IsNext heads i) (sym (heads_given h.lefts cursors h.gives)) next);
            }

    -- it is taken, and the page has come
    pub takes_last : (g new : Gathering) (cursors : List Cursor) (s : Source) (i : ℕ) (c : Cursor) (v : Version) → ComesTo place sectors page g cursors s
        → IsNext (map present cursors) i → slice_get cursors i ≡ Some c → present c ≡ Some v → Takes v g new false → HasCome page new
    takes_last g new cursors s i c v h next at here takes =
        let t = taken_at g cursors s i c v h next at here in
        inr (takes.same t.splits.newer t.splits.older t.splits.first ∙ ap (page_with g) (sym t.splits.whole) ∙ h.whole)

    -- it is taken, and its source goes on
    pub takes_on : (g new : Gathering) (cursors next_cursors : List Cursor) (refusal : Option Refusal) (old s : Source) (i : ℕ) (v : Version) → ComesTo place sectors page g cursors old
        → IsNext (map present cursors) i → head_at (map present cursors) i ≡ Some v → Takes v g new true → Advances i cursors next_cursors refusal old s
        → ((refusal ≡ None) × ComesTo place sectors page new next_cursors s) ⊎ (refusal ≡ Some Io)
    takes_on g new cursors next_cursors refusal old s i v h next here takes a = by (cursor_law.goes_on place sectors (v ∷ t.rest) a.cursor a.then refusal old s (record { left = t.gives.left; placed = t.gives.placed; shows = h.shows }) a.goes_on)
      where
        t : TakenAt g cursors i a.cursor v h.lefts
        t = taken_at g cursors old i a.cursor v h next a.at (sym (head_of_cursor cursors i a.cursor a.at) ∙ here)

        by : ((refusal ≡ None) × Gives place sectors t.rest a.then s) ⊎ (refusal ≡ Some Io) → ((refusal ≡ None) × ComesTo place sectors page new next_cursors s) ⊎ (refusal ≡ Some Io)
        by (inl p) = inl (
          p.0,
          record {
            lefts = set h.lefts i t.rest;
            gives = subst (AllGive place sectors (set h.lefts i t.rest)) (sym a.is) (given_with h.lefts cursors i t.rest a.then h.gives (record { left = p.1.left; placed = p.1.placed }));
            order = t.splits.in_order;
            whole = ap (page_with new) t.splits.left ∙ takes.same t.splits.newer t.splits.older t.splits.first ∙ ap (page_with g) (sym t.splits.whole) ∙ h.whole;
            shows = p.1.shows;
          },
        )
        by (inr io) = inr io

-- ---- how often sources go on

fewer_in_turn : (cursors : List Cursor) (i : ℕ) (c next : Cursor) → slice_get cursors i ≡ Some c → steps_of next < steps_of c → steps_left (set cursors i next) < steps_left cursors
fewer_in_turn [] i c next is lt = absurd (no_some c is)
fewer_in_turn (d ∷ cursors) zero c next is lt = let same = ap steps_of (same_Some d c is) in omega (arith, same, lt)
fewer_in_turn (d ∷ cursors) (suc i) c next is lt = let more = fewer_in_turn cursors i c next is lt in omega (arith, more)

-- a cursor that stood at a version
goes_fewer : (items : Items) (blocks : List PlacedBlock) (c next : Cursor) (refusal : Option Refusal) (old new : Source) → c.items ≡ items → c.blocks ≡ blocks → is_some (first_version items) ≡ true → GoesOn (drop 1 items) blocks next refusal old new
    → refusal ≡ None → length next.items ≤ length c.items + 4097 → steps_of next < steps_of c
goes_fewer [] blocks c next refusal old new is bs some h ok few = absurd (let clash : false ≡ true = some in cc)
goes_fewer (first ∷ []) [] c next refusal old new is bs some h ok few =
    let a = ap length is in
    let b = ap length bs in
    let n = ap steps_of h.0.stands in
    omega (arith, a, b, n)
goes_fewer (first ∷ []) (b ∷ rest) c next None old new is bs some (inl g) ok few =
    let a = ap length is in
    let d = ap length bs in
    let n = ap (λ (x : Cursor). length x.blocks) g.2.stands in
    omega (arith, a, d, n, few)
goes_fewer (first ∷ []) (b ∷ rest) c next (Some e) old new is bs some (inl g) ok few = absurd (no_some e (sym ok))
goes_fewer (first ∷ []) (b ∷ rest) c next refusal old new is bs some (inr d) ok few = absurd (let clash : None ≡ Some Io = sym ok ∙ d.0 in cc)
goes_fewer (first ∷ item ∷ items) blocks c next refusal old new is bs some h ok few =
    let a = ap length is in
    let b = ap length bs in
    let n = ap steps_of h.0.stands in
    omega (arith, a, b, n)

-- the cursor at a place goes on
pub goes_on_at : (i : ℕ) (cursors : List Cursor) (c then : Cursor) (refusal : Option Refusal) (old new : Source) → i < length cursors → GoesOn (drop 1 (get_or cursors i c).items) (get_or cursors i c).blocks then refusal old new
    → (refusal ≡ None → length then.items ≤ length (get_or cursors i c).items + 4097) → Advances i cursors (set cursors i then) refusal old new
goes_on_at i cursors c then refusal old new inside goes_on few = record { cursor = get_or cursors i c; at = slice_get-get_or cursors i c inside; then = then; is = refl; goes_on = goes_on; few = few }

pub advances_fewer : (i : ℕ) (cursors next : List Cursor) (old new : Source) → Advances i cursors next None old new → is_some (head_at (map present cursors) i) ≡ true → steps_left next < steps_left cursors
advances_fewer i cursors next old new a some =
    let lt = fewer_in_turn cursors i a.cursor a.then a.at (goes_fewer a.cursor.items a.cursor.blocks a.cursor a.then None old new refl refl (sym (ap is_some (head_of_cursor cursors i a.cursor a.at)) ∙ some) a.goes_on refl (a.few refl)) in
    let same = ap steps_left a.is in
    omega (arith, lt, same)

-- ---- a step

-- the others of a queue stay as they are
pub one_goes_on : (i : ℕ) (cursors next : List Cursor) (refusal : Option Refusal) (old new : Source) → Advances i cursors next refusal old new → OneGoesOn i (map present cursors) (map present next)
one_goes_on i cursors next refusal old new a = subst (λ (cs : List Cursor). OneGoesOn i (map present cursors) (map present cs)) (sym a.is) (cursor_goes_on cursors i a.then)

pub advances_asking : (i : ℕ) (cursors next : List Cursor) (refusal : Option Refusal) (old new : Source) → AllByRecursion (λ c. AllByRecursion IsFairItem c.items) cursors → Advances i cursors next refusal old new
    → AsksOn (blocks_to_come cursors) (blocks_to_come next) refusal old new
advances_asking i cursors next refusal old new fair a =
    subst (λ (left : List (List PlacedBlock)). AsksOn (blocks_to_come cursors) left refusal old new) (sym (ap blocks_to_come a.is ∙ blocks_with cursors i a.then))
    (goes_asking (blocks_to_come cursors) i (drop 1 a.cursor.items) a.cursor.blocks a.then refusal old new (blocks_at_place cursors i a.cursor a.at)
    (fair_dropped a.cursor.items (all_of_place (λ (c : Cursor). AllByRecursion IsFairItem c.items) cursors i a.cursor a.at fair)) a.goes_on)

goes_fair : (items : Items) (blocks : List PlacedBlock) (c : Cursor) (old new : Source) → AllByRecursion IsFairItem items → GoesOn items blocks c None old new → AllByRecursion IsFairItem c.items
goes_fair (item ∷ items) blocks c old new fair h = subst (λ (d : Cursor). AllByRecursion IsFairItem d.items) (sym h.0.stands) fair
goes_fair [] [] c old new fair h = subst (λ (d : Cursor). AllByRecursion IsFairItem d.items) (sym h.0.stands) tt
goes_fair [] (b ∷ rest) c old new fair (inl g) = subst (λ (d : Cursor). AllByRecursion IsFairItem d.items) (sym g.2.stands) (fair_in g.0)
goes_fair [] (b ∷ rest) c old new fair (inr d) = absurd (let clash : None ≡ Some Io = d.0 in cc)

pub advances_ready : (size i : ℕ) (cursors next : List Cursor) (old new : Source) → AllByRecursion (λ c. AllByRecursion IsFairItem c.items) cursors → Advances i cursors next None old new → AreEndingWithin size next → AreReady size next
advances_ready size i cursors next old new fair a within = record {
  within = within;
  fair = subst (AllByRecursion (λ c. AllByRecursion IsFairItem c.items)) (sym a.is)
      (all_with (λ (c : Cursor). AllByRecursion IsFairItem c.items) cursors i a.then
      (goes_fair (drop 1 a.cursor.items) a.cursor.blocks a.then old new (fair_dropped a.cursor.items (all_of_place (λ (c : Cursor). AllByRecursion IsFairItem c.items) cursors i a.cursor a.at fair)) a.goes_on) fair);
}

pub some_version : (o : Option Version) → is_some o ≡ true → (v : Version) × (o ≡ Some v)
some_version None some = absurd (let clash : false ≡ true = some in cc)
some_version (Some v) some = (v, refl)

goes_refused : (items : Items) (blocks : List PlacedBlock) (c : Cursor) (e : Refusal) (old new : Source) → AllByRecursion IsFairItem items → GoesOn items blocks c (Some e) old new → (e ≡ Io) ⊎ ((e ≡ BadTable) ⊎ (e ≡ NoMemory))
goes_refused (item ∷ items) blocks c e old new fair h = inr (inl (fair_refusal (item ∷ items) e fair h.0.refused))
goes_refused [] [] c e old new fair h = absurd (no_some e (sym h.0.refused))
goes_refused [] (b ∷ rest) c e old new fair (inl g) = inr (inl (fair_refusal (entries_in g.0) e (fair_in g.0) g.2.refused))
goes_refused [] (b ∷ rest) c e old new fair (inr d) = inl (same_Some e Io d.0)

pub advances_refused : (i : ℕ) (cursors next : List Cursor) (e : Refusal) (old new : Source) → AllByRecursion (λ c. AllByRecursion IsFairItem c.items) cursors → Advances i cursors next (Some e) old new → (e ≡ Io) ⊎ ((e ≡ BadTable) ⊎ (e ≡ NoMemory))
advances_refused i cursors next e old new fair a =
    goes_refused (drop 1 a.cursor.items) a.cursor.blocks a.then e old new (fair_dropped a.cursor.items (all_of_place (λ (c : Cursor). AllByRecursion IsFairItem c.items) cursors i a.cursor a.at fair)) a.goes_on

-- the version of the source that comes next is taken
module _ (g new : Gathering) (cursors : List Cursor) (i : ℕ) (next : IsNext (map present cursors) i × (is_some (head_at (map present cursors) i) ≡ true)) (goes : Bool) (takes : (v : Version) → head_at (map present cursors) i ≡ Some v → Takes v g new goes) where
  taken : (b : Bool) → goes ≡ b → (v : Version) × (head_at (map present cursors) i ≡ Some v) × Takes v g new b
  taken b e = let v = some_version (head_at (map present cursors) i) next.1 in (v.0, v.1, subst (λ (x : Bool). Takes v.0 g new x) e (takes v.0 v.1))

  pub step_going : goes ≡ true → new.next ≡ None
  step_going e = (taken true e).2.going

  module _ (place : BlockName → Option ℕ) (sectors : List (List ℕ)) (page : Page) (old : Source) (h : ComesTo place sectors page g cursors old) where
    pub step_ends : goes ≡ false → HasCome page new
    step_ends e =
        let v = taken false e in
        let c = cursor_at cursors i next.1 in
        takes_last place sectors page g new cursors old i c.0 v.0 h next.0 c.1 (sym (head_of_cursor cursors i c.0 c.1) ∙ v.1) v.2

    reached : (next_cursors : List Cursor) (refusal : Option Refusal) (s : Source) → goes ≡ true → Advances i cursors next_cursors refusal old s
        → ((refusal ≡ None) × ComesTo place sectors page new next_cursors s) ⊎ (refusal ≡ Some Io)
    reached next_cursors refusal s e a = let v = taken true e in takes_on place sectors page g new cursors next_cursors refusal old s i v.0 h next.0 v.1 v.2 a

    pub step_goes : (next_cursors : List Cursor) (s : Source) → goes ≡ true → Advances i cursors next_cursors None old s → ComesTo place sectors page new next_cursors s
    step_goes next_cursors s e a = by None refl (reached next_cursors None s e a)
      where
        by : (r : Option Refusal) → r ≡ None → ((r ≡ None) × ComesTo place sectors page new next_cursors s) ⊎ (r ≡ Some Io) → ComesTo place sectors page new next_cursors s
        by r none (inl p) = p.1
        by r none (inr io) = absurd (no_some Io (sym none ∙ io))

    pub step_stops : (next_cursors : List Cursor) (r : Refusal) (s : Source) → goes ≡ true → Advances i cursors next_cursors (Some r) old s → (r ≡ Io) ⊎ (r ≡ NoMemory)
    step_stops next_cursors r s e a = by (Some r) refl (reached next_cursors (Some r) s e a)
      where
        by : (o : Option Refusal) → o ≡ Some r → ((o ≡ None) × ComesTo place sectors page new next_cursors s) ⊎ (o ≡ Some Io) → (r ≡ Io) ⊎ (r ≡ NoMemory)
        by o is (inl p) = absurd (no_some r (sym p.0 ∙ is))
        by o is (inr io) = inl (same_Some r Io (sym is ∙ io))
