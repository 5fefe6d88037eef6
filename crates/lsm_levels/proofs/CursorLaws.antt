-- What holds of cursors, step by step.
use Rattle.std.proofs.Common.{◌≡◌, ◌⊎◌, inl, inr, ℕ, zero, suc, ◌==◌, Bool, true, false, cond, List, [], ◌∷◌, ◌++◌, map, drop, slice_get, Option, Some, None, Result, Ok, Err, refl, ap, sym, subst, ◌∙◌}
use Rattle.std.specs.List.{AllByRecursion, flat_map}
use Rattle.std.proofs.lemmas.Option.{same_Some}
use Rattle.lsm_device.specs.declared.refusal.Refusal.{Refusal}
use Rattle.lsm_device.specs.declared.refusal.Refusal.TheVariants.{NoMemory, Io, BadTable}
use Rattle.lsm_codec.specs.Keys.{Bytes}
use Rattle.lsm_codec.specs.Versions.{Version}
use Rattle.lsm_codec.specs.Reading.{number_at}
use Rattle.lsm_codec.specs.Entries.{entry_at, entries_from, entries_in}
use Rattle.lsm_cache.specs.declared.name.BlockName.{BlockName}
use Rattle.lsm_cache.specs.Reads.{block_at}
use Rattle.lsm_levels.specs.Asking.{Source}
use Rattle.lsm_table.specs.Items.{first_version}
use Rattle.lsm_levels.specs.Cursors.{Items, Cursor, AsksOnce, IsPlacedAt, Shows, StandsAt, Loads, EntersNext, Enters, GoesOn, Seeks, SeeksTo, first_refusal, has_item, is_faultless, is_passed, present, refusal_of, sought, left_in, IsLeft}
use Rattle.lsm_levels.specs.declared.placed.PlacedBlock.{PlacedBlock}
use Rattle.lsm_levels.proofs.AskingLaws.{asks_none, asks_given, asks_denied, shown_bytes, given_shows}
use Rattle.lsm_levels.proofs.LookingUp.{IsBad, bad_in}

-- ---- a block has an item, if a bad one

some_from : (n : ℕ) (bytes : List ℕ) → has_item (entries_from (suc n) bytes) ≡ true
unfolding entries_from
some_from n bytes = elim (entry_at bytes) as (λ o. has_item (elim o as (λ _. Items) [ None ↦ Err BadTable ∷ [] | Some x ↦ Ok x.0 ∷ entries_from n x.1 ]) ≡ true) [ None ↦ refl | Some x ↦ refl ]

some_counted : (n : ℕ) (bytes : List ℕ) → has_item (cond (n == 0) (Err BadTable ∷ []) (entries_from n bytes)) ≡ true
some_counted zero bytes = refl
some_counted (suc n) bytes = elim (suc n == 0) as (λ b. has_item (cond b (Err BadTable ∷ []) (entries_from (suc n) bytes)) ≡ true) [ true ↦ refl | false ↦ some_from n bytes ]

pub some_in : (bytes : List ℕ) → has_item (entries_in bytes) ≡ true
unfolding entries_in
some_in bytes = elim (number_at 2 bytes) as (λ o. has_item (elim o as (λ _. Items) [ None ↦ Err BadTable ∷ [] | Some x ↦ cond (x.0 == 0) (Err BadTable ∷ []) (entries_from x.0 x.1) ]) ≡ true) [ None ↦ refl | Some x ↦ some_counted x.0 x.1 ]

-- ---- steps of a cursor

abbrev id : Items → Items
id items = items

-- a block was loaded, and its items are tested
pub entered : (pick : Items → Items) (block : PlacedBlock) (rest : List PlacedBlock) (c last : Cursor) (before refusal : Option Refusal) (old new : Source) → Loads block rest c before old new → before ≡ None
    → last ≡ record { items = pick c.items; blocks = c.blocks } → refusal ≡ first_refusal last.items → Enters pick block rest last refusal old new
entered pick block rest c last before refusal old new (inl g) ok is tested =
    inl (
      g.0,
      g.1,
      record {
        stands = is ∙ ap (λ (d : Cursor). record { items = pick d.items; blocks = d.blocks }) g.2;
        refused = tested ∙ ap (λ (d : Cursor). first_refusal d.items) is ∙ ap (λ (d : Cursor). first_refusal (pick d.items)) g.2;
      },
    )
entered pick block rest c last before refusal old new (inr d) ok is tested = absurd (let clash : None ≡ Some Io = sym ok ∙ d.0 in cc)

-- a block was denied
pub not_entered : (pick : Items → Items) (block : PlacedBlock) (rest : List PlacedBlock) (c : Cursor) (refusal : Option Refusal) (e : Refusal) (old new : Source) → Loads block rest c refusal old new → refusal ≡ Some e → Enters pick block rest c refusal old new
not_entered pick block rest c refusal e old new (inl g) is = absurd (let clash : None ≡ Some e = sym g.3 ∙ is in cc)
not_entered pick block rest c refusal e old new (inr d) is = inr d

-- the items of the block go on
pub stays_in : (items : Items) (blocks : List PlacedBlock) (c : Cursor) (refusal : Option Refusal) (s : Source) → c ≡ record { items = items; blocks = blocks } → has_item items ≡ true → refusal ≡ first_refusal c.items → GoesOn items blocks c refusal s s
stays_in [] blocks c refusal s is some tested = absurd cc
stays_in (item ∷ items) blocks c refusal s is some tested = (record { stands = is; refused = tested ∙ ap (λ (d : Cursor). first_refusal d.items) is }, refl)

-- the next block is entered, or all is passed
pub moves_on : (items : Items) (blocks : List PlacedBlock) (c : Cursor) (before refusal : Option Refusal) (old new : Source) → has_item items ≡ false → EntersNext blocks c before old new → before ≡ None → refusal ≡ first_refusal c.items
    → GoesOn items blocks c refusal old new
moves_on (item ∷ items) blocks c before refusal old new none h ok tested = absurd cc
moves_on [] [] c before refusal old new none h ok tested = (record { stands = h.0; refused = tested ∙ ap (λ (d : Cursor). first_refusal d.items) h.0 }, h.2)
moves_on [] (b ∷ rest) c before refusal old new none h ok tested = entered id b rest c c before refusal old new h ok refl tested

pub moves_not : (items : Items) (blocks : List PlacedBlock) (c : Cursor) (refusal : Option Refusal) (e : Refusal) (old new : Source) → has_item items ≡ false → EntersNext blocks c refusal old new → refusal ≡ Some e → GoesOn items blocks c refusal old new
moves_not (item ∷ items) blocks c refusal e old new none h is = absurd cc
moves_not [] [] c refusal e old new none h is = absurd (let clash : None ≡ Some e = sym h.1 ∙ is in cc)
moves_not [] (b ∷ rest) c refusal e old new none h is = not_entered id b rest c refusal e old new h is

-- ---- at most one block is asked for

-- the first item is a version or BadTable, if there is one
abbrev IsFairFirst : Items → Type 0
IsFairFirst [] = Unit {0}
IsFairFirst (item ∷ rest) = IsBad item

first_fair : (items : Items) → AllByRecursion IsBad items → IsFairFirst items
first_fair [] all = tt
first_fair (item ∷ items) all = all.0

-- the first refusal of a block's items is BadTable
pub bad_first : (items : Items) (e : Refusal) → AllByRecursion IsBad items → Some e ≡ first_refusal items → e ≡ BadTable
bad_first [] e all is = absurd cc
bad_first (Ok v ∷ items) e all is = absurd cc
bad_first (Err x ∷ items) e all is = same_Some e x is ∙ all.0

sought_fair : (key : Bytes) (items : Items) → AllByRecursion IsBad items → IsFairFirst (sought key items)
sought_fair key [] all = refl
sought_fair key (item ∷ items) all = by (is_passed key item) (sought_fair key items all.1)
  where
    by : (b : Bool) → IsFairFirst (sought key items) → IsFairFirst (cond b (sought key items) (item ∷ items))
    by true more = more
    by false more = all.0

bad_faultless : (r : Option Refusal) → r ≡ Some BadTable → (is_faultless r ≡ true) × (r ≡ Some Io → ⊥)
bad_faultless r e = (ap is_faultless e, λ io. absurd (let clash : Some BadTable ≡ Some Io = sym e ∙ io in cc))

none_faultless : (r : Option Refusal) → r ≡ None → (is_faultless r ≡ true) × (r ≡ Some Io → ⊥)
none_faultless r e = (ap is_faultless e, λ io. absurd (let clash : None ≡ Some Io = sym e ∙ io in cc))

fair_refusal : (items : Items) (r : Option Refusal) → IsFairFirst items → r ≡ first_refusal items → (is_faultless r ≡ true) × (r ≡ Some Io → ⊥)
fair_refusal [] r fair e = none_faultless r e
fair_refusal (Ok v ∷ items) r fair e = none_faultless r e
fair_refusal (Err x ∷ items) r fair e = bad_faultless r (e ∙ ap (λ (y : Refusal). Some y) fair)

enters_once : (pick : Items → Items) → ((bytes : List ℕ) → IsFairFirst (pick (entries_in bytes))) → (b : PlacedBlock) (rest : List PlacedBlock) (c : Cursor) (refusal : Option Refusal) (old new : Source) → Enters pick b rest c refusal old new → AsksOnce (b ∷ rest) refusal old new
enters_once pick fair b rest c refusal old new (inl g) =
    let p = fair_refusal (pick (entries_in g.0)) refusal (fair g.0) g.2.refused in
    asks_given b rest g.0 refusal old new p.0 p.1 g.1
enters_once pick fair b rest c refusal old new (inr d) = asks_denied b rest refusal old new d.0 d.2

-- a refusal is BadTable, where an item is left
abbrev pub IsFair : Items → Option Refusal → Type 0
IsFair items None = Unit {0}
IsFair items (Some e) = (e ≡ BadTable) ⊎ (has_item items ≡ false)

fair_here : (items : Items) (refusal : Option Refusal) → has_item items ≡ true → IsFair items refusal → (is_faultless refusal ≡ true) × (refusal ≡ Some Io → ⊥)
fair_here items None some fair = none_faultless None refl
fair_here items (Some e) some (inl bad) = bad_faultless (Some e) (ap (λ (y : Refusal). Some y) bad)
fair_here items (Some e) some (inr none) = absurd (let clash : true ≡ false = sym some ∙ none in cc)

pub step_once : (items : Items) (blocks : List PlacedBlock) (c : Cursor) (refusal : Option Refusal) (old new : Source) → IsFair items refusal → GoesOn items blocks c refusal old new → AsksOnce blocks refusal old new
step_once (item ∷ items) blocks c refusal old new fair h =
    let p = fair_here (item ∷ items) refusal refl fair in
    asks_none blocks refusal old new p.0 p.1 h.1
step_once [] [] c refusal old new fair h =
    let p = fair_refusal [] refusal tt h.0.refused in
    asks_none [] refusal old new p.0 p.1 h.1
step_once [] (b ∷ rest) c refusal old new fair h = enters_once id (λ bytes. first_fair (entries_in bytes) (bad_in bytes)) b rest c refusal old new h

pub seek_once : (key : Bytes) (blocks : List PlacedBlock) (c : Cursor) (refusal : Option Refusal) (old new : Source) → Seeks key blocks c refusal old new → AsksOnce blocks refusal old new
seek_once key [] c refusal old new h =
    let p = fair_refusal [] refusal tt h.0.refused in
    asks_none [] refusal old new p.0 p.1 h.1
seek_once key (b ∷ rest) c refusal old new h = enters_once (sought key) (λ bytes. sought_fair key (entries_in bytes) (bad_in bytes)) b rest c refusal old new h

-- ---- what is left

module _ (place : BlockName → Option ℕ) (sectors : List (List ℕ)) where
  abbrev its_items : PlacedBlock → Items
  its_items block = entries_in (block_at sectors block.sector)

  abbrev oks : List Version → Items
  oks versions = map (λ v. Ok v) versions

  -- items before others that are all versions
  first_ok : (items rest : Items) (versions : List Version) → (has_item items ≡ false → rest ≡ []) → items ++ rest ≡ oks versions → (first_refusal items ≡ None) × (first_version items ≡ slice_get versions 0)
  first_ok [] rest [] last e = (refl, refl)
  first_ok [] rest (v ∷ versions) last e = absurd (let clash : [] ≡ oks (v ∷ versions) = sym (last refl) ∙ e in cc)
  first_ok (Ok w ∷ items) rest [] last e = absurd cc
  first_ok (Ok w ∷ items) rest (v ∷ versions) last e =
      let same : w ≡ v = cc in
      (refl, ap (λ (x : Version). Some x) same)
  first_ok (Err x ∷ items) rest [] last e = absurd cc
  first_ok (Err x ∷ items) rest (v ∷ versions) last e = absurd cc

  -- a cursor that stands where just these versions are left
  stands_left : (items : Items) (blocks : List PlacedBlock) (c : Cursor) (refusal : Option Refusal) (versions : List Version) → StandsAt items blocks c refusal → (has_item items ≡ false → blocks ≡ []) → items ++ flat_map its_items blocks ≡ oks versions
      → (refusal ≡ None) × IsLeft sectors versions c
  stands_left items blocks c refusal versions st last e =
      let first = first_ok items (flat_map its_items blocks) versions (λ none. ap (flat_map its_items) (last none)) e in (
        st.refused ∙ first.0,
        record {
          stands = ap present st.stands ∙ first.1;
          left = ap (left_in sectors) st.stands ∙ e;
        },
      )

  abbrev pub Reached : List Version → Cursor → Option Refusal → Source → Type 0
  Reached versions c refusal new = ((refusal ≡ None) × IsLeft sectors versions c × Shows place sectors new) ⊎ (refusal ≡ Some Io)

  -- a block is entered from which, with those after it, just these versions are picked
  pub enters_left : (pick : Items → Items) (b : PlacedBlock) (rest : List PlacedBlock) (c : Cursor) (refusal : Option Refusal) (versions : List Version) (old new : Source) → IsPlacedAt place b → Shows place sectors old
      → has_item (pick (its_items b)) ≡ true → pick (its_items b) ++ flat_map its_items rest ≡ oks versions → Enters pick b rest c refusal old new → Reached versions c refusal new
  enters_left pick b rest c refusal versions old new at st some e (inl g) =
      let its : g.0 ≡ block_at sectors b.sector = shown_bytes place sectors b g.0 old new at st g.1 in
      let stands : StandsAt (pick (its_items b)) rest c refusal = subst (λ (bytes : List ℕ). StandsAt (pick (entries_in bytes)) rest c refusal) its g.2 in
      let p = stands_left (pick (its_items b)) rest c refusal versions stands (λ none. absurd (let clash : true ≡ false = sym some ∙ none in cc)) e in
      inl (p.0, p.1, given_shows place sectors b g.0 old new at st g.1)
  enters_left pick b rest c refusal versions old new at st some e (inr d) = inr d.0

  -- what is left after the present version
  behind : (items others : Items) (versions : List Version) → has_item items ≡ true → items ++ others ≡ oks versions → drop 1 items ++ others ≡ oks (drop 1 versions)
  behind [] others versions some e = absurd cc
  behind (item ∷ items) others [] some e = absurd cc
  behind (item ∷ items) others (v ∷ versions) some e = ap (drop 1) e

  none_present : (versions : List Version) → None ≡ slice_get versions 0 → versions ≡ []
  none_present [] e = refl
  none_present (v ∷ versions) e = absurd cc

  goes_left : (items : Items) (blocks : List PlacedBlock) (c : Cursor) (refusal : Option Refusal) (versions : List Version) (old new : Source) → AllByRecursion (IsPlacedAt place) blocks → Shows place sectors old → items ++ flat_map its_items blocks ≡ oks versions
      → GoesOn items blocks c refusal old new → Reached versions c refusal new
  goes_left (item ∷ items) blocks c refusal versions old new all st e h =
      let p = stands_left (item ∷ items) blocks c refusal versions h.0 (λ none. absurd cc) e in
      inl (p.0, p.1, subst (Shows place sectors) (sym h.1) st)
  goes_left [] [] c refusal versions old new all st e h =
      let p = stands_left [] [] c refusal versions h.0 (λ none. refl) e in
      inl (p.0, p.1, subst (Shows place sectors) (sym h.1) st)
  goes_left [] (b ∷ rest) c refusal versions old new all st e h = enters_left id b rest c refusal versions old new all.0 st (some_in (block_at sectors b.sector)) e h

  -- A cursor goes on to the next version, unless a read faults.
  pub goes_to_next : (c next : Cursor) (refusal : Option Refusal) (versions : List Version) (old new : Source) → AllByRecursion (IsPlacedAt place) c.blocks → Shows place sectors old → IsLeft sectors versions c
      → GoesOn (drop 1 c.items) c.blocks next refusal old new → Reached (drop 1 versions) next refusal new
  goes_to_next c next refusal versions old new all st left h = by c.items refl
    where
      by : (items : Items) → c.items ≡ items → Reached (drop 1 versions) next refusal new
      by [] is =
          let none : versions ≡ [] = none_present versions (sym (ap first_version is) ∙ left.stands) in
          let e : drop 1 c.items ++ flat_map its_items c.blocks ≡ oks (drop 1 versions) =
          ap (λ (t : Items). drop 1 t ++ flat_map its_items c.blocks) is ∙ sym (ap (λ (t : Items). t ++ flat_map its_items c.blocks) is) ∙ left.left ∙ ap oks none ∙ sym (ap (λ (vs : List Version). oks (drop 1 vs)) none) in
          goes_left (drop 1 c.items) c.blocks next refusal (drop 1 versions) old new all st e h
      by (item ∷ items) is =
          goes_left (drop 1 c.items) c.blocks next refusal (drop 1 versions) old new all st (behind c.items (flat_map its_items c.blocks) versions (ap has_item is) left.left) h

  pub nothing_left : (c : Cursor) (refusal : Option Refusal) (old new : Source) → Shows place sectors old → StandsAt [] [] c refusal × (new ≡ old) → Reached [] c refusal new
  nothing_left c refusal old new st h = goes_left [] [] c refusal [] old new tt st refl h

-- ---- blocks to come are blocks that were to come

pub step_blocks : (Q : PlacedBlock → Type 0) (items : Items) (blocks : List PlacedBlock) (c : Cursor) (refusal : Option Refusal) (old new : Source) → GoesOn items blocks c refusal old new → AllByRecursion Q blocks → AllByRecursion Q c.blocks
step_blocks Q (item ∷ items) blocks c refusal old new h all = subst (λ (d : Cursor). AllByRecursion Q d.blocks) (sym h.0.stands) all
step_blocks Q [] [] c refusal old new h all = subst (λ (d : Cursor). AllByRecursion Q d.blocks) (sym h.0.stands) all
step_blocks Q [] (b ∷ rest) c refusal old new (inl g) all = subst (λ (d : Cursor). AllByRecursion Q d.blocks) (sym g.2.stands) all.1
step_blocks Q [] (b ∷ rest) c refusal old new (inr d) all = subst (AllByRecursion Q) (sym d.1) all.1

pub seek_blocks : (Q : PlacedBlock → Type 0) (key : Bytes) (blocks : List PlacedBlock) (c : Cursor) (refusal : Option Refusal) (old new : Source) → Seeks key blocks c refusal old new → AllByRecursion Q blocks → AllByRecursion Q c.blocks
seek_blocks Q key [] c refusal old new h all = subst (λ (d : Cursor). AllByRecursion Q d.blocks) (sym h.0.stands) all
seek_blocks Q key (b ∷ rest) c refusal old new (inl g) all = subst (λ (d : Cursor). AllByRecursion Q d.blocks) (sym g.2.stands) all.1
seek_blocks Q key (b ∷ rest) c refusal old new (inr d) all = subst (AllByRecursion Q) (sym d.1) all.1

-- ---- the laws of one step, as its contract says them

pub seek_to_once : (key : Bytes) (blocks : List PlacedBlock) (result : Result Cursor Refusal) (old new : Source) → SeeksTo key blocks result old new → AsksOnce blocks (refusal_of result) old new
seek_to_once key blocks (Ok c) old new h = seek_once key blocks c None old new h
seek_to_once key blocks (Err e) old new (inl p) = asks_none blocks (Some e) old new (ap (λ (x : Refusal). is_faultless (Some x)) p.0) (λ io. absurd (let clash : Some NoMemory ≡ Some Io = sym (ap (λ (x : Refusal). Some x) p.0) ∙ io in cc)) p.1
seek_to_once key blocks (Err e) old new (inr k) = seek_once key blocks k.0 (Some e) old new k.1
