-- Which blocks a scan asks for.
use Rattle.std.proofs.Common.{◌≡◌, ◌⊎◌, inl, inr, ℕ, zero, suc, ◌*◌, ◌<◌, Bool, true, false, cond, List, [], ◌∷◌, length, map, set, drop, slice_get, Option, Some, None, Ok, Err, option_map, refl, ap, sym, subst, ◌∙◌, arith}
use Rattle.std.specs.Prelude.{IsTrue}
use Rattle.std.specs.List.{AllByRecursion}
use Rattle.std.proofs.lemmas.Option.{same_Some, slice_get-map}
use Rattle.std.proofs.lemmas.List.{map-set}
use Rattle.lsm_device.specs.declared.refusal.Refusal.{Refusal}
use Rattle.lsm_device.specs.declared.refusal.Refusal.TheVariants.{Io, BadTable}
use Rattle.lsm_device.specs.Calls.{AtMost, faults_after}
use Rattle.lsm_device.proofs.Counting.{AtMost-joined, AtMost-wider}
use Rattle.lsm_codec.specs.Keys.{Bytes}
use Rattle.lsm_codec.specs.Versions.{Version}
use Rattle.lsm_codec.specs.Entries.{entries_in}
use Rattle.lsm_cache.specs.Fresh.{IsFresh, IsNumberedBelow}
use Rattle.lsm_cache.specs.declared.name.BlockName.{BlockName}
use Rattle.lsm_levels.specs.Asking.{Source, OnlyReads, IsGiven, IsDenied}
use Rattle.lsm_levels.specs.Cursors.{Items, Cursor, Enters, GoesOn, IsPlacedAt, Seeks, SeeksTo, Shows, first_refusal, is_faultless, is_passed, sought}
use Rattle.lsm_levels.specs.Scans.{AsksInTurn, AsksOn, AsksSome, IsFairItem, blocks_in, blocks_to_come}
use Rattle.lsm_levels.specs.declared.placed.PlacedBlock.{PlacedBlock}
use Rattle.lsm_levels.proofs.AskingLaws.{asks_none, asks_given, asks_denied, given_shows, shows_read}
use Rattle.lsm_levels.proofs.LookingUp.{IsBad, bad_in, more_reads}

-- ---- places in lists

pub set_itself : {X : Type 0} (xs : List X) (i : ℕ) (x : X) → slice_get xs i ≡ Some x → set xs i x ≡ xs
set_itself [] i x is = refl
set_itself (y ∷ xs) zero x is = ap (λ z. z ∷ xs) (sym (same_Some y x is))
set_itself (y ∷ xs) (suc i) x is = ap (λ zs. y ∷ zs) (set_itself xs i x is)

pub all_of_place : {X : Type 0} (P : X → Type 0) (xs : List X) (i : ℕ) (x : X) → slice_get xs i ≡ Some x → AllByRecursion P xs → P x
all_of_place P [] i x is h = absurd (let clash : None ≡ Some x = is in cc)
all_of_place P (y ∷ xs) zero x is h = subst P (same_Some y x is) h.0
all_of_place P (y ∷ xs) (suc i) x is h = all_of_place P xs i x is h.1

pub all_with : {X : Type 0} (P : X → Type 0) (xs : List X) (i : ℕ) (x : X) → P x → AllByRecursion P xs → AllByRecursion P (set xs i x)
all_with P [] i x p h = tt
all_with P (y ∷ xs) zero x p h = (p, h.1)
all_with P (y ∷ xs) (suc i) x p h = (h.0, all_with P xs i x p h.1)

pub blocks_at_place : (cursors : List Cursor) (i : ℕ) (c : Cursor) → slice_get cursors i ≡ Some c → slice_get (blocks_to_come cursors) i ≡ Some c.blocks
blocks_at_place cursors i c is = slice_get-map (λ (c : Cursor). c.blocks) cursors i ∙ ap (option_map (λ (c : Cursor). c.blocks)) is

pub blocks_with : (cursors : List Cursor) (i : ℕ) (c : Cursor) → blocks_to_come (set cursors i c) ≡ set (blocks_to_come cursors) i c.blocks
blocks_with cursors i c = map-set (λ (c : Cursor). c.blocks) cursors i c

-- ---- items of blocks

pub all_fair : (items : Items) → AllByRecursion IsBad items → AllByRecursion IsFairItem items
all_fair [] h = tt
all_fair (Ok v ∷ items) h = (tt, all_fair items h.1)
all_fair (Err e ∷ items) h = (h.0, all_fair items h.1)

pub fair_in : (bytes : List ℕ) → AllByRecursion IsFairItem (entries_in bytes)
fair_in bytes = all_fair (entries_in bytes) (bad_in bytes)

pub fair_sought : (key : Bytes) (items : Items) → AllByRecursion IsFairItem items → AllByRecursion IsFairItem (sought key items)
fair_sought key [] h = (refl, tt)
fair_sought key (item ∷ items) h = by (is_passed key item) (fair_sought key items h.1)
  where
    by : (b : Bool) → AllByRecursion IsFairItem (sought key items) → AllByRecursion IsFairItem (cond b (sought key items) (item ∷ items))
    by true more = more
    by false more = h

pub fair_oks : (versions : List Version) → AllByRecursion IsFairItem (map (λ v. Ok v) versions)
fair_oks [] = tt
fair_oks (v ∷ versions) = (tt, fair_oks versions)

pub fair_dropped : (items : Items) → AllByRecursion IsFairItem items → AllByRecursion IsFairItem (drop 1 items)
fair_dropped [] h = tt
fair_dropped (item ∷ items) h = h.1

-- the first refusal of items is no fault
pub no_fault : (items : Items) (refusal : Option Refusal) → AllByRecursion IsFairItem items → refusal ≡ first_refusal items → is_faultless refusal ≡ true
no_fault [] refusal h is = ap is_faultless is
no_fault (Ok v ∷ items) refusal h is = ap is_faultless is
no_fault (Err e ∷ items) refusal h is = ap is_faultless is ∙ ap (λ (e : Refusal). is_faultless (Some e)) h.0

pub fair_refusal : (items : Items) (e : Refusal) → AllByRecursion IsFairItem items → Some e ≡ first_refusal items → e ≡ BadTable
fair_refusal [] e h is = absurd (let clash : Some e ≡ None = is in cc)
fair_refusal (Ok v ∷ items) e h is = absurd (let clash : Some e ≡ None = is in cc)
fair_refusal (Err x ∷ items) e h is = same_Some e x is ∙ h.0

-- ---- a step asks on

pub asks_nothing : (left : List (List PlacedBlock)) (refusal : Option Refusal) (s : Source) → is_faultless refusal ≡ true → AsksSome left refusal s s
asks_nothing left refusal s fair = record { asked = []; in_turn = (fair, refl) }

pub stays_asking : (left next : List (List PlacedBlock)) (refusal : Option Refusal) (old new : Source) → next ≡ left → new ≡ old → is_faultless refusal ≡ true → AsksOn left next refusal old new
stays_asking left next None old new same here fair = λ r end more. subst (λ (s : Source). AsksSome left r s end) here (subst (λ (bs : List (List PlacedBlock)). AsksSome bs r new end) same more)
stays_asking left next (Some e) old new same here fair = subst (λ (s : Source). AsksSome left (Some e) old s) (sym here) (asks_nothing left (Some e) old fair)

enters_on : (pick : Items → Items) (left : List (List PlacedBlock)) (i : ℕ) (b : PlacedBlock) (rest : List PlacedBlock) (c : Cursor) (refusal : Option Refusal) (old new : Source)
    → slice_get left i ≡ Some (b ∷ rest) → ((bytes : List ℕ) → AllByRecursion IsFairItem (pick (entries_in bytes))) → Enters pick b rest c refusal old new → AsksOn left (set left i c.blocks) refusal old new
enters_on pick left i b rest c None old new at fair (inl g) = λ r end more. record {
  asked = b ∷ more.asked;
  in_turn = (i, rest, at, inl (g.0, new, g.1, subst (λ (bs : List PlacedBlock). AsksInTurn (set left i bs) more.asked r new end) (ap (λ (d : Cursor). d.blocks) g.2.stands) more.in_turn));
}
enters_on pick left i b rest c (Some e) old new at fair (inl g) = record {
  asked = b ∷ [];
  in_turn = (i, rest, at, inl (g.0, new, g.1, (no_fault (pick (entries_in g.0)) (Some e) (fair g.0) g.2.refused, refl)));
}
enters_on pick left i b rest c None old new at fair (inr d) = absurd (let clash : None ≡ Some Io = d.0 in cc)
enters_on pick left i b rest c (Some e) old new at fair (inr d) = record { asked = b ∷ []; in_turn = (i, rest, at, inr (d.0, refl, d.2)) }

pub goes_asking : (left : List (List PlacedBlock)) (i : ℕ) (items : Items) (blocks : List PlacedBlock) (c : Cursor) (refusal : Option Refusal) (old new : Source)
    → slice_get left i ≡ Some blocks → AllByRecursion IsFairItem items → GoesOn items blocks c refusal old new → AsksOn left (set left i c.blocks) refusal old new
goes_asking left i (item ∷ items) blocks c refusal old new at fair h =
    stays_asking left (set left i c.blocks) refusal old new (ap (λ (d : Cursor). set left i d.blocks) h.0.stands ∙ set_itself left i blocks at) h.1 (no_fault (item ∷ items) refusal fair h.0.refused)
goes_asking left i [] [] c refusal old new at fair h =
    stays_asking left (set left i c.blocks) refusal old new (ap (λ (d : Cursor). set left i d.blocks) h.0.stands ∙ set_itself left i [] at) h.1 (no_fault [] refusal tt h.0.refused)
goes_asking left i [] (b ∷ rest) c refusal old new at fair h = enters_on (λ items. items) left i b rest c refusal old new at fair_in h

pub seeks_asking : (left : List (List PlacedBlock)) (i : ℕ) (key : Bytes) (blocks : List PlacedBlock) (c : Cursor) (refusal : Option Refusal) (old new : Source)
    → slice_get left i ≡ Some blocks → Seeks key blocks c refusal old new → AsksOn left (set left i c.blocks) refusal old new
seeks_asking left i key [] c refusal old new at h =
    stays_asking left (set left i c.blocks) refusal old new (ap (λ (d : Cursor). set left i d.blocks) h.0.stands ∙ set_itself left i [] at) h.1 (no_fault [] refusal tt h.0.refused)
seeks_asking left i key (b ∷ rest) c refusal old new at h = enters_on (sought key) left i b rest c refusal old new at (λ bytes. fair_sought key (entries_in bytes) (fair_in bytes)) h

-- a cursor that isn't made
pub refused_asking : (left : List (List PlacedBlock)) (i : ℕ) (key : Bytes) (blocks : List PlacedBlock) (e : Refusal) (old new : Source)
    → slice_get left i ≡ Some blocks → SeeksTo key blocks (Err e) old new → AsksSome left (Some e) old new
refused_asking left i key blocks e old new at (inl p) = stays_asking left left (Some e) old new refl p.1 (ap (λ (x : Refusal). is_faultless (Some x)) p.0)
refused_asking left i key blocks e old new at (inr k) = seeks_asking left i key blocks k.0 (Some e) old new at k.1

-- one after the other
pub asks_then : (left mid next : List (List PlacedBlock)) (refusal : Option Refusal) (a b c : Source) → AsksOn left mid None a b → AsksOn mid next refusal b c → AsksOn left next refusal a c
asks_then left mid next None a b c first then = λ r end more. first r end (then r end more)
asks_then left mid next (Some e) a b c first then = first (Some e) c then

pub asks_end : (left next : List (List PlacedBlock)) (refusal : Option Refusal) (a b : Source) → AsksOn left next refusal a b → AsksSome left refusal a b
asks_end left next None a b on = on None b (asks_nothing next None b refl)
asks_end left next (Some e) a b on = on

-- ---- what it comes to

io_fault : (refusal : Option Refusal) → is_faultless refusal ≡ true → refusal ≡ Some Io → ⊥
io_fault refusal fair io = let clash : true ≡ false = sym fair ∙ ap is_faultless io in cc

fewer_blocks : (left : List (List PlacedBlock)) (i : ℕ) (b : PlacedBlock) (rest : List PlacedBlock) → slice_get left i ≡ Some (b ∷ rest) → blocks_in left ≡ suc (blocks_in (set left i rest))
fewer_blocks [] i b rest is = absurd (let clash : None ≡ Some (b ∷ rest) = is in cc)
fewer_blocks (blocks ∷ left) zero b rest is = let same = ap length (same_Some blocks (b ∷ rest) is) in omega (arith, same)
fewer_blocks (blocks ∷ left) (suc i) b rest is = let more = fewer_blocks left i b rest is in omega (arith, more)

-- the device is read alone, and how often
pub record Sums (left : List (List PlacedBlock)) (refusal : Option Refusal) (old new : Source) : Type 0 where
  pub reads : OnlyReads old.medium new.medium
  pub at_most : AtMost (8 * blocks_in left) 0 0 old.medium.calls new.medium.calls
  pub faults : new.medium.calls.faults ≡ faults_after (is_faultless refusal) old.medium.calls.faults
  pub stops : refusal ≡ Some Io → IsTrue new.medium.calls.last_faulted
  pub numbered : (number : ℕ) → AllByRecursion (AllByRecursion (λ b. b.name.table < number)) left → IsNumberedBelow number old.cache → IsNumberedBelow number new.cache

sums_none : (left : List (List PlacedBlock)) (refusal : Option Refusal) (s : Source) → is_faultless refusal ≡ true → Sums left refusal s s
sums_none left refusal s fair =
    let none = asks_none [] refusal s s fair (io_fault refusal fair) refl in
    record {
      reads = none.reads;
      at_most = record { read = (0, omega arith, refl); written = (0, omega arith, refl); synced = (0, omega arith, refl) };
      faults = none.faults;
      stops = none.stops;
      numbered = λ number all below. below;
    }

sums_given : (left : List (List PlacedBlock)) (i : ℕ) (b : PlacedBlock) (rest : List PlacedBlock) (bytes : List ℕ) (refusal : Option Refusal) (old mid new : Source)
    → slice_get left i ≡ Some (b ∷ rest) → IsGiven b bytes old mid → Sums (set left i rest) refusal mid new → Sums left refusal old new
sums_given left i b rest bytes refusal old mid new at g more =
    let one = asks_given b [] bytes None old mid refl (λ e. let clash : None ≡ Some Io = e in cc) g in
    record {
      reads = more_reads old.medium mid.medium new.medium one.reads more.reads;
      at_most = AtMost-joined 8 0 0 (8 * blocks_in (set left i rest)) 0 0 (8 * blocks_in left) 0 0 old.medium.calls mid.medium.calls new.medium.calls (omega (arith, fewer_blocks left i b rest at)) (omega arith) (omega arith) one.at_most more.at_most;
      faults = more.faults ∙ ap (faults_after (is_faultless refusal)) one.faults;
      stops = more.stops;
      numbered = λ number all below.
          let here = all_of_place (AllByRecursion (λ b. b.name.table < number)) left i (b ∷ rest) at all in
          more.numbered number (all_with (AllByRecursion (λ b. b.name.table < number)) left i rest here.1 all) (one.numbered number (here.0, tt) below);
    }

sums_denied : (left : List (List PlacedBlock)) (i : ℕ) (b : PlacedBlock) (rest : List PlacedBlock) (refusal : Option Refusal) (old new : Source)
    → slice_get left i ≡ Some (b ∷ rest) → refusal ≡ Some Io → IsDenied b old new → Sums left refusal old new
sums_denied left i b rest refusal old new at io d =
    let one = asks_denied b [] refusal old new io d in
    record {
      reads = one.reads;
      at_most = AtMost-wider 8 0 0 (8 * blocks_in left) 0 0 old.medium.calls new.medium.calls (omega (arith, fewer_blocks left i b rest at)) (omega arith) (omega arith) one.at_most;
      faults = one.faults;
      stops = one.stops;
      numbered = λ number all below. one.numbered number ((all_of_place (AllByRecursion (λ b. b.name.table < number)) left i (b ∷ rest) at all).0, tt) below;
    }

pub sums : (left : List (List PlacedBlock)) (asked : List PlacedBlock) (refusal : Option Refusal) (old new : Source) → AsksInTurn left asked refusal old new → Sums left refusal old new
sums left [] refusal old new h = subst (Sums left refusal old) (sym h.1) (sums_none left refusal old h.0)
sums left (b ∷ asked) refusal old new h = by h.3 (λ mid k. sums (set left h.0 h.1) asked refusal mid new k)
  where
    by : ((bytes : List ℕ) × (mid : Source) × IsGiven b bytes old mid × AsksInTurn (set left h.0 h.1) asked refusal mid new) ⊎ ((refusal ≡ Some Io) × (asked ≡ []) × IsDenied b old new) → ((mid : Source) → AsksInTurn (set left h.0 h.1) asked refusal mid new → Sums (set left h.0 h.1) refusal mid new) → Sums left refusal old new
    by (inl g) more = sums_given left h.0 b h.1 g.0 refusal old g.1 new h.2 g.2 (more g.1 g.3)
    by (inr d) more = sums_denied left h.0 b h.1 refusal old new h.2 d.0 d.2

module _ (place : BlockName → Option ℕ) (sectors : List (List ℕ)) where
  abbrev ArePlacedAt : List (List PlacedBlock) → Type 0
  ArePlacedAt left = AllByRecursion (AllByRecursion (IsPlacedAt place)) left

  pub still_shown : (left : List (List PlacedBlock)) (asked : List PlacedBlock) (refusal : Option Refusal) (old new : Source) → ArePlacedAt left → Shows place sectors old → AsksInTurn left asked refusal old new → Shows place sectors new
  still_shown left [] refusal old new all st h = subst (Shows place sectors) (sym h.1) st
  still_shown left (b ∷ asked) refusal old new all st h = by h.3 (λ mid k stays. still_shown (set left h.0 h.1) asked refusal mid new (all_with (AllByRecursion (IsPlacedAt place)) left h.0 h.1 here.1 all) stays k)
    where
      here : AllByRecursion (IsPlacedAt place) (b ∷ h.1)
      here = all_of_place (AllByRecursion (IsPlacedAt place)) left h.0 (b ∷ h.1) h.2 all

      by : ((bytes : List ℕ) × (mid : Source) × IsGiven b bytes old mid × AsksInTurn (set left h.0 h.1) asked refusal mid new) ⊎ ((refusal ≡ Some Io) × (asked ≡ []) × IsDenied b old new)
          → ((mid : Source) → AsksInTurn (set left h.0 h.1) asked refusal mid new → Shows place sectors mid → Shows place sectors new) → Shows place sectors new
      by (inl g) more = more g.1 g.3 (given_shows place sectors b g.0 old g.1 here.0 st g.2)
      by (inr d) more = shows_read place sectors old new d.2.only_reads (subst (IsFresh place sectors) (sym d.2.stays) st.fresh) st
