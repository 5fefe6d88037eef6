-- Named blocks of tables, and caches of them.
use Rattle.std.proofs.Common.{◌≡◌, ◌≢◌, ◌⊎◌, inl, inr, ⊎_elim, ℕ, zero, suc, ◌+◌, ◌*◌, ◌<◌, Bool, true, false, cond, ltb, List, [], ◌∷◌, length, filter, get_or, set, Option, Some, None, refl, sym, ap, ◌∙◌, subst, arith}
use Rattle.std.specs.Prelude.{◌==◌, IfSome}
use Rattle.std.specs.List.{AllByRecursion}
use Rattle.std.specs.Option.{option_or}
use Rattle.std.proofs.lemmas.Bool.{and_from, and_parts, eqb-true, eq-eqb, ltb-true, lt-ltb}
use Rattle.std.proofs.lemmas.List.Elements.{All-weaker}
use Rattle.std.proofs.lemmas.Option.{same_Some}
use Rattle.lsm_device.specs.declared.refusal.Refusal.{Refusal}
use Rattle.lsm_codec.specs.Keys.{Bytes}
use Rattle.lsm_codec.specs.Versions.{Version, newest}
use Rattle.lsm_cache.specs.declared.name.BlockName.{BlockName}
use Rattle.lsm_cache.specs.Fresh.{IsFresh}
use Rattle.lsm_cache.specs.Reads.{block_at}
use Rattle.lsm_cache.specs.Recency.{Cached, named_block}
use Rattle.lsm_cache.proofs.Kept.{All-asked}
use Rattle.lsm_levels.specs.Among.{IsAmong}
use Rattle.lsm_levels.specs.Asking.{Source, Says, sector_of, asked_of_run}
use Rattle.lsm_levels.specs.Cursors.{blocks_from_key, passed_blocks}
use Rattle.lsm_levels.specs.Levels.{all_tables}
use Rattle.lsm_levels.specs.Lookups.{LooksUp, LooksUpUnless}
use Rattle.lsm_levels.specs.NamedBlocks.{is_block_of, place_among, AreNumberedApart, HasSameBlocks, HasNoBlock, HaveNone, NamedLaw}
use Rattle.lsm_levels.specs.Scans.{AsksInTurn, blocks_of_runs}
use Rattle.lsm_levels.specs.Stored.{IsPlaced, ArePlaced, blocks_from}
use Rattle.lsm_levels.specs.Tables.{Table, at_most}
use Rattle.lsm_levels.specs.declared.placed.PlacedBlock.{PlacedBlock}
use Rattle.lsm_levels.proofs.AskedLaws.{of_run}
use Rattle.lsm_levels.proofs.CursorBlocks.{all_blocks, left_of_all}
use Rattle.lsm_levels.proofs.LookingUp.{Outcome, looks_keep}
use Rattle.lsm_levels.proofs.Members.{among_left, among_right}
use Rattle.lsm_codec.proofs.Lists.{all_filter}
use Rattle.lsm_levels.proofs.Ranges.{all_of, of_all}
use Rattle.lsm_levels.proofs.ScanAsking.{all_of_place, all_with}

-- ---- places

-- a block is that of a table where number and place are so
block_of : (name : BlockName) (t : Table) → is_block_of name t ≡ true → (t.number ≡ name.table) × (name.block < length t.outline.edges)
block_of name t h =
    let parts = and_parts (t.number == name.table) (ltb name.block (length t.outline.edges)) h in
    (eqb-true t.number name.table parts.0, ltb-true name.block (length t.outline.edges) parts.1)

of_block : (name : BlockName) (t : Table) → t.number ≡ name.table → name.block < length t.outline.edges → is_block_of name t ≡ true
of_block name t same lt = and_from (t.number == name.table) (ltb name.block (length t.outline.edges)) (eq-eqb t.number name.table same) (lt-ltb name.block (length t.outline.edges) lt)

-- a place is that of a block of one of the tables
record Found (area : ℕ) (tables : List Table) (name : BlockName) (at : ℕ) : Type 0 where
  pub table : Table
  pub among : IsAmong table tables
  pub block : is_block_of name table ≡ true
  pub is : at ≡ sector_of area table name.block

found_in : (area : ℕ) (tables : List Table) (name : BlockName) (at : ℕ) → place_among area tables name ≡ Some at → Found area tables name at
found_in area [] name at e = absurd (none_some at e)
  where
    none_some : (n : ℕ) → None ≡ Some n → ⊥
    none_some n e = cc
found_in area (t ∷ rest) name at e = by (found_in area rest name at) (is_block_of name t) refl e
  where
    by : (place_among area rest name ≡ Some at → Found area rest name at) → (b : Bool) → is_block_of name t ≡ b → cond b (Some (sector_of area t name.block)) (place_among area rest name) ≡ Some at → Found area (t ∷ rest) name at
    by more true h e = record { table = t; among = inl refl; block = h; is = sym (same_Some (sector_of area t name.block) at e) }
    by more false h e = let later = more e in record { table = later.table; among = inr later.among; block = later.block; is = later.is }

-- each block of tables with numbers of their own is found
placed_in : (area : ℕ) (tables : List Table) (name : BlockName) (t : Table) → AreNumberedApart tables → IsAmong t tables → is_block_of name t ≡ true → place_among area tables name ≡ Some (sector_of area t name.block)
placed_in area [] name t apart a h = absurd a
placed_in area (u ∷ rest) name t apart (inl e) h =
    ap (λ (b : Bool). cond b (Some (sector_of area u name.block)) (place_among area rest name)) (sym (ap (is_block_of name) e) ∙ h) ∙ ap (λ (x : Table). Some (sector_of area x name.block)) (sym e)
placed_in area (u ∷ rest) name t apart (inr a) h = by (placed_in area rest name t apart.1 a h) (is_block_of name u) refl
  where
    by : place_among area rest name ≡ Some (sector_of area t name.block) → (b : Bool) → is_block_of name u ≡ b → cond b (Some (sector_of area u name.block)) (place_among area rest name) ≡ Some (sector_of area t name.block)
    by more true g = absurd (of_all (λ (x : Table). x.number ≢ u.number) rest apart.0 t a ((block_of name t h).0 ∙ sym (block_of name u g).0))
    by more false g = more

each_placed : (area : ℕ) (tables : List Table) → AreNumberedApart tables → (run : List Table) → ((t : Table) → IsAmong t run → IsAmong t tables) → AllByRecursion (IsPlaced (place_among area tables) area) run
each_placed area tables apart run among =
    all_of (IsPlaced (place_among area tables) area) run (λ t a. record { at = λ i lt. placed_in area tables (named_block t.number i) t apart (among t a) (of_block (named_block t.number i) t refl lt) })

all_placed : (area : ℕ) (tables : List Table) → AreNumberedApart tables → (runs : List (List Table)) → ((t : Table) → IsAmong t (all_tables runs) → IsAmong t tables) → ArePlaced (place_among area tables) area runs
all_placed area tables apart [] among = tt
all_placed area tables apart (run ∷ rest) among =
    (each_placed area tables apart run (λ t a. among t (among_left t run (all_tables rest) a)), all_placed area tables apart rest (λ t a. among t (among_right t run (all_tables rest) a)))

-- ---- fresh caches

block_in : (sectors : List (List ℕ)) (at n i : ℕ) → i < n → get_or (blocks_from sectors at n) i [] ≡ block_at sectors (at + 8 * i)
block_in sectors at zero i lt = absurd (omega (arith, lt))
block_in sectors at (suc n) zero lt = let here : at ≡ at + 8 * 0 = omega arith in ap (block_at sectors) here
block_in sectors at (suc n) (suc i) lt =
    let next : at + 8 + 8 * i ≡ at + 8 * suc i = omega arith in
    block_in sectors (at + 8) n i (omega (arith, lt)) ∙ ap (block_at sectors) next

same_block : (area : ℕ) (old new : List (List ℕ)) (t : Table) (i : ℕ) → HasSameBlocks area old new t → i < length t.outline.edges → block_at new (sector_of area t i) ≡ block_at old (sector_of area t i)
same_block area old new t i same lt =
    let at : sector_of area t 0 + 8 * i ≡ sector_of area t i = omega arith in
    let n = length t.outline.edges in
    ap (block_at new) (sym at) ∙ sym (block_in new (sector_of area t 0) n i lt) ∙ ap (λ (bs : List (List ℕ)). get_or bs i []) same ∙ block_in old (sector_of area t 0) n i lt ∙ ap (block_at old) at

abbrev Block : Type 0
Block = BlockName × List ℕ

-- what holds of the place of a block
if_placed : (P Q : ℕ → Type 0) (o : Option ℕ) → ((at : ℕ) → o ≡ Some at → P at → Q at) → IfSome o P → IfSome o Q
if_placed P Q None f h = h
if_placed P Q (Some at) f h = f at refl h

fresh_kept : (area : ℕ) (old new : List (List ℕ)) (tables : List Table) (c : Cached) → AllByRecursion (HasSameBlocks area old new) tables → IsFresh (place_among area tables) old c → IsFresh (place_among area tables) new c
fresh_kept area old new tables c same fresh =
    All-weaker (λ (b : Block). IfSome (place_among area tables b.0) (λ at. b.1 ≡ block_at old at)) (λ (b : Block). IfSome (place_among area tables b.0) (λ at. b.1 ≡ block_at new at))
    (λ b. if_placed (λ at. b.1 ≡ block_at old at) (λ at. b.1 ≡ block_at new at) (place_among area tables b.0) (λ at e is. is ∙ moved b.0 at e)) c.blocks fresh
  where
    moved : (name : BlockName) (at : ℕ) → place_among area tables name ≡ Some at → block_at old at ≡ block_at new at
    moved name at e =
        let f = found_in area tables name at e in
        let lt = (block_of name f.table f.block).1 in
        ap (block_at old) f.is ∙ sym (same_block area old new f.table name.block (of_all (HasSameBlocks area old new) tables same f.table f.among) lt) ∙ ap (block_at new) (sym f.is)

fresh_others : (area : ℕ) (sectors : List (List ℕ)) (before after : List Table) (c : Cached) → AreNumberedApart before → ((t : Table) → IsAmong t after → IsAmong t before ⊎ HasNoBlock t.number c)
    → IsFresh (place_among area before) sectors c → IsFresh (place_among area after) sectors c
fresh_others area sectors before after c apart each fresh = λ k d lt. of_one (get_or c.blocks k d) (place_among area after (get_or c.blocks k d).0) refl (fresh k d lt) (λ number none. none k d lt)
  where
    of_one : (b : Block) (o : Option ℕ) → place_among area after b.0 ≡ o → IfSome (place_among area before b.0) (λ at. b.1 ≡ block_at sectors at) → ((number : ℕ) → HasNoBlock number c → b.0.table ≢ number) → IfSome o (λ at. b.1 ≡ block_at sectors at)
    of_one b None e old none = tt
    of_one b (Some at) e old none =
        let f = found_in area after b.0 at e in
        ⊎_elim
        (λ a. subst (λ (n : ℕ). b.1 ≡ block_at sectors n) (sym f.is) (subst (λ (o : Option ℕ). IfSome o (λ n. b.1 ≡ block_at sectors n)) (placed_in area before b.0 f.table apart a f.block) old))
        (λ no. absurd (none f.table.number no (sym (block_of b.0 f.table f.block).0)))
        (each f.table f.among)

-- ---- what look-ups and scans take in

module _ (number : ℕ) where
  abbrev Lacks : Source → Type 0
  Lacks s = HasNoBlock number s.cache

  abbrev Other : PlacedBlock → Type 0
  Other b = b.name.table ≢ number

  says_lacks : (key : Bytes) (n : ℕ) (o : Option PlacedBlock) → ((b : PlacedBlock) → o ≡ Some b → Other b) → (found : Outcome) (old new : Source) → Says key n o found old new → Lacks old → Lacks new
  says_lacks key n None other found old new h lacks = subst Lacks (sym h.1) lacks
  says_lacks key n (Some b) other found old new (inl s) lacks = All-asked (λ (x : Block). x.0.table ≢ number) b.name s.bytes old.cache new.cache (other b refl) lacks s.given.keeps
  says_lacks key n (Some b) other found old new (inr d) lacks = subst (HasNoBlock number) (sym d.1.stays) lacks

  looks_lacks : (area : ℕ) (key : Bytes) (n : ℕ) (runs : List (List Table)) (found : Outcome) (old new : Source) → LooksUp area key n runs found old new → HaveNone number runs → Lacks old → Lacks new
  looks_lacks area key n runs found old new h all lacks =
      looks_keep area key n Lacks (AllByRecursion (λ t. t.number ≢ number))
      (λ run q f a b says so_far.
      says_lacks key n (asked_of_run area key n run) (λ p e. of_run area key n (λ t. t.number ≢ number) Other (λ t i low lt. low) run p q e) f a b says so_far)
      runs all found old new h lacks

  unless_lacks : (newer : Option Version) (area : ℕ) (key : Bytes) (n : ℕ) (runs : List (List Table)) (found : Outcome) (old new : Source) → LooksUpUnless newer area key n runs found old new → HaveNone number runs → Lacks old → Lacks new
  unless_lacks (Some v) area key n runs found old new h all lacks = subst Lacks (sym h.1) lacks
  unless_lacks None area key n runs found old new h all lacks = looks_lacks area key n runs found old new h all lacks

  asks_lacks : (left : List (List PlacedBlock)) (asked : List PlacedBlock) (refusal : Option Refusal) (old new : Source) → AsksInTurn left asked refusal old new → AllByRecursion (AllByRecursion Other) left → Lacks old → Lacks new
  asks_lacks left [] refusal old new h all lacks = subst Lacks (sym h.1) lacks
  asks_lacks left (b ∷ asked) refusal old new h all lacks =
      let here = all_of_place (AllByRecursion Other) left h.0 (b ∷ h.1) h.2 all in
      ⊎_elim
      (λ g. asks_lacks (set left h.0 h.1) asked refusal g.1 new g.3 (all_with (AllByRecursion Other) left h.0 h.1 here.1 all)
      (All-asked (λ (x : Block). x.0.table ≢ number) b.name g.0 old.cache g.1.cache here.0 lacks g.2.keeps))
      (λ d. subst (HasNoBlock number) (sym d.2.stays) lacks)
      h.3

  blocks_other : (area : ℕ) (key : Bytes) (run : List Table) → AllByRecursion (λ t. t.number ≢ number) run → AllByRecursion Other (blocks_from_key area key run)
  blocks_other area key run all =
      let tables : List Table = filter (λ t. at_most key t.last) run in
      left_of_all Other area (passed_blocks key tables) tables
      (all_blocks (λ t. t.number ≢ number) Other area (λ t i low lt. low) tables (all_filter (λ t. t.number ≢ number) (λ t. at_most key t.last) run all))

  runs_other : (area : ℕ) (key : Bytes) (runs : List (List Table)) → HaveNone number runs → AllByRecursion (AllByRecursion Other) (blocks_of_runs area key runs)
  runs_other area key [] all = tt
  runs_other area key (run ∷ rest) all = (blocks_other area key run all.0, runs_other area key rest all.1)

pub named_law : NamedLaw
named_law = record {
  placed = λ area runs apart. all_placed area (all_tables runs) apart runs (λ t a. a);
  kept = fresh_kept;
  others = fresh_others;
  looked = λ memory sealed runs area key n number answer old new h all lacks. unless_lacks number (option_or (newest key n memory) (newest key n sealed)) area key n runs h.found old new h.looks all lacks;
  tested = λ memory sealed runs area condition n number met old new h all lacks. unless_lacks number (option_or (newest condition.key n memory) (newest condition.key n sealed)) area condition.key n runs h.found old new h.looks all lacks;
  scanned = λ area key runs number refusal old new h all lacks. asks_lacks number (blocks_of_runs area key runs) h.asks.asked refusal old new h.asks.in_turn (runs_other number area key runs all) lacks;
}
