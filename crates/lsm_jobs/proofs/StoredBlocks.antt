-- The versions of a table that stands, in its data blocks from one on.
use Rattle.std.proofs.Common.{◌≡◌, ℕ, zero, suc, ◌<◌, Bool, true, false, cond, ◌&&◌, List, [], ◌∷◌, ◌++◌, length, map, take, drop, filter, Some, None, Ok, refl, sym, ap, subst, ◌∙◌, arith}
use Rattle.std.specs.Prelude.{option_map}
use Rattle.std.specs.List.{AllByRecursion, list_all}
use Rattle.std.specs.declared.cmp.Ordering.{Ordering}
use Rattle.std.specs.declared.cmp.Ordering.TheVariants.{Less, Equal, Greater}
use Rattle.std.specs.Ordering.{is_lt}
use Rattle.std.proofs.lemmas.Cmp.{tied_itself}
use Rattle.std.proofs.lemmas.List.{map-append}
use Rattle.std.proofs.lemmas.List.Elements.{filter-append}
use Rattle.std.proofs.lemmas.Option.{same_Some}
use Rattle.lsm_codec.specs.Reading.{◌>>=◌}
use Rattle.lsm_codec.specs.Versions.{Version, entry_order, AreOrdered}
use Rattle.lsm_codec.specs.Indexes.{Edge}
use Rattle.lsm_codec.specs.Entries.{entries_in, all_ok, block_of}
use Rattle.lsm_codec.proofs.Readers.{bind_some}
use Rattle.lsm_table.specs.Division.{Block, TableBlocks, entries_of}
use Rattle.lsm_table.specs.BlockEdges.{last_edge, edges_of}
use Rattle.lsm_table.specs.Places.{stands_before}
use Rattle.lsm_table.specs.Stored.{table_of}
use Rattle.lsm_table.proofs.Orders.{Before, before_along, next_before, befores, later_pairs, front_pairs}
use Rattle.lsm_table.proofs.Items.{Item}
use Rattle.lsm_mem.proofs.OrderTests.{entry_order_total}
use Rattle.lsm_codec.proofs.Lists.{filter_all, filter_none, all_map}
use Rattle.lsm_levels.proofs.StoredLaws.{block_entries}
use Rattle.lsm_jobs.specs.Gathering.{items_in}

-- ---- which versions the edge of a block stands before

at_edge : Edge → Version
at_edge e = record { key = e.key; number = e.number; value = None }

not_less : (o : Ordering) → (o ≡ Less → ⊥) → is_lt o ≡ false
not_less Less h = absurd (h refl)
not_less Equal h = refl
not_less Greater h = refl

less_not : (o : Ordering) → o ≡ Less → is_lt o ≡ false → ⊥
less_not Less e h = cc
less_not Equal e h = cc
less_not Greater e h = cc

-- not before those of its own block
own_edge : (v : Version) (block : Block) → AreOrdered (v ∷ block) → AllByRecursion (λ w. stands_before w.key w.number (last_edge v block) ≡ false) (v ∷ block)
own_edge v [] ordered = (ap is_lt (tied_itself entry_order_total v), tt)
own_edge v (w ∷ block) ordered =
    let rest = own_edge w block ordered.1 in
    let last : Version = record { key = (last_edge w block).key; number = (last_edge w block).number; value = v.value } in
    (not_less (entry_order last v) (λ e. less_not (entry_order last w) (before_along last v w e (next_before v w block ordered)) rest.0), rest)

-- but before all that follow
earlier_edge : (v : Version) (block : Block) (behind : List Version) → AreOrdered ((v ∷ block) ++ behind) → AllByRecursion (λ w. stands_before w.key w.number (last_edge v block) ≡ true) behind
earlier_edge v [] behind ordered = all_map (λ w e. ap is_lt e) behind (befores v behind ordered)
earlier_edge v (w ∷ block) behind ordered = earlier_edge w block behind ordered.1

filter_same : {X : Type 0} (p q : X → Bool) (xs : List X) → AllByRecursion (λ x. p x ≡ q x) xs → filter p xs ≡ filter q xs
filter_same p q [] h = refl
filter_same p q (x ∷ xs) h = ap (λ b. cond b (x ∷ filter p xs) (filter p xs)) h.0 ∙ by (q x) (filter_same p q xs h.1)
  where
    by : (b : Bool) → filter p xs ≡ filter q xs → cond b (x ∷ filter p xs) (filter p xs) ≡ cond b (x ∷ filter q xs) (filter q xs)
    by true more = ap (λ l. x ∷ l) more
    by false more = more

all_true : (vs : List Version) → AllByRecursion (λ v. true ≡ true) vs
all_true [] = tt
all_true (v ∷ vs) = (refl, all_true vs)

-- whether the first i edges all stand before a version
abbrev AllBefore : ℕ → List Edge → Version → Bool
AllBefore i edges v = list_all (stands_before v.key v.number) (take i edges)

pub from_block : (i : ℕ) (table : TableBlocks) → AllByRecursion (λ block. 0 < length block) table → AreOrdered (entries_of table) → filter (λ v. list_all (stands_before v.key v.number) (take i (edges_of table))) (entries_of table) ≡ entries_of (drop i table)
from_block zero table some ordered = filter_all (AllBefore 0 (edges_of table)) (entries_of table) (all_true (entries_of table))
from_block (suc i) [] some ordered = refl
from_block (suc i) ([] ∷ table) some ordered = absurd (omega (arith, some.0))
from_block (suc i) ((v ∷ block) ∷ table) some ordered =
    let e = last_edge v block in
    let rest = entries_of table in
    let p : Version → Bool = AllBefore (suc i) (e ∷ edges_of table) in
    let q : Version → Bool = AllBefore i (edges_of table) in
    let none : filter p (v ∷ block) ≡ [] = filter_none p (v ∷ block) (all_map (λ w h. ap (λ b. b && q w) h) (v ∷ block) (own_edge v block (front_pairs (v ∷ block) rest ordered))) in
    let same : filter p rest ≡ filter q rest = filter_same p q rest (all_map (λ w h. ap (λ b. b && q w) h) rest (earlier_edge v block rest ordered)) in
    filter-append p (v ∷ block) rest ∙ ap (λ l. l ++ filter p rest) none ∙ same ∙ from_block i table some.1 (later_pairs Before (v ∷ block) rest ordered)

-- ---- what blocks spell

abbrev pub ok : Version → Item
ok v = Ok v

abbrev pub Spell : List (List ℕ) → TableBlocks → Type 0
Spell [] [] = Unit {0}
Spell [] (block ∷ table) = ⊥
Spell (b ∷ bs) [] = ⊥
Spell (b ∷ bs) (block ∷ table) = (entries_in b ≡ map ok block) × Spell bs table

pub spelled : (bs : List (List ℕ)) (table : TableBlocks) → table_of bs ≡ Some table → Spell bs table
spelled [] table e = subst (Spell []) (same_Some [] table e) tt
spelled (b ∷ bs) table e =
    let p = bind_some (block_of b) (λ (es : Block). table_of bs >>= λ r. Some (es ∷ r)) table e in
    let q = bind_some (table_of bs) (λ (r : TableBlocks). Some (p.0 ∷ r)) table p.2 in
    subst (Spell (b ∷ bs)) (same_Some (p.0 ∷ q.0) table q.2) (block_entries b p.0 p.1, spelled bs q.0 q.1)

pub spell_append : (bs cs : List (List ℕ)) (table other : TableBlocks) → Spell bs table → Spell cs other → Spell (bs ++ cs) (table ++ other)
spell_append [] cs [] other h k = k
spell_append [] cs (block ∷ table) other h k = absurd h
spell_append (b ∷ bs) cs [] other h k = absurd h
spell_append (b ∷ bs) cs (block ∷ table) other h k = (h.0, spell_append bs cs table other h.1 k)

pub spell_drop : (n : ℕ) (bs : List (List ℕ)) (table : TableBlocks) → Spell bs table → Spell (drop n bs) (drop n table)
spell_drop zero bs table h = h
spell_drop (suc n) [] [] h = tt
spell_drop (suc n) [] (block ∷ table) h = absurd h
spell_drop (suc n) (b ∷ bs) [] h = absurd h
spell_drop (suc n) (b ∷ bs) (block ∷ table) h = spell_drop n bs table h.1

pub spell_take : (n : ℕ) (bs : List (List ℕ)) (table : TableBlocks) → Spell bs table → Spell (take n bs) (take n table)
spell_take zero bs table h = tt
spell_take (suc n) [] [] h = tt
spell_take (suc n) [] (block ∷ table) h = absurd h
spell_take (suc n) (b ∷ bs) [] h = absurd h
spell_take (suc n) (b ∷ bs) (block ∷ table) h = (h.0, spell_take n bs table h.1)

pub spell_items : (bs : List (List ℕ)) (table : TableBlocks) → Spell bs table → items_in bs ≡ map ok (entries_of table)
spell_items [] [] h = refl
spell_items [] (block ∷ table) h = absurd h
spell_items (b ∷ bs) [] h = absurd h
spell_items (b ∷ bs) (block ∷ table) h =
    ap (λ (l : List Item). l ++ items_in bs) h.0 ∙ ap (λ (l : List Item). map ok block ++ l) (spell_items bs table h.1) ∙ sym (map-append ok block (entries_of table))

pub spell_length : (bs : List (List ℕ)) (table : TableBlocks) → Spell bs table → length table ≡ length bs
spell_length [] [] h = refl
spell_length [] (block ∷ table) h = absurd h
spell_length (b ∷ bs) [] h = absurd h
spell_length (b ∷ bs) (block ∷ table) h = ap suc (spell_length bs table h.1)

all_are_ok : (vs : List Version) → all_ok (map ok vs) ≡ Some vs
all_are_ok [] = refl
all_are_ok (v ∷ vs) = ap (option_map (λ (xs : List Version). v ∷ xs)) (all_are_ok vs)

-- entries are told by the items that they are
pub same_entries : (vs ws : List Version) → map ok vs ≡ map ok ws → vs ≡ ws
same_entries vs ws e = same_Some vs ws (sym (all_are_ok vs) ∙ ap all_ok e ∙ all_are_ok ws)
