-- The tables that are made of an input.
use Rattle.std.proofs.Common.{◌≡◌, ◌≢◌, inl, inr, ⊎_elim, ℕ, zero, suc, ◌<◌, Bool, true, false, List, [], ◌∷◌, ◌++◌, length, get_or, refl, sym, ap, subst, ◌∙◌, append-nil, arith}
use Rattle.std.specs.Prelude.{Contains}
use Rattle.std.specs.List.{AllByRecursion, flat_map}
use Rattle.std.specs.declared.cmp.Ordering.{Ordering}
use Rattle.std.specs.declared.cmp.Ordering.TheVariants.{Less, Equal, Greater}
use Rattle.std.specs.Ordering.{is_lt, is_gt, is_eq, nat_cmp}
use Rattle.std.proofs.lemmas.Bool.{and_from, le-leb}
use Rattle.std.proofs.lemmas.List.Elements.{recursion_from_All}
use Rattle.lsm_codec.specs.Keys.{Bytes, byte_order}
use Rattle.lsm_codec.specs.Pairs.{Pairwise}
use Rattle.lsm_codec.specs.Versions.{Version, newest, AreOrdered}
use Rattle.lsm_codec.proofs.KeyOrder.{same_key, key_itself}
use Rattle.lsm_codec.proofs.Lists.{all_right}
use Rattle.lsm_table.specs.Division.{Block, TableBlocks, ShareNoKey, entries_of}
use Rattle.lsm_table.specs.BlockEdges.{last_edge, edges_of, last_key}
use Rattle.lsm_table.proofs.Orders.{Before, befores, later_pairs, next_before, keys_rise}
use Rattle.lsm_merge.specs.Divisions.{AreTables}
use Rattle.lsm_merge.specs.Inputs.{MergeInput, kept_of}
use Rattle.lsm_mem.specs.Versions.{joined}
use Rattle.lsm_merge.specs.Keeping.{keep}
use Rattle.lsm_merge.specs.Laws.{IsKeptAt, KeepsMaps}
use Rattle.lsm_merge.proofs.MapLaws.{keep_law}
use Rattle.lsm_levels.specs.Among.{IsAmong}
use Rattle.lsm_levels.specs.Tables.{Table, IsRun, at_most, is_below, versions_of}
use Rattle.lsm_levels.specs.Pick.{Flush}
use Rattle.lsm_levels.specs.Held.{IsRanged, AreRanged, IsWithin, AreOutputs, AreVersionsOf}
use Rattle.lsm_levels.proofs.KeyOrder.{at_most_trans, at_most_itself}
use Rattle.lsm_levels.proofs.Members.{among_left, among_right, among_either}
use Rattle.lsm_levels.proofs.Ranges.{all_of, of_all}
use Rattle.lsm_levels.proofs.Taking.{in_tables, of_table}
use Rattle.lsm_jobs.specs.Outputs.{IsTableOf, AreTablesOf, AreMadeOf}
use Rattle.lsm_jobs.specs.Outcomes.{SeesSome, ReplaceInputs, OutputsLaw}
use Rattle.lsm_jobs.proofs.Accepted.{tables_of}
use Rattle.lsm_levels.proofs.RunOrders.{is_there}
use Rattle.lsm_mem.proofs.FirstLaws.{then_le}

-- ---- versions in order, from the first to the last

rises : (v w : Version) → Before v w → at_most v.key w.key ≡ true
rises v w before = then_le (byte_order v.key w.key) (nat_cmp w.number v.number) before

abbrev last_or : Version → List Version → Version
last_or v [] = v
last_or v (w ∷ rest) = last_or w rest

last_among : (v : Version) (rest : List Version) → IsAmong (last_or v rest) (v ∷ rest)
last_among v [] = inl refl
last_among v (w ∷ rest) = inr (last_among w rest)

to_last : (v : Version) (rest : List Version) → AreOrdered (v ∷ rest) → AllByRecursion (λ w. at_most w.key (last_or v rest).key ≡ true) (v ∷ rest)
to_last v [] ordered = (at_most_itself v.key, tt)
to_last v (w ∷ rest) ordered =
    let more = to_last w rest ordered.1 in
    (at_most_trans v.key w.key (last_or w rest).key (rises v w (next_before v w rest ordered)) more.0, more)

from_first : (v w : Version) (rest : List Version) → AreOrdered (v ∷ rest) → IsAmong w (v ∷ rest) → at_most v.key w.key ≡ true
from_first v w rest ordered (inl e) = subst (λ (x : Version). at_most v.key x.key ≡ true) (sym e) (at_most_itself v.key)
from_first v w rest ordered (inr a) = rises v w (of_all (Before v) rest (befores v rest ordered) w a)

-- those of one list stand before those of the next
across : (xs ys : List Version) → AreOrdered (xs ++ ys) → (x y : Version) → IsAmong x xs → IsAmong y ys → Before x y
across [] ys ordered x y a b = absurd a
across (v ∷ xs) ys ordered x y (inl e) b = subst (λ (u : Version). Before u y) (sym e) (of_all (Before v) ys (all_right (Before v) xs ys (befores v (xs ++ ys) ordered)) y b)
across (v ∷ xs) ys ordered x y (inr a) b = across xs ys ordered.1 x y a b

-- of another key, a later version has a greater one
not_after : (o : Ordering) → is_gt o ≡ false → (is_eq o ≡ true → ⊥) → is_lt o ≡ true
not_after Less h k = refl
not_after Equal h k = absurd (k refl)
not_after Greater h k = absurd cc

next_key : (v w : Version) → Before v w → v.key ≢ w.key → is_below v.key w.key ≡ true
next_key v w before other = not_after (byte_order v.key w.key) (keys_rise v w before) (λ e. other (same_key v.key w.key e))

-- ---- the ends of a table

last_here : (v : Version) (block : Block) → (last_edge v block).key ≡ (last_or v block).key
last_here v [] = refl
last_here v (w ∷ block) = last_here w block

last_behind : (v : Version) (block : Block) (w : Version) (more : List Version) → last_or v (block ++ w ∷ more) ≡ last_or w more
last_behind v [] w more = refl
last_behind v (x ∷ block) w more = last_behind x block w more

last_is : (v : Version) (block : Block) (table : TableBlocks) → AllByRecursion (λ b. 0 < length b) table → last_key (edges_of ((v ∷ block) ∷ table)) ≡ (last_or v (block ++ entries_of table)).key
last_is v block [] some = last_here v block ∙ ap (λ (l : List Version). (last_or v l).key) (sym (append-nil block))
last_is v block ([] ∷ table) some = absurd (omega (arith, some.0))
last_is v block ((w ∷ next) ∷ table) some = last_is w next table some.1 ∙ sym (ap (λ (x : Version). x.key) (last_behind v block w (next ++ entries_of table)))

-- A table begins with the key of its first version and ends with that of its last.
record HasEnds (t : Table) : Type 0 where
  first : Version
  rest : List Version
  are : t.versions ≡ first ∷ rest
  ordered : AreOrdered (first ∷ rest)
  begins : t.first ≡ first.key
  ends : t.last ≡ (last_or first rest).key

ends_of : (image : TableBlocks) (t : Table) → IsTableOf image t → HasEnds t
ends_of [] t of = absurd (omega (arith, of.is.nonempty))
ends_of ([] ∷ image) t of = absurd (omega (arith, of.is.in_blocks.nonempty.0))
ends_of ((v ∷ block) ∷ image) t of = record {
  first = v;
  rest = block ++ entries_of image;
  are = ap (λ (u : Table). u.versions) of.same;
  ordered = of.is.ordered;
  begins = ap (λ (u : Table). u.first) of.same;
  ends = ap (λ (u : Table). u.last) of.same ∙ last_is v block image of.is.in_blocks.nonempty.1;
}

module _ (t : Table) (e : HasEnds t) where
  its : (v : Version) → IsAmong v t.versions → IsAmong v (e.first ∷ e.rest)
  its v a = subst (λ (l : List Version). IsAmong v l) e.are a

  in_range : IsRanged t
  in_range = record {
    within = λ v a. (
      subst (λ (k : Bytes). at_most k v.key ≡ true) (sym e.begins) (from_first e.first v e.rest e.ordered (its v a)),
      subst (λ (k : Bytes). at_most v.key k ≡ true) (sym e.ends) (of_all (λ (w : Version). at_most w.key (last_or e.first e.rest).key ≡ true) (e.first ∷ e.rest) (to_last e.first e.rest e.ordered) v (its v a)),
    );
  }

  has_range : at_most t.first t.last ≡ true
  has_range = subst (λ (k : Bytes). at_most t.first k ≡ true) (sym e.ends) (subst (λ (k : Bytes). at_most k (last_or e.first e.rest).key ≡ true) (sym e.begins) (to_last e.first e.rest e.ordered).0)

  has_first : IsAmong e.first t.versions
  has_first = subst (λ (l : List Version). IsAmong e.first l) (sym e.are) (inl refl)

  has_last : IsAmong (last_or e.first e.rest) t.versions
  has_last = subst (λ (l : List Version). IsAmong (last_or e.first e.rest) l) (sym e.are) (last_among e.first e.rest)

-- ---- tables of images

same_versions : (image : TableBlocks) (t : Table) → IsTableOf image t → t.versions ≡ entries_of image
same_versions image t of = ap (λ (u : Table). u.versions) of.same

all_versions : (images : List TableBlocks) (tables : List Table) → AreTablesOf images tables → versions_of tables ≡ flat_map entries_of images
all_versions [] [] of = refl
all_versions [] (t ∷ tables) of = absurd of
all_versions (image ∷ images) [] of = absurd of
all_versions (image ∷ images) (t ∷ tables) of =
    ap (λ (l : List Version). l ++ versions_of tables) (same_versions image t of.0) ∙ ap (λ (l : List Version). entries_of image ++ l) (all_versions images tables of.1)

all_ends : (images : List TableBlocks) (tables : List Table) → AreTablesOf images tables → (t : Table) → IsAmong t tables → HasEnds t
all_ends [] [] of t a = absurd a
all_ends [] (u ∷ tables) of t a = absurd of
all_ends (image ∷ images) [] of t a = absurd of
all_ends (image ∷ images) (u ∷ tables) of t (inl e) = subst HasEnds (sym e) (ends_of image u of.0)
all_ends (image ∷ images) (u ∷ tables) of t (inr a) = all_ends images tables of.1 t a

abbrev Apart : List TableBlocks → Type 0
Apart images = Pairwise (λ image other. ShareNoKey (entries_of image) (entries_of other)) images

-- the tables that follow begin above where one ends
above : (image : TableBlocks) (t : Table) → IsTableOf image t → (images : List TableBlocks) (tables : List Table) → AreTablesOf images tables → AllByRecursion (λ other. ShareNoKey (entries_of image) (entries_of other)) images
    → ((v w : Version) → IsAmong v (entries_of image) → IsAmong w (flat_map entries_of images) → Before v w) → AllByRecursion (λ u. is_below t.last u.first ≡ true) tables
above image t of [] [] others apart before = tt
above image t of [] (u ∷ tables) others apart before = absurd others
above image t of (other ∷ images) [] others apart before = absurd others
above image t of (other ∷ images) (u ∷ tables) others apart before =
    let e = ends_of image t of in
    let f = ends_of other u others.0 in
    let z = last_or e.first e.rest in
    let here : IsAmong z (entries_of image) = subst (λ (l : List Version). IsAmong z l) (same_versions image t of) (has_last t e) in
    let there : IsAmong f.first (entries_of other) = subst (λ (l : List Version). IsAmong f.first l) (same_versions other u others.0) (has_first u f) in
    let differ : z.key ≢ f.first.key = of_all (λ (w : Version). z.key ≢ w.key) (entries_of other) (of_all (λ (v : Version). AllByRecursion (λ w. v.key ≢ w.key) (entries_of other)) (entries_of image) apart.0 z here) f.first there in
    let below : is_below z.key f.first.key ≡ true = next_key z f.first (before z f.first here (among_left f.first (entries_of other) (flat_map entries_of images) there)) differ in (
      subst (λ (k : Bytes). is_below k u.first ≡ true) (sym e.ends) (subst (λ (k : Bytes). is_below z.key k ≡ true) (sym f.begins) below),
      above image t of images tables others.1 apart.1 (λ v w a b. before v w a (among_right w (entries_of other) (flat_map entries_of images) b)),
    )

are_run : (images : List TableBlocks) (tables : List Table) → AreTablesOf images tables → AreOrdered (flat_map entries_of images) → Apart images → IsRun tables
are_run [] [] of ordered apart = tt
are_run [] (t ∷ tables) of ordered apart = absurd of
are_run (image ∷ images) [] of ordered apart = absurd of
are_run (image ∷ images) (t ∷ tables) of ordered apart = (
  has_range t (ends_of image t of.0),
  above image t of.0 images tables of.1 (recursion_from_All (λ (other : TableBlocks). ShareNoKey (entries_of image) (entries_of other)) images apart.0) (across (entries_of image) (flat_map entries_of images) ordered),
  are_run images tables of.1 (later_pairs Before (entries_of image) (flat_map entries_of images) ordered) apart.1,
)

-- ---- what is made of an input

module _ (input : MergeInput) where
  keeps : KeepsMaps input.cuts (joined input.runs)
  keeps = keep_law input.cuts (joined input.runs)

  kept_ordered : AreOrdered (kept_of input)
  kept_ordered = keeps.ordered input.bottom

contained : (xs : List Version) (v : Version) → Contains xs v → IsAmong v xs
contained xs v c = at xs c.0 c.1 c.2
  where
    at : (ys : List Version) (k : ℕ) → k < length ys → get_or ys k v ≡ v → IsAmong v ys
    at [] k lt e = absurd (omega (arith, lt))
    at (y ∷ ys) zero lt e = inl (sym e)
    at (y ∷ ys) (suc k) lt e = inr (at ys k (omega (arith, lt)) e)

-- a version that is kept is one of the input
pub kept_among : (input : MergeInput) (v : Version) → IsAmong v (kept_of input) → IsAmong v (joined input.runs)
kept_among input v a =
    let all = recursion_from_All (Contains (joined input.runs)) (kept_of input) ((keeps input).among input.bottom) in
    contained (joined input.runs) v (of_all (Contains (joined input.runs)) (kept_of input) all v a)

module _ (input : MergeInput) (tables : List Table) (made : AreMadeOf input tables) where
  pub made_versions : versions_of tables ≡ kept_of input
  made_versions = all_versions made.images tables made.placed ∙ made.kept.whole

  pub made_run : IsRun tables
  made_run = are_run made.images tables made.placed (subst AreOrdered (sym made.kept.whole) (kept_ordered input)) made.kept.whole_keys

  made_ends : (t : Table) → IsAmong t tables → HasEnds t
  made_ends = all_ends made.images tables made.placed

  pub made_ranged : AreRanged tables
  made_ranged t a = in_range t (made_ends t a)

  -- a version of a table is one of the input
  pub made_among : (v : Version) → IsAmong v (versions_of tables) → IsAmong v (joined input.runs)
  made_among v a = kept_among input v (subst (λ (l : List Version). IsAmong v l) made_versions a)

-- ---- of a merge

both_ranged : (upper lower : List Table) → AreRanged upper → AreRanged lower → AreRanged (upper ++ lower)
both_ranged upper lower one two t a = ⊎_elim (λ b. one t b) (λ b. two t b) (among_either t upper lower a)

module _ (input : MergeInput) (level : ℕ) (upper lower tables : List Table) (versions : joined input.runs ≡ versions_of (upper ++ lower)) (made : AreMadeOf input tables) where
  from_inputs : AreVersionsOf upper lower tables
  from_inputs v a = subst (IsAmong v) versions (made_among input tables made v a)

  one_within : AreRanged (upper ++ lower) → (t : Table) → IsAmong t tables → IsWithin (upper ++ lower) t
  one_within ranged t a =
      let e = made_ends input tables made t a in
      let z = last_or e.first e.rest in
      let p = in_tables e.first (upper ++ lower) (from_inputs e.first (of_table e.first t tables a (has_first t e))) in
      let q = in_tables z (upper ++ lower) (from_inputs z (of_table z t tables a (has_last t e))) in
      record {
        order = has_range t e;
        a = p.0;
        b = q.0;
        first_in = p.1;
        first_from = subst (λ (k : Bytes). at_most (p.0).first k ≡ true) (sym e.begins) ((ranged p.0 p.1).within e.first p.2).0;
        last_in = q.1;
        last_to = subst (λ (k : Bytes). at_most k (q.0).last ≡ true) (sym e.ends) ((ranged q.0 q.1).within z q.2).1;
      }

  pub merge_outputs : AreRanged upper → AreRanged lower → ReplaceInputs level upper lower tables
  merge_outputs one two = record {
    outputs = (made_run input tables made, all_of (IsWithin (upper ++ lower)) tables (one_within (both_ranged upper lower one two)));
    versions = from_inputs;
  }

-- ---- of a flush

some_tables : (tables : List Table) → (versions_of tables ≡ [] → ⊥) → 0 < length tables
some_tables [] h = absurd (h refl)
some_tables (t ∷ tables) h = omega arith

-- where a cut sees some version, something is kept
kept_some : (input : MergeInput) → input.bottom ≡ false → SeesSome input → kept_of input ≡ [] → ⊥
kept_some input high s none =
    let v = s.version in
    let all = joined input.runs in
    let at : IsKeptAt input.cuts all s.cut = record { cut = s.cut; is_cut = s.is_cut; at = inl refl } in
    let same : newest v.key s.cut (keep input.cuts false all) ≡ newest v.key s.cut all = (keeps input).same_newest s.cut at v.key in
    let empty : keep input.cuts false all ≡ [] = sym (ap (λ (b : Bool). keep input.cuts b all) high) ∙ none in
    is_there v.key s.cut all v s.there (and_from _ _ (key_itself v.key) (le-leb v.number s.cut s.sees)) (sym same ∙ ap (newest v.key s.cut) empty)

pub flush_outputs : (input : MergeInput) (tables : List Table) → input.bottom ≡ false → SeesSome input → AreMadeOf input tables → AreOutputs Flush tables
flush_outputs input tables high s made =
    (made_run input tables made, some_tables tables (λ none. kept_some input high s (sym (made_versions input tables made) ∙ none)))

pub outputs_law : OutputsLaw
outputs_law = record {
  accepted = λ job next_table input images area area_then old new a kept. record {
    images = images;
    kept = subst (λ (i : MergeInput). AreTables (kept_of i) images) (sym a.own) kept;
    placed = tables_of next_table area images a.tables a.placing.placed;
  };
  versions = made_versions;
  run = made_run;
  ranged = made_ranged;
  merge = λ input level upper lower tables versions one two made. merge_outputs input level upper lower tables versions made one two;
  flush = flush_outputs;
}
