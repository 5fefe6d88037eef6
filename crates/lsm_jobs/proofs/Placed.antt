-- The extents of tables are handed out and given back.
use Rattle.std.proofs.Common.{◌≡◌, ◌≢◌, inl, inr, ℕ, ◌+◌, ◌<◌, ◌≤◌, List, [], ◌∷◌, ◌++◌, length, drop, get_or, append_assoc, Contains, refl, sym, ap, ◌∙◌, subst, arith}
use Rattle.std.specs.Prelude.{Result, Err}
use Rattle.std.specs.List.{AllByRecursion}
use Rattle.lsm_device.specs.declared.refusal.Refusal.{Refusal}
use Rattle.std.proofs.lemmas.List.{append-nil, drop_more, drop_all}
use Rattle.lsm_codec.specs.Indexes.{index_count}
use Rattle.lsm_extent.specs.declared.extent.Extent.{Extent}
use Rattle.lsm_extent.specs.Area.{Area, IsFreeRun, IsLowestFit, HasNoFit, IsPartition, handed_out, given_back}
use Rattle.lsm_extent.specs.Laws.{Frees}
use Rattle.lsm_extent.proofs.ExtentLaws.{contains-with, contains-kept, begins_none, given_back-handed_out}
use Rattle.lsm_table.specs.Division.{TableBlocks, IsTable}
use Rattle.lsm_table.specs.BlockEdges.{edges_of}
use Rattle.lsm_table.specs.Extents.{extent_size}
use Rattle.lsm_table.proofs.Outlines.{edge_count}
use Rattle.lsm_levels.specs.Tables.{Table, table_of}
use Rattle.lsm_jobs.specs.Placing.{extent_of, all_handed_out, all_given_back, AreHandedOut, IsPlaced, ArePlaced, FindNoRoom}

module _ {X : Type 0} (P : X → Type 0) where
  pub all_split : (xs : List X) (x : X) → AllByRecursion P (xs ++ x ∷ []) → AllByRecursion P xs × P x
  all_split [] x all = (tt, all.0)
  all_split (y ∷ xs) x all = let more = all_split xs x all.1 in ((all.0, more.0), more.1)

  pub all_push : (xs : List X) (x : X) → AllByRecursion P xs → P x → AllByRecursion P (xs ++ x ∷ [])
  all_push [] x all one = (one, tt)
  all_push (y ∷ xs) x all one = (all.0, all_push xs x all.1 one)

pub extent_is : (first blocks : ℕ) (t : Table) → first ≡ t.start → blocks ≡ t.blocks → record { first = first; blocks = blocks } ≡ extent_of t
extent_is first blocks t a b = ap (λ (n : ℕ). let e : Extent = record { first = n; blocks = blocks } in e) a ∙ ap (λ (n : ℕ). let e : Extent = record { first = t.start; blocks = n } in e) b

given_back_last : (left : List Table) (t : Table) (area : Area) → all_given_back (left ++ t ∷ []) area ≡ all_given_back left (given_back (extent_of t) area)
given_back_last [] t area = refl
given_back_last (x ∷ left) t area = ap (given_back (extent_of x)) (given_back_last left t area)

-- the last of tables is handed out
pub last_held : (left more : List Table) (t : Table) (area : Area) → more ≡ left ++ t ∷ [] → AreHandedOut more area → Contains area.held (extent_of t)
last_held left more t area parts held = go left (subst (λ (ts : List Table). AreHandedOut ts area) parts held)
  where
    go : (ts : List Table) → AreHandedOut (ts ++ t ∷ []) area → Contains area.held (extent_of t)
    go [] h = h.0
    go (x ∷ ts) h = go ts h.2

-- and the others still are where it is given back
pub others_held : (left more : List Table) (t : Table) (old new : Area) → more ≡ left ++ t ∷ [] → Frees (extent_of t) old new → AreHandedOut more old → AreHandedOut left new
others_held left more t old new parts frees held = go left (subst (λ (ts : List Table). AreHandedOut ts old) parts held)
  where
    go : (ts : List Table) → AreHandedOut (ts ++ t ∷ []) old → AreHandedOut ts new
    go [] h = tt
    go (x ∷ ts) h =
        let apart = all_split (λ (u : Table). u.start ≢ x.start) ts t h.1 in
        (frees.others (extent_of x) h.0 (λ same. apart.1 (sym same)), apart.0, go ts h.2)

pub back_step : (left more : List Table) (t : Table) (old new : Area) → more ≡ left ++ t ∷ [] → new ≡ given_back (extent_of t) old → all_given_back left new ≡ all_given_back more old
back_step left more t old new parts is = ap (all_given_back left) is ∙ sym (given_back_last left t old) ∙ ap (λ (ts : List Table). all_given_back ts old) (sym parts)

-- ---- an image is placed

handed_out_last : (tables : List Table) (t : Table) (area : Area) → all_handed_out (tables ++ t ∷ []) area ≡ handed_out (extent_of t) (all_handed_out tables area)
handed_out_last [] t area = refl
handed_out_last (x ∷ tables) t area = handed_out_last tables t (handed_out (extent_of x) area)

module _ (number : ℕ) (area : Area) (image : TableBlocks) (t : Table) (e : Extent) (n : ℕ) (is : IsTable image) (table : t ≡ table_of number e.first image) (blocks : e.blocks ≡ n) (size : n ≡ extent_size image) (low : IsLowestFit area n e.first) (whole : IsPartition area) where
  start_is : t.start ≡ e.first
  start_is = ap (λ (x : Table). x.start) table

  number_is : t.number ≡ number
  number_is = ap (λ (x : Table). x.number) table

  blocks_is : t.blocks ≡ extent_size image
  blocks_is = ap (λ (x : Table). x.blocks) table ∙ ap (λ (k : ℕ). k + index_count (edges_of image) + 2) (edge_count image is)

  -- its extent is the one that was handed out
  pub same_extent : e ≡ extent_of t
  same_extent = extent_is e.first e.blocks t (sym start_is) (blocks ∙ size ∙ sym blocks_is)

  pub placed_is : IsPlaced number area image t
  placed_is = record {
    of = record { is = is; same = table ∙ sym (ap (λ (k : ℕ). table_of k t.start image) number_is ∙ ap (λ (k : ℕ). table_of number k image) start_is) };
    number_is = number_is;
    blocks = blocks_is;
    lowest = subst (λ (k : ℕ). IsLowestFit area (extent_size image) k) (sym start_is) (subst (λ (k : ℕ). IsLowestFit area k e.first) size low);
  }

  some_blocks : 0 < e.blocks
  some_blocks = omega (arith, blocks, size)

  run_is : IsFreeRun area e.first e.blocks
  run_is = subst (λ (k : ℕ). IsFreeRun area e.first k) (sym blocks) low.fits

  -- to give it back undoes that
  pub undone_is : (new : Area) → new ≡ handed_out e area → given_back (extent_of t) new ≡ area
  undone_is new taken = subst (λ (x : Extent). given_back x new ≡ area) same_extent (ap (given_back e) taken ∙ given_back-handed_out e area some_blocks whole run_is)

  -- the extents of others go on to be handed out, and begin elsewhere
  pub held_is : (new : Area) → new ≡ handed_out e area → (others : List Table) → AreHandedOut others area → AreHandedOut (others ++ t ∷ []) new
  held_is new taken others held = subst (AreHandedOut (others ++ t ∷ [])) (sym taken) (go others held)
    where
      own : Contains (handed_out e area).held (extent_of t)
      own = subst (λ (x : Extent). Contains (handed_out e area).held x) same_extent (contains-with e area.held)

      go : (ts : List Table) → AreHandedOut ts area → AreHandedOut (ts ++ t ∷ []) (handed_out e area)
      go [] h = (own, tt, tt)
      go (x ∷ ts) h = (
        contains-kept e (extent_of x) area.held h.0,
        all_push (λ (u : Table). u.start ≢ x.start) ts t h.1 (λ same. (begins_none e area some_blocks whole run_is).apart (extent_of x) h.0 (sym same ∙ start_is)),
        go ts h.2,
      )

-- an extent that was handed out is given back again
pub back_again : (area : Area) (e : Extent) (n : ℕ) → 0 < n → e.blocks ≡ n → IsLowestFit area n e.first → IsPartition area → (mid new : Area) → mid ≡ handed_out e area → new ≡ given_back e mid → new ≡ area
back_again area e n some blocks low whole mid new taken given =
    let positive : 0 < e.blocks = omega (arith, some, blocks) in
    given ∙ ap (given_back e) taken ∙ given_back-handed_out e area positive whole (subst (λ (k : ℕ). IsFreeRun area e.first k) (sym blocks) low.fits)

-- ---- images are placed one after the other

-- The first i images are placed, and giving their extents back restores the area.
pub record Places (number : ℕ) (old now : Area) (images : List TableBlocks) (i : ℕ) (tables : List Table) : Type 0 where
  pub undone : all_given_back tables now ≡ old
  pub held : AreHandedOut tables now
  pub taken : now ≡ all_handed_out tables old
  pub placed : (rest : List Table) → ArePlaced (number + i) now (drop i images) rest → ArePlaced number old images (tables ++ rest)
  pub full : FindNoRoom now (drop i images) → FindNoRoom old images

pub places_none : (number : ℕ) (old : Area) (images : List TableBlocks) (tables : List Table) → tables ≡ [] → Places number old old images 0 tables
places_none number old images tables none = subst (Places number old old images 0) (sym none) (record {
  undone = refl;
  held = tt;
  taken = refl;
  placed = λ rest p. let same : number + 0 ≡ number = omega arith in subst (λ (k : ℕ). ArePlaced k old images rest) same p;
  full = λ f. f;
})

module _ (number : ℕ) (old now : Area) (images : List TableBlocks) (i : ℕ) (tables : List Table) (image : TableBlocks) (within : i < length images) (at : image ≡ get_or images i image) (so_far : Places number old now images i tables) where
  split : drop i images ≡ image ∷ drop (i + 1) images
  split = drop_more images i image within ∙ ap (λ (x : TableBlocks). x ∷ drop (i + 1) images) (sym at)

  pub places_more : (new : Area) (t : Table) (more : List Table) → more ≡ tables ++ t ∷ [] → IsPlaced (number + i) now image t → new ≡ handed_out (extent_of t) now → given_back (extent_of t) new ≡ now
      → ((others : List Table) → AreHandedOut others now → AreHandedOut (others ++ t ∷ []) new) → Places number old new images (i + 1) more
  places_more new t more is placed taken undone held = subst (Places number old new images (i + 1)) (sym is) (record {
    undone = given_back_last tables t new ∙ ap (all_given_back tables) undone ∙ so_far.undone;
    held = held tables so_far.held;
    taken = taken ∙ ap (handed_out (extent_of t)) so_far.taken ∙ sym (handed_out_last tables t old);
    placed = λ rest p.
        let next : number + (i + 1) ≡ number + i + 1 = omega arith in
        let here : ArePlaced (number + i + 1) (handed_out (extent_of t) now) (drop (i + 1) images) rest =
        subst (λ (k : ℕ). ArePlaced k (handed_out (extent_of t) now) (drop (i + 1) images) rest) next (subst (λ (a : Area). ArePlaced (number + (i + 1)) a (drop (i + 1) images) rest) taken p) in
        subst (ArePlaced number old images) (sym (append_assoc tables (t ∷ []) rest))
        (so_far.placed (t ∷ rest) (subst (λ (ims : List TableBlocks). ArePlaced (number + i) now ims (t ∷ rest)) (sym split) (placed, here)));
    full = λ f.
        let one : IsLowestFit now (extent_size image) t.start = placed.lowest in
        let there : handed_out (record { first = t.start; blocks = extent_size image }) now ≡ new = ap (λ (k : ℕ). handed_out (record { first = t.start; blocks = k }) now) (sym placed.blocks) ∙ sym taken in
        so_far.full (subst (FindNoRoom now) (sym split) (inr (t.start, one, subst (λ (a : Area). FindNoRoom a (drop (i + 1) images)) (sym there) f)));
  })

  -- where there is no room for the next one
  pub places_no_more : HasNoFit now (extent_size image) → FindNoRoom old images
  places_no_more none = so_far.full (subst (FindNoRoom now) (sym split) (inl none))

-- what is refused so is refused by the one callee
pub same_refusal : {T : Type 0} (a b : Refusal) → ◌≡◌ {A = Result T Refusal} (Err a) (Err b) → a ≡ b
same_refusal a b e = cc

-- where all are placed
pub places_all : (number : ℕ) (old now : Area) (images : List TableBlocks) (i : ℕ) (tables : List Table) → length images ≤ i → Places number old now images i tables → ArePlaced number old images tables
places_all number old now images i tables all p =
    subst (ArePlaced number old images) (append-nil tables) (p.placed [] (subst (λ (ims : List TableBlocks). ArePlaced (number + i) now ims []) (sym (drop_all i images all)) tt))
