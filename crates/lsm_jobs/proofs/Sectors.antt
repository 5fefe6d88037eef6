-- The sectors of blocks.
use Rattle.std.proofs.Common.{◌≡◌, ◌<◌, ◌≤◌, ℕ, zero, suc, ◌+◌, ◌-◌, ◌*◌, Bool, true, false, cond, List, [], ◌∷◌, ◌++◌, length, get_or, take, drop, Some, None, refl, sym, ◌∙◌, ap, subst, append_assoc, arith}
use Rattle.std.specs.Prelude.{ltb}
use Rattle.std.specs.List.{AllByRecursion}
use Rattle.std.specs.Prelude.{IsTrue, Result, Ok, Err, is_ok, OnOk, OnErr}
use Rattle.std.proofs.Common.{inl, inr}
use Rattle.std.proofs.lemmas.Bool.{ltb-true, ltb-false, cases_lt}
use Rattle.std.proofs.lemmas.List.{append-nil, take_all, length-append, length-drop}
use Rattle.lsm_device.specs.Calls.{faults_after}
use Rattle.lsm_device.specs.Medium.{Medium, disk}
use Rattle.lsm_merge.specs.Inputs.{MergeInput}
use Rattle.lsm_device.specs.Disk.{Disk, Write}
use Rattle.lsm_device.specs.History.{present, EachSince}
use Rattle.lsm_device.specs.Runs.{run_at, grown, HasSomeOf}
use Rattle.lsm_device.proofs.Moments.{Comes, joined, weaker}
use Rattle.lsm_device.proofs.Runs.{length-run_at, grown_twice}
use Rattle.lsm_filter.specs.Bits.{filter_of}
use Rattle.lsm_table.specs.Division.{TableBlocks}
use Rattle.lsm_table.specs.Extents.{extent_size, keys_of}
use Rattle.lsm_table.specs.Extents as laid
use Rattle.lsm_levels.specs.Tables.{Table}
use Rattle.lsm_jobs.specs.Outputs.{IsTableOf, AreTablesOf, blocks_of, placed_blocks, in_sectors, block_writes, writes_of, next_blocks, place_in, EndsWithin, Placed}
use Rattle.lsm_jobs.specs.Writing.{WritesBlocks}
use Rattle.lsm_jobs.proofs.Accepted.{blocks_are, block_count, table_size}

-- ---- one block

pub length-in_sectors : (n : ℕ) (text : List ℕ) → length (in_sectors n text) ≡ n
length-in_sectors zero text = refl
length-in_sectors (suc n) text = ap suc (length-in_sectors n (drop 512 text))

-- ---- which block stands at a place

one_of_run : (at k : ℕ) (xs : List (List ℕ)) (rest : List Write) → k < length xs → take 1 (drop k (run_at at xs ++ rest)) ≡ record { at = at + k; bytes = get_or xs k [] } ∷ []
one_of_run at k [] rest lt = absurd (omega arith)
one_of_run at zero (x ∷ xs) rest lt = let same : at ≡ at + zero = omega arith in ap (λ (n : ℕ). let w : Write = record { at = n; bytes = x } in w ∷ []) same
one_of_run at (suc k) (x ∷ xs) rest lt =
    let same : at + 1 + k ≡ at + suc k = omega arith in
    one_of_run (at + 1) k xs rest (omega arith) ∙ ap (λ (n : ℕ). let w : Write = record { at = n; bytes = get_or xs k [] } in w ∷ []) same

past_run : (at k : ℕ) (xs : List (List ℕ)) (rest : List Write) → length xs ≤ k → drop k (run_at at xs ++ rest) ≡ drop (k - length xs) rest
past_run at k [] rest le = let same : k ≡ k - 0 = omega arith in ap (λ (n : ℕ). drop n rest) same
past_run at zero (x ∷ xs) rest le = absurd (omega arith)
past_run at (suc k) (x ∷ xs) rest le = let same : k - length xs ≡ suc k - suc (length xs) = omega arith in past_run (at + 1) k xs rest (omega arith) ∙ ap (λ (n : ℕ). drop n rest) same

-- The block at a place, counted through tables, is this one of the table at k.
pub record IsBlockAt (images : List TableBlocks) (tables : List Table) (at k b : ℕ) : Type 0 where
  pub within : k < length tables
  pub block : (d : TableBlocks) → b < extent_size (get_or images k d)
  pub one : (t : Table) (image : TableBlocks) → t ≡ get_or tables k t → image ≡ get_or images k image
      → take 1 (drop at (placed_blocks tables)) ≡ record { at = t.start + b; bytes = get_or (laid.extent_in_blocks t.number (filter_of (keys_of image)) image) b [] } ∷ []
  pub ends : (t : Table) (size area : ℕ) → t ≡ get_or tables k t → AllByRecursion (EndsWithin size area) tables → EndsWithin size area t
  pub size : (t : Table) (image : TableBlocks) → t ≡ get_or tables k t → image ≡ get_or images k image → IsTableOf image t

some_same : (a b : ℕ × ℕ) → Some a ≡ Some b → a ≡ b
some_same a b e = cc

none_some : (a : ℕ × ℕ) → None ≡ Some a → ⊥
none_some a e = cc

pub block_at : (images : List TableBlocks) (tables : List Table) (n at i b : ℕ) → AreTablesOf images tables → place_in n at images ≡ Some (i, b) → (n ≤ i) × IsBlockAt images tables at (i - n) b
block_at [] tables n at i b of e = absurd (none_some (i, b) e)
block_at (image ∷ images) [] n at i b of e = absurd of
block_at (image ∷ images) (t ∷ tables) n at i b of e = by (block_at images tables (n + 1) (at - extent_size image) i b of.1) (ltb at (extent_size image)) refl e
  where
    by : (place_in (n + 1) (at - extent_size image) images ≡ Some (i, b) → (n + 1 ≤ i) × IsBlockAt images tables (at - extent_size image) (i - (n + 1)) b) → (c : Bool) → ltb at (extent_size image) ≡ c
        → cond c (Some (n, at)) (place_in (n + 1) (at - extent_size image) images) ≡ Some (i, b) → (n ≤ i) × IsBlockAt (image ∷ images) (t ∷ tables) at (i - n) b
    by later true is here =
        let same = some_same (n, at) (i, b) here in
        let first : n ≡ i = ap (λ (p : ℕ × ℕ). p.0) same in
        let second : at ≡ b = ap (λ (p : ℕ × ℕ). p.1) same in
        let none : i - n ≡ 0 = omega (arith, first) in
        let below : at < extent_size image = ltb-true at (extent_size image) is in
        let count : length (blocks_of t) ≡ extent_size image = block_count image t of.0 in (
          omega (arith, first),
          record {
            within = omega (arith, none);
            block = λ d. subst (λ (k : ℕ). b < extent_size (get_or (image ∷ images) k d)) (sym none) (omega (arith, below, second));
            one = λ u other is_t is_image.
                let tt_is : u ≡ t = is_t ∙ ap (λ (k : ℕ). get_or (t ∷ tables) k u) none in
                let im_is : other ≡ image = is_image ∙ ap (λ (k : ℕ). get_or (image ∷ images) k other) none in
                one_of_run t.start at (blocks_of t) (placed_blocks tables) (omega (arith, below, count))
                ∙ ap (λ (bs : List (List ℕ)). let w : Write = record { at = t.start + at; bytes = get_or bs at [] } in w ∷ []) (blocks_are image t of.0)
                ∙ ap (λ (k : ℕ). let w : Write = record { at = t.start + k; bytes = get_or (laid.extent_in_blocks t.number (filter_of (keys_of image)) image) k [] } in w ∷ []) second
                ∙ ap (λ (x : Table). let w : Write = record { at = x.start + b; bytes = get_or (laid.extent_in_blocks x.number (filter_of (keys_of image)) image) b [] } in w ∷ []) (sym tt_is)
                ∙ ap (λ (x : TableBlocks). let w : Write = record { at = u.start + b; bytes = get_or (laid.extent_in_blocks u.number (filter_of (keys_of x)) x) b [] } in w ∷ []) (sym im_is);
            ends = λ u size area is_t all. subst (EndsWithin size area) (sym (is_t ∙ ap (λ (k : ℕ). get_or (t ∷ tables) k u) none)) all.0;
            size = λ u other is_t is_image.
                let tt_is : u ≡ t = is_t ∙ ap (λ (k : ℕ). get_or (t ∷ tables) k u) none in
                let im_is : other ≡ image = is_image ∙ ap (λ (k : ℕ). get_or (image ∷ images) k other) none in
                subst (λ (x : TableBlocks). IsTableOf x u) (sym im_is) (subst (IsTableOf image) (sym tt_is) of.0);
          },
        )
    by later false is there =
        let found = later there in
        let more = found.1 in
        let step : i - n ≡ suc (i - (n + 1)) = omega (arith, found.0) in
        let past : extent_size image ≤ at = ltb-false at (extent_size image) is in
        let count : length (blocks_of t) ≡ extent_size image = block_count image t of.0 in
        let less : drop at (placed_blocks (t ∷ tables)) ≡ drop (at - extent_size image) (placed_blocks tables) =
        past_run t.start at (blocks_of t) (placed_blocks tables) (omega (arith, past, count)) ∙ ap (λ (k : ℕ). drop (at - k) (placed_blocks tables)) count in (
          omega (arith, found.0),
          record {
            within = omega (arith, step, more.within);
            block = λ d. subst (λ (k : ℕ). b < extent_size (get_or (image ∷ images) k d)) (sym step) (more.block d);
            one = λ u other is_t is_image.
                ap (λ (ws : List Write). take 1 ws) less
                ∙ more.one u other (is_t ∙ ap (λ (k : ℕ). get_or (t ∷ tables) k u) step) (is_image ∙ ap (λ (k : ℕ). get_or (image ∷ images) k other) step);
            ends = λ u size area is_t all. more.ends u size area (is_t ∙ ap (λ (k : ℕ). get_or (t ∷ tables) k u) step) all.1;
            size = λ u other is_t is_image. more.size u other (is_t ∙ ap (λ (k : ℕ). get_or (t ∷ tables) k u) step) (is_image ∙ ap (λ (k : ℕ). get_or (image ∷ images) k other) step);
          },
        )

pub block_here : (images : List TableBlocks) (tables : List Table) (at i b : ℕ) → AreTablesOf images tables → Some (i, b) ≡ place_in 0 at images → IsBlockAt images tables at i b
block_here images tables at i b of e =
    let same : i - 0 ≡ i = omega arith in
    subst (λ (k : ℕ). IsBlockAt images tables at k b) same (block_at images tables 0 at i b of (sym e)).1

pub same_length : (images : List TableBlocks) (tables : List Table) → AreTablesOf images tables → length images ≡ length tables
same_length [] [] of = refl
same_length [] (t ∷ tables) of = absurd of
same_length (image ∷ images) [] of = absurd of
same_length (image ∷ images) (t ∷ tables) of = ap suc (same_length images tables of.1)

-- its sectors lie in the device
block_ends : (image : TableBlocks) (t : Table) (size area first b : ℕ) → IsTableOf image t → EndsWithin size area t → b < extent_size image → first ≡ t.start → area + 8 * (first + b) + 8 ≤ size
block_ends image t size area first b of ends below start =
    let blocks : t.blocks ≡ extent_size image = table_size image t of in
    omega (arith, ends, below, blocks, start)

-- and there is one
pub none_at : (images : List TableBlocks) (tables : List Table) (n at : ℕ) → AreTablesOf images tables → at < length (placed_blocks tables) → place_in n at images ≡ None → ⊥
none_at [] [] n at of lt e = omega (arith, lt)
none_at [] (t ∷ tables) n at of lt e = of
none_at (image ∷ images) [] n at of lt e = of
none_at (image ∷ images) (t ∷ tables) n at of lt e = by (none_at images tables (n + 1) (at - extent_size image) of.1) (ltb at (extent_size image)) refl e
  where
    by : (at - extent_size image < length (placed_blocks tables) → place_in (n + 1) (at - extent_size image) images ≡ None → ⊥) → (c : Bool) → ltb at (extent_size image) ≡ c
        → cond c (Some (n, at)) (place_in (n + 1) (at - extent_size image) images) ≡ None → ⊥
    by later true is here = none_some (n, at) (sym here)
    by later false is there =
        let past : extent_size image ≤ at = ltb-false at (extent_size image) is in
        later (omega (arith, past, lt, length-append (run_at t.start (blocks_of t)) (placed_blocks tables), length-run_at t.start (blocks_of t), block_count image t of.0)) there

pub here_ends : (images : List TableBlocks) (tables : List Table) (at i b size area first : ℕ) (t : Table) (image : TableBlocks) → IsBlockAt images tables at i b → t ≡ get_or tables i t → image ≡ get_or images i image
    → AllByRecursion (EndsWithin size area) tables → first ≡ t.start → area + 8 * (first + b) + 8 ≤ size
here_ends images tables at i b size area first t image here is_t is_image within start =
    block_ends image t size area first b (here.size t image is_t is_image) (here.ends t size area is_t within) (subst (λ (x : TableBlocks). b < extent_size x) (sym is_image) (here.block image)) start

-- ---- a block is written

module _ {T E : Type 0} where
  on_ok_at : (r : Result T E) (P : Type 0) → OnOk r P → is_ok r ≡ true → P
  on_ok_at (Ok x) P h e = h
  on_ok_at (Err x) P h e = absurd (let clash : false ≡ true = e in cc)

  on_err_at : (r : Result T E) (P : Type 0) → OnErr r P → is_ok r ≡ false → P
  on_err_at (Ok x) P h e = absurd (let clash : true ≡ false = e in cc)
  on_err_at (Err x) P h e = h

  pub block_written : (area sector : ℕ) (bytes : List ℕ) (blocks : List Write) (w : Write) (r : Result T E) (old new : Medium) → blocks ≡ w ∷ [] → sector ≡ area + 8 * w.at → bytes ≡ w.bytes
      → (IsTrue old.lasting.tells → EachSince (HasSomeOf (disk old) (run_at sector (in_sectors 8 bytes))) old.history new.history)
      → (IsTrue old.lasting.tells → OnOk r (disk new ≡ grown (run_at sector (in_sectors 8 bytes)) (disk old)))
      → new.calls.faults ≡ faults_after (is_ok r) old.calls.faults → OnErr r (new.calls.last_faulted ≡ true) → new.size ≡ old.size → new.lasting ≡ old.lasting → WritesBlocks area blocks (is_ok r) old new
  block_written area sector bytes blocks w r old new only place is moments pends faults stops size lasting =
      let same : run_at sector (in_sectors 8 bytes) ≡ writes_of area blocks =
      ap (λ (n : ℕ). run_at n (in_sectors 8 bytes)) place
      ∙ ap (λ (bs : List ℕ). run_at (area + 8 * w.at) (in_sectors 8 bs)) is
      ∙ sym (append-nil (block_writes area w))
      ∙ ap (writes_of area) (sym only) in
      record {
        moments = λ t. subst (λ (ws : List Write). EachSince (HasSomeOf (disk old) ws) old.history new.history) same (moments t);
        pends = λ t ok. subst (λ (ws : List Write). disk new ≡ grown ws (disk old)) same (on_ok_at r (disk new ≡ grown (run_at sector (in_sectors 8 bytes)) (disk old)) (pends t) ok);
        faults = faults;
        stops = λ err. on_err_at r (new.calls.last_faulted ≡ true) stops err;
        same_size = size;
        same_lasting = lasting;
      }

-- the blocks that come next
next_are : (tables : List Table) (written left count : ℕ) → written + left ≡ length (placed_blocks tables) → count ≤ left → count ≤ 8 → (count < 8 → count ≡ left) → take count (drop written (placed_blocks tables)) ≡ next_blocks tables left
next_are tables written left count counted low high most =
    let place : written ≡ length (placed_blocks tables) - left = omega (arith, counted) in
    elim (cases_lt count 8) [
      | inl less ↦ let all : count ≡ left = most less in
          let rest : length (drop written (placed_blocks tables)) ≡ left = length-drop written (placed_blocks tables) ∙ omega (arith, counted) in
          take_all count (drop written (placed_blocks tables)) (omega (arith, rest, all))
          ∙ sym (take_all 8 (drop written (placed_blocks tables)) (omega (arith, rest, all, less)))
          ∙ ap (λ (k : ℕ). take 8 (drop k (placed_blocks tables))) place
      | inr eight ↦ let same : count ≡ 8 = omega (arith, eight, high) in
          ap (λ (k : ℕ). take k (drop written (placed_blocks tables))) same ∙ ap (λ (k : ℕ). take 8 (drop k (placed_blocks tables))) place
    ]

pub next_told : (input : MergeInput) (items shown : List Table) (written left count : ℕ) (s : Placed) → record { input = input; tables = items; left = left } ≡ s → shown ≡ items → written + left ≡ length (placed_blocks items)
    → count ≤ s.left → count ≤ 8 → (count < 8 → count ≡ s.left) → take count (drop written (placed_blocks shown)) ≡ next_blocks s.tables s.left
next_told input items shown written left count s view same counted low high most =
    let here : left ≡ s.left = ap (λ (v : Placed). v.left) view in
    ap (λ (ts : List Table). take count (drop written (placed_blocks ts))) same
    ∙ next_are items written left count counted (omega (arith, low, here)) high (λ less. most less ∙ sym here)
    ∙ ap (λ (v : Placed). next_blocks v.tables v.left) view

-- ---- blocks, one after the other

pub take_past : {X : Type 0} (xs ys : List X) (k : ℕ) → take (length xs + k) (xs ++ ys) ≡ xs ++ take k ys
take_past [] ys k = let same : 0 + k ≡ k = omega arith in ap (λ (n : ℕ). take n ys) same
take_past {X} (x ∷ xs) ys k = let same : suc (length xs) + k ≡ suc (length xs + k) = omega arith in ap (λ (n : ℕ). take n (x ∷ (xs ++ ys))) same ∙ ap (λ (l : List X). x ∷ l) (take_past xs ys k)

take_front : {X : Type 0} (k : ℕ) (xs ys : List X) → k ≤ length xs → take k (xs ++ ys) ≡ take k xs
take_front zero xs ys le = refl
take_front (suc k) [] ys le = absurd (omega arith)
take_front {X} (suc k) (x ∷ xs) ys le = ap (λ (l : List X). x ∷ l) (take_front k xs ys (omega arith))

take_none : {X : Type 0} (n : ℕ) → take {A = X} n [] ≡ []
take_none zero = refl
take_none (suc n) = refl

take_split : {X : Type 0} (k j : ℕ) (xs : List X) → take (k + j) xs ≡ take k xs ++ take j (drop k xs)
take_split zero j xs = let same : 0 + j ≡ j = omega arith in ap (λ (n : ℕ). take n xs) same
take_split {X} (suc k) j [] = take_none {X = X} (suc k + j) ∙ sym (take_none {X = X} j)
take_split {X} (suc k) j (x ∷ xs) = let same : suc k + j ≡ suc (k + j) = omega arith in ap (λ (n : ℕ). take n (x ∷ xs)) same ∙ ap (λ (l : List X). x ∷ l) (take_split k j xs)

pub writes_append : (area : ℕ) (xs ys : List Write) → writes_of area (xs ++ ys) ≡ writes_of area xs ++ writes_of area ys
writes_append area [] ys = refl
writes_append area (x ∷ xs) ys = ap (λ (ws : List Write). block_writes area x ++ ws) (writes_append area xs ys) ∙ sym (append_assoc (block_writes area x) (writes_of area xs) (writes_of area ys))

-- some of what comes after a beginning, on a disk that has the beginning
some_more : (d mid e : Disk) (first next rest : List Write) → mid ≡ grown first d → HasSomeOf mid next e → HasSomeOf d (first ++ (next ++ rest)) e
some_more d mid e first next rest is some = (
  length first + some.0,
  omega (arith, some.1, length-append first (next ++ rest), length-append next rest),
  some.2
      ∙ ap (grown (take some.0 next)) is
      ∙ grown_twice d first (take some.0 next)
      ∙ ap (λ (ws : List Write). grown (first ++ ws) d) (sym (take_front some.0 next rest some.1))
      ∙ ap (λ (ws : List Write). grown ws d) (sym (take_past first (next ++ rest) some.0)),
)

module _ (area count i : ℕ) (blocks : List Write) (old mid new : List Disk) (within : i < count) where
  abbrev all_writes : List Write
  all_writes = writes_of area (take count blocks)

  abbrev one_block : List Write
  one_block = writes_of area (take 1 (drop i blocks))

  abbrev first_blocks : List Write
  first_blocks = writes_of area (take i blocks)

  next_is : writes_of area (take (i + 1) blocks) ≡ first_blocks ++ one_block
  next_is = ap (writes_of area) (take_split i 1 blocks) ∙ writes_append area (take i blocks) (take 1 (drop i blocks))

  all_is : all_writes ≡ first_blocks ++ (one_block ++ writes_of area (take (count - (i + 1)) (drop (i + 1) blocks)))
  all_is =
      let same : count ≡ (i + 1) + (count - (i + 1)) = omega (arith, within) in
      ap (λ (n : ℕ). writes_of area (take n blocks)) same
      ∙ ap (writes_of area) (take_split (i + 1) (count - (i + 1)) blocks)
      ∙ writes_append area (take (i + 1) blocks) (take (count - (i + 1)) (drop (i + 1) blocks))
      ∙ ap (λ (ws : List Write). ws ++ writes_of area (take (count - (i + 1)) (drop (i + 1) blocks))) next_is
      ∙ append_assoc first_blocks one_block (writes_of area (take (count - (i + 1)) (drop (i + 1) blocks)))

  -- one block more, or a part of it
  pub block_moments : Comes (HasSomeOf (present old) all_writes) old mid (grown first_blocks (present old)) → EachSince (HasSomeOf (present mid) one_block) mid new → EachSince (HasSomeOf (present old) all_writes) old new
  block_moments so_far since =
      joined (HasSomeOf (present old) all_writes) old mid new so_far.moments
      (weaker (HasSomeOf (present mid) one_block) (HasSomeOf (present old) all_writes) mid new
      (λ d h. subst (λ (ws : List Write). HasSomeOf (present old) ws d) (sym all_is) (some_more (present old) (present mid) d first_blocks one_block (writes_of area (take (count - (i + 1)) (drop (i + 1) blocks))) so_far.now h))
      since)

  pub block_comes : Comes (HasSomeOf (present old) all_writes) old mid (grown first_blocks (present old)) → EachSince (HasSomeOf (present mid) one_block) mid new → present new ≡ grown one_block (present mid)
      → Comes (HasSomeOf (present old) all_writes) old new (grown (writes_of area (take (i + 1) blocks)) (present old))
  block_comes so_far since is = record {
    moments = block_moments so_far since;
    now = is ∙ ap (grown one_block) so_far.now ∙ grown_twice (present old) first_blocks one_block ∙ ap (λ (ws : List Write). grown ws (present old)) (sym next_is);
  }
