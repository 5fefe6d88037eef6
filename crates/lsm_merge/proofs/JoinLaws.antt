-- The versions of several lists in order.
use Rattle.std.proofs.Common.{◌≡◌, ℕ, Bool, true, false, cond, ◌&&◌, List, [], ◌∷◌, ◌++◌, take, drop, append-nil, append_assoc, filter, refl, ap, sym, ◌∙◌}
use Rattle.std.proofs.lemmas.List.{take-append-drop}
use Rattle.std.proofs.lemmas.List.Elements.{filter-append}
use Rattle.std.specs.Prelude.{Option}
use Rattle.std.specs.declared.cmp.Ordering.{Ordering}
use Rattle.std.specs.declared.cmp.Ordering.TheVariants.{Less, Equal, Greater}
use Rattle.std.specs.Ordering.{is_lt}
use Rattle.std.specs.FinMap.Entries.{by_order}
use denote.Ref.{Bor}
use Rattle.lsm_codec.specs.Versions.{AreOrdered, Version, entry_order}
use Rattle.lsm_codec.specs.Keys.{Bytes}
use Rattle.lsm_mem.specs.EntryOrder.{placed}
use Rattle.lsm_merge.specs.Keeping.{all_placed, in_order, is_newest_at_a_cut, settled, keep}
use Rattle.lsm_merge.specs.Loops.{shown, KeepsOf}
use Rattle.lsm_mem.proofs.OrderTests.{is_in_order, before_both, tested, ordered_tested}
use Rattle.lsm_merge.specs.Ranges.{is_within, is_from, is_until, within}
use Rattle.lsm_merge.specs.Inputs.{MergeInput, kept_of}
use Rattle.lsm_mem.specs.Versions.{joined}
use Rattle.lsm_merge.proofs.KeptLaws.{kept_at-in_order}
use Rattle.lsm_merge.proofs.RangeLaws.{is_in_order-in_order, filter_cond, keep-filter}
use Rattle.lsm_mem.proofs.FirstLaws.{is_in_order-filter}
use Rattle.lsm_merge.proofs.Placing.{order_of_tied, by_less, by_equal, by_greater, placed_first, is_before-placed, less_from_greater, greater_from_less, all_placed-nil}

placed_tied_at : (v w u : Version) (rest : List Version) (o : Ordering) → entry_order v w ≡ Equal → entry_order w u ≡ o → placed v (placed w rest) ≡ placed v rest → placed v (by_order o (w ∷ u ∷ rest) (w ∷ rest) (u ∷ placed w rest)) ≡ placed v (u ∷ rest)
placed_tied_at v w u rest Less e f h = by_equal (entry_order v w) _ _ _ e ∙ sym (by_less (entry_order v u) _ _ _ (order_of_tied v w u e ∙ f))
placed_tied_at v w u rest Equal e f h = by_equal (entry_order v w) _ _ _ e ∙ sym (by_equal (entry_order v u) _ _ _ (order_of_tied v w u e ∙ f))
placed_tied_at v w u rest Greater e f h =
    let greater = order_of_tied v w u e ∙ f in
    by_greater (entry_order v u) _ _ _ greater ∙ ap (λ xs. u ∷ xs) h ∙ sym (by_greater (entry_order v u) _ _ _ greater)

-- the one that is placed last takes the place of its like
pub placed_tied : (v w : Version) (entries : List Version) → entry_order v w ≡ Equal → placed v (placed w entries) ≡ placed v entries
placed_tied v w [] e = by_equal (entry_order v w) _ _ _ e
placed_tied v w (u ∷ rest) e = placed_tied_at v w u rest (entry_order w u) e refl (placed_tied v w rest e)

placed_swap_at : (w v u : Version) (rest : List Version) (o : Ordering) → entry_order w v ≡ Less → entry_order w u ≡ o → placed w (placed v rest) ≡ placed v (placed w rest) → placed w (placed v (u ∷ rest)) ≡ placed v (by_order o (w ∷ u ∷ rest) (w ∷ rest) (u ∷ placed w rest))
placed_swap_at w v u rest Less e f h =
    placed_first w (placed v (u ∷ rest)) (is_before-placed w v (u ∷ rest) (ap is_lt e) (ap is_lt f))
    ∙ sym (by_greater (entry_order v w) _ _ _ (greater_from_less w v e))
placed_swap_at w v u rest Equal e f h =
    let greater = greater_from_less u v (sym (order_of_tied w u v f) ∙ e) in
    ap (placed w) (by_greater (entry_order v u) _ _ _ greater) ∙ by_equal (entry_order w u) _ _ _ f
    ∙ sym (by_greater (entry_order v w) _ _ _ (greater_from_less w v e))
placed_swap_at w v u rest Greater e f h =
    let greater = greater_from_less u v (before_both u w v (less_from_greater w u f) e) in
    ap (placed w) (by_greater (entry_order v u) _ _ _ greater) ∙ by_greater (entry_order w u) _ _ _ f ∙ ap (λ xs. u ∷ xs) h
    ∙ sym (by_greater (entry_order v u) _ _ _ greater)

-- two with different places may be placed in either order
pub placed_swap : (w v : Version) (entries : List Version) → entry_order w v ≡ Less → placed w (placed v entries) ≡ placed v (placed w entries)
placed_swap w v [] e = by_less (entry_order w v) _ _ _ e ∙ sym (by_greater (entry_order v w) _ _ _ (greater_from_less w v e))
placed_swap w v (u ∷ rest) e = placed_swap_at w v u rest (entry_order w u) e refl (placed_swap w v rest e)

all_placed-by_order : (v w : Version) (rest right : List Version) (o : Ordering) → entry_order v w ≡ o → all_placed (placed v rest) right ≡ placed v (all_placed rest right) → all_placed (by_order o (v ∷ w ∷ rest) (v ∷ rest) (w ∷ placed v rest)) right ≡ placed v (placed w (all_placed rest right))
all_placed-by_order v w rest right Less e h = refl
all_placed-by_order v w rest right Equal e h = sym (placed_tied v w (all_placed rest right) e)
all_placed-by_order v w rest right Greater e h = ap (placed w) h ∙ placed_swap w v (all_placed rest right) (less_from_greater v w e)

pub all_placed-placed : (v : Version) (left right : List Version) → all_placed (placed v left) right ≡ placed v (all_placed left right)
all_placed-placed v [] right = refl
all_placed-placed v (w ∷ rest) right = all_placed-by_order v w rest right (entry_order v w) refl (all_placed-placed v rest right)

-- lists in order, merged, are the versions of both in order
pub in_order-append : (left right : List Version) → in_order (left ++ right) ≡ all_placed (in_order left) (in_order right)
in_order-append [] right = refl
in_order-append (v ∷ left) right = ap (placed v) (in_order-append left right) ∙ sym (all_placed-placed v (in_order left) (in_order right))

pub joined-append : (front back : List (List Version)) → joined (front ++ back) ≡ joined front ++ joined back
joined-append [] back = refl
joined-append (run ∷ front) back = ap (λ xs. run ++ xs) (joined-append front back) ∙ sym (append_assoc run (joined front) (joined back))

-- the merge of two halves
pub in_order-halves : (from to : Option Bytes) (runs : List (List Version)) (n : ℕ) → all_placed (in_order (within from to (joined (take n runs)))) (in_order (within from to (joined (drop n runs)))) ≡ in_order (within from to (joined runs))
in_order-halves from to runs n =
    sym (in_order-append (within from to (joined (take n runs))) (within from to (joined (drop n runs))))
    ∙ ap in_order (sym (filter-append (λ v. is_within from to v.key) (joined (take n runs)) (joined (drop n runs))))
    ∙ ap (λ xs. in_order (within from to xs)) (sym (joined-append (take n runs) (drop n runs)))
    ∙ ap (λ xs. in_order (within from to (joined xs))) (take-append-drop n runs)

filters_as_one : (from to : Option Bytes) (v : Version) (xs : List Version) (a b : Bool) → cond a (cond b (v ∷ xs) xs) xs ≡ cond (cond a b false) (v ∷ xs) xs
filters_as_one from to v xs true b = refl
filters_as_one from to v xs false b = refl

and_cond : (a b : Bool) → cond a b false ≡ (a && b)
and_cond true b = refl
and_cond false b = refl

pub within-both : (from to : Option Bytes) (versions : List Version) → filter (λ v. is_until to v.key) (filter (λ v. is_from from v.key) versions) ≡ within from to versions
within-both from to [] = refl
within-both from to (v ∷ rest) =
    let p = λ (x : Version). is_from from x.key in
    let q = λ (x : Version). is_until to x.key in
    filter_cond q (p v) v (filter p rest)
    ∙ filters_as_one from to v (filter q (filter p rest)) (p v) (q v)
    ∙ ap (λ b. cond b (v ∷ filter q (filter p rest)) (filter q (filter p rest))) (and_cond (p v) (q v))
    ∙ ap (λ xs. cond (is_within from to v.key) (v ∷ xs) xs) (within-both from to rest)

-- one run
pub in_order-run : (from to : Option Bytes) (run : List Version) → is_in_order run ≡ true → within from to run ≡ in_order (within from to (joined (run ∷ [])))
in_order-run from to run h =
    sym (all_placed-nil (within from to run) (is_in_order-filter _ run h)) ∙ ap (λ xs. in_order (within from to xs)) (sym (append-nil run))

pub ordered_in_order : (entries : List (Bor Version)) (versions : List Version) → shown entries ≡ in_order versions → AreOrdered (shown entries)
ordered_in_order entries versions e = ordered_tested (shown entries) (ap is_in_order e ∙ is_in_order-in_order versions)

pub ordered_newest : (entries kept : List (Bor Version)) (test : Version → Bool) → AreOrdered (shown entries) → shown kept ≡ filter test (shown entries) → AreOrdered (shown kept)
ordered_newest entries kept test h e = ordered_tested (shown kept) (ap is_in_order e ∙ is_in_order-filter test (shown entries) (tested (shown entries) h))

pub keeps_above : (cuts : List ℕ) (bottom : Bool) (ordered kept : List Version) → bottom ≡ false → kept ≡ filter (is_newest_at_a_cut cuts ordered) ordered → KeepsOf cuts bottom ordered kept
unfolding keep
keeps_above cuts true ordered kept b e = let k : true ≡ false = b in cc
keeps_above cuts false ordered kept b e = record { of = λ versions same. e ∙ ap (λ xs. filter (is_newest_at_a_cut cuts xs) xs) same ∙ kept_at-in_order cuts versions }

pub keeps_at_bottom : (cuts : List ℕ) (bottom : Bool) (ordered newest kept : List Version) → bottom ≡ true → newest ≡ filter (is_newest_at_a_cut cuts ordered) ordered → kept ≡ settled newest → KeepsOf cuts bottom ordered kept
unfolding keep
keeps_at_bottom cuts false ordered newest kept b e f = let k : false ≡ true = b in cc
keeps_at_bottom cuts true ordered newest kept b e f = record { of = λ versions same. f ∙ ap settled (e ∙ ap (λ xs. filter (is_newest_at_a_cut cuts xs) xs) same ∙ kept_at-in_order cuts versions) }

pub part_is : (input : MergeInput) (runs : List (List Version)) (cuts : List ℕ) (bottom : Bool) (from to : Option Bytes) (ordered kept : List Version) → record { runs = runs; cuts = cuts; bottom = bottom } ≡ input → ordered ≡ in_order (within from to (joined runs)) → KeepsOf cuts bottom ordered kept → kept ≡ within from to (kept_of input)
part_is input runs cuts bottom from to ordered kept view e keeps =
    keeps.of (within from to (joined runs)) e ∙ keep-filter (is_within from to) cuts bottom (joined runs)
    ∙ ap (λ (i : MergeInput). within from to (kept_of i)) view

pub ordered_from : (from : Option Bytes) (run entries : List Version) → AreOrdered run → entries ≡ filter (λ v. is_from from v.key) run → AreOrdered entries
ordered_from from run entries h e = ordered_tested entries (ap is_in_order e ∙ is_in_order-filter _ run (tested run h))
