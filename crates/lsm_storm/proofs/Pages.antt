-- The pages of a whole scan have all rows.
use Rattle.std.proofs.Common.{◌≡◌, ◌≤◌, ◌+◌, ℕ, List, [], ◌∷◌, length, take, drop, Some, None, refl, sym, ap, ◌∙◌, arith}
use Rattle.std.specs.FinMap as finite
use Rattle.std.proofs.lemmas.List.{length-take, length-append, take-append-drop}
use Rattle.lsm_codec.specs.Keys.{Bytes}
use Rattle.lsm_codec.specs.Map.{Map}
use Rattle.lsm_mem.specs.Paging.{Page, first_key, pairs_in}
use Rattle.lsm_store.specs.Backing.{StoreView}
use Rattle.lsm_machine.specs.RecoveryPoints.{present_map}
use Rattle.lsm_machine.specs.State.{State}
use Rattle.lsm_lives.proofs.Listing.{IsScanned, all_pairs, pairs_behind}

abbrev Pairs : Type 0
Pairs = List (Bytes × Bytes)

cut : (n : ℕ) (es : Pairs) → length (take n es) + length (drop n es) ≡ length es
cut n es = sym (length-append (take n es) (drop n es)) ∙ ap length (take-append-drop n es)

none_first : (es : Pairs) → first_key es ≡ None → length es ≡ 0
none_first [] e = refl
none_first (x ∷ es) e = cc

-- from the empty key on stand all
pub all_rows : (m : Map) → length (pairs_in m [] None) ≡ length (finite.entries m)
all_rows m = ap length (all_pairs m)

-- the rows of a page, and those from the key on that it left out
pub all_of_more : (old new : StoreView) (from key : Bytes) (rows : Pairs) (page : Page) (n : ℕ) → IsScanned old from page new → rows ≡ page.rows → Some key ≡ page.next
    → n ≡ length (pairs_in (present_map new.state.points) key None) → length rows + n ≡ length (pairs_in (present_map old.state.points) from None)
all_of_more old new from key rows page n is rows_are key_is rest =
    let m = present_map old.state.points in
    let these = ap length (rows_are ∙ ap (λ (p : Page). p.rows) is.page_of_map) in
    let those = rest ∙ ap (λ (s : State). length (pairs_in (present_map s.points) key None)) is.same in
    let behind = ap length (pairs_behind m from key page is.page_of_map (sym key_is)) in
    omega (arith, these, those, behind, cut 64 (pairs_in m from None))

-- the rows of a page that left none out
pub all_of_last : (old new : StoreView) (from : Bytes) (rows : Pairs) (page : Page) → IsScanned old from page new → rows ≡ page.rows → None ≡ page.next
    → length rows ≡ length (pairs_in (present_map old.state.points) from None)
all_of_last old new from rows page is rows_are none =
    let pairs = pairs_in (present_map old.state.points) from None in
    let these = ap length (rows_are ∙ ap (λ (p : Page). p.rows) is.page_of_map) in
    let next : first_key (drop 64 pairs) ≡ None = sym (none ∙ ap (λ (p : Page). p.next) is.page_of_map) in
    omega (arith, these, none_first (drop 64 pairs) next, cut 64 pairs)

-- a page has 64 rows at most
pub few_of_page : (old new : StoreView) (from : Bytes) (rows : Pairs) (page : Page) → IsScanned old from page new → rows ≡ page.rows → length rows ≤ 64
few_of_page old new from rows page is rows_are =
    let these = ap length (rows_are ∙ ap (λ (p : Page). p.rows) is.page_of_map) in
    omega (arith, these, length-take 64 (pairs_in (present_map old.state.points) from None))
