-- The rows of a map after an operation.
use Rattle.std.proofs.Common.{◌≡◌, ℕ, Bool, not, cond, List, [], ◌∷◌, ◌++◌, take, drop, Option, None, Some, refl, ap, sym, subst, ◌∙◌}
use Rattle.std.specs.declared.cmp.Ordering.{Ordering}
use Rattle.std.specs.declared.cmp.Ordering.TheVariants.{Less, Equal, Greater}
use Rattle.std.specs.Ordering.{is_eq, eq_by_cmp}
use Rattle.std.specs.Cmp.{alike_right, eq_by_cmp_equiv}
use Rattle.std.specs.Cmp.Lexicographic.{nat_list_cmp_total}
use Rattle.std.specs.FinMap.{nat_cmp-IsAntisymmetric, slice_cmp-IsAntisymmetric, entries, entries_sorted, from_sorted, entries-from_sorted, get, get-entries, get-remove, get-from_sorted, same_map, entries-insert, remove}
use Rattle.std.specs.FinMap.Entries.{put, where_key, is_sorted-where_key, find-where_key}
use Rattle.lsm_codec.specs.Keys.{Bytes, byte_order}
use Rattle.lsm_codec.specs.Map.{Map, changed}
use Rattle.lsm_codec.proofs.KeyOrder.{same_keys}
use Rattle.lsm_mem.specs.Rows.{shown_row}
use Rattle.lsm_mem.specs.declared.rows.RowRef.{RowRef}
use Rattle.std.proofs.lemmas.List.{map-append, take-map, drop-map, append_assoc}
use Rattle.lsm_explore.specs.Plain.{place_in, behind, row_of, rows_of, with_row}
use Rattle.lsm_merge.proofs.SettledLaws.{turned}
use Rattle.lsm_lives.proofs.Listing.{AreAbove, Rise, rising}

abbrev Pairs : Type 0
Pairs = List (Bytes × Bytes)

-- the entries of a map after a removal
entries-remove : (m : Map) (k : Bytes) → entries (remove m k) ≡ where_key byte_order (λ x. not (eq_by_cmp byte_order k x)) (entries m)
entries-remove m k =
    let o = nat_list_cmp_total in
    let p : Bytes → Bool = λ x. not (eq_by_cmp byte_order k x) in
    let es = where_key byte_order p (entries m) in
    let sorted = is_sorted-where_key byte_order p (entries m) (entries_sorted m) in
    let same : (q : Bytes) → get (remove m k) q ≡ get (from_sorted {R = byte_order} es) q = λ q.
    get-remove o m k q
    ∙ ap (λ b. cond b None (get m q)) ((eq_by_cmp_equiv o).symm q k)
    ∙ sym (turned (eq_by_cmp byte_order k q) (get m q) None)
    ∙ ap (λ x. cond (p q) x None) (get-entries m q)
    ∙ sym (find-where_key byte_order p q (λ x t. ap (λ r. not (is_eq r)) (sym (alike_right o q x k t))) (entries m))
    ∙ sym (get-from_sorted byte_order es q sorted) in
    ap entries (same_map o (slice_cmp-IsAntisymmetric nat_cmp-IsAntisymmetric) (remove m k) (from_sorted es) same) ∙ entries-from_sorted byte_order es sorted

-- a row that is put is found at its place
put_at_place : (key value : Bytes) (rows : Pairs) → put byte_order key value rows ≡ with_row rows key (Some value)
put_at_place key value [] = refl
put_at_place key value (row ∷ rows) = by (byte_order key row.0) refl (put_at_place key value rows)
  where
    by : (r : Ordering) → byte_order key row.0 ≡ r → put byte_order key value rows ≡ with_row rows key (Some value) → put byte_order key value (row ∷ rows) ≡ with_row (row ∷ rows) key (Some value)
    by Less is later = rw is (rw is refl)
    by Equal is later = let same = same_keys key row.0 is in rw is (rw is (ap (λ (k : Bytes). (k, value) ∷ rows) (sym same)))
    by Greater is later = rw is (ap (λ (l : Pairs). row ∷ l) later)

abbrev without : Bytes → Pairs → Pairs
without key rows = where_key byte_order (λ x. not (eq_by_cmp byte_order key x)) rows

-- keys that come after one stay where that is taken out
all_stay : (key : Bytes) (rows : Pairs) → AreAbove key rows → without key rows ≡ rows
all_stay key [] h = refl
all_stay key (row ∷ rows) h = rw h.0 (ap (λ (l : Pairs). row ∷ l) (all_stay key rows h.1))

above_too : (key first : Bytes) (rows : Pairs) → byte_order key first ≡ Less → AreAbove first rows → AreAbove key rows
above_too key first [] lt h = tt
above_too key first (row ∷ rows) lt h = (nat_list_cmp_total.trans key first row.0 lt h.0, above_too key first rows lt h.1)

removed_at_place : (key : Bytes) (rows : Pairs) → Rise rows → without key rows ≡ with_row rows key None
removed_at_place key [] h = refl
removed_at_place key (row ∷ rows) h = by (byte_order key row.0) refl (removed_at_place key rows h.1)
  where
    by : (r : Ordering) → byte_order key row.0 ≡ r → without key rows ≡ with_row rows key None → without key (row ∷ rows) ≡ with_row (row ∷ rows) key None
    by Less is later = rw is (rw is (ap (λ (l : Pairs). row ∷ l) (all_stay key rows (above_too key row.0 rows is h.0))))
    by Equal is later = let same = same_keys key row.0 is in rw is (rw is (all_stay key rows (subst (λ (k : Bytes). AreAbove k rows) (sym same) h.0)))
    by Greater is later = rw is (ap (λ (l : Pairs). row ∷ l) later)

-- the entries of the map after an operation
pub entries-changed : (m : Map) (key : Bytes) (value : Option Bytes) → entries (changed m key value) ≡ with_row (entries m) key value
entries-changed m key (Some value) = entries-insert nat_list_cmp_total m key value ∙ put_at_place key value (entries m)
entries-changed m key None = entries-remove m key ∙ removed_at_place key (entries m) (rising (entries m) (entries_sorted m))

-- ---- parts of rows that are lent

-- The rows before a place, perhaps one more, and those from an end on. With the place and the end of a key they are the rows
-- with another value under it.
module _ (rows : List RowRef) (key : Bytes) (place end : ℕ) (at : place ≡ place_in key (rows_of rows)) (ends : rows_of (drop end rows) ≡ behind key (rows_of (drop place rows))) where
  pub parts_with_row : (more after : List RowRef) (value : Option Bytes) → rows_of more ≡ rows_of (take place rows) ++ row_of key value → after ≡ more ++ drop end rows → rows_of after ≡ with_row (rows_of rows) key value
  parts_with_row more after value is ends_so =
      let first : rows_of (take place rows) ≡ take (place_in key (rows_of rows)) (rows_of rows) = sym (take-map shown_row place rows) ∙ ap (λ (n : ℕ). take n (rows_of rows)) at in
      let last : rows_of (drop end rows) ≡ behind key (drop (place_in key (rows_of rows)) (rows_of rows)) =
      ends ∙ ap (behind key) (sym (drop-map shown_row place rows) ∙ ap (λ (n : ℕ). drop n (rows_of rows)) at) in
      ap rows_of ends_so
      ∙ map-append shown_row more (drop end rows)
      ∙ ap (λ (l : Pairs). l ++ rows_of (drop end rows)) is
      ∙ append_assoc (rows_of (take place rows)) (row_of key value) (rows_of (drop end rows))
      ∙ (λ i. first i ++ (row_of key value ++ last i))
