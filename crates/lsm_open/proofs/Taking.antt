-- An installation takes over what its job has placed.
use Rattle.std.proofs.Common.{ℕ, ◌≤◌, List, [], ◌∷◌, ◌++◌, length, get_or, map, refl, sym, subst, append_assoc, All}
use Rattle.std.proofs.lemmas.List.Elements.{All-nil, All-cons, All-head, All-tail, All-append}
use Rattle.lsm_codec.specs.declared.table_record.TableRecord.{TableRecord}
use Rattle.lsm_codec.specs.Pairs.{Pairwise}
use Rattle.lsm_codec.specs.TableRecords.{AreApart}
use Rattle.lsm_device.specs.Disk.{Disk, seen}
use Rattle.lsm_open.specs.Placements.{Placement, contents_for, closed_in}
use Rattle.lsm_open.specs.Switching.{pushed, flushed, AreFlushed, Parts, with_inputs, with_outputs, merged, AreMerged}
use Rattle.lsm_open.specs.Writing.{PlacedTable, tables_of, ArePlacedApart, IsClear, CarriesJobs}
use Rattle.lsm_open.proofs.Flushing.{flush_installs}
use Rattle.lsm_open.proofs.ListPairs.{All-left, All-right, pairwise_left, pairwise_right, pairwise_cross, pairwise_join}
use Rattle.lsm_open.proofs.Merging.{merge_installs}
use Rattle.lsm_open.proofs.Switches.{installed_carried}
use Rattle.lsm_open.proofs.Writing.{apart_back, installed_keeps}
use Rattle.lsm_root.specs.Installed.{IsInstalled}
use Rattle.lsm_root.specs.Roots.{Stands}

abbrev Tables : Type 0
Tables = List TableRecord

-- ---- lists of records

all_tables : (P : TableRecord → Type 0) (placed : List PlacedTable) → All (λ (x : PlacedTable). P x.table) placed → All P (tables_of placed)
all_tables P [] all = All-nil P
all_tables P (x ∷ rest) all = All-cons P x.table (tables_of rest) (All-head (λ (x : PlacedTable). P x.table) x rest all) (all_tables P rest (All-tail (λ (x : PlacedTable). P x.table) x rest all))

placed_apart : (placed : List PlacedTable) → Pairwise ArePlacedApart placed → Pairwise AreApart (tables_of placed)
placed_apart [] apart = tt
placed_apart (x ∷ rest) apart = (all_tables (AreApart x.table) rest apart.0, placed_apart rest apart.1)

pushed_clear : (t : TableRecord) (ts : List TableRecord) → All (AreApart t) ts → All (AreApart t) (map pushed ts)
pushed_clear t [] all = All-nil (AreApart t)
pushed_clear t (u ∷ us) all = All-cons (AreApart t) (pushed u) (map pushed us) (All-head (AreApart t) u us all) (pushed_clear t us (All-tail (AreApart t) u us all))

pushed_apart : (ts : List TableRecord) → Pairwise AreApart ts → Pairwise AreApart (map pushed ts)
pushed_apart [] apart = tt
pushed_apart (t ∷ ts) apart = (by (pushed_clear t ts apart.0), pushed_apart ts apart.1)
  where
    by : All (AreApart t) (map pushed ts) → All (AreApart (pushed t)) (map pushed ts)
    by all = all

cross_pushed : (own : List PlacedTable) (ts : List TableRecord) → All (λ (x : PlacedTable). All (AreApart x.table) ts) own → All (λ (t : TableRecord). All (AreApart t) (map pushed ts)) (tables_of own)
cross_pushed own ts clear = all_tables (λ (t : TableRecord). All (AreApart t) (map pushed ts)) own (λ k x lt. pushed_clear (get_or own k x).table ts (clear k x lt))

-- ---- what the others have placed is apart from what the job has

module _ (p : Placement) (xs own ys : List PlacedTable) (clear : All (IsClear p) (xs ++ (own ++ ys))) (apart : Pairwise ArePlacedApart (xs ++ (own ++ ys))) where
  own_clear : All (IsClear p) own
  own_clear = All-left (IsClear p) own ys (All-right (IsClear p) xs (own ++ ys) clear)

  own_apart : Pairwise AreApart (tables_of own)
  own_apart = placed_apart own (pairwise_left ArePlacedApart own ys (pairwise_right ArePlacedApart xs (own ++ ys) apart))

  cross : All (λ (x : PlacedTable). All (ArePlacedApart x) (own ++ ys)) xs
  cross = pairwise_cross ArePlacedApart xs (own ++ ys) apart

  behind : All (λ (x : PlacedTable). All (ArePlacedApart x) ys) own
  behind = pairwise_cross ArePlacedApart own ys (pairwise_right ArePlacedApart xs (own ++ ys) apart)

  -- each of the others is apart from all of its own
  others_apart : All (λ (y : PlacedTable). All (AreApart y.table) (tables_of own)) (xs ++ ys)
  others_apart = All-append (λ (y : PlacedTable). All (AreApart y.table) (tables_of own)) xs ys
      (λ k y lt. all_tables (AreApart (get_or xs k y).table) own (All-left (ArePlacedApart (get_or xs k y)) own ys (cross k y lt)))
      (λ k y lt. all_tables (AreApart (get_or ys k y).table) own (λ j x less. apart_back (get_or own j x).table (get_or ys k y).table (behind j x less k y lt)))

  others_clear : All (IsClear p) (xs ++ ys)
  others_clear = All-append (IsClear p) xs ys (All-left (IsClear p) xs (own ++ ys) clear) (All-right (IsClear p) own ys (All-right (IsClear p) xs (own ++ ys) clear))

-- ---- a flush

pub flush_keeps : (p : Placement) (xs own ys : List PlacedTable) (start d : Disk) (next_table : ℕ) → CarriesJobs p (xs ++ (own ++ ys)) start → AreFlushed p (seen start) (tables_of own) → 1 ≤ p.logs.log_sectors
    → IsInstalled start (Stands p.logs.log_sectors (contents_for (flushed p (length (closed_in p (seen start))) next_table (tables_of own)))) d
    → CarriesJobs (flushed p (length (closed_in p (seen start))) next_table (tables_of own)) (xs ++ ys) d
flush_keeps p xs own ys start d next_table keeps are some installed =
    let q = flushed p (length (closed_in p (seen start))) next_table (tables_of own) in
    let next = flush_installs p start next_table (tables_of own) keeps.carried are in
    let others = others_apart p xs own ys keeps.clear keeps.apart in
    let clear = others_clear p xs own ys keeps.clear keeps.apart in
    installed_keeps p q xs own ys start d refl keeps (installed_carried start d q _ some next installed) installed.settled installed.stands.all
    (pairwise_join AreApart (tables_of own) (map pushed p.tables) (own_apart p xs own ys keeps.clear keeps.apart) (pushed_apart p.tables keeps.tables) (cross_pushed own p.tables (own_clear p xs own ys keeps.clear keeps.apart)))
    (λ k y lt. let t = (get_or (xs ++ ys) k y).table in All-append (AreApart t) (tables_of own) (map pushed p.tables) (others k y lt) (pushed_clear t p.tables (clear k y lt)))

-- ---- a merge

-- what holds of all tables holds of those that stay and the new ones
outputs_all : (P : TableRecord → Type 0) (x : Parts) (new : List TableRecord) → All P (with_inputs x) → All P new → All P (with_outputs x new)
outputs_all P x new all here =
    let behind_a = All-right P x.before (x.upper ++ (x.between ++ (x.lower ++ x.behind))) all in
    let behind_u = All-right P x.upper (x.between ++ (x.lower ++ x.behind)) behind_a in
    let behind_f = All-right P x.between (x.lower ++ x.behind) behind_u in
    All-append P x.before (x.between ++ (new ++ x.behind)) (All-left P x.before (x.upper ++ (x.between ++ (x.lower ++ x.behind))) all)
    (All-append P x.between (new ++ x.behind) (All-left P x.between (x.lower ++ x.behind) behind_u)
    (All-append P new x.behind here (All-right P x.lower x.behind behind_f)))

module _ {X : Type 0} (R : X → X → Type 0) where
  without_middle : (xs ys zs : List X) → Pairwise R (xs ++ (ys ++ zs)) → Pairwise R (xs ++ zs)
  without_middle xs ys zs all =
      pairwise_join R xs zs (pairwise_left R xs (ys ++ zs) all) (pairwise_right R ys zs (pairwise_right R xs (ys ++ zs) all))
      (λ k x lt. All-right (R (get_or xs k x)) ys zs (pairwise_cross R xs (ys ++ zs) all k x lt))

  with_middle : (xs ys zs : List X) → Pairwise R (xs ++ zs) → Pairwise R ys → All (λ x. All (R x) ys) xs → All (λ y. All (R y) zs) ys → Pairwise R (xs ++ (ys ++ zs))
  with_middle xs ys zs all middle front behind =
      pairwise_join R xs (ys ++ zs) (pairwise_left R xs zs all)
      (pairwise_join R ys zs middle (pairwise_right R xs zs all) behind)
      (λ k x lt. All-append (R (get_or xs k x)) ys zs (front k x lt) (pairwise_cross R xs zs all k x lt))

outputs_apart : (x : Parts) (new : List TableRecord) → Pairwise AreApart (with_inputs x) → Pairwise AreApart new → All (λ (t : TableRecord). All (AreApart t) (with_inputs x)) new → Pairwise AreApart (with_outputs x new)
outputs_apart x new all here clear =
    let no_upper : Pairwise AreApart (x.before ++ (x.between ++ (x.lower ++ x.behind))) = without_middle AreApart x.before x.upper (x.between ++ (x.lower ++ x.behind)) all in
    let grouped : Pairwise AreApart ((x.before ++ x.between) ++ (x.lower ++ x.behind)) = subst (Pairwise AreApart) (sym (append_assoc x.before x.between (x.lower ++ x.behind))) no_upper in
    let stay : Pairwise AreApart ((x.before ++ x.between) ++ x.behind) = without_middle AreApart (x.before ++ x.between) x.lower x.behind grouped in
    let front : All (λ (t : TableRecord). All (AreApart t) new) (x.before ++ x.between) = (λ k t lt j u less. apart_back (get_or new j u) (get_or (x.before ++ x.between) k t) (clear_front j u less k t lt)) in
    subst (Pairwise AreApart) (append_assoc x.before x.between (new ++ x.behind)) (with_middle AreApart (x.before ++ x.between) new x.behind stay here front clear_behind)
  where
    parts : (P : TableRecord → Type 0) → All P (with_inputs x) → All P (x.before ++ x.between) × All P x.behind
    parts P every =
        let behind_u = All-right P x.upper (x.between ++ (x.lower ++ x.behind)) (All-right P x.before (x.upper ++ (x.between ++ (x.lower ++ x.behind))) every) in
        let behind_f = All-right P x.between (x.lower ++ x.behind) behind_u in
        (All-append P x.before x.between (All-left P x.before (x.upper ++ (x.between ++ (x.lower ++ x.behind))) every) (All-left P x.between (x.lower ++ x.behind) behind_u), All-right P x.lower x.behind behind_f)

    clear_front : All (λ (t : TableRecord). All (AreApart t) (x.before ++ x.between)) new
    clear_front = λ j u less. (parts (AreApart (get_or new j u)) (clear j u less)).0

    clear_behind : All (λ (t : TableRecord). All (AreApart t) x.behind) new
    clear_behind = λ j u less. (parts (AreApart (get_or new j u)) (clear j u less)).1

pub merge_keeps : (p : Placement) (xs own ys : List PlacedTable) (start d : Disk) (next_table runs : ℕ) (x : Parts) → CarriesJobs p (xs ++ (own ++ ys)) start → AreMerged p (seen start) x (tables_of own) → 1 ≤ p.logs.log_sectors
    → IsInstalled start (Stands p.logs.log_sectors (contents_for (merged p next_table runs (with_outputs x (tables_of own))))) d
    → CarriesJobs (merged p next_table runs (with_outputs x (tables_of own))) (xs ++ ys) d
merge_keeps p xs own ys start d next_table runs x keeps are some installed =
    let new = tables_of own in
    let q = merged p next_table runs (with_outputs x new) in
    let next = merge_installs p start next_table runs x new keeps.carried are in
    let others = others_apart p xs own ys keeps.clear keeps.apart in
    let clear = others_clear p xs own ys keeps.clear keeps.apart in
    installed_keeps p q xs own ys start d refl keeps (installed_carried start d q _ some next installed) installed.settled installed.stands.all
    (outputs_apart x new (subst (Pairwise AreApart) are.was keeps.tables) (own_apart p xs own ys keeps.clear keeps.apart)
    (subst (λ (ts : Tables). All (λ (t : TableRecord). All (AreApart t) ts) new) are.was (all_tables (λ (t : TableRecord). All (AreApart t) p.tables) own (own_clear p xs own ys keeps.clear keeps.apart))))
    (λ k y lt. let t = (get_or (xs ++ ys) k y).table in outputs_all (AreApart t) x new (subst (All (AreApart t)) are.was (clear k y lt)) (others k y lt))
