-- Tables that stand are told by the blocks where they stand.
use Rattle.std.proofs.Common.{◌≡◌, true, ℕ, ◌+◌, ◌*◌, ◌≤◌, List, [], ◌∷◌, ◌++◌, length, take, All, None, Some, refl, sym, ◌∙◌, ap, subst, arith}
use Rattle.std.specs.Prelude.{Option, IfSome, is_some, option_map}
use Rattle.std.specs.List.{AllByRecursion}
use Rattle.std.proofs.lemmas.List.Elements.{All-head, All-tail}
use Rattle.std.proofs.lemmas.Option.{same_Some}
use Rattle.lsm_codec.specs.Reading.{◌>>=◌}
use Rattle.lsm_codec.specs.TableRecords.{extent_blocks}
use Rattle.lsm_codec.specs.TableRecords.{IsOfVersion}
use Rattle.lsm_codec.specs.Versions.{Version, deletes_in}
use Rattle.lsm_codec.specs.declared.superblock.FormatVersion.TheVariants.{Two}
use Rattle.lsm_codec.specs.declared.table_record.TableRecord.{TableRecord}
use Rattle.lsm_levels.specs.Asking.{sector_of}
use Rattle.lsm_levels.specs.Stored.{blocks_from, IsStored}
use Rattle.lsm_levels.specs.Tables.{Table, table_at, versions_of}
use Rattle.lsm_open.specs.Tables.{first_data, extent_start, blocks_at, versions_if, versions_at, table_versions, IsTableAt}
use Rattle.lsm_open.specs.ToldTables.{told_table, told_tables, IsNamedBy, AreNamedBy}
use Rattle.lsm_open.proofs.BlockReads.{extent_is, some_blocks}
use Rattle.lsm_open.proofs.ToldRuns.{told_with_deletes}
use Rattle.lsm_table.specs.BlockEdges.{edges_of}
use Rattle.lsm_table.specs.Outlines.{IsRecordOf, outline_in}
use Rattle.lsm_table.specs.Stored.{table_of}

abbrev Sectors : Type 0
Sectors = List (List ℕ)

module _ (n base : ℕ) (s : Sectors) where
  -- the table of a record that stands
  abbrev pub standing : (t : TableRecord) → IsTableAt n base s t → Table
  standing t is = table_at (outline_in t.number is.filter is.table) t.first_block (deletes_in (versions_at n s t)) (versions_at n s t)

  -- a record that tells the deletes tells those of its versions
  tells_them : (t : TableRecord) → IsTableAt n base s t → IsOfVersion Two t → t.deletes ≡ Some (deletes_in (versions_at n s t))
  tells_them t is two = by t.deletes is.counted two
    where
      by : (o : Option ℕ) → IfSome o (λ deletes. deletes ≡ deletes_in (versions_at n s t)) → is_some o ≡ true → o ≡ Some (deletes_in (versions_at n s t))
      by (Some deletes) e some = ap (λ (d : ℕ). Some d) e
      by None e some = absurd cc

  -- it is told
  pub told_standing : (t : TableRecord) (is : IsTableAt n base s t) → IsOfVersion Two t → told_table n s t ≡ Some (standing t is)
  told_standing t is two =
      told_with_deletes n s t (deletes_in (versions_at n s t)) (versions_at n s t) (tells_them t is two)
      ∙ ap (option_map (λ o. table_at o t.first_block (deletes_in (versions_at n s t)) (versions_at n s t))) is.told

  -- and stands in the levels, where its record has its number of blocks
  pub standing_stored : (t : TableRecord) (is : IsTableAt n base s t) → IsRecordOf t (outline_in t.number is.filter is.table) → IsStored s (first_data n) (standing t is)
  standing_stored t is recorded = record {
    blocks = is.table;
    spelled = here ∙ is.spelled;
    sorted = is.sorted;
    told = ap (λ (vs : List Version). table_at (outline_in t.number is.filter is.table) t.first_block (deletes_in vs) vs) (ap versions_if is.spelled);
    members = is.members;
  }
    where
      few : 0 + t.data_blocks ≤ extent_blocks t
      few = omega arith

      at : sector_of (first_data n) (standing t is) 0 ≡ extent_start n t + 8 * 0
      at = omega arith

      here : table_of (blocks_from s (sector_of (first_data n) (standing t is) 0) (length (edges_of is.table))) ≡ table_of (take t.data_blocks (blocks_at n s t))
      here =
          ap (λ (k : ℕ). table_of (blocks_from s k (length (edges_of is.table)))) at
          ∙ ap (λ (k : ℕ). table_of (blocks_from s (extent_start n t + 8 * 0) k)) (sym recorded.data_blocks)
          ∙ ap table_of (sym (some_blocks s (extent_start n t) (extent_blocks t) 0 t.data_blocks few))
          ∙ ap (λ (bs : Sectors). table_of (take t.data_blocks bs)) (sym (extent_is n s t))

  -- each table that is told of a record that stands
  pub told_stored : (t : TableRecord) (u : Table) → IsTableAt n base s t → IsOfVersion Two t → told_table n s t ≡ Some u → IsRecordOf t u.outline → IsStored s (first_data n) u × (u.versions ≡ versions_at n s t)
  told_stored t u is two told recorded =
      let same : standing t is ≡ u = same_Some (standing t is) u (sym (told_standing t is two) ∙ told) in
      let of : IsRecordOf t (outline_in t.number is.filter is.table) = subst (λ (x : Table). IsRecordOf t x.outline) (sym same) recorded in
      (subst (IsStored s (first_data n)) same (standing_stored t is of), ap (λ (x : Table). x.versions) (sym same))

  -- ---- those of records, one after the other

  one_recorded : (t : TableRecord) (is : IsTableAt n base s t) → IsNamedBy t (standing t is) → IsRecordOf t (standing t is).outline
  one_recorded t is named = record {
    number = refl;
    data_blocks = ap (λ (x : TableRecord). x.data_blocks) (sym named.listed);
    index_blocks = ap (λ (x : TableRecord). x.index_blocks) (sym named.listed);
    entries = ap (λ (x : TableRecord). x.entries) (sym named.listed);
  }

  none_standing : (us : List Table) → Some [] ≡ Some us → AllByRecursion (IsStored s (first_data n)) us × (versions_of us ≡ [])
  none_standing us told = subst (λ (xs : List Table). AllByRecursion (IsStored s (first_data n)) xs × (versions_of xs ≡ [])) (same_Some [] us told) (tt, refl)

  -- the tables that are told of records that stand: they stand, and their versions are those of the records
  pub all_told_stored : (ts : List TableRecord) (us : List Table) → All (IsTableAt n base s) ts → All (IsOfVersion Two) ts → told_tables n s ts ≡ Some us → AreNamedBy ts us → AllByRecursion (IsStored s (first_data n)) us × (versions_of us ≡ table_versions n s ts)
  all_told_stored [] us each two told named = none_standing us told
  all_told_stored (t ∷ rest) us each two told named =
      by (λ more behind later. all_told_stored rest more (All-tail (IsTableAt n base s) t rest each) (All-tail (IsOfVersion Two) t rest two) behind later) (told_tables n s rest) refl
      (sym (ap (λ (o : Option Table). o >>= λ table. told_tables n s rest >>= λ tables. Some (table ∷ tables)) (told_standing t is (All-head (IsOfVersion Two) t rest two))) ∙ told)
    where
      is : IsTableAt n base s t
      is = All-head (IsTableAt n base s) t rest each

      by : ((more : List Table) → told_tables n s rest ≡ Some more → AreNamedBy rest more → AllByRecursion (IsStored s (first_data n)) more × (versions_of more ≡ table_versions n s rest))
          → (o : Option (List Table)) → told_tables n s rest ≡ o → (o >>= λ tables. Some (standing t is ∷ tables)) ≡ Some us → AllByRecursion (IsStored s (first_data n)) us × (versions_of us ≡ table_versions n s (t ∷ rest))
      by later None behind says = absurd cc
      by later (Some more) behind says =
          let same : standing t is ∷ more ≡ us = same_Some (standing t is ∷ more) us says in
          let both : AreNamedBy (t ∷ rest) (standing t is ∷ more) = subst (AreNamedBy (t ∷ rest)) (sym same) named in
          let those = later more behind both.1 in
          subst (λ (xs : List Table). AllByRecursion (IsStored s (first_data n)) xs × (versions_of xs ≡ table_versions n s (t ∷ rest))) same
          ((standing_stored t is (one_recorded t is both.0), those.0), ap (λ (vs : List Version). versions_at n s t ++ vs) those.1)
