-- A table that is written as the blocks of its extent stands there.
use Rattle.std.proofs.Common.{◌≡◌, ℕ, ◌≤◌, ◌^◌, true, List, length, Some, sym, ◌∙◌, ap, subst}
use Rattle.std.specs.List.{AllByRecursion}
use Rattle.lsm_codec.specs.declared.table_record.TableRecord.{TableRecord}
use Rattle.std.specs.Prelude.{IfSome}
use Rattle.lsm_codec.specs.TableRecords.{extent_blocks}
use Rattle.lsm_codec.specs.Versions.{Version, deletes_in}
use Rattle.lsm_filter.specs.Bits.{is_perhaps}
use Rattle.lsm_levels.specs.Stored.{blocks_from}
use Rattle.lsm_mem.specs.Versions.{NumberedAtMost}
use Rattle.lsm_open.specs.Tables.{extent_at, blocks_at, versions_if, IsTableAt}
use Rattle.lsm_table.specs.Division.{TableBlocks, IsTable, entries_of}
use Rattle.lsm_table.specs.Extents.{extent_in_blocks}
use Rattle.lsm_table.specs.Outlines.{IsRecordOf, outline_in}
use Rattle.lsm_table.specs.Stored.{table_in, outline_at}
use Rattle.lsm_table.proofs.Outlines.{edge_count}
use Rattle.lsm_table.proofs.StoredTables.{stored_laws_hold}

pub table_stands : (n base : ℕ) (sectors : List (List ℕ)) (t : TableRecord) (filter : List ℕ) (table : TableBlocks) → blocks_from (extent_at n sectors t) 0 (extent_blocks t) ≡ extent_in_blocks t.number filter table
    → IsTable table → t.number ≤ 2 ^ 63 → IsRecordOf t (outline_in t.number filter table) → AllByRecursion (λ v. is_perhaps filter v.key ≡ true) (entries_of table) → NumberedAtMost base (entries_of table)
    → IfSome t.deletes (λ deletes. deletes ≡ deletes_in (entries_of table)) → IsTableAt n base sectors t
table_stands n base sectors t filter table blocks is high recorded members numbered counted =
    let count : t.data_blocks ≡ length table = recorded.data_blocks ∙ edge_count table is in
    let spelled : table_in t.data_blocks (blocks_at n sectors t) ≡ Some table =
    ap (λ (k : ℕ). table_in k (blocks_at n sectors t)) count ∙ ap (λ (bs : List (List ℕ)). table_in (length table) bs) blocks ∙ stored_laws_hold.table t.number filter table is in
    record {
      table = table;
      filter = filter;
      spelled = spelled;
      sorted = record { ordered = is.ordered; versions = is.versions; nonempty = is.in_blocks.nonempty };
      told = ap (λ (bs : List (List ℕ)). outline_at t bs) blocks ∙ stored_laws_hold.outline t t.number filter table high is recorded;
      members = members;
      numbered = subst (NumberedAtMost base) (sym (ap versions_if spelled)) numbered;
      counted = subst (λ (vs : List Version). IfSome t.deletes (λ deletes. deletes ≡ deletes_in vs)) (sym (ap versions_if spelled)) counted;
    }
