-- The outline of a table, which footer, index and filter encode.
use Rattle.std.specs.Prelude.{◌≡◌, ℕ, ◌==◌, ◌&&◌, Bool, true, List, length, Option, Some, None, Result, MatchResult, ◌⊎◌, if◌then◌else◌}
use Rattle.lsm_device.specs.declared.refusal.Refusal.{Refusal}
use Rattle.lsm_device.specs.declared.refusal.Refusal.TheVariants.{BadTable, NoMemory}
use Rattle.lsm_codec.specs.Keys.{Bytes}
use Rattle.lsm_codec.specs.Indexes.{Edge, IsIndex, index_length, index_count, index_blocks, index_of}
use Rattle.lsm_codec.specs.Footers.{Summary, IsSummary, footer_block, footer_of}
use Rattle.lsm_codec.specs.Reading.{◌>>=◌}
use Rattle.lsm_codec.specs.declared.table_record.TableRecord.{TableRecord}
use Rattle.lsm_table.specs.Division.{TableBlocks, entries_of}
use Rattle.lsm_table.specs.BlockEdges.{edges_of, first_key_of, are_rising, follow_first}

-- number, entries, first key, the edge of each data block, and the bytes of the filter
pub record Outline : Type 0 where
  pub number : ℕ
  pub entries : ℕ
  pub first : Bytes
  pub edges : List Edge
  pub filter : List ℕ

-- the contents of its footer
abbrev pub summary_in : Outline → Summary
summary_in o = record { number = o.number; data_blocks = length o.edges; entries = o.entries; index_len = index_length o.edges; first = o.first }

-- a manifest's record is that of the outline
pub record IsRecordOf (t : TableRecord) (o : Outline) : Type 0 where
  pub number : t.number ≡ o.number
  pub data_blocks : t.data_blocks ≡ length o.edges
  pub index_blocks : t.index_blocks ≡ index_count o.edges
  pub entries : t.entries ≡ o.entries

-- the outline of a table, with this number and filter
abbrev pub outline_in : ℕ → List ℕ → TableBlocks → Outline
outline_in number filter table = record { number = number; entries = length (entries_of table); first = first_key_of table; edges = edges_of table; filter = filter }

-- the footer is of the record's number, and has as many data blocks and entries
abbrev pub is_of_record : TableRecord → Summary → Bool
is_of_record t f = (f.number == t.number) && ((f.data_blocks == t.data_blocks) && (f.entries == t.entries))

-- the index takes as many blocks as the record says, is as long as the footer says, and is in order
abbrev pub go_together : TableRecord → Summary → List Edge → Bool
go_together t f edges = (index_count edges == t.index_blocks) && ((index_length edges == f.index_len) && (follow_first f.first edges && are_rising edges))

-- the outline that footer and index give
abbrev pub outline_with : TableRecord → Summary → List ℕ → List Edge → Option Outline
outline_with t f filter edges = if go_together t f edges then Some (record { number = f.number; entries = f.entries; first = f.first; edges = edges; filter = filter }) else None

-- the outline that a footer, and the bytes of index and filter give
abbrev pub outline_by : TableRecord → Summary → List ℕ → List ℕ → Option Outline
outline_by t f index filter = if is_of_record t f then index_of f.data_blocks index >>= (λ edges. outline_with t f filter edges) else None

-- the outline that footer, index and filter of the table with this record give, if they are those of such a table
unfoldable pub outline_of : TableRecord → List ℕ → List ℕ → List ℕ → Option Outline
outline_of t footer index filter = footer_of footer >>= λ f. outline_by t f index filter

-- the outline of a table: footer and index are within their limits, and in order
pub record IsOutline (o : Outline) : Type 0 where
  pub summary : IsSummary (summary_in o)
  pub index : IsIndex (length o.edges) o.edges
  pub begins : follow_first o.first o.edges ≡ true
  pub rising : are_rising o.edges ≡ true

-- the record is that of the outline, and footer, index and filter encode it
pub record IsSpelled (t : TableRecord) (footer index filter : List ℕ) (o : Outline) : Type 0 where
  pub by_record : IsRecordOf t o
  pub by_footer : footer ≡ footer_block (summary_in o)
  pub by_index : index ≡ index_blocks o.edges
  pub by_filter : filter ≡ o.filter

-- a table is opened where footer, index and filter give an outline, unless memory runs out
abbrev pub Opens : Option Outline → Result Outline Refusal → Type 0
Opens told result = MatchResult result (λ o. told ≡ Some o) (λ e. (e ≡ NoMemory) ⊎ ((e ≡ BadTable) × (told ≡ None)))
