-- Footer, index and filter give an outline exactly where it is one and they encode it.
use Rattle.std.proofs.Common.{◌≡◌, ℕ, suc, ◌^◌, ◌<◌, ◌≤◌, Bool, true, false, cond, ◌&&◌, ◌==◌, List, [], ◌∷◌, length, Option, Some, None, refl, sym, ap, subst, ◌∙◌, arith}
use Rattle.std.specs.List.{AllByRecursion}
use Rattle.std.proofs.lemmas.Bool.{and_parts, and_from, eqb-true, eq-eqb}
use Rattle.std.proofs.lemmas.Option.{cond_some, none-some}
use Rattle.lsm_codec.specs.Keys.{Bytes, IsKey}
use Rattle.lsm_codec.specs.Versions.{Version, IsEntry}
use Rattle.lsm_codec.specs.Indexes.{Edge, IsEdge, IsIndex, index_length, index_count, index_blocks, index_of}
use Rattle.lsm_codec.specs.Footers.{Summary, IsSummary, footer_block, footer_of}
use Rattle.lsm_codec.specs.Reading.{◌>>=◌}
use Rattle.lsm_codec.proofs.Lists.{all_left, all_right}
use Rattle.lsm_codec.proofs.Readers.{bind_some}
use Rattle.lsm_codec.proofs.Decoding.{found_some}
use Rattle.lsm_codec.proofs.FooterLaws.{footer_of_exact}
use Rattle.lsm_codec.proofs.IndexLaws.{index_of_exact, index_low, index_high}
use Rattle.lsm_table.specs.Division.{Block, TableBlocks, entries_of, IsTable}
use Rattle.lsm_table.specs.BlockEdges.{last_edge, edges_of, first_key_of}
use Rattle.lsm_table.specs.BlockEdges.{follow_first, are_rising}
use Rattle.lsm_codec.specs.declared.table_record.TableRecord.{TableRecord}
use Rattle.lsm_table.specs.Outlines.{Outline, summary_in, IsRecordOf, outline_in, is_of_record, go_together, outline_with, outline_by, outline_of, IsOutline, IsSpelled}
use Rattle.lsm_table.specs.Extents.{footer_in}
use Rattle.lsm_table.specs.Laws.{OutlineLaws}
use Rattle.lsm_table.proofs.Blocks.{only_blocks}
use Rattle.lsm_table.proofs.Rising.{edges_rise, edges_begin}

-- ---- reading

abbrev made : Summary → List Edge → List ℕ → Outline
made f edges filter = record { number = f.number; entries = f.entries; first = f.first; edges = edges; filter = filter }

-- what a test lets through
passed_test : {X : Type 0} (b : Bool) (x : Option X) (z : X) → cond b x None ≡ Some z → (b ≡ true) × (x ≡ Some z)
passed_test true x z e = (refl, e)
passed_test false x z e = absurd (none-some z e)

same_summary : (f : Summary) (n m : ℕ) → n ≡ f.data_blocks → m ≡ f.index_len → record { number = f.number; data_blocks = n; entries = f.entries; index_len = m; first = f.first } ≡ f
same_summary f n m a b = rw (a, b) refl

-- footer and index that go together give an outline
outlined : (s : TableRecord) (f : Summary) (edges : List Edge) (filter : List ℕ) → IsSummary f → IsIndex f.data_blocks edges → go_together s f edges ≡ true → IsOutline (made f edges filter)
outlined s f edges filter summary index together =
    let t = and_parts (index_count edges == s.index_blocks) ((index_length edges == f.index_len) && (follow_first f.first edges && are_rising edges)) together in
    let p = and_parts (index_length edges == f.index_len) (follow_first f.first edges && are_rising edges) t.1 in
    let q = and_parts (follow_first f.first edges) (are_rising edges) p.1 in
    let same : summary_in (made f edges filter) ≡ f = same_summary f (length edges) (index_length edges) index.all (eqb-true (index_length edges) f.index_len p.0) in
    record { summary = subst IsSummary (sym same) summary; index = subst (λ (n : ℕ). IsIndex n edges) (sym index.all) index; begins = q.0; rising = q.1 }

pub is_outline : (s : TableRecord) (f : Summary) (first : Bytes) (edges : List Edge) (filter : List ℕ) → IsSummary f → IsIndex f.data_blocks edges → first ≡ f.first → go_together s f edges ≡ true
    → IsOutline (record { number = f.number; entries = f.entries; first = first; edges = edges; filter = filter })
is_outline s f first edges filter summary index same together =
    subst (λ (b : Bytes). IsOutline (record { number = f.number; entries = f.entries; first = b; edges = edges; filter = filter })) (sym same) (outlined s f edges filter summary index together)

told : (s : TableRecord) (footer index filter : List ℕ) (o : Outline) → outline_of s footer index filter ≡ Some o → IsOutline o × IsSpelled s footer index filter o
unfolding outline_of
told s footer index filter o e =
    let a = bind_some (footer_of footer) (λ (f : Summary). outline_by s f index filter) o e in
    let f : Summary = a.0 in
    let shaped = passed_test (is_of_record s f) (index_of f.data_blocks index >>= λ edges. outline_with s f filter edges) o a.2 in
    let b = bind_some (index_of f.data_blocks index) (λ (edges : List Edge). outline_with s f filter edges) o shaped.1 in
    let edges : List Edge = b.0 in
    let c = cond_some (go_together s f edges) (made f edges filter) o b.2 in
    let front = found_some f (footer_of_exact footer) a.1 in
    let back = found_some edges (index_of_exact f.data_blocks index) b.1 in
    let x = and_parts (f.number == s.number) ((f.data_blocks == s.data_blocks) && (f.entries == s.entries)) shaped.0 in
    let y = and_parts (f.data_blocks == s.data_blocks) (f.entries == s.entries) x.1 in
    let t = and_parts (index_count edges == s.index_blocks) ((index_length edges == f.index_len) && (follow_first f.first edges && are_rising edges)) c.0 in
    let p = and_parts (index_length edges == f.index_len) (follow_first f.first edges && are_rising edges) t.1 in
    let len : index_length edges ≡ f.index_len = eqb-true (index_length edges) f.index_len p.0 in
    let count : length edges ≡ f.data_blocks = back.0.all in
    let same : summary_in (made f edges filter) ≡ f = same_summary f (length edges) (index_length edges) count len in
    let recorded : IsRecordOf s (made f edges filter) = record {
      number = sym (eqb-true f.number s.number x.0);
      data_blocks = sym (count ∙ eqb-true f.data_blocks s.data_blocks y.0);
      index_blocks = sym (eqb-true (index_count edges) s.index_blocks t.0);
      entries = sym (eqb-true f.entries s.entries y.1);
    } in
    subst (λ (x : Outline). IsOutline x × IsSpelled s footer index filter x) c.1 (
      outlined s f edges filter front.0 back.0 c.0,
      record { by_record = recorded; by_footer = front.1 ∙ ap footer_block (sym same); by_index = back.1; by_filter = refl },
    )

own_record : (s : TableRecord) (o : Outline) → IsRecordOf s o → is_of_record s (summary_in o) ≡ true
own_record s o r = and_from _ _ (eq-eqb o.number s.number (sym r.number)) (and_from _ _ (eq-eqb (length o.edges) s.data_blocks (sym r.data_blocks)) (eq-eqb o.entries s.entries (sym r.entries)))

own_index : (s : TableRecord) (o : Outline) → IsRecordOf s o → IsOutline o → go_together s (summary_in o) o.edges ≡ true
own_index s o r is =
    and_from _ _ (eq-eqb (index_count o.edges) s.index_blocks (sym r.index_blocks)) (and_from _ _ (eq-eqb (index_length o.edges) (index_length o.edges) refl) (and_from _ _ is.begins is.rising))

pub spelled : (s : TableRecord) (footer index filter : List ℕ) (o : Outline) → IsOutline o → IsSpelled s footer index filter o → outline_of s footer index filter ≡ Some o
unfolding outline_of
spelled s footer index filter o is by =
    let f : Summary = summary_in o in
    let front : footer_of footer ≡ Some f = (footer_of_exact footer).only f is.summary by.by_footer in
    let back : index_of (length o.edges) index ≡ Some o.edges = (index_of_exact (length o.edges) index).only o.edges is.index by.by_index in
    let shaped : is_of_record s f ≡ true = own_record s o by.by_record in
    let together : go_together s f o.edges ≡ true = own_index s o by.by_record is in
    ap (λ (r : Option Summary). r >>= λ g. outline_by s g index filter) front
    ∙ ap (λ (b : Bool). cond b (index_of f.data_blocks index >>= λ edges. outline_with s f filter edges) None) shaped
    ∙ ap (λ (r : Option (List Edge)). r >>= λ edges. outline_with s f filter edges) back
    ∙ ap (λ (b : Bool). cond b (Some (made f o.edges filter)) None) together
    ∙ ap (λ (x : List ℕ). Some (made f o.edges x)) by.by_filter

-- ---- the outline of a table

edge_fits : (v : Version) (block : Block) → AllByRecursion IsEntry (v ∷ block) → IsEdge (last_edge v block)
edge_fits v [] all = record { key = all.0.key; number_low = all.0.number_low; number_high = all.0.number_high }
edge_fits v (w ∷ block) all = edge_fits w block all.1

edges_fit : (table : TableBlocks) → AllByRecursion IsEntry (entries_of table) → AllByRecursion (λ block. 0 < length block) table → (length (edges_of table) ≡ length table) × AllByRecursion IsEdge (edges_of table)
edges_fit [] all some = (refl, tt)
edges_fit ([] ∷ table) all some = absurd (omega (arith, some.0))
edges_fit ((v ∷ block) ∷ table) all some =
    let rest = edges_fit table (all_right IsEntry (v ∷ block) (entries_of table) all) some.1 in
    (ap suc rest.0, (edge_fits v block (all_left IsEntry (v ∷ block) (entries_of table) all), rest.1))

first_fits : (table : TableBlocks) → 0 < length table → AllByRecursion IsEntry (entries_of table) → AllByRecursion (λ block. 0 < length block) table → IsKey (first_key_of table) × (0 < length (entries_of table))
first_fits [] some all full = absurd (omega (arith, some))
first_fits ([] ∷ table) some all full = absurd (omega (arith, full.0))
first_fits ((v ∷ block) ∷ table) some all full = (all.0.key, omega arith)

pub few_blocks : (table : TableBlocks) → IsTable table → length table ≤ 64
few_blocks table is = omega (arith, is.within.few_blocks, ap (λ (t : TableBlocks). length t) (only_blocks (entries_of table) table is.nonempty is.in_blocks))

pub outline_fits : (number : ℕ) (filter : List ℕ) (table : TableBlocks) → number ≤ 2 ^ 63 → IsTable table → IsOutline (outline_in number filter table)
outline_fits number filter table le is =
    let some = is.in_blocks.nonempty in
    let edges = edges_fit table is.versions some in
    let first = first_fits table is.nonempty is.versions some in
    let fits : IsIndex (length (edges_of table)) (edges_of table) = record { all = refl; each = edges.1 } in
    record {
      summary = record {
        number = le;
        blocks_low = omega (arith, edges.0, is.nonempty);
        blocks_high = omega (arith, edges.0, few_blocks table is);
        entries_low = omega (arith, first.1);
        entries_high = is.within.few_entries;
        index_low = omega (arith, edges.0, is.nonempty, index_low (length (edges_of table)) (edges_of table) fits);
        index_high = omega (arith, edges.0, few_blocks table is, index_high (length (edges_of table)) (edges_of table) fits);
        first = first.0;
      };
      index = fits;
      begins = edges_begin table is.ordered some;
      rising = edges_rise table some is.ordered;
    }

-- a table has an edge for each block
pub edge_count : (table : TableBlocks) → IsTable table → length (edges_of table) ≡ length table
edge_count table is = (edges_fit table is.versions is.in_blocks.nonempty).0

pub index_bounds : (table : TableBlocks) → IsTable table → (10 ≤ index_length (edges_of table)) × (index_length (edges_of table) ≤ 16896)
index_bounds table is = let o = outline_fits 0 [] table (omega arith) is in (o.summary.index_low, o.summary.index_high)

pub footer_is : (number blocks entries len : ℕ) (first : Bytes) (table : TableBlocks) → IsTable table → blocks ≡ length table → entries ≡ length (entries_of table) → len ≡ index_length (edges_of table) → first ≡ first_key_of table
    → footer_block (record { number = number; data_blocks = blocks; entries = entries; index_len = len; first = first }) ≡ footer_in number table
footer_is number blocks entries len first table is a b c d =
    let count : blocks ≡ length (edges_of table) = a ∙ sym (edge_count table is) in
    rw (count, b, c, d) refl

-- what an image of a table is written as is read as the table
opens : (t : TableRecord) (number : ℕ) (filter : List ℕ) (table : TableBlocks) → number ≤ 2 ^ 63 → IsTable table → IsRecordOf t (outline_in number filter table)
    → outline_of t (footer_in number table) (index_blocks (edges_of table)) filter ≡ Some (outline_in number filter table)
opens t number filter table le is recorded =
    spelled t _ _ _ (outline_in number filter table) (outline_fits number filter table le is) (record { by_record = recorded; by_footer = refl; by_index = refl; by_filter = refl })

pub outline_laws_hold : OutlineLaws
outline_laws_hold = record {
  exact = λ s footer index filter o. (told s footer index filter o, λ h. spelled s footer index filter o h.0 h.1);
  table = outline_fits;
  opens = opens;
  sorted = λ table is. record { ordered = is.ordered; versions = is.versions; nonempty = is.in_blocks.nonempty };
}
