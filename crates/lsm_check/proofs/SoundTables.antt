-- Whether a table is sound, by the entries that were read of it.
use Rattle.std.proofs.Common.{◌≡◌, ℕ, ◌<◌, ◌≤◌, nat_le, ◌==◌, ◌&&◌, Bool, true, List, [], ◌∷◌, length, refl, sym, ap, subst, ◌∙◌, arith, take_all}
use Rattle.std.specs.List.{AllByRecursion, list_all}
use Rattle.std.proofs.lemmas.Bool.{and_parts, and_from, eqb-true, eq-eqb}
use Rattle.std.proofs.lemmas.Option.{same_Some}
use Rattle.lsm_codec.specs.Entries.{IsDataBlock}
use Rattle.lsm_codec.specs.Indexes.{Edge}
use Rattle.lsm_codec.specs.Keys.{Bytes}
use Rattle.lsm_codec.specs.Versions.{Version, IsEntry, AreOrdered, deletes_in, is_same_key}
use Rattle.lsm_codec.proofs.KeyOrder.{same_key, key_itself}
use Rattle.lsm_codec.proofs.Limits.{at_most-Decides, each-Decides}
use Rattle.lsm_codec.proofs.Lists.{all_append}
use Rattle.lsm_filter.specs.Bits.{is_perhaps}
use Rattle.lsm_levels.specs.Asking.{sector_of}
use Rattle.lsm_levels.specs.Orders.{IsNewerPlace}
use Rattle.lsm_levels.specs.Stored.{blocks_from, IsStored}
use Rattle.lsm_levels.specs.Tables.{Table, table_at}
use Rattle.lsm_mem.specs.Versions.{NumberedAtMost}
use Rattle.lsm_open.specs.Tables.{versions_if}
use Rattle.lsm_table.specs.BlockEdges.{edges_of, first_in, first_key_of}
use Rattle.lsm_table.specs.Division.{TableBlocks, entries_of}
use Rattle.lsm_table.specs.Outlines.{Outline, outline_in}
use Rattle.lsm_table.proofs.StoredTables.{stored_laws_hold}
use Rattle.lsm_check.specs.Sound.{IsTold, AreRead, spelled_versions, Fits, IsSound}

abbrev Sectors : Type 0
Sectors = List (List ℕ)

-- ---- blocks that spell entries

some_each : (table : TableBlocks) → AllByRecursion IsDataBlock table → AllByRecursion (λ block. 0 < length block) table
some_each [] all = tt
some_each (b ∷ table) all = (omega (arith, all.0.some), some_each table all.1)

entries_fit : (table : TableBlocks) → AllByRecursion IsDataBlock table → AllByRecursion IsEntry (entries_of table)
entries_fit [] all = tt
entries_fit (b ∷ table) all = all_append IsEntry b (entries_of table) all.0.versions (entries_fit table all.1)

-- their first key is that of the entries
first_key : (table : TableBlocks) → AllByRecursion (λ block. 0 < length block) table → first_key_of table ≡ first_in (entries_of table)
first_key [] some = refl
first_key ([] ∷ table) some = absurd (omega (arith, some.0))
first_key ((v ∷ b) ∷ table) some = refl

-- ---- an outline by its parts

abbrev outline_by : ℕ → ℕ → Bytes → List Edge → List ℕ → Outline
outline_by number entries first edges filter = record { number = number; entries = entries; first = first; edges = edges; filter = filter }

outline_is : (o : Outline) (number entries : ℕ) (first : Bytes) (edges : List Edge) → o.number ≡ number → o.entries ≡ entries → o.first ≡ first → o.edges ≡ edges → o ≡ outline_by number entries first edges o.filter
outline_is o number entries first edges is_number is_entries is_first are_edges =
    ap (λ (n : ℕ). outline_by n o.entries o.first o.edges o.filter) is_number
    ∙ ap (λ (n : ℕ). outline_by number n o.first o.edges o.filter) is_entries
    ∙ ap (λ (k : Bytes). outline_by number entries k o.edges o.filter) is_first
    ∙ ap (λ (es : List Edge). outline_by number entries first es o.filter) are_edges

-- each key is in the filter, as a test
members-tested : (filter : List ℕ) (entries : List Version) → list_all (λ v. is_perhaps filter v.key) entries ≡ true → AllByRecursion (λ v. is_perhaps filter v.key ≡ true) entries
members-tested filter entries = (each-Decides (λ (v : Version). is_perhaps filter v.key) (λ v. is_perhaps filter v.key ≡ true) (λ v. (λ e. e, λ e. e)) entries).0

tested-members : (filter : List ℕ) (entries : List Version) → AllByRecursion (λ v. is_perhaps filter v.key ≡ true) entries → list_all (λ v. is_perhaps filter v.key) entries ≡ true
tested-members filter entries = (each-Decides (λ (v : Version). is_perhaps filter v.key) (λ v. is_perhaps filter v.key ≡ true) (λ v. (λ e. e, λ e. e)) entries).1

-- so are the numbers up to a base
numbered-tested : (base : ℕ) (entries : List Version) → list_all (λ v. nat_le v.number base) entries ≡ true → NumberedAtMost base entries
numbered-tested base entries = (each-Decides (λ (v : Version). nat_le v.number base) (λ v. v.number ≤ base) (λ v. at_most-Decides v.number base) entries).0

tested-numbered : (base : ℕ) (entries : List Version) → NumberedAtMost base entries → list_all (λ v. nat_le v.number base) entries ≡ true
tested-numbered base entries = (each-Decides (λ (v : Version). nat_le v.number base) (λ v. v.number ≤ base) (λ v. at_most-Decides v.number base) entries).1

-- a test of what is the same
pub tested_same : {X : Type 0} (test : X → Bool) (x y : X) (r : Bool) → y ≡ x → r ≡ test y → r ≡ true → test x ≡ true
tested_same test x y r same is passed = ap test (sym same) ∙ sym is ∙ passed

module _ (sectors : Sectors) (area : ℕ) (t : Table) where
  -- a table that stands is told
  pub told_if_stored : IsStored sectors area t → IsTold sectors area t
  told_if_stored stored =
      stored.told
      ∙ ap (λ (o : Outline). table_at o t.start (deletes_in (entries_of stored.blocks)) (entries_of stored.blocks)) (sym (ap (λ (x : Table). x.outline) stored.told))
      ∙ ap (λ (d : ℕ). table_at t.outline t.start d (entries_of stored.blocks)) (sym (ap (λ (x : Table). x.deletes) stored.told))
      ∙ ap (λ (vs : List Version). table_at t.outline t.start t.deletes vs) (sym (ap versions_if stored.spelled))

  module _ (base : ℕ) (newer entries : List Version) (read : AreRead sectors area (length t.outline.edges) t entries) where
    edges : edges_of read.blocks ≡ t.outline.edges
    edges = read.edges ∙ take_all (length t.outline.edges) t.outline.edges (omega arith)

    each_spelled : AllByRecursion IsDataBlock read.blocks
    each_spelled = (stored_laws_hold.spelled (blocks_from sectors (sector_of area t 0) (length t.outline.edges)) read.blocks read.spelled).0

    -- ---- from its entries to the table

    module _ (told : IsTold sectors area t) (fits : Fits t base newer entries) where
      same_versions : entries ≡ t.versions
      same_versions = read.whole ∙ sym (ap (λ (x : Table). x.versions) told ∙ ap versions_if read.spelled)

      outline_same : t.outline ≡ outline_in t.number t.outline.filter read.blocks
      outline_same =
          let parts = and_parts (t.outline.entries == length entries) (is_same_key t.outline.first (first_in entries) && (t.deletes == deletes_in entries)) fits.told in
          let more = and_parts (is_same_key t.outline.first (first_in entries)) (t.deletes == deletes_in entries) parts.1 in
          outline_is t.outline t.number (length (entries_of read.blocks)) (first_key_of read.blocks) (edges_of read.blocks) (sym (ap (λ (x : Table). x.number) told))
          (eqb-true t.outline.entries (length entries) parts.0 ∙ ap (λ (vs : List Version). length vs) read.whole)
          (same_key t.outline.first (first_in entries) more.0 ∙ ap first_in read.whole ∙ sym (first_key read.blocks (some_each read.blocks each_spelled)))
          (sym edges)

      deletes_same : t.deletes ≡ deletes_in (entries_of read.blocks)
      deletes_same =
          let parts = and_parts (t.outline.entries == length entries) (is_same_key t.outline.first (first_in entries) && (t.deletes == deletes_in entries)) fits.told in
          let more = and_parts (is_same_key t.outline.first (first_in entries)) (t.deletes == deletes_in entries) parts.1 in
          eqb-true t.deletes (deletes_in entries) more.1 ∙ ap deletes_in read.whole

      stands : IsStored sectors area t
      stands = record {
        blocks = read.blocks;
        spelled = read.spelled;
        sorted = record { ordered = subst AreOrdered read.whole fits.ordered; versions = entries_fit read.blocks each_spelled; nonempty = some_each read.blocks each_spelled };
        told =
            told
            ∙ ap (λ (o : Outline). table_at o t.start t.deletes (spelled_versions sectors area t)) outline_same
            ∙ ap (λ (d : ℕ). table_at (outline_in t.number t.outline.filter read.blocks) t.start d (spelled_versions sectors area t)) deletes_same
            ∙ ap (λ (vs : List Version). table_at (outline_in t.number t.outline.filter read.blocks) t.start (deletes_in (entries_of read.blocks)) vs) (ap versions_if read.spelled);
        members = subst (λ (vs : List Version). AllByRecursion (λ v. is_perhaps t.outline.filter v.key ≡ true) vs) read.whole (members-tested t.outline.filter entries fits.keys);
      }

      -- a table whose entries fit is sound, and older than what was seen
      pub sound_if_fits : IsSound sectors area base t × IsNewerPlace newer t.versions × (entries ≡ t.versions)
      sound_if_fits = (
        record { stored = stands; numbered = subst (λ (vs : List Version). NumberedAtMost base vs) same_versions (numbered-tested base entries fits.numbered) },
        subst (λ (vs : List Version). IsNewerPlace newer vs) same_versions fits.older,
        same_versions,
      )

    -- ---- from the table to its entries

    -- the entries of a table that is sound, and older than what was seen, fit
    pub fits_if_sound : IsSound sectors area base t → IsNewerPlace newer t.versions → Fits t base newer entries
    fits_if_sound sound older =
        let stored = sound.stored in
        let same : stored.blocks ≡ read.blocks = same_Some stored.blocks read.blocks (sym stored.spelled ∙ read.spelled) in
        let whole : entries_of stored.blocks ≡ entries = ap entries_of same ∙ sym read.whole in
        let outline : t.outline ≡ outline_in t.number t.outline.filter stored.blocks = ap (λ (x : Table). x.outline) stored.told in
        let versions : t.versions ≡ entries = ap (λ (x : Table). x.versions) stored.told ∙ whole in
        let deletes : t.deletes ≡ deletes_in entries = ap (λ (x : Table). x.deletes) stored.told ∙ ap deletes_in whole in
        let first : t.outline.first ≡ first_in entries = ap (λ (o : Outline). o.first) outline ∙ first_key stored.blocks stored.sorted.nonempty ∙ ap first_in whole in
        record {
          told = and_from (t.outline.entries == length entries) (is_same_key t.outline.first (first_in entries) && (t.deletes == deletes_in entries))
              (eq-eqb t.outline.entries (length entries) (ap (λ (o : Outline). o.entries) outline ∙ ap (λ (vs : List Version). length vs) whole))
              (and_from (is_same_key t.outline.first (first_in entries)) (t.deletes == deletes_in entries)
              (subst (λ (k : Bytes). is_same_key t.outline.first k ≡ true) first (key_itself t.outline.first))
              (eq-eqb t.deletes (deletes_in entries) deletes));
          ordered = subst AreOrdered whole stored.sorted.ordered;
          keys = tested-members t.outline.filter entries (subst (λ (vs : List Version). AllByRecursion (λ v. is_perhaps t.outline.filter v.key ≡ true) vs) whole stored.members);
          numbered = tested-numbered base entries (subst (λ (vs : List Version). NumberedAtMost base vs) versions sound.numbered);
          older = subst (λ (vs : List Version). IsNewerPlace newer vs) versions older;
        }
