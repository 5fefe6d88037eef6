use Rattle.std.proofs.Common.{◌≡◌, ◌∙◌, List, [], ap, subst, sym}
use Rattle.std.proofs.lemmas.List.Elements.{All-nil}
use Rattle.lsm_codec.specs.Manifests.{Contents, IsManifestOf}
use Rattle.lsm_codec.specs.TableRecords.{IsOfVersion}
use Rattle.lsm_codec.specs.declared.superblock.FormatVersion.TheVariants.{Two}
use Rattle.lsm_codec.specs.declared.log_record.LogRecord.{LogRecord}
use Rattle.lsm_codec.specs.declared.table_record.TableRecord.{TableRecord}
use Rattle.lsm_open.specs.Formatted.{empty_manifest}
use Rattle.lsm_open.proofs.Zeroed.{empty_is_manifest}
use Rattle.lsm_root.specs.Planned.{Planned}
use Rattle.lsm_root.proofs.Naming.{none_elsewhere}
use Rattle.lsm_open.proofs.formatting.empty_root.Goals as goal

abbrev with_records : List LogRecord → List TableRecord → Contents
with_records logs tables = record { generation = 1; base = 0; next_table = 1; runs = 0; logs = logs; tables = tables }

pub prepare-requires-clause-valid : goal.prepare-requires-clause-valid
prepare-requires-clause-valid g c = λ low.
    let manifest : c.new-manifest.result ≡ empty_manifest =
    c.new-manifest.ensures ∙ ap (λ (logs : List LogRecord). with_records logs c.new-tables.result.items) c.new-logs.ensures.items ∙ ap (with_records []) c.new-tables.ensures.items in
    subst (IsManifestOf Two) (sym manifest) (record { fits = empty_is_manifest; records = All-nil (IsOfVersion Two) })

pub prepare-requires-clause-inside : goal.prepare-requires-clause-inside
prepare-requires-clause-inside g c = λ low. none_elsewhere c.args.sectors c.args.log_sectors _ (ap (λ (m : Contents). m.tables) c.new-manifest.ensures ∙ c.new-tables.ensures.items)

pub returns-clause-root : goal.returns-clause-root
returns-clause-root g c =
    let manifest : c.new-manifest.result ≡ empty_manifest =
    c.new-manifest.ensures ∙ ap (λ (logs : List LogRecord). with_records logs c.new-tables.result.items) c.new-logs.ensures.items ∙ ap (with_records []) c.new-tables.ensures.items in
    let planned : Contents → Planned = λ m. record { size = c.args.sectors; log = c.args.log_sectors; manifest = m } in
    c.in_ok-prepare.ensures.prepared ∙ ap planned manifest
