use Rattle.std.proofs.Common.{sym, arith}
use Rattle.lsm_codec.specs.Keys.{IsBytes}
use Rattle.lsm_codec.specs.References.{shown}
use Rattle.lsm_codec.proofs.EntryLaws.{entry_reads}
use Rattle.lsm_codec.proofs.version.VersionRef.read.Goals as goal

pub returns-clause-fits : goal.returns-clause-fits
returns-clause-fits c =
    let bytes : IsBytes c.args.bytes.now = record { fit = λ i. omega (arith, c.type_inv.bytes i) } in
    (entry_reads.found c.args.bytes.now (shown c.in_ok-version.version, c.in_ok-version.rest.now) bytes (sym c.in_ok-version.ensures)).0
