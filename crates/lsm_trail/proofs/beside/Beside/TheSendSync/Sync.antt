-- It owns nothing, so threads may share it.
use denote.Param.Send.{IsSync, part_keyless}
use Rattle.lsm_trail.specs.contracts.beside.Beside.{the_row}
use Rattle.lsm_trail.proofs.beside.Beside.TheSendSync.Send.{send}

pub sync : IsSync the_row
sync = record { shared = λ d b o κ q. part_keyless the_row send q d b o }
