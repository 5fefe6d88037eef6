-- The pieces of work that a store does by itself.
use Rattle.std.specs.Prelude.{Some, None}
use Rattle.lsm_machine.specs.Work.{Work, Take, Read, Write, Install, Drop}
use Rattle.lsm_shared.specs.declared.pieces.OwnPiece.{OwnPiece}
use Rattle.lsm_shared.specs.declared.pieces.OwnPiece.TheVariants as own

abbrev pub work_of : OwnPiece → Work
work_of own.Take = Take None
work_of (own.TakeOf choice) = Take (Some choice)
work_of (own.Read job) = Read job
work_of (own.Write job) = Write job
work_of (own.Install job) = Install job
work_of (own.Drop job) = Drop job
