use Rattle.lsm_cache.proofs.block_bytes.BlockBytes.show.Goals.{in-Some-1, in-None-1, in-Some-2, in-None-2}
use Rattle.lsm_cache.proofs.block_bytes.BlockBytes.show.Goals as goal

pub returns-in-Ok : goal.returns-in-Ok
returns-in-Ok g c = elim c.match-self.branch [
  | in-Some-1 w ↦ rw w.self-is c.in-Ok.ensures.cases
  | in-None-1 w ↦ rw w.self-is c.in-Ok.ensures.cases
]

pub returns-in-Err : goal.returns-in-Err
returns-in-Err g c = elim c.match-self-2.branch [
  | in-Some-2 w ↦ rw w.self-is c.deref.ensures
  | in-None-2 w ↦ rw w.self-is c.deref.ensures
]
