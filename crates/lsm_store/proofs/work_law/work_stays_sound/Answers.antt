use Rattle.lsm_store.proofs.CallSounds.{call_sound_law, rotation_sound_law}
use Rattle.lsm_store.proofs.InstallSounds.{sound_law}
use Rattle.lsm_store.proofs.work_law.work_stays_sound.Goals as goal

pub returns-clause-work : goal.returns-clause-work
returns-clause-work c = sound_law

pub returns-clause-call : goal.returns-clause-call
returns-clause-call c = call_sound_law

pub returns-clause-rotation : goal.returns-clause-rotation
returns-clause-rotation c = rotation_sound_law
