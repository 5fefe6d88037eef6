use Rattle.corwaphi.proofs.Buffers.{buffer_law}
use Rattle.corwaphi.proofs.buffer_law.buffers_show_one_map.Goals as goal

pub returns : goal.returns
returns c = buffer_law
