use Rattle.std.proofs.Common.{◌≡◌, ◌<◌, false, List, sym, subst}
use Rattle.std.proofs.lemmas.Option.{IfSome_then}
use Rattle.lsm_codec.specs.Keys.{Bytes}
use Rattle.lsm_levels.specs.Held.{IsHeld}
use Rattle.lsm_levels.specs.Pick.{is_bottom, is_flush}
use Rattle.lsm_levels.specs.Picks.{job_of}
use Rattle.lsm_room.specs.Outputs.{MakesAtMost}
use Rattle.lsm_room.proofs.Making.{no_keys, one_key}
use Rattle.lsm_room.proofs.divided.outputs_at.Goals as goal

pub returns-in-empty : goal.returns-in-empty
returns-in-empty g c =
    let job = job_of c.args.job.now in
    subst
    (λ (keys : List Bytes). c.outputs_of.result.blocks < 4294967296 → IsHeld c.args.levels.now (is_bottom c.args.levels.now job) job → is_flush job ≡ false → MakesAtMost c.args.levels.now c.args.live job keys c.outputs_of.result.blocks c.outputs_of.result.largest)
    (sym (no_keys c.args.divisions.now c.in-empty.len_below)) c.outputs_of.ensures

pub returns-in-len1 : goal.returns-in-len1
returns-in-len1 g c =
    let job = job_of c.args.job.now in
    let one = one_key c.args.divisions.now c.key-item.result c.in-len1.len_at_least c.in-len1.len_below c.key-item.is in
    IfSome_then c.cut_outputs.result c.cut_outputs.ensures
    (λ o makes low held stays. subst (λ (keys : List Bytes). MakesAtMost c.args.levels.now c.args.live job keys o.blocks o.largest) (sym one) (makes low c.args.levels.now))
