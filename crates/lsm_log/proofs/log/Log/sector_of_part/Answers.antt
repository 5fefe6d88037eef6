use Rattle.std.proofs.Common.{◌≡◌, ◌*◌, ◌-◌, ◌∙◌, ap, List, ℕ, take, drop}
use Rattle.lsm_codec.specs.LogSectors.{log_sector}
use Rattle.lsm_log.proofs.Cutting.{payload_is}
use Rattle.lsm_log.proofs.log.Log.sector_of_part.Goals as goal

pub returns : goal.returns
returns c =
    let text : List ℕ = c.args.text.now in
    let payload : take (c.min-to.result - 480 * c.args.part) (drop (480 * c.args.part) text) ≡ take 480 (drop (480 * c.args.part) text) = payload_is text (480 * c.args.part) c.min-to.result c.requires.some c.min-to.ensures in
    c.encode.ensures ∙ ap (λ (l : List ℕ). log_sector (record { epoch = c.args.self.now.epoch; batch = c.args.self.now.next; part = c.args.part; parts = c.args.parts; payload = l })) payload
