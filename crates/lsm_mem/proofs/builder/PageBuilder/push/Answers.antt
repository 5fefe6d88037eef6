use Rattle.std.proofs.Common.{List, [], ◌∷◌, ◌++◌, Option, option_map, ◌∙◌, ap}
use Rattle.lsm_codec.specs.Keys.{Bytes}
use Rattle.lsm_mem.specs.Gathering.{Gathering, with_row, last_key}
use Rattle.lsm_mem.proofs.GatheringLaws.{last_key-push}
use Rattle.lsm_mem.proofs.builder.PageBuilder.push.Goals as goal

pub returns : goal.returns
returns g c =
    let b = c.self.inside in
    let key = c.args.key.now in
    let made : Option Bytes → List (Bytes × Bytes) → Gathering = λ decided rows. record { at = b.at; to = option_map (λ to. to.now) b.to; limit = b.limit; decided = decided; rows = rows; next = option_map (λ key. key.items) b.next } in
    ap (λ rows. made (last_key rows) rows) c.in_ok-push.ensures.ok
    ∙ ap (λ decided. made decided (b.rows ++ (key, c.args.value.now) ∷ [])) (last_key-push b.rows key c.args.value.now)
    ∙ ap (with_row key c.args.value.now) c.self.view_is
