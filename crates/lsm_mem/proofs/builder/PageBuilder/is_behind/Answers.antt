use Rattle.std.proofs.Common.{◌≡◌, Bool, cond, Option, Some, sym, ◌∙◌, ap, rules}
use Rattle.lsm_codec.specs.Keys.{Bytes}
use Rattle.std.specs.Ordering.{is_lt}
use Rattle.lsm_mem.specs.Gathering.{Gathering, is_behind, last_key}
use Rattle.lsm_mem.proofs.builder.PageBuilder.is_behind.Goals as goal

pub returns-in-Some : goal.returns-in-Some
returns-in-Some g c =
    let b = c.self.inside in
    let key = c.args.key.now in
    let last : Some c.in-Some.last.now ≡ last_key b.rows = search rules in
    c.is_lt-in-Some.ensures
    ∙ ap is_lt c.cmp-in-Some.ensures
    ∙ ap (λ (o : Option Bytes). is_behind o key) last
    ∙ ap (λ (x : Bool). is_behind (cond x (Some b.deleted.items) (last_key b.rows)) key) (sym c.if-self.false)
    ∙ ap (λ (g : Gathering). is_behind g.decided key) c.self.view_is
