use Rattle.std.proofs.Common.{rules, List, refl, ap, sym, ◌∙◌, subst, arith}
use Rattle.lsm_trail.specs.History.{Event, entries_by}
use Rattle.lsm_shared.specs.Clients.{AgreesWith}
use Rattle.lsm_shared.specs.Sessions.{SessionView}
use Rattle.lsm_shared.proofs.Endings.{told_more, ended}
use Rattle.lsm_shared.proofs.shared.Shared.end.Goals as goal

pub loop-client-init : goal.loop-client-init
loop-client-init g c = (refl, λ told. told, λ less x far. absurd (omega (arith, less)))

pub loop-client-preserved : goal.loop-client-preserved
loop-client-preserved g c =
    let i = c.loop-client.invariant in
    let same = c.retire.ensures.same in
    let log = ap (λ (v : SessionView). v.log) same in
    let was = c.loop-client.session.log in (
      same ∙ i.0,
      λ t. subst (λ (l : List Event). AgreesWith l c.args.clients.items) (sym log)
          (i.1 (subst (AgreesWith was) (sym c.in-Some.ensures.items) (told_more was c.pop.new.self.items c.in-Some.client (subst (λ (l : List Event). AgreesWith l c.pop.new.self.items) log t) c.retire.ensures.seen c.retire.ensures.entries))),
      λ _ x far. ap (entries_by x) log ∙ c.retire.ensures.strangers x far,
    )

pub returns : goal.returns
returns g c =
    let i = c.loop-client.invariant in
    let e = c.into_parts.ensures in
    ended _ _ _ c.loop-client.session _ _ (search rules) c.requires.0 c.requires.1 i.1 i.2 e.legal e.state e.work e.backed e.device e.room e.trail
