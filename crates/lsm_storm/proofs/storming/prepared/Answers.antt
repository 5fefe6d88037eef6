use Rattle.std.proofs.Common.{ap, sym, ◌∙◌, subst, rules}
use Rattle.lsm_trail.specs.Begins.{Begin}
use Rattle.lsm_storm.specs.Storms.{IsFresh}
use Rattle.lsm_storm.proofs.Refusing.{refused_begin}
use Rattle.lsm_storm.proofs.storming.prepared.Goals as goal

pub returns-in-Ok-clause-opened : goal.returns-in-Ok-clause-opened
returns-in-Ok-clause-opened c =
    let is = c.in-Ok.ensures.1 in
    record {
      fresh = subst (λ (b : Begin). IsFresh b.store) (sym is) c.in_ok-store.ensures.opened;
      clients = ap (λ (b : Begin). b.clients) is ∙ search rules;
      limit = ap (λ (b : Begin). b.limit) is;
    }

pub returns-clause-refused : goal.returns-clause-refused
returns-clause-refused c =
    refused_begin c.in_ok-store.store.state c.args.threads c.in-Err.refusal c.in_ok-store.ensures.opened.state c.requires.0 c.requires.1 c.in-Err.ensures.1
