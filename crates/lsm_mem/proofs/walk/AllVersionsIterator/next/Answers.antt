use Rattle.std.proofs.Common.{sym, ap, ◌∙◌, ◌∷◌, ◌++◌, map, reverse, List}
use Rattle.lsm_codec.specs.Versions.{Version}
use Rattle.lsm_mem.specs.Histories.{version, versions_of, plain}
use Rattle.lsm_mem.proofs.Walks.{next_key}
use Rattle.lsm_mem.proofs.walk.AllVersionsIterator.next.Goals as goal

pub returns-clause-steps : goal.returns-clause-steps
returns-clause-steps g c =
    let walk = c.self.inside in
    let key = c.deref-self-inside.result.now in
    let newest = c.parts.result.0.now in
    let left : List Version = map (version key) (reverse c.parts.result.1.now) ++ versions_of (plain c.next.new.self) in
    let shows = c.version_of-2.ensures ∙ ap (λ k. version k newest) (c.deref.ensures.value ∙ sym c.deref-self-inside.ensures.value) in
    sym c.self.view_is
    ∙ next_key walk.changes.now walk.key.now walk.rest c.next.new.self c.in_ok-key.key.now key c.in_ok-key.history.now c.parts.result.1.now newest
    c.in_default.ensures.cases c.in_ok-key.ensures.steps c.parts.ensures c.deref-self-inside.ensures.value
    ∙ ap (λ v. v ∷ left) (sym shows)
