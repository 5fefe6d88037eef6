use Rattle.std.proofs.Common.{◌≡◌, ◌≤◌, ◌<◌, ◌++◌, length, true, inl, inr, option_map, sym, ◌∙◌, ap, subst}
use Rattle.lsm_codec.specs.References.{shown}
use Rattle.lsm_mem.specs.Paging.{is_before}
use Rattle.lsm_mem.specs.Gathering.{Gathering, page_with, page_so_far}
use Rattle.lsm_mem.proofs.GatheringLaws.{page_past_the_end, page_passed_over, page_deleted, page_with_row, page_full}
use Rattle.lsm_mem.proofs.builder.PageBuilder.take.Goals.{then-version-self-via-then-version-self, then-version-self-via-else-version-self+then-not-is_behind}
use Rattle.lsm_mem.proofs.builder.PageBuilder.take.Goals as goal

pub returns-then-not-is_before-clause-ends : goal.returns-then-not-is_before-clause-ends
returns-then-not-is_before-clause-ends g c _ newer older first =
    let v = shown c.args.version in
    let few : length c.args.self.now.rows ≤ c.args.self.now.limit = subst (λ (g : Gathering). length g.rows ≤ g.limit) c.self.view_is c.self.invariant in
    page_past_the_end c.args.self.now newer v older first few c.requires
    (sym (ap (λ (g : Gathering). is_before g.to v.key) c.self.view_is) ∙ sym c.is_before.ensures ∙ c.if-not-is_before.true)

pub returns-then-version-self-clause-goes_on : goal.returns-then-version-self-clause-goes_on
returns-then-version-self-clause-goes_on g c _ newer older first =
    let v = shown c.args.version in
    page_passed_over c.args.self.now newer v older
    (elim c.then-version-self.branch [
      | then-version-self-via-then-version-self w ↦ inl (subst (λ (g : Gathering). g.at < v.number) c.self.view_is w.if-version-self.true)
      | then-version-self-via-else-version-self+then-not-is_behind w ↦ inr (sym w.is_behind.ensures ∙ w.if-not-is_behind.true)
    ])

pub returns-in_default-clause-goes_on : goal.returns-in_default-clause-goes_on
returns-in_default-clause-goes_on g c _ newer older first =
    let v = shown c.args.version in
    let at_most : v.number ≤ c.args.self.now.at = subst (λ (g : Gathering). v.number ≤ g.at) c.self.view_is c.if-version-self.false in
    ap (λ (g : Gathering). page_with g (newer ++ older)) c.in_ok-pass_over.ensures
    ∙ page_deleted c.args.self.now newer v older first at_most (sym c.is_behind.ensures ∙ c.if-not-is_behind.false) (ap (option_map (λ x. x.now)) c.in_default.is)

pub returns-then-is_full-clause-ends : goal.returns-then-is_full-clause-ends
returns-then-is_full-clause-ends g c _ newer older first =
    let v = shown c.args.version in
    let at_most : v.number ≤ c.args.self.now.at = subst (λ (g : Gathering). v.number ≤ g.at) c.self.view_is c.if-version-self.false in
    let before : is_before c.args.self.now.to v.key ≡ true = sym (ap (λ (g : Gathering). is_before g.to v.key) c.self.view_is) ∙ sym c.is_before.ensures ∙ c.if-not-is_before.false in
    ap page_so_far c.in_ok-leave_out.ensures
    ∙ page_full c.args.self.now newer v older c.in-Some.value.now first at_most (sym c.is_behind.ensures ∙ c.if-not-is_behind.false) before (ap (option_map (λ x. x.now)) c.in-Some.is) (c.is_full.ensures.full c.if-is_full.true)

pub returns-clause-goes_on : goal.returns-clause-goes_on
returns-clause-goes_on g c _ newer older first =
    let v = shown c.args.version in
    let at_most : v.number ≤ c.args.self.now.at = subst (λ (g : Gathering). v.number ≤ g.at) c.self.view_is c.if-version-self.false in
    let before : is_before c.args.self.now.to v.key ≡ true = sym (ap (λ (g : Gathering). is_before g.to v.key) c.self.view_is) ∙ sym c.is_before.ensures ∙ c.if-not-is_before.false in
    ap (λ (g : Gathering). page_with g (newer ++ older)) c.in_ok-push.ensures
    ∙ page_with_row c.args.self.now newer v older c.in-Some.value.now first at_most (sym c.is_behind.ensures ∙ c.if-not-is_behind.false) before (ap (option_map (λ x. x.now)) c.in-Some.is)
