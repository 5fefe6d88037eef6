use Rattle.std.proofs.Common.{◌≡◌, ℕ, ◌-◌, Some, drop, length, refl, sym, ap, ◌∙◌}
use Rattle.lsm_codec.specs.References.{shown}
use Rattle.lsm_codec.specs.Entries.{entry_at, entries_from}
use Rattle.lsm_table.specs.Items.{Place}
use Rattle.lsm_table.specs.Spans.{Span, span_at, spanned}
use Rattle.lsm_table.proofs.Reading.{within_block, left_behind}
use Rattle.lsm_table.proofs.Spanning.{ends_within, first_spanned, none_spanned, none_left}
use Rattle.lsm_table.proofs.entry_place.EntryPlace.first_entry.Goals as goal

pub returns-then-self-eq0-clause-lies : goal.returns-then-self-eq0-clause-lies
returns-then-self-eq0-clause-lies c =
    let left : c.self.inside.left ≡ c.args.self.now.left = ap (λ (q : Place). q.left) c.self.view_is in
    none_left c.args.self.now.left (drop c.args.self.now.offset c.args.block.now) (sym left ∙ c.if-self-eq0.true)

pub of-span-requires : goal.of-span-requires
of-span-requires c =
    let offset : c.self.inside.offset ≡ c.args.self.now.offset = ap (λ (q : Place). q.offset) c.self.view_is in
    ends_within c.args.block.now c.self.inside.offset (shown c.in-Some.entry) c.in-Some.rest.now (record { fit = c.fits-block }) c.told-block
    (c.in-Some.ensures.read ∙ ap entry_at (c.bytes_from.ensures ∙ ap (λ (n : ℕ). drop n c.args.block.now) (sym offset))) c.self.invariant

pub overflow_sub-behind-in-Some : goal.overflow_sub-behind-in-Some
overflow_sub-behind-in-Some c = within_block c.args.block.now c.args.self.now.offset (shown c.in-Some.entry) c.in-Some.rest.now (record { fit = c.fits-block }) c.told-block (c.in-Some.ensures.read ∙ ap entry_at c.bytes_from.ensures)

pub returns-in-Some-clause-lies : goal.returns-in-Some-clause-lies
returns-in-Some-clause-lies c =
    let block = c.args.block.now in
    let left : c.self.inside.left ≡ c.args.self.now.left = ap (λ (q : Place). q.left) c.self.view_is in
    let offset : c.self.inside.offset ≡ c.args.self.now.offset = ap (λ (q : Place). q.offset) c.self.view_is in
    ap (λ (s : Span). Some (spanned s block)) (c.of-span.ensures ∙ ap (λ (n : ℕ). span_at n (shown c.in-Some.entry)) offset)
    ∙ first_spanned c.args.self.now.left block c.args.self.now.offset (shown c.in-Some.entry) c.in-Some.rest.now (record { fit = c.fits-block }) (λ none. c.if-self-eq0.false (left ∙ none)) (c.in-Some.ensures.read ∙ ap entry_at c.bytes_from.ensures)

pub returns-in-Some-clause-behind : goal.returns-in-Some-clause-behind
returns-in-Some-clause-behind c =
    let p = c.args.self.now in
    let bytes = c.args.block.now in
    let left : c.self.inside.left ≡ p.left = ap (λ (q : Place). q.left) c.self.view_is in
    left_behind c.self.inside.left bytes p.offset (4096 - length c.in-Some.rest.now) (shown c.in-Some.entry) c.in-Some.rest.now (record { fit = c.fits-block }) c.told-block refl c.if-self-eq0.false (c.in-Some.ensures.read ∙ ap entry_at c.bytes_from.ensures)
    ∙ ap (λ (n : ℕ). drop 1 (entries_from n (drop p.offset bytes))) left

pub returns-in-None-clause-lies : goal.returns-in-None-clause-lies
returns-in-None-clause-lies c =
    let left : c.self.inside.left ≡ c.args.self.now.left = ap (λ (q : Place). q.left) c.self.view_is in
    none_spanned c.args.self.now.left (drop c.args.self.now.offset c.args.block.now) (λ none. c.if-self-eq0.false (left ∙ none)) (c.in-None.ensures.read ∙ ap entry_at c.bytes_from.ensures)
