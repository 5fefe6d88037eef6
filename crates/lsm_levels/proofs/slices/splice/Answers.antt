use Rattle.std.proofs.Common.{◌≡◌, ◌-◌, length, take, ap, sym, ◌∙◌, refl, arith}
use Rattle.std.proofs.lemmas.List.{take_at}
use Rattle.lsm_levels.proofs.Turning.{turned}
use Rattle.lsm_levels.proofs.slices.splice.Goals as goal

pub returns-clause-items : goal.returns-clause-items
returns-clause-items g c =
    let kept : length c.rotate_from-2.new.tables ≡ c.truncate.new.self.len = omega (arith, c.deref_mut-2.ensures.len, c.rotate_from-2.auto.tables) in
    let kept' : length c.rotate_from.new.tables ≡ c.append.new.self.len = omega (arith, c.deref_mut.ensures.len, c.rotate_from.auto.tables) in
    let gone = c.args.end - c.args.start in
    take_at c.rotate_from-2.new.tables _ c.truncate.new.self.len kept
    ∙ turned c.args.tables.now.items c.args.new.now.items c.append.new.self.items c.rotate_from.new.tables c.truncate.new.self.items c.rotate_from-2.new.tables c.args.start c.args.end gone (c.len.result - c.args.end)
    c.requires.order
    (omega (arith, c.requires.inside, c.args.tables.now.ok.0))
    refl
    (ap (λ n. n - c.args.end) (c.len.ensures ∙ c.args.tables.now.ok.0))
    c.in_ok-append.ensures.items
    (rw (← c.deref_mut.ensures.value) c.rotate_from.ensures)
    (c.truncate.ensures.items ∙ ap (take (c.len-2.result - gone)) (take_at c.rotate_from.new.tables _ c.append.new.self.len kept') ∙ ap (λ n. take (n - gone) c.rotate_from.new.tables) (c.len-2.ensures ∙ sym kept'))
    (rw (← c.deref_mut-2.ensures.value) c.rotate_from-2.ensures)
