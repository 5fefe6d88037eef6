use Rattle.std.proofs.Common.{◌≡◌, ◌-◌, length, take, ap, sym, ◌∙◌, refl, arith}
use Rattle.std.proofs.lemmas.List.{take_at}
use Rattle.lsm_levels.proofs.Turning.{cut_out}
use Rattle.lsm_levels.proofs.slices.cut.Goals as goal

pub returns : goal.returns
returns g c =
    let gone = c.args.end - c.args.start in
    let kept : length c.rotate_from.new.tables ≡ c.args.tables.now.len = omega (arith, c.deref_mut.ensures.len, c.rotate_from.auto.tables) in
    cut_out c.args.tables.now.items c.rotate_from.new.tables c.truncate.new.self.items c.args.start c.args.end gone
    c.requires.order
    (omega (arith, c.requires.inside, c.args.tables.now.ok.0))
    refl
    (rw (← c.deref_mut.ensures.value) c.rotate_from.ensures)
    (c.truncate.ensures.items ∙ ap (take (c.len.result - gone)) (take_at c.rotate_from.new.tables _ c.args.tables.now.len kept) ∙ ap (λ n. take (n - gone) c.rotate_from.new.tables) (c.len.ensures ∙ sym kept))
