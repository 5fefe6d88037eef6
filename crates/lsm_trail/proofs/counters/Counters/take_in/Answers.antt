use Rattle.std.proofs.Common.{rules, ap, sym, ◌∙◌, arith}
use Rattle.lsm_trail.proofs.Moves.{blanks}
use Rattle.lsm_trail.proofs.Passes.{lends_at}
use Rattle.lsm_trail.proofs.counters.Counters.take_in.Goals as goal

pub split_seat-blank-requires : goal.split_seat-blank-requires
split_seat-blank-requires g c = (search rules, omega (arith, c.args.self.now.wide, ap (λ t. t.words) c.args.self.now.table), blanks _ _ _)

pub join_seat-requires : goal.join_seat-requires
join_seat-requires g c =
    let s = c.split_seat-blank.ensures in
    let was = c.replace-pass.ensures.value in (
      search rules,
      ap (λ p. p.table_id) was ∙ (c.requires.client.0 ∙ sym c.args.self.now.table),
      ap (λ p. p.me.1) was ∙ ap (λ m. m.1) c.requires.client.1,
      omega (arith, c.args.self.now.wide, ap (λ t. t.words) c.args.self.now.table),
      lends_at _ _ _ _ _ _ _ (ap (λ m. m.0) s.2 ∙ ap (λ m. m.0) c.requires.keeper.1) (ap (λ p. p.me.0) was ∙ ap (λ m. m.0) c.requires.client.1),
    )
