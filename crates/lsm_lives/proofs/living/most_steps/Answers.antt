use Rattle.std.proofs.Common.{◌++◌, ◌∷◌, [], take, arith, sym, ap, subst, ◌∙◌}
use Rattle.std.proofs.lemmas.List.{take_all, take_more}
use Rattle.lsm_lives.specs.declared.living.Life.{Life as Given}
use Rattle.lsm_lives.proofs.Lifetimes.{HaveRoom, room_more, room_push}
use Rattle.lsm_lives.proofs.living.most_steps.Goals as goal

pub loop-life-preserved : goal.loop-life-preserved
loop-life-preserved g c =
    let i = c.loop-life.life-index in
    let lives = c.args.lives.now in
    let life = c.life-item.result in
    let now = c.larger-most.ensures in
    record {
      within = omega arith;
      have = subst (HaveRoom c.larger-most.result) (sym (take_more lives i life c.loop-life-test.true ∙ ap (λ (l : Given g.row.A.Denot). take i lives ++ l ∷ []) (sym c.life-item.is)))
          (room_push c.larger-most.result (take i lives) life (room_more c.loop-life.most c.larger-most.result (take i lives) now.0 c.loop-life.invariant.have) (omega (arith, now.1, c.len.ensures)));
    }

pub returns : goal.returns
returns g c = subst (HaveRoom c.loop-life.most) (take_all c.loop-life.life-index c.args.lives.now (omega arith)) c.loop-life.invariant.have
