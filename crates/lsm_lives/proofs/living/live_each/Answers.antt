use Rattle.std.proofs.Common.{◌<◌, ◌+◌, List, [], ◌∷◌, ◌++◌, take, set, length, map, arith, refl, sym, subst, ◌∙◌}
use Rattle.std.specs.declared.vec.Vec.{Vec}
use Rattle.std.proofs.lemmas.List.{take_all, length-set}
use Rattle.lsm_device.specs.Memory.{medium_in}
use Rattle.lsm_lives.specs.declared.calls.Reply.{Reply as GivenReply}
use Rattle.lsm_lives.specs.declared.living.Life.{Life as Given}
use Rattle.lsm_lives.specs.Asked.{Told}
use Rattle.lsm_lives.specs.Calls.{told_of}
use Rattle.lsm_lives.specs.Leading.{LifeView, life_of, AreLed}
use Rattle.lsm_lives.specs.Living.{told_by}
use Rattle.lsm_lives.proofs.Lifetimes.{length-places, places_left, lives_more, replies_more, led_more, some_life}
use Rattle.lsm_lives.proofs.living.live_each.Goals as goal

pub loop-index-init : goal.loop-index-init
loop-index-init g c = record {
  have = c.requires.places;
  within = omega arith;
  none_built = c.requires.results.0;
  same_places = refl;
  same_length = length-places c.args.lives.now c.args.places.now.items c.requires.places;
  none = λ _. refl;
  disarmed = λ h. absurd (omega arith);
  led = refl;
}

pub loop-index-preserved : goal.loop-index-preserved
loop-index-preserved g c =
    let inv = c.loop-index.invariant in
    let i = c.loop-index.index in
    let lives = c.args.lives.now in
    let life = c.index-lives-index.result in
    let places = c.loop-index.places.items in
    let new = c.live-device.new.replies in
    let before = medium_in c.args.device in
    let end = medium_in c.live-device.result in
    let in_lives : i < length lives = omega arith in
    let in_places : i < length places = omega (arith, inv.same_length) in
    record {
      have = places_left lives places i life new in_lives in_places c.index-lives-index.is inv.have;
      within = omega arith;
      none_built = c.live-device.ensures.let_go.0;
      same_places = c.live-device.ensures.let_go.1 ∙ inv.same_places;
      same_length = length-set places i new ∙ inv.same_length;
      none = λ h. absurd (omega arith);
      disarmed = λ _. c.live-device.ensures.disarmed;
      led = subst (λ (l : List LifeView). AreLed l before (told_by (take (i + 1) (set places i new))) end) (sym (lives_more lives i life in_lives c.index-lives-index.is))
          (subst (λ (rs : List (List Told)). AreLed (map life_of (take i lives) ++ life_of life ∷ []) before rs end) (sym (replies_more places i new in_places))
          (led_more (life_of life) (map told_of new.items) (medium_in c.loop-index.device) end c.live-device.ensures.led
          (map life_of (take i lives)) before (told_by (take i places)) inv.led));
    }

pub returns-clause-disarmed : goal.returns-clause-disarmed
returns-clause-disarmed g c = λ some. c.loop-index.invariant.disarmed (omega (arith, some_life c.args.lives.now some))

pub returns-clause-led : goal.returns-clause-led
returns-clause-led g c =
    let inv = c.loop-index.invariant in
    let lives = c.args.lives.now in
    let places = c.loop-index.places.items in
    let before = medium_in c.args.device in
    let end = medium_in c.loop-index.device in
    subst (λ (l : List (Given g.row.A.Denot)). AreLed (map life_of l) before (told_by places) end) (take_all c.loop-index.index lives (omega arith))
    (subst (λ (v : List (Vec (GivenReply g.row.A.Denot) g.row.A.Denot)). AreLed (map life_of (take c.loop-index.index lives)) before (told_by v) end)
    (take_all c.loop-index.index places (omega (arith, inv.same_length))) inv.led)
