use Rattle.std.proofs.Common.{◌<◌, ◌+◌, List, [], ◌∷◌, ◌++◌, take, set, length, map, arith, refl, sym, subst, ◌∙◌}
use Rattle.std.specs.Global.{Global}
use Rattle.std.specs.declared.vec.Vec.{Vec}
use Rattle.std.proofs.lemmas.List.{take_all, length-set}
use Rattle.lsm_device.specs.Memory.{medium_in}
use Rattle.lsm_machine.specs.Calls.{Reply}
use Rattle.lsm_lives.specs.Batches.{replies_by}
use Rattle.lsm_lives.specs.Calls.{reply_of}
use Rattle.lsm_lives.specs.declared.calls.Reply.{Reply as GivenReply}
use Rattle.corwaphi_lives.specs.Leading.{LifeView, life_of, AreLed}
use Rattle.corwaphi_lives.specs.declared.calls.DbLife.{DbLife}
use Rattle.corwaphi_lives.proofs.Places.{length-places, places_left, lives_more, replies_more, led_more}
use Rattle.corwaphi_lives.proofs.living.live_each.Goals as goal

pub loop-index-init : goal.loop-index-init
loop-index-init g c = record {
  have = c.requires.places;
  within = omega arith;
  same_length = length-places c.args.lives.now c.args.places.now.items c.requires.places;
  led = refl;
}

pub loop-index-preserved : goal.loop-index-preserved
loop-index-preserved g c =
    let inv = c.loop-index.invariant in
    let i = c.loop-index.index in
    let lives = c.args.lives.now in
    let life = c.index-lives-index.result in
    let places = c.loop-index.places.items in
    let new = c.live-device.new.replies in
    let before = medium_in c.args.device in
    let end = medium_in c.live-device.result in
    let in_lives : i < length lives = omega arith in
    let in_places : i < length places = omega (arith, inv.same_length) in
    record {
      have = places_left lives places i life new in_lives in_places c.index-lives-index.is inv.have;
      within = omega arith;
      same_length = length-set places i new ∙ inv.same_length;
      led = subst (λ (l : List LifeView). AreLed l before (replies_by (take (i + 1) (set places i new))) end) (sym (lives_more lives i life in_lives c.index-lives-index.is))
          (subst (λ (rs : List (List Reply)). AreLed (map life_of (take i lives) ++ life_of life ∷ []) before rs end) (sym (replies_more places i new in_places))
          (led_more (life_of life) (map reply_of new.items) (medium_in c.loop-index.device) end c.live-device.ensures
          (map life_of (take i lives)) before (replies_by (take i places)) inv.led));
    }

pub returns : goal.returns
returns g c =
    let inv = c.loop-index.invariant in
    let lives = c.args.lives.now in
    let places = c.loop-index.places.items in
    let before = medium_in c.args.device in
    let end = medium_in c.loop-index.device in
    subst (λ (l : List DbLife). AreLed (map life_of l) before (replies_by places) end) (take_all c.loop-index.index lives (omega arith))
    (subst (λ (v : List (Vec (GivenReply Global) Global)). AreLed (map life_of (take c.loop-index.index lives)) before (replies_by v) end)
    (take_all c.loop-index.index places (omega (arith, inv.same_length))) inv.led)
