use Rattle.std.proofs.Common.{List, [], map, arith, refl, sym, subst}
use Rattle.std.proofs.lemmas.List.{append-nil, take_all}
use Rattle.lsm_lives.specs.Calls.{reply_of}
use Rattle.corwaphi_lives.specs.Calls.{call_of}
use Rattle.corwaphi_lives.specs.Leading.{AddsReplies}
use Rattle.corwaphi_lives.specs.declared.calls.DbCall.{DbCall}
use Rattle.corwaphi_lives.proofs.Places.{adds_more}
use Rattle.corwaphi_lives.proofs.living.serve_each.Goals as goal

pub loop-call-init : goal.loop-call-init
loop-call-init g c = record {
  within = omega arith;
  length_is = omega arith;
  capacity = refl;
  adds = record { more = []; added = sym (append-nil (map reply_of c.args.replies.now.items)); does = refl };
}

pub loop-call-preserved : goal.loop-call-preserved
loop-call-preserved g c =
    let inv = c.loop-call.invariant in
    record {
      within = omega arith;
      length_is = omega arith;
      capacity = omega (arith, c.push_reserved.ensures.capacity, inv.capacity);
      adds = adds_more c.args.db.now c.loop-call.db c.serve-reply.new.db c.args.calls.now c.loop-call.call-index c.call-item.result c.args.replies.now.items c.loop-call.replies.items c.push_reserved.new.self.items
          c.serve-reply.result c.loop-call-test.true c.call-item.is inv.adds c.serve-reply.ensures c.push_reserved.ensures.items;
    }

pub returns : goal.returns
returns g c =
    subst (λ (l : List DbCall). AddsReplies c.args.db.now (map call_of l) (map reply_of c.args.replies.now.items) (map reply_of c.loop-call.replies.items) c.loop-call.db)
    (take_all c.loop-call.call-index c.args.calls.now (omega arith)) c.loop-call.invariant.adds
