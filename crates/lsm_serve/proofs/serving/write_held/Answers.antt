use Rattle.std.proofs.Common.{refl, subst}
use Rattle.std.specs.Io.KnownBytes.{Appends}
use Rattle.lsm_serve.proofs.ServingLaws.{held-none, held-some, held-written}
use Rattle.lsm_serve.proofs.serving.write_held.Goals as goal

pub returns-then-is_empty : goal.returns-then-is_empty
returns-then-is_empty g c = held-none _ c.args.held.now.items _ c.is_empty.result c.args.held.now.ok.0 c.is_empty.ensures c.if-is_empty.true

pub returns-in-Ok : goal.returns-in-Ok
returns-in-Ok g c = (held-written _ _ c.args.held.now.items (subst (Appends _ _) c.deref.ensures.value c.in-Ok.ensures), c.clear.ensures.items)

pub returns-in-Err : goal.returns-in-Err
returns-in-Err g c = (refl, held-some c.args.held.now.items _ c.is_empty.result c.args.held.now.ok.0 c.is_empty.ensures c.if-is_empty.false)
