use Rattle.std.proofs.Common.{◌∙◌, List, Option, Some, inl, ap, subst}
use Rattle.lsm_codec.specs.BatchText.{batch_of}
use Rattle.lsm_codec.specs.Guards.{Condition}
use Rattle.lsm_machine.specs.Calls.{Reply}
use Rattle.corwaphi_c.specs.Calls.{Commits, IsMadeIn, IsNumber, IsPlace, both_of}
use Rattle.corwaphi_c.proofs.writing.write_if.Goals as goal

pub returns-in-Ok-read_batch : goal.returns-in-Ok-read_batch
returns-in-Ok-read_batch g c = λ s is. inl (
  (c.in-Ok.guards.items, c.in-Ok-read_batch.batch),
  ap (λ (said : Option (List Condition)). both_of said (batch_of c.args.text.now)) c.in-Ok.ensures ∙ ap (both_of (Some c.in-Ok.guards.items)) c.in-Ok-read_batch.ensures,
  subst
      (λ (guards : List Condition). IsMadeIn (Commits (Some guards) c.in-Ok-read_batch.batch (λ (reply : Reply). IsNumber reply c.commit_if.result c.commit_if.new.number × IsPlace reply c.commit_if.new.place) c.commit_if.result) c.commit_if.result (record { past = g.past; used = c.commit_if.new.used; journal = c.commit_if.new.journal }) s c.commit_if.new.kept.store)
      c.deref.ensures.value
      (c.commit_if.ensures s is),
)
