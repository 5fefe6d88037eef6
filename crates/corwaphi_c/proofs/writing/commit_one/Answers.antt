use Rattle.std.proofs.Common.{List, None, inl, subst}
use Rattle.lsm_codec.specs.Map.{Operation}
use Rattle.lsm_machine.specs.Calls.{Reply}
use Rattle.corwaphi_c.specs.Calls.{Commits, IsMadeIn, IsNumber}
use Rattle.corwaphi_c.proofs.writing.commit_one.Goals as goal

pub returns-in-Ok : goal.returns-in-Ok
returns-in-Ok g c = λ s is. inl (subst
    (λ (batch : List Operation). IsMadeIn (Commits None batch (λ (reply : Reply). IsNumber reply c.commit.result c.commit.new.out) c.commit.result) c.commit.result (record { past = g.past; used = c.commit.new.used; journal = c.commit.new.journal }) s c.commit.new.kept.store)
    c.in-Ok.ensures
    (c.commit.ensures s is))
