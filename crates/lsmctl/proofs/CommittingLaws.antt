-- What a write makes of the map, and what a compaction comes to.
use Rattle.std.proofs.Common.{◌≡◌, ◌∙◌, ℕ, Bool, true, true≢false, List, None, inl, inr, refl, ap, subst, sym}
use Rattle.lsm_codec.specs.Map.{Map, Operation, apply}
use Rattle.lsm_device.specs.declared.refusal.Refusal.{Refusal}
use Rattle.lsm_device.specs.declared.refusal.Refusal.TheVariants.{Io}
use Rattle.lsm_store.specs.Backing.{StoreView, machine_of}
use Rattle.lsm_machine.specs.Calls.{Reply, Commit, Number, Refused}
use Rattle.lsm_machine.specs.RecoveryPoints.{last_map}
use Rattle.lsm_machine.specs.Run.{next}
use Rattle.lsm_store.specs.Serving.{Serves}
use Rattle.lsm_machine.specs.State.{State}
use Rattle.lsm_upkeep.specs.Compacting.{is_compacted}
use Rattle.lsm_upkeep.specs.Flushing.{FlushesFirst}
use Rattle.lsm_upkeep.specs.Keeping.{IsSameMap, KeepsMap}
use Rattle.lsm_upkeep.specs.Steps.{IsUpkept}
use Rattle.lsm_upkeep.specs.Writing.{EndsWith}
use Rattle.lsm_upkeep.proofs.KeptMaps.{onward, stays}
use Rattle.lsm_upkeep.proofs.Told.{is_number, number_told, refusal_told, last_map-append}
use Rattle.lsm_upkeep.proofs.Upkept.{stays as is_same, then}
use Rattle.lsm_serve.specs.Committing.{CompactsWhole}
use Rattle.lsmctl.specs.Answers.{HasCompacted, TellsCompacted}
use Rattle.lsmctl.specs.declared.answer.Output.{Output}
use Rattle.lsmctl.specs.Commits.{Adds, AddsNot, IsKeptUp, Puts, map_in}

-- a batch that was accepted
puts-accepted : (batch : List Operation) (number : ℕ) (old new : StoreView) → Serves old (Commit batch) (Number number) new → Puts batch old new
puts-accepted batch number old new serves =
    ap (λ (s : State). last_map s.points.first s.points.later) serves.state
    ∙ last_map-append old.state.points.first old.state.points.later (apply (map_in old) batch)

-- one that was refused
refused_state : (s : State) (batch : List Operation) (e : Refusal) → IsSameMap s (next s (Commit batch) (Refused e))
refused_state s batch Io = record { map = refl; count = refl; snapshots = refl }
refused_state s batch other = record { map = refl; count = refl; snapshots = refl }

keeps-refused : (batch : List Operation) (e : Refusal) (old new : StoreView) → Serves old (Commit batch) (Refused e) new → KeepsMap old new
keeps-refused batch e old new serves = subst (IsSameMap old.state) (sym serves.state) (refused_state old.state batch e)

-- ---- a write

puts-behind : (batch : List Operation) (old mid new : StoreView) → KeepsMap old mid → Puts batch mid new → Puts batch old new
puts-behind batch old mid new keeps puts = puts ∙ ap (λ (m : Map). apply m batch) keeps.map

pub adds-puts : (batch : List Operation) (old new : StoreView) → Adds batch old new → Puts batch old new
adds-puts batch old new (number, w) = by w.ends
  where
    by : EndsWith None batch old w.kept (Number number) new → Puts batch old new
    by (inl (reply, serves, is)) =
        puts-behind batch old w.kept new w.upkeep.keeps
        (puts-accepted batch number w.kept new (subst (λ (r : Reply). Serves w.kept (Commit batch) r new) (number_told reply number is) serves))
    by (inr (so, wants, same)) = absurd (true≢false (ap is_number so))

-- one that is refused leaves the map as it was
pub adds_not-keeps : (batch : List Operation) (e : Refusal) (old new : StoreView) → AddsNot batch old e new → KeepsMap old new
adds_not-keeps batch e old new w = onward old w.kept new w.upkeep.keeps (by w.ends)
  where
    by : EndsWith None batch old w.kept (Refused e) new → KeepsMap w.kept new
    by (inl (reply, serves, is)) =
        let told = refusal_told reply e is in
        keeps-refused batch told.0 w.kept new (subst (λ (r : Reply). Serves w.kept (Commit batch) r new) told.1 serves)
    by (inr (so, wants, same)) = stays w.kept new same

-- ---- a compaction

pub compacts : (old kept new : StoreView) → IsKeptUp old kept → IsUpkept old kept → FlushesFirst kept new → IsUpkept kept new → CompactsWhole old new
compacts old kept new keeps first flushes rest = record {
  begun = old;
  finishes = is_same old old refl;
  kept = kept;
  keeps_up = keeps;
  compacts = flushes;
  upkeep = then old kept new first rest;
}

-- the answer, by whether all tables are where they are to be
pub compacted : (is_whole : Bool) (old kept new : StoreView) (output : Output) → IsKeptUp old kept → IsUpkept old kept → FlushesFirst kept new → IsUpkept kept new
    → is_whole ≡ is_compacted (machine_of new) → TellsCompacted is_whole new output → HasCompacted old new output
compacted is_whole old kept new output keeps first flushes rest is told = record {
  compacts = compacts old kept new keeps first flushes rest;
  told = subst (λ (b : Bool). TellsCompacted b new output) is told;
}
