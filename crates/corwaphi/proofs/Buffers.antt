-- The map of a store and of what waits for its commit.
use Rattle.std.proofs.Common.{◌≡◌, ℕ, Bool, true, false, true≢false, cond, List, [], ◌∷◌, ◌++◌, Option, Some, None, inl, inr, refl, ap, sym, subst, ◌∙◌}
use Rattle.std.specs.Cmp.Lexicographic.{nat_list_cmp_total}
use Rattle.std.specs.FinMap as finite
use Rattle.std.specs.FinMap.{get-insert, get-remove}
use Rattle.lsm_codec.specs.Keys.{Bytes}
use Rattle.lsm_codec.specs.Map.{Map, Operation, apply, changed}
use Rattle.lsm_codec.specs.Versions.{is_same_key}
use Rattle.lsm_device.specs.declared.refusal.Refusal.{Refusal}
use Rattle.lsm_device.specs.declared.refusal.Refusal.TheVariants.{Io, LogFull}
use Rattle.lsm_machine.specs.Calls.{Reply, Commit, Number, Done, Value, Rows, Given, Handed, Refused, Unread}
use Rattle.lsm_machine.specs.RecoveryPoints.{last_map, present_map}
use Rattle.lsm_machine.specs.Run.{next}
use Rattle.lsm_machine.specs.State.{State}
use Rattle.lsm_store.specs.Backing.{StoreView}
use Rattle.lsm_store.specs.Serving.{Serves, reply_in}
use Rattle.lsm_upkeep.specs.Writing.{EndsWith, Writes}
use Rattle.lsm_upkeep.proofs.Told.{apply-append, is_number, last_map-append, number_told, refusal_told}
use Rattle.corwaphi.specs.Buffering.{Buffered, Buffers, BufferLaw, Commits, IsNotBuffered, buffered_map, later_on, value_of}

-- ---- a commit

abbrev map_in : StoreView → Map
map_in s = present_map s.state.points

refused_map : (s : State) (batch : List Operation) (e : Refusal) → present_map (next s (Commit batch) (Refused e)).points ≡ present_map s.points
refused_map s batch Io = refl
refused_map s batch other = refl

module _ (batch : List Operation) (old new : StoreView) where
  -- a batch that was committed is applied to the map
  written : (number : ℕ) → Writes None batch old (Number number) new → map_in new ≡ apply (map_in old) batch
  written number w = by w.ends
    where
      by : EndsWith None batch old w.kept (Number number) new → map_in new ≡ apply (map_in old) batch
      by (inl (reply, serves, is)) =
          let served = subst (λ (r : Reply). Serves w.kept (Commit batch) (reply_in (Commit batch) new.state r) new) (number_told reply number is) serves in
          ap (λ (s : State). last_map s.points.first s.points.later) served.state ∙ last_map-append w.kept.state.points.first w.kept.state.points.later (apply (map_in w.kept) batch)
          ∙ ap (λ (m : Map). apply m batch) w.upkeep.keeps.map
      by (inr (so, wants, same)) = absurd (true≢false (ap is_number so))

  -- one that was refused changes no map
  unwritten : (e : Refusal) → Writes None batch old (Refused e) new → map_in new ≡ map_in old
  unwritten e w = by w.ends ∙ w.upkeep.keeps.map
    where
      by : EndsWith None batch old w.kept (Refused e) new → map_in new ≡ map_in w.kept
      by (inl (reply, serves, is)) =
          let told = refusal_told reply e is in
          let served = subst (λ (r : Reply). Serves w.kept (Commit batch) (reply_in (Commit batch) new.state r) new) told.1 serves in
          ap (λ (s : State). present_map s.points) served.state ∙ refused_map w.kept.state batch told.0
      by (inr (so, wants, same)) = ap map_in same

-- ---- the map with what waits

law_written : (operation : Operation) (old new : Buffered) → Buffers operation old new → buffered_map new ≡ apply (buffered_map old) (operation ∷ [])
law_written operation old new (inl (same, waits)) =
    ap (λ (s : StoreView). apply (map_in s) new.waiting) same ∙ ap (λ (os : List Operation). apply (map_in old.store) os) waits ∙ apply-append (map_in old.store) old.waiting (operation ∷ [])
law_written operation old new (inr (number, writes, waits)) =
    ap (λ (os : List Operation). apply (map_in new.store) os) waits ∙ ap (λ (m : Map). apply m (operation ∷ [])) (written old.waiting old.store new.store number writes)

law_not_written : (refusal : Option Refusal) (e : Refusal) (old new : Buffered) → IsNotBuffered refusal e old new → buffered_map new ≡ buffered_map old
law_not_written refusal e old new (inl (so, same)) = ap buffered_map same
law_not_written refusal e old new (inr (none, writes, waits)) =
    ap (λ (os : List Operation). apply (map_in new.store) os) waits ∙ ap (λ (m : Map). apply m old.waiting) (unwritten old.waiting old.store new.store e writes)

law_committed : (number : ℕ) (old new : Buffered) → Commits old (Number number) new → buffered_map new ≡ buffered_map old
law_committed number old new (inl (none, told, same)) = ap buffered_map same
law_committed number old new (inr (writes, waits)) = ap (λ (os : List Operation). apply (map_in new.store) os) waits ∙ written old.waiting old.store new.store number writes

law_refused : (e : Refusal) (old new : Buffered) → Commits old (Refused e) new → buffered_map new ≡ buffered_map old
law_refused e old new (inl (none, told, same)) = ap buffered_map same
law_refused e old new (inr (writes, waits)) =
    ap (λ (os : List Operation). apply (map_in new.store) os) waits ∙ ap (λ (m : Map). apply m old.waiting) (unwritten old.waiting old.store new.store e writes)

-- ---- reads

get_changed : (m : Map) (key : Bytes) (value : Option Bytes) (asked : Bytes) → finite.get (changed m key value) asked ≡ cond (is_same_key asked key) value (finite.get m asked)
get_changed m key (Some value) asked = get-insert nat_list_cmp_total m key value asked
get_changed m key None asked = get-remove nat_list_cmp_total m key asked

read_later : (key : Bytes) (operations : List Operation) (m : Map) (before : Option Bytes) (found : Option Operation) → finite.get m key ≡ value_of before found
    → finite.get (apply m operations) key ≡ value_of before (later_on key found operations)
read_later key [] m before found is = is
read_later key (operation ∷ rest) m before found is =
    read_later key rest (changed m operation.key operation.value) before (cond (is_same_key key operation.key) (Some operation) found)
    (get_changed m operation.key operation.value key ∙ by (is_same_key key operation.key))
  where
    by : (b : Bool) → cond b operation.value (finite.get m key) ≡ value_of before (cond b (Some operation) found)
    by true = refl
    by false = is

pub buffer_law : BufferLaw
buffer_law = record {
  written = law_written;
  not_written = law_not_written;
  committed = law_committed;
  refused = law_refused;
  read = λ b key. read_later key b.waiting (map_in b.store) (finite.get (map_in b.store) key) None refl;
}
