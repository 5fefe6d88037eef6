-- The sources of a scan: what they have left, and which blocks are to come.
use Rattle.std.proofs.Common.{◌≡◌, ◌⊎◌, inl, inr, ℕ, List, [], ◌∷◌, ◌++◌, length, set, slice_get, Option, Some, None, Result, Err, refl, ap, sym, subst, ◌∙◌, arith, map}
use Rattle.std.specs.Prelude.{MatchResult}
use Rattle.std.specs.List.{AllByRecursion}
use Rattle.std.proofs.lemmas.Option.{same_Some}
use Rattle.std.proofs.lemmas.List.{append_assoc, map-append, set_at, append-nil}
use Rattle.lsm_device.specs.declared.refusal.Refusal.{Refusal}
use Rattle.lsm_device.specs.declared.refusal.Refusal.TheVariants.{NoMemory, Io, BadTable}
use Rattle.lsm_codec.specs.Keys.{Bytes}
use Rattle.lsm_codec.specs.Versions.{Version}
use Rattle.lsm_codec.specs.Entries.{entries_in}
use Rattle.lsm_cache.specs.declared.name.BlockName.{BlockName}
use Rattle.lsm_cache.specs.Fresh.{IsFresh}
use Rattle.lsm_mem.specs.Ranges.{from_key}
use Rattle.lsm_levels.specs.Tables.{Table, IsRun, versions_of}
use Rattle.lsm_levels.specs.Asking.{Source}
use Rattle.lsm_levels.specs.Stored.{IsPlaced, IsStored, AreStored, ArePlaced}
use Rattle.lsm_levels.specs.Cursors.{Cursor, EndsWithin, Gives, Seeks, SeeksTo, Shows, blocks_from_key, sought}
use Rattle.lsm_levels.specs.Scans.{AllGive, AreReady, AsksOn, AsksSome, IsFairItem, blocks_to_come, blocks_of_runs}
use Rattle.lsm_levels.specs.declared.placed.PlacedBlock.{PlacedBlock}
use Rattle.lsm_levels.proofs.CursorGives.{cursor_law}
use Rattle.lsm_codec.proofs.Lists.{all_append}
use Rattle.lsm_levels.proofs.ScanAsking.{fair_in, fair_refusal, fair_sought, seeks_asking, refused_asking}
use Rattle.lsm_levels.proofs.ScanLaws.{given_more}

-- ---- a source more

pub ready_more : (size : ℕ) (cursors : List Cursor) (c : Cursor) → AreReady size cursors → AllByRecursion (EndsWithin size) c.blocks → AllByRecursion IsFairItem c.items → AreReady size (cursors ++ c ∷ [])
ready_more size cursors c ready within fair = record {
  within = all_append (λ c. AllByRecursion (EndsWithin size) c.blocks) cursors (c ∷ []) ready.within (within, tt);
  fair = all_append (λ c. AllByRecursion IsFairItem c.items) cursors (c ∷ []) ready.fair (fair, tt);
}

pub sought_fair : (key : Bytes) (blocks : List PlacedBlock) (c : Cursor) (old new : Source) → Seeks key blocks c None old new → AllByRecursion IsFairItem c.items
sought_fair key [] c old new h = subst (λ (d : Cursor). AllByRecursion IsFairItem d.items) (sym h.0.stands) tt
sought_fair key (b ∷ rest) c old new (inl g) = subst (λ (d : Cursor). AllByRecursion IsFairItem d.items) (sym g.2.stands) (fair_sought key (entries_in g.0) (fair_in g.0))
sought_fair key (b ∷ rest) c old new (inr d) = absurd (let clash : None ≡ Some Io = d.0 in cc)

place_at_end : {X : Type 0} (xs : List X) (x : X) (ys : List X) → slice_get (xs ++ x ∷ ys) (length xs) ≡ Some x
place_at_end [] x ys = refl
place_at_end (y ∷ xs) x ys = place_at_end xs x ys

pub with_one_more : (items cursors : List Cursor) (d c : Cursor) → items ≡ cursors ++ d ∷ [] → d ≡ c → items ≡ cursors ++ c ∷ []
with_one_more items cursors d c is same = is ∙ ap (λ (e : Cursor). cursors ++ e ∷ []) same

-- its blocks are asked for
pub more_asking : (cursors next : List Cursor) (c : Cursor) (key : Bytes) (blocks : List PlacedBlock) (behind : List (List PlacedBlock)) (old new : Source) → next ≡ cursors ++ c ∷ [] → Seeks key blocks c None old new
    → AsksOn (blocks_to_come cursors ++ blocks ∷ behind) (blocks_to_come next ++ behind) None old new
more_asking cursors next c key blocks behind old new is h =
    let left : List (List PlacedBlock) = blocks_to_come cursors ++ blocks ∷ behind in
    let asks = seeks_asking left (length (blocks_to_come cursors)) key blocks c None old new (place_at_end (blocks_to_come cursors) blocks behind) h in
    let after : blocks_to_come next ++ behind ≡ set left (length (blocks_to_come cursors)) c.blocks =
    ap (λ (cs : List Cursor). blocks_to_come cs ++ behind) is
    ∙ ap (λ (bs : List (List PlacedBlock)). bs ++ behind) (map-append (λ (d : Cursor). d.blocks) cursors (c ∷ []))
    ∙ append_assoc (blocks_to_come cursors) (c.blocks ∷ []) behind
    ∙ sym (set_at (blocks_to_come cursors) blocks behind c.blocks (length (blocks_to_come cursors)) refl) in
    λ refusal end more. asks refusal end (subst (λ (bs : List (List PlacedBlock)). AsksSome bs refusal new end) after more)

pub none_asking : (cursors : List Cursor) (key : Bytes) (blocks : List PlacedBlock) (behind : List (List PlacedBlock)) (e : Refusal) (old new : Source) → SeeksTo key blocks (Err e) old new
    → AsksSome (blocks_to_come cursors ++ blocks ∷ behind) (Some e) old new
none_asking cursors key blocks behind e old new h =
    refused_asking (blocks_to_come cursors ++ blocks ∷ behind) (length (blocks_to_come cursors)) key blocks e old new (place_at_end (blocks_to_come cursors) blocks behind) h

-- ---- what a run's cursor has left

pub run_gives : (place : BlockName → Option ℕ) (sectors : List (List ℕ)) (area : ℕ) (key : Bytes) (run : List Table) (result : Result Cursor Refusal) (old new : Source)
    → IsRun run → AllByRecursion (IsStored sectors area) run → AllByRecursion (IsPlaced place area) run → Shows place sectors old → SeeksTo key (blocks_from_key area key run) result old new
    → MatchResult result (λ c. Gives place sectors (from_key key (versions_of run)) c new) (λ refusal. (refusal ≡ Io) ⊎ (refusal ≡ NoMemory))
run_gives place sectors area key run result old new r stored placed shows h =
    subst (λ (held : List (List ℕ)). MatchResult result (λ c. Gives place held (from_key key (versions_of run)) c new) (λ refusal. (refusal ≡ Io) ⊎ (refusal ≡ NoMemory))) shows.holds
    (cursor_law.seeks place area key run result old new r (record {
      tells = shows.tells;
      stored = (subst (λ (held : List (List ℕ)). AllByRecursion (IsStored held area) run) (sym shows.holds) stored, tt);
      placed = (placed, tt);
      fresh = subst (λ (held : List (List ℕ)). IsFresh place held old.cache) (sym shows.holds) shows.fresh;
    }) h)

pub gives_more : (place : BlockName → Option ℕ) (sectors : List (List ℕ)) (lefts : List (List Version)) (cursors next : List Cursor) (versions : List Version) (c : Cursor) (s : Source)
    → next ≡ cursors ++ c ∷ [] → AllGive place sectors lefts cursors → Gives place sectors versions c s → AllGive place sectors (lefts ++ versions ∷ []) next
gives_more place sectors lefts cursors next versions c s is all g =
    subst (AllGive place sectors (lefts ++ versions ∷ [])) (sym is) (given_more place sectors lefts cursors (versions ∷ []) (c ∷ []) all (record { left = g.left; placed = g.placed }, tt))

seeks_refused : (key : Bytes) (blocks : List PlacedBlock) (c : Cursor) (e : Refusal) (old new : Source) → Seeks key blocks c (Some e) old new → (e ≡ Io) ⊎ ((e ≡ BadTable) ⊎ (e ≡ NoMemory))
seeks_refused key [] c e old new h = absurd (let clash : Some e ≡ None = h.0.refused in cc)
seeks_refused key (b ∷ rest) c e old new (inl g) = inr (inl (fair_refusal (sought key (entries_in g.0)) e (fair_sought key (entries_in g.0) (fair_in g.0)) g.2.refused))
seeks_refused key (b ∷ rest) c e old new (inr d) = inl (same_Some e Io d.0)

pub seek_refused : (key : Bytes) (blocks : List PlacedBlock) (e : Refusal) (old new : Source) → SeeksTo key blocks (Err e) old new → (e ≡ Io) ⊎ ((e ≡ BadTable) ⊎ (e ≡ NoMemory))
seek_refused key blocks e old new (inl p) = inr (inr p.0)
seek_refused key blocks e old new (inr k) = seeks_refused key blocks k.0 e old new k.1

-- ---- many sources more

pub no_run : {X : Type 0} (runs : List X) → length runs ≡ 0 → runs ≡ []
no_run [] none = refl
no_run (run ∷ runs) none = absurd (omega (arith, none))

abbrev pub RunsAsk : ℕ → Bytes → List (List Table) → List Cursor → List Cursor → Option Refusal → Source → Source → Type 0
RunsAsk area from runs cursors next refusal old new = (behind : List (List PlacedBlock)) → AsksOn (blocks_to_come cursors ++ (blocks_of_runs area from runs ++ behind)) (blocks_to_come next ++ behind) refusal old new

abbrev pub RunAsks : ℕ → Bytes → List Table → List Cursor → List Cursor → Option Refusal → Source → Source → Type 0
RunAsks area from run cursors next refusal old new = (behind : List (List PlacedBlock)) → AsksOn (blocks_to_come cursors ++ blocks_from_key area from run ∷ behind) (blocks_to_come next ++ behind) refusal old new

-- no run
module _ (area : ℕ) (from : Bytes) (runs : List (List Table)) (none : length runs ≡ 0) (cursors : List Cursor) where
  pub none_ask : (s : Source) → RunsAsk area from runs cursors cursors None s s
  none_ask s = λ behind refusal end more. subst (λ (rs : List (List Table)). AsksSome (blocks_to_come cursors ++ (blocks_of_runs area from rs ++ behind)) refusal s end) (sym (no_run runs none)) more

  pub none_give : (place : BlockName → Option ℕ) (sectors : List (List ℕ)) (lefts : List (List Version)) → AllGive place sectors lefts cursors → AllGive place sectors (lefts ++ map (λ run. from_key from (versions_of run)) runs) cursors
  none_give place sectors lefts all =
      subst (λ (rs : List (List Table)). AllGive place sectors (lefts ++ map (λ run. from_key from (versions_of run)) rs) cursors) (sym (no_run runs none))
      (subst (λ (ls : List (List Version)). AllGive place sectors ls cursors) (sym (append-nil lefts)) all)

-- a run, and older ones
module _ (area : ℕ) (from : Bytes) (run : List Table) (older runs : List (List Table)) (is : runs ≡ run ∷ older) where
  pub first_refused : (cursors next : List Cursor) (e : Refusal) (a b : Source) → RunAsks area from run cursors next (Some e) a b → RunsAsk area from runs cursors next (Some e) a b
  first_refused cursors next e a b first = λ behind. subst (λ (rs : List (List Table)). AsksSome (blocks_to_come cursors ++ (blocks_of_runs area from rs ++ behind)) (Some e) a b) (sym is) (first (blocks_of_runs area from older ++ behind))

  pub later_ask : (cursors mid next : List Cursor) (refusal : Option Refusal) (a b c : Source) → RunAsks area from run cursors mid None a b → RunsAsk area from older mid next refusal b c → RunsAsk area from runs cursors next refusal a c
  later_ask cursors mid next None a b c first second = λ behind refusal end more.
      subst (λ (rs : List (List Table)). AsksSome (blocks_to_come cursors ++ (blocks_of_runs area from rs ++ behind)) refusal a end) (sym is) (first (blocks_of_runs area from older ++ behind) refusal end (second behind refusal end more))
  later_ask cursors mid next (Some e) a b c first second = λ behind.
      subst (λ (rs : List (List Table)). AsksSome (blocks_to_come cursors ++ (blocks_of_runs area from rs ++ behind)) (Some e) a c) (sym is) (first (blocks_of_runs area from older ++ behind) (Some e) c (second behind))

  module _ (place : BlockName → Option ℕ) (sectors : List (List ℕ)) (r : AllByRecursion IsRun runs) (stored : AreStored sectors area runs) (placed : ArePlaced place area runs) where
    pub first_do : {R : Type 0} → (IsRun run → AllByRecursion (IsStored sectors area) run → AllByRecursion (IsPlaced place area) run → R) → R
    first_do f = f (subst (AllByRecursion IsRun) is r).0 (subst (AreStored sectors area) is stored).0 (subst (ArePlaced place area) is placed).0

    pub later_do : {R : Type 0} → (AllByRecursion IsRun older → AreStored sectors area older → ArePlaced place area older → R) → R
    later_do f = f (subst (AllByRecursion IsRun) is r).1 (subst (AreStored sectors area) is stored).1 (subst (ArePlaced place area) is placed).1

    pub later_give : (lefts : List (List Version)) (next : List Cursor) → AllGive place sectors ((lefts ++ from_key from (versions_of run) ∷ []) ++ map (λ run. from_key from (versions_of run)) older) next
        → AllGive place sectors (lefts ++ map (λ run. from_key from (versions_of run)) runs) next
    later_give lefts next all =
        subst (λ (rs : List (List Table)). AllGive place sectors (lefts ++ map (λ run. from_key from (versions_of run)) rs) next) (sym is)
        (subst (λ (ls : List (List Version)). AllGive place sectors ls next) (append_assoc lefts (from_key from (versions_of run) ∷ []) (map (λ run. from_key from (versions_of run)) older)) all)
