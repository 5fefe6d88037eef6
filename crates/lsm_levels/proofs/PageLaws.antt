-- How a page is gathered, step by step.
use Rattle.std.proofs.Common.{◌≡◌, inl, inr, ℕ, Bool, true, false, is_some, List, [], ◌∷◌, ◌++◌, length, map, Option, Some, None, Result, Ok, Err, refl, ap, sym, subst, ◌∙◌}
use denote.Ref.{Bor}
use Rattle.std.proofs.lemmas.List.{append-nil}
use Rattle.lsm_device.specs.declared.refusal.Refusal.{Refusal}
use Rattle.lsm_device.specs.declared.refusal.Refusal.TheVariants.{NoMemory}
use Rattle.lsm_codec.specs.Keys.{Bytes}
use Rattle.lsm_codec.specs.Versions.{Version}
use Rattle.lsm_mem.specs.Gathering.{Gathering, gathering}
use Rattle.lsm_mem.specs.Paging.{Page}
use Rattle.lsm_levels.specs.Tables.{Table}
use Rattle.lsm_levels.specs.Levels.{Levels, places}
use Rattle.lsm_levels.specs.Asking.{Source}
use Rattle.lsm_levels.specs.Cursors.{Cursor, Seeks, SeeksTo, blocks_from_key, present}
use Rattle.lsm_levels.specs.Sources.{IsNext, head_at}
use Rattle.lsm_levels.specs.Queues.{AreSpent}
use Rattle.lsm_levels.specs.Scans.{Advances, Takes, memory_places}
use Rattle.lsm_levels.specs.Lookups.{sealed_now}
use Rattle.lsm_levels.specs.Pages.{EndsWith, Gathers, GathersRuns, GoesOver, IsScan, TakesTurn, cursors_of}
use Rattle.lsm_levels.proofs.ScanLaws.{some_version}
use Rattle.lsm_levels.proofs.ScanSources.{no_run}

-- ---- a turn

-- no version is left
pub ends_spent : (g : Gathering) (cursors : List Cursor) (s : Source) → g.next ≡ None → AreSpent (map present cursors) → EndsWith (Gathers g cursors) None g s s
ends_spent g cursors s going spent = λ page is. record { turns = []; in_turn = (inl (record { spent = spent; is = ap (λ (p : Page). Ok p) (is.whole going) }), refl) }

-- memory is refused
pub no_memory : (g : Gathering) (cursors : List Cursor) (s : Source) → Gathers g cursors (Err NoMemory) s s
no_memory g cursors s = record { turns = []; in_turn = (inr (inr refl), refl) }

-- the version of the source that comes next is taken
module _ (g new : Gathering) (cursors : List Cursor) (i : ℕ) (next : IsNext (map present cursors) i × (is_some (head_at (map present cursors) i) ≡ true)) (goes : Bool) (takes : (v : Version) → head_at (map present cursors) i ≡ Some v → Takes v g new goes) where
  taken : (b : Bool) → goes ≡ b → (v : Version) × (head_at (map present cursors) i ≡ Some v) × Takes v g new b
  taken b e = let v = some_version (head_at (map present cursors) i) next.1 in (v.0, v.1, subst (λ (x : Bool). Takes v.0 g new x) e (takes v.0 v.1))

  pub ends_taken : (s : Source) → goes ≡ false → EndsWith (Gathers g cursors) None new s s
  ends_taken s e = λ page is.
      let v = taken false e in
      record {
        turns = [];
        in_turn = (inr (inl (record { place = i; version = v.0; at = record { next = next.0; stands = v.1 }; last = new; takes = v.2; is = ap (λ (p : Page). Ok p) is.so_far })), refl);
      }

  abbrev turn : (behind : List Cursor) (refusal : Option Refusal) (old mid : Source) → goes ≡ true → Advances i cursors behind refusal old mid → TakesTurn i g cursors old
  turn behind refusal old mid e a =
      let v = taken true e in
      record { version = v.0; at = record { next = next.0; stands = v.1 }; taken = new; takes = v.2; behind = behind; refusal = refusal; mid = mid; advances = a }

  pub turn_refused : (behind : List Cursor) (refusal : Refusal) (old mid : Source) → goes ≡ true → Advances i cursors behind (Some refusal) old mid → Gathers g cursors (Err refusal) old mid
  turn_refused behind refusal old mid e a = record { turns = i ∷ []; in_turn = (turn behind (Some refusal) old mid e a, (refl, refl)) }

  pub turn_goes_on : (behind : List Cursor) (old mid : Source) → goes ≡ true → Advances i cursors behind None old mid → GoesOver (Gathers g cursors) (Gathers new behind) None old mid
  turn_goes_on behind old mid e a = λ answer end more. record { turns = i ∷ more.turns; in_turn = (turn behind None old mid e a, more.in_turn) }

-- ---- runs

pub no_memory_for : (g : Gathering) (area : ℕ) (key : Bytes) (runs : List (List Table)) (cursors : List Cursor) (s : Source) → GathersRuns g area key runs cursors (Err NoMemory) s s
no_memory_for g area key [] cursors s = no_memory g cursors s
no_memory_for g area key (run ∷ older) cursors s = inl (refl, refl)

module _ (g : Gathering) (area : ℕ) (key : Bytes) (run : List Table) (behind : List (List Table)) (cursors : List Cursor) where
  -- its cursor is refused
  pub run_refused : (e : Refusal) (old mid : Source) → SeeksTo key (blocks_from_key area key run) (Err e) old mid → GathersRuns g area key (run ∷ behind) cursors (Err e) old mid
  run_refused e old mid (inl p) = inl (ap (λ (x : Refusal). Err x) p.0, p.1)
  run_refused e old mid (inr k) = inr (k.0, Some e, mid, k.1, (refl, refl))

  -- it has none
  pub run_dropped : (c : Cursor) (old mid : Source) → Seeks key (blocks_from_key area key run) c None old mid → GathersRuns g area key (run ∷ behind) cursors (Err NoMemory) old mid
  run_dropped c old mid h = inr (c, None, mid, h, no_memory_for g area key behind (cursors ++ c ∷ []) mid)

  pub run_sought : (next : List Cursor) (c : Cursor) (old mid : Source) → next ≡ cursors ++ c ∷ [] → Seeks key (blocks_from_key area key run) c None old mid
      → GoesOver (GathersRuns g area key (run ∷ behind) cursors) (GathersRuns g area key behind next) None old mid
  run_sought next c old mid is h = λ answer end more. inr (c, None, mid, h, subst (λ (cs : List Cursor). GathersRuns g area key behind cs answer mid end) is more)

-- so it is with runs in front of others
abbrev pub RunsGo : ℕ → Bytes → List (List Table) → List Cursor → List Cursor → Option Refusal → Source → Source → Type 0
RunsGo area key runs cursors next refusal old new = (g : Gathering) (behind : List (List Table)) → GoesOver (GathersRuns g area key (runs ++ behind) cursors) (GathersRuns g area key behind next) refusal old new

abbrev pub RunGoes : ℕ → Bytes → List Table → List Cursor → List Cursor → Option Refusal → Source → Source → Type 0
RunGoes area key run cursors next refusal old new = (g : Gathering) (behind : List (List Table)) → GoesOver (GathersRuns g area key (run ∷ behind) cursors) (GathersRuns g area key behind next) refusal old new

pub none_go : (area : ℕ) (key : Bytes) (runs : List (List Table)) → length runs ≡ 0 → (cursors : List Cursor) (s : Source) → RunsGo area key runs cursors cursors None s s
none_go area key runs none cursors s = λ g behind answer end more. subst (λ (rs : List (List Table)). GathersRuns g area key (rs ++ behind) cursors answer s end) (sym (no_run runs none)) more

module _ (area : ℕ) (key : Bytes) (run : List Table) (older runs : List (List Table)) (is : runs ≡ run ∷ older) where
  pub first_fails : (cursors next : List Cursor) (e : Refusal) (a b : Source) → RunGoes area key run cursors next (Some e) a b → RunsGo area key runs cursors next (Some e) a b
  first_fails cursors next e a b first = λ g behind. subst (λ (rs : List (List Table)). GathersRuns g area key (rs ++ behind) cursors (Err e) a b) (sym is) (first g (older ++ behind))

  pub later_go : (cursors mid next : List Cursor) (refusal : Option Refusal) (a b c : Source) → RunGoes area key run cursors mid None a b → RunsGo area key older mid next refusal b c → RunsGo area key runs cursors next refusal a c
  later_go cursors mid next None a b c first second = λ g behind answer end more.
      subst (λ (rs : List (List Table)). GathersRuns g area key (rs ++ behind) cursors answer a end) (sym is) (first g (older ++ behind) answer end (second g behind answer end more))
  later_go cursors mid next (Some e) a b c first second = λ g behind.
      subst (λ (rs : List (List Table)). GathersRuns g area key (rs ++ behind) cursors (Err e) a c) (sym is) (first g (older ++ behind) (Err e) c (second g behind))

-- ---- a view

-- its runs, as they and the cursors in front of them were given
module _ (area : ℕ) (key : Bytes) (levels : Levels) (front cursors : List Cursor) (newer older : List (List Table)) (from_memory : cursors ≡ front) (same_newer : newer ≡ levels.runs) (same_older : older ≡ levels.deeper) (g : Gathering) where
  given : (answer : Result Page Refusal) (a b : Source) → GathersRuns g area key (newer ++ levels.deeper) cursors answer a b → GathersRuns g area key (places levels) front answer a b
  given answer a b h = subst (λ (cs : List Cursor). GathersRuns g area key (places levels) cs answer a b) from_memory (subst (λ (rs : List (List Table)). GathersRuns g area key (rs ++ levels.deeper) cursors answer a b) same_newer h)

  pub newer_fail : (mid : List Cursor) (e : Refusal) (a b : Source) → RunsGo area key newer cursors mid (Some e) a b → GathersRuns g area key (places levels) front (Err e) a b
  newer_fail mid e a b first = given (Err e) a b (first g levels.deeper)

  pub older_fail : (mid next : List Cursor) (e : Refusal) (a b c : Source) → RunsGo area key newer cursors mid None a b → RunsGo area key older mid next (Some e) b c → GathersRuns g area key (places levels) front (Err e) a c
  older_fail mid next e a b c first second = given (Err e) a c (first g levels.deeper (Err e) c (subst (λ (rs : List (List Table)). GathersRuns g area key rs mid (Err e) b c) (append-nil older ∙ same_older) (second g [])))

  pub all_go : (mid next : List Cursor) (a b c : Source) → RunsGo area key newer cursors mid None a b → RunsGo area key older mid next None b c → GoesOver (GathersRuns g area key (places levels) front) (Gathers g next) None a c
  all_go mid next a b c first second = λ answer end more.
      given answer a end (first g levels.deeper answer end (subst (λ (rs : List (List Table)). GathersRuns g area key rs mid answer b end) (append-nil older ∙ same_older) (second g [] answer end more)))

pub scan_of : (memory : List Version) (sealed : Option (Bor (List Version))) (runs : List (List Table)) (area : ℕ) (from : Bytes) (to : Option Bytes) (limit n : ℕ) (answer : Result Page Refusal) (old new : Source)
    → GathersRuns (gathering n to limit) area from runs (cursors_of from n (memory_places memory sealed)) answer old new → IsScan memory (sealed_now sealed) runs area from to limit n answer old new
scan_of memory None runs area from to limit n answer old new h = record { memories = memory ∷ []; are = inl (refl, refl); gathers = h }
scan_of memory (Some sealed) runs area from to limit n answer old new h = record { memories = memory ∷ sealed.now ∷ []; are = inr refl; gathers = h }
