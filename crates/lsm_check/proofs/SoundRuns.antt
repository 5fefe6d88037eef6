-- Tables that are sound, one after the other.
use Rattle.std.proofs.Common.{◌≡◌, ℕ, ◌+◌, ◌<◌, ◌≤◌, List, [], ◌∷◌, ◌++◌, map, length, take, drop, get_or, refl, sym, ap, subst, ◌∙◌, arith, append_assoc, length-append}
use Rattle.std.specs.List.{AllByRecursion}
use Rattle.std.proofs.lemmas.List.{append-nil, map-append, take_more, drop_more, take-append-drop}
use Rattle.lsm_codec.specs.Versions.{Version}
use Rattle.lsm_codec.proofs.Lists.{all_map, all_append, all_left, all_right}
use Rattle.lsm_device.specs.Disk.{seen}
use Rattle.lsm_levels.specs.Levels.{Levels, all_tables, places}
use Rattle.lsm_levels.proofs.OldestRuns.{tables_append}
use Rattle.lsm_levels.proofs.LevelVersions.{versions_append}
use Rattle.lsm_levels.specs.Orders.{IsNewerPlace, IsVersionOrder}
use Rattle.lsm_levels.specs.Tables.{Table, versions_of}
use Rattle.lsm_mem.specs.Versions.{joined}
use Rattle.lsm_open.proofs.InPlace.{newer_than_left}
use Rattle.lsm_open.proofs.VersionOrders.{order_cross, order_join}
use Rattle.lsm_check.specs.Seen.{SeenView, IsSeen}
use Rattle.lsm_check.specs.Sound.{IsTold, IsSound, AreSound, AreSeen}
use Rattle.lsm_check.proofs.SoundTables.{told_if_stored}

abbrev Sectors : Type 0
Sectors = List (List ℕ)

abbrev Tables : Type 0
Tables = List Table

-- ---- versions and places

abbrev places_of : Tables → List (List Version)
places_of tables = map (λ t. t.versions) tables

joined_versions : (tables : Tables) → joined (places_of tables) ≡ versions_of tables
joined_versions [] = refl
joined_versions (t ∷ rest) = ap (λ (vs : List Version). t.versions ++ vs) (joined_versions rest)

-- ---- a table at a place of a run, after others and before others

pub up_to : (done run : Tables) (i : ℕ) (t : Table) → i < length run → t ≡ get_or run i t → (done ++ take i run) ++ t ∷ [] ≡ done ++ take (i + 1) run
up_to done run i t lt is = append_assoc done (take i run) (t ∷ []) ∙ ap (λ (l : Tables). done ++ l) (ap (λ (x : Table). take i run ++ x ∷ []) is ∙ sym (take_more run i t lt))

pub parted : (done run rest : Tables) (i : ℕ) (t : Table) → i < length run → t ≡ get_or run i t → (done ++ run) ++ rest ≡ (done ++ take i run) ++ t ∷ (drop (i + 1) run ++ rest)
parted done run rest i t lt is =
    let behind : drop i run ≡ t ∷ drop (i + 1) run = drop_more run i t lt ∙ ap (λ (x : Table). x ∷ drop (i + 1) run) (sym is) in
    let whole : run ≡ take i run ++ t ∷ drop (i + 1) run = sym (take-append-drop i run) ∙ ap (λ (l : Tables). take i run ++ l) behind in
    ap (λ (r : Tables). (done ++ r) ++ rest) whole ∙ regrouped done (take i run) (t ∷ drop (i + 1) run) rest
  where
    regrouped : (a b c d : Tables) → (a ++ (b ++ c)) ++ d ≡ (a ++ b) ++ (c ++ d)
    regrouped a b c d = simp append_assoc

-- the same of runs
pub runs_up_to : (done : Tables) (runs : List Tables) (i : ℕ) (run : Tables) → i < length runs → run ≡ get_or runs i run → (done ++ all_tables (take i runs)) ++ run ≡ done ++ all_tables (take (i + 1) runs)
runs_up_to done runs i run lt is =
    append_assoc done (all_tables (take i runs)) run
    ∙ ap (λ (l : Tables). done ++ l) (one ∙ ap all_tables (ap (λ (x : Tables). take i runs ++ x ∷ []) is ∙ sym (take_more runs i run lt)))
  where
    one : all_tables (take i runs) ++ run ≡ all_tables (take i runs ++ run ∷ [])
    one = sym (tables_append (take i runs) (run ∷ []) ∙ ap (λ (l : Tables). all_tables (take i runs) ++ l) (append-nil run))

pub runs_parted : (done : Tables) (runs : List Tables) (rest : Tables) (i : ℕ) (run : Tables) → i < length runs → run ≡ get_or runs i run
    → (done ++ all_tables runs) ++ rest ≡ ((done ++ all_tables (take i runs)) ++ run) ++ (all_tables (drop (i + 1) runs) ++ rest)
runs_parted done runs rest i run lt is =
    let behind : drop i runs ≡ run ∷ drop (i + 1) runs = drop_more runs i run lt ∙ ap (λ (x : Tables). x ∷ drop (i + 1) runs) (sym is) in
    let whole : runs ≡ take i runs ++ run ∷ drop (i + 1) runs = sym (take-append-drop i runs) ∙ ap (λ (l : List Tables). take i runs ++ l) behind in
    ap (λ (r : Tables). (done ++ r) ++ rest) (ap all_tables whole ∙ tables_append (take i runs) (run ∷ drop (i + 1) runs)) ∙ regrouped done (all_tables (take i runs)) run (all_tables (drop (i + 1) runs)) rest
  where
    regrouped : (a b c d e : Tables) → (a ++ (b ++ (c ++ d))) ++ e ≡ ((a ++ b) ++ c) ++ (d ++ e)
    regrouped a b c d e = simp append_assoc

-- how many tables runs have
pub count_up_to : (runs : List Tables) (i : ℕ) (run : Tables) → i < length runs → run ≡ get_or runs i run → length (all_tables (take (i + 1) runs)) ≡ length (all_tables (take i runs)) + length run
count_up_to runs i run lt is = ap (λ (ts : Tables). length ts) (sym (runs_up_to [] runs i run lt is)) ∙ length-append (all_tables (take i runs)) run

pub count_all : (runs : List Tables) (i : ℕ) (run : Tables) → i < length runs → run ≡ get_or runs i run → length (all_tables (take i runs)) + length run ≤ length (all_tables runs)
count_all runs i run lt is =
    let e : length (all_tables runs ++ []) ≡ length (((all_tables (take i runs)) ++ run) ++ (all_tables (drop (i + 1) runs) ++ [])) = ap (λ (ts : Tables). length ts) (runs_parted [] runs [] i run lt is) in
    omega (arith, e, length-append (all_tables runs) [], length-append ((all_tables (take i runs)) ++ run) (all_tables (drop (i + 1) runs) ++ []), length-append (all_tables (take i runs)) run)

-- what holds of each table of runs holds of each of one run
pub all_in_runs : (P : Table → Type 0) (runs : List Tables) (i : ℕ) (run : Tables) → i < length runs → run ≡ get_or runs i run → AllByRecursion P (all_tables runs) → AllByRecursion P run
all_in_runs P runs i run lt is all =
    all_right P (all_tables (take i runs)) run (all_left P (all_tables (take i runs) ++ run) (all_tables (drop (i + 1) runs) ++ []) (subst (λ (ts : Tables). AllByRecursion P ts) (sym (append-nil (all_tables runs)) ∙ runs_parted [] runs [] i run lt is) all))

-- the tables of levels: those of level 0, and those below
module _ (levels : Levels) (runs deeper : List Tables) (are_runs : runs ≡ levels.runs) (are_deeper : deeper ≡ levels.deeper) where
  pub places_parted : all_tables (places levels) ≡ all_tables runs ++ all_tables deeper
  places_parted =
      tables_append levels.runs levels.deeper
      ∙ ap (λ (rs : List Tables). all_tables rs ++ all_tables levels.deeper) (sym are_runs)
      ∙ ap (λ (rs : List Tables). all_tables runs ++ all_tables rs) (sym are_deeper)

  pub count_places : length (all_tables (places levels)) ≡ length (all_tables runs) + length (all_tables deeper)
  count_places = ap (λ (ts : Tables). length ts) places_parted ∙ length-append (all_tables runs) (all_tables deeper)

module _ (sectors : Sectors) (area base : ℕ) where
  -- ---- nothing was seen

  pub seen_none : (s : SeenView) → IsSeen [] s → AreSeen sectors area base [] s
  seen_none s seen = record { sound = record { each = tt; order = tt }; seen = seen }

  -- ---- one table more

  module _ (xs : Tables) (t : Table) (one : IsSound sectors area base t) (older : IsNewerPlace (versions_of xs) t.versions) where
    cross : IsNewerPlace (joined (places_of xs)) (t.versions ++ [])
    cross = subst (λ (vs : List Version). IsNewerPlace vs (t.versions ++ [])) (sym (joined_versions xs)) (subst (λ (vs : List Version). IsNewerPlace (versions_of xs) vs) (sym (append-nil t.versions)) older)

    sound_more : AreSound sectors area base xs → AreSound sectors area base (xs ++ t ∷ [])
    sound_more sound = record {
      each = all_append (IsSound sectors area base) xs (t ∷ []) sound.each (one, tt);
      order = subst IsVersionOrder (sym (map-append (λ (x : Table). x.versions) xs (t ∷ []))) (order_join (places_of xs) (t.versions ∷ []) sound.order (tt, tt) cross);
    }

    pub seen_more : (old new : SeenView) → AreSeen sectors area base xs old → IsSeen (versions_of xs ++ t.versions) new → AreSeen sectors area base (xs ++ t ∷ []) new
    seen_more old new so_far seen = record {
      sound = sound_more so_far.sound;
      seen = subst (λ (vs : List Version). IsSeen vs new) (sym (versions_append xs (t ∷ []) ∙ ap (λ (vs : List Version). versions_of xs ++ vs) (append-nil t.versions))) seen;
    }

  -- the same, where it was told of the sectors as a device reads them later
  pub seen_later : (later : Sectors) (done run : Tables) (i : ℕ) (t : Table) (old new : SeenView) → later ≡ sectors → i < length run → t ≡ get_or run i t → AreSeen sectors area base (done ++ take i run) old
      → IsSound later area base t × IsNewerPlace (versions_of (done ++ take i run)) t.versions × IsSeen (versions_of (done ++ take i run) ++ t.versions) new → AreSeen sectors area base (done ++ take (i + 1) run) new
  seen_later later done run i t old new same lt is so_far found =
      subst (λ (l : Tables). AreSeen sectors area base l new) (up_to done run i t lt is)
      (seen_more (done ++ take i run) t (subst (λ (s : Sectors). IsSound s area base t) same found.0) found.1 old new so_far found.2)

  -- ---- one of those that are sound

  module _ (xs : Tables) (t : Table) (ys : Tables) (sound : AreSound sectors area base (xs ++ t ∷ ys)) where
    pub sound_at : IsSound sectors area base t
    sound_at = (all_right (IsSound sectors area base) xs (t ∷ ys) sound.each).0

    pub older_at : IsNewerPlace (versions_of xs) t.versions
    older_at =
        let order : IsVersionOrder (places_of xs ++ places_of (t ∷ ys)) = subst IsVersionOrder (map-append (λ (x : Table). x.versions) xs (t ∷ ys)) sound.order in
        let across : IsNewerPlace (joined (places_of xs)) (joined (places_of (t ∷ ys))) = order_cross (places_of xs) (places_of (t ∷ ys)) order in
        newer_than_left (versions_of xs) t.versions (versions_of ys)
        (subst (λ (vs : List Version). IsNewerPlace vs (versions_of (t ∷ ys))) (joined_versions xs) (subst (λ (vs : List Version). IsNewerPlace (joined (places_of xs)) vs) (joined_versions (t ∷ ys)) across))

  -- tables that are sound are told
  pub told_if_sound : (done tables rest : Tables) → AreSound sectors area base ((done ++ tables) ++ rest) → AllByRecursion (IsTold sectors area) tables
  told_if_sound done tables rest sound =
      all_map (λ t is. told_if_stored sectors area t is.stored) tables (all_right (IsSound sectors area base) done tables (all_left (IsSound sectors area base) (done ++ tables) rest sound.each))
