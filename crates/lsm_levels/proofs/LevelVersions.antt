-- The versions of tables and of levels: the older level has the older ones.
use Rattle.std.proofs.Common.{◌≡◌, ◌⊎◌, inl, inr, ⊎_elim, ℕ, zero, suc, ◌<◌, true, ◌&&◌, List, [], ◌∷◌, ◌++◌, map, get_or, refl, ap, ◌∙◌, subst, sym, arith, append_assoc}
use Rattle.std.specs.List.{AllByRecursion}
use Rattle.lsm_codec.specs.Keys.{Bytes}
use Rattle.lsm_codec.specs.Versions.{Version}
use Rattle.lsm_mem.specs.Versions.{joined}
use Rattle.lsm_levels.specs.Among.{IsAmong}
use Rattle.lsm_levels.proofs.Members.{among_left, among_right, among_either}
use Rattle.lsm_levels.specs.Tables.{Table, KeyRange, at_most, meets, versions_of}
use Rattle.lsm_levels.specs.Levels.{Levels, all_tables, level, places}
use Rattle.lsm_levels.specs.Orders.{IsNewerPlace, IsVersionOrder}
use Rattle.lsm_levels.proofs.KeyOrder.{at_most_trans}
use Rattle.lsm_levels.proofs.Ranges.{of_all}
use Rattle.lsm_levels.proofs.OldestRuns.{tables_append}

-- ---- versions of tables

pub versions_append : (xs ys : List Table) → versions_of (xs ++ ys) ≡ versions_of xs ++ versions_of ys
versions_append [] ys = refl
versions_append (x ∷ xs) ys = ap (λ (l : List Version). x.versions ++ l) (versions_append xs ys) ∙ sym (append_assoc x.versions (versions_of xs) (versions_of ys))

-- those of runs, one place after the other
pub all_versions : (runs : List (List Table)) → versions_of (all_tables runs) ≡ joined (map versions_of runs)
all_versions [] = refl
all_versions (run ∷ rest) = versions_append run (all_tables rest) ∙ ap (λ (l : List Version). versions_of run ++ l) (all_versions rest)

pub in_tables : (v : Version) (tables : List Table) → IsAmong v (versions_of tables) → (t : Table) × IsAmong t tables × IsAmong v t.versions
in_tables v [] a = absurd a
in_tables v (t ∷ rest) a = ⊎_elim
    (λ b. (t, inl refl, b))
    (λ b. let more = in_tables v rest b in (more.0, inr more.1, more.2))
    (among_either v t.versions (versions_of rest) a)

pub of_table : (v : Version) (t : Table) (tables : List Table) → IsAmong t tables → IsAmong v t.versions → IsAmong v (versions_of tables)
of_table v t [] a b = absurd a
of_table v t (u ∷ rest) (inl e) b = among_left v u.versions (versions_of rest) (subst (λ (x : Table). IsAmong v x.versions) e b)
of_table v t (u ∷ rest) (inr a) b = among_right v u.versions (versions_of rest) (of_table v t rest a b)

-- ---- places and levels

pub level_of_place : (levels : Levels) (t : Table) → IsAmong t (all_tables (places levels)) → (k : ℕ) × IsAmong t (level levels k)
level_of_place levels t a = ⊎_elim (λ b. (0, b)) (λ b. let d = deep levels.deeper b in (suc d.0, d.1)) (split levels.runs a)
  where
    split : (runs : List (List Table)) → IsAmong t (all_tables (runs ++ levels.deeper)) → IsAmong t (all_tables runs) ⊎ IsAmong t (all_tables levels.deeper)
    split [] b = inr b
    split (x ∷ rest) b = ⊎_elim
        (λ c. inl (among_left t x (all_tables rest) c))
        (λ c. ⊎_elim (λ d. inl (among_right t x (all_tables rest) d)) (λ d. inr d) (split rest c))
        (among_either t x (all_tables (rest ++ levels.deeper)) b)

    deep : (xs : List (List Table)) → IsAmong t (all_tables xs) → (i : ℕ) × IsAmong t (get_or xs i [])
    deep [] b = absurd b
    deep (x ∷ xs) b = ⊎_elim (λ c. (0, c)) (λ c. let d = deep xs c in (suc d.0, d.1)) (among_either t x (all_tables xs) b)

pub place_of_level : (levels : Levels) (k : ℕ) (t : Table) → IsAmong t (level levels k) → IsAmong t (all_tables (places levels))
place_of_level levels zero t a = front levels.runs a
  where
    front : (runs : List (List Table)) → IsAmong t (all_tables runs) → IsAmong t (all_tables (runs ++ levels.deeper))
    front [] b = absurd b
    front (x ∷ rest) b = ⊎_elim
        (λ c. among_left t x (all_tables (rest ++ levels.deeper)) c)
        (λ c. among_right t x (all_tables (rest ++ levels.deeper)) (front rest c))
        (among_either t x (all_tables rest) b)
place_of_level levels (suc i) t a = back levels.runs (deep levels.deeper i a)
  where
    deep : (xs : List (List Table)) (j : ℕ) → IsAmong t (get_or xs j []) → IsAmong t (all_tables xs)
    deep [] j b = absurd b
    deep (x ∷ xs) zero b = among_left t x (all_tables xs) b
    deep (x ∷ xs) (suc j) b = among_right t x (all_tables xs) (deep xs j b)

    back : (runs : List (List Table)) → IsAmong t (all_tables levels.deeper) → IsAmong t (all_tables (runs ++ levels.deeper))
    back [] b = b
    back (x ∷ rest) b = among_right t x (all_tables (rest ++ levels.deeper)) (back rest b)

-- ---- a key in a range

pub covers_meets : (range : KeyRange) (t : Table) (key : Bytes) → at_most range.first key ≡ true → at_most key range.last ≡ true → at_most t.first key ≡ true → at_most key t.last ≡ true → meets range t ≡ true
covers_meets range t key a b c d =
    ap (λ x. x && at_most t.first range.last) (at_most_trans range.first key t.last a d) ∙ at_most_trans t.first key range.last c b

-- ---- older levels have older versions

all_among : {X : Type 0} (P : X → Type 0) (xs : List X) (x : X) → AllByRecursion P xs → IsAmong x xs → P x
all_among P xs x h a = of_all P xs h x a

pub newer_than : (newer older : List Version) (v w : Version) → IsNewerPlace newer older → IsAmong v newer → IsAmong w older → v.key ≡ w.key → w.number < v.number
newer_than newer older v w h a b = all_among (λ u. v.key ≡ u.key → u.number < v.number) older w (all_among (λ x. AllByRecursion (λ u. x.key ≡ u.key → u.number < x.number) older) newer v h a) b

-- of two runs the earlier has the newer versions
in_runs : (xs ys : List (List Table)) (t u : Table) (v w : Version) → IsVersionOrder (map versions_of (xs ++ ys)) → IsAmong t (all_tables xs) → IsAmong u (all_tables ys) → IsAmong v t.versions → IsAmong w u.versions → v.key ≡ w.key → w.number < v.number
in_runs [] ys t u v w order a b c d same = absurd a
in_runs (x ∷ xs) ys t u v w order a b c d same = ⊎_elim
    (λ here. first xs order.0 b here)
    (λ later. in_runs xs ys t u v w order.1 later b c d same)
    (among_either t x (all_tables xs) a)
  where
    into : (ps : List (List Table)) → AllByRecursion (IsNewerPlace (versions_of x)) (map versions_of ps) → IsAmong u (all_tables ps) → IsAmong t x → w.number < v.number
    into [] h e f = absurd e
    into (p ∷ ps) h e f = ⊎_elim
        (λ g. newer_than (versions_of x) (versions_of p) v w h.0 (of_table v t x f c) (of_table w u p g d) same)
        (λ g. into ps h.1 g f)
        (among_either u p (all_tables ps) e)

    first : (rest : List (List Table)) → AllByRecursion (IsNewerPlace (versions_of x)) (map versions_of (rest ++ ys)) → IsAmong u (all_tables ys) → IsAmong t x → w.number < v.number
    first [] h e f = into ys h e f
    first (p ∷ rest) h e f = first rest h.1 e f

-- levels that follow one another
in_deeper : (xs : List (List Table)) (k l : ℕ) (t u : Table) (v w : Version) → k < l → IsVersionOrder (map versions_of xs) → IsAmong t (get_or xs k []) → IsAmong u (get_or xs l []) → IsAmong v t.versions → IsAmong w u.versions → v.key ≡ w.key → w.number < v.number
in_deeper [] k l t u v w lt order a b c d same = absurd a
in_deeper (x ∷ xs) k zero t u v w lt order a b c d same = absurd (omega (arith, lt))
in_deeper (x ∷ xs) (suc k) (suc l) t u v w lt order a b c d same = in_deeper xs k l t u v w (omega (arith, lt)) order.1 a b c d same
in_deeper (x ∷ xs) zero (suc l) t u v w lt order a b c d same = go xs l order.0 b
  where
    go : (ps : List (List Table)) (i : ℕ) → AllByRecursion (IsNewerPlace (versions_of x)) (map versions_of ps) → IsAmong u (get_or ps i []) → w.number < v.number
    go [] i h e = absurd e
    go (p ∷ ps) zero h e = newer_than (versions_of x) (versions_of p) v w h.0 (of_table v t x a c) (of_table w u p e d) same
    go (p ∷ ps) (suc i) h e = go ps i h.1 e

deeper_order : (runs deeper : List (List Table)) → IsVersionOrder (map versions_of (runs ++ deeper)) → IsVersionOrder (map versions_of deeper)
deeper_order [] deeper h = h
deeper_order (x ∷ rest) deeper h = deeper_order rest deeper h.1

pub deep_in : (xs : List (List Table)) (j : ℕ) (t : Table) → IsAmong t (get_or xs j []) → IsAmong t (all_tables xs)
deep_in [] j t b = absurd b
deep_in (x ∷ xs) zero t b = among_left t x (all_tables xs) b
deep_in (x ∷ xs) (suc j) t b = among_right t x (all_tables xs) (deep_in xs j t b)

pub older_level : (levels : Levels) (k l : ℕ) (t u : Table) (v w : Version) → k < l → IsVersionOrder (map versions_of (places levels)) → IsAmong t (level levels k) → IsAmong u (level levels l) → IsAmong v t.versions → IsAmong w u.versions → v.key ≡ w.key → w.number < v.number
older_level levels k zero t u v w lt order a b c d same = absurd (omega (arith, lt))
older_level levels zero (suc l) t u v w lt order a b c d same = in_runs levels.runs levels.deeper t u v w order a (deep_in levels.deeper l u b) c d same
older_level levels (suc k) (suc l) t u v w lt order a b c d same = in_deeper levels.deeper k l t u v w (omega (arith, lt)) (deeper_order levels.runs levels.deeper order) a b c d same

-- the newer runs of level 0 have newer versions than the oldest
pub newer_runs_order : (newer oldest deeper : List (List Table)) (t u : Table) (v w : Version) → IsVersionOrder (map versions_of ((newer ++ oldest) ++ deeper)) → IsAmong t (all_tables newer) → IsAmong u (all_tables oldest) → IsAmong v t.versions → IsAmong w u.versions → v.key ≡ w.key → w.number < v.number
newer_runs_order newer oldest deeper t u v w order a b c d same =
    in_runs newer (oldest ++ deeper) t u v w (subst (λ (rs : List (List Table)). IsVersionOrder (map versions_of rs)) (append_assoc newer oldest deeper) order) a
    (subst (IsAmong u) (sym (tables_append oldest deeper)) (among_left u (all_tables oldest) (all_tables deeper) b)) c d same
