-- Places of versions, the newest first, in their order.
use Rattle.std.proofs.Common.{◌≡◌, ℕ, zero, suc, ◌<◌, List, [], ◌∷◌, ◌++◌, map, get_or, arith}
use Rattle.std.specs.List.{AllByRecursion}
use Rattle.lsm_codec.specs.Versions.{Version}
use Rattle.lsm_levels.specs.Among.{IsAmong}
use Rattle.lsm_levels.specs.Tables.{Table, versions_of}
use Rattle.lsm_levels.specs.Levels.{all_tables}
use Rattle.lsm_levels.specs.Orders.{IsNewerPlace, IsVersionOrder}
use Rattle.lsm_levels.proofs.Members.{among_left, among_right}
use Rattle.lsm_levels.proofs.Ranges.{all_of}
use Rattle.lsm_levels.proofs.LevelVersions.{in_tables}

pub newer_from : (newer older : List Version) → ((v w : Version) → IsAmong v newer → IsAmong w older → v.key ≡ w.key → w.number < v.number) → IsNewerPlace newer older
newer_from newer older f = all_of (λ v. AllByRecursion (λ w. v.key ≡ w.key → w.number < v.number) older) newer (λ v a. all_of (λ w. v.key ≡ w.key → w.number < v.number) older (λ w b. f v w a b))

-- the tables of the one are newer than those of the other
abbrev pub AreNewer : List Table → List Table → Type 0
AreNewer ts us = (t u : Table) (v w : Version) → IsAmong t ts → IsAmong u us → IsAmong v t.versions → IsAmong w u.versions → v.key ≡ w.key → w.number < v.number

newer_tables : (ts us : List Table) → AreNewer ts us → IsNewerPlace (versions_of ts) (versions_of us)
newer_tables ts us f = newer_from (versions_of ts) (versions_of us) (λ v w a b same. let t = in_tables v ts a in let u = in_tables w us b in f t.0 u.0 v w t.1 u.1 t.2 u.2 same)

-- runs of which each is newer than those after it
pub order_from : (xs : List (List Table)) → ((k l : ℕ) → k < l → AreNewer (get_or xs k []) (get_or xs l [])) → IsVersionOrder (map versions_of xs)
order_from [] f = tt
order_from (x ∷ xs) f = (behind xs (λ l. f 0 (suc l) (omega arith)), order_from xs (λ k l lt. f (suc k) (suc l) (omega (arith, lt))))
  where
    behind : (ps : List (List Table)) → ((l : ℕ) → AreNewer x (get_or ps l [])) → AllByRecursion (IsNewerPlace (versions_of x)) (map versions_of ps)
    behind [] g = tt
    behind (p ∷ ps) g = (newer_tables x p (g 0), behind ps (λ l. g (suc l)))

pub order_front : (xs ys : List (List Table)) → IsVersionOrder (map versions_of (xs ++ ys)) → IsVersionOrder (map versions_of xs)
order_front [] ys h = tt
order_front (x ∷ xs) ys h = (front xs h.0, order_front xs ys h.1)
  where
    front : (ps : List (List Table)) → AllByRecursion (IsNewerPlace (versions_of x)) (map versions_of (ps ++ ys)) → AllByRecursion (IsNewerPlace (versions_of x)) (map versions_of ps)
    front [] k = tt
    front (p ∷ ps) k = (k.0, front ps k.1)

pub order_join : (xs ys : List (List Table)) → IsVersionOrder (map versions_of xs) → IsVersionOrder (map versions_of ys) → ((l : ℕ) → AreNewer (all_tables xs) (get_or ys l [])) → IsVersionOrder (map versions_of (xs ++ ys))
order_join [] ys h k f = k
order_join (x ∷ xs) ys h k f = (join xs h.0, order_join xs ys h.1 k (λ l t u v w a. f l t u v w (among_right t x (all_tables xs) a)))
  where
    behind : (ps : List (List Table)) → ((l : ℕ) → AreNewer x (get_or ps l [])) → AllByRecursion (IsNewerPlace (versions_of x)) (map versions_of ps)
    behind [] g = tt
    behind (p ∷ ps) g = (newer_tables x p (g 0), behind ps (λ l. g (suc l)))

    join : (ps : List (List Table)) → AllByRecursion (IsNewerPlace (versions_of x)) (map versions_of ps) → AllByRecursion (IsNewerPlace (versions_of x)) (map versions_of (ps ++ ys))
    join [] k2 = behind ys (λ l t u v w a. f l t u v w (among_left t x (all_tables xs) a))
    join (p ∷ ps) k2 = (k2.0, join ps k2.1)
