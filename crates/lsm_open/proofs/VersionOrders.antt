-- The order of versions among places, and what a flush and a merge keep of it.
use Rattle.std.proofs.Common.{◌≡◌, ℕ, ◌<◌, List, [], ◌∷◌, ◌++◌, ap, sym, ◌∙◌, subst, arith, append_assoc}
use Rattle.std.specs.List.{AllByRecursion}
use Rattle.lsm_codec.specs.Keys.{Bytes}
use Rattle.lsm_codec.specs.Versions.{Version, newest}
use Rattle.lsm_codec.proofs.Lists.{all_map, all_append, all_left, all_right}
use Rattle.lsm_levels.specs.Orders.{IsNewerPlace, IsVersionOrder}
use Rattle.lsm_mem.specs.Versions.{value_at, NumberedAtMost}
use Rattle.lsm_mem.specs.Versions.{joined}
use Rattle.lsm_merge.specs.Laws.{HaveSameMap}
use Rattle.lsm_open.specs.Replacing.{HaveSameNewest, MayReplace}
use Rattle.lsm_table.specs.Division.{ShareNoKey}
use Rattle.lsm_open.proofs.InPlace.{inputs_together, same_newest_within, same_map_at_bottom, newer_than_among, among_newer_than, among_apart, apart_is_newer, newer_than_left, newer_than_right, both_newer_than}
use Rattle.lsm_levels.proofs.NewestOf.{newer_append, newer_than_all}
use Rattle.std.proofs.Common.{option_and_then}
use Rattle.lsm_merge.proofs.JoinLaws.{joined-append}

abbrev Versions : Type 0
Versions = List Version

abbrev Places : Type 0
Places = List (List Version)

-- ---- each two of two lists

none_over : (ys : List Version) → AllByRecursion (λ (w : Version). Unit {0}) ys
none_over [] = tt
none_over (y ∷ ys) = (tt, none_over ys)

module _ (R : Version → Version → Type 0) where
  paired : (x : Version) (xs ys : List Version) → AllByRecursion (λ w. R x w) ys → AllByRecursion (λ w. AllByRecursion (λ v. R v w) xs) ys → AllByRecursion (λ w. AllByRecursion (λ v. R v w) (x ∷ xs)) ys
  paired x xs [] h k = tt
  paired x xs (y ∷ ys) h k = ((h.0, k.0), paired x xs ys h.1 k.1)

  swapped_over : (xs ys : List Version) → AllByRecursion (λ v. AllByRecursion (λ w. R v w) ys) xs → AllByRecursion (λ w. AllByRecursion (λ v. R v w) xs) ys
  swapped_over [] ys h = none_over ys
  swapped_over (x ∷ xs) ys h = paired x xs ys h.0 (swapped_over xs ys h.1)

pub share_none_back : (xs ys : List Version) → ShareNoKey xs ys → ShareNoKey ys xs
share_none_back xs ys h = all_map (λ w all. all_map (λ v no e. no (sym e)) xs all) ys (swapped_over (λ v w. v.key ≡ w.key → ⊥) xs ys h)

-- ---- places one after the other

joined_each : (p : List Version) (ys : List (List Version)) → IsNewerPlace p (joined ys) → AllByRecursion (IsNewerPlace p) ys
joined_each p [] h = tt
joined_each p (y ∷ ys) h = (newer_than_left p y (joined ys) h, joined_each p ys (newer_than_right p y (joined ys) h))

pub order_left : (xs ys : List (List Version)) → IsVersionOrder (xs ++ ys) → IsVersionOrder xs
order_left [] ys h = tt
order_left (x ∷ xs) ys h = (all_left (IsNewerPlace x) xs ys h.0, order_left xs ys h.1)

pub order_right : (xs ys : List (List Version)) → IsVersionOrder (xs ++ ys) → IsVersionOrder ys
order_right [] ys h = h
order_right (x ∷ xs) ys h = order_right xs ys h.1

abbrev OverAll : List Version → Version → Type 0
OverAll older v = AllByRecursion (λ w. v.key ≡ w.key → w.number < v.number) older

pub order_cross : (xs ys : List (List Version)) → IsVersionOrder (xs ++ ys) → IsNewerPlace (joined xs) (joined ys)
order_cross [] ys h = tt
order_cross (x ∷ xs) ys h = all_append (OverAll (joined ys)) x (joined xs) (newer_than_all x ys (all_right (IsNewerPlace x) xs ys h.0)) (order_cross xs ys h.1)

pub order_join : (xs ys : List (List Version)) → IsVersionOrder xs → IsVersionOrder ys → IsNewerPlace (joined xs) (joined ys) → IsVersionOrder (xs ++ ys)
order_join [] ys h k cross = k
order_join (x ∷ xs) ys h k cross = (
  all_append (IsNewerPlace x) xs ys h.0 (joined_each x ys (all_left (OverAll (joined ys)) x (joined xs) cross)),
  order_join xs ys h.1 k (all_right (OverAll (joined ys)) x (joined xs) cross),
)

-- ---- a flush

-- versions of later batches are newer
pub later_is_newer : (base : ℕ) (xs ys : List Version) → AllByRecursion (λ v. base < v.number) xs → NumberedAtMost base ys → IsNewerPlace xs ys
later_is_newer base xs ys above below = all_map (λ v high. all_map (λ w low e. omega (arith, high, low)) ys below) xs above

pub flush_order : (base : ℕ) (new old : List (List Version)) → IsVersionOrder new → IsVersionOrder old → AllByRecursion (λ v. base < v.number) (joined new) → NumberedAtMost base (joined old) → IsVersionOrder (new ++ old)
flush_order base new old h k above below = order_join new old h k (later_is_newer base (joined new) (joined old) above below)

-- ---- a merge

module _ (A U F L D N : List (List Version)) (order : IsVersionOrder (A ++ (U ++ (F ++ (L ++ D))))) (may : MayReplace (joined U) (joined F) (joined L) (joined N)) where
  behind_f : joined (F ++ (L ++ D)) ≡ joined F ++ (joined L ++ joined D)
  behind_f = joined-append F (L ++ D) ∙ ap (λ (l : Versions). joined F ++ l) (joined-append L D)

  behind_u : joined (U ++ (F ++ (L ++ D))) ≡ joined U ++ (joined F ++ (joined L ++ joined D))
  behind_u = joined-append U (F ++ (L ++ D)) ∙ ap (λ (l : Versions). joined U ++ l) behind_f

  pub old_joined : joined (A ++ (U ++ (F ++ (L ++ D)))) ≡ joined A ++ (joined U ++ (joined F ++ (joined L ++ joined D)))
  old_joined = joined-append A (U ++ (F ++ (L ++ D))) ∙ ap (λ (l : Versions). joined A ++ l) behind_u

  pub new_joined : joined (A ++ (F ++ (N ++ D))) ≡ joined A ++ (joined F ++ (joined N ++ joined D))
  new_joined = joined-append A (F ++ (N ++ D)) ∙ ap (λ (l : Versions). joined A ++ l) (joined-append F (N ++ D) ∙ ap (λ (l : Versions). joined F ++ l) (joined-append N D))

  order_u : IsVersionOrder (U ++ (F ++ (L ++ D)))
  order_u = order_right A (U ++ (F ++ (L ++ D))) order

  order_f : IsVersionOrder (F ++ (L ++ D))
  order_f = order_right U (F ++ (L ++ D)) order_u

  order_l : IsVersionOrder (L ++ D)
  order_l = order_right F (L ++ D) order_f

  a_rest : IsNewerPlace (joined A) (joined U ++ (joined F ++ (joined L ++ joined D)))
  a_rest = subst (IsNewerPlace (joined A)) behind_u (order_cross A (U ++ (F ++ (L ++ D))) order)

  u_rest : IsNewerPlace (joined U) (joined F ++ (joined L ++ joined D))
  u_rest = subst (IsNewerPlace (joined U)) behind_f (order_cross U (F ++ (L ++ D)) order_u)

  f_rest : IsNewerPlace (joined F) (joined L ++ joined D)
  f_rest = subst (IsNewerPlace (joined F)) (joined-append L D) (order_cross F (L ++ D) order_f)

  a_behind : IsNewerPlace (joined A) (joined F ++ (joined L ++ joined D))
  a_behind = newer_than_right (joined A) (joined U) (joined F ++ (joined L ++ joined D)) a_rest

  a_last : IsNewerPlace (joined A) (joined L ++ joined D)
  a_last = newer_than_right (joined A) (joined F) (joined L ++ joined D) a_behind

  a_inputs : IsNewerPlace (joined A) (joined U ++ joined L)
  a_inputs = newer_append (joined A) (joined U) (joined L) (newer_than_left (joined A) (joined U) (joined F ++ (joined L ++ joined D)) a_rest) (newer_than_left (joined A) (joined L) (joined D) a_last)

  f_inputs : IsNewerPlace (joined F) (joined U ++ joined L)
  f_inputs = newer_append (joined F) (joined U) (joined L) (apart_is_newer (joined F) (joined U) may.apart) (newer_than_left (joined F) (joined L) (joined D) f_rest)

  inputs_d : IsNewerPlace (joined U ++ joined L) (joined D)
  inputs_d = both_newer_than (joined U) (joined L) (joined D)
      (newer_than_right (joined U) (joined L) (joined D) (newer_than_right (joined U) (joined F) (joined L ++ joined D) u_rest))
      (order_cross L D order_l)

  n_d : IsNewerPlace (joined N) (joined D)
  n_d = among_newer_than (joined N) (joined U ++ joined L) (joined D) may.among inputs_d

  f_new : IsNewerPlace (joined F) (joined N ++ joined D)
  f_new = newer_append (joined F) (joined N) (joined D) (newer_than_among (joined F) (joined N) (joined U ++ joined L) may.among f_inputs) (newer_than_right (joined F) (joined L) (joined D) f_rest)

  a_new : IsNewerPlace (joined A) (joined F ++ (joined N ++ joined D))
  a_new = newer_append (joined A) (joined F) (joined N ++ joined D) (newer_than_left (joined A) (joined F) (joined L ++ joined D) a_behind)
      (newer_append (joined A) (joined N) (joined D) (newer_than_among (joined A) (joined N) (joined U ++ joined L) may.among a_inputs) (newer_than_right (joined A) (joined L) (joined D) a_last))

  -- the outputs stand one level down in the order of versions
  pub merge_order : IsVersionOrder N → IsVersionOrder (A ++ (F ++ (N ++ D)))
  merge_order new =
      let nd : IsVersionOrder (N ++ D) = order_join N D new (order_right L D order_l) n_d in
      let fnd : IsVersionOrder (F ++ (N ++ D)) = order_join F (N ++ D) (order_left F (L ++ D) order_f) nd (subst (IsNewerPlace (joined F)) (sym (joined-append N D)) f_new) in
      order_join A (F ++ (N ++ D)) (order_left A (U ++ (F ++ (L ++ D))) order) fnd
      (subst (IsNewerPlace (joined A)) (sym (joined-append F (N ++ D) ∙ ap (λ (l : Versions). joined F ++ l) (joined-append N D))) a_new)

  -- what the inputs and all others stand for, in that order
  regrouped : (n : ℕ) (q : Bytes) → newest q n ((joined A ++ joined F) ++ ((joined U ++ joined L) ++ joined D)) ≡ newest q n (joined (A ++ (U ++ (F ++ (L ++ D)))))
  regrouped n q =
      sym (inputs_together q n (joined A) (joined U) (joined F) (joined L) (joined D) (share_none_back (joined F) (joined U) may.apart))
      ∙ ap (λ (vs : Versions). newest q n vs) (sym old_joined)

  put : joined (A ++ (F ++ (N ++ D))) ≡ (joined A ++ joined F) ++ (joined N ++ joined D)
  put = new_joined ∙ sym (append_assoc (joined A) (joined F) (joined N ++ joined D))

  -- Without the bottom flag: where the outputs have the inputs' newest versions, all have.
  pub merge_newest : (n : ℕ) → HaveSameNewest n (joined U ++ joined L) (joined N) → (q : Bytes) → newest q n (joined (A ++ (F ++ (N ++ D)))) ≡ newest q n (joined (A ++ (U ++ (F ++ (L ++ D)))))
  merge_newest n same q =
      ap (λ (vs : Versions). newest q n vs) put
      ∙ (same_newest_within n (joined A ++ joined F) (joined U ++ joined L) (joined N) (joined D) same).found q
      ∙ regrouped n q

  -- With it: where the outputs stand for the inputs' map, and nothing older lies below, all do.
  pub merge_map : (n : ℕ) → HaveSameMap n (joined U ++ joined L) (joined N) → ShareNoKey (joined U ++ joined L) (joined D) → (q : Bytes) → value_at (joined (A ++ (F ++ (N ++ D)))) n q ≡ value_at (joined (A ++ (U ++ (F ++ (L ++ D))))) n q
  merge_map n same bottom q =
      ap (λ (vs : Versions). value_at vs n q) put
      ∙ same_map_at_bottom n (joined A ++ joined F) (joined U ++ joined L) (joined N) (joined D) same
      (both_newer_than (joined A) (joined F) (joined U ++ joined L) a_inputs f_inputs)
      (both_newer_than (joined A) (joined F) (joined N) (newer_than_among (joined A) (joined N) (joined U ++ joined L) may.among a_inputs) (newer_than_among (joined F) (joined N) (joined U ++ joined L) may.among f_inputs))
      bottom (among_apart (joined N) (joined U ++ joined L) (joined D) may.among bottom) q
      ∙ ap (option_and_then (λ (v : Version). v.value)) (regrouped n q)
