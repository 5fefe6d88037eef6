-- The newest version of a key among versions, and among these in order.
use Rattle.std.proofs.Common.{◌≡◌, ℕ, ◌<◌, Bool, true, false, cond, ◌&&◌, ltb, leb, List, [], ◌∷◌, Option, Some, None, refl, ap, sym, ◌∙◌, arith}
use Rattle.std.proofs.lemmas.Bool.{cond_both, ltb-true, ltb-false}
use Rattle.std.specs.declared.cmp.Ordering.{Ordering}
use Rattle.std.specs.declared.cmp.Ordering.TheVariants.{Less, Equal, Greater}
use Rattle.std.specs.FinMap.Entries.{by_order}
use Rattle.lsm_codec.specs.Keys.{Bytes}
use Rattle.lsm_codec.specs.Versions.{Version, is_same_key, entry_order, newer_of, newest, is_version_of}
use Rattle.lsm_mem.specs.EntryOrder.{placed}
use Rattle.lsm_mem.proofs.Batches.{tied_key, tied_number}
use Rattle.lsm_merge.specs.Keeping.{in_order}
use Rattle.lsm_mem.proofs.Orders.{older_number}
use Rattle.lsm_merge.proofs.Placing.{less_from_greater}
use Rattle.lsm_mem.proofs.FirstLaws.{not_newer, is_newer, is_version_of-key}

newer_tied : (v w : Version) (o : Option Version) → v.number ≡ w.number → newer_of v o ≡ newer_of v (Some (newer_of w o))
newer_tied v w None e = sym (not_newer v w (omega arith))
newer_tied v w (Some u) e =
    cond_both (ltb w.number u.number) u w (λ m. newer_of v (Some u) ≡ newer_of v (Some m))
    (λ h. refl)
    (λ h. let below = ltb-false w.number u.number h in not_newer v u (omega arith) ∙ sym (not_newer v w (omega arith)))

newer_swap : (v w : Version) (o : Option Version) → v.number < w.number → newer_of w (Some (newer_of v o)) ≡ newer_of v (Some (newer_of w o))
newer_swap v w None h = not_newer w v (omega arith) ∙ sym (is_newer v w h)
newer_swap v w (Some u) h =
    cond_both (ltb w.number u.number) u w (λ m. newer_of w (Some (newer_of v (Some u))) ≡ newer_of v (Some m))
    (λ e. let above = ltb-true w.number u.number e in ap (λ m. newer_of w (Some m)) (is_newer v u (omega arith)) ∙ is_newer w u above ∙ sym (is_newer v u (omega arith)))
    (λ e. let below = ltb-false w.number u.number e in
    cond_both (ltb v.number u.number) u v (λ m. newer_of w (Some m) ≡ newer_of v (Some w))
    (λ f. not_newer w u below ∙ sym (is_newer v w h))
    (λ f. not_newer w v (omega arith) ∙ sym (is_newer v w h)))

tied_is_of : (key : Bytes) (n : ℕ) (v w : Version) → entry_order v w ≡ Equal → is_version_of key n v ≡ is_version_of key n w
tied_is_of key n v w e = ap (λ k. is_same_key key k && leb v.number n) (sym (tied_key v w e)) ∙ ap (λ m. is_same_key key w.key && leb m n) (sym (tied_number v w e))

-- one step of `newest`
abbrev step : Bytes → ℕ → Version → Option Version → Option Version
step key n v o = cond (is_version_of key n v) (Some (newer_of v o)) o

step_tied : (v w : Version) (o : Option Version) (a b : Bool) → a ≡ b → v.number ≡ w.number → cond a (Some (newer_of v o)) o ≡ cond a (Some (newer_of v (cond b (Some (newer_of w o)) o))) (cond b (Some (newer_of w o)) o)
step_tied v w o true true e h = ap (λ m. Some m) (newer_tied v w o h)
step_tied v w o true false e h = cc
step_tied v w o false true e h = cc
step_tied v w o false false e h = refl

step_swap : (v w : Version) (o : Option Version) (a b : Bool) → (a ≡ true → b ≡ true → v.number < w.number) → cond b (Some (newer_of w (cond a (Some (newer_of v o)) o))) (cond a (Some (newer_of v o)) o) ≡ cond a (Some (newer_of v (cond b (Some (newer_of w o)) o))) (cond b (Some (newer_of w o)) o)
step_swap v w o true true h = ap (λ m. Some m) (newer_swap v w o (h refl refl))
step_swap v w o true false h = refl
step_swap v w o false true h = refl
step_swap v w o false false h = refl

newest-by_order : (key : Bytes) (n : ℕ) (v w : Version) (rest : List Version) (o : Ordering) → entry_order v w ≡ o → newest key n (placed v rest) ≡ newest key n (v ∷ rest) → newest key n (by_order o (v ∷ w ∷ rest) (v ∷ rest) (w ∷ placed v rest)) ≡ newest key n (v ∷ w ∷ rest)
newest-by_order key n v w rest Less e h = refl
newest-by_order key n v w rest Equal e h = step_tied v w (newest key n rest) (is_version_of key n v) (is_version_of key n w) (tied_is_of key n v w e) (sym (tied_number v w e))
newest-by_order key n v w rest Greater e h =
    ap (step key n w) h ∙ step_swap v w (newest key n rest) (is_version_of key n v) (is_version_of key n w) (λ a b. older_number key w v (less_from_greater v w e) (is_version_of-key key n w b) (is_version_of-key key n v a))

pub newest-placed : (key : Bytes) (n : ℕ) (v : Version) (versions : List Version) → newest key n (placed v versions) ≡ newest key n (v ∷ versions)
newest-placed key n v [] = refl
newest-placed key n v (w ∷ rest) = newest-by_order key n v w rest (entry_order v w) refl (newest-placed key n v rest)

-- the same version is the newest of those in order
pub newest-in_order : (key : Bytes) (n : ℕ) (versions : List Version) → newest key n (in_order versions) ≡ newest key n versions
newest-in_order key n [] = refl
newest-in_order key n (v ∷ rest) = newest-placed key n v (in_order rest) ∙ ap (step key n v) (newest-in_order key n rest)
