-- The deletes that delete nothing, found from the back.
use Rattle.std.proofs.Common.{◌≡◌, Bool, true, false, cond, not, ◌&&◌, ◌||◌, ltb, is_some, List, [], ◌∷◌, filter, Option, Some, None, refl, ap, sym, subst, ◌∙◌, arith}
use Rattle.std.specs.Prelude.{is_none}
use Rattle.std.specs.List.{list_any}
use Rattle.std.proofs.lemmas.Bool.{cond_both, le-ltb, lt-ltb}
use Rattle.std.specs.declared.cmp.Ordering.{Ordering}
use Rattle.std.specs.declared.cmp.Ordering.TheVariants.{Less, Equal, Greater}
use Rattle.std.specs.Ordering.{is_eq, ordering_then, ordering_reverse, nat_cmp}
use Rattle.std.proofs.lemmas.Cmp.{nat_list_cmp_total}
use Rattle.lsm_codec.specs.Keys.{Bytes, byte_order}
use Rattle.lsm_codec.specs.Versions.{Version, is_same_key, entry_order}
use Rattle.lsm_codec.proofs.KeyOrder.{key_itself, same_key}
use Rattle.lsm_merge.specs.Keeping.{is_older_put, deletes_nothing, settled}
use Rattle.lsm_merge.specs.Loops.{settled_onto, starts_with_key}
use Rattle.lsm_mem.proofs.OrderTests.{is_in_order, in_order_cons}
use Rattle.lsm_mem.proofs.Orders.{older_number, same_key-from}
use Rattle.lsm_mem.proofs.FirstLaws.{in_order_skip, first_less}

-- versions in order, settled onto those after them
abbrev pub all_settled_onto : List Version → List Version → List Version
all_settled_onto [] rest = rest
all_settled_onto (v ∷ versions) rest = settled_onto v (all_settled_onto versions rest)

abbrev pub from_the_back : List Version → List Version
from_the_back versions = all_settled_onto versions []

older_put_at : (v w : Version) (a b : Bool) → is_same_key v.key w.key ≡ a → (a ≡ true → ltb w.number v.number ≡ false) → ((a && ltb w.number v.number) && b) ≡ false
older_put_at v w true b e h = ap (λ c. c && b) (h refl)
older_put_at v w false b e h = refl

-- no later version has it as an older put
pub not_older_put : (w v : Version) → entry_order w v ≡ Less → is_older_put v w ≡ false
not_older_put w v e =
    older_put_at v w (is_same_key v.key w.key) (is_some w.value) refl
    (λ h. let older = older_number v.key w v e h (key_itself v.key) in le-ltb w.number v.number (omega arith))

agree : (w : Version) (all rest : List Version) → is_in_order (w ∷ rest) ≡ true → filter (λ v. not (deletes_nothing (w ∷ all) v)) rest ≡ filter (λ v. not (deletes_nothing all v)) rest
agree w all [] h = refl
agree w all (u ∷ rest) h =
    let test : not (deletes_nothing (w ∷ all) u) ≡ not (deletes_nothing all u) =
    ap (λ b. not (is_none u.value && not (b || list_any (is_older_put u) all))) (not_older_put w u (first_less w u rest h)) in
    ap (λ b. cond b (u ∷ filter (λ v. not (deletes_nothing (w ∷ all) v)) rest) (filter (λ v. not (deletes_nothing (w ∷ all) v)) rest)) test
    ∙ ap (λ xs. cond (not (deletes_nothing all u)) (u ∷ xs) xs) (agree w all rest (in_order_skip w u rest h))

-- each of these is of a greater key
pub data Far (w : Version) : List Version → Type 0 where
  none : Far w []
  more : (u : Version) (rest : List Version) → byte_order w.key u.key ≡ Less → Far w rest → Far w (u ∷ rest)

less_then : (a : Ordering) (b : Ordering) → ordering_then a b ≡ Less → (a ≡ Less → ⊥) → a ≡ Equal
less_then Less b e h = absurd (h refl)
less_then Equal b e h = refl
less_then Greater b e h = cc

by_key_order : (w u x : Version) → byte_order w.key u.key ≡ Less → entry_order u x ≡ Less → (o : Ordering) → byte_order u.key x.key ≡ o → byte_order w.key x.key ≡ Less
by_key_order w u x e f Less g = nat_list_cmp_total.trans w.key u.key x.key e g
by_key_order w u x e f Equal g = subst (λ k. byte_order w.key k ≡ Less) (same_key u.key x.key (ap is_eq g)) e
by_key_order w u x e f Greater g = let h : Greater ≡ Less = sym (ap (λ o. ordering_then o (nat_cmp x.number u.number)) g) ∙ f in cc

pub far_from : (w u : Version) (rest : List Version) → byte_order w.key u.key ≡ Less → is_in_order (u ∷ rest) ≡ true → Far w (u ∷ rest)
far_from w u [] e h = more u [] e none
far_from w u (x ∷ rest) e h =
    let g = by_key_order w u x e (first_less u x rest h) (byte_order u.key x.key) refl in
    more u (x ∷ rest) e (far_from w x rest g (in_order_cons u (x ∷ rest) h).1)

far_any : (w : Version) (rest : List Version) → Far w rest → list_any (is_older_put w) rest ≡ false
far_any w [] none = refl
far_any w (u ∷ rest) (more _ _ e f) =
    ap (λ o. ((is_eq o && ltb u.number w.number) && is_some u.value) || list_any (is_older_put w) rest) e ∙ far_any w rest f

far_key : (w u : Version) → byte_order w.key u.key ≡ Less → is_same_key u.key w.key ≡ false
far_key w u e = ap is_eq (nat_list_cmp_total.antisymm u.key w.key ∙ ap ordering_reverse e)

far_start : (w : Version) (rest : List Version) → Far w rest → starts_with_key w.key (from_the_back rest) ≡ false
far_start w [] none = refl
far_start w (u ∷ rest) (more _ _ e f) =
    cond_both (is_none u.value && not (starts_with_key u.key (from_the_back rest))) (from_the_back rest) (u ∷ from_the_back rest) (λ xs. starts_with_key w.key xs ≡ false)
    (λ _. far_start w rest f)
    (λ _. far_key w u e)

start_at : (w u : Version) (put : Option Bytes) (later : List Version) (b : Bool) → is_same_key u.key w.key ≡ true → starts_with_key u.key later ≡ b → starts_with_key w.key later ≡ b → (is_some put || b) ≡ starts_with_key w.key (cond (is_none put && not b) later (u ∷ later))
start_at w u None later true e f g = sym e
start_at w u None later false e f g = sym g
start_at w u (Some value) later b e f g = sym e

any_at : (w u : Version) (rest : List Version) → is_in_order (w ∷ u ∷ rest) ≡ true → list_any (is_older_put w) rest ≡ starts_with_key w.key (from_the_back rest) → (o : Ordering) → byte_order w.key u.key ≡ o → list_any (is_older_put w) (u ∷ rest) ≡ starts_with_key w.key (from_the_back (u ∷ rest))
any_at w u rest h k Less e =
    let far = far_from w u rest e (in_order_cons w (u ∷ rest) h).1 in
    far_any w (u ∷ rest) far ∙ sym (far_start w (u ∷ rest) far)
any_at w u rest h k Equal e =
    let same : w.key ≡ u.key = same_key w.key u.key (ap is_eq e) in
    let older = older_number w.key w u (first_less w u rest h) (key_itself w.key) (ap is_eq e) in
    let put : is_older_put w u ≡ is_some u.value = ap (λ b. (b && ltb u.number w.number) && is_some u.value) (ap is_eq e) ∙ ap (λ b. b && is_some u.value) (lt-ltb u.number w.number older) in
    let later = from_the_back rest in
    let start : starts_with_key u.key later ≡ starts_with_key w.key later = ap (λ x. starts_with_key x later) (sym same) in
    ap (λ b. b || list_any (is_older_put w) rest) put ∙ ap (λ b. is_some u.value || b) k
    ∙ start_at w u u.value later (starts_with_key w.key later) (same_key-from u.key w.key (sym same)) start refl
    ∙ ap (λ b. starts_with_key w.key (cond (is_none u.value && not b) later (u ∷ later))) (sym start)
any_at w u rest h k Greater e = let f : Greater ≡ Less = sym (ap (λ o. ordering_then o (nat_cmp u.number w.number)) e) ∙ first_less w u rest h in cc

-- an older put is there exactly where what follows, settled, starts with the key
pub any_is_start : (w : Version) (rest : List Version) → is_in_order (w ∷ rest) ≡ true → list_any (is_older_put w) rest ≡ starts_with_key w.key (from_the_back rest)
any_is_start w [] h = refl
any_is_start w (u ∷ rest) h = any_at w u rest h (any_is_start w rest (in_order_skip w u rest h)) (byte_order w.key u.key) refl

pub turned : {A : Type 0} (b : Bool) (x y : A) → cond (not b) x y ≡ cond b y x
turned true x y = refl
turned false x y = refl

not_older_itself : (w : Version) (a b : Bool) → ((a && ltb w.number w.number) && b) ≡ false
not_older_itself w true b = ap (λ c. c && b) (le-ltb w.number w.number (omega arith))
not_older_itself w false b = refl

pub settled-from_the_back : (versions : List Version) → is_in_order versions ≡ true → settled versions ≡ from_the_back versions
settled-from_the_back [] h = refl
settled-from_the_back (w ∷ rest) h =
    let same : filter (λ v. not (deletes_nothing (w ∷ rest) v)) rest ≡ from_the_back rest = agree w rest rest h ∙ settled-from_the_back rest (in_order_cons w rest h).1 in
    let test : deletes_nothing (w ∷ rest) w ≡ (is_none w.value && not (starts_with_key w.key (from_the_back rest))) =
    ap (λ b. is_none w.value && not (b || list_any (is_older_put w) rest)) (not_older_itself w (is_same_key w.key w.key) (is_some w.value))
    ∙ ap (λ b. is_none w.value && not b) (any_is_start w rest h) in
    ap (λ xs. cond (not (deletes_nothing (w ∷ rest) w)) (w ∷ xs) xs) same
    ∙ turned (deletes_nothing (w ∷ rest) w) (w ∷ from_the_back rest) (from_the_back rest)
    ∙ ap (λ b. cond b (from_the_back rest) (w ∷ from_the_back rest)) test
