-- When two inputs are the same.
use Rattle.std.proofs.Common.{◌≡◌, ℕ, zero, suc, ◌+◌, ◌<◌, ◌≤◌, Bool, true, false, IsTrue, List, [], ◌∷◌, ◌++◌, length, get_or, take, Option, Some, refl, ap, sym, ◌∙◌, arith}
use Rattle.std.proofs.lemmas.Bool.{false≢true}
use Rattle.std.proofs.lemmas.List.{take_more, take_all, get_or-map, length-map}
use Rattle.std.specs.declared.vec.Vec.{Vec}
use Rattle.lsm_codec.specs.Keys.{Bytes}
use Rattle.lsm_codec.specs.Versions.{Version, is_same_key}
use Rattle.lsm_codec.proofs.KeyOrder.{same_key}
use Rattle.lsm_merge.specs.Inputs.{MergeInput, items_of}
use Rattle.lsm_mem.proofs.Orders.{same_key-from}
use Rattle.lsm_mem.proofs.FirstLaws.{unsome}

-- r is true exactly where a and b are the same
abbrev pub Tells : {X : Type 0} → Bool → X → X → Type 0
Tells r a b = (IsTrue r → a ≡ b) × (a ≡ b → IsTrue r)

pub bytes_told : (a b : List ℕ) (r : Bool) → r ≡ is_same_key a b → Tells r a b
bytes_told a b r e = (λ t. same_key a b (sym e ∙ t), λ same. e ∙ same_key-from a b same)

pub some_told : (a b : Bytes) (r : Bool) → Tells r a b → Tells r (Some a) (Some b)
some_told a b r t = (λ is. ap (λ (x : Bytes). Some x) (t.0 is), λ same. t.1 (unsome a b same))

version_is : (v w : Version) → v.key ≡ w.key → v.number ≡ w.number → v.value ≡ w.value → v ≡ w
version_is v w key number value =
    ap (λ (k : Bytes). record { key = k; number = v.number; value = v.value }) key
    ∙ ap (λ (n : ℕ). record { key = w.key; number = n; value = v.value }) number
    ∙ ap (λ (o : Option Bytes). record { key = w.key; number = w.number; value = o }) value

pub version_told : (v w : Version) (r : Bool) → v.number ≡ w.number → v.key ≡ w.key → Tells r v.value w.value → Tells r v w
version_told v w r number key t = (λ is. version_is v w key number (t.0 is), λ same. t.1 (ap (λ (x : Version). x.value) same))

pub other_key : (v w : Version) (r : Bool) → Tells r v.key w.key → r ≡ false → Tells false v w
other_key v w r t is = (λ no. absurd (false≢true no), λ same. sym is ∙ t.1 (ap (λ (x : Version). x.key) same))

pub other_number : (v w : Version) → (v.number ≡ w.number → ⊥) → Tells false v w
other_number v w other = (λ no. absurd (false≢true no), λ same. absurd (other (ap (λ (x : Version). x.number) same)))

module _ {X : Type 0} where
  any_default : (xs : List X) (i : ℕ) (d e : X) → i < length xs → get_or xs i d ≡ get_or xs i e
  any_default [] i d e h = absurd (omega arith)
  any_default (x ∷ xs) zero d e h = refl
  any_default (x ∷ xs) (suc i) d e h = any_default xs i d e (omega arith)

  pub one_more : (xs ys : List X) (i : ℕ) (x y : X) → take i xs ≡ take i ys → i < length xs → length xs ≡ length ys → x ≡ get_or xs i x → y ≡ get_or ys i y → x ≡ y → take (i + 1) xs ≡ take (i + 1) ys
  one_more xs ys i x y so below long at there same =
      take_more xs i x below ∙ ap (λ (z : X). take i xs ++ z ∷ []) (sym at ∙ same ∙ there) ∙ ap (λ (l : List X). l ++ get_or ys i y ∷ []) so ∙ sym (take_more ys i y (rw (← long) below))

  pub all_told : (xs ys : List X) (i : ℕ) → take i xs ≡ take i ys → length xs ≤ i → length xs ≡ length ys → Tells true xs ys
  all_told xs ys i so end long = (λ t. sym (take_all i xs end) ∙ so ∙ take_all i ys (rw (← long) end), λ same. refl)

  pub one_differs : (xs ys : List X) (i : ℕ) (x y : X) (r : Bool) → i < length xs → length xs ≡ length ys → x ≡ get_or xs i x → y ≡ get_or ys i y → Tells r x y → r ≡ false → Tells false xs ys
  one_differs xs ys i x y r below long at there t is =
      (λ no. absurd (false≢true no), λ same. sym is ∙ t.1 (at ∙ ap (λ (l : List X). get_or l i x) same ∙ any_default ys i x y (rw (← long) below) ∙ sym there))

  pub other_length : (xs ys : List X) → (length xs ≡ length ys → ⊥) → Tells false xs ys
  other_length xs ys other = (λ no. absurd (false≢true no), λ same. absurd (other (ap (λ (l : List X). length l) same)))

pub items_at : {X Z : Type 0} (vectors : List (Vec X Z)) (i : ℕ) (v : Vec X Z) → i < length vectors → v ≡ get_or vectors i v → v.items ≡ get_or (items_of vectors) i v.items
items_at vectors i v below at = sym (get_or-map (λ z. z.items) vectors i v v.items below ∙ ap (λ z. z.items) (sym at))

items_within : {X Z : Type 0} (vectors : List (Vec X Z)) (i : ℕ) → i < length vectors → i < length (items_of vectors)
items_within vectors i h = simp length-map h

items_length : {X Z : Type 0} (vectors others : List (Vec X Z)) → length vectors ≡ length others → length (items_of vectors) ≡ length (items_of others)
items_length vectors others h = simp length-map h

module _ {Z : Type 0} where
  pub run_differs : (vs ws : List (Vec Version Z)) (i : ℕ) (v w : Vec Version Z) (a b : List Version) (r : Bool) → i < length vs → length vs ≡ length ws → v ≡ get_or vs i v → w ≡ get_or ws i w → a ≡ v.items → b ≡ w.items → Tells r a b → r ≡ false → Tells false (items_of vs) (items_of ws)
  run_differs vs ws i v w a b r below long at there left right t is =
      one_differs (items_of vs) (items_of ws) i v.items w.items r (items_within vs i below) (items_length vs ws long) (items_at vs i v below at) (items_at ws i w (rw (← long) below) there) (rw (← left, ← right) t) is

  pub run_more : (vs ws : List (Vec Version Z)) (i : ℕ) (v w : Vec Version Z) (a b : List Version) (r : Bool) → take i (items_of vs) ≡ take i (items_of ws) → i < length vs → length vs ≡ length ws → v ≡ get_or vs i v → w ≡ get_or ws i w → a ≡ v.items → b ≡ w.items → Tells r a b → r ≡ true → take (i + 1) (items_of vs) ≡ take (i + 1) (items_of ws)
  run_more vs ws i v w a b r so below long at there left right t is =
      one_more (items_of vs) (items_of ws) i v.items w.items so (items_within vs i below) (items_length vs ws long) (items_at vs i v below at) (items_at ws i w (rw (← long) below) there) (sym left ∙ t.0 is ∙ right)

input_is : (v w : MergeInput) → v.runs ≡ w.runs → v.cuts ≡ w.cuts → v.bottom ≡ w.bottom → v ≡ w
input_is v w runs cuts bottom =
    ap (λ (r : List (List Version)). record { runs = r; cuts = v.cuts; bottom = v.bottom }) runs
    ∙ ap (λ (c : List ℕ). record { runs = w.runs; cuts = c; bottom = v.bottom }) cuts
    ∙ ap (λ (b : Bool). record { runs = w.runs; cuts = w.cuts; bottom = b }) bottom

pub other_flag : (v w : MergeInput) (r : Bool) → Tells r v.bottom w.bottom → r ≡ false → Tells false v w
other_flag v w r t is = (λ no. absurd (false≢true no), λ same. sym is ∙ t.1 (ap (λ (x : MergeInput). x.bottom) same))

pub other_cuts : (v w : MergeInput) (r : Bool) → Tells r v.cuts w.cuts → r ≡ false → Tells false v w
other_cuts v w r t is = (λ no. absurd (false≢true no), λ same. sym is ∙ t.1 (ap (λ (x : MergeInput). x.cuts) same))

pub input_told : (v w : MergeInput) (flags cuts r : Bool) → Tells flags v.bottom w.bottom → flags ≡ true → Tells cuts v.cuts w.cuts → cuts ≡ true → Tells r v.runs w.runs → Tells r v w
input_told v w flags cuts r f is c are t = (λ same. input_is v w (t.0 same) (c.0 are) (f.0 is), λ same. t.1 (ap (λ (x : MergeInput). x.runs) same))
