-- The bytes that entries take are as many as their size says.
use Rattle.std.proofs.Common.{◌≡◌, ℕ, zero, suc, ◌+◌, ◌<◌, ◌≤◌, ◌^◌, List, [], ◌∷◌, ◌++◌, length, map, take, drop, get_or, Option, Some, None, refl, sym, ap, subst, ◌∙◌, arith}
use Rattle.std.specs.Prelude.{sum_by}
use Rattle.std.specs.List.{AllByRecursion, flat_map}
use Rattle.std.proofs.lemmas.List.{length-append, take_more, take-append-drop}
use Rattle.std.proofs.lemmas.List.Sums.{sum_by-append}
use Rattle.byteorder.specs.Endian.{big_bytes}
use Rattle.lsm_codec.specs.Keys.{Bytes}
use Rattle.lsm_codec.specs.Versions.{Version, value_length}
use Rattle.lsm_codec.specs.BatchText.{key_text}
use Rattle.lsm_codec.specs.Entries.{outcome_text, entry_text, entry_size, block_size}

pub size-append : (a b : List Version) → block_size (a ++ b) ≡ block_size a + sum_by entry_size b
size-append a b = omega (arith, sum_by-append entry_size a b)

pub size-push : (b : List Version) (v : Version) → block_size (b ++ v ∷ []) ≡ block_size b + entry_size v
size-push b v = omega (arith, size-append b (v ∷ []))

outcome_size : (o : Option Bytes) → length (outcome_text o) ≡ 3 + value_length o
outcome_size None = refl
outcome_size (Some value) = omega arith

pub text_size : (v : Version) → length (entry_text v) ≡ entry_size v
text_size v = omega (arith, length-append (key_text v.key) (big_bytes 8 v.number ++ outcome_text v.value), outcome_size v.value)

pub texts_size : (es : List Version) → length (flat_map entry_text es) ≡ sum_by entry_size es
texts_size [] = refl
texts_size (v ∷ es) = omega (arith, texts_size es, text_size v, length-append (entry_text v) (flat_map entry_text es), sum_by-append entry_size (v ∷ []) es)

many : (es : List Version) → length es ≤ sum_by entry_size es
many [] = omega arith
many (v ∷ es) = omega (arith, many es, sum_by-append entry_size (v ∷ []) es)

pub count_fits : (es : List Version) → block_size es ≤ 4096 → length es < 2 ^ 16
count_fits es le = omega (arith, many es)

pub room : (es : List Version) (i : ℕ) (v : Version) (text : List ℕ) → i < length es → v ≡ get_or es i v → block_size es ≤ 4096 → text ≡ big_bytes 2 (length es) ++ flat_map entry_text (take i es) → length text + entry_size v ≤ 4096
room es i v text lt is le written =
    let next : take (i + 1) es ≡ take i es ++ v ∷ [] = take_more es i v lt ∙ ap (λ (w : Version). take i es ++ w ∷ []) (sym is) in
    let whole : block_size es ≡ block_size (take (i + 1) es ++ drop (i + 1) es) = ap block_size (sym (take-append-drop (i + 1) es)) in
    omega (arith, le, whole, size-append (take (i + 1) es) (drop (i + 1) es), ap block_size next, size-push (take i es) v, texts_size (take i es), ap (λ (t : List ℕ). length t) written)

pub mapped_at : {X Y : Type 0} (P : Y → Type 0) (f : X → Y) (xs : List X) (i : ℕ) (x : X) → AllByRecursion P (map f xs) → i < length xs → x ≡ get_or xs i x → P (f x)
mapped_at P f [] i x all lt is = absurd (omega arith)
mapped_at P f (y ∷ xs) zero x all lt is = subst (λ z. P (f z)) (sym is) all.0
mapped_at P f (y ∷ xs) (suc i) x all lt is = mapped_at P f xs i x all.1 (omega arith) is
