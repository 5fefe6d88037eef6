-- The entries of the first key, and what comes before and after them.
use Rattle.std.proofs.Common.{◌≡◌, ◌≢◌, ◌<◌, ◌≤◌, Bool, true, false, cond, List, [], ◌∷◌, ◌++◌, length, take, drop, refl, sym, ap, ◌∙◌, arith}
use Rattle.std.specs.Prelude.{take_while}
use Rattle.std.specs.List.{AllByRecursion, prefix_len}
use Rattle.std.proofs.lemmas.List.{take_at, drop_at, take-append-drop, take-append-le, drop-append-le}
use Rattle.std.proofs.lemmas.List.Sums.{take_while-cons}
use Rattle.lsm_codec.specs.Keys.{Bytes}
use Rattle.lsm_codec.specs.Versions.{Version, is_same_key}
use Rattle.lsm_codec.proofs.KeyOrder.{same_key}
use Rattle.lsm_table.specs.Division.{first_group, ShareNoKey}

pub other_key : (a b : Bytes) → a ≢ b → is_same_key a b ≡ false
other_key a b ne = elim (is_same_key a b) as (λ (t : Bool). is_same_key a b ≡ t → is_same_key a b ≡ false) [ true ↦ λ e. absurd (ne (same_key a b e)) | false ↦ λ e. e ] refl

-- no version of the key among these
abbrev pub Lacks : Bytes → List Version → Type 0
Lacks key others = AllByRecursion (λ w. key ≢ w.key) others

none_taken : (key : Bytes) (others : List Version) → Lacks key others → take_while (λ w. is_same_key key w.key) others ≡ []
none_taken key [] lacks = refl
none_taken key (w ∷ others) lacks = take_while-cons (λ w. is_same_key key w.key) w others ∙ rw (other_key key w.key lacks.0) refl

taken_apart : (key : Bytes) (x more : List Version) → Lacks key more → take_while (λ w. is_same_key key w.key) (x ++ more) ≡ take_while (λ w. is_same_key key w.key) x
taken_apart key [] more lacks = none_taken key more lacks
taken_apart key (w ∷ x) more lacks =
    take_while-cons (λ w. is_same_key key w.key) w (x ++ more)
    ∙ ap (λ (es : List Version). cond (is_same_key key w.key) (w ∷ es) []) (taken_apart key x more lacks)
    ∙ sym (take_while-cons (λ w. is_same_key key w.key) w x)

-- the first group ends where the others have no key of these
pub first_group_apart : (x more : List Version) → 0 < length x → ShareNoKey x more → first_group (x ++ more) ≡ first_group x
first_group_apart [] more some apart = absurd (omega arith)
first_group_apart (v ∷ x) more some apart = ap (λ (es : List Version). v ∷ es) (taken_apart v.key x more apart.0)

-- what the first group leaves
pub first_group_split : (x : List Version) → (y : List Version) × (x ≡ first_group x ++ y)
first_group_split [] = ([], refl)
first_group_split (v ∷ x) =
    let n = prefix_len (λ w. is_same_key v.key w.key) x in
    (drop n x, ap (λ (es : List Version). v ∷ es) (sym (take-append-drop n x)))

pub apart-append : (a b more : List Version) → ShareNoKey (a ++ b) more → ShareNoKey b more
apart-append [] b more apart = apart
apart-append (v ∷ a) b more apart = apart-append a b more apart.1

-- two ways to part one list
pub parted : {X : Type 0} (a b c d : List X) → a ++ b ≡ c ++ d → length a ≤ length c → (x : List X) × (c ≡ a ++ x) × (b ≡ x ++ d)
parted {X} a b c d e le =
    let front : take (length a) c ≡ a = sym (take-append-le (length a) c d le) ∙ ap (λ (l : List X). take (length a) l) (sym e) ∙ take_at a b (length a) refl in
    let back : b ≡ drop (length a) c ++ d = sym (drop_at a b (length a) refl) ∙ ap (λ (l : List X). drop (length a) l) e ∙ drop-append-le (length a) c d le in
    let whole : c ≡ a ++ drop (length a) c = sym (take-append-drop (length a) c) ∙ ap (λ (l : List X). l ++ drop (length a) c) front in
    (drop (length a) c, whole, back)
