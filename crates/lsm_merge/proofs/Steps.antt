-- Steps of the loops over references.
use Rattle.std.proofs.Common.{add-one, Some, None, ◌≡◌, ℕ, ◌+◌, ◌<◌, ◌≤◌, Bool, true, false, cond, ◌&&◌, not, List, [], ◌∷◌, ◌++◌, length, get_or, take, filter, append-nil, refl, ap, sym, ◌∙◌, arith}
use Rattle.std.specs.Prelude.{Option, reverse, is_none}
use Rattle.std.specs.List.{list_any}
use Rattle.std.proofs.lemmas.Bool.{cond-true}
use Rattle.std.proofs.lemmas.List.{length-map, map-append, get_or-map, take_all, reverse-append}
use Rattle.std.proofs.lemmas.List.Elements.{filter_more}
use denote.Ref.{Bor}
use Rattle.lsm_codec.specs.Versions.{AreOrdered, Version, is_same_key}
use Rattle.lsm_merge.specs.Keeping.{is_newest_at_a_cut, settled}
use Rattle.lsm_merge.specs.Loops.{shows_at, number_before, previous, settled_onto, starts_with_key, shown}
use Rattle.lsm_mem.proofs.OrderTests.{tested}
use Rattle.lsm_merge.proofs.KeptLaws.{newest_at_a_cut}
use Rattle.lsm_merge.proofs.SettledLaws.{settled-from_the_back, all_settled_onto}

pub filter_skip : (test : Version → Bool) (versions : List Version) (i : ℕ) → i < length versions → ((d : Version) → false ≡ test (get_or versions i d)) → filter test (take (i + 1) versions) ≡ filter test (take i versions)
filter_skip test [] i h e = absurd (omega arith)
filter_skip test (v ∷ rest) i h e =
    filter_more test (v ∷ rest) i v h ∙ ap (λ b. filter test (take i (v ∷ rest)) ++ cond b (get_or (v ∷ rest) i v ∷ []) []) (sym (e v)) ∙ append-nil _

pub filter_take : (test : Version → Bool) (versions : List Version) (i : ℕ) (x : Version) → i < length versions → x ≡ get_or versions i x → true ≡ test x → filter test (take (i + 1) versions) ≡ filter test (take i versions) ++ x ∷ []
filter_take test versions i x h k e =
    filter_more test versions i x h ∙ ap (λ y. filter test (take i versions) ++ cond (test y) (y ∷ []) []) (sym k) ∙ ap (λ b. filter test (take i versions) ++ cond b (x ∷ []) []) (sym e)

pub shown_at : (entries : List (Bor Version)) (i : ℕ) (x : Bor Version) (d : Version) → i < length entries → x ≡ get_or entries i x → get_or (shown entries) i d ≡ x.now
shown_at entries i x d h e = get_or-map (λ z. z.now) entries i x d h ∙ ap (λ z. z.now) (sym e)

pub shown_push : (entries : List (Bor Version)) (x : Bor Version) → shown (entries ++ x ∷ []) ≡ shown entries ++ x.now ∷ []
shown_push entries x = map-append (λ z. z.now) entries (x ∷ [])

pub shown_within : (entries : List (Bor Version)) (i : ℕ) → i < length entries → i < length (shown entries)
shown_within entries i h = simp length-map h

pub number_before_is : (versions : List (Bor Version)) (i j : ℕ) (x w : Bor Version) (n : ℕ) (d : Version) → i ≡ j + 1 → i < length versions → x ≡ get_or versions i x → w ≡ get_or versions j w → is_same_key x.now.key w.now.key ≡ true → n ≡ w.now.number → Some n ≡ number_before (get_or (shown versions) i d) (previous (shown versions) i d)
number_before_is versions i j x w n d step lt is_x is_w same is_n =
    let before : Some w.now ≡ previous (shown versions) i d =
    ap (λ (v : Version). Some v) (sym (shown_at versions j w d (omega arith) is_w)) ∙ ap (λ (k : ℕ). previous (shown versions) k d) (sym (add-one j) ∙ sym step) in
    ap (λ (m : ℕ). Some m) is_n
    ∙ sym (cond-true (is_same_key x.now.key w.now.key) (Some w.now.number) None same)
    ∙ ap (λ (v : Version). number_before v (Some w.now)) (sym (shown_at versions i x d lt is_x))
    ∙ ap (number_before (get_or (shown versions) i d)) before

pub newest_at_index : (versions : List (Bor Version)) (cuts : List ℕ) (i : ℕ) (x : Bor Version) (number : ℕ) (above : Option ℕ) (b : Bool) (d : Version) → number ≡ x.now.number → AreOrdered (shown versions) → i < length versions → x ≡ get_or versions i x → above ≡ number_before (get_or (shown versions) i d) (previous (shown versions) i d) → b ≡ list_any (λ n. shows_at n number above) cuts → b ≡ is_newest_at_a_cut cuts (shown versions) (get_or (shown versions) i d)
newest_at_index versions cuts i x number above b d s h l e f g =
    g ∙ ap (λ m. list_any (λ n. shows_at n m above) cuts) s ∙ ap (λ v. list_any (λ n. shows_at n v.number above) cuts) (sym (shown_at versions i x d l e))
    ∙ ap (λ o. list_any (λ n. shows_at n (get_or (shown versions) i d).number o) cuts) f
    ∙ newest_at_a_cut cuts (shown versions) i d (tested (shown versions) h) (shown_within versions i l)

pub kept_take : (test : Version → Bool) (versions kept : List (Bor Version)) (i : ℕ) (x : Bor Version) (b : Bool) → shown kept ≡ filter test (take i (shown versions)) → i < length versions → x ≡ get_or versions i x → b ≡ true → ((d : Version) → b ≡ test (get_or (shown versions) i d)) → shown (kept ++ x ∷ []) ≡ filter test (take (i + 1) (shown versions))
kept_take test versions kept i x b so h e t f =
    let at = shown_at versions i x x.now h e in
    shown_push kept x ∙ ap (λ z. z ++ x.now ∷ []) so ∙ sym (filter_take test (shown versions) i x.now (shown_within versions i h) (sym at) (sym t ∙ f x.now ∙ ap test at))

pub kept_skip : (test : Version → Bool) (versions kept : List (Bor Version)) (i : ℕ) (b : Bool) → shown kept ≡ filter test (take i (shown versions)) → i < length versions → b ≡ false → ((d : Version) → b ≡ test (get_or (shown versions) i d)) → shown kept ≡ filter test (take (i + 1) (shown versions))
kept_skip test versions kept i b so h t f = so ∙ sym (filter_skip test (shown versions) i (shown_within versions i h) (λ d. sym t ∙ f d))

pub kept_all : (test : Version → Bool) (versions kept : List (Bor Version)) (i : ℕ) → shown kept ≡ filter test (take i (shown versions)) → length versions ≤ i → shown kept ≡ filter test (shown versions)
kept_all test versions kept i so h = so ∙ ap (filter test) (take_all i (shown versions) (simp length-map h))

all_settled_onto-push : (versions rest : List Version) (v : Version) → all_settled_onto (versions ++ v ∷ []) rest ≡ all_settled_onto versions (settled_onto v rest)
all_settled_onto-push [] rest v = refl
all_settled_onto-push (w ∷ versions) rest v = ap (settled_onto w) (all_settled_onto-push versions rest v)

-- the entry in hand goes in front of the later ones, or not
pub settle_more : (kept : List (Bor Version)) (x : Bor Version) (b : Bool) → b ≡ (is_none x.now.value && not (starts_with_key x.now.key (reverse (shown kept)))) → b ≡ false → reverse (shown (kept ++ x ∷ [])) ≡ settled_onto x.now (reverse (shown kept))
settle_more kept x b e f =
    ap reverse (shown_push kept x) ∙ reverse-append (shown kept) (x.now ∷ [])
    ∙ ap (λ c. cond c (reverse (shown kept)) (x.now ∷ reverse (shown kept))) (sym f ∙ e)

pub settle_less : (kept : List (Bor Version)) (x : Bor Version) (b : Bool) → b ≡ (is_none x.now.value && not (starts_with_key x.now.key (reverse (shown kept)))) → b ≡ true → reverse (shown kept) ≡ settled_onto x.now (reverse (shown kept))
settle_less kept x b e f = ap (λ c. cond c (reverse (shown kept)) (x.now ∷ reverse (shown kept))) (sym f ∙ e)

pub settled_step : (all versions kept after : List (Bor Version)) (x : Bor Version) → all ≡ versions ++ x ∷ [] → reverse (shown after) ≡ settled_onto x.now (reverse (shown kept)) → all_settled_onto (shown versions) (reverse (shown after)) ≡ all_settled_onto (shown all) (reverse (shown kept))
settled_step all versions kept after x h e =
    ap (all_settled_onto (shown versions)) e
    ∙ sym (all_settled_onto-push (shown versions) (reverse (shown kept)) x.now)
    ∙ ap (λ z. all_settled_onto z (reverse (shown kept))) (sym (shown_push versions x))
    ∙ ap (λ z. all_settled_onto (shown z) (reverse (shown kept))) (sym h)

reverse_shown : (entries : List (Bor Version)) → shown (reverse entries) ≡ reverse (shown entries)
reverse_shown [] = refl
reverse_shown (x ∷ rest) =
    ap shown (reverse-append (x ∷ []) rest) ∙ map-append (λ z. z.now) (reverse rest) (x ∷ []) ∙ ap (λ z. z ++ x.now ∷ []) (reverse_shown rest) ∙ sym (reverse-append (x.now ∷ []) (shown rest))

pub settled_all : (initial versions kept reversed : List (Bor Version)) → AreOrdered (shown initial) → all_settled_onto (shown versions) (reverse (shown kept)) ≡ all_settled_onto (shown initial) [] → length versions ≡ 0 → reversed ≡ reverse kept → shown reversed ≡ settled (shown initial)
settled_all initial [] kept reversed h so e f =
    ap shown f ∙ reverse_shown kept ∙ so ∙ sym (settled-from_the_back (shown initial) (tested (shown initial) h))
settled_all initial (v ∷ rest) kept reversed h so e f = absurd (omega arith)
