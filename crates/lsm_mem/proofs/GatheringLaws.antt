-- How a page is built, version by version.
use Rattle.std.proofs.Common.{◌≡◌, ◌⊎◌, inl, inr, ⊎_elim, ℕ, ◌<◌, ◌≤◌, Bool, true, false, cond, ◌&&◌, leb, ltb, List, [], ◌∷◌, ◌++◌, length, Option, Some, None, IfSome, option_map, option_and_then, refl, ap, sym, subst, ◌∙◌, arith}
use Rattle.std.specs.Prelude.{T}
use Rattle.std.specs.List.{AllByRecursion}
use Rattle.std.specs.declared.cmp.Ordering.{Ordering}
use Rattle.std.specs.declared.cmp.Ordering.TheVariants.{Less, Equal, Greater}
use Rattle.std.specs.Ordering.{is_eq, is_lt, nat_cmp, ordering_then}
use Rattle.std.specs.Cmp.Lexicographic.{nat_list_cmp_total}
use Rattle.std.specs.FinMap.{entries, find, is_sorted, entries_sorted, get-entries}
use Rattle.std.specs.FinMap.Entries.{where_key, below_all, is_sorted-where_key, find-where_key, same_entries}
use Rattle.std.proofs.lemmas.Bool.{le-leb, lt-leb, lt-ltb, le-ltb}
use Rattle.std.proofs.lemmas.Cmp.{ranked}
use Rattle.std.proofs.lemmas.List.{append_assoc}
use Rattle.lsm_codec.specs.Keys.{Bytes, byte_order}
use Rattle.lsm_codec.specs.Versions.{Version, is_same_key, is_version_of, newer_of, newest, entry_order}
use Rattle.lsm_mem.specs.Versions.{value_at, map_of}
use Rattle.lsm_mem.specs.Paging.{is_before, first_page}
use Rattle.lsm_mem.specs.Gathering.{Gathering, is_behind, pairs_to_come, page_with, page_so_far, IsFirst, with_deleted, with_row, with_next, last_key}
use Rattle.lsm_codec.proofs.KeyOrder.{same_keys, same_key, key_itself, is_lt_Less, above, below_both, less_greater}
use Rattle.lsm_mem.proofs.HistoryLaws.{last-push}
use Rattle.lsm_mem.proofs.Maps.{get-map_of}
use Rattle.lsm_mem.proofs.Paged.{not_below, whole_page, made}

-- ---- in the order of entries

no : true ≡ false → ⊥
no e = cc

-- what comes after a version has a greater key, or the same key and a lesser number
pub behind_cases : (v w : Version) → entry_order v w ≡ Less → (byte_order v.key w.key ≡ Less) ⊎ ((v.key ≡ w.key) × (w.number < v.number))
behind_cases v w h = by (byte_order v.key w.key) refl h
  where
    by : (r : Ordering) → byte_order v.key w.key ≡ r → ordering_then r (nat_cmp w.number v.number) ≡ Less → (byte_order v.key w.key ≡ Less) ⊎ ((v.key ≡ w.key) × (w.number < v.number))
    by Less e k = inl e
    by Equal e k = inr (same_keys v.key w.key e, ranked w.number v.number Less (sym k))
    by Greater e k = absurd (let other : Greater ≡ Less = k in cc)

-- a key below a version's is below all others'
pub below_other : (q : Bytes) (v w : Version) → byte_order q v.key ≡ Less → entry_order v w ≡ Less → byte_order q w.key ≡ Less
below_other q v w h k = ⊎_elim (λ (l : byte_order v.key w.key ≡ Less). below_both q v.key w.key h l) (λ (s : (v.key ≡ w.key) × (w.number < v.number)). subst (λ (key : Bytes). byte_order q key ≡ Less) s.0 h) (behind_cases v w k)

-- of the same key it is older
older_behind : (v w : Version) → entry_order v w ≡ Less → is_same_key v.key w.key ≡ true → w.number < v.number
older_behind v w h same = ⊎_elim (λ (l : byte_order v.key w.key ≡ Less). absurd (no (sym same ∙ ap is_eq l))) (λ (s : (v.key ≡ w.key) × (w.number < v.number)). s.1) (behind_cases v w h)

-- ---- the newest version

-- what holds of each version of a key holds of the newest
newest_all : (q : Bytes) (n : ℕ) (P : Version → Type 0) (vs : List Version) → AllByRecursion (λ w. is_same_key q w.key ≡ true → P w) vs → IfSome (newest q n vs) P
newest_all q n P [] h = tt
newest_all q n P (w ∷ vs) h = by (newest q n vs) (newest_all q n P vs h.1) (is_same_key q w.key) (leb w.number n) refl
  where
    pick : (u : Version) → P u → P w → (b : Bool) → P (cond b u w)
    pick u k p true = k
    pick u k p false = p

    chosen : (o : Option Version) → IfSome o P → P w → P (newer_of w o)
    chosen None k p = p
    chosen (Some u) k p = pick u k p (ltb w.number u.number)

    by : (o : Option Version) → IfSome o P → (a b : Bool) → is_same_key q w.key ≡ a → IfSome (cond (a && b) (Some (newer_of w o)) o) P
    by o k true true e = chosen o k (h.0 e)
    by o k true false e = k
    by o k false b e = k

-- a version of another key, or with a greater number, changes nothing
newest_without : (q : Bytes) (n : ℕ) (newer : List Version) (v : Version) (older : List Version) → is_version_of q n v ≡ false → newest q n (newer ++ v ∷ older) ≡ newest q n (newer ++ older)
newest_without q n [] v older e = ap (λ b. cond b (Some (newer_of v (newest q n older))) (newest q n older)) e
newest_without q n (w ∷ newer) v older e = ap (λ o. cond (is_version_of q n w) (Some (newer_of w o)) o) (newest_without q n newer v older e)

newest_below : (q : Bytes) (n : ℕ) (vs : List Version) → AllByRecursion (λ w. byte_order q w.key ≡ Less) vs → newest q n vs ≡ None
newest_below q n [] h = refl
newest_below q n (w ∷ vs) h = ap (λ r. cond (is_eq r && leb w.number n) (Some (newer_of w (newest q n vs))) (newest q n vs)) h.0 ∙ newest_below q n vs h.1

-- the first of all is the newest of its key
newest_is_first : (n : ℕ) (newer : List Version) (v : Version) (older : List Version) → v.number ≤ n → IsFirst v (newer ++ older) → newest v.key n (newer ++ v ∷ older) ≡ Some v
newest_is_first n [] v older le h =
    ap (λ b. cond (b && leb v.number n) (Some (newer_of v (newest v.key n older))) (newest v.key n older)) (key_itself v.key)
    ∙ ap (λ b. cond b (Some (newer_of v (newest v.key n older))) (newest v.key n older)) (le-leb v.number n le)
    ∙ ap Some (stays (newest v.key n older) (newest_all v.key n (λ w. w.number < v.number) older (later older h)))
  where
    later : (ws : List Version) → IsFirst v ws → AllByRecursion (λ w. is_same_key v.key w.key ≡ true → w.number < v.number) ws
    later [] k = tt
    later (w ∷ ws) k = (older_behind v w k.0, later ws k.1)

    stays : (o : Option Version) → IfSome o (λ w. w.number < v.number) → newer_of v o ≡ v
    stays None k = refl
    stays (Some w) k = ap (λ b. cond b w v) (le-ltb v.number w.number (omega (arith, k)))
newest_is_first n (w ∷ newer) v older le h =
    ap (λ o. cond (is_version_of v.key n w) (Some (newer_of w o)) o) (newest_is_first n newer v older le h.1)
    ∙ by (is_same_key v.key w.key) (leb w.number n) refl
  where
    by : (a b : Bool) → is_same_key v.key w.key ≡ a → cond (a && b) (Some (newer_of w (Some v))) (Some v) ≡ Some v
    by true true e = ap (λ c. Some (cond c v w)) (lt-ltb w.number v.number (older_behind v w h.0 e))
    by true false e = refl
    by false b e = refl

-- ---- what comes, key by key

abbrev pub wanted : Gathering → Bytes → Bool
wanted g q = is_behind g.decided q && is_before g.to q

pub come_sorted : (g : Gathering) (left : List Version) → T (is_sorted byte_order (pairs_to_come g left))
come_sorted g left = is_sorted-where_key byte_order (wanted g) (entries (map_of left g.at)) (entries_sorted (map_of left g.at))

pub come_find : (g : Gathering) (left : List Version) (q : Bytes) → find byte_order q (pairs_to_come g left) ≡ cond (wanted g q) (value_at left g.at q) None
come_find g left q =
    find-where_key byte_order (wanted g) q (λ x e. ap (wanted g) (sym (same_keys q x e))) (entries (map_of left g.at))
    ∙ ap (λ (o : Option Bytes). cond (wanted g q) o None) (sym (get-entries (map_of left g.at) q) ∙ get-map_of left g.at q)

pub same_pairs : (ps qs : List (Bytes × Bytes)) → T (is_sorted byte_order ps) → T (is_sorted byte_order qs) → ((q : Bytes) → find byte_order q ps ≡ find byte_order q qs) → ps ≡ qs
same_pairs ps qs a b h = same_entries byte_order nat_list_cmp_total same_keys ps qs a b h

-- none is found
unwanted : (b : Bool) (o : Option Bytes) → b ≡ false → cond b o None ≡ None
unwanted b o e = ap (λ (c : Bool). cond c o None) e

both_none : (b : Bool) → cond {A = Option Bytes} b None None ≡ None
both_none true = refl
both_none false = refl

and_both : (a b : Bool) → (a && b) ≡ true → (a ≡ true) × (b ≡ true)
and_both true b e = (refl, e)
and_both false b e = absurd (no (sym e))

and_second : (a b : Bool) → b ≡ false → (a && b) ≡ false
and_second true b e = e
and_second false b e = refl

-- where the newest versions of the wanted keys stay, so do the pairs to come
same_come : (g : Gathering) (xs ys : List Version) → ((q : Bytes) → wanted g q ≡ true → newest q g.at xs ≡ newest q g.at ys) → pairs_to_come g xs ≡ pairs_to_come g ys
same_come g xs ys h = same_pairs (pairs_to_come g xs) (pairs_to_come g ys) (come_sorted g xs) (come_sorted g ys) (λ q. come_find g xs q ∙ by q (wanted g q) refl ∙ sym (come_find g ys q))
  where
    by : (q : Bytes) (b : Bool) → wanted g q ≡ b → cond b (value_at xs g.at q) None ≡ cond b (value_at ys g.at q) None
    by q true e = ap (option_and_then (λ v. v.value)) (h q e)
    by q false e = refl

-- a version that is numbered too high, or of a key that is decided, changes nothing
pub passed_over : (g : Gathering) (newer : List Version) (v : Version) (older : List Version) → (g.at < v.number) ⊎ (is_behind g.decided v.key ≡ false) → pairs_to_come g (newer ++ older) ≡ pairs_to_come g (newer ++ v ∷ older)
passed_over g newer v older h = same_come g (newer ++ older) (newer ++ v ∷ older) (λ q w. sym (newest_without q g.at newer v older (by q w (is_same_key q v.key) refl h)))
  where
    by : (q : Bytes) → wanted g q ≡ true → (b : Bool) → is_same_key q v.key ≡ b → (g.at < v.number) ⊎ (is_behind g.decided v.key ≡ false) → (b && leb v.number g.at) ≡ false
    by q w false e k = refl
    by q w true e (inl high) = lt-leb v.number g.at high
    by q w true e (inr done) = absurd (no (sym (subst (λ (key : Bytes). is_behind g.decided key ≡ true) (same_key q v.key e) (and_both (is_behind g.decided q) (is_before g.to q) w).0) ∙ done))

-- ---- a key is decided

module _ (g : Gathering) (newer : List Version) (v : Version) (older : List Version) (h : IsFirst v (newer ++ older)) where
  abbrev all : List Version
  all = newer ++ v ∷ older

  abbrev after : Gathering
  after = with_deleted v.key g

  whole : (q : Bytes) → byte_order q v.key ≡ Less → AllByRecursion (λ w. byte_order q w.key ≡ Less) all
  whole q lt = go newer h
    where
      rest : (ws : List Version) → IsFirst v ws → AllByRecursion (λ w. byte_order q w.key ≡ Less) ws
      rest [] k = tt
      rest (w ∷ ws) k = (below_other q v w lt k.0, rest ws k.1)

      go : (ws : List Version) → IsFirst v (ws ++ older) → AllByRecursion (λ w. byte_order q w.key ≡ Less) (ws ++ v ∷ older)
      go [] k = (lt, rest older k)
      go (w ∷ ws) k = (below_other q v w lt k.0, go ws k.1)

  -- no key before it has a pair
  pub before_first : (q : Bytes) → byte_order v.key q ≡ Greater → find byte_order q (pairs_to_come g all) ≡ None
  before_first q r = come_find g all q ∙ ap (λ (o : Option Version). cond (wanted g q) (option_and_then (λ v. v.value) o) None) (newest_below q g.at all (whole q (above v.key q r))) ∙ both_none (wanted g q)

  after_none : (q : Bytes) → is_lt (byte_order v.key q) ≡ false → find byte_order q (pairs_to_come after (newer ++ older)) ≡ None
  after_none q r = come_find after (newer ++ older) q ∙ ap (λ (b : Bool). cond (b && is_before g.to q) (value_at (newer ++ older) g.at q) None) r

  module _ (le : v.number ≤ g.at) (next : is_behind g.decided v.key ≡ true) where
    at_key : find byte_order v.key (pairs_to_come g all) ≡ cond (is_before g.to v.key) v.value None
    at_key =
        come_find g all v.key
        ∙ ap (λ (b : Bool). cond (b && is_before g.to v.key) (value_at all g.at v.key) None) next
        ∙ ap (λ (o : Option Version). cond (is_before g.to v.key) (option_and_then (λ v. v.value) o) None) (newest_is_first g.at newer v older le h)

    still_behind : (d : Option Bytes) (q : Bytes) → is_behind d v.key ≡ true → byte_order v.key q ≡ Less → is_behind d q ≡ true
    still_behind None q e r = refl
    still_behind (Some d) q e r = ap is_lt (below_both d v.key q (is_lt_Less (byte_order d v.key) e) r)

    behind_it : (q : Bytes) → byte_order v.key q ≡ Less → find byte_order q (pairs_to_come after (newer ++ older)) ≡ find byte_order q (pairs_to_come g all)
    behind_it q r =
        come_find after (newer ++ older) q
        ∙ ap (λ (o : Ordering). cond (is_lt o && is_before g.to q) (value_at (newer ++ older) g.at q) None) r
        ∙ ap (λ (o : Option Version). cond (is_before g.to q) (option_and_then (λ v. v.value) o) None)
        (sym (newest_without q g.at newer v older (ap (λ (o : Ordering). is_eq o && leb v.number g.at) (less_greater v.key q r))))
        ∙ ap (λ (b : Bool). cond (b && is_before g.to q) (value_at all g.at q) None) (sym (still_behind g.decided q next r))
        ∙ sym (come_find g all q)

    -- a key that was deleted has no pair
    pub deleted : v.value ≡ None → pairs_to_come after (newer ++ older) ≡ pairs_to_come g all
    deleted none = same_pairs (pairs_to_come after (newer ++ older)) (pairs_to_come g all) (come_sorted after (newer ++ older)) (come_sorted g all) (λ q. by q (byte_order v.key q) refl)
      where
        by : (q : Bytes) (r : Ordering) → byte_order v.key q ≡ r → find byte_order q (pairs_to_come after (newer ++ older)) ≡ find byte_order q (pairs_to_come g all)
        by q Less e = behind_it q e
        by q Equal e =
            after_none q (ap is_lt e)
            ∙ sym (subst (λ (k : Bytes). find byte_order k (pairs_to_come g all) ≡ None) (same_keys v.key q e)
            (at_key ∙ ap (λ (o : Option Bytes). cond (is_before g.to v.key) o None) none ∙ both_none (is_before g.to v.key)))
        by q Greater e = after_none q (ap is_lt e) ∙ sym (before_first q e)

    -- one that has a value has the next pair
    pub has_row : (x : Bytes) → v.value ≡ Some x → is_before g.to v.key ≡ true → (v.key, x) ∷ pairs_to_come after (newer ++ older) ≡ pairs_to_come g all
    has_row x some before = same_pairs ((v.key, x) ∷ pairs_to_come after (newer ++ older)) (pairs_to_come g all) (sorted (entries (map_of (newer ++ older) g.at)) (come_sorted after (newer ++ older))) (come_sorted g all) (λ q. by q (byte_order v.key q) refl)
      where
        join : (a b : Bool) → T a → T b → T (a && b)
        join true b p q = q
        join false b p q = absurd p

        here : (b : Bool) → b ≡ true → T b
        here true e = tt
        here false e = absurd (no (sym e))

        below : (ps : List (Bytes × Bytes)) → T (below_all byte_order v.key (where_key byte_order (wanted after) ps))
        below [] = tt
        below (p ∷ ps) = at (wanted after p.0) refl (below ps)
          where
            at : (b : Bool) → wanted after p.0 ≡ b → T (below_all byte_order v.key (where_key byte_order (wanted after) ps)) → T (below_all byte_order v.key (cond b (p ∷ where_key byte_order (wanted after) ps) (where_key byte_order (wanted after) ps)))
            at true e k = join (is_lt (byte_order v.key p.0)) (below_all byte_order v.key (where_key byte_order (wanted after) ps)) (here (is_lt (byte_order v.key p.0)) (and_both (is_lt (byte_order v.key p.0)) (is_before g.to p.0) e).0) k
            at false e k = k

        sorted : (ps : List (Bytes × Bytes)) → T (is_sorted byte_order (where_key byte_order (wanted after) ps)) → T (is_sorted byte_order ((v.key, x) ∷ where_key byte_order (wanted after) ps))
        sorted ps k = join (below_all byte_order v.key (where_key byte_order (wanted after) ps)) (is_sorted byte_order (where_key byte_order (wanted after) ps)) (below ps) k

        front : (q : Bytes) (r : Ordering) → byte_order q v.key ≡ r → find byte_order q ((v.key, x) ∷ pairs_to_come after (newer ++ older)) ≡ cond (is_eq r) (Some x) (find byte_order q (pairs_to_come after (newer ++ older)))
        front q r e = ap (λ (o : Ordering). cond (is_eq o) (Some x) (find byte_order q (pairs_to_come after (newer ++ older)))) e

        found : cond (is_before g.to v.key) v.value None ≡ Some x
        found = ap (λ (b : Bool). cond b v.value None) before ∙ some

        by : (q : Bytes) (r : Ordering) → byte_order v.key q ≡ r → find byte_order q ((v.key, x) ∷ pairs_to_come after (newer ++ older)) ≡ find byte_order q (pairs_to_come g all)
        by q Less e = front q Greater (less_greater v.key q e) ∙ behind_it q e
        by q Equal e = subst (λ (k : Bytes). find byte_order k ((v.key, x) ∷ pairs_to_come after (newer ++ older)) ≡ find byte_order k (pairs_to_come g all)) (same_keys v.key q e)
            (ap (λ (b : Bool). cond b (Some x) (find byte_order v.key (pairs_to_come after (newer ++ older)))) (key_itself v.key) ∙ sym (at_key ∙ found))
        by q Greater e = front q Less (above v.key q e) ∙ after_none q (ap is_lt e) ∙ sym (before_first q e)

  -- from the first key that is not before the end on, none has a pair
  pub past_the_end : is_before g.to v.key ≡ false → pairs_to_come g all ≡ []
  past_the_end ended = same_pairs (pairs_to_come g all) [] (come_sorted g all) tt (λ q. by q (byte_order v.key q) refl)
    where
      by : (q : Bytes) (r : Ordering) → byte_order v.key q ≡ r → find byte_order q (pairs_to_come g all) ≡ None
      by q Less e = come_find g all q ∙ unwanted (wanted g q) (value_at all g.at q) (and_second (is_behind g.decided q) (is_before g.to q) (not_below g.to v.key q ended e))
      by q Equal e = come_find g all q ∙ unwanted (wanted g q) (value_at all g.at q) (and_second (is_behind g.decided q) (is_before g.to q) (subst (λ (k : Bytes). is_before g.to k ≡ false) (same_keys v.key q e) ended))
      by q Greater e = before_first q e

-- ---- the page

-- where no version is left
none_come : (g : Gathering) → pairs_to_come g [] ≡ []
none_come g = same_pairs (pairs_to_come g []) [] (come_sorted g []) tt (λ q. come_find g [] q ∙ both_none (wanted g q))

whole_so_far : (g : Gathering) (left : List Version) → length g.rows ≤ g.limit → g.next ≡ None → pairs_to_come g left ≡ [] → page_so_far g ≡ page_with g left
whole_so_far g left few going none =
    ap (made g.rows) going ∙ sym (whole_page g.limit (g.rows ++ pairs_to_come g left) g.rows few (ap (λ (ps : List (Bytes × Bytes)). g.rows ++ ps) none))

pub page_of_none_left : (g : Gathering) → length g.rows ≤ g.limit → g.next ≡ None → page_so_far g ≡ page_with g []
page_of_none_left g few going = whole_so_far g [] few going (none_come g)

pub page_past_the_end : (g : Gathering) (newer : List Version) (v : Version) (older : List Version) → IsFirst v (newer ++ older) → length g.rows ≤ g.limit → g.next ≡ None → is_before g.to v.key ≡ false
    → page_so_far g ≡ page_with g (newer ++ v ∷ older)
page_past_the_end g newer v older h few going ended = whole_so_far g (newer ++ v ∷ older) few going (past_the_end g newer v older h ended)

pub page_passed_over : (g : Gathering) (newer : List Version) (v : Version) (older : List Version) → (g.at < v.number) ⊎ (is_behind g.decided v.key ≡ false) → page_with g (newer ++ older) ≡ page_with g (newer ++ v ∷ older)
page_passed_over g newer v older h = ap (λ (ps : List (Bytes × Bytes)). first_page g.limit (g.rows ++ ps)) (passed_over g newer v older h)

pub page_deleted : (g : Gathering) (newer : List Version) (v : Version) (older : List Version) → IsFirst v (newer ++ older) → v.number ≤ g.at → is_behind g.decided v.key ≡ true → v.value ≡ None
    → page_with (with_deleted v.key g) (newer ++ older) ≡ page_with g (newer ++ v ∷ older)
page_deleted g newer v older h le next none = ap (λ (ps : List (Bytes × Bytes)). first_page g.limit (g.rows ++ ps)) (deleted g newer v older h le next none)

pub page_with_row : (g : Gathering) (newer : List Version) (v : Version) (older : List Version) (x : Bytes) → IsFirst v (newer ++ older) → v.number ≤ g.at → is_behind g.decided v.key ≡ true → is_before g.to v.key ≡ true → v.value ≡ Some x
    → page_with (with_row v.key x g) (newer ++ older) ≡ page_with g (newer ++ v ∷ older)
page_with_row g newer v older x h le next before some =
    ap (first_page g.limit) (append_assoc g.rows ((v.key, x) ∷ []) (pairs_to_come (with_deleted v.key g) (newer ++ older)))
    ∙ ap (λ (ps : List (Bytes × Bytes)). first_page g.limit (g.rows ++ ps)) (has_row g newer v older h le next x some before)

full_page : (n : ℕ) (rows : List (Bytes × Bytes)) (p : Bytes × Bytes) (rest : List (Bytes × Bytes)) → length rows ≡ n → first_page n (rows ++ p ∷ rest) ≡ made rows (Some p.0)
full_page n rows p rest e = subst (λ (m : ℕ). first_page m (rows ++ p ∷ rest) ≡ made rows (Some p.0)) e (by rows)
  where
    by : (xs : List (Bytes × Bytes)) → first_page (length xs) (xs ++ p ∷ rest) ≡ made xs (Some p.0)
    by [] = refl
    by (x ∷ xs) = let later = by xs in λ i. made (x ∷ (later i).rows) (later i).next

pub page_full : (g : Gathering) (newer : List Version) (v : Version) (older : List Version) (x : Bytes) → IsFirst v (newer ++ older) → v.number ≤ g.at → is_behind g.decided v.key ≡ true → is_before g.to v.key ≡ true → v.value ≡ Some x
    → length g.rows ≡ g.limit → page_so_far (with_next v.key g) ≡ page_with g (newer ++ v ∷ older)
page_full g newer v older x h le next before some full =
    sym (ap (λ (ps : List (Bytes × Bytes)). first_page g.limit (g.rows ++ ps)) (sym (has_row g newer v older h le next x some before))
    ∙ full_page g.limit g.rows (v.key, x) (pairs_to_come (with_deleted v.key g) (newer ++ older)) full)

-- ---- the last key

pub last_key-push : (rows : List (Bytes × Bytes)) (key value : Bytes) → last_key (rows ++ (key, value) ∷ []) ≡ Some key
last_key-push rows key value = ap (option_map (λ row. row.0)) (last-push rows (key, value))
