-- Runs that go on with items.
use Rattle.std.proofs.Common.{◌≡◌, ◌↔◌, ℕ, ◌+◌, ◌-◌, ◌<◌, ◌≤◌, Bool, true, IsTrue, List, [], ◌∷◌, ◌++◌, length, map, take, drop, get_or, Some, Ok, Err, refl, sym, ap, subst, ◌∙◌, append_assoc, append-nil, arith}
use Rattle.std.specs.List.{AllByRecursion, slice_get}
use Rattle.std.specs.Ordering.{is_lt}
use Rattle.std.proofs.lemmas.List.{map-append, take_all, take_at, take_more, take-append-drop}
use Rattle.std.proofs.lemmas.Option.{slice_get_within, get_or_from_slice_get}
use Rattle.std.proofs.lemmas.List.Elements.{All-from_recursion}
use Rattle.lsm_device.specs.declared.refusal.Refusal.{Refusal}
use Rattle.lsm_codec.specs.Versions.{Version, AreOrdered, entry_order}
use Rattle.lsm_codec.proofs.KeyOrder.{is_lt_Less}
use Rattle.lsm_codec.proofs.Lists.{all_append, all_right}
use Rattle.lsm_table.proofs.Items.{Item}
use Rattle.lsm_table.proofs.Orders.{Before, before_along, next_before, befores, later_pairs, front_pairs}
use Rattle.lsm_jobs.specs.Gathering.{GoesOn, IsLonger}

abbrev ok : Version → Item
ok v = Ok v

-- ---- the order of a run with one more entry

less_along : (u : Version) (front : List Version) (v w : Version) → AllByRecursion (Before u) (front ++ v ∷ []) → Before v w → Before u w
less_along u front v w all less = before_along u v w (all_right (Before u) front (v ∷ []) all).0 less

pushed : (front : List Version) (v w : Version) → AreOrdered (front ++ v ∷ []) → Before v w → AreOrdered ((front ++ v ∷ []) ++ w ∷ [])
pushed [] v w ordered less = (All-from_recursion (Before v) (w ∷ []) (less, tt), (All-from_recursion (Before w) [] tt, tt))
pushed (u ∷ front) v w ordered less =
    let all = befores u (front ++ v ∷ []) ordered in
    (All-from_recursion (Before u) ((front ++ v ∷ []) ++ w ∷ []) (all_append (Before u) (front ++ v ∷ []) (w ∷ []) all (less_along u front v w all less, tt)), pushed front v w ordered.1 less)

after_last : (front : List Version) (v w : Version) → AreOrdered (front ++ v ∷ []) → (is_lt (entry_order v w) ≡ true) ↔ AreOrdered ((front ++ v ∷ []) ++ w ∷ [])
after_last front v w ordered = (
  λ less. pushed front v w ordered (is_lt_Less (entry_order v w) less),
  λ all. ap is_lt (next_before v w [] (later_pairs Before front (v ∷ w ∷ []) (subst AreOrdered (append_assoc front (v ∷ []) (w ∷ [])) all))),
)

-- the last of a run, and what stands before it
last_parts : (run : List Version) (v : Version) → slice_get run (length run - 1) ≡ Some v → (front : List Version) × (run ≡ front ++ v ∷ [])
last_parts run v e =
    let within : length run - 1 < length run = slice_get_within run (length run - 1) v e in
    let at : get_or run (length run - 1) v ≡ v = get_or_from_slice_get run (length run - 1) v v e in
    let all : length run ≤ length run - 1 + 1 = omega (arith, within) in
    (take (length run - 1) run, sym (take_all (length run - 1 + 1) run all) ∙ take_more run (length run - 1) v within ∙ ap (λ (u : Version). take (length run - 1) run ++ u ∷ []) at)

pub comes_after_last : (run : List Version) (v w : Version) (b : Bool) → Some v ≡ slice_get run (length run - 1) → AreOrdered run → b ≡ is_lt (entry_order v w) → IsTrue b ↔ AreOrdered (run ++ w ∷ [])
comes_after_last run v w b is ordered tested =
    let parts = last_parts run v (sym is) in
    let both = after_last parts.0 v w (subst AreOrdered parts.1 ordered) in (
      λ t. subst (λ (l : List Version). AreOrdered (l ++ w ∷ [])) (sym parts.1) (both.0 (sym tested ∙ t)),
      λ all. tested ∙ both.1 (subst (λ (l : List Version). AreOrdered (l ++ w ∷ [])) parts.1 all),
    )

pub alone : (w : Version) → AreOrdered (w ∷ [])
alone w = (All-from_recursion (Before w) [] tt, tt)

-- ---- one item

-- what a run comes to with some items is what another comes to with others
pub record SameEnd (run : List Version) (items : List Item) (other : List Version) (others : List Item) : Type 0 where
  pub there : (new : List Version) → GoesOn run items new → GoesOn other others new
  pub back : (new : List Version) → GoesOn other others new → GoesOn run items new

pub same_end : (run : List Version) (items : List Item) → SameEnd run items run items
same_end run items = record { there = λ new h. h; back = λ new h. h }

pub then_end : (a : List Version) (p : List Item) (b : List Version) (q : List Item) (c : List Version) (r : List Item) → SameEnd a p b q → SameEnd b q c r → SameEnd a p c r
then_end a p b q c r f g = record { there = λ new h. g.there new (f.there new h); back = λ new h. f.back new (g.back new h) }

nothing_spelled : (i : Item) (rest : List Item) → i ∷ rest ≡ [] → ⊥
nothing_spelled i rest e = cc

pub taken : (run : List Version) (v : Version) (rest : List Item) → SameEnd (run ++ v ∷ []) rest run (Ok v ∷ rest)
taken run v rest = record {
  there = λ new h. record {
    entries = v ∷ h.entries;
    spelled = ap (λ (l : List Item). Ok v ∷ l) h.spelled;
    whole = h.whole ∙ append_assoc run (v ∷ []) h.entries;
    ordered = h.ordered;
  };
  back = λ new h. by h.entries new h.spelled h.whole h.ordered;
}
  where
    by : (entries new : List Version) → Ok v ∷ rest ≡ map ok entries → new ≡ run ++ entries → AreOrdered new → GoesOn (run ++ v ∷ []) rest new
    by [] new spelled whole ordered = absurd (nothing_spelled (Ok v) rest spelled)
    by (w ∷ ws) new spelled whole ordered =
        let same : v ≡ w = cc in
        let others : rest ≡ map ok ws = cc in
        record {
          entries = ws;
          spelled = others;
          whole = whole ∙ ap (λ (u : Version). run ++ u ∷ ws) (sym same) ∙ sym (append_assoc run (v ∷ []) ws);
          ordered = ordered;
        }

pub none_after_bad : (run : List Version) (e : Refusal) (rest : List Item) (new : List Version) → GoesOn run (Err e ∷ rest) new → ⊥
none_after_bad run e rest new h = by h.entries h.spelled
  where
    by : (entries : List Version) → Err e ∷ rest ≡ map ok entries → ⊥
    by [] spelled = nothing_spelled (Err e) rest spelled
    by (w ∷ ws) spelled = cc

pub none_out_of_order : (run : List Version) (v : Version) (rest : List Item) (new : List Version) → (AreOrdered (run ++ v ∷ []) → ⊥) → GoesOn run (Ok v ∷ rest) new → ⊥
none_out_of_order run v rest new unordered h =
    let g = (taken run v rest).back new h in
    unordered (front_pairs (run ++ v ∷ []) g.entries (subst AreOrdered g.whole g.ordered))

pub ended : (run : List Version) → AreOrdered run → GoesOn run [] run
ended run ordered = record { entries = []; spelled = refl; whole = sym (append-nil run); ordered = ordered }

-- ---- more items

split_spelled : (items more : List Item) (entries : List Version) → items ++ more ≡ map ok entries → (a : List Version) × (b : List Version) × (entries ≡ a ++ b) × (items ≡ map ok a) × (more ≡ map ok b)
split_spelled [] more entries e = ([], entries, refl, refl, e)
split_spelled (i ∷ items) more [] e = absurd (nothing_spelled i (items ++ more) e)
split_spelled (i ∷ items) more (v ∷ vs) e =
    let first : i ≡ ok v = cc in
    let rest : items ++ more ≡ map ok vs = cc in
    let s = split_spelled items more vs rest in
    (v ∷ s.0, s.1, ap (λ (l : List Version). v ∷ l) s.2, ap (λ (l : List Item). i ∷ l) s.3 ∙ ap (λ (j : Item). j ∷ map ok s.0) first, s.4)

same_entries : (a b : List Version) → map ok a ≡ map ok b → a ≡ b
same_entries [] [] e = refl
same_entries [] (v ∷ b) e = absurd (nothing_spelled (ok v) (map ok b) (sym e))
same_entries (v ∷ a) [] e = absurd (nothing_spelled (ok v) (map ok a) e)
same_entries (v ∷ a) (w ∷ b) e =
    let first : v ≡ w = cc in
    let rest : map ok a ≡ map ok b = cc in
    ap (λ (u : Version). u ∷ a) first ∙ ap (λ (l : List Version). w ∷ l) (same_entries a b rest)

-- with items and then more
pub joined : (run mid : List Version) (items more : List Item) → GoesOn run items mid → SameEnd mid more run (items ++ more)
joined run mid items more g = record {
  there = λ new h. record {
    entries = g.entries ++ h.entries;
    spelled = ap (λ (l : List Item). l ++ more) g.spelled ∙ ap (λ (l : List Item). map ok g.entries ++ l) h.spelled ∙ sym (map-append ok g.entries h.entries);
    whole = h.whole ∙ ap (λ (l : List Version). l ++ h.entries) g.whole ∙ append_assoc run g.entries h.entries;
    ordered = h.ordered;
  };
  back = λ new h.
      let s = split_spelled items more h.entries h.spelled in
      let same : s.0 ≡ g.entries = same_entries s.0 g.entries (sym s.3 ∙ g.spelled) in
      record {
        entries = s.1;
        spelled = s.4;
        whole = h.whole ∙ ap (λ (l : List Version). run ++ l) s.2 ∙ sym (append_assoc run s.0 s.1) ∙ ap (λ (l : List Version). (run ++ l) ++ s.1) same ∙ ap (λ (l : List Version). l ++ s.1) (sym g.whole);
        ordered = h.ordered;
      };
}

-- where a run doesn't go on with items, it doesn't with more after them
pub none_with_more : (run : List Version) (items more : List Item) → ((new : List Version) → GoesOn run items new → ⊥) → (new : List Version) → GoesOn run (items ++ more) new → ⊥
none_with_more run items more none new h =
    let s = split_spelled items more h.entries h.spelled in
    let whole : new ≡ (run ++ s.0) ++ s.1 = h.whole ∙ ap (λ (l : List Version). run ++ l) s.2 ∙ sym (append_assoc run s.0 s.1) in
    none (run ++ s.0) (record { entries = s.0; spelled = s.3; whole = refl; ordered = front_pairs (run ++ s.0) s.1 (subst AreOrdered whole h.ordered) })

-- ---- longer lists

pub as_long : (run : List Version) → IsLonger run run
as_long run = record { more = []; whole = sym (append-nil run) }

pub longer_by : (run mid new : List Version) → IsLonger run mid → IsLonger mid new → IsLonger run new
longer_by run mid new a b = record { more = a.more ++ b.more; whole = b.whole ∙ ap (λ (l : List Version). l ++ b.more) a.whole ∙ append_assoc run a.more b.more }

pub longer_by_one : (run mid : List Version) (v : Version) → IsLonger run mid → IsLonger run (mid ++ v ∷ [])
longer_by_one run mid v a = longer_by run mid (mid ++ v ∷ []) a (record { more = v ∷ []; whole = refl })

pub first_ordered : (n : ℕ) (run : List Version) → AreOrdered run → AreOrdered (take n run)
first_ordered n run ordered = front_pairs (take n run) (drop n run) (subst AreOrdered (sym (take-append-drop n run)) ordered)

-- what was there before some were added
pub taken_back : (old new : List Version) → IsLonger old new → take (length old) new ≡ old
taken_back old new longer = ap (take (length old)) longer.whole ∙ take_at old longer.more (length old) refl
