-- The steps by passes of which this is known, and what they tell of them.
use Rattle.std.proofs.Common.{◌≡◌, ℕ, ◌+◌, ◌*◌, ◌<◌, ◌≤◌, ◌==◌, List, [], ◌∷◌, ◌++◌, length, Option, Some, None, refl, ap, sym, ◌∙◌, subst}
use mathlib.Core.List.{IsPrefix}
use mathlib.Core.Option.{some, none}
use prog.Atomic.{either}
use Rattle.atomic_table.specs.Table.{Me, step, Allows, Splits, Joins}
use Rattle.atomic_table.specs.declared.shared.Seat.{Seat}
use Rattle.lsm_trail.specs.Begins.{Begin}
use Rattle.lsm_trail.specs.History.{Event, IsLegal, entries_by, numbers}
use Rattle.lsm_trail.specs.Knowledge.{SessionId, Keeper, Known, Sees, View, known, keeping, view_of, hearing, telling, nobody, known_or, known_of, IsClientPass, row_of}
use Rattle.lsm_trail.specs.Rule.{Kept}
use Rattle.lsm_trail.specs.Steps.{Puts, published, Publishes, Notes, LooksAs, Looks, IsPeeked, Peeks, Compares, dealer, dealt_to, heard, said_by}
use Rattle.lsm_trail.proofs.Moves.{puts, publishes, notes, looks, peeks, compares, tells, hears, lends, gives_back, deals}

abbrev M : Type 0
M = Me Event View

pub puts_at : (key : Begin) (slots id : ℕ) (me : M) (k : Keeper) (c : Option Known) (i new : ℕ) → me ≡ (view_of (Some k) c, []) → i ≡ 3 * length k.log + 4 + length k.draft → i < 3 * key.limit + 4
    → Allows (Kept key) slots id me i (λ _. new) (λ _. Puts (step slots i new 0 none) me new)
puts_at key slots id me k c i new is there inside = subst (λ (m : M). Allows (Kept key) slots id m i (λ _. new) (λ _. Puts (step slots i new 0 none) m new)) (sym is) (puts key slots id k c i new there inside)

pub put_told : (k : Keeper) (c : Option Known) (me me' : M) (new : ℕ) → me ≡ (view_of (Some k) c, []) → Puts (step 0 0 new 0 none) me 0 me' → me' ≡ (view_of (Some (keeping k.begin k.dealt k.log (k.draft ++ new ∷ []))) c, [])
put_told k c me me' new is rule = let r = subst (λ (m : M). Puts (step 0 0 new 0 none) m 0 me') is rule in λ j. (r.1 j, r.0 j)

pub publishes_at : (key : Begin) (slots id : ℕ) (me : M) (k : Keeper) (c : Known) (e : Event) (old : ℕ) → me ≡ (view_of (Some k) (Some c), []) → old ≡ length k.log → e.client ≡ c.number → length k.log < key.limit → IsLegal key (k.log ++ e ∷ [])
    → k.draft ≡ row_of (numbers key (k.log ++ e ∷ []))
    → Allows (Kept key) slots id me 0 (λ n. either (n == old) (old + 1) n) (Publishes (step slots 0 old (old + 1) (some e)) me)
publishes_at key slots id me k c e old is len by room legal draft = subst (λ (m : M). Allows (Kept key) slots id m 0 (λ n. either (n == old) (old + 1) n) (Publishes (step slots 0 old (old + 1) (some e)) m)) (sym is) (publishes key slots id k c e old len by room legal draft)

pub published_told : (k : Keeper) (c : Known) (me me' : M) (e : Event) → me ≡ (view_of (Some k) (Some c), []) → Publishes (step 0 0 0 0 (some e)) me 0 me'
    → (me' ≡ (published k c e, [])) × IsPrefix c.seen k.log × (entries_by c.number k.log ≡ c.mine)
published_told k c me me' e is rule = let r = subst (λ (m : M). Publishes (step 0 0 0 0 (some e)) m 0 me') is rule in ((λ j. (r.1.0 j, r.0 j)), r.1.1, r.1.2)

-- what the lock's pass and a client's are when they are put together
pub lends_at : (key : Begin) (id : ℕ) (v : View) (k : Keeper) (other : ℕ) (u : View) (c : Known) → v ≡ view_of (Some k) None → u ≡ view_of None (Some c) → Joins (Kept key) id v other u (view_of v.keeper u.client) nobody
lends_at key id v k other u c is too = subst (λ (x : View × View). Joins (Kept key) id x.0 other x.1 (view_of x.0.keeper x.1.client) nobody) (λ i. (sym is i, sym too i)) (lends key id k other c)

pub gives_back_at : (key : Begin) (id : ℕ) (v : View) (k : Keeper) (c : Known) → v ≡ view_of (Some k) (Some c) → Splits (Kept key) id v (view_of v.keeper None) (view_of None v.client)
gives_back_at key id v k c is = subst (λ (x : View). Splits (Kept key) id x (view_of x.keeper None) (view_of None x.client)) (sym is) (gives_back key id k c)

pub deals_at : (key : Begin) (id : ℕ) (v : View) (k : Keeper) → v ≡ view_of (Some k) None → Splits (Kept key) id v (dealer v) (dealt_to v)
deals_at key id v k is = subst (λ (x : View). Splits (Kept key) id x (dealer x) (dealt_to x)) (sym is) (deals key id k)

pub compares_at : (key : Begin) (slots id : ℕ) (me : M) (k : Keeper) (c : Known) → me ≡ (view_of (Some k) (Some c), []) → Allows (Kept key) slots id me 0 (λ n. n) (Compares (step slots 0 0 0 none) me)
compares_at key slots id me k c is = subst (λ (m : M). Allows (Kept key) slots id m 0 (λ n. n) (Compares (step slots 0 0 0 none) m)) (sym is) (compares key slots id k c)

pub compared : (k : Keeper) (c : Known) (me me' : M) → me ≡ (view_of (Some k) (Some c), []) → Compares (step 0 0 0 0 none) me 0 me'
    → (me' ≡ (view_of (Some k) None, [])) × IsPrefix c.seen k.log × (entries_by c.number k.log ≡ c.mine) × ((x : ℕ) → k.dealt ≤ x → entries_by x k.log ≡ [])
compared k c me me' is rule = let r = subst (λ (m : M). Compares (step 0 0 0 0 none) m 0 me') is rule in ((λ j. (r.1.0 j, r.0 j)), r.1.1, r.1.2, r.1.3)

pub notes_at : (key : Begin) (slots id : ℕ) (me : M) (k : Keeper) (c : Known) → me ≡ (view_of (Some k) (Some c), []) → Allows (Kept key) slots id me 0 (λ n. n) (Notes (step slots 0 0 0 none) me)
notes_at key slots id me k c is = subst (λ (m : M). Allows (Kept key) slots id m 0 (λ n. n) (Notes (step slots 0 0 0 none) m)) (sym is) (notes key slots id k c)

pub noted : (k : Keeper) (c : Known) (me me' : M) → me ≡ (view_of (Some k) (Some c), []) → Notes (step 0 0 0 0 none) me 0 me'
    → (me' ≡ (view_of (Some k) (Some (known c.begin c.number k.log c.mine)), [])) × IsPrefix c.seen k.log × (entries_by c.number k.log ≡ c.mine)
noted k c me me' is rule = let r = subst (λ (m : M). Notes (step 0 0 0 0 none) m 0 me') is rule in ((λ j. (r.1.0 j, r.0 j)), r.1.1, r.1.2)

pub looks_at : (key : Begin) (slots id : ℕ) (me : M) (told : List Event) (c : Known) → me ≡ (hearing told c, []) → Allows (Kept key) slots id me 0 (λ n. n) (Looks (step slots 0 0 0 none) me)
looks_at key slots id me told c is = subst (λ (m : M). Allows (Kept key) slots id m 0 (λ n. n) (Looks (step slots 0 0 0 none) m)) (sym is) (looks key slots id told c)

-- a client still has a part
looked_as : (told : List Event) (c : Known) (found : ℕ) (w : Option Known) → LooksAs told (Some c) found w → (w ≡ Some (known_or w)) × Sees c (known_or w) × IsPrefix told (known_or w).seen × (length (known_or w).seen ≡ found)
looked_as told c found None rule = absurd rule
looked_as told c found (Some d) rule = (refl, rule.0, rule.1, rule.2)

-- what a look tells of a client's pass, which was told this
pub looked : (id : SessionId) (told : List Event) (c : Known) (me : M) (q : Seat Event View) (found : ℕ) → me ≡ (hearing told c, []) → c.begin ≡ id.begin → q.table_id ≡ id.table → Looks (step 0 0 0 0 none) me found q.me
    → IsClientPass id q × Sees c (known_of q) × IsPrefix told (known_of q).seen × (length (known_of q).seen ≡ found)
looked id told c me q found is begin same rule =
    let r = subst (λ (m : M). Looks (step 0 0 0 0 none) m found q.me) is rule in
    let t = looked_as told c found q.me.0.client r.3 in
    ((same, (λ i. (record { keeper = r.1 i; client = t.0 i; told = r.2 i }, r.0 i)), t.1.begin ∙ begin), t.1, t.2, t.3)

-- a client's pass tells what the client has seen
pub tells_at : (key : Begin) (id : ℕ) (v : View) (c : Known) → v ≡ view_of None (Some c) → Splits (Kept key) id v v (said_by v)
tells_at key id v c is = subst (λ (x : View). Splits (Kept key) id x x (said_by x)) (sym is) (tells key id c)

-- and hears what another has seen
pub hears_at : (key : Begin) (id : ℕ) (v : View) (c : Known) (other : ℕ) (w : View) (told : List Event) → v ≡ view_of None (Some c) → w ≡ telling told → Joins (Kept key) id v other w (heard v w) nobody
hears_at key id v c other w told is too = subst (λ (x : View × View). Joins (Kept key) id x.0 other x.1 (heard x.0 x.1) nobody) (λ i. (sym is i, sym too i)) (hears key id c other told)

pub peeks_at : (key : Begin) (slots id : ℕ) (me : M) (c : Known) (word : ℕ) → me ≡ (view_of None (Some c), []) → Allows (Kept key) slots id me word (λ n. n) (Peeks (step slots word 0 0 none) me)
peeks_at key slots id me c word is = subst (λ (m : M). Allows (Kept key) slots id m word (λ n. n) (Peeks (step slots word 0 0 none) m)) (sym is) (peeks key slots id c word)

pub peeked : (c : Known) (me me' : M) (word found : ℕ) → me ≡ (view_of None (Some c), []) → Peeks (step 0 word 0 0 none) me found me' → (me' ≡ (view_of None (Some c), [])) × IsPeeked c word found
peeked c me me' word found is rule = let r = subst (λ (m : M). Peeks (step 0 word 0 0 none) m found me') is rule in (r.0, r.1)

-- a client's pass that knows what it knew
pub stays : (id : SessionId) (p q : Seat Event View) → IsClientPass id p → q.table_id ≡ p.table_id → q.me ≡ (view_of None (Some (known_of p)), []) → IsClientPass id q × (known_of q ≡ known_of p)
stays id p q h same is =
    let k : known_of q ≡ known_of p = ap (λ (m : M). known_or m.0.client) is in
    ((same ∙ h.0, is ∙ (λ i. (view_of None (Some (sym k i)), [])), ap (λ (x : Known). x.begin) k ∙ h.2), k)
