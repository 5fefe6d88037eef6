-- What asking for the next row comes to.
use Rattle.std.proofs.Common.{◌≡◌, inl, inr, ◌+◌, ℕ, zero, suc, List, [], ◌∷◌, ◌++◌, drop, Option, Some, None, Result, Ok, Err, refl, sym, ap, subst, ◌∙◌, arith}
use Rattle.std.specs.Prelude.{slice_get}
use Rattle.lsm_codec.specs.Keys.{Bytes}
use Rattle.lsm_device.specs.declared.refusal.Refusal.{Refusal}
use Rattle.lsm_device.specs.declared.refusal.Refusal.TheVariants.{Io}
use Rattle.lsm_mem.specs.Paging.{Page, pairs_in, page_of}
use Rattle.lsm_store.specs.Backing.{IsBacked}
use Rattle.lsm_machine.specs.Calls.{Reply, Rows, Refused, Scan}
use Rattle.lsm_machine.specs.Effects.{reply_by}
use Rattle.lsm_machine.specs.Refusals.{full_refusal}
use Rattle.lsm_machine.specs.Run.{next}
use Rattle.lsm_machine.specs.State.{State, map_at}
use Rattle.lsm_machine.specs.declared.asked.At.{At}
use Rattle.corwaphi.specs.declared.row.Row.{Row}
use Rattle.corwaphi.specs.Advancing.{Standing, ReadsPage, HasRead, IsPageRefused, IsFirst, TakesRow, AsksRow, pair_of, pairs_from, rows_to_come}
use Rattle.corwaphi.proofs.Behind.{page_and_rest, none_behind}

pub is_first : (rows : List (Bytes × Bytes)) (told : ℕ) (row : Option (Bytes × Bytes)) → row ≡ slice_get rows told → IsFirst row (drop told rows) (drop (told + 1) rows)
is_first rows told row is =
    let more : suc told ≡ told + 1 = omega arith in
    subst (λ (o : Option (Bytes × Bytes)). IsFirst o (drop told rows) (drop (told + 1) rows)) (sym is)
    (subst (λ (n : ℕ). IsFirst (slice_get rows told) (drop told rows) (drop n rows)) more (by rows told))
  where
    by : (rows : List (Bytes × Bytes)) (told : ℕ) → IsFirst (slice_get rows told) (drop told rows) (drop (suc told) rows)
    by [] zero = refl
    by [] (suc told) = refl
    by (row ∷ rows) zero = refl
    by (row ∷ rows) (suc told) = by rows told

-- ---- a page

page_in : Page → Reply → Page
page_in other (Rows page) = page
page_in other reply = other

page_is : (s : State) (at : At) (from : Bytes) (to : Option Bytes) (n : ℕ) (page : Page) (refused : Option Refusal) → Rows page ≡ reply_by s (Scan at from to n) refused
    → page ≡ page_of (map_at s at) from to n
unfolding page_in
page_is s at from to n page None e = ap (page_in page) e
page_is s at from to n page (Some refusal) e = cc

-- a page that was refused leaves the state
refused_still : (s : State) (at : At) (from : Bytes) (to : Option Bytes) (n : ℕ) (e : Refusal) → next s (Scan at from to n) (Refused e) ≡ s
refused_still s at from to n Io = refl
refused_still s at from to n e = refl

module _ (old mid : Standing) (p : ReadsPage old mid) where
  page_state : mid.store.state ≡ old.store.state
  page_state = p.serves.state

  page_of_map : IsBacked old.store → p.page ≡ page_of (map_at old.store.state old.at) p.key old.to 64
  page_of_map backed = page_is old.store.state old.at p.key old.to 64 p.page (full_refusal old.store.state (Scan old.at p.key old.to 64)) (p.serves.allowed backed)

  -- what was to come is the whole range from the key on
  whole : rows_to_come old ≡ pairs_in (map_at old.store.state old.at) p.key old.to
  whole = λ i. p.none i ++ pairs_from (map_at old.store.state old.at) (p.begins i) old.to

  page_comes : IsBacked old.store → rows_to_come mid ≡ rows_to_come old
  page_comes backed =
      ap rows_to_come p.becomes
      ∙ ap (λ (s : State). p.page.rows ++ pairs_from (map_at s old.at) p.page.next old.to) page_state
      ∙ page_and_rest (map_at old.store.state old.at) p.key old.to 64 p.page (page_of_map backed)
      ∙ sym whole

  page_ends : IsBacked old.store → mid.unread ≡ [] → rows_to_come mid ≡ []
  page_ends backed none =
      let unread : mid.unread ≡ p.page.rows = ap (λ (s : Standing). s.unread) p.becomes in
      let empty : p.page.rows ≡ [] = sym unread ∙ none in
      ap rows_to_come p.becomes
      ∙ ap (λ (s : State). p.page.rows ++ pairs_from (map_at s old.at) p.page.next old.to) page_state
      ∙ (λ i. empty i ++ none_behind (map_at old.store.state old.at) p.key old.to 63 p.page (page_of_map backed) empty i)

-- ---- what was read

read_state : (old mid : Standing) → HasRead old mid → mid.store.state ≡ old.store.state
read_state old mid (inl (same, ends)) = ap (λ (s : Standing). s.store.state) same
read_state old mid (inr p) = page_state old mid p

read_backed : (old mid : Standing) → HasRead old mid → IsBacked old.store → IsBacked mid.store
read_backed old mid (inl (same, ends)) backed = subst (λ (s : Standing). IsBacked s.store) (sym same) backed
read_backed old mid (inr p) backed = p.serves.backed backed

read_comes : (old mid : Standing) → HasRead old mid → IsBacked old.store → rows_to_come mid ≡ rows_to_come old
read_comes old mid (inl (same, ends)) backed = ap rows_to_come same
read_comes old mid (inr p) backed = page_comes old mid p backed

read_ends : (old mid : Standing) → HasRead old mid → IsBacked old.store → mid.unread ≡ [] → rows_to_come mid ≡ []
read_ends old mid (inl (same, ends)) backed none =
    let here : old.unread ≡ [] = sym (ap (λ (s : Standing). s.unread) same) ∙ none in
    ap rows_to_come same ∙ (λ i. here i ++ pairs_from (map_at old.store.state old.at) (ends here i) old.to)
read_ends old mid (inr p) backed none = page_ends old mid p backed none

-- ---- the next row

pub asks_row : (old mid new : Standing) (told : Result (Option Row) Refusal) → HasRead old mid → TakesRow mid told new → AsksRow old told new
asks_row old mid new (Ok (Some row)) read (first, becomes) = record {
  tells = record { mid = mid; read = read; first = first; becomes = becomes };
  comes = λ backed. sym (read_comes old mid read backed)
      ∙ ap (λ (l : List (Bytes × Bytes)). l ++ pairs_from (map_at mid.store.state mid.at) mid.from mid.to) first
      ∙ ap (λ (l : List (Bytes × Bytes)). pair_of row ∷ l) (sym (ap rows_to_come becomes));
  backed = λ backed. subst (λ (s : Standing). IsBacked s.store) (sym becomes) (read_backed old mid read backed);
  state = ap (λ (s : Standing). s.store.state) becomes ∙ read_state old mid read;
}
asks_row old mid new (Ok None) read (none, same) = record {
  tells = (subst (HasRead old) (sym same) read, ap (λ (s : Standing). s.unread) same ∙ none);
  comes = λ backed. (sym (read_comes old mid read backed) ∙ read_ends old mid read backed none, ap rows_to_come same ∙ read_ends old mid read backed none);
  backed = λ backed. subst (λ (s : Standing). IsBacked s.store) (sym same) (read_backed old mid read backed);
  state = ap (λ (s : Standing). s.store.state) same ∙ read_state old mid read;
}
asks_row old mid new (Err e) read (wanting, same) = record {
  tells = inr (wanting, subst (HasRead old) (sym same) read);
  comes = λ backed. ap rows_to_come same ∙ read_comes old mid read backed;
  backed = λ backed. subst (λ (s : Standing). IsBacked s.store) (sym same) (read_backed old mid read backed);
  state = ap (λ (s : Standing). s.store.state) same ∙ read_state old mid read;
}

pub refused_row : (old new : Standing) (e : Refusal) → IsPageRefused old e new → AsksRow old (Err e) new
refused_row old new e p =
    let still : new.store.state ≡ old.store.state = p.serves.state ∙ refused_still old.store.state old.at p.key old.to 64 e in
    record {
      tells = inl p;
      comes = λ backed. ap rows_to_come p.becomes ∙ ap (λ (s : State). old.unread ++ pairs_from (map_at s old.at) old.from old.to) still;
      backed = p.serves.backed;
      state = still;
    }
