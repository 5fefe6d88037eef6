-- How a dump goes on.
use Rattle.std.proofs.Common.{◌≡◌, ◌∙◌, ◌+◌, ◌⊎◌, ℕ, Bool, true, false, true≢false, List, [], ◌∷◌, ◌++◌, length, Option, Some, None, refl, sym, ap, subst, inl, inr, append_assoc, append-nil, length-append}
use Rattle.std.specs.Io.KnownBytes.{Appends}
use Rattle.lsm_codec.specs.Keys.{Bytes}
use Rattle.lsm_device.specs.declared.refusal.Refusal.{Refusal}
use Rattle.lsm_device.specs.declared.refusal.Refusal.TheVariants.{NoMemory, Exhausted}
use Rattle.lsm_open.specs.Recovering.{IsOpeningRefusal}
use Rattle.lsm_language.specs.Faults.{IsRefusalBy, Reason, mistake, refusal, unopened, unread, unwritten}
use Rattle.lsm_mem.specs.Paging.{Page}
use Rattle.lsm_store.specs.Backing.{StoreView}
use Rattle.lsm_machine.specs.Calls.{Refused, Rows, Scan}
use Rattle.lsm_store.specs.Serving.{Serves}
use Rattle.lsm_machine.specs.declared.asked.At.{At}
use Rattle.lsm_machine.specs.declared.asked.At.TheVariants.{Now}
use Rattle.lsm_upkeep.specs.Walking.{IsHeld, WalkView, WalksTo}
use Rattle.lsmctl.specs.Answers.{TellsDumped, WasOpened}
use Rattle.lsmctl.specs.Dumping.{Dumps, DumpsPage, IsUnprinted, RefusesPage, StopsAtPage, StopsDumping, pages_lines, rows_lines}
use Rattle.lsm_serve.proofs.ServingLaws.{appends_none, appends_more}

-- `count` pages were found and printed so far
pub record IsDumping (count : ℕ) (walk : WalkView) (old now : StoreView) (output output_now : Option (List ℕ)) : Type 0 where
  pub pages : List Page
  pub number : length pages ≡ count
  pub at : walk.at ≡ Now
  pub walks : WalksTo Now (Some []) pages walk.from old now
  pub prints : Appends output output_now (pages_lines pages)

pages_lines-more : (pages : List Page) (page : Page) → pages_lines (pages ++ page ∷ []) ≡ pages_lines pages ++ rows_lines page
pages_lines-more [] page = append-nil (rows_lines page)
pages_lines-more (p ∷ pages) page = ap (λ (l : List ℕ). rows_lines p ++ l) (pages_lines-more pages page) ∙ sym (append_assoc (rows_lines p) (pages_lines pages) (rows_lines page))

-- a page more after others
walks_more : (at : At) (from : Option Bytes) (pages : List Page) (key : Bytes) (page : Page) (old now next : StoreView) → WalksTo at from pages (Some key) old now
    → Serves now (Scan at key None 64) (Rows page) next → WalksTo at from (pages ++ page ∷ []) page.next old next
walks_more at None [] key page old now next (to, same) serves = absurd (not_none to)
  where
    not_none : Some key ≡ None → ⊥
    not_none h = cc
walks_more at (Some from) [] key page old now next (to, same) serves =
    let here : key ≡ from = cc in
    (next, subst (λ (s : StoreView). Serves s (Scan at from None 64) (Rows page) next) same (subst (λ (k : Bytes). Serves now (Scan at k None 64) (Rows page) next) here serves), (refl, refl))
walks_more at None (p ∷ pages) key page old now next walks serves = absurd walks
walks_more at (Some from) (p ∷ pages) key page old now next (mid, served, rest) serves = (mid, served, walks_more at p.next pages key page mid now next rest serves)

-- at its begin
pub dumping-begins : (s : StoreView) (output : Option (List ℕ)) (walk : WalkView) → walk ≡ record { at = Now; from = Some [] } → IsDumping 0 walk s s output output
dumping-begins s output walk is = record {
  pages = [];
  number = refl;
  at = ap (λ (w : WalkView). w.at) is;
  walks = (ap (λ (w : WalkView). w.from) is, refl);
  prints = appends_none output;
}

-- with a page more
pub dumping-more : (count : ℕ) (walk then : WalkView) (old now next : StoreView) (output output_now output_next : Option (List ℕ)) → IsDumping count walk old now output output_now
    → DumpsPage true walk then now next output_now output_next → IsDumping (count + 1) then old next output output_next
dumping-more count walk then old now next output output_now output_next d (page, goes, appends) = record {
  pages = d.pages ++ page ∷ [];
  number = length-append d.pages (page ∷ []) ∙ ap (λ (n : ℕ). n + 1) d.number;
  at = ap (λ (w : WalkView). w.at) goes.becomes ∙ d.at;
  walks =
      let served : Serves now (Scan Now goes.from None 64) (Rows page) next = subst (λ (a : At). Serves now (Scan a goes.from None 64) (Rows page) next) d.at goes.serves in
      let to : WalksTo Now (Some []) d.pages (Some goes.from) old now = subst (λ (f : Option Bytes). WalksTo Now (Some []) d.pages f old now) goes.begins d.walks in
      subst (λ (w : WalkView). WalksTo Now (Some []) (d.pages ++ page ∷ []) w.from old next) (sym goes.becomes)
      (walks_more Now (Some []) d.pages goes.from page old now next to served);
  prints = subst (Appends output output_next) (sym (pages_lines-more d.pages page)) (appends_more output output_now output_next (pages_lines d.pages) (rows_lines page) d.prints appends);
}

-- and at its end
pub dumping-ends : (count : ℕ) (walk then : WalkView) (old now next : StoreView) (output output_now output_next : Option (List ℕ)) → IsDumping count walk old now output output_now
    → DumpsPage false walk then now next output_now output_next → Dumps output output_next old next
dumping-ends count walk then old now next output output_now output_next d (ends, same, kept) = record {
  pages = d.pages;
  walks = subst (λ (s : StoreView). WalksTo Now (Some []) d.pages None old s) (sym same) (subst (λ (f : Option Bytes). WalksTo Now (Some []) d.pages f old now) ends d.walks);
  prints = subst (λ (o : Option (List ℕ)). Appends output o (pages_lines d.pages)) (sym kept) d.prints;
}

-- by what is told of it
pub dumping-onward : (count : ℕ) (more : Bool) (walk then : WalkView) (old now next : StoreView) (output output_now output_next : Option (List ℕ)) → more ≡ true
    → IsDumping count walk old now output output_now → DumpsPage more walk then now next output_now output_next → IsDumping (count + 1) then old next output output_next
dumping-onward count true walk then old now next output output_now output_next is d page = dumping-more count walk then old now next output output_now output_next d page
dumping-onward count false walk then old now next output output_now output_next is d page = absurd (true≢false (sym is))

pub dumping-through : (count : ℕ) (more : Bool) (walk then : WalkView) (old now next : StoreView) (output output_now output_next : Option (List ℕ)) → more ≡ false
    → IsDumping count walk old now output output_now → DumpsPage more walk then now next output_now output_next → Dumps output output_next old next
dumping-through count true walk then old now next output output_now output_next is d page = absurd (true≢false is)
dumping-through count false walk then old now next output output_now output_next is d page = dumping-ends count walk then old now next output output_now output_next d page

-- or before it
pub dumping-stops : (count : ℕ) (reason : Reason) (walk : WalkView) (old now : StoreView) (output output_now output_next : Option (List ℕ)) → IsDumping count walk old now output output_now
    → StopsAtPage reason walk now output_now output_next → StopsDumping reason old output output_next
dumping-stops count mistake walk old now output output_now output_next d stops = absurd stops
dumping-stops count (refusal e) walk old now output output_now output_next d (refuses, kept) = (
  pages_lines d.pages,
  subst (λ (o : Option (List ℕ)). Appends output o (pages_lines d.pages)) (sym kept) d.prints,
  record {
    pages = d.pages;
    from = walk.from;
    between = now;
    walks = d.walks;
    lines = refl;
    refused = inl (subst (λ (a : At). RefusesPage a walk.from now e) d.at refuses);
  },
)
dumping-stops count (unopened cause) walk old now output output_now output_next d stops = absurd stops
dumping-stops count unread walk old now output output_now output_next d stops = absurd stops
dumping-stops count unwritten walk old now output output_now output_next d stops = tt

pub dumping-exhausted : (count : ℕ) (walk : WalkView) (old now : StoreView) (output output_now : Option (List ℕ)) → count ≡ 18446744073709551615
    → IsDumping count walk old now output output_now → StopsDumping (refusal Exhausted) old output output_now
dumping-exhausted count walk old now output output_now is d = (
  pages_lines d.pages,
  d.prints,
  record { pages = d.pages; from = walk.from; between = now; walks = d.walks; lines = refl; refused = inr (refl, d.number ∙ is) },
)

-- before the first page
pub dumping-not_begun : (s : StoreView) (output : Option (List ℕ)) → StopsDumping (refusal NoMemory) s output output
dumping-not_begun s output = ([], appends_none output, record { pages = []; from = Some []; between = s; walks = (refl, refl); lines = refl; refused = inl (inl refl) })

-- ---- a page

-- one that is refused
pub page-held : (e : Refusal) (walk then : WalkView) (now next : StoreView) (output : Option (List ℕ)) → IsHeld walk e then now next → StopsAtPage (refusal e) walk now output output
page-held e walk then now next output held = (refuses held.served, refl)
  where
    refuses : Serves now (Scan walk.at held.from None 64) (Refused e) next ⊎ ((e ≡ NoMemory) × (page : Page) × Serves now (Scan walk.at held.from None 64) (Rows page) next)
        → RefusesPage walk.at walk.from now e
    refuses (inl serves) = inr (held.from, next, held.begins, serves)
    refuses (inr (is, page, serves)) = inl is

-- one that isn't printed
pub page-unprinted : (reason : Reason) (walk : WalkView) (now : StoreView) (output output_next : Option (List ℕ)) → IsUnprinted reason output output_next
    → StopsAtPage reason walk now output output_next
page-unprinted mistake walk now output output_next told = absurd told
page-unprinted (refusal e) walk now output output_next (is, same) = (inl is, same)
page-unprinted (unopened cause) walk now output output_next told = absurd told
page-unprinted unread walk now output output_next told = absurd told
page-unprinted unwritten walk now output output_next told = tt

-- ---- the whole

-- what is told of a dump of a store that was opened
pub tells_stopped : (reason : Reason) (store : StoreView) (output output_after : Option (List ℕ)) → WasOpened store → StopsDumping reason store output output_after
    → TellsDumped reason output output_after
tells_stopped mistake store output output_after opened stops = absurd stops
tells_stopped (refusal e) store output output_after opened stops = inr (store, opened, stops)
tells_stopped (unopened cause) store output output_after opened stops = absurd stops
tells_stopped unread store output output_after opened stops = absurd stops
tells_stopped unwritten store output output_after opened stops = tt

-- or it was not
pub tells_unopened : (reason : Reason) (output : Option (List ℕ)) → IsRefusalBy IsOpeningRefusal reason → TellsDumped reason output output
tells_unopened mistake output is = absurd is
tells_unopened (refusal e) output is = inl (is, refl)
tells_unopened (unopened cause) output is = refl
tells_unopened unread output is = absurd is
tells_unopened unwritten output is = absurd is
