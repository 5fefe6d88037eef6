-- Lives one after another.
use Rattle.std.proofs.Common.{◌≡◌, ◌≢◌, ◌⊎◌, ◌<◌, ◌≤◌, inl, inr, ℕ, zero, suc, ◌+◌, true, List, [], ◌∷◌, ◌++◌, length, map, get_or, take, drop, set, replicate, refl, ap, sym, subst, ◌∙◌, arith}
use Rattle.std.specs.Prelude.{Contains, IsNone, vec_len, vec_capacity}
use Rattle.std.specs.List.{AllByRecursion}
use Rattle.std.specs.declared.vec.Vec.{Vec}
use Rattle.std.proofs.lemmas.List.{drop_more, take_more, take_more_set, drop-set-lt, map_push}
use Rattle.lsm_codec.specs.Map.{Operation}
use Rattle.lsm_device.specs.Disk.{Disk, image}
use Rattle.lsm_device.specs.Medium.{Medium, disk}
use Rattle.lsm_device.specs.Outcomes.{Leaves}
use Rattle.lsm_device.proofs.Outcomes.{seen_outcome}
use Rattle.lsm_root.specs.CrashState.{CrashState}
use Rattle.lsm_open.specs.Image.{StandFor}
use Rattle.lsm_open.specs.Recovering.{StandForOne}
use Rattle.lsm_store.specs.Backing.{StoreView, IsBacked}
use Rattle.lsm_machine.specs.Crash.{may_leave, last_crash_state}
use Rattle.lsm_machine.specs.Lives.{IsAfter}
use Rattle.lsm_machine.proofs.Lifelong.{promise_over_lives}
use Rattle.lsm_lives.specs.Asked.{Asked, Told}
use Rattle.lsm_lives.specs.Calls.{asked_of, told_of}
use Rattle.lsm_lives.specs.declared.calls.Reply.{Reply as GivenReply}
use Rattle.lsm_lives.specs.declared.living.Life.{Life as Given}
use Rattle.lsm_lives.specs.Leading.{LifeView, life_of, LeadsTo, AreLed}
use Rattle.lsm_lives.specs.Living.{asked_by, asked_in, told_by, Holds, AreLived, KeepPromise, HavePlaces, others_after}
use Rattle.lsm_lives.proofs.Lived.{life_led}

-- ---- places

pub length-places : {A : Type 0} (lives : List (Given A)) (places : List (Vec (GivenReply A) A)) → HavePlaces lives places → length places ≡ length lives
length-places [] [] have = refl
length-places (life ∷ lives) (place ∷ places) have = ap suc (length-places lives places have.2)
length-places [] (place ∷ places) have = absurd have
length-places (life ∷ lives) [] have = absurd have

module _ {A : Type 0} (life : Given A) (place : Vec (GivenReply A) A) (none : place.items ≡ []) (room : vec_len life.steps + 1 ≤ vec_capacity place) where
  one_place_more : (lives : List (Given A)) (places : List (Vec (GivenReply A) A)) → HavePlaces lives places → HavePlaces (lives ++ life ∷ []) (places ++ place ∷ [])
  one_place_more [] [] have = (none, room, tt)
  one_place_more (first ∷ lives) (its ∷ places) have = (have.0, have.1, one_place_more lives places have.2)
  one_place_more [] (its ∷ places) have = absurd have
  one_place_more (first ∷ lives) [] have = absurd have

-- a life more has its place
pub place_made : {A : Type 0} (lives : List (Given A)) (places after : List (Vec (GivenReply A) A)) (i : ℕ) (life : Given A) (place : Vec (GivenReply A) A)
    → i < length lives → life ≡ get_or lives i life → after ≡ places ++ place ∷ [] → place.items ≡ [] → vec_len life.steps + 1 ≤ vec_capacity place
    → HavePlaces (take i lives) places → HavePlaces (take (i + 1) lives) after
place_made {A} lives places after i life place within is pushed none room have =
    subst (λ (l : List (Given A)). HavePlaces l after) (sym (take_more lives i life within ∙ ap (λ (l : Given A). take i lives ++ l ∷ []) (sym is)))
    (subst (HavePlaces (take i lives ++ life ∷ [])) (sym pushed) (one_place_more life place none room (take i lives) places have))

-- a place was taken
pub places_left : {A : Type 0} (lives : List (Given A)) (places : List (Vec (GivenReply A) A)) (i : ℕ) (life : Given A) (new : Vec (GivenReply A) A)
    → i < length lives → i < length places → life ≡ get_or lives i life
    → HavePlaces (drop i lives) (drop i places) → HavePlaces (drop (i + 1) lives) (drop (i + 1) (set places i new))
places_left {A} lives places i life new in_lives in_places is have =
    let all = subst (λ (l : List (Vec (GivenReply A) A)). HavePlaces (get_or lives i life ∷ drop (i + 1) lives) l) (drop_more places i new in_places)
    (subst (λ (l : List (Given A)). HavePlaces l (drop i places)) (drop_more lives i life in_lives) have) in
    subst (HavePlaces (drop (i + 1) lives)) (sym (drop-set-lt (i + 1) places i new (omega arith))) all.2

-- ---- one life more

pub lives_more : {A : Type 0} (lives : List (Given A)) (i : ℕ) (life : Given A) → i < length lives → life ≡ get_or lives i life
    → map life_of (take (i + 1) lives) ≡ map life_of (take i lives) ++ life_of life ∷ []
lives_more {A} lives i life within is =
    ap (λ (l : List (Given A)). map life_of l) (take_more lives i life within ∙ ap (λ (l : Given A). take i lives ++ l ∷ []) (sym is))
    ∙ map_push (λ (l : Given A). life_of l) (take i lives) life

pub replies_more : {A : Type 0} (places : List (Vec (GivenReply A) A)) (i : ℕ) (new : Vec (GivenReply A) A) → i < length places
    → told_by (take (i + 1) (set places i new)) ≡ told_by (take i places) ++ map told_of new.items ∷ []
replies_more {A} places i new within =
    ap (λ (l : List (Vec (GivenReply A) A)). told_by l) (take_more_set places i new within) ∙ map_push (λ (v : Vec (GivenReply A) A). map told_of v.items) (take i places) new

-- one led after others
module _ (life : LifeView) (told : List Told) (mid after : Medium) (leads : LeadsTo life mid told after) where
  pub led_more : (lives : List LifeView) (before : Medium) (answers : List (List Told)) → AreLed lives before answers mid
      → AreLed (lives ++ life ∷ []) before (answers ++ told ∷ []) after
  led_more [] before [] led = (after, subst (λ (m : Medium). LeadsTo life m told after) led leads, refl)
  led_more (first ∷ lives) before (its ∷ answers) led = (led.0, led.1, led_more lives led.0 answers led.2)
  led_more [] before (its ∷ answers) led = absurd led
  led_more (first ∷ lives) before [] led = absurd led

pub some_life : {A : Type 0} (lives : List (Given A)) → lives ≢ [] → 0 < length lives
some_life [] some = absurd (some refl)
some_life (life ∷ lives) some = omega arith

-- ---- lives on a device that held what a crash left

no_others : (lives : List (List Asked)) → others_after [] lives ≡ []
no_others [] = refl
no_others (asked ∷ lives) = refl

pub lives_led : (lives : List LifeView) (before : Medium) (told : List (List Told)) (after : Medium) → AreLed lives before told after
    → (log_sectors : ℕ) (opened : CrashState) (others : List CrashState) → Holds log_sectors opened others (disk before)
    → AreLived log_sectors opened others (asked_in lives) told (disk after)
lives_led [] before [] after same log_sectors opened others holds = record {
  steps = [];
  replies = [];
  told = tt;
  left = opened;
  are = refl;
  holds = subst (λ (m : Medium). Holds log_sectors opened others (disk m)) (sym same) holds;
}
lives_led (life ∷ lives) before (told ∷ rest) after (mid, leads, led) log_sectors opened others holds =
    let one = life_led log_sectors opened others life before told mid leads holds in
    let more = lives_led lives mid rest after led log_sectors one.left [] one.holds in
    record {
      steps = one.steps ∷ more.steps;
      replies = one.replies ∷ more.replies;
      told = (one.told, more.told);
      left = more.left;
      are = (one.left, one.life, more.are);
      holds = subst (λ (os : List CrashState). Holds log_sectors more.left os (disk after)) (no_others (asked_in lives)) more.holds;
    }
lives_led [] before (told ∷ rest) after led log_sectors opened others holds = absurd led
lives_led (life ∷ lives) before [] after led log_sectors opened others holds = absurd led

-- ---- in the words of batches

-- a device of which every crash leaves the same
pub at_rest_holds : (log_sectors : ℕ) (opened : CrashState) (d : Disk) → Leaves (StandFor log_sectors opened) d → Holds log_sectors opened [] d
at_rest_holds log_sectors opened d leaves = record {
  reads = subst (StandFor log_sectors opened) (seen_outcome d) (leaves (replicate (length d.pending) true));
  crashes = λ mask. inl (leaves mask);
}

-- the device of a store
pub running_holds : (s : StoreView) → IsBacked s → IsNone s.state.stopped → Holds s.state.log_sectors (last_crash_state s.state) (may_leave s.state) (disk s.device)
running_holds s backed runs = record { reads = backed.reads runs; crashes = λ mask. inr (backed.crashes mask) }

pub stopped_holds : (s : StoreView) → IsBacked s → (left : CrashState) × Contains (may_leave s.state) left × Holds s.state.log_sectors left (may_leave s.state) (disk s.device)
stopped_holds s backed =
    let d = disk s.device in
    let read = subst (StandForOne s.state.log_sectors (may_leave s.state)) (seen_outcome d) (backed.crashes (replicate (length d.pending) true)) in
    (read.0, read.1, record { reads = read.2; crashes = λ mask. inr (backed.crashes mask) })

one_alone : (log_sectors : ℕ) (left : CrashState) (sectors : List (List ℕ)) → StandFor log_sectors left sectors ⊎ StandForOne log_sectors [] sectors → StandFor log_sectors left sectors
one_alone log_sectors left sectors (inl is) = is
one_alone log_sectors left sectors (inr (other, found, is)) = absurd (omega (arith, found.1))

module _ (log_sectors : ℕ) (before : List (List Operation)) (opened : CrashState) (was : IsAfter before opened) (lives : List (List Asked)) (answers : List (List Told)) (d : Disk) where
  only : (lived : AreLived log_sectors opened [] lives answers d) → Holds log_sectors lived.left [] d
  only lived = subst (λ (os : List CrashState). Holds log_sectors lived.left os d) (no_others lives) lived.holds

  promise_kept : AreLived log_sectors opened [] lives answers d → KeepPromise log_sectors before opened lives answers d
  promise_kept lived =
      let kept = promise_over_lives log_sectors before opened lived.steps lived.replies lived.left was lived.are in
      record {
        steps = lived.steps;
        replies = lived.replies;
        told = lived.told;
        batches = kept.0;
        left = lived.left;
        keeps = kept.1;
        device = λ mask. one_alone log_sectors lived.left (image mask d) ((only lived).crashes mask);
      }

asked_by-life : {A : Type 0} (lives : List (Given A)) → asked_in (map life_of lives) ≡ asked_by lives
asked_by-life [] = refl
asked_by-life (life ∷ lives) = ap (λ (rest : List (List Asked)). map asked_of life.steps.items ∷ rest) (asked_by-life lives)

pub led_keep_promise : {A : Type 0} (lives : List (Given A)) (before : Medium) (told : List (List Told)) (after : Medium) → AreLed (map life_of lives) before told after
    → (log_sectors : ℕ) (batches : List (List Operation)) (opened : CrashState) → IsAfter batches opened → Leaves (StandFor log_sectors opened) (disk before)
    → KeepPromise log_sectors batches opened (asked_by lives) told (disk after)
led_keep_promise {A} lives before told after led log_sectors batches opened was leaves =
    subst (λ (asked : List (List Asked)). KeepPromise log_sectors batches opened asked told (disk after)) (asked_by-life lives)
    (promise_kept log_sectors batches opened was (asked_in (map life_of lives)) told (disk after)
    (lives_led (map life_of lives) before told after led log_sectors opened [] (at_rest_holds log_sectors opened (disk before) leaves)))

-- ---- places of results

-- each life has no more steps than there are places
abbrev pub HaveRoom : {A : Type 0} → ℕ → List (Given A) → Type 0
HaveRoom places lives = AllByRecursion (λ life. vec_len life.steps ≤ places) lives

pub room_more : {A : Type 0} (n m : ℕ) (lives : List (Given A)) → n ≤ m → HaveRoom n lives → HaveRoom m lives
room_more n m [] within have = tt
room_more n m (life ∷ lives) within have = (omega (arith, have.0, within), room_more n m lives within have.1)

pub room_push : {A : Type 0} (n : ℕ) (lives : List (Given A)) (life : Given A) → HaveRoom n lives → vec_len life.steps ≤ n → HaveRoom n (lives ++ life ∷ [])
room_push n [] life have within = (within, tt)
room_push n (first ∷ lives) life have within = (have.0, room_push n lives life have.1 within)

pub room_at : {A : Type 0} (n i : ℕ) (lives : List (Given A)) (life : Given A) → HaveRoom n lives → i < length lives → life ≡ get_or lives i life → vec_len life.steps ≤ n
room_at n zero (first ∷ lives) life have within is = subst (λ (l : Given _). vec_len l.steps ≤ n) (sym is) have.0
room_at n (suc i) (first ∷ lives) life have within is = room_at n i lives life have.1 (omega (arith, within)) is
room_at n i [] life have within is = absurd (omega (arith, within))
