-- Places for the replies of lives, one after another.
use Rattle.std.proofs.Common.{◌≡◌, ◌<◌, ◌≤◌, ℕ, suc, ◌+◌, List, [], ◌∷◌, ◌++◌, length, map, get_or, take, drop, set, refl, ap, sym, subst, ◌∙◌, arith, append_assoc}
use Rattle.std.specs.Prelude.{Option, vec_len, vec_capacity}
use Rattle.std.specs.Global.{Global}
use Rattle.std.specs.declared.vec.Vec.{Vec}
use Rattle.std.proofs.lemmas.List.{drop_more, take_more, take_more_set, drop-set-lt, map_push}
use Rattle.lsm_device.specs.Medium.{Medium}
use Rattle.lsm_device.specs.declared.refusal.Refusal.{Refusal}
use Rattle.lsm_device.specs.declared.refusal.Refusal.TheVariants.{Stopped}
use Rattle.lsm_store.specs.Backing.{StoreView}
use Rattle.lsm_machine.specs.Calls.{Call, Reply}
use Rattle.lsm_machine.specs.Calls.{Number, Refused}
use Rattle.lsm_machine.specs.RecoveryPoints.{batch_count}
use Rattle.lsm_lives.specs.Batches.{replies_by}
use Rattle.lsm_lives.specs.Calls.{reply_of}
use Rattle.lsm_lives.specs.Leading.{FailsOn}
use Rattle.lsm_lives.specs.declared.calls.Reply.{Reply as GivenReply}
use Rattle.corwaphi_lives.specs.Calls.{call_of}
use Rattle.corwaphi_lives.specs.Leading.{LifeView, life_of, Does, DoesEach, AddsReplies, BeginsDb, IsLed, LeadsTo, AreLed, HavePlaces}
use Rattle.corwaphi_lives.specs.declared.calls.DbCall.{DbCall}
use Rattle.corwaphi_lives.specs.declared.calls.DbLife.{DbLife}

abbrev Places : Type 0
Places = List (Vec (GivenReply Global) Global)

pub length-places : (lives : List DbLife) (places : Places) → HavePlaces lives places → length places ≡ length lives
length-places [] [] have = refl
length-places (life ∷ lives) (place ∷ places) have = ap suc (length-places lives places have.2)
length-places [] (place ∷ places) have = absurd have
length-places (life ∷ lives) [] have = absurd have

module _ (life : DbLife) (place : Vec (GivenReply Global) Global) (none : place.items ≡ []) (room : vec_len life.calls + 1 ≤ vec_capacity place) where
  one_place_more : (lives : List DbLife) (places : Places) → HavePlaces lives places → HavePlaces (lives ++ life ∷ []) (places ++ place ∷ [])
  one_place_more [] [] have = (none, room, tt)
  one_place_more (first ∷ lives) (its ∷ places) have = (have.0, have.1, one_place_more lives places have.2)
  one_place_more [] (its ∷ places) have = absurd have
  one_place_more (first ∷ lives) [] have = absurd have

-- a life more has its place
pub place_made : (lives : List DbLife) (places after : Places) (i : ℕ) (life : DbLife) (place : Vec (GivenReply Global) Global)
    → i < length lives → life ≡ get_or lives i life → after ≡ places ++ place ∷ [] → place.items ≡ [] → vec_len life.calls + 1 ≤ vec_capacity place
    → HavePlaces (take i lives) places → HavePlaces (take (i + 1) lives) after
place_made lives places after i life place within is pushed none room have =
    subst (λ (l : List DbLife). HavePlaces l after) (sym (take_more lives i life within ∙ ap (λ (l : DbLife). take i lives ++ l ∷ []) (sym is)))
    (subst (HavePlaces (take i lives ++ life ∷ [])) (sym pushed) (one_place_more life place none room (take i lives) places have))

-- a place was taken
pub places_left : (lives : List DbLife) (places : Places) (i : ℕ) (life : DbLife) (new : Vec (GivenReply Global) Global)
    → i < length lives → i < length places → life ≡ get_or lives i life
    → HavePlaces (drop i lives) (drop i places) → HavePlaces (drop (i + 1) lives) (drop (i + 1) (set places i new))
places_left lives places i life new in_lives in_places is have =
    let all = subst (λ (l : Places). HavePlaces (get_or lives i life ∷ drop (i + 1) lives) l) (drop_more places i new in_places)
    (subst (λ (l : List DbLife). HavePlaces l (drop i places)) (drop_more lives i life in_lives) have) in
    subst (HavePlaces (drop (i + 1) lives)) (sym (drop-set-lt (i + 1) places i new (omega arith))) all.2

-- ---- one life more

pub lives_more : (lives : List DbLife) (i : ℕ) (life : DbLife) → i < length lives → life ≡ get_or lives i life
    → map life_of (take (i + 1) lives) ≡ map life_of (take i lives) ++ life_of life ∷ []
lives_more lives i life within is =
    ap (λ (l : List DbLife). map life_of l) (take_more lives i life within ∙ ap (λ (l : DbLife). take i lives ++ l ∷ []) (sym is))
    ∙ map_push (λ (l : DbLife). life_of l) (take i lives) life

pub replies_more : (places : Places) (i : ℕ) (new : Vec (GivenReply Global) Global) → i < length places
    → replies_by (take (i + 1) (set places i new)) ≡ replies_by (take i places) ++ map reply_of new.items ∷ []
replies_more places i new within =
    ap (λ (l : Places). replies_by l) (take_more_set places i new within) ∙ map_push (λ (v : Vec (GivenReply Global) Global). map reply_of v.items) (take i places) new

-- one led after others
module _ (life : LifeView) (told : List Reply) (mid after : Medium) (leads : LeadsTo life mid told after) where
  pub led_more : (lives : List LifeView) (before : Medium) (answers : List (List Reply)) → AreLed lives before answers mid
      → AreLed (lives ++ life ∷ []) before (answers ++ told ∷ []) after
  led_more [] before [] led = (after, subst (λ (m : Medium). LeadsTo life m told after) led leads, refl)
  led_more (first ∷ lives) before (its ∷ answers) led = (led.0, led.1, led_more lives led.0 answers led.2)
  led_more [] before (its ∷ answers) led = absurd led
  led_more (first ∷ lives) before [] led = absurd led

-- ---- one call more

pub calls_more : (calls : List DbCall) (i : ℕ) (call : DbCall) → i < length calls → call ≡ get_or calls i call → map call_of (take (i + 1) calls) ≡ map call_of (take i calls) ++ call_of call ∷ []
calls_more calls i call within is =
    ap (λ (l : List DbCall). map call_of l) (take_more calls i call within ∙ ap (λ (c : DbCall). take i calls ++ c ∷ []) (sym is))
    ∙ map_push (λ (c : DbCall). call_of c) (take i calls) call

module _ (call : Option Call) (told : Reply) (mid new : StoreView) (does : Does mid call told new) where
  pub does_more : (calls : List (Option Call)) (answers : List Reply) (old : StoreView) → DoesEach old calls answers mid → DoesEach old (calls ++ call ∷ []) (answers ++ told ∷ []) new
  does_more [] [] old same = (new, subst (λ (s : StoreView). Does s call told new) same does, refl)
  does_more (first ∷ calls) (its ∷ answers) old each = (each.0, each.1, does_more calls answers each.0 each.2)
  does_more [] (its ∷ answers) old each = absurd each
  does_more (first ∷ calls) [] old each = absurd each

-- a call was made, and its reply added
pub adds_more : (old mid new : StoreView) (calls : List DbCall) (i : ℕ) (call : DbCall) (before done after : List (GivenReply Global)) (told : GivenReply Global)
    → i < length calls → call ≡ get_or calls i call → AddsReplies old (map call_of (take i calls)) (map reply_of before) (map reply_of done) mid
    → Does mid (call_of call) (reply_of told) new → after ≡ done ++ told ∷ [] → AddsReplies old (map call_of (take (i + 1) calls)) (map reply_of before) (map reply_of after) new
adds_more old mid new calls i call before done after told within is adds does pushed =
    subst (λ (l : List (Option Call)). AddsReplies old l (map reply_of before) (map reply_of after) new) (sym (calls_more calls i call within is))
    (record {
      more = adds.more ++ reply_of told ∷ [];
      added = ap (λ (l : List (GivenReply Global)). map reply_of l) pushed ∙ map_push (λ (r : GivenReply Global). reply_of r) done told
          ∙ ap (λ (l : List Reply). l ++ reply_of told ∷ []) adds.added ∙ append_assoc (map reply_of before) adds.more (reply_of told ∷ []);
      does = does_more (call_of call) (reply_of told) mid new does (map call_of (take i calls)) adds.more old adds.does;
    })

-- the first reply
pub reply_first : (done after : List (GivenReply Global)) (reply : GivenReply Global) → done ≡ [] → after ≡ done ++ reply ∷ [] → map reply_of after ≡ reply_of reply ∷ []
reply_first done after reply none is = ap (λ (all : List (GivenReply Global)). map reply_of all) (is ∙ ap (λ (all : List (GivenReply Global)). all ++ reply ∷ []) none)

-- ---- a life until its crash

module _ (before : Medium) (calls : List (Option Call)) (told : List Reply) (after : Medium) where
  pub led_opened : (ready end : StoreView) (more : List Reply) (n : ℕ) → BeginsDb before ready → DoesEach ready calls more end → after ≡ end.device
      → n ≡ batch_count ready.state.points → told ≡ Number n ∷ more → IsLed before calls told after
  led_opened ready end more n begins does into counted is = subst (λ (all : List Reply). IsLed before calls all after) (sym is) (ready, begins, counted, end, does, into)

  pub led_refused : (refusal : Refusal) → FailsOn before refusal after → told ≡ Refused refusal ∷ map (λ _. Refused Stopped) calls → IsLed before calls told after
  led_refused refusal fails is = subst (λ (all : List Reply). IsLed before calls all after) (sym is) (fails, refl)
