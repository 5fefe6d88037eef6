-- Lives of a `Db` keep the batches.
use Rattle.std.proofs.Common.{◌≡◌, ◌⊎◌, inl, inr, ℕ, List, [], ◌∷◌, map, Option, Result, Ok, Err, refl, ap, subst, ◌∙◌, arith}
use Rattle.std.specs.Prelude.{IfOk}
use Rattle.std.specs.List.{AllByRecursion}
use Rattle.std.specs.Global.{Global}
use Rattle.std.specs.declared.vec.Vec.{Vec}
use Rattle.lsm_device.specs.Disk.{Disk, image}
use Rattle.lsm_device.specs.Medium.{Medium, disk, zeroed}
use Rattle.lsm_device.specs.Memory.{medium_in}
use Rattle.lsm_device.specs.declared.memory.MemDevice.{MemDevice}
use Rattle.lsm_device.specs.Outcomes.{Leaves}
use Rattle.lsm_root.specs.CrashState.{CrashState, formatted}
use Rattle.lsm_open.specs.Image.{StandFor}
use Rattle.lsm_open.specs.Recovering.{StandForOne}
use Rattle.lsm_machine.specs.Calls.{Call, Reply}
use Rattle.lsm_machine.specs.Lives.{IsAfter}
use Rattle.lsm_machine.proofs.Lifelong.{promise_over_lives}
use Rattle.lsm_lives.specs.Asked.{Asked, Told}
use Rattle.lsm_lives.specs.Batches.{replies_by, acts_asked, replies_told}
use Rattle.lsm_lives.specs.Calls.{reply_of}
use Rattle.lsm_lives.specs.Leading.{LifeView as StoreLife, AreLed as AreStoreLed}
use Rattle.lsm_lives.specs.Living.{asked_in, Holds, AreLived, KeepPromise, others_after}
use Rattle.lsm_lives.specs.declared.calls.Reply.{Reply as GivenReply}
use Rattle.lsm_lives.specs.declared.calls.Reply.TheVariants as reply
use Rattle.lsm_lives.proofs.Beginnings.{kept_batches, kept_on}
use Rattle.lsm_lives.proofs.Lifetimes.{at_rest_holds, lives_led}
use Rattle.corwaphi_lives.specs.Batches.{AreLivesTold, KeepsDbBatches}
use Rattle.corwaphi_lives.specs.Calls.{calls_of, calls_by}
use Rattle.corwaphi_lives.specs.Devices.{KeepsDbBatchesOn}
use Rattle.corwaphi_lives.specs.Leading.{LifeView, life_of, AreLed, AreLedOn}
use Rattle.corwaphi_lives.specs.declared.calls.DbLife.{DbLife}
use Rattle.corwaphi_lives.proofs.Led.{leads_store}
use Rattle.corwaphi_lives.proofs.Stepping.{IsPlain, ArePlain}

-- ---- lives of its store

record AreStoreLives (lives : List LifeView) (before : Medium) (told : List (List Reply)) (after : Medium) : Type 0 where
  views : List StoreLife
  answers : List (List Told)
  led : AreStoreLed views before answers after
  told_so : AreLivesTold (acts_asked (asked_in views)) (replies_told answers) (map (λ life. life.calls) lives) told

store_lives : (lives : List LifeView) (before : Medium) (told : List (List Reply)) (after : Medium) → AllByRecursion ArePlain told → AreLed lives before told after → AreStoreLives lives before told after
store_lives [] before [] after plain same = record { views = []; answers = []; led = same; told_so = tt }
store_lives (life ∷ lives) before (told ∷ rest) after plain (mid, leads, led) =
    let one = leads_store life before told mid plain.0 leads in
    let more = store_lives lives mid rest after plain.1 led in
    record { views = one.view ∷ more.views; answers = one.answers ∷ more.answers; led = (mid, one.leads, more.led); told_so = (one.told_so, more.told_so) }
store_lives [] before (told ∷ rest) after plain led = absurd led
store_lives (life ∷ lives) before [] after plain led = absurd led

-- ---- the promise

no_others : (lives : List (List Asked)) → others_after [] lives ≡ []
no_others [] = refl
no_others (asked ∷ lives) = refl

one_alone : (log_sectors : ℕ) (left : CrashState) (sectors : List (List ℕ)) → StandFor log_sectors left sectors ⊎ StandForOne log_sectors [] sectors → StandFor log_sectors left sectors
one_alone log_sectors left sectors (inl is) = is
one_alone log_sectors left sectors (inr (other, found, is)) = absurd (omega (arith, found.1))

no_batches : IsAfter [] formatted
no_batches = record { count = refl; same_map = refl }

module _ (log_sectors : ℕ) (lives : List (List Asked)) (answers : List (List Told)) (d : Disk) where
  only : (lived : AreLived log_sectors formatted [] lives answers d) → Holds log_sectors lived.left [] d
  only lived = subst (λ (os : List CrashState). Holds log_sectors lived.left os d) (no_others lives) lived.holds

  promised : AreLived log_sectors formatted [] lives answers d → KeepPromise log_sectors [] formatted lives answers d
  promised lived =
      let kept = promise_over_lives log_sectors [] formatted lived.steps lived.replies lived.left no_batches lived.are in
      record {
        steps = lived.steps;
        replies = lived.replies;
        told = lived.told;
        batches = kept.0;
        left = lived.left;
        keeps = kept.1;
        device = λ mask. one_alone log_sectors lived.left (image mask d) ((only lived).crashes mask);
      }

-- ---- what values tell

plain_value : (answer : GivenReply Global) → IsPlain (reply_of answer)
plain_value (reply.Number n) = refl
plain_value reply.Done = refl
plain_value (reply.Value value) = refl
plain_value (reply.Page page) = refl
plain_value (reply.Taken job) = refl
plain_value (reply.Built result tables) = refl
plain_value (reply.Refused e) = refl

pub plain_values : (answers : List (GivenReply Global)) → ArePlain (map reply_of answers)
plain_values [] = tt
plain_values (answer ∷ rest) = (plain_value answer, plain_values rest)

all_plain : (answers : List (Vec (GivenReply Global) Global)) → AllByRecursion ArePlain (replies_by answers)
all_plain [] = tt
all_plain (replies ∷ rest) = (plain_values replies.items, all_plain rest)

calls_in : (lives : List DbLife) → map (λ (life : LifeView). life.calls) (map life_of lives) ≡ calls_by lives
calls_in [] = refl
calls_in (life ∷ lives) = ap (λ (l : List (List (Option Call))). calls_of life ∷ l) (calls_in lives)

-- ---- lives on a device that was formatted

module _ (log_sectors : ℕ) (lives : List DbLife) (answers : List (Vec (GivenReply Global) Global)) (before after : Medium)
    (leaves : Leaves (StandFor log_sectors formatted) (disk before)) (led : AreLed (map life_of lives) before (replies_by answers) after) where
  behind : AreStoreLives (map life_of lives) before (replies_by answers) after
  behind = store_lives (map life_of lives) before (replies_by answers) after (all_plain answers) led

  kept : (s : AreStoreLives (map life_of lives) before (replies_by answers) after) → KeepPromise log_sectors [] formatted (asked_in s.views) s.answers (disk after)
  kept s = promised log_sectors (asked_in s.views) s.answers (disk after)
      (lives_led s.views before s.answers after s.led log_sectors formatted [] (at_rest_holds log_sectors formatted (disk before) leaves))

  told_so : (s : AreStoreLives (map life_of lives) before (replies_by answers) after) → AreLivesTold (acts_asked (asked_in s.views)) (replies_told s.answers) (calls_by lives) (replies_by answers)
  told_so s = subst (λ (calls : List (List (Option Call))). AreLivesTold (acts_asked (asked_in s.views)) (replies_told s.answers) calls (replies_by answers)) (calls_in lives) s.told_so

  pub lives_keep_batches : KeepsDbBatches log_sectors (calls_by lives) (replies_by answers)
  lives_keep_batches =
      let s = behind in
      record {
        acts = acts_asked (asked_in s.views);
        replies = replies_told s.answers;
        keeps = kept_batches log_sectors [] formatted (asked_in s.views) s.answers (disk after) (kept s);
        told_so = told_so s;
      }

  pub lives_keep_on : KeepsDbBatchesOn log_sectors (calls_by lives) (replies_by answers) (disk after)
  lives_keep_on =
      let s = behind in
      record {
        acts = acts_asked (asked_in s.views);
        replies = replies_told s.answers;
        keeps = kept_on log_sectors [] formatted (asked_in s.views) s.answers (disk after) (kept s);
        told_so = told_so s;
      }

pub led_on : (sectors log_sectors : ℕ) (lives : List LifeView) (told : List (List Reply)) (new device after : Medium)
    → new ≡ zeroed sectors → device.size ≡ new.size → device.lasting ≡ new.lasting → Leaves (StandFor log_sectors formatted) (disk device) → AreLed lives device told after
    → AreLedOn sectors log_sectors lives told after
led_on sectors log_sectors lives told new device after zeros same_size same_lasting leaves led = record {
  device = device;
  size = same_size ∙ ap (λ (m : Medium). m.size) zeros;
  lasting = same_lasting ∙ ap (λ (m : Medium). m.lasting) zeros;
  leaves = leaves;
  led = led;
}

-- ---- where they were led

pub all_keep_batches : {E : Type 0} (log_sectors : ℕ) (lives : List DbLife) (r : Result (Vec (Vec (GivenReply Global) Global) Global × MemDevice Global) E) (before : Medium)
    → Leaves (StandFor log_sectors formatted) (disk before) → IfOk r (λ given. AreLed (map life_of lives) before (replies_by given.0.items) (medium_in given.1))
    → IfOk r (λ given. KeepsDbBatches log_sectors (calls_by lives) (replies_by given.0.items))
all_keep_batches log_sectors lives (Ok given) before leaves led = lives_keep_batches log_sectors lives given.0.items before (medium_in given.1) leaves led
all_keep_batches log_sectors lives (Err e) before leaves led = tt

pub all_keep_on : {E : Type 0} (log_sectors : ℕ) (lives : List DbLife) (r : Result (Vec (Vec (GivenReply Global) Global) Global × MemDevice Global) E) (before : Medium)
    → Leaves (StandFor log_sectors formatted) (disk before) → IfOk r (λ given. AreLed (map life_of lives) before (replies_by given.0.items) (medium_in given.1))
    → IfOk r (λ given. KeepsDbBatchesOn log_sectors (calls_by lives) (replies_by given.0.items) (disk (medium_in given.1)))
all_keep_on log_sectors lives (Ok given) before leaves led = lives_keep_on log_sectors lives given.0.items before (medium_in given.1) leaves led
all_keep_on log_sectors lives (Err e) before leaves led = tt

pub all_led_on : {E : Type 0} (sectors log_sectors : ℕ) (lives : List LifeView) (r : Result (Vec (Vec (GivenReply Global) Global) Global × MemDevice Global) E) (new device : Medium)
    → new ≡ zeroed sectors → device.size ≡ new.size → device.lasting ≡ new.lasting → Leaves (StandFor log_sectors formatted) (disk device)
    → IfOk r (λ given. AreLed lives device (replies_by given.0.items) (medium_in given.1)) → IfOk r (λ given. AreLedOn sectors log_sectors lives (replies_by given.0.items) (medium_in given.1))
all_led_on sectors log_sectors lives (Ok given) new device zeros same_size same_lasting leaves led =
    led_on sectors log_sectors lives (replies_by given.0.items) new device (medium_in given.1) zeros same_size same_lasting leaves led
all_led_on sectors log_sectors lives (Err e) new device zeros same_size same_lasting leaves led = tt
