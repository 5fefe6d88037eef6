-- The batches of a life, counted step by step.
use Rattle.std.proofs.Common.{◌≡◌, ◌≤◌, ◌<◌, ℕ, ◌+◌, Bool, true, false, if◌then◌else◌, List, [], ◌∷◌, ◌++◌, length, map, drop, get_or, refl, ap, sym, subst, ◌∙◌, append_assoc, arith}
use Rattle.std.specs.Prelude.{nat_le}
use Rattle.std.proofs.lemmas.List.{append-nil, length-append, drop_more, drop_all}
use Rattle.lsm_codec.specs.Map.{Operation}
use Rattle.lsm_machine.specs.Calls.{Reply}
use Rattle.lsm_machine.specs.Calls.{Sync, SyncTo, Rotate, Done}
use Rattle.lsm_machine.specs.Machine.{Step, Called, Worked}
use Rattle.lsm_machine.specs.Promise.{accepted, accepted_by, acknowledged, acknowledged_by, acknowledged_from}
use Rattle.lsm_machine.specs.Work.{Install}
use Rattle.lsm_lives.specs.Asked.{step_in}
use Rattle.lsm_lives.specs.Calls.{asked_of, told_of}
use Rattle.lsm_explore.specs.Expected.{last_of, flies_by, flies_behind, reply_in, replies_of, steps_of}
use Rattle.lsm_lives.specs.declared.calls.Step.{Step as GivenStep}
use Rattle.lsm_lives.specs.declared.calls.Reply.{Reply as GivenReply}

abbrev Batches : Type 0
Batches = List (List Operation)

-- no more are acknowledged than were accepted
either_within : (b : Bool) (done known : ℕ) → known ≤ done → (if b then known else done) ≤ done
either_within true done known within = within
either_within false done known within = omega arith

acknowledged_within : (done known : ℕ) (step : Step) (reply : Reply) → known ≤ done → acknowledged_by 0 done known step reply ≤ done
acknowledged_within done known (Called Sync) Done within = omega arith
acknowledged_within done known (Called (SyncTo number)) Done within = either_within (nat_le number (0 + known)) done known within
acknowledged_within done known (Called Rotate) Done within = omega arith
acknowledged_within done known (Worked (Install job)) Done within = omega arith
acknowledged_within done known step reply within = within

-- With the steps and replies that are left, what was counted is what all of them tell.
pub record CountsSoFar (before flying : Batches) (known : ℕ) (steps : List Step) (replies : List Reply) (all_steps : List Step) (all_replies : List Reply) : Type 0 where
  pub accepts : before ++ accepted steps replies ≡ accepted all_steps all_replies
  pub flies : flies_behind flying steps replies ≡ flies_behind [] all_steps all_replies
  pub acknowledges : acknowledged_from 0 (length before) known steps replies ≡ acknowledged 0 all_steps all_replies
  pub least_within : known ≤ length before

pub none_counted : (none : Batches) (steps : List Step) (replies : List Reply) → none ≡ [] → CountsSoFar none [] 0 steps replies steps replies
none_counted none steps replies is = subst (λ (l : Batches). CountsSoFar l [] 0 steps replies steps replies) (sym is) (record { accepts = refl; flies = refl; acknowledges = refl; least_within = omega arith })

one_counted : (before flying after next : Batches) (known least : ℕ) (step : Step) (reply : Reply) (steps : List Step) (replies : List Reply) (all_steps : List Step) (all_replies : List Reply)
    → after ≡ before ++ accepted_by step reply → next ≡ last_of flying (flies_by step reply) → least ≡ acknowledged_by 0 (length before) known step reply
    → CountsSoFar before flying known (step ∷ steps) (reply ∷ replies) all_steps all_replies → CountsSoFar after next least steps replies all_steps all_replies
one_counted before flying after next known least step reply steps replies all_steps all_replies adds flies acknowledges counts =
    let long : length after ≡ length before + length (accepted_by step reply) = ap length adds ∙ length-append before (accepted_by step reply) in
    record {
      accepts = ap (λ (l : Batches). l ++ accepted steps replies) adds ∙ append_assoc before (accepted_by step reply) (accepted steps replies) ∙ counts.accepts;
      flies = ap (λ (l : Batches). flies_behind l steps replies) flies ∙ counts.flies;
      acknowledges = (λ i. acknowledged_from 0 (long i) (acknowledges i) steps replies) ∙ counts.acknowledges;
      least_within = omega (arith, long, acknowledges, acknowledged_within (length before) known step reply counts.least_within);
    }

-- ---- of steps and replies that are given

abbrev pub CountsAt : {A : Type 0} → Batches → Batches → ℕ → List (GivenStep A) → List (GivenReply A) → List (GivenStep A) → List (GivenReply A) → Type 0
CountsAt before flying known steps replies all_steps all_replies =
    CountsSoFar before flying known (steps_of (map asked_of steps)) (replies_of (map told_of replies)) (steps_of (map asked_of all_steps)) (replies_of (map told_of all_replies))

pub counted_more : {A : Type 0} (all_steps : List (GivenStep A)) (all_replies : List (GivenReply A)) (i : ℕ) (step : GivenStep A) (reply : GivenReply A) (before flying after next : Batches) (known least : ℕ)
    → i < length all_steps → i < length all_replies → get_or all_steps i step ≡ step → get_or all_replies i reply ≡ reply
    → after ≡ before ++ accepted_by (step_in [] (asked_of step)) (reply_in (told_of reply)) → next ≡ last_of flying (flies_by (step_in [] (asked_of step)) (reply_in (told_of reply)))
    → least ≡ acknowledged_by 0 (length before) known (step_in [] (asked_of step)) (reply_in (told_of reply))
    → CountsAt before flying known (drop i all_steps) (drop i all_replies) all_steps all_replies → CountsAt after next least (drop (i + 1) all_steps) (drop (i + 1) all_replies) all_steps all_replies
counted_more {A} all_steps all_replies i step reply before flying after next known least within has_reply is_step is_reply adds flies acknowledges counts =
    let steps : drop i all_steps ≡ step ∷ drop (i + 1) all_steps = drop_more all_steps i step within ∙ ap (λ (s : GivenStep A). s ∷ drop (i + 1) all_steps) is_step in
    let replies : drop i all_replies ≡ reply ∷ drop (i + 1) all_replies = drop_more all_replies i reply has_reply ∙ ap (λ (r : GivenReply A). r ∷ drop (i + 1) all_replies) is_reply in
    one_counted before flying after next known least (step_in [] (asked_of step)) (reply_in (told_of reply)) (steps_of (map asked_of (drop (i + 1) all_steps))) (replies_of (map told_of (drop (i + 1) all_replies)))
    (steps_of (map asked_of all_steps)) (replies_of (map told_of all_replies)) adds flies acknowledges
    (subst (λ (l : List (GivenStep A)). CountsAt before flying known l (reply ∷ drop (i + 1) all_replies) all_steps all_replies) steps
    (subst (λ (l : List (GivenReply A)). CountsAt before flying known (drop i all_steps) l all_steps all_replies) replies counts))

-- What was counted once all were looked at.
pub record AreCounted (all : Batches) (known : ℕ) (all_steps : List Step) (all_replies : List Reply) : Type 0 where
  pub batches : all ≡ accepted all_steps all_replies ++ flies_behind [] all_steps all_replies
  pub least : known ≡ acknowledged 0 all_steps all_replies
  pub within : known ≤ length all

counted : (before flying all : Batches) (known : ℕ) (all_steps : List Step) (all_replies : List Reply) → all ≡ before ++ flying → CountsSoFar before flying known [] [] all_steps all_replies
    → AreCounted all known all_steps all_replies
counted before flying all known all_steps all_replies is counts =
    let accepts : before ≡ accepted all_steps all_replies = sym (append-nil before) ∙ counts.accepts in
    record {
      batches = is ∙ (λ i. accepts i ++ counts.flies i);
      least = counts.acknowledges;
      within = omega (arith, counts.least_within, ap length is, length-append before flying);
    }

pub all_counted : {A : Type 0} (all_steps : List (GivenStep A)) (all_replies : List (GivenReply A)) (i : ℕ) (before flying all : Batches) (known : ℕ) → length all_steps ≤ i → length all_replies ≤ i → all ≡ before ++ flying
    → CountsAt before flying known (drop i all_steps) (drop i all_replies) all_steps all_replies → AreCounted all known (steps_of (map asked_of all_steps)) (replies_of (map told_of all_replies))
all_counted {A} all_steps all_replies i before flying all known past replied is counts =
    counted before flying all known (steps_of (map asked_of all_steps)) (replies_of (map told_of all_replies)) is
    (subst (λ (l : List (GivenStep A)). CountsAt before flying known l [] all_steps all_replies) (drop_all i all_steps past)
    (subst (λ (l : List (GivenReply A)). CountsAt before flying known (drop i all_steps) l all_steps all_replies) (drop_all i all_replies replied) counts))
