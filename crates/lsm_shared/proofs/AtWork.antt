-- What turns of a worker, and results that it brings, add to its entries.
use Rattle.std.proofs.Common.{◌≡◌, ◌⊎◌, ◌<◌, ◌≤◌, inl, inr, ⊎_elim, ℕ, suc, ◌+◌, List, [], ◌∷◌, ◌++◌, refl, ap, sym, subst, ◌∙◌, arith}
use Rattle.std.proofs.lemmas.Bool.{cases_lt}
use Rattle.std.specs.Prelude.{Ok, Err, Bool, true, false, is_some, Option, Some, None, if◌then◌else◌}
use Rattle.std.specs.Arc.{arc_value}
use Rattle.std.specs.Global.{Global}
use Rattle.std.specs.Option.{option_map}
use Rattle.std.specs.declared.sync.Arc.{Arc}
use Rattle.lsm_device.specs.declared.refusal.Refusal.{Refusal}
use Rattle.lsm_device.specs.declared.refusal.Refusal.TheVariants.{BadLimit, NoSpace}
use Rattle.lsm_merge.specs.Inputs.{MergeInput}
use Rattle.lsm_merge.specs.Results.{MergeResult}
use Rattle.lsm_machine.specs.Calls.{Reply}
use Rattle.lsm_machine.specs.Calls.{Refused}
use Rattle.lsm_machine.specs.Machine.{Machine, Step}
use Rattle.lsm_machine.specs.Work.{Work}
use Rattle.lsm_lives.specs.Asked.{Told}
use Rattle.lsm_lives.specs.declared.calls.Reply.{Reply as GivenReply}
use Rattle.lsm_trail.specs.History.{Event, steps_of, is_call, calls_in, machine_after}
use Rattle.lsm_trail.specs.Knowledge.{Known, Sees}
use Rattle.lsm_shared.specs.Clients.{Adds}
use Rattle.lsm_shared.specs.Due.{next_due}
use Rattle.lsm_shared.specs.Turns.{as_steps, pieces_among, IsTurn, TakesNext, IsNoNext, TakesDue, IsNotDue, IsBrought, Brings, IsLeftOfBringing, IsNotBrought}
use Rattle.lsm_shared.specs.declared.turn.Turn.{Turn}
use Rattle.lsm_shared.specs.declared.turn.Turn.TheVariants as turn
use Rattle.lsm_shared.specs.Workers.{MakesNoCall, Rests, MayPart, Delivers, DeliversNot, EndsTurn, Chooses, FindsIdle, EndsInVain, TakesWhole, TakesTurns, TakesUpTo}

-- how many calls are among steps
abbrev calls_among : List Step → ℕ
calls_among [] = 0
calls_among (step ∷ steps) = (if is_call step then 1 else 0) + calls_among steps

of_steps : (log : List Event) → calls_in log ≡ calls_among (steps_of log)
of_steps [] = refl
of_steps (e ∷ log) = omega (arith, of_steps log)

of_work : (pieces : List Work) → calls_among (as_steps pieces) ≡ 0
of_work [] = refl
of_work (piece ∷ pieces) = omega (arith, of_work pieces)

of_both : (xs ys : List Event) → calls_in (xs ++ ys) ≡ calls_in xs + calls_in ys
of_both [] ys = omega arith
of_both (x ∷ xs) ys = omega (arith, of_both xs ys)

-- entries that are pieces of work leave the calls as they are
adds_none : (c d : Known) (others entries : List Event) → Adds c others entries d → calls_in entries ≡ 0 → MakesNoCall c d
adds_none c d others entries adds none = record {
  number = adds.number;
  calls = omega (arith, ap calls_in adds.mine, of_both c.mine entries, none);
}

of_pieces : (entries : List Event) (pieces : List Work) → steps_of entries ≡ as_steps pieces → calls_in entries ≡ 0
of_pieces entries pieces are = of_steps entries ∙ ap calls_among are ∙ of_work pieces

-- the first entries of a turn
of_steps_more : (xs ys : List Step) → calls_among (xs ++ ys) ≡ calls_among xs + calls_among ys
of_steps_more [] ys = omega arith
of_steps_more (x ∷ xs) ys = omega (arith, of_steps_more xs ys)

of_first : (entries : List Event) (more : List Step) (pieces : List Work) → steps_of entries ++ more ≡ as_steps pieces → calls_in entries ≡ 0
of_first entries more pieces are = omega (arith, of_steps entries, of_steps_more (steps_of entries) more, ap calls_among are, of_work pieces)

of_turn : {A : Type 0} (m : Machine) (places : List ℕ) (number : ℕ) (turn : Turn A) (entries : List Event) → IsTurn m places number turn entries → calls_in entries ≡ 0
of_turn m places number turn.Idle entries is = of_pieces entries (pieces_among m places) is.steps
of_turn m places number (turn.Did reply) entries (passed, work, answer, behind, told, are, is) = of_pieces entries (pieces_among m places) is.steps
of_turn m places number (turn.Merge job result input) entries (passed, behind, are, is) = of_pieces entries (pieces_among m places) is.steps

-- a turn
pub turns : {A : Type 0} (c d : Known) (turn : Turn A) → TakesDue c turn d → MakesNoCall c d
turns c d turn takes = adds_none c d takes.others takes.entries takes.adds (of_turn _ _ _ turn takes.entries takes.takes)

-- a turn that ended before its last piece
pub no_turns : (c d : Known) (e : Refusal) → IsNotDue c e d → MakesNoCall c d
no_turns c d e takes = adds_none c d takes.others takes.entries takes.adds (of_first takes.entries _ _ takes.stops.steps)

-- a policy advised something, or nothing
pub chooses : {A : Type 0} (f : A → Told) (taken : Option A) (busy : Bool) (c d : Known) → busy ≡ is_some taken → TakesNext c (option_map f taken) d → Chooses busy c d
chooses f None busy c d is takes = subst (λ (b : Bool). Chooses b c d) (sym is) takes
chooses f (Some x) busy c d is takes = subst (λ (b : Bool). Chooses b c d) (sym is) (f x, takes)

-- a job that a policy advised
pub nexts : (c d : Known) (answer : Told) → TakesNext c (Some answer) d → MakesNoCall c d
nexts c d answer takes = adds_none c d takes.piece.others _ takes.piece.adds refl

pub no_nexts : (c d : Known) (e : Refusal) → IsNoNext c e d → MakesNoCall c d
no_nexts c d e takes = adds_none c d takes.1.piece.others [] takes.1.piece.adds refl

-- a look at the history
pub looks : (c d : Known) → Sees c d → MakesNoCall c d
looks c d sees = record { number = sees.number; calls = ap calls_in sees.mine }

-- whether one was taken or not
pub asks : (busy : Bool) (c d : Known) → Chooses busy c d → MakesNoCall c d
asks true c d (answer, takes) = nexts c d answer takes
asks false c d sees = looks c d sees

of_result : (number job result : ℕ) (made : MergeResult) (reply : Reply) (entries : List Event) → IsBrought number job result made reply entries → calls_in entries ≡ 0
of_result number job result made (Refused NoSpace) entries brought = ap calls_in brought.3
of_result number job result made (Refused e) entries brought = ap calls_in brought.1
of_result number job result made reply entries brought = ap calls_in brought.1

-- a result that was brought
pub brings : (c d : Known) (job result : ℕ) (made : MergeResult) (told : Told) → Brings c job result made told d → MakesNoCall c d
brings c d job result made told brought = adds_none c d brought.others brought.entries brought.adds (of_result _ _ _ _ brought.reply brought.entries brought.brought)

of_left : (number job result : ℕ) (made : MergeResult) (entries : List Event) (left : Work) → IsLeftOfBringing number job result made entries left → calls_in entries ≡ 0
of_left number job result made [] left is = refl
of_left number job result made (e ∷ []) left is = ap (λ (e : Event). calls_in (e ∷ [])) is.1.1
of_left number job result made (e ∷ f ∷ more) left is = absurd is

-- a result that could not be brought wholly
pub brings_not : (c d : Known) (job result : ℕ) (made : MergeResult) (e : Refusal) → IsNotBrought c job result made e d → MakesNoCall c d
brings_not c d job result made e brought = adds_none c d brought.others brought.entries brought.adds (of_left _ _ _ _ brought.entries brought.left brought.behind)

pub stays : (c d e : Known) → MakesNoCall c d → MakesNoCall d e → MakesNoCall c e
stays c d e one two = record { number = two.number ∙ one.number; calls = two.calls ∙ one.calls }

pub stays_itself : (c : Known) → MakesNoCall c c
stays_itself c = record { number = refl; calls = refl }

-- ---- in how many parts a result was built

no_refusal : {T : Type 0} (x : T) (e : Refusal) → Ok x ≡ Err e → ⊥
no_refusal x e is = cc

-- a result that was built was built in 1 to 8
pub parted : {T : Type 0} (parts : ℕ) (x : T) → ((parts < 1) ⊎ (8 < parts) → Ok x ≡ Err BadLimit) → MayPart parts
parted parts x limit = (
  ⊎_elim (λ (few : parts < 1). absurd (no_refusal x BadLimit (limit (inl few)))) (λ (enough : 1 ≤ parts). enough) (cases_lt parts 1),
  ⊎_elim (λ (many : 8 < parts). absurd (no_refusal x BadLimit (limit (inr many)))) (λ (few : parts ≤ 8). few) (cases_lt 8 parts),
)

-- ---- how a turn ended

pub idle_found : (taken : Turn Global) (old mid : Known) → taken ≡ turn.Idle → TakesDue old taken mid → FindsIdle old mid
idle_found taken old mid is takes = subst (λ (t : Turn Global). TakesDue old t mid) is takes

pub did_ends : (parts : ℕ) (taken : Turn Global) (reply : GivenReply Global) (mid : Known) → taken ≡ turn.Did reply → EndsTurn parts taken mid mid
did_ends parts taken reply mid is = subst (λ (t : Turn Global). EndsTurn parts t mid mid) (sym is) refl

pub merge_ends : (parts : ℕ) (taken : Turn Global) (job result : ℕ) (input : Arc MergeInput Global) (mid new : Known) → taken ≡ turn.Merge job result input → Delivers parts job result (arc_value input) mid new → EndsTurn parts taken mid new
merge_ends parts taken job result input mid new is d = subst (λ (t : Turn Global). EndsTurn parts t mid new) (sym is) d

pub merge_ends_not : (parts : ℕ) (e : Refusal) (taken : Turn Global) (job result : ℕ) (input : Arc MergeInput Global) (mid new : Known) → taken ≡ turn.Merge job result input → DeliversNot parts e job result (arc_value input) mid new → EndsInVain parts e taken mid new
merge_ends_not parts e taken job result input mid new is d = subst (λ (t : Turn Global). EndsInVain parts e t mid new) (sym is) d

-- a client that found nothing due, and took no merge, rests
pub rests_then : (busy : Bool) (old mid new : Known) → FindsIdle old mid → Chooses busy mid new → busy ≡ false → Rests new
rests_then true old mid new idle took none = absurd (cc none)
rests_then false old mid new idle sees none = record {
  seen = mid.seen;
  before = sees.seen;
  none = (λ i. next_due (machine_after (sees.begin i) mid.seen) (sees.number i)) ∙ idle.rests;
}

-- ---- turns one after another

pub one_more : (parts n : ℕ) (busy : Bool) (c d e : Known) → busy ≡ true → TakesTurns parts n c d → TakesWhole parts busy d e → TakesTurns parts (n + 1) c e
one_more parts n busy c d e is turns last =
    let more : suc n ≡ n + 1 = omega arith in
    subst (λ (m : ℕ). TakesTurns parts m c e) more (d, turns, subst (λ (b : Bool). TakesWhole parts b d e) is last)

pub idle_then : (turns parts n : ℕ) (busy : Bool) (c d e : Known) → busy ≡ false → n < turns → TakesTurns parts n c d → TakesWhole parts busy d e → TakesUpTo turns parts true c e
idle_then turns parts n busy c d e is within before last = (n, within, d, before, subst (λ (b : Bool). TakesWhole parts b d e) is last)

pub all_taken : (turns parts n : ℕ) (c d : Known) → n ≡ turns → TakesTurns parts n c d → TakesUpTo turns parts false c d
all_taken turns parts n c d is taken = subst (λ (m : ℕ). TakesTurns parts m c d) is taken
