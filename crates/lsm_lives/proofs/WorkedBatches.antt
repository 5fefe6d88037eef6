-- What ring 1 allows and what it refuses, computed from its definitions.
use Rattle.std.proofs.Common.{◌≡◌, ◌≤◌, ℕ, zero, suc, List, [], ◌∷◌, length, map, take, Option, Some, None, refl, ap, sym, subst, ◌∙◌, arith}
use Rattle.std.specs.FinMap as finite
use Rattle.std.specs.FinMap.{gets}
use Rattle.lsm_codec.specs.BatchText.{batch_text}
use Rattle.lsm_codec.specs.Keys.{Bytes}
use Rattle.lsm_codec.specs.Map.{Map, Operation, apply_all}
use Rattle.lsm_device.specs.declared.refusal.Refusal.TheVariants.{Io, LogFull}
use Rattle.lsm_root.specs.CrashState.{CrashState, formatted}
use Rattle.lsm_machine.specs.Calls.{Reply}
use Rattle.lsm_machine.specs.Calls.{Commit, Sync, Get, Number, Done, Value, Refused, Unread, as_told}
use Rattle.lsm_machine.specs.Crash.{reopened}
use Rattle.lsm_machine.specs.Effects.{decided}
use Rattle.lsm_machine.specs.Run.{next}
use Rattle.lsm_machine.specs.State.{State}
use Rattle.lsm_machine.specs.declared.asked.At.TheVariants.{Now}
use Rattle.lsm_lives.specs.Batches.{Act, Calls, Works, Installs, Goes, AreKept, IsLife, KeepsOn, KeepsBatches}

abbrev put : ℕ → ℕ → Operation
put k v = record { key = k ∷ []; value = Some (v ∷ []) }

-- a store on a fresh format, with log regions of 128 sectors
abbrev fresh : State
fresh = reopened 128 formatted

abbrev one : List Operation
one = put 0x61 0x31 ∷ []

-- a batch of two keys
abbrev two : List Operation
two = put 0x61 0x31 ∷ put 0x62 0x32 ∷ []

-- ---- which batches a life keeps

-- a batch that was synced isn't lost
lost : (batch : List Operation) (n : ℕ) → 1 ≤ n → [] ≡ take n (batch ∷ []) → ⊥
lost batch zero least is = absurd (omega (arith, least))
lost batch (suc n) least is = cc

synced_stays : (batch : List Operation) → AreKept [] (Calls (Commit batch) ∷ Calls Sync ∷ []) (Number 0 ∷ Number 1 ∷ Done ∷ []) [] → ⊥
synced_stays batch kept = lost batch kept.holds kept.at_least kept.is

-- nor one that an install made durable
installed_stays : (batch : List Operation) → AreKept [] (Calls (Commit batch) ∷ Installs ∷ []) (Number 0 ∷ Number 1 ∷ Done ∷ []) [] → ⊥
installed_stays batch kept = lost batch kept.holds kept.at_least kept.is

-- one that was not synced may be
unsynced_goes : (batch : List Operation) → AreKept [] (Calls (Commit batch) ∷ Works ∷ []) (Number 0 ∷ Number 1 ∷ Done ∷ []) []
unsynced_goes batch = record { holds = 0; at_least = omega arith; among = omega arith; is = refl }

-- one in flight may be kept, or lost
flying_stays : (batch : List Operation) → AreKept [] (Calls (Commit batch) ∷ []) (Number 0 ∷ Refused Io ∷ []) (batch ∷ [])
flying_stays batch = record { holds = 1; at_least = omega arith; among = omega arith; is = refl }

flying_goes : (batch : List Operation) → AreKept [] (Calls (Commit batch) ∷ []) (Number 0 ∷ Refused Io ∷ []) []
flying_goes batch = record { holds = 0; at_least = omega arith; among = omega arith; is = refl }

-- ---- a commit is answered with its number, and isn't refused without a reason

first : decided fresh (Commit []) ≡ Number 1
unfolding batch_text
first = refl

seven : Number 7 ≡ Number 1 → ⊥
seven is = cc

wrong_number : (last : State) → Goes fresh (Calls (Commit []) ∷ []) (Number 7 ∷ []) last → ⊥
wrong_number last goes = seven (goes.0 ∙ first)

full : Refused LogFull ≡ Number 1 → ⊥
full is = cc

no_reason : (last : State) → Goes fresh (Calls (Commit []) ∷ []) (Refused LogFull ∷ []) last → ⊥
no_reason last goes = full (goes.0 ∙ first)

-- ---- an accepted batch isn't dropped

-- the one after it has the next number
second : decided (next fresh (Commit one) (Number 1)) (Commit two) ≡ Number 2
unfolding batch_text
second = refl

again : Number 1 ≡ Number 2 → ⊥
again is = cc

dropped : (last : State) → Goes fresh (Calls (Commit one) ∷ Calls (Commit two) ∷ []) (Number 1 ∷ Number 1 ∷ []) last → ⊥
dropped last goes = again (goes.1.0 ∙ second)

-- and a read finds it
found : decided (next fresh (Commit one) (Number 1)) (Get Now (0x61 ∷ [])) ≡ Value (Some (0x31 ∷ []))
found = simp gets refl

hidden : (value : Bytes) → Value None ≡ Value (Some value) → ⊥
hidden value is = cc

unseen : (last : State) → Goes fresh (Calls (Commit one) ∷ Calls (Get Now (0x61 ∷ [])) ∷ []) (Number 1 ∷ Value None ∷ []) last → ⊥
unseen last goes = hidden (0x31 ∷ []) (goes.1.0 ∙ found)

-- ---- replies that tell of no fault are as they were told

as_made : (told made : Reply) → (told ≡ Refused Io → ⊥) → told ≡ as_told made → made ≡ told
as_made told Unread quiet is = absurd (quiet is)
as_made told made quiet is = sym is

abbrev AreQuiet : List Reply → Type 0
AreQuiet [] = Unit {0}
AreQuiet (reply ∷ rest) = (reply ≡ Refused Io → ⊥) × AreQuiet rest

heads : (a b : Reply) (l m : List Reply) → a ∷ l ≡ b ∷ m → a ≡ b
heads a b l m is = cc

tails : (a b : Reply) (l m : List Reply) → a ∷ l ≡ b ∷ m → l ≡ m
tails a b l m is = cc

all_as_made : (told made : List Reply) → AreQuiet told → told ≡ map as_told made → made ≡ told
all_as_made [] [] quiet is = refl
all_as_made [] (m ∷ made) quiet is = absurd cc
all_as_made (t ∷ told) [] quiet is = absurd cc
all_as_made (t ∷ told) (m ∷ made) quiet is =
    ap (λ (r : Reply). r ∷ made) (as_made t m quiet.0 (heads t (as_told m) told (map as_told made) is))
    ∙ ap (λ (l : List Reply). t ∷ l) (all_as_made told made quiet.1 (tails t (as_told m) told (map as_told made) is))

number_quiet : (n : ℕ) → Number n ≡ Refused Io → ⊥
number_quiet n is = cc

done_quiet : Done ≡ Refused Io → ⊥
done_quiet is = cc

value_quiet : (value : Option Bytes) → Value value ≡ Refused Io → ⊥
value_quiet value is = cc

module _ (log_sectors : ℕ) (before after : List (List Operation)) (opened left : CrashState) (acts : List Act) (told : List Reply) (quiet : AreQuiet told) (kept : KeepsOn log_sectors before opened acts told after left) where
  kept_as_told : AreKept before acts told after
  kept_as_told = subst (λ (l : List Reply). AreKept before acts l after) (all_as_made told kept.replies quiet kept.told_so) kept.keeps

  life_as_told : IsLife log_sectors opened acts told left
  life_as_told = subst (λ (l : List Reply). IsLife log_sectors opened acts l left) (all_as_made told kept.replies quiet kept.told_so) kept.life

-- ---- two lives: an opening doesn't lose a synced batch

abbrev no_batches : List (List Operation)
no_batches = []

take_none : (n : ℕ) → take n no_batches ≡ no_batches
take_none zero = refl
take_none (suc n) = refl

kept_one : (batch : List Operation) (n : ℕ) (after : List (List Operation)) → 1 ≤ n → after ≡ take n (batch ∷ []) → after ≡ batch ∷ []
kept_one batch zero after least is = absurd (omega (arith, least))
kept_one batch (suc n) after least is = is ∙ ap (λ (l : List (List Operation)). batch ∷ l) (take_none n)

not_one : zero ≡ suc zero → ⊥
not_one is = cc

opening_loses_none : KeepsBatches 128 [] formatted ((Calls (Commit one) ∷ Calls Sync ∷ []) ∷ [] ∷ []) ((Number 0 ∷ Number 1 ∷ Done ∷ []) ∷ (Number 0 ∷ []) ∷ []) → ⊥
opening_loses_none (after, left, life, (later, end, next_life, rest)) =
    let kept = kept_as_told 128 [] after formatted left (Calls (Commit one) ∷ Calls Sync ∷ []) (Number 0 ∷ Number 1 ∷ Done ∷ []) (number_quiet 0, (number_quiet 1, (done_quiet, tt))) life in
    let opens = life_as_told 128 after later left end [] (Number 0 ∷ []) (number_quiet 0, tt) next_life in
    not_one (opens.1 ∙ next_life.opens.count ∙ ap length (kept_one one kept.holds after kept.at_least kept.is))

-- ---- two lives: nor does it keep half a batch, synced or not

-- of a batch that is kept at all the second key is found
second_found : finite.get (apply_all finite.empty (two ∷ [])) (0x62 ∷ []) ≡ Some (0x32 ∷ [])
second_found = simp gets refl

asked_of_left : (left : CrashState) → decided (reopened 128 left) (Get Now (0x62 ∷ [])) ≡ Value (finite.get left.map (0x62 ∷ []))
asked_of_left left = refl

-- what is kept of it where an opening answers 1
whole : (n : ℕ) (after : List (List Operation)) → after ≡ take n (two ∷ []) → 1 ≡ length after → after ≡ two ∷ []
whole zero after is counted = absurd (not_one (sym (counted ∙ ap length is)))
whole (suc n) after is counted = is ∙ ap (λ (l : List (List Operation)). two ∷ l) (take_none n)

opening_keeps_no_half : KeepsBatches 128 [] formatted ((Calls (Commit two) ∷ []) ∷ (Calls (Get Now (0x62 ∷ [])) ∷ []) ∷ []) ((Number 0 ∷ Number 1 ∷ []) ∷ (Number 1 ∷ Value None ∷ []) ∷ []) → ⊥
opening_keeps_no_half (after, left, life, (later, end, next_life, rest)) =
    let kept = kept_as_told 128 [] after formatted left (Calls (Commit two) ∷ []) (Number 0 ∷ Number 1 ∷ []) (number_quiet 0, (number_quiet 1, tt)) life in
    let opens = life_as_told 128 after later left end (Calls (Get Now (0x62 ∷ [])) ∷ []) (Number 1 ∷ Value None ∷ []) (number_quiet 1, (value_quiet None, tt)) next_life in
    let is = whole kept.holds after kept.is (opens.1 ∙ next_life.opens.count) in
    hidden (0x32 ∷ []) (opens.3.0 ∙ asked_of_left left
    ∙ ap (λ (m : Map). Value (finite.get m (0x62 ∷ []))) (next_life.opens.same_map ∙ ap (λ (l : List (List Operation)). apply_all finite.empty l) is)
    ∙ ap (λ (o : Option Bytes). Value o) second_found)
