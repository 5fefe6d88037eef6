-- What the definitions refuse that say what is told of a `Db`.
use Rattle.std.proofs.Common.{◌≡◌, ⊎_elim, ℕ, true≢false, List, [], ◌∷◌, Option, Some, None, false, refl, sym, ap, ◌∙◌}
use Rattle.std.proofs.lemmas.Bool.{false≢true}
use Rattle.lsm_codec.specs.Keys.{Bytes}
use Rattle.lsm_device.specs.declared.refusal.Refusal.TheVariants.{LogFull, NoSpace}
use Rattle.lsm_machine.specs.Calls.{Call, Reply}
use Rattle.lsm_machine.specs.Calls.{Commit, Sync, Number, Done, Value, Rows, Given, Handed, Refused, Unread}
use Rattle.lsm_upkeep.specs.Writing.{without_log_full}
use Rattle.lsm_lives.specs.Batches.{Calls}
use Rattle.corwaphi_lives.specs.Batches.{served_in, AreTold}
use Rattle.corwaphi_lives.proofs.Replies.{is_full}

never_full : (reply : Reply) → is_full (without_log_full reply) ≡ false
never_full (Refused LogFull) = refl
never_full (Refused other) = refl
never_full (Number n) = refl
never_full Done = refl
never_full (Value v) = refl
never_full (Rows page) = refl
never_full (Given job) = refl
never_full (Handed input) = refl
never_full Unread = refl

no_room_is_not_full : Refused LogFull ≡ Refused NoSpace → ⊥
no_room_is_not_full is = true≢false (ap is_full is)

-- that a log is full is told of no call
log_full_is_never_told : (live : List ℕ) (served : List (Call × Reply)) (call : Call) (asked : List (Option Call)) (rest : List Reply) → AreTold live served (Some call ∷ asked) (Refused LogFull ∷ rest) → ⊥
log_full_is_never_told live served call asked rest is = ⊎_elim
    (λ one. true≢false (ap is_full one.3 ∙ never_full one.0))
    (λ none. no_room_is_not_full none.0)
    is

none_served : (call : Call) (reply : Reply) (others : List (Call × Reply)) → [] ≡ (call, reply) ∷ others → ⊥
none_served call reply others is = cc

-- a delete is not refused for want of room where no snapshot is live
deletes_find_room : (key : Bytes) → AreTold [] [] (Some (Commit (record { key = key; value = None } ∷ [])) ∷ []) (Refused NoSpace ∷ []) → ⊥
deletes_find_room key is = ⊎_elim (λ one. none_served (Commit (record { key = key; value = None } ∷ [])) one.0 one.1 one.2) (λ none. false≢true none.1) is

-- no call is told as done that was not served
syncs_are_served : AreTold [] [] (Some Sync ∷ []) (Done ∷ []) → ⊥
syncs_are_served is = ⊎_elim (λ one. none_served Sync one.0 one.1 one.2) (λ none. none.1) is

-- and none is served that was not asked for
none_is_served_unasked : (reply : Reply) → AreTold [] (served_in (Calls Sync ∷ []) (reply ∷ [])) [] [] → ⊥
none_is_served_unasked reply is = none_served Sync reply [] (sym is)
