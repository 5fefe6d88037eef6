-- What a commit of one operation comes to.
use Rattle.std.proofs.Common.{◌≡◌, ◌⊎◌, inl, inr, refl, sym, ap, subst, Option, Some, None}
use Rattle.lsm_codec.specs.Map.{Operation}
use Rattle.lsm_device.specs.declared.refusal.Refusal.{Refusal}
use Rattle.lsm_device.specs.declared.refusal.Refusal.TheVariants.{NoMemory}
use Rattle.lsm_store.specs.Backing.{StoreView}
use Rattle.lsm_machine.specs.Calls.{Reply, Refused}
use Rattle.corwaphi.specs.Writing.{WritesOne}

pub one-refused : (refusal : Option Refusal) (operation : Operation) (old : StoreView) (e : Refusal) → (refusal ≡ Some e) ⊎ ((refusal ≡ None) × (e ≡ NoMemory)) → WritesOne refusal operation old (Refused e) old
one-refused refusal operation old e (inl is) = subst (λ (o : Option Refusal). WritesOne o operation old (Refused e) old) (sym is) (refl, refl)
one-refused refusal operation old e (inr (none, so)) = subst (λ (o : Option Refusal). WritesOne o operation old (Refused e) old) (sym none) (inr (ap (λ (r : Refusal). Refused r) so, refl))

pub one-written : (refusal : Option Refusal) (operation : Operation) (old : StoreView) (told : Reply) (new : StoreView) → refusal ≡ None → WritesOne None operation old told new → WritesOne refusal operation old told new
one-written refusal operation old told new none w = subst (λ (o : Option Refusal). WritesOne o operation old told new) (sym none) w
