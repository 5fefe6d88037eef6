-- What entries, and a whole check, are refused with.
use Rattle.std.proofs.Common.{◌≡◌, ◌⊎◌, inl, inr, true, Some, sym, ap, subst}
use Rattle.lsm_device.specs.Refusals.{is_no_fault}
use Rattle.lsm_device.specs.declared.refusal.Refusal.{Refusal}
use Rattle.lsm_device.specs.declared.refusal.Refusal.TheVariants.{NoMemory, Io, BadManifest, BadTable}
use Rattle.lsm_open.specs.ToldTables.{IsTableRefusal}
use Rattle.lsm_root.specs.Loaded.{refusal_of}
use Rattle.lsm_root.specs.Roots.{Root, Missing, Damaged, OtherSize, Unreadable, Stands}
use Rattle.lsm_check.specs.Found.{IsBlockRefusal}
use Rattle.lsm_check.specs.Images.{IsNoMemoryOrIo, IsCheckRefusal}

-- of bytes in memory
pub no_fault : (e : Refusal) (P : Type 0) → (e ≡ NoMemory) ⊎ ((e ≡ BadTable) × P) → is_no_fault e ≡ true
no_fault e P (inl none) = ap is_no_fault none
no_fault e P (inr bad) = ap is_no_fault bad.0

pub passed_on : (e : Refusal) (P Q : Type 0) → (P → Q) → (e ≡ NoMemory) ⊎ ((e ≡ BadTable) × P) → IsNoMemoryOrIo e ⊎ ((e ≡ BadTable) × Q)
passed_on e P Q more (inl none) = inl (subst IsNoMemoryOrIo (sym none) tt)
passed_on e P Q more (inr bad) = inr (bad.0, more bad.1)

-- where the bytes spell some
pub only_short : (e : Refusal) (P : Type 0) → (P → ⊥) → IsNoMemoryOrIo e ⊎ P → IsNoMemoryOrIo e
only_short e P none (inl short) = short
only_short e P none (inr bad) = absurd (none bad)

-- ---- which refusals a check passes on

pub memory_refused : (e : Refusal) → (e ≡ NoMemory) ⊎ (e ≡ Io) → IsCheckRefusal e
memory_refused e (inl is) = subst IsCheckRefusal (sym is) tt
memory_refused e (inr is) = subst IsCheckRefusal (sym is) tt

short_refused : (e : Refusal) → IsNoMemoryOrIo e → IsBlockRefusal e
short_refused NoMemory short = tt
short_refused Io short = tt
short_refused other short = absurd short

pub block_refused : (e : Refusal) (P : Type 0) → IsNoMemoryOrIo e ⊎ ((e ≡ BadTable) × P) → IsBlockRefusal e
block_refused e P (inl short) = short_refused e short
block_refused e P (inr bad) = subst IsBlockRefusal (sym bad.0) tt

same : (d e : Refusal) → Some d ≡ Some e → d ≡ e
same d e is = cc

root_refused : (root : Root) (e : Refusal) → refusal_of root ≡ Some e → IsCheckRefusal e
root_refused Missing e is = subst IsCheckRefusal (same _ e is) tt
root_refused Damaged e is = subst IsCheckRefusal (same _ e is) tt
root_refused OtherSize e is = subst IsCheckRefusal (same _ e is) tt
root_refused Unreadable e is = subst IsCheckRefusal (same _ e is) tt
root_refused (Stands n m) e is = absurd cc

pub tables_refused : (e : Refusal) → IsTableRefusal e → IsCheckRefusal e
tables_refused e (inl is) = subst IsCheckRefusal (sym is) tt
tables_refused e (inr other) = memory_refused e other

pub loaded_refused : (e : Refusal) → ((root : Root) × (refusal_of root ≡ Some e)) ⊎ IsTableRefusal e → IsCheckRefusal e
loaded_refused e (inl found) = root_refused found.0 e found.1
loaded_refused e (inr other) = tables_refused e other

pub replay_refused : (e : Refusal) (P : Type 0) → ((e ≡ BadManifest) × P) ⊎ ((e ≡ NoMemory) ⊎ (e ≡ Io)) → IsCheckRefusal e
replay_refused e P (inl found) = subst IsCheckRefusal (sym found.0) tt
replay_refused e P (inr other) = memory_refused e other
