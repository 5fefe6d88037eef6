-- Which refusals an opening passes on.
use Rattle.std.proofs.Common.{◌≡◌, ◌⊎◌, inl, inr, IsTrue, Some, ap, sym, ◌∙◌, subst}
use Rattle.std.proofs.lemmas.Bool.{false≢true}
use Rattle.std.proofs.lemmas.Option.{same_Some}
use Rattle.lsm_device.specs.Refusals.{is_no_fault}
use Rattle.lsm_device.specs.declared.refusal.Refusal.{Refusal}
use Rattle.lsm_device.specs.declared.refusal.Refusal.TheVariants.{NoMemory, Io, NotAStore, BadSuper, BadGeometry, BadManifest}
use Rattle.lsm_open.specs.Opening.{IsRefusalBesideBadTable}
use Rattle.lsm_open.specs.Recovering.{IsOpeningRefusal}
use Rattle.lsm_open.specs.ToldTables.{IsTableRefusal}
use Rattle.lsm_root.specs.Loaded.{refusal_of}
use Rattle.lsm_root.specs.Roots.{Root, Missing, Damaged, OtherSize, Unreadable, Stands}

pub from_memory : (refusal : Refusal) → (refusal ≡ NoMemory) ⊎ (refusal ≡ Io) → IsRefusalBesideBadTable refusal
from_memory refusal (inl e) = subst IsRefusalBesideBadTable (sym e) tt
from_memory refusal (inr e) = subst IsRefusalBesideBadTable (sym e) tt

of_root : (root : Root) (refusal : Refusal) → refusal_of root ≡ Some refusal → IsRefusalBesideBadTable refusal
of_root Missing refusal e = subst IsRefusalBesideBadTable (same_Some NotAStore refusal e) tt
of_root Damaged refusal e = subst IsRefusalBesideBadTable (same_Some BadSuper refusal e) tt
of_root OtherSize refusal e = subst IsRefusalBesideBadTable (same_Some BadGeometry refusal e) tt
of_root Unreadable refusal e = subst IsRefusalBesideBadTable (same_Some BadManifest refusal e) tt
of_root (Stands log m) refusal e = absurd (cc)

-- the root's refusals, and those of a count of tables after it
pub load_refused : (refusal : Refusal) → ((root : Root) × (refusal_of root ≡ Some refusal)) ⊎ ((refusal ≡ NoMemory) ⊎ (refusal ≡ Io)) → ((root : Root) × (refusal_of root ≡ Some refusal)) ⊎ IsTableRefusal refusal
load_refused refusal (inl found) = inl found
load_refused refusal (inr other) = inr (inr other)

pub from_counted : (refusal : Refusal) → ((root : Root) × (refusal_of root ≡ Some refusal)) ⊎ IsTableRefusal refusal → IsOpeningRefusal refusal
from_counted refusal (inl (root, e)) = inr (of_root root refusal e)
from_counted refusal (inr (inl bad)) = inl bad
from_counted refusal (inr (inr other)) = inr (from_memory refusal other)

pub from_replay : (P : Type 0) (refusal : Refusal) → ((refusal ≡ BadManifest) × P) ⊎ ((refusal ≡ NoMemory) ⊎ (refusal ≡ Io)) → IsRefusalBesideBadTable refusal
from_replay P refusal (inl found) = subst IsRefusalBesideBadTable (sym found.0) tt
from_replay P refusal (inr other) = from_memory refusal other

-- what an opening begins with is refused for the size, or for a fault
pub from_begin : (P : Type 0) (refusal : Refusal) → ((refusal ≡ BadGeometry) × P) ⊎ (refusal ≡ Io) → IsRefusalBesideBadTable refusal
from_begin P refusal (inl small) = subst IsRefusalBesideBadTable (sym small.0) tt
from_begin P refusal (inr io) = subst IsRefusalBesideBadTable (sym io) tt

-- and for a fair size for a fault alone
pub begun_faults : {G : Type 0} (Fair : Type 0) (refusal : Refusal) → Fair → ((refusal ≡ BadGeometry) × (Fair → ⊥)) ⊎ (refusal ≡ Io) → IsTrue (is_no_fault refusal) → G
begun_faults Fair refusal fair (inl found) none = absurd (found.1 fair)
begun_faults Fair refusal fair (inr io) none = absurd (false≢true (sym (ap is_no_fault io) ∙ none))
