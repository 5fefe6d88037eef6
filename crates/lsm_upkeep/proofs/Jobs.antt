-- What each piece of work keeps, jobs keep, one after another.
use Rattle.std.proofs.Common.{◌≡◌, ◌⊎◌, ◌<◌, ℕ, zero, suc, Option, Some, None, inl, inr}
use Rattle.lsm_levels.specs.declared.choosing.Choice.{Choice}
use Rattle.lsm_store.specs.Backing.{StoreView}
use Rattle.lsm_machine.specs.Calls.{Reply, Refused}
use Rattle.lsm_machine.specs.Work.{Work, Take, Read, Ask, Accept, Write, Install, Drop}
use Rattle.lsm_store.specs.Working.{Works}
use Rattle.lsm_upkeep.specs.Finishing.{HasLeft, IsFinished, IsGivenUp, DoesNotGoThrough, IsOffered, IsReadWhole, IsStuck, IsUndone, IsUnfinished, IsUnmerged, IsUnread, LeavesBlocksEachTime, Taken}
use Rattle.lsm_upkeep.specs.Upkeep.{AreDone, FinishesJobs}

-- what stands where nothing was done, after one another, and at each piece of work
pub record Goes (R : StoreView → StoreView → Type 0) : Type 0 where
  pub stays : (old new : StoreView) → new ≡ old → R old new
  pub onward : (old mid new : StoreView) → R old mid → R mid new → R old new
  pub works : (old new : StoreView) (piece : Work) (reply : Reply) → Works old piece reply new → R old new

module _ (R : StoreView → StoreView → Type 0) (r : Goes R) where
  some_left : (piece : Work) (n : ℕ) (old new : StoreView) → LeavesBlocksEachTime piece n old new → R old new
  some_left piece zero old new e = r.stays old new e
  some_left piece (suc n) old new (mid, before, left, w) = r.onward old mid new (some_left piece n old mid before) (r.works mid new piece _ w)

  left_last : (piece : Work) (left : ℕ) (old new : StoreView) → HasLeft piece left old new → R old new
  left_last piece left old new h = r.onward old h.last new (some_left piece h.count old h.last h.some) (r.works h.last new piece _ h.told)

  held_up : (piece : Work) (old new : StoreView) → DoesNotGoThrough piece old new → R old new
  held_up piece old new (inl (count, last, before, (e, w))) = r.onward old last new (some_left piece count old last before) (r.works last new piece _ w)
  held_up piece old new (inr (mid, before, now, h, w, le)) = r.onward old mid new (left_last piece (suc before) old mid h) (r.works mid new piece _ w)

  read_whole : (job : ℕ) (level : Option ℕ) (old new : StoreView) → IsReadWhole job level old new → R old new
  read_whole job None old new e = r.stays old new e
  read_whole job (Some level) old new h = left_last (Read job) 0 old new h

  unread : (job : ℕ) (level : Option ℕ) (old new : StoreView) → IsUnread job level old new → R old new
  unread job None old new none = absurd none
  unread job (Some level) old new h = held_up (Read job) old new h

  pub offered : (job : ℕ) (reply : Reply) (old new : StoreView) → IsOffered job reply old new → R old new
  offered job reply old new (divisions, o) = r.onward old old new (r.works old old (Ask job) _ o.lent) (r.works old new (Accept job (Some o.result)) reply o.offered)

  pub unmerged : (job : ℕ) (old new : StoreView) → IsUnmerged job old new → R old new
  unmerged job old new (divisions, e, inl w) = r.works old new (Ask job) _ w
  unmerged job old new (divisions, e, inr (inl (input, w, none))) = r.works old new (Ask job) _ w
  unmerged job old new (divisions, e, inr (inr o)) = offered job (Refused e) old new (divisions, o)

  finished : (job : ℕ) (level : Option ℕ) (old new : StoreView) → IsFinished job level old new → R old new
  finished job level old new f =
      r.onward old f.whole new (read_whole job level old f.whole f.reads)
      (r.onward f.whole f.merged new (offered job _ f.whole f.merged f.merges)
      (r.onward f.merged f.written new (left_last (Write job) 0 f.merged f.written f.writes) (r.works f.written new (Install job) _ f.installs)))

  unfinished : (job : ℕ) (old new : StoreView) → IsUnfinished job old new → R old new
  unfinished job old new (inl u) = unmerged job old new u
  unfinished job old new (inr (merged, o, inl h)) = r.onward old merged new (offered job _ old merged o) (held_up (Write job) merged new h)
  unfinished job old new (inr (merged, o, inr (written, writes, (e, w)))) =
      r.onward old merged new (offered job _ old merged o) (r.onward merged written new (left_last (Write job) 0 merged written writes) (r.works written new (Install job) _ w))

  stuck : (job : ℕ) (level : Option ℕ) (old new : StoreView) → IsStuck job level old new → R old new
  stuck job level old new (inl u) = unread job level old new u
  stuck job level old new (inr (whole, reads, u)) = r.onward old whole new (read_whole job level old whole reads) (unfinished job whole new u)

  given_up : (job : ℕ) (level : Option ℕ) (old new : StoreView) → IsGivenUp job level old new → R old new
  given_up job level old new g = r.onward old g.late new (stuck job level old g.late g.stuck) (r.works g.late new (Drop job) g.reply g.dropped)

  pub taken : (asked : Option Choice) (old new : StoreView) → Taken IsFinished asked old new → R old new
  taken asked old new t = r.onward old t.begun new (r.works old t.begun (Take asked) _ t.taken) (finished t.job t.level t.begun new t.goes)

  pub undone : (asked : Option Choice) (old new : StoreView) → IsUndone asked old new → R old new
  undone asked old new (inl w) = r.works old new (Take asked) _ w
  undone asked old new (inr (inl (e, w))) = r.works old new (Take asked) _ w
  undone asked old new (inr (inr t)) = r.onward old t.begun new (r.works old t.begun (Take asked) _ t.taken) (given_up t.job t.level t.begun new t.goes)

  done : (n : ℕ) (old new : StoreView) → AreDone n old new → R old new
  done zero old new e = r.stays old new e
  done (suc n) old new (mid, before, t) = r.onward old mid new (done n old mid before) (taken None mid new t)

  pub jobs : (most : ℕ) (old new : StoreView) → FinishesJobs most old new → R old new
  jobs most old new f = r.onward old f.last new (done f.count old f.last f.finished) (by f.ends)
    where
      by : ((f.count ≡ most) × (new ≡ f.last)) ⊎ ((f.count < most) × IsUndone None f.last new) → R f.last new
      by (inl (all, e)) = r.stays f.last new e
      by (inr (few, u)) = undone None f.last new u
