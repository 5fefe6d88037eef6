-- What a batch lacks that finds no room.
use Rattle.std.proofs.Common.{◌≡◌, ◌∙◌, ◌||◌, ℕ, ◌≤◌, Bool, true, false, true≢false, is_some, nat_lt, List, [], length, ap, sym, arith, inl, inr, sum_by}
use Rattle.lsm_codec.specs.Map.{Operation}
use Rattle.lsm_codec.specs.Versions.{Version}
use Rattle.lsm_codec.proofs.Lists.{all_map}
use Rattle.lsm_extent.specs.Area.{free_count}
use Rattle.lsm_mem.specs.EntryOrder.{with_batch}
use Rattle.lsm_mem.specs.Sizes.{Covers, GrowsBy, bytes_of, no_size}
use Rattle.lsm_mem.specs.declared.size.MemSize.{MemSize}
use Rattle.lsm_machine.specs.Work.{WorkView}
use Rattle.lsm_machine.specs.State.{LiveSnapshot}
use Rattle.lsm_room.specs.Crowding.{IsCrowded, blocks_for}
use Rattle.lsm_room.specs.Flushes.{FlushesLeave}
use Rattle.lsm_store.specs.Backing.{StoreView}
use Rattle.lsm_upkeep.specs.Flushing.{BeginsLog, BeginsLogAmid}
use Rattle.lsm_upkeep.specs.Steps.{IsUpkept}
use Rattle.lsm_upkeep.specs.Writing.{HasRoom, HasRoomFor, IsCrowdedIn, IsWithin, has_puts, is_live, wants_room}
use Rattle.lsm_upkeep.proofs.Upkept.{then}

-- what a size covers, a larger one covers
covers_more : (versions : List Version) (size most : MemSize) → IsWithin size most → Covers versions size → Covers versions most
covers_more versions size most within covers = record {
  entries = omega (arith, covers.entries, within.entries);
  bytes = omega (arith, covers.bytes, within.bytes);
  each = all_map (λ v le. omega (arith, le, within.largest)) versions covers.each;
}

-- what is crowded for some blocks is so for more
pub crowded_for_more : (taken free tables few many : ℕ) → few ≤ many → IsCrowded taken free tables few → IsCrowded taken free tables many
crowded_for_more taken free tables few many le (inl above) = inl above
crowded_for_more taken free tables few many le (inr less) = inr (omega (arith, less, le))

-- a size that grew by a batch alone comes to no more blocks than the batch
blocks_grown : (batch : List Operation) (size : MemSize) → GrowsBy batch no_size size → blocks_for size.bytes size.entries ≤ blocks_for (sum_by bytes_of batch) (length batch)
blocks_grown batch size grows = omega (arith, grows.bytes, grows.entries)

-- what is crowded for the size of memory with a batch is so for the batch, with nothing in memory before, and none that waits
pub crowded_for_batch : (batch : List Operation) (w : WorkView) (before after waiting : MemSize) → (w.memory ≡ [] → before ≡ no_size) → (w.memory ≡ [] → GrowsBy batch no_size after) → (w.sealed ≡ [] → waiting ≡ no_size)
    → (before.entries ≡ 0 → waiting ≡ no_size → IsCrowdedIn w (blocks_for after.bytes after.entries)) → w.memory ≡ [] → w.sealed ≡ [] → IsCrowdedIn w (blocks_for (sum_by bytes_of batch) (length batch))
crowded_for_batch batch w before after waiting nothing grows idle crowded none sealed =
    crowded_for_more _ _ _ (blocks_for after.bytes after.entries) (blocks_for (sum_by bytes_of batch) (length batch)) (blocks_grown batch after (grows none)) (crowded (ap (λ (m : MemSize). m.entries) (nothing none)) (idle sealed))

-- ---- room for flushes

-- what sizes leave, smaller ones leave
pub leave_more : (spare free : ℕ) (live : Bool) (waiting most_waiting memory most : MemSize) → IsWithin waiting most_waiting → IsWithin memory most → FlushesLeave spare free live most_waiting most → FlushesLeave spare free live waiting memory
leave_more spare free live waiting most_waiting memory most less also leaves old versions covers covers_also =
    leaves old versions (covers_more old waiting most_waiting less covers) (covers_more versions memory most also covers_also)

-- a store has room for a batch where the reckoned sizes leave enough
pub room_for : (batch : List Operation) (s : StoreView) (puts : Bool) (waiting after : MemSize) → puts ≡ wants_room batch s.state → Covers s.work.sealed waiting → ((number : ℕ) → Covers (with_batch number batch s.work.memory) after)
    → (puts ≡ true → FlushesLeave 100 (free_count s.work.area) (is_live s.state) waiting after) → HasRoomFor batch s
room_for batch s puts waiting after is covers covers_also leaves runs wants number =
    leaves (is ∙ wants) s.work.sealed (with_batch number batch s.work.memory) covers (covers_also number)

-- so it has for whatever batch, where so much is left in any case
pub room_at_once : (batch : List Operation) (s : StoreView) (waiting after : MemSize) → Covers s.work.sealed waiting → ((number : ℕ) → Covers (with_batch number batch s.work.memory) after)
    → FlushesLeave 100 (free_count s.work.area) (is_live s.state) waiting after → HasRoom batch s
room_at_once batch s waiting after covers covers_also leaves runs number = leaves s.work.sealed (with_batch number batch s.work.memory) covers (covers_also number)

pub room_for_any : (batch : List Operation) (s : StoreView) (waiting after : MemSize) → Covers s.work.sealed waiting → ((number : ℕ) → Covers (with_batch number batch s.work.memory) after)
    → FlushesLeave 100 (free_count s.work.area) (is_live s.state) waiting after → HasRoomFor batch s
room_for_any batch s waiting after covers covers_also leaves runs wants = room_at_once batch s waiting after covers covers_also leaves runs

-- where a batch wanted no room before upkeep, it wants none then
pub room_unwanted : (batch : List Operation) (old new : StoreView) (puts : Bool) → puts ≡ wants_room batch old.state → puts ≡ false → IsUpkept old new → HasRoomFor batch new
room_unwanted batch old new puts is none u runs wants =
    absurd (true≢false (sym wants ∙ ap (λ (n : List LiveSnapshot). has_puts batch || nat_lt 0 (length n)) u.keeps.snapshots ∙ sym is ∙ none))

-- a stopped store commits nothing
pub room_stopped : (batch : List Operation) (s : StoreView) → is_some s.state.stopped ≡ true → HasRoomFor batch s
room_stopped batch s stopped runs wants = absurd (true≢false (sym stopped ∙ runs))

-- ---- logs

-- a log was begun amid upkeep, and more upkeep was done
pub begins-amid : (old before begun new : StoreView) → IsUpkept old before → BeginsLog before begun → IsUpkept begun new → BeginsLogAmid old new
begins-amid old before begun new upkeep begins behind = record { before = before; begun = begun; upkeep = upkeep; begins = begins; behind = behind }

pub begins-between : (old first last new : StoreView) → IsUpkept old first → BeginsLogAmid first last → IsUpkept last new → BeginsLogAmid old new
begins-between old first last new u b more = record {
  before = b.before;
  begun = b.begun;
  upkeep = then old first b.before u b.upkeep;
  begins = b.begins;
  behind = then b.begun last new b.behind more;
}
