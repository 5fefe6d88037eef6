-- What a write, a sync and a crash do to a device that began on an image.
use Rattle.std.proofs.Common.{◌≡◌, ◌<◌, ◌≤◌, ◌+◌, ◌-◌, ◌^◌, ℕ, zero, suc, Bool, true, false, All, List, [], ◌∷◌, ◌++◌, cond, if◌then◌else◌, append_assoc, add-one, length, get_or, take, drop, set, map, Option, Some, None, slice_get, refl, sym, ◌∙◌, ap, subst, arith}
use Rattle.std.proofs.lemmas.List.{map-append, length-map, length-drop, take_all, map_push, map-set, drop_more, get_or-map, set-get_or}
use Rattle.std.proofs.lemmas.List.Elements.{All-nil, All-append, All-map, All-take, All-drop}
use Rattle.lsm_device.specs.Calls.{no_calls}
use Rattle.lsm_device.specs.declared.made.Made.{Made}
use Rattle.lsm_device.specs.Disk.{Disk, Write, IsSector, IsWrite, written, seen, kept, image, appended, synced, at_rest}
use Rattle.lsm_device.specs.History.{present}
use Rattle.lsm_device.specs.Made.{GoTogether, history_of, write_of as made_write}
use Rattle.lsm_device.specs.Medium.{KeepsFuse}
use Rattle.lsm_device.proofs.Kept.{written-append, fresh, pushed, push_goes, settle_goes, settle_stands, crashed, All-kept}
use Rattle.lsm_image.specs.Laid.{write_of, made_of, image_of, now_of, IsImage, newest}
use Rattle.lsm_image.specs.declared.laid.Laid.{Laid}
use Rattle.lsm_image.specs.Media.{begun, lasting_with, length-image, image_whole}
use Rattle.lsm_image.proofs.Newest.{newest_is_read}
use Rattle.lsm_device.proofs.Replay.{kept_step}

-- the writes are those that a device in memory would keep
pub same_writes : (made : List Laid) → map made_write (map made_of made) ≡ map write_of made
same_writes [] = refl
same_writes (w ∷ made) = ap (λ (ws : List Write). write_of w ∷ ws) (same_writes made)

pub made-drop : (n : ℕ) (made : List Laid) → map made_write (drop n (map made_of made)) ≡ map write_of (drop n made)
made-drop zero made = same_writes made
made-drop (suc n) [] = refl
made-drop (suc n) (w ∷ made) = made-drop n made

pub made-take : (n : ℕ) (made : List Laid) → map made_write (take n (map made_of made)) ≡ map write_of (take n made)
made-take zero made = refl
made-take (suc n) [] = refl
made-take (suc n) (w ∷ made) = ap (λ (ws : List Write). write_of w ∷ ws) (made-take n made)

-- ---- at its start

pub at_start : (base : List (List ℕ)) (laid : List Laid) → IsImage base laid → GoTogether (image_of base laid) (now_of base laid []) (map made_of []) 0
at_start base laid is = fresh (image_of base laid) (omega (arith, length-image base laid, is.size_fits)) (image_whole base laid is)

pub medium_at_start : (base : List (List ℕ)) (laid : List Laid) (fuse : Option ℕ)
    → record { size = length base; lasting = lasting_with fuse; calls = no_calls; history = history_of (image_of base laid) (map made_of []) } ≡ begun (image_of base laid) fuse
medium_at_start base laid fuse = ap (λ (n : ℕ). record { size = n; lasting = lasting_with fuse; calls = no_calls; history = at_rest (image_of base laid) ∷ [] }) (sym (length-image base laid))

-- ---- a device

module _ (base : List (List ℕ)) (laid made : List Laid) (standing : ℕ) (is : IsImage base laid) (all : GoTogether (image_of base laid) (now_of base laid made) (map made_of made) standing) where
  abbrev first : List (List ℕ)
  first = image_of base laid

  abbrev now_disk : Disk
  now_disk = present (history_of first (map made_of made))

  pub within : standing ≤ length made
  within = omega (arith, all.within, length-map made made_of)

  -- how many writes pend
  pub pending : length now_disk.pending ≡ length made - standing
  pending = ap length (all.pends ∙ made-drop standing made) ∙ length-map (drop standing made) write_of ∙ length-drop standing made

  -- what a read gives
  pub read_is : (at : ℕ) (bytes mid new : List ℕ) → slice_get base at ≡ Some bytes → Some mid ≡ newest (Some bytes) (map write_of laid) at → Some new ≡ newest (Some mid) (map write_of made) at
      → slice_get (seen now_disk) at ≡ Some new
  read_is at bytes mid new found over since =
      let one = newest_is_read (length base) base (map write_of laid) at refl is.laid_whole in
      let writes : All (IsWrite (length first)) (map write_of made) = subst (All (IsWrite (length first))) (same_writes made) (All-map (IsWrite (length first)) made_write (map made_of made) all.made_whole) in
      let two = newest_is_read (length first) first (map write_of made) at refl writes in
      ap (λ (l : List (List ℕ)). slice_get l at) all.reads_now ∙ two ∙ ap (λ (o : Option (List ℕ)). newest o (map write_of made) at) (one ∙ ap (λ (o : Option (List ℕ)). newest o (map write_of laid) at) found ∙ sym over) ∙ sym since

  -- what a crash leaves
  module _ (keep : List Bool) (after : List Laid) (is_after : map write_of after ≡ map write_of (laid ++ take standing made) ++ kept keep (map write_of (drop standing made))) where
    pub left_is : image_of base after ≡ image keep now_disk
    left_is =
        ap (written base) (is_after ∙ ap (λ (ws : List Write). ws ++ kept keep (map write_of (drop standing made))) (map-append write_of laid (take standing made)))
        ∙ written-append base (map write_of laid ++ map write_of (take standing made)) (kept keep (map write_of (drop standing made)))
        ∙ ap (λ (l : List (List ℕ)). written l (kept keep (map write_of (drop standing made)))) (written-append base (map write_of laid) (map write_of (take standing made)))
        ∙ (λ i. written (written first (sym (made-take standing made) i)) (kept keep (sym (made-drop standing made) i)))
        ∙ crashed first (now_of base laid made) (map made_of made) standing all keep

    pub left_image : IsImage base after
    left_image =
        let n = length first in
        let same : n ≡ length base = length-image base laid in
        let made_whole : All (IsWrite n) (map write_of made) = subst (All (IsWrite n)) (same_writes made) (All-map (IsWrite n) made_write (map made_of made) all.made_whole) in
        let made_in : All (IsWrite (length base)) (map write_of made) = subst (λ (k : ℕ). All (IsWrite k) (map write_of made)) same made_whole in
        record {
          size_fits = is.size_fits;
          base_whole = is.base_whole;
          laid_whole = subst (All (IsWrite (length base))) (sym (is_after ∙ ap (λ (ws : List Write). ws ++ kept keep (map write_of (drop standing made))) (map-append write_of laid (take standing made))))
              (All-append (IsWrite (length base)) (map write_of laid ++ map write_of (take standing made)) (kept keep (map write_of (drop standing made)))
              (All-append (IsWrite (length base)) (map write_of laid) (map write_of (take standing made)) is.laid_whole (subst (All (IsWrite (length base))) (taken standing made) (All-take (IsWrite (length base)) standing (map write_of made) made_in)))
              (All-kept (length base) keep (map write_of (drop standing made)) (subst (All (IsWrite (length base))) (dropped standing made) (All-drop (IsWrite (length base)) standing (map write_of made) made_in))));
        }
      where
        taken : (n : ℕ) (l : List Laid) → take n (map write_of l) ≡ map write_of (take n l)
        taken zero l = refl
        taken (suc n) [] = refl
        taken (suc n) (w ∷ l) = ap (λ (ws : List Write). write_of w ∷ ws) (taken n l)

        dropped : (n : ℕ) (l : List Laid) → drop n (map write_of l) ≡ map write_of (drop n l)
        dropped zero l = refl
        dropped (suc n) [] = refl
        dropped (suc n) (w ∷ l) = dropped n l

  -- one more write
  module _ (at : ℕ) (bytes : List ℕ) (in_range : at < length base) (whole : IsSector bytes) where
    abbrev new : Laid
    new = record { at = at; bytes = bytes; sync_followed = false }

    in_first : at < length first
    in_first = omega (arith, in_range, length-image base laid)

    same_made : map made_of (made ++ new ∷ []) ≡ map made_of made ++ made_of new ∷ []
    same_made = map_push made_of made new

    same_now : now_of base laid (made ++ new ∷ []) ≡ set (now_of base laid made) at bytes
    same_now = ap (written first) (map_push write_of made new) ∙ written-append first (map write_of made) (write_of new ∷ [])

    pub more_goes : GoTogether first (now_of base laid (made ++ new ∷ [])) (map made_of (made ++ new ∷ [])) standing
    more_goes =
        subst (λ (l : List (List ℕ)). GoTogether first l (map made_of (made ++ new ∷ [])) standing) (sym same_now)
        (subst (λ (l : List Made). GoTogether first (set (now_of base laid made) at bytes) l standing) (sym same_made)
        (push_goes first (now_of base laid made) (map made_of made) standing all at bytes in_first whole))

    pub more_pushed : history_of first (map made_of (made ++ new ∷ [])) ≡ appended (record { at = at; bytes = bytes }) now_disk ∷ history_of first (map made_of made)
    more_pushed = ap (history_of first) same_made ∙ pushed first (now_of base laid made) (map made_of made) standing all at bytes in_first whole

-- ---- all writes are durable

module _ (base : List (List ℕ)) (laid made : List Laid) (standing : ℕ) (all : GoTogether (image_of base laid) (now_of base laid made) (map made_of made) standing) (n : ℕ) (counts : n + 1 ≡ length made)
    (waits : standing < length made) (m : Laid) (is_last : m ≡ get_or made n m) where
  abbrev marked : Laid
  marked = record { at = m.at; bytes = m.bytes; sync_followed = true }

  abbrev settled : List Laid
  settled = set made n marked

  as_many : n + 1 ≡ length (map made_of made)
  as_many = omega (arith, counts, length-map made made_of)

  some_wait : standing < length (map made_of made)
  some_wait = omega (arith, waits, length-map made made_of)

  last_made : made_of m ≡ get_or (map made_of made) n (made_of m)
  last_made = ap made_of is_last ∙ sym (get_or-map made_of made n m (made_of m) (omega (arith, counts)))

  marked_made : map made_of settled ≡ set (map made_of made) n (made_of marked)
  marked_made = map-set made_of made n marked

  same_last : write_of m ≡ get_or (map write_of made) n (write_of m)
  same_last = ap write_of is_last ∙ sym (get_or-map write_of made n m (write_of m) (omega (arith, counts)))

  marked_now : now_of base laid settled ≡ now_of base laid made
  marked_now = ap (written (image_of base laid)) (map-set write_of made n marked ∙ ap (λ (w : Write). set (map write_of made) n w) same_last ∙ set-get_or (map write_of made) n (write_of m))

  pub settled_goes : GoTogether (image_of base laid) (now_of base laid settled) (map made_of settled) (length made)
  settled_goes =
      subst (λ (k : ℕ). GoTogether (image_of base laid) (now_of base laid settled) (map made_of settled) k) (length-map made made_of)
      (subst (λ (l : List (List ℕ)). GoTogether (image_of base laid) l (map made_of settled) (length (map made_of made))) (sym marked_now)
      (subst (λ (l : List Made). GoTogether (image_of base laid) (now_of base laid made) l (length (map made_of made))) (sym marked_made)
      (settle_goes (image_of base laid) (now_of base laid made) (map made_of made) standing all n as_many some_wait (made_of m) last_made)))

  pub settled_stands : history_of (image_of base laid) (map made_of settled) ≡ synced (present (history_of (image_of base laid) (map made_of made))) ∷ history_of (image_of base laid) (map made_of made)
  settled_stands = ap (history_of (image_of base laid)) marked_made
      ∙ settle_stands (image_of base laid) (now_of base laid made) (map made_of made) standing all n as_many some_wait (made_of m) last_made

-- ---- in the words of vectors

pub bare_image : (base : List (List ℕ)) (laid : List Laid) → laid ≡ [] → length base < 2 ^ 32 → All IsSector base → IsImage base laid
bare_image base laid none fits whole = record { size_fits = fits; base_whole = whole; laid_whole = subst (λ (l : List Laid). All (IsWrite (length base)) (map write_of l)) (sym none) (All-nil (IsWrite (length base))) }

module _ (base : List (List ℕ)) (laid copy : List Laid) (same : copy ≡ laid) where
  pub starts_image : IsImage base laid → IsImage base copy
  starts_image is = subst (IsImage base) (sym same) is

  pub starts_together : (made : List Laid) → made ≡ [] → IsImage base laid → GoTogether (image_of base copy) (now_of base copy made) (map made_of made) 0
  starts_together made none is = subst (λ (m : List Laid). GoTogether (image_of base copy) (now_of base copy m) (map made_of m) 0) (sym none) (at_start base copy (starts_image is))

  pub starts_medium : (made : List Laid) (fuse : Option ℕ) (view : List (List ℕ)) → view ≡ image_of base laid → made ≡ []
      → record { size = length base; lasting = lasting_with fuse; calls = no_calls; history = history_of (image_of base copy) (map made_of made) } ≡ begun view fuse
  starts_medium made fuse view is none =
      subst (λ (m : List Laid). record { size = length base; lasting = lasting_with fuse; calls = no_calls; history = history_of (image_of base copy) (map made_of m) } ≡ begun view fuse) (sym none)
      (medium_at_start base copy fuse ∙ ap (λ (v : List (List ℕ)). begun v fuse) (ap (image_of base) same ∙ sym is))

pub starts_fuse : (fuse : Option ℕ) → KeepsFuse fuse no_calls
starts_fuse fuse = record { at_most = λ n is. omega arith }

-- ---- sectors one after another

get_some : (xs : List (List ℕ)) (i : ℕ) (x : List ℕ) → slice_get xs i ≡ Some x → take (suc i) xs ≡ take i xs ++ x ∷ []
get_some [] i x is = cc
get_some (y ∷ xs) zero x is = ap (λ (o : Option (List ℕ)). or_else o ∷ []) is
  where
    or_else : Option (List ℕ) → List ℕ
    or_else None = y
    or_else (Some z) = z
get_some (y ∷ xs) (suc i) x is = ap (λ (l : List (List ℕ)). y ∷ l) (get_some xs i x is)

pub one_sector_more : (all before after : List (List ℕ)) (at : ℕ) (bytes : List ℕ) → before ≡ take at all → after ≡ before ++ bytes ∷ [] → slice_get all at ≡ Some bytes → after ≡ take (at + 1) all
one_sector_more all before after at bytes so_far is found = let next : suc at ≡ at + 1 = omega arith in is ∙ ap (λ (l : List (List ℕ)). l ++ bytes ∷ []) so_far ∙ sym (get_some all at bytes found) ∙ ap (λ (n : ℕ). take n all) next

pub all_sectors : (all now : List (List ℕ)) (at : ℕ) → now ≡ take at all → length all ≤ at → now ≡ all
all_sectors all now at so_far past = so_far ∙ take_all at all past

-- ---- writes that a mask keeps

-- with those of the writes that are left, what was added is what is wanted
module _ (keep : List Bool) (pending : List Laid) (i : ℕ) (lt : i < length pending) (d : Laid) (before wanted : List Write)
    (so_far : before ++ kept (drop i keep) (map write_of (drop i pending)) ≡ wanted) where
  splits : kept (drop i keep) (map write_of (drop i pending)) ≡ cond (get_or keep i false) (write_of (get_or pending i d) ∷ kept (drop (i + 1) keep) (map write_of (drop (i + 1) pending))) (kept (drop (i + 1) keep) (map write_of (drop (i + 1) pending)))
  splits = rw (drop_more pending i d lt, add-one) (kept_step keep i (write_of (get_or pending i d)) (map write_of (drop (suc i) pending)))

  abbrev rest : List Write
  rest = kept (drop (i + 1) keep) (map write_of (drop (i + 1) pending))

  chosen : (b : Bool) → get_or keep i false ≡ b → before ++ cond b (write_of (get_or pending i d) ∷ rest) rest ≡ wanted
  chosen b is = ap (λ (c : Bool). before ++ cond c (write_of (get_or pending i d) ∷ rest) rest) (sym is) ∙ ap (λ (l : List Write). before ++ l) (sym splits) ∙ so_far

  pub kept_more : get_or keep i false ≡ true → (after : List Write) → after ≡ before ++ write_of (get_or pending i d) ∷ [] → after ++ rest ≡ wanted
  kept_more is after added = ap (λ (l : List Write). l ++ rest) added ∙ append_assoc before (write_of (get_or pending i d) ∷ []) rest ∙ chosen true is

  pub kept_less : get_or keep i false ≡ false → before ++ rest ≡ wanted
  kept_less is = chosen false is

-- what holds with one more, and without it, holds once it was pushed, or wasn't
pub pushed_or_not : (P : List Laid → Type 0) (ok : Bool) (old more new : List Laid) → new ≡ (if ok then more else old) → P old → P more → P new
pushed_or_not P true old more new is before after = subst P (sym is) after
pushed_or_not P false old more new is before after = subst P (sym is) before
