-- What the parts of an exploration add to the counts, one after another.
use Rattle.std.proofs.Common.{◌≡◌, ℕ, ◌+◌, Bool, true, false, if◌then◌else◌, List, [], ◌∷◌, ◌++◌, length, map, take, drop, get_or, ◌<◌, ◌-◌, ◌||◌, None, refl, ap, sym, subst, ◌∙◌, arith}
use Rattle.std.proofs.lemmas.Simd.{map-map}
use Rattle.std.proofs.lemmas.List.{append-nil, length-append, length-map, append_assoc, take_more, take_rest, drop-map, map_push}
use Rattle.std.specs.List.{list_any}
use Rattle.lsm_device.specs.Disk.{image}
use Rattle.lsm_device.specs.Medium.{Medium, disk}
use Rattle.lsm_image.specs.Media.{begun}
use Rattle.lsm_lives.specs.Asked.{Asked, Told}
use Rattle.lsm_explore.specs.Exploring.{Sectors, tells_no_memory, is_wanting, IsEnd, AreEndsFrom, IsWhole, left_of, left_of_each, skips, skipped_in, AreReopened, left_again, skipped_again, IsExploredFrom, AddsOpening, AddsOpenings, AddsCrashes, AddsLife}
use Rattle.lsm_lives.specs.Leading.{IsLed}
use Rattle.lsm_explore.specs.Masks.{masks_for}
use Rattle.lsm_lives.specs.Calls.{told_of}
use Rattle.lsm_lives.specs.declared.calls.Reply.{Reply as GivenReply}
use Rattle.lsm_explore.specs.declared.exploring.Explored.{Explored}

-- ---- lists of ends

one_end_more : (sectors : Sectors) (asked : List Asked) (end : Medium) (fuse : ℕ) (ends : List Medium) → AreEndsFrom sectors asked fuse ends → IsEnd sectors asked (fuse + length ends) end
    → AreEndsFrom sectors asked fuse (ends ++ end ∷ [])
one_end_more sectors asked end fuse [] are is = (subst (λ (n : ℕ). IsEnd sectors asked n end) (omega arith) is, tt)
one_end_more sectors asked end fuse (first ∷ ends) are is =
    (are.0, one_end_more sectors asked end (fuse + 1) ends are.1 (subst (λ (n : ℕ). IsEnd sectors asked n end) (omega arith) is))

left_more : (ends : List Medium) (end : Medium) → left_of_each (ends ++ end ∷ []) ≡ left_of_each ends ++ left_of end
left_more [] end = append-nil (left_of end)
left_more (first ∷ ends) end = ap (λ (l : List Sectors). left_of first ++ l) (left_more ends end) ∙ sym (append_assoc (left_of first) (left_of_each ends) (left_of end))

length-left_more : (ends : List Medium) (end : Medium) → length (left_of_each (ends ++ end ∷ [])) ≡ length (left_of_each ends) + length (left_of end)
length-left_more ends end = ap length (left_more ends end) ∙ length-append (left_of_each ends) (left_of end)

skipped_more : (ends : List Medium) (end : Medium) → skipped_in (ends ++ end ∷ []) ≡ skipped_in ends + skips end
skipped_more [] end = omega arith
skipped_more (first ∷ ends) end = omega (arith, skipped_more ends end)

reopened_both : (left : List Sectors) (again : List (List Medium)) (more : List Sectors) (rest : List (List Medium)) → AreReopened left again → AreReopened more rest → AreReopened (left ++ more) (again ++ rest)
reopened_both [] [] more rest are others = others
reopened_both (sectors ∷ left) (ends ∷ again) more rest are others = (are.0, reopened_both left again more rest are.1 others)
reopened_both [] (ends ∷ again) more rest are others = absurd are
reopened_both (sectors ∷ left) [] more rest are others = absurd are

again_both : (again rest : List (List Medium)) → left_again (again ++ rest) ≡ left_again again + left_again rest
again_both [] rest = omega arith
again_both (ends ∷ again) rest = omega (arith, again_both again rest)

skipped_both : (again rest : List (List Medium)) → skipped_again (again ++ rest) ≡ skipped_again again + skipped_again rest
skipped_both [] rest = omega arith
skipped_both (ends ∷ again) rest = omega (arith, skipped_both again rest)

-- ---- what is told of want of memory

pub wanting_told : {A : Type 0} (replies : List (GivenReply A)) → is_wanting (map told_of replies) ≡ list_any (λ reply. tells_no_memory (told_of reply)) replies
wanting_told [] = refl
wanting_told (reply ∷ replies) = ap (λ (b : Bool). tells_no_memory (told_of reply) || b) (wanting_told replies)

-- ---- a life without a fuse

pub whole_life : (sectors : Sectors) (asked : List Asked) (told : List Told) (whole : Medium) (count : ℕ) → IsLed (begun sectors None) asked told whole → is_wanting told ≡ false → whole.calls.faults ≡ 0
    → count ≡ whole.calls.passed + 1 → (end : Medium) × IsWhole sectors asked end × (count ≡ end.calls.passed + 1)
whole_life sectors asked told whole count led memory no_fault counts = (whole, record { told = told; led = led; memory = memory; no_fault = no_fault }, counts)

-- ---- openings

-- openings with the first fuses, `fuses` of them
pub record OpeningsSoFar (sectors : Sectors) (fuses : ℕ) (old new : Explored) : Type 0 where
  pub ends : List Medium
  pub each : AreEndsFrom sectors [] 0 ends
  pub count : length ends ≡ fuses
  pub first : new.first ≡ old.first
  pub second : new.second ≡ old.second + length (left_of_each ends)
  pub skipped : new.skipped ≡ old.skipped + skipped_in ends
  pub wrong : new.wrong ≡ old.wrong

pub no_openings : (sectors : Sectors) (old : Explored) → OpeningsSoFar sectors 0 old old
no_openings sectors old = record { ends = []; each = tt; count = refl; first = refl; second = omega arith; skipped = omega arith; wrong = refl }

pub openings_more : (sectors : Sectors) (fuses : ℕ) (old mid new : Explored) → OpeningsSoFar sectors fuses old mid → AddsOpening sectors fuses mid new → OpeningsSoFar sectors (fuses + 1) old new
openings_more sectors fuses old mid new before adds = record {
  ends = before.ends ++ adds.end ∷ [];
  each = one_end_more sectors [] adds.end 0 before.ends before.each (subst (λ (n : ℕ). IsEnd sectors [] n adds.end) (omega (arith, before.count)) adds.is_end);
  count = omega (arith, length-append before.ends (adds.end ∷ []), before.count);
  first = adds.first ∙ before.first;
  second = omega (arith, adds.second, before.second, length-left_more before.ends adds.end);
  skipped = omega (arith, adds.skipped, before.skipped, skipped_more before.ends adds.end);
  wrong = adds.wrong ∙ before.wrong;
}

pub all_openings : (sectors : Sectors) (fuses : ℕ) (old new : Explored) → (whole : Medium) → IsWhole sectors [] whole → fuses ≡ whole.calls.passed + 1 → OpeningsSoFar sectors fuses old new → AddsOpenings sectors old new
all_openings sectors fuses old new whole is counts done = record {
  ends = done.ends;
  are_ends = record { whole = whole; is_whole = is; each = done.each; count = done.count ∙ counts };
  first = done.first;
  second = done.second;
  skipped = done.skipped;
  wrong = done.wrong;
}

-- ---- crashes of a life

pub no_crashes : (twice : Bool) (old : Explored) → AddsCrashes [] twice old old
no_crashes true old = record { again = []; are_reopened = tt; first = omega arith; second = omega arith; skipped = omega arith; wrong = refl }
no_crashes false old = record { again = []; are_reopened = tt; first = omega arith; second = omega arith; skipped = omega arith; wrong = refl }

-- a crash of the life is counted
pub record CountsFirst (old new : Explored) : Type 0 where
  pub first : new.first ≡ old.first + 1
  pub second : new.second ≡ old.second
  pub skipped : new.skipped ≡ old.skipped
  pub wrong : new.wrong ≡ old.wrong

-- one that is judged at once
pub crash_judged : (sectors : Sectors) (old mid new : Explored) → CountsFirst old mid → new ≡ mid → AddsCrashes (sectors ∷ []) false old new
crash_judged sectors old mid new counts is = subst (AddsCrashes (sectors ∷ []) false old) (sym is) (record {
  again = [];
  are_reopened = tt;
  first = counts.first;
  second = omega (arith, counts.second);
  skipped = omega (arith, counts.skipped);
  wrong = counts.wrong;
})

-- one crash, after which the openings are explored
pub crash_reopened : (sectors : Sectors) (old mid new : Explored) → CountsFirst old mid → AddsOpenings sectors mid new → AddsCrashes (sectors ∷ []) true old new
crash_reopened sectors old mid new counts adds = record {
  again = adds.ends ∷ [];
  are_reopened = (adds.are_ends, tt);
  first = adds.first ∙ counts.first;
  second = omega (arith, adds.second, counts.second);
  skipped = omega (arith, adds.skipped, counts.skipped);
  wrong = adds.wrong ∙ counts.wrong;
}

reopened_too : (twice : Bool) (left more : List Sectors) (again rest : List (List Medium)) → AreReopened (if twice then left else []) again → AreReopened (if twice then more else []) rest
    → AreReopened (if twice then left ++ more else []) (again ++ rest)
reopened_too true left more again rest are others = reopened_both left again more rest are others
reopened_too false left more again rest are others = reopened_both [] again [] rest are others

-- some after others
pub crashes_both : (left more : List Sectors) (twice : Bool) (old mid new : Explored) → AddsCrashes left twice old mid → AddsCrashes more twice mid new → AddsCrashes (left ++ more) twice old new
crashes_both left more twice old mid new before adds = record {
  again = before.again ++ adds.again;
  are_reopened = reopened_too twice left more before.again adds.again before.are_reopened adds.are_reopened;
  first = omega (arith, adds.first, before.first, length-append left more);
  second = omega (arith, adds.second, before.second, again_both before.again adds.again);
  skipped = omega (arith, adds.skipped, before.skipped, skipped_both before.again adds.again);
  wrong = adds.wrong ∙ before.wrong;
}

-- crashes of a life by the first i masks, and by one more
pub crashes_more : {M : Type 0} (sectors_by : M → Sectors) (masks : List M) (i : ℕ) (mask : M) (twice : Bool) (old mid new : Explored) → i < length masks → get_or masks i mask ≡ mask
    → AddsCrashes (map sectors_by (take i masks)) twice old mid → AddsCrashes (sectors_by mask ∷ []) twice mid new → AddsCrashes (map sectors_by (take (i + 1) masks)) twice old new
crashes_more sectors_by masks i mask twice old mid new within is before adds =
    let parts : map sectors_by (take (i + 1) masks) ≡ map sectors_by (take i masks) ++ sectors_by mask ∷ [] =
    ap (map sectors_by) (take_more masks i mask within ∙ ap (λ m. take i masks ++ m ∷ []) is) ∙ map_push sectors_by (take i masks) mask in
    subst (λ (l : List Sectors). AddsCrashes l twice old new) (sym parts) (crashes_both (map sectors_by (take i masks)) (sectors_by mask ∷ []) twice old mid new before adds)

-- what was told after the first
pub behind_first : {A : Type 0} (replies : List (GivenReply A)) → map told_of (take (length replies - 1) (drop 1 replies)) ≡ drop 1 (map told_of replies)
behind_first replies = ap (map told_of) (take_rest replies 1) ∙ sym (drop-map told_of 1 replies)

-- the sectors that crashes by the masks leave that are tried
pub left_by_masks : {M : Type 0} (places : M → List Bool) (masks : List M) (pending : ℕ) (end : Medium) → map places masks ≡ masks_for pending → pending ≡ length (disk end).pending
    → map (λ mask. image (places mask) (disk end)) masks ≡ left_of end
left_by_masks places masks pending end are is =
    sym (map-map (λ mask. image mask (disk end)) places masks) ∙ ap (map (λ mask. image mask (disk end))) (are ∙ ap masks_for is)

-- a life with one fuse, of which crashes by each mask were explored
pub life_explored : (sectors : Sectors) (asked : List Asked) (fuse : ℕ) (twice : Bool) (end : Medium) (old mid new : Explored) → IsEnd sectors asked fuse end
    → (mid.first ≡ old.first) × (mid.second ≡ old.second) × (mid.wrong ≡ old.wrong) → mid.skipped ≡ old.skipped + skips end → AddsCrashes (left_of end) twice mid new → AddsLife sectors asked fuse twice old new
life_explored sectors asked fuse twice end old mid new is_end same more adds = record {
  end = end;
  is_end = is_end;
  again = adds.again;
  are_reopened = adds.are_reopened;
  first = omega (arith, adds.first, same.0);
  second = omega (arith, adds.second, same.1);
  skipped = omega (arith, adds.skipped, more);
  wrong = adds.wrong ∙ same.2;
}

-- an opening with one fuse, of which as many crashes were judged as there are masks
pub opening_explored : (sectors : Sectors) (fuse : ℕ) (end : Medium) (old mid new : Explored) → IsEnd sectors [] fuse end
    → (mid.first ≡ old.first) × (mid.second ≡ old.second) × (mid.wrong ≡ old.wrong) → mid.skipped ≡ old.skipped + skips end
    → new.second ≡ mid.second + length (masks_for (length (disk end).pending)) → (new.first ≡ mid.first) × (new.skipped ≡ mid.skipped) × (new.wrong ≡ mid.wrong) → AddsOpening sectors fuse old new
opening_explored sectors fuse end old mid new is_end same more second others = record {
  end = end;
  is_end = is_end;
  first = others.0 ∙ same.0;
  second = omega (arith, second, same.1, length-map (masks_for (length (disk end).pending)) (λ mask. image mask (disk end)));
  skipped = others.1 ∙ more;
  wrong = others.2 ∙ same.2;
}

-- ---- lives

-- lives with the first fuses, `fuses` of them
pub record LivesSoFar (sectors : Sectors) (asked : List Asked) (fuses : ℕ) (twice : Bool) (new : Explored) : Type 0 where
  pub ends : List Medium
  pub each : AreEndsFrom sectors asked 0 ends
  pub count : length ends ≡ fuses
  pub again : List (List Medium)
  pub are_reopened : AreReopened (if twice then left_of_each ends else []) again
  pub first : new.first ≡ length (left_of_each ends)
  pub second : new.second ≡ left_again again
  pub skipped : new.skipped ≡ skipped_in ends + skipped_again again
  pub wrong : new.wrong ≡ 0

pub no_lives : (sectors : Sectors) (asked : List Asked) (twice : Bool) (new : Explored) → new ≡ record { first = 0; second = 0; skipped = 0; wrong = 0 } → LivesSoFar sectors asked 0 twice new
no_lives sectors asked true new is = record { ends = []; each = tt; count = refl; again = []; are_reopened = tt; first = ap (λ (e : Explored). e.first) is; second = ap (λ (e : Explored). e.second) is; skipped = ap (λ (e : Explored). e.skipped) is; wrong = ap (λ (e : Explored). e.wrong) is }
no_lives sectors asked false new is = record { ends = []; each = tt; count = refl; again = []; are_reopened = tt; first = ap (λ (e : Explored). e.first) is; second = ap (λ (e : Explored). e.second) is; skipped = ap (λ (e : Explored). e.skipped) is; wrong = ap (λ (e : Explored). e.wrong) is }

both_reopened : (twice : Bool) (ends : List Medium) (end : Medium) (again rest : List (List Medium)) → AreReopened (if twice then left_of_each ends else []) again → AreReopened (if twice then left_of end else []) rest
    → AreReopened (if twice then left_of_each (ends ++ end ∷ []) else []) (again ++ rest)
both_reopened true ends end again rest are others = subst (λ (l : List Sectors). AreReopened l (again ++ rest)) (sym (left_more ends end)) (reopened_both (left_of_each ends) again (left_of end) rest are others)
both_reopened false ends end again rest are others = reopened_both [] again [] rest are others

pub lives_more : (sectors : Sectors) (asked : List Asked) (fuses : ℕ) (twice : Bool) (mid new : Explored) → LivesSoFar sectors asked fuses twice mid → AddsLife sectors asked fuses twice mid new
    → LivesSoFar sectors asked (fuses + 1) twice new
lives_more sectors asked fuses twice mid new before adds = record {
  ends = before.ends ++ adds.end ∷ [];
  each = one_end_more sectors asked adds.end 0 before.ends before.each (subst (λ (n : ℕ). IsEnd sectors asked n adds.end) (omega (arith, before.count)) adds.is_end);
  count = omega (arith, length-append before.ends (adds.end ∷ []), before.count);
  again = before.again ++ adds.again;
  are_reopened = both_reopened twice before.ends adds.end before.again adds.again before.are_reopened adds.are_reopened;
  first = omega (arith, adds.first, before.first, length-left_more before.ends adds.end);
  second = omega (arith, adds.second, before.second, again_both before.again adds.again);
  skipped = omega (arith, adds.skipped, before.skipped, skipped_more before.ends adds.end, skipped_both before.again adds.again);
  wrong = adds.wrong ∙ before.wrong;
}

pub all_lives : (sectors : Sectors) (asked : List Asked) (fuses : ℕ) (twice : Bool) (new : Explored) → (whole : Medium) → IsWhole sectors asked whole → fuses ≡ whole.calls.passed + 1
    → LivesSoFar sectors asked fuses twice new → IsExploredFrom sectors asked twice new
all_lives sectors asked fuses twice new whole is counts done = record {
  ends = done.ends;
  are_ends = record { whole = whole; is_whole = is; each = done.each; count = done.count ∙ counts };
  again = done.again;
  are_reopened = done.are_reopened;
  first = done.first;
  second = done.second;
  skipped = done.skipped;
}
