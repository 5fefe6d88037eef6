-- Versions in bytes that grow.
use Rattle.std.proofs.Common.{◌≡◌, ℕ, ◌+◌, ◌≤◌, List, [], ◌∷◌, ◌++◌, length, take, drop, map, Option, Some, None, refl, ap, sym, subst, ◌∙◌, arith}
use Rattle.std.specs.Prelude.{option_map}
use Rattle.std.specs.List.{AllByRecursion}
use Rattle.std.proofs.lemmas.List.{length-append, length-drop, drop-append-le, take-append-le, take-append-drop}
use Rattle.lsm_codec.specs.declared.place.Place.{Place}
use Rattle.lsm_codec.specs.Keys.{Bytes}
use Rattle.lsm_codec.specs.Versions.{IsEntry}
use Rattle.lsm_codec.specs.Places.{value_room, version_at, IsPlaceIn}

part_stays : (bytes more : Bytes) (at n : ℕ) → at + n ≤ length bytes → take n (drop at (bytes ++ more)) ≡ take n (drop at bytes)
part_stays bytes more at n h = ap (λ t. take n t) (drop-append-le at bytes more (omega arith)) ∙ take-append-le n (drop at bytes) more (omega (arith, length-drop at bytes))

value_stays : (bytes more : Bytes) (at : ℕ) (len : Option ℕ) → at + value_room len ≤ length bytes → option_map (λ n. take n (drop at (bytes ++ more))) len ≡ option_map (λ n. take n (drop at bytes)) len
value_stays bytes more at None h = refl
value_stays bytes more at (Some n) h = ap Some (part_stays bytes more at n h)

version_stays : (bytes more : Bytes) (place : Place) → place.at + (place.key_len + value_room place.value_len) ≤ length bytes → version_at (bytes ++ more) place ≡ version_at bytes place
version_stays bytes more place h = rw (part_stays bytes more place.at place.key_len (omega arith), value_stays bytes more (place.at + place.key_len) place.value_len (omega arith)) refl

place_stays : (bytes more : Bytes) (place : Place) → IsPlaceIn bytes place → IsPlaceIn (bytes ++ more) place
place_stays bytes more place h = record { inside = omega (arith, length-append bytes more, h.inside); entry = subst IsEntry (sym (version_stays bytes more place h.inside)) h.entry }

grown : (old new : Bytes) → take (length old) new ≡ old → old ++ drop (length old) new ≡ new
grown old new longer = ap (λ t. t ++ drop (length old) new) (sym longer) ∙ take-append-drop (length old) new

-- the places of bytes are places of what these have grown to
pub places_stay : (old new : Bytes) (places : List Place) → take (length old) new ≡ old → AllByRecursion (IsPlaceIn old) places → AllByRecursion (IsPlaceIn new) places
places_stay old new [] longer h = tt
places_stay old new (place ∷ places) longer h = (subst (λ bytes. IsPlaceIn bytes place) (grown old new longer) (place_stays old (drop (length old) new) place h.0), places_stay old new places longer h.1)

-- and the versions there are the same
pub versions_stay : (old new : Bytes) (places : List Place) → take (length old) new ≡ old → AllByRecursion (IsPlaceIn old) places → map (version_at new) places ≡ map (version_at old) places
versions_stay old new [] longer h = refl
versions_stay old new (place ∷ places) longer h = rw (sym (ap (λ bytes. version_at bytes place) (grown old new longer)) ∙ version_stays old (drop (length old) new) place h.0.inside, versions_stay old new places longer h.1) refl
