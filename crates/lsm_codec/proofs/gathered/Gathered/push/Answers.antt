use Rattle.std.proofs.Common.{◌∷◌, ◌++◌, [], map, ap, sym, subst, ◌∙◌}
use Rattle.std.proofs.lemmas.List.{map-append}
use Rattle.std.specs.List.{AllByRecursion}
use Rattle.lsm_codec.specs.Places.{version_at, IsPlaceIn}
use Rattle.lsm_codec.proofs.Lists.{all_append}
use Rattle.lsm_codec.proofs.Places.{places_stay, versions_stay}
use Rattle.lsm_codec.proofs.gathered.Gathered.push.Goals as goal

-- src/gathered.rt:56:9
pub invariant_of-self-in_err-push : goal.invariant_of-self-in_err-push
invariant_of-self-in_err-push g c = subst (λ places. AllByRecursion (IsPlaceIn c.append.new.bytes.items) places) (sym c.in_err-push.ensures.items) (places_stay c.self.inside.bytes.items c.append.new.bytes.items c.self.inside.places.items c.append.ensures.longer c.self.invariant)

-- src/gathered.rt:51:5
pub invariant_of-self-2 : goal.invariant_of-self-2
invariant_of-self-2 g c =
    let places = places_stay c.self.inside.bytes.items c.append.new.bytes.items c.self.inside.places.items c.append.ensures.longer c.self.invariant in
    subst (λ places. AllByRecursion (IsPlaceIn c.append.new.bytes.items) places) (sym c.in_ok-push.ensures.items)
    (all_append (IsPlaceIn c.append.new.bytes.items) c.self.inside.places.items (c.in_ok-place.place ∷ []) places (c.in_ok-place.ensures.place, tt))

-- src/gathered.rt:51:5
pub returns : goal.returns
returns g c =
    let bytes = c.append.new.bytes.items in
    let before = versions_stay c.self.inside.bytes.items bytes c.self.inside.places.items c.append.ensures.longer c.self.invariant ∙ c.self.view_is in
    ap (λ places. map (version_at bytes) places) c.in_ok-push.ensures.items
    ∙ map-append (version_at bytes) c.self.inside.places.items (c.in_ok-place.place ∷ [])
    ∙ ap (λ t. t ++ version_at bytes c.in_ok-place.place ∷ []) before
    ∙ ap (λ v. c.args.self.now ++ v ∷ []) c.in_ok-place.ensures.version
