-- A step of the walk over all versions.
use Rattle.std.proofs.Common.{◌≡◌, ℕ, List, ◌∷◌, ◌++◌, length, map, reverse, sym, ap, ◌∙◌}
use Rattle.std.specs.declared.vec.Vec.{Vec}
use Rattle.lsm_codec.specs.Keys.{Bytes}
use Rattle.lsm_codec.proofs.Lists.{none_length}
use Rattle.lsm_mem.specs.Histories.{Change, version, versions_of, plain}

-- Where none of a key's changes is left, the next version is the newest of the next key. The older ones are kept with the newest last.
pub next_key : {Z : Type 0} (left : List Change) (last : Bytes) (rest more : List (Vec ℕ Z × List Change)) (key : Vec ℕ Z) (k : Bytes) (history older : List Change) (newest : Change)
    → length left ≡ 0 → rest ≡ (key, history) ∷ more → history ≡ newest ∷ reverse older → k ≡ key.items
    → map (version last) (reverse left) ++ versions_of (plain rest) ≡ version k newest ∷ (map (version k) (reverse older) ++ versions_of (plain more))
next_key {Z = Z} left last rest more key k history older newest none is parts at =
    ap (λ (changes : List Change). map (version last) (reverse changes) ++ versions_of (plain rest)) (none_length left none)
    ∙ ap (λ (entries : List (Vec ℕ Z × List Change)). versions_of (plain entries)) is
    ∙ ap (λ (changes : List Change). map (version key.items) changes ++ versions_of (plain more)) parts
    ∙ ap (λ (b : Bytes). version b newest ∷ (map (version b) (reverse older) ++ versions_of (plain more))) (sym at)
