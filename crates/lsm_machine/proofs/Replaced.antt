-- Versions where what a merge keeps stands in the place of its input.
use Rattle.std.proofs.Common.{◌≡◌, ◌⊎◌, ⊎_elim, ℕ, ◌≤◌, ◌<◌, Bool, true, false, List, Option, Some, None, option_and_then, refl, sym, ap, ◌∙◌, subst, arith}
use Rattle.std.proofs.lemmas.Bool.{cases_lt}
use Rattle.lsm_codec.specs.Keys.{Bytes}
use Rattle.lsm_codec.specs.Versions.{Version, newest, is_version_of}
use Rattle.lsm_mem.specs.Versions.{value_at}
use Rattle.lsm_merge.specs.Inputs.{MergeInput, kept_of}
use Rattle.lsm_mem.specs.Versions.{joined}
use Rattle.lsm_merge.specs.Keeping.{keep}
use Rattle.lsm_merge.specs.Laws.{IsKeptAt, HaveSameMap}
use Rattle.lsm_merge.proofs.MapLaws.{keep_law}
use Rattle.lsm_levels.specs.Among.{IsAmong}
use Rattle.lsm_machine.proofs.SameMaps.{map_of-values}
use Rattle.lsm_machine.specs.WorkMaps.{IsUnique}
use Rattle.lsm_machine.proofs.NewestAmong.{IsNewest, key_of, newest_is, none_is}

-- The versions after it: those that were, but for the input's, and what is kept of these.
pub record IsReplacing (input : MergeInput) (before after : List Version) : Type 0 where
  pub unique : IsUnique before
  pub inputs : (v : Version) → IsAmong v (joined input.runs) → IsAmong v before
  pub stays : (v : Version) → IsAmong v before → IsAmong v (joined input.runs) ⊎ IsAmong v after
  pub kept : (v : Version) → IsAmong v (kept_of input) → IsAmong v after
  pub nothing_else : (v : Version) → IsAmong v after → IsAmong v before
  -- where the bottom flag is set, what stays of an input's key is newer, or kept itself
  pub lowest : input.bottom ≡ true → (v w : Version) → IsAmong v (joined input.runs) → IsAmong w after → w.key ≡ v.key → w.number < v.number → IsAmong w (kept_of input)

abbrev value_of : Option Version → Option Bytes
value_of o = option_and_then (λ v. v.value) o

module _ (input : MergeInput) (before after : List Version) (n : ℕ) (r : IsReplacing input before after) (k : IsKeptAt input.cuts (joined input.runs) n) (key : Bytes) where
  abbrev inputs : List Version
  inputs = joined input.runs

  -- of one key, each as new as the other, they are one
  same : (v w : Version) → IsAmong v before → IsAmong w before → is_version_of key n v ≡ true → is_version_of key n w ≡ true → v.number ≤ w.number → w.number ≤ v.number → v ≡ w
  same v w a b of_v of_w le ge = r.unique v w a b (sym (key_of key n v of_v) ∙ key_of key n w of_w) (let e : v.number ≡ w.number = omega (arith, le, ge) in e)

  -- what is newest before, and is there after, is newest after
  there : (v : Version) → IsNewest key n before v → IsAmong v after → value_of (newest key n after) ≡ v.value
  there v new a = by (newest key n after) refl
    where
      by : (o : Option Version) → newest key n after ≡ o → value_of o ≡ v.value
      by None e = absurd (none_is key n after e v a new.of)
      by (Some w) e =
          let is = newest_is key n after w e in
          ap (λ (x : Version). x.value) (same w v (r.nothing_else w is.among) new.among is.of new.of (new.greatest w (r.nothing_else w is.among) is.of) (is.greatest v a new.of))

  -- it is the newest of the inputs too, where it is one of them
  newest_input : (v : Version) → IsNewest key n before v → IsAmong v inputs → newest key n inputs ≡ Some v
  newest_input v new a = by (newest key n inputs) refl
    where
      by : (o : Option Version) → newest key n inputs ≡ o → o ≡ Some v
      by None e = absurd (none_is key n inputs e v a new.of)
      by (Some u) e =
          let is = newest_is key n inputs u e in
          ap (λ (x : Version). Some x) (same u v (r.inputs u is.among) new.among is.of new.of (new.greatest u (r.inputs u is.among) is.of) (is.greatest v a new.of))

  -- above the bottom it is kept
  above : (v : Version) → input.bottom ≡ false → IsNewest key n before v → IsAmong v inputs → value_of (newest key n after) ≡ v.value
  above v flag new a =
      let found : newest key n (keep input.cuts false inputs) ≡ Some v = (keep_law input.cuts inputs).same_newest n k key ∙ newest_input v new a in
      let stays : IsAmong v (keep input.cuts false inputs) = (newest_is key n (keep input.cuts false inputs) v found).among in
      there v new (r.kept v (subst (λ (b : Bool). IsAmong v (keep input.cuts b inputs)) (sym flag) stays))

  -- at the bottom its value is
  at_bottom : (v : Version) → input.bottom ≡ true → IsNewest key n before v → IsAmong v inputs → value_of (newest key n after) ≡ v.value
  at_bottom v flag new a = by (newest key n after) refl
    where
      kept_value : value_of (newest key n (kept_of input)) ≡ v.value
      kept_value = ((keep_law input.cuts inputs).same_map input.bottom n k).values key ∙ ap value_of (newest_input v new a)

      -- what of the kept ones is as new as all of them has the value
      newest_kept : (u : Version) → IsNewest key n after u → IsAmong u (kept_of input) → (o : Option Version) → newest key n (kept_of input) ≡ o → value_of o ≡ v.value → u.value ≡ v.value
      newest_kept u is here None e value = absurd (none_is key n (kept_of input) e u here is.of)
      newest_kept u is here (Some w) e value =
          let of = newest_is key n (kept_of input) w e in
          let stays = r.kept w of.among in
          let one : u ≡ w = same u w (r.nothing_else u is.among) (r.nothing_else w stays) is.of of.of (of.greatest u here is.of) (is.greatest w stays of.of) in
          ap (λ (x : Version). x.value) one ∙ value

      none_kept : (o : Option Version) → newest key n (kept_of input) ≡ o → newest key n after ≡ None → value_of o ≡ v.value → None ≡ v.value
      none_kept None e none value = value
      none_kept (Some w) e none value = let of = newest_is key n (kept_of input) w e in absurd (none_is key n after none w (r.kept w of.among) of.of)

      by : (o : Option Version) → newest key n after ≡ o → value_of o ≡ v.value
      by None e = none_kept (newest key n (kept_of input)) refl e kept_value
      by (Some u) e =
          let is = newest_is key n after u e in
          let was = r.nothing_else u is.among in
          let keys : u.key ≡ v.key = sym (key_of key n u is.of) ∙ key_of key n v new.of in
          ⊎_elim
          (λ (below : u.number < v.number). newest_kept u is (r.lowest flag v u a is.among keys below) (newest key n (kept_of input)) refl kept_value)
          (λ (reached : v.number ≤ u.number). ap (λ (x : Version). x.value) (same u v was new.among is.of new.of (new.greatest u was is.of) reached))
          (cases_lt u.number v.number)

  of_input : (v : Version) → IsNewest key n before v → IsAmong v inputs → value_of (newest key n after) ≡ v.value
  of_input v new a = by input.bottom refl
    where
      by : (b : Bool) → input.bottom ≡ b → value_of (newest key n after) ≡ v.value
      by true e = at_bottom v e new a
      by false e = above v e new a

  value_stays : value_at after n key ≡ value_at before n key
  value_stays = by (newest key n before) refl
    where
      none : newest key n before ≡ None → (o : Option Version) → newest key n after ≡ o → value_of o ≡ None
      none e None f = refl
      none e (Some w) f = let is = newest_is key n after w f in absurd (none_is key n before e w (r.nothing_else w is.among) is.of)

      by : (o : Option Version) → newest key n before ≡ o → value_of (newest key n after) ≡ value_of o
      by None e = none e (newest key n after) refl
      by (Some v) e =
          let new = newest_is key n before v e in
          ⊎_elim (λ a. of_input v new a) (λ a. there v new a) (r.stays v new.among)

-- at each count that a merge keeps they stand for the same map
pub replaced_maps : (input : MergeInput) (before after : List Version) (n : ℕ) → IsReplacing input before after → IsKeptAt input.cuts (joined input.runs) n → HaveSameMap n before after
replaced_maps input before after n r k = record {
  values = λ key. value_stays input before after n r k key;
  maps = map_of-values n n after before (λ key. value_stays input before after n r k key);
}
