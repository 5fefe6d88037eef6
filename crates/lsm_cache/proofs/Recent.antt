-- The list of an `LruCache` of blocks, seen without what shares them, is moved and cut as the recency list is.
use Rattle.std.proofs.Common.{◌≡◌, ℕ, zero, suc, ◌+◌, ◌-◌, ◌<◌, ◌≤◌, Bool, true, false, not, List, [], ◌∷◌, map, take, length, Option, Some, None, refl, sym, ap, ◌∙◌, arith}
use Rattle.std.proofs.lemmas.Bool.{and_parts, eqb-true}
use Rattle.std.proofs.lemmas.List.{take_all, take-map}
use Rattle.std.proofs.Math.ListN.{length-map}
use Rattle.std.specs.List.{filter, AllByRecursion, IsDistinct}
use Rattle.std.specs.Option.{option_map}
use Rattle.std.specs.Map.{keys_of, lookup, lookup_entry, remove_entry}
use Rattle.std.specs.Arc.{arc_value}
use Rattle.std.specs.declared.sync.Arc.{Arc}
use Rattle.lru.specs.LruCache.{LruCache, IsValid, promoted, put_entries}
use Rattle.lsm_cache.specs.declared.name.BlockName.{BlockName}
use Rattle.lsm_cache.specs.Recency.{Cached, is_same_block, bytes_of, asked, named_bytes}

abbrev others : BlockName → List (BlockName × List ℕ) → List (BlockName × List ℕ)
others name bs = filter (λ b. not (is_same_block name b.0)) bs

pub same_name : (a b : BlockName) → is_same_block a b ≡ true → a ≡ b
same_name a b same =
    let parts = and_parts _ _ same in
    let table : a.table ≡ b.table = eqb-true a.table b.table parts.0 in
    let block : a.block ≡ b.block = eqb-true a.block b.block parts.1 in
    let at : ℕ → BlockName = λ (n : ℕ). record { table = n; block = a.block } in
    let by : ℕ → BlockName = λ (n : ℕ). record { table = b.table; block = n } in
    ap at table ∙ ap by block

module _ {A : Type 0} (eq : BlockName → BlockName → Bool) (same : (a b : BlockName) → eq a b ≡ is_same_block a b) (name : BlockName) where
  -- what the cache finds
  pub found : (es : List (BlockName × Arc (List ℕ) A)) → lookup (is_same_block name) (map named_bytes es) ≡ option_map arc_value (lookup (eq name) es)
  found [] = refl
  found (e ∷ es) = (elim (eq name e.0) as (λ y. eq name e.0 ≡ y → lookup (is_same_block name) (map named_bytes (e ∷ es)) ≡ option_map arc_value (lookup (eq name) (e ∷ es))) [
    | true ↦ λ t. rw (sym (same name e.0), t) refl
    | false ↦ λ t. rw (sym (same name e.0), t) (found es)
  ]) refl

  -- where none has the name, all are others
  pub all_others : (es : List (BlockName × Arc (List ℕ) A)) → lookup (eq name) es ≡ None → others name (map named_bytes es) ≡ map named_bytes es
  all_others [] none = refl
  all_others (e ∷ es) none = (elim (eq name e.0) as (λ y. eq name e.0 ≡ y → others name (map named_bytes (e ∷ es)) ≡ map named_bytes (e ∷ es)) [
    | true ↦ λ t. let no : Some e.1 ≡ None = rw t at none in cc
    | false ↦ λ t. rw (sym (same name e.0), t) (ap (λ l. named_bytes e ∷ l) (all_others es (rw t at none)))
  ]) refl

  none_after : (k : BlockName) → is_same_block name k ≡ true → (es : List (BlockName × Arc (List ℕ) A)) → AllByRecursion (λ y. eq k y ≡ false) (keys_of es) → lookup (eq name) es ≡ None
  none_after k is [] apart = refl
  none_after k is (e ∷ es) apart = rw (same_name name k is, apart.0) (none_after k is es apart.1)

  -- the others are all but the one that is found
  pub the_others : (es : List (BlockName × Arc (List ℕ) A)) → IsDistinct eq (keys_of es) → map named_bytes (remove_entry (eq name) es) ≡ others name (map named_bytes es)
  unfolding IsDistinct
  the_others [] apart = refl
  the_others (e ∷ es) apart = (elim (eq name e.0) as (λ y. eq name e.0 ≡ y → map named_bytes (remove_entry (eq name) (e ∷ es)) ≡ others name (map named_bytes (e ∷ es))) [
    | true ↦ λ t. rw (sym (same name e.0), t) (sym (all_others es (none_after e.0 (sym (same name e.0) ∙ t) es apart.0)))
    | false ↦ λ t. rw (sym (same name e.0), t) (ap (λ l. named_bytes e ∷ l) (the_others es apart.1))
  ]) refl

  length_removed : (es : List (BlockName × Arc (List ℕ) A)) (b : Arc (List ℕ) A) → lookup (eq name) es ≡ Some b → length (remove_entry (eq name) es) + 1 ≡ length es
  length_removed [] b is = let no : None ≡ Some b = is in cc
  length_removed (e ∷ es) b is = (elim (eq name e.0) as (λ y. eq name e.0 ≡ y → length (remove_entry (eq name) (e ∷ es)) + 1 ≡ length (e ∷ es)) [
    | true ↦ λ t. rw t (omega arith)
    | false ↦ λ t. let on = length_removed es b (rw t at is) in rw t (omega arith)
  ]) refl

  -- the entry that is found has that very name
  found_entry : (es : List (BlockName × Arc (List ℕ) A)) (b : Arc (List ℕ) A) → lookup (eq name) es ≡ Some b → lookup_entry (eq name) es ≡ Some (name, b)
  found_entry [] b is = let no : None ≡ Some b = is in cc
  found_entry (e ∷ es) b is = (elim (eq name e.0) as (λ y. eq name e.0 ≡ y → lookup_entry (eq name) (e ∷ es) ≡ Some (name, b)) [
    | true ↦ λ t.
        let its : Some e.1 ≡ Some b = rw t at is in
        let value : e.1 ≡ b = cc in
        let names : name ≡ e.0 = same_name name e.0 (sym (same name e.0) ∙ t) in
        rw (t, ← names, value) refl
    | false ↦ λ t. rw t (found_entry es b (rw t at is))
  ]) refl

  no_entry : (es : List (BlockName × Arc (List ℕ) A)) → lookup (eq name) es ≡ None → lookup_entry (eq name) es ≡ None
  no_entry [] is = refl
  no_entry (e ∷ es) is = (elim (eq name e.0) as (λ y. eq name e.0 ≡ y → lookup_entry (eq name) (e ∷ es) ≡ None) [
    | true ↦ λ t. let no : Some e.1 ≡ None = rw t at is in cc
    | false ↦ λ t. rw t (no_entry es (rw t at is))
  ]) refl

  -- a block that is found goes to the front
  pub moved : (c : LruCache BlockName (Arc (List ℕ) A)) (b : Arc (List ℕ) A) → IsValid eq c → lookup (eq name) c.entries ≡ Some b →
      map named_bytes (promoted (eq name) c.entries) ≡ take c.cap ((name, arc_value b) ∷ others name (map named_bytes c.entries))
  moved c b valid is =
      let entry = found_entry c.entries b is in
      let rest = the_others c.entries valid.0 in
      let size = length_removed c.entries b is in
      let fits : length ((name, arc_value b) ∷ others name (map named_bytes c.entries)) ≤ c.cap = rw (← rest) (simp length-map (omega (arith, valid.1))) in
      rw entry (ap (λ l. (name, arc_value b) ∷ l) rest ∙ sym (take_all c.cap ((name, arc_value b) ∷ others name (map named_bytes c.entries)) fits))

  -- one that is put goes to the front too, and the last is evicted
  pub entered : (c : LruCache BlockName (Arc (List ℕ) A)) (b : Arc (List ℕ) A) (cap : ℕ) → 0 < cap → lookup (eq name) c.entries ≡ None → c.cap ≡ cap →
      map named_bytes (put_entries eq c name b) ≡ take cap ((name, arc_value b) ∷ others name (map named_bytes c.entries))
  entered c b zero low none is = absurd (omega arith)
  entered c b (suc n) low none is =
      let one : suc n - 1 ≡ n = omega arith in
      rw (no_entry c.entries none, is, one, all_others c.entries none) (ap (λ l. (name, arc_value b) ∷ l) (sym (take-map named_bytes n c.entries)))

  unmapped : (o : Option (Arc (List ℕ) A)) → option_map arc_value o ≡ None → o ≡ None
  unmapped None is = refl
  unmapped (Some b) is = let no : Some (arc_value b) ≡ None = is in cc

  pub unfound : (es : List (BlockName × Arc (List ℕ) A)) → lookup (is_same_block name) (map named_bytes es) ≡ None → lookup (eq name) es ≡ None
  unfound es none = unmapped (lookup (eq name) es) (sym (found es) ∙ none)

  module _ (c : LruCache BlockName (Arc (List ℕ) A)) (refusals : ℕ) where
    -- the cache, as a clause sees it
    abbrev pub seen : List (BlockName × Arc (List ℕ) A) → Cached
    seen es = record { blocks = map named_bytes es; capacity = c.cap; refusals = refusals }

    pub put_asked : (b : Arc (List ℕ) A) (bytes : List ℕ) → arc_value b ≡ bytes → 0 < c.cap → bytes_of name (seen c.entries) ≡ None → seen (put_entries eq c name b) ≡ asked name bytes (seen c.entries)
    put_asked b bytes value low none =
        let list = entered c b c.cap low (unfound c.entries none) refl in
        rw (← value) (ap (λ (l : List (BlockName × List ℕ)). record { blocks = l; capacity = c.cap; refusals = refusals }) list)

    pub found_asked : (b : Arc (List ℕ) A) (bytes : List ℕ) → bytes ≡ arc_value b → IsValid eq c → Some b ≡ lookup (eq name) c.entries → seen (promoted (eq name) c.entries) ≡ asked name bytes (seen c.entries)
    found_asked b bytes value valid is =
        let list = moved c b valid (sym is) in
        rw value (ap (λ (l : List (BlockName × List ℕ)). record { blocks = l; capacity = c.cap; refusals = refusals }) list)

    pub found_bytes : (b : Arc (List ℕ) A) (bytes : List ℕ) → bytes ≡ arc_value b → Some b ≡ lookup (eq name) c.entries → bytes_of name (seen c.entries) ≡ Some bytes
    found_bytes b bytes value is = found c.entries ∙ rw (← is, value) refl

    pub none_bytes : None ≡ lookup (eq name) c.entries → bytes_of name (seen c.entries) ≡ None
    none_bytes is = found c.entries ∙ rw (← is) refl

    pub none_stays : None ≡ lookup (eq name) c.entries → seen (promoted (eq name) c.entries) ≡ seen c.entries
    none_stays is = rw (no_entry c.entries (sym is)) refl
