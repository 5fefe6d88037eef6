-- Keys and numbers from the order of entries.
use Rattle.std.proofs.Common.{◌≡◌, ◌<◌, Bool, true, false, cond, refl, ap, sym, subst, ◌∙◌}
use Rattle.std.proofs.lemmas.Cmp.{ranked}
use Rattle.std.specs.declared.cmp.Ordering.TheVariants.{Less, Equal}
use Rattle.std.specs.Ordering.{ordering_then, nat_cmp}
use Rattle.lsm_codec.specs.Keys.{Bytes, byte_order}
use Rattle.lsm_codec.specs.Versions.{Version, is_same_key, entry_order}
use Rattle.lsm_codec.proofs.KeyOrder.{is_eq_Equal, same_key, key_itself}

pub same_key-from : (a b : Bytes) → a ≡ b → is_same_key a b ≡ true
same_key-from a b e = subst (λ c. is_same_key a c ≡ true) e (key_itself a)

-- of one key the earlier version is the newer
pub older_number : (key : Bytes) (w u : Version) → entry_order w u ≡ Less → is_same_key key w.key ≡ true → is_same_key key u.key ≡ true → u.number < w.number
older_number key w u e h k =
    let same : w.key ≡ u.key = sym (same_key key w.key h) ∙ same_key key u.key k in
    let tied : byte_order w.key u.key ≡ Equal = is_eq_Equal _ (same_key-from w.key u.key same) in
    let less : nat_cmp u.number w.number ≡ Less = sym (ap (λ o. ordering_then o (nat_cmp u.number w.number)) tied) ∙ e in
    ranked u.number w.number Less (sym less)

pub cond_same : {A : Type 0} (b : Bool) (x y z w : A) → (b ≡ true → x ≡ z) → (b ≡ false → y ≡ w) → cond b x y ≡ cond b z w
cond_same true x y z w p q = p refl
cond_same false x y z w p q = q refl
