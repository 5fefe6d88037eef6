-- What is among the elements of lists.
use Rattle.std.proofs.Common.{◌≡◌, ◌⊎◌, inl, inr, ⊎_elim, Bool, true, false, cond, ◌||◌, List, [], ◌∷◌, ◌++◌, filter, refl, sym, ap, ◌∙◌, subst}
use Rattle.std.specs.List.{list_any}
use Rattle.lsm_levels.specs.Among.{IsAmong}

no : true ≡ false → ⊥
no e = cc

module _ {X : Type 0} where
  pub among_left : (x : X) (xs ys : List X) → IsAmong x xs → IsAmong x (xs ++ ys)
  among_left x [] ys a = absurd a
  among_left x (y ∷ xs) ys (inl e) = inl e
  among_left x (y ∷ xs) ys (inr a) = inr (among_left x xs ys a)

  pub among_right : (x : X) (xs ys : List X) → IsAmong x ys → IsAmong x (xs ++ ys)
  among_right x [] ys a = a
  among_right x (y ∷ xs) ys a = inr (among_right x xs ys a)

  pub among_either : (x : X) (xs ys : List X) → IsAmong x (xs ++ ys) → IsAmong x xs ⊎ IsAmong x ys
  among_either x [] ys a = inr a
  among_either x (y ∷ xs) ys (inl e) = inl (inl e)
  among_either x (y ∷ xs) ys (inr a) = ⊎_elim (λ b. inl (inr b)) (λ b. inr b) (among_either x xs ys a)

  -- what passes a test
  pub among_passed : (p : X → Bool) (x : X) (xs : List X) → IsAmong x xs → p x ≡ true → IsAmong x (filter p xs)
  among_passed p x [] a h = absurd a
  among_passed p x (y ∷ xs) (inl e) h = subst (λ (b : Bool). IsAmong x (cond b (y ∷ filter p xs) (filter p xs))) (sym h ∙ ap p e) (inl e)
  among_passed p x (y ∷ xs) (inr a) h = by (among_passed p x xs a h) (p y)
    where
      by : IsAmong x (filter p xs) → (b : Bool) → IsAmong x (cond b (y ∷ filter p xs) (filter p xs))
      by later true = inr later
      by later false = later

  pub passed_among : (p : X → Bool) (x : X) (xs : List X) → IsAmong x (filter p xs) → IsAmong x xs × (p x ≡ true)
  passed_among p x [] a = absurd a
  passed_among p x (y ∷ xs) a = by (passed_among p x xs) (p y) refl a
    where
      by : (IsAmong x (filter p xs) → IsAmong x xs × (p x ≡ true)) → (b : Bool) → p y ≡ b → IsAmong x (cond b (y ∷ filter p xs) (filter p xs)) → IsAmong x (y ∷ xs) × (p x ≡ true)
      by more true h (inl e) = (inl e, ap p e ∙ h)
      by more true h (inr b) = let later = more b in (inr later.0, later.1)
      by more false h b = let later = more b in (inr later.0, later.1)

  -- one of them has it
  pub any_of : (p : X → Bool) (x : X) (xs : List X) → IsAmong x xs → p x ≡ true → list_any p xs ≡ true
  any_of p x [] a h = absurd a
  any_of p x (y ∷ xs) (inl e) h = ap (λ b. b || list_any p xs) (sym (ap p e) ∙ h)
  any_of p x (y ∷ xs) (inr a) h = by (any_of p x xs a h) (p y)
    where
      by : list_any p xs ≡ true → (b : Bool) → (b || list_any p xs) ≡ true
      by later true = refl
      by later false = later

  pub of_any : (p : X → Bool) (xs : List X) → list_any p xs ≡ true → (x : X) × IsAmong x xs × (p x ≡ true)
  of_any p [] h = absurd cc
  of_any p (y ∷ xs) h = by (of_any p xs) (p y) refl h
    where
      by : (list_any p xs ≡ true → (x : X) × IsAmong x xs × (p x ≡ true)) → (b : Bool) → p y ≡ b → (b || list_any p xs) ≡ true → (x : X) × IsAmong x (y ∷ xs) × (p x ≡ true)
      by more true e h = (y, inl refl, e)
      by more false e h = let later = more h in (later.0, inr later.1, later.2)
