-- Two turns that put what was added at the end in the place of a part.
use Rattle.std.proofs.Common.{◌≡◌, ℕ, ◌+◌, ◌-◌, ◌≤◌, List, ◌++◌, length, take, drop, refl, ap, sym, ◌∙◌, arith, append_assoc, length-append, length-drop}
use Rattle.std.proofs.lemmas.List.{take_at, drop_at, drop-drop, length-take-le, take-append-drop}

module _ {X : Type 0} where
  -- a list's end after a turn
  turn_at : (a b : List X) (n : ℕ) → length a ≡ n → drop n (a ++ b) ++ take n (a ++ b) ≡ b ++ a
  turn_at a b n e = rw (drop_at a b n e, take_at a b n e) refl

  -- the list with a front before what is turned
  behind : (front rest : List X) (s n : ℕ) → length front ≡ s → take s (front ++ rest) ++ (drop n (drop s (front ++ rest)) ++ take n (drop s (front ++ rest))) ≡ front ++ (drop n rest ++ take n rest)
  behind front rest s n e = rw (take_at front rest s e, drop_at front rest s e) refl

  in_parts : (front gone rest new v1 v2 v3 v4 : List X) (s n r : ℕ) → length front ≡ s → length gone ≡ n → length rest ≡ r
      → v1 ≡ (front ++ (gone ++ rest)) ++ new
      → v2 ≡ take s v1 ++ (drop n (drop s v1) ++ take n (drop s v1))
      → v3 ≡ take (length v2 - n) v2
      → v4 ≡ take s v3 ++ (drop r (drop s v3) ++ take r (drop s v3))
      → v4 ≡ front ++ (new ++ rest)
  in_parts front gone rest new v1 v2 v3 v4 s n r es en er e1 e2 e3 e4 =
      let one : v1 ≡ front ++ (gone ++ (rest ++ new)) = e1 ∙ append_assoc front (gone ++ rest) new ∙ ap (λ t. front ++ t) (append_assoc gone rest new) in
      let two : v2 ≡ front ++ ((rest ++ new) ++ gone) = e2 ∙ ap (λ v. take s v ++ (drop n (drop s v) ++ take n (drop s v))) one ∙ behind front (gone ++ (rest ++ new)) s n es ∙ ap (λ t. front ++ t) (turn_at gone (rest ++ new) n en) in
      let two' : v2 ≡ (front ++ (rest ++ new)) ++ gone = two ∙ sym (append_assoc front (rest ++ new) gone) in
      let long : length (front ++ (rest ++ new)) ≡ length v2 - n = omega (arith, ap length two', length-append (front ++ (rest ++ new)) gone) in
      let three : v3 ≡ front ++ (rest ++ new) = e3 ∙ ap (take (length v2 - n)) two' ∙ take_at (front ++ (rest ++ new)) gone (length v2 - n) long in
      e4 ∙ ap (λ v. take s v ++ (drop r (drop s v) ++ take r (drop s v))) three ∙ behind front (rest ++ new) s r es ∙ ap (λ t. front ++ t) (turn_at rest new r er)

  pub turned : (xs new v1 v2 v3 v4 : List X) (s e n r : ℕ) → s ≤ e → e ≤ length xs → n ≡ e - s → r ≡ length xs - e
      → v1 ≡ xs ++ new
      → v2 ≡ take s v1 ++ (drop n (drop s v1) ++ take n (drop s v1))
      → v3 ≡ take (length v2 - n) v2
      → v4 ≡ take s v3 ++ (drop r (drop s v3) ++ take r (drop s v3))
      → v4 ≡ take s xs ++ (new ++ drop e xs)
  turned xs new v1 v2 v3 v4 s e n r se el en er e1 e2 e3 e4 =
      let k : s + n ≡ e = omega arith in
      let back : drop n (drop s xs) ≡ drop e xs = drop-drop n s xs ∙ ap (λ m. drop m xs) k in
      let whole : xs ≡ take s xs ++ (take n (drop s xs) ++ drop e xs) = sym (take-append-drop s xs) ∙ ap (λ t. take s xs ++ t) (sym (take-append-drop n (drop s xs)) ∙ ap (λ t. take n (drop s xs) ++ t) back) in
      in_parts (take s xs) (take n (drop s xs)) (drop e xs) new v1 v2 v3 v4 s n r
      (length-take-le s xs (omega arith))
      (length-take-le n (drop s xs) (omega (arith, length-drop s xs)))
      (omega (arith, length-drop e xs))
      (e1 ∙ ap (λ t. t ++ new) whole)
      e2 e3 e4

  -- a turn and a cut
  pub cut_out : (v1 v2 v3 : List X) (s e n : ℕ) → s ≤ e → e ≤ length v1 → n ≡ e - s
      → v2 ≡ take s v1 ++ (drop n (drop s v1) ++ take n (drop s v1))
      → v3 ≡ take (length v2 - n) v2
      → v3 ≡ take s v1 ++ drop e v1
  cut_out v1 v2 v3 s e n se el en e2 e3 =
      let k : s + n ≡ e = omega arith in
      let back : drop n (drop s v1) ≡ drop e v1 = drop-drop n s v1 ∙ ap (λ m. drop m v1) k in
      let two : v2 ≡ (take s v1 ++ drop e v1) ++ take n (drop s v1) = e2 ∙ ap (λ t. take s v1 ++ (t ++ take n (drop s v1))) back ∙ sym (append_assoc (take s v1) (drop e v1) (take n (drop s v1))) in
      let part : length (take n (drop s v1)) ≡ n = length-take-le n (drop s v1) (omega (arith, length-drop s v1)) in
      let long : length (take s v1 ++ drop e v1) ≡ length v2 - n = omega (arith, ap length two, part, length-append (take s v1 ++ drop e v1) (take n (drop s v1))) in
      e3 ∙ ap (take (length v2 - n)) two ∙ take_at (take s v1 ++ drop e v1) (take n (drop s v1)) (length v2 - n) long
