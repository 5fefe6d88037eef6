-- Bytes from a place on are overwritten.
use Rattle.std.proofs.Common.{◌≡◌, ◌≤◌, ℕ, ◌+◌, ◌-◌, List, [], ◌++◌, length, length-append, take, drop, sym, ◌∙◌, ap, arith, append-nil, append_assoc, take-take, length-take-le}
use Rattle.std.proofs.lemmas.List.{drop-append-le, drop-drop, drop-take, drop_all, length-drop, take-append-le, take_at}
use Rattle.std.proofs.Math.Seq.{take-append-add}
use borrow.Rule.Slice.PartMut.{put_mid}

-- the bytes after that
abbrev pub over : ℕ → List ℕ → List ℕ → List ℕ
over at more old = take at old ++ (more ++ drop (at + length more) old)

pub length-over : (at : ℕ) (more old new : List ℕ) → at + length more ≤ length old → new ≡ over at more old → length new ≡ length old
length-over at more old new fits is =
    let rest = drop (at + length more) old in
    ap length is ∙ omega (arith, fits, length-append (take at old) (more ++ rest), length-append more rest, length-take-le at old (omega (arith, fits)), length-drop (at + length more) old)

-- as far as they reach
pub take-over : (n at : ℕ) (more old new : List ℕ) → at + length more ≤ length old → n ≡ at + length more → new ≡ over at more old → take n new ≡ take at old ++ more
take-over n at more old new fits reach is =
    let size : length (take at old ++ more) ≡ n = length-append (take at old) more ∙ omega (arith, reach, length-take-le at old (omega (arith, fits))) in
    ap (take n) (is ∙ sym (append_assoc (take at old) more (drop (at + length more) old)))
    ∙ take_at (take at old ++ more) (drop (at + length more) old) n size

-- the bytes before them stay
pub take-over_below : (n at : ℕ) (more old new : List ℕ) → n ≤ at → at + length more ≤ length old → new ≡ over at more old → take n new ≡ take n old
take-over_below n at more old new below fits is =
    ap (take n) is
    ∙ take-append-le n (take at old) (more ++ drop (at + length more) old) (omega (arith, below, fits, length-take-le at old (omega (arith, fits))))
    ∙ take-take n at old below

-- through a slice from the place on
pub over-mid : (at : ℕ) (more old new : List ℕ) → at ≤ length old → new ≡ more ++ drop (length more) (drop at old) → put_mid at (length old - at) old new ≡ over at more old
over-mid at more old new within is =
    let none : drop (length old - at) (drop at old) ≡ [] = drop_all (length old - at) (drop at old) (omega (arith, length-drop at old)) in
    ap (λ (l : List ℕ). take at old ++ (new ++ l)) none
    ∙ ap (λ (l : List ℕ). take at old ++ l) (append-nil new ∙ is ∙ ap (λ (l : List ℕ). more ++ l) (drop-drop (length more) at old))

-- a head of two numbers and then bytes
pub three_over : (n at : ℕ) (first count more old mid put new : List ℕ) → length first ≡ 4 → length count ≡ 4 → n ≡ at + (8 + length more) → at + (8 + length more) ≤ length old →
    mid ≡ over at first old → put ≡ over (at + 4) count mid → new ≡ over (at + 8) more put → take n new ≡ take at old ++ ((first ++ count) ++ more)
three_over n at first count more old mid put new four four' reach fits is-mid is-put is-new =
    let long-mid : length mid ≡ length old = length-over at first old mid (omega (arith, four, fits)) is-mid in
    let long-put : length put ≡ length mid = length-over (at + 4) count mid put (omega (arith, four', fits, long-mid)) is-put in
    take-over n (at + 8) more put new (omega (arith, fits, long-mid, long-put)) (omega (arith, reach)) is-new
    ∙ ap (λ (l : List ℕ). l ++ more) (take-over (at + 8) (at + 4) count mid put (omega (arith, four', fits, long-mid)) (omega (arith, four')) is-put)
    ∙ ap (λ (l : List ℕ). (l ++ count) ++ more) (take-over (at + 4) at first old mid (omega (arith, four, fits)) (omega (arith, four)) is-mid)
    ∙ ap (λ (l : List ℕ). l ++ more) (append_assoc (take at old) first count)
    ∙ append_assoc (take at old) (first ++ count) more

-- bytes after the others, and a number within the others
pub two_over : (n used head : ℕ) (count more old mid new : List ℕ) → length count ≡ 4 → n ≡ used + length more → used + length more ≤ length old → head + 8 ≤ used →
    mid ≡ over used more old → new ≡ over (head + 4) count mid → take n new ≡ take (head + 4) old ++ (count ++ (drop (head + 8) (take used old) ++ more))
two_over n used head count more old mid new four reach fits inside is-mid is-new =
    let long : length mid ≡ length old = length-over used more old mid fits is-mid in
    let front = take (head + 4) mid ++ count in
    let k = head + 4 + length count in
    let m = n - (head + 8) in
    let place : k ≡ head + 8 = omega (arith, four) in
    let whole : k + m ≡ n = omega (arith, four, reach, inside) in
    let size : length front + m ≡ n = omega (arith, four, reach, inside, fits, long, length-append (take (head + 4) mid) count, length-take-le (head + 4) mid (omega (arith, fits, inside, long))) in
    let cut : take m (drop k mid) ≡ drop (head + 8) (take used old) ++ more =
    sym (drop-take k m mid)
    ∙ ap (λ (j : ℕ). drop k (take j mid)) whole
    ∙ ap (drop k) (take-over n used more old mid fits reach is-mid)
    ∙ ap (λ (j : ℕ). drop j (take used old ++ more)) place
    ∙ drop-append-le (head + 8) (take used old) more (omega (arith, inside, fits, length-take-le used old (omega (arith, fits)))) in
    ap (take n) (is-new ∙ sym (append_assoc (take (head + 4) mid) count (drop k mid)))
    ∙ ap (λ (j : ℕ). take j (front ++ drop k mid)) (sym size)
    ∙ take-append-add front (drop k mid) m
    ∙ ap (λ (l : List ℕ). front ++ l) cut
    ∙ append_assoc (take (head + 4) mid) count (drop (head + 8) (take used old) ++ more)
    ∙ ap (λ (l : List ℕ). l ++ (count ++ (drop (head + 8) (take used old) ++ more))) (take-over_below (head + 4) used more old mid (omega (arith, inside)) fits is-mid)
