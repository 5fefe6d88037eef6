-- What is shown of a part of a line.
use Rattle.std.proofs.Common.{◌≡◌, ◌∙◌, ◌≤◌, ℕ, List, ◌++◌, length, min, take, take_all, ap, refl, arith}
use Rattle.lsm_serve.specs.declared.expected.Expected.{Expected}
use Rattle.lsm_serve.specs.Mistakes.{form_of, mistake_text, part_of}
use Rattle.lsm_serve.proofs.ReadingLaws.{take-min}

pub shown_whole : (part : List ℕ) (n index : ℕ) → n ≡ min (length part) 80 → length (take n part) ≤ index → take index (take n part) ≡ take 80 part
shown_whole part n index is le =
    let as_many : n ≡ min 80 (length part) = omega (arith, is) in
    take_all index (take n part) le ∙ ap (λ (k : ℕ). take k part) as_many ∙ take-min 80 part

pub text_is : (wanted : Expected) (found : List ℕ) → part_of wanted ++ (found ++ form_of wanted) ≡ mistake_text wanted found
text_is wanted found = refl

pub text_at : (wanted : Expected) (found text : List ℕ) → text ≡ part_of wanted ++ (found ++ form_of wanted) → text ≡ mistake_text wanted found
text_at wanted found text is = is
