-- Lines of many words.
use Rattle.std.proofs.Common.{◌≡◌, ◌≤◌, ℕ, List, [], ◌∷◌, length, map, Bor, None, refl, arith}
use Rattle.lsm_language.specs.Lines.{other_said}

-- no line that is no commit has more than five words
pub other_said-long : (name : List ℕ) (rest : List (Bor (List ℕ))) → 5 ≤ length rest → other_said name (map (λ word. word.now) rest) ≡ None
other_said-long name [] h = grind arith
other_said-long name (a ∷ []) h = grind arith
other_said-long name (a ∷ b ∷ []) h = grind arith
other_said-long name (a ∷ b ∷ c ∷ []) h = grind arith
other_said-long name (a ∷ b ∷ c ∷ d ∷ []) h = grind arith
other_said-long name (a ∷ b ∷ c ∷ d ∷ e ∷ words) h = refl
