-- Lives as what they are asked to be.
use Rattle.std.proofs.Common.{◌≡◌, ◌∙◌, ℕ, List, [], ◌∷◌, map, None, refl, ap, subst, Global}
use Rattle.lsm_device.specs.Disk.{Disk}
use Rattle.lsm_device.specs.Medium.{Medium}
use Rattle.lsm_root.specs.CrashState.{formatted as empty_store}
use Rattle.lsm_lives.specs.Asked.{Told}
use Rattle.lsm_machine.specs.Lives.{IsAfter}
use Rattle.lsm_lives.specs.declared.living.Life.{Life}
use Rattle.lsm_lives.specs.Leading.{AreLed, life_of as view_of_life}
use Rattle.lsm_lives.specs.Living.{asked_in, asked_by, KeepPromise}
use Rattle.lsm_language.specs.declared.line.Line.{Line}
use Rattle.lsmctl.specs.Steps.{ended, life_of, lives_after, lives_said, view_of}

-- an empty store is one after no batch
pub IsAfter-nothing : IsAfter [] empty_store
IsAfter-nothing = record { count = refl; same_map = refl }

-- lives are what they are asked to be
views_of-lives : (lives : List (Life Global)) → map view_of_life lives ≡ map view_of (map life_of lives)
views_of-lives [] = refl
views_of-lives (life ∷ lives) = ap (λ rest. view_of_life life ∷ rest) (views_of-lives lives)

-- and so are their steps
asked_by-lives : (lives : List (Life Global)) → asked_by lives ≡ asked_in (map view_of_life lives)
asked_by-lives [] = refl
asked_by-lives (life ∷ lives) = ap (λ rest. (view_of_life life).steps ∷ rest) (asked_by-lives lives)

-- lives that are made of lines are those that the lines say
lives_said-lines : (lives : List (Life Global)) (lines : List Line) → map life_of lives ≡ lives_after [] None [] (ended lines)
    → map view_of_life lives ≡ lives_said lines
lives_said-lines lives lines e = views_of-lives lives ∙ ap (λ l. map view_of l) e

-- they are led as those
pub led_of-lines : (given lives : List (Life Global)) (lines : List Line) (before after : Medium) (replies : List (List Told))
    → given ≡ lives → map life_of lives ≡ lives_after [] None [] (ended lines) → AreLed (map view_of_life given) before replies after
    → AreLed (lives_said lines) before replies after
led_of-lines given lives lines before after replies same e led =
    subst (λ l. AreLed l before replies after) (ap (λ l. map view_of_life l) same ∙ lives_said-lines lives lines e) led

-- and keep the promise as those
pub promise_of-lines : (given lives : List (Life Global)) (lines : List Line) (log_sectors : ℕ) (replies : List (List Told)) (left : Disk)
    → given ≡ lives → map life_of lives ≡ lives_after [] None [] (ended lines) → KeepPromise log_sectors [] empty_store (asked_by given) replies left
    → KeepPromise log_sectors [] empty_store (asked_in (lives_said lines)) replies left
promise_of-lines given lives lines log_sectors replies left same e kept =
    subst (λ calls. KeepPromise log_sectors [] empty_store calls replies left)
    (ap (λ l. asked_by l) same ∙ asked_by-lives lives ∙ ap (λ l. asked_in l) (lives_said-lines lives lines e)) kept
