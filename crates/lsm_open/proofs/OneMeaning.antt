-- Sectors stand for one crash state.
use Rattle.std.proofs.Common.{◌≡◌, ℕ, List, [], ap, sym, ◌∙◌}
use Rattle.lsm_codec.specs.Manifests.{Contents}
use Rattle.lsm_root.specs.CrashState.{CrashState}
use Rattle.lsm_open.specs.Image.{left_in, StandFor}
use Rattle.lsm_root.specs.Roots.{Root, Stands}

-- what stands is one manifest, in one format
abbrev a_root : Root → ℕ × Contents
a_root (Stands n m) = (n, m)
a_root other = (0, record { generation = 0; base = 0; next_table = 0; runs = 0; logs = []; tables = [] })

pub same_stands : (n k : ℕ) (m c : Contents) → Stands n m ≡ Stands k c → (n ≡ k) × (m ≡ c)
same_stands n k m c same =
    let both : (n, m) ≡ (k, c) = ap a_root same in
    (ap (λ (x : ℕ × Contents). x.0) both, ap (λ (x : ℕ × Contents). x.1) both)

pub one_meaning : (n k : ℕ) (left other : CrashState) (c : List (List ℕ)) → StandFor n left c → StandFor k other c → (n ≡ k) × (left ≡ other)
one_meaning n k left other c is also =
    let same = same_stands n k is.manifest also.manifest (sym is.root ∙ also.root) in (
      same.0,
      is.left_is ∙ ap (λ (j : ℕ). left_in j c is.manifest) same.0 ∙ ap (λ (x : Contents). left_in k c x) same.1 ∙ sym also.left_is,
    )
