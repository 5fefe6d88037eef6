use Rattle.std.proofs.Common.{◌≡◌, ◌∙◌, false, List, ℕ, ap}
use Rattle.std.specs.declared.cmp.Ordering.{Ordering}
use Rattle.std.specs.declared.cmp.Ordering.TheVariants.{Greater}
use Rattle.std.specs.Ordering.{is_lt, nat_cmp, ordering_then}
use Rattle.lsm_codec.specs.Keys.{byte_order}
use Rattle.lsm_codec.specs.Versions.{Version, entry_order}
use Rattle.lsm_jobs.proofs.blocks.is_before.Goals as goal

-- what has a greater key doesn't come before
behind : (a b : Version) (key other : List ℕ) → key ≡ a.key → other ≡ b.key → Greater ≡ byte_order key other → false ≡ is_lt (entry_order a b)
behind a b key other same same_other greater =
    let order : Greater ≡ byte_order a.key b.key = greater ∙ ap (λ (k : List ℕ). byte_order k other) same ∙ ap (λ (k : List ℕ). byte_order a.key k) same_other in
    ap (λ (o : Ordering). is_lt (ordering_then o (nat_cmp b.number a.number))) order

pub returns-in-Greater : goal.returns-in-Greater
returns-in-Greater g c = behind c.args.entry.now c.args.other.now c.key.result.now c.key-2.result.now c.key.ensures.same c.key-2.ensures.same c.in-Greater.ensures
