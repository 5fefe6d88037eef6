use Rattle.std.proofs.Common.{◌≡◌, ℕ, List, true, sym, subst, rules}
use Rattle.std.specs.List.{All}
use Rattle.lsm_filter.specs.Bits.{is_perhaps, filter_of}
use Rattle.lsm_table.specs.Division.{entries_of}
use Rattle.lsm_table.specs.Extents.{keys_of}
use Rattle.lsm_table.proofs.Filters.{has_each}
use Rattle.lsm_table.proofs.image.Image.filter.Goals as goal

pub returns-clause-members : goal.returns-clause-members
returns-clause-members g c =
    let built : c.self.inside.filter ≡ filter_of (keys_of c.args.self.now) = search rules in
    subst (λ (f : List ℕ). All (λ v. is_perhaps f v.key ≡ true) (entries_of c.args.self.now)) (sym built) (has_each (entries_of c.args.self.now))
