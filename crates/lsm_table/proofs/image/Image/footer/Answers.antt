use Rattle.std.proofs.Common.{◌≡◌, ◌∙◌, length, map, ap, arith}
use Rattle.std.proofs.lemmas.List.{length-map}
use Rattle.lsm_table.specs.BlockEdges.{first_key_of}
use Rattle.lsm_table.specs.Extents.{footer_in}
use Rattle.lsm_table.proofs.Outlines.{few_blocks, index_bounds, footer_is}
use Rattle.lsm_table.proofs.image.Image.footer.Goals as goal

pub overflow_cast-len : goal.overflow_cast-len
overflow_cast-len g c = omega (arith, few_blocks _ c.self.invariant.is, length-map c.self.inside.blocks.items (λ b. b.items), c.len.ensures)

pub overflow_cast-self-inside : goal.overflow_cast-self-inside
overflow_cast-self-inside g c = let b = index_bounds _ c.self.invariant.is in omega (arith, b.1, c.self.invariant.len)

pub returns : goal.returns
returns g c =
    let count : c.len.result ≡ length (map (λ b. b.items) c.self.inside.blocks.items) = omega (arith, c.len.ensures, c.self.inside.blocks.ok.0, length-map c.self.inside.blocks.items (λ b. b.items)) in
    let first = c.first_key.ensures ∙ ap (λ bs. first_key_of (map (λ b. b.items) bs)) c.deref.ensures.value in
    c.encode.ensures ∙ footer_is c.args.number c.len.result c.self.inside.entries c.self.inside.index_len c.first_key.result.now _ c.self.invariant.is count c.self.invariant.all c.self.invariant.len first
    ∙ ap (footer_in c.args.number) c.self.view_is
