use Rattle.std.proofs.Common.{◌≡◌, ◌∙◌, inr, refl, sym, subst, Some}
use Rattle.std.proofs.lemmas.Bool.{false≢true}
use Rattle.lsm_codec.specs.Manifests.{manifest_of}
use Rattle.lsm_codec.proofs.FormatLaws.{manifest_laws_hold}
use Rattle.lsm_root.specs.Layout.{LieInside}
use Rattle.lsm_root.proofs.Loading.{root_with-some, root_with-other}
use Rattle.lsm_root.proofs.Naming.{has_geometry}
use Rattle.lsm_root.proofs.reader.loaded_from.Goals as goal

pub lie_inside-requires : goal.lie_inside-requires
lie_inside-requires g c = has_geometry c.args.superblock.now c.requires.fits

pub returns-then-not-lie_inside-clause-told : goal.returns-then-not-lie_inside-clause-told
returns-then-not-lie_inside-clause-told g c =
    let s = c.args.superblock.now in
    let found : Some c.in-Some.manifest ≡ manifest_of c.args.superblock.now.version c.args.text.now = rw c.in-Some.is at c.in_ok-manifest.ensures.answer in
    inr (root_with-other s c.in-Some.manifest _ (sym found) (λ named. false≢true (sym c.if-not-lie_inside.true ∙ c.lie_inside.ensures.1 (subst (LieInside s.sectors s.log_sectors) (sym c.tables.ensures) named.1))), refl)

pub returns-clause-fits : goal.returns-clause-fits
returns-clause-fits g c =
    let found : Some c.in-Some.manifest ≡ manifest_of c.args.superblock.now.version c.args.text.now = rw c.in-Some.is at c.in_ok-manifest.ensures.answer in (
      has_geometry c.args.superblock.now c.requires.fits,
      ((manifest_laws_hold.format c.args.superblock.now.version).spelled c.args.text.now c.in-Some.manifest (sym found)).0.fits,
    )

pub returns-clause-inside : goal.returns-clause-inside
returns-clause-inside g c = rw c.tables.ensures at (c.lie_inside.ensures.0 c.if-not-lie_inside.false)

pub returns-clause-told : goal.returns-clause-told
returns-clause-told g c =
    let found : Some c.in-Some.manifest ≡ manifest_of c.args.superblock.now.version c.args.text.now = rw c.in-Some.is at c.in_ok-manifest.ensures.answer in
    root_with-some c.args.superblock.now c.in-Some.manifest _ (sym found) (sym c.generation.ensures ∙ c.if-generation-superblock.false) (rw c.tables.ensures at (c.lie_inside.ensures.0 c.if-not-lie_inside.false))
