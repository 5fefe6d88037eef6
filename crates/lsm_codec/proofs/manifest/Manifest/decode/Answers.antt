use Rattle.std.proofs.Common.{sym, arith, refl}
use Rattle.lsm_codec.specs.Keys.{IsBytes}
use Rattle.lsm_codec.proofs.ManifestLaws.{manifest_of_exact, rest_shorter, whole, not_whole, unread}
use Rattle.lsm_codec.proofs.manifest.Manifest.decode.Goals as goal
use Rattle.lsm_codec.proofs.manifest.Manifest.decode.Goals.{else-is_whole-via-then-is_whole+else-is_within_limits, else-is_whole-via-else-is_whole}

pub overflow_sub-sectors : goal.overflow_sub-sectors
overflow_sub-sectors g c =
    let bytes : IsBytes c.args.sectors.now = record { fit = λ i. omega (arith, c.type_inv.sectors i) } in
    let read = rw c.in-Some.is at c.in_ok-manifest.ensures in
    rest_shorter c.args.version c.args.sectors.now bytes c.in-Some.manifest c.in-Some.rest.now (sym read)

pub returns-then-is_within_limits-clause-answer : goal.returns-then-is_within_limits-clause-answer
returns-then-is_within_limits-clause-answer g c =
    let bytes : IsBytes c.args.sectors.now = record { fit = λ i. omega (arith, c.type_inv.sectors i) } in
    let read = rw c.in-Some.is at c.in_ok-manifest.ensures in
    whole c.args.version c.args.sectors.now bytes c.in-Some.manifest c.in-Some.rest.now (sym read) (c.if-is_whole.ensures.0 refl) (c.if-is_within_limits.ensures.0 refl)

pub returns-then-is_within_limits-clause-exact : goal.returns-then-is_within_limits-clause-exact
returns-then-is_within_limits-clause-exact g c = manifest_of_exact c.args.version c.args.sectors.now

pub returns-in-Some-clause-answer : goal.returns-in-Some-clause-answer
returns-in-Some-clause-answer g c =
    let bytes : IsBytes c.args.sectors.now = record { fit = λ i. omega (arith, c.type_inv.sectors i) } in
    let read = rw c.in-Some.is at c.in_ok-manifest.ensures in
    not_whole c.args.version c.args.sectors.now bytes c.in-Some.manifest c.in-Some.rest.now (sym read) (λ h. elim c.else-is_whole.branch [
      | else-is_whole-via-then-is_whole+else-is_within_limits w ↦ absurd (cc (w.if-is_within_limits.ensures.1 h.1))
      | else-is_whole-via-else-is_whole w ↦ absurd (cc (w.if-is_whole.ensures.1 h.0))
    ])

pub returns-in-Some-clause-exact : goal.returns-in-Some-clause-exact
returns-in-Some-clause-exact g c = manifest_of_exact c.args.version c.args.sectors.now

pub returns-clause-answer : goal.returns-clause-answer
returns-clause-answer g c =
    let bytes : IsBytes c.args.sectors.now = record { fit = λ i. omega (arith, c.type_inv.sectors i) } in
    let none = rw c.in-None.is at c.in_ok-manifest.ensures in
    unread c.args.version c.args.sectors.now bytes (sym none)

pub returns-clause-exact : goal.returns-clause-exact
returns-clause-exact g c = manifest_of_exact c.args.version c.args.sectors.now

pub returns-in_err-manifest-clause-exact : goal.returns-in_err-manifest-clause-exact
returns-in_err-manifest-clause-exact g c = manifest_of_exact c.args.version c.args.sectors.now
