use Rattle.std.proofs.Common.{◌≡◌, ◌∙◌, inl, sym, ap, arith, length, List, ℕ}
use Rattle.std.proofs.lemmas.Result.{err_from_is_err_and}
use Rattle.lsm_device.specs.Disk.{seen}
use Rattle.lsm_device.specs.Medium.{disk}
use Rattle.lsm_device.specs.Memory.{length-written}
use Rattle.lsm_root.specs.Loaded.{refusal_of}
use Rattle.lsm_root.proofs.Loading.{too_small, other_size, superblock_refused}
use Rattle.lsm_root.proofs.reader.own_superblock.Goals as goal

pub returns-then-sectors-lt-SUPERBLOCKS-clause-why :
    goal.returns-then-sectors-lt-SUPERBLOCKS-clause-why
returns-then-sectors-lt-SUPERBLOCKS-clause-why g c = λ t.
    let image : List (List ℕ) = seen (disk (g.D.Device.medium c.args.device.now)) in
    let long : length image ≡ (g.D.Device.medium c.args.device.now).size = length-written _ (disk (g.D.Device.medium c.args.device.now)).stands (disk (g.D.Device.medium c.args.device.now)).pending (g.met.D.Device.sound c.args.device.now t).now.size in
    inl (ap refusal_of (too_small image (omega (arith, long, c.sectors.ensures, c.if-sectors-lt-SUPERBLOCKS.true))))

pub returns-in_err-superblock-clause-why :
    goal.returns-in_err-superblock-clause-why
returns-in_err-superblock-clause-why g c = λ t.
    let image : List (List ℕ) = seen (disk (g.D.Device.medium c.args.device.now)) in
    let long : length image ≡ (g.D.Device.medium c.args.device.now).size = length-written _ (disk (g.D.Device.medium c.args.device.now)).stands (disk (g.D.Device.medium c.args.device.now)).pending (g.met.D.Device.sound c.args.device.now t).now.size in
    let p = err_from_is_err_and c.from_residual.result c.from_residual.ensures.1 in
    rw (p.1, p.2) (superblock_refused image c.in_err-superblock.field-0.0 (omega (arith, long, c.sectors.ensures, c.if-sectors-lt-SUPERBLOCKS.false)) (c.in_err-superblock.ensures.told t))

pub returns-then-superblock-sectors-clause-why :
    goal.returns-then-superblock-sectors-clause-why
returns-then-superblock-sectors-clause-why g c = λ t.
    let image : List (List ℕ) = seen (disk (g.D.Device.medium c.args.device.now)) in
    let long : length image ≡ (g.D.Device.medium c.args.device.now).size = length-written _ (disk (g.D.Device.medium c.args.device.now)).stands (disk (g.D.Device.medium c.args.device.now)).pending (g.met.D.Device.sound c.args.device.now t).now.size in
    inl (ap refusal_of (other_size image c.in_ok-superblock.superblock (omega (arith, long, c.sectors.ensures, c.if-sectors-lt-SUPERBLOCKS.false)) (c.in_ok-superblock.ensures.told t) c.sectors-2.result (long ∙ sym (c.sectors-2.ensures ∙ c.read_superblock.ensures.same_size)) c.if-superblock-sectors.true))

pub returns-clause-sized : goal.returns-clause-sized
returns-clause-sized g c = c.if-superblock-sectors.false ∙ c.sectors-2.ensures ∙ c.read_superblock.ensures.same_size
