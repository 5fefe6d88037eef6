use Rattle.std.proofs.Common.{◌≡◌, ◌<◌, ◌+◌, ◌-◌, length, true, map, set, inl, subst, arith, ℕ}
use Rattle.lsm_device.specs.Made.{GoTogether}
use Rattle.lsm_image.specs.declared.laid.Laid.{Laid}
use Rattle.lsm_image.specs.Laid.{image_of, made_of, now_of}
use Rattle.lsm_image.proofs.Begun.{settled_goes, settled_stands}
use Rattle.lsm_image.proofs.device.ImageDevice.settle.Goals as goal

pub invariant_of-self : goal.invariant_of-self
invariant_of-self g c =
    let s = c.args.self.now in
    let counts : c.len-last.result - 1 + 1 ≡ length s.made.items = omega (arith, s.made.ok) in
    let waits : s.standing < length s.made.items = omega (arith, s.made.ok) in
    let goes = settled_goes s.base.now s.laid.items s.made.items s.standing s.go_together (c.len-last.result - 1) counts waits c.index_mut.result.now c.index_mut.ensures.value in
    let all : length s.made.items ≡ c.len-self.result = omega (arith, s.made.ok) in
    let new : Laid = record { at = c.index_mut.result.now.at; bytes = c.index_mut.result.now.bytes; sync_followed = true } in
    record {
      is_image = s.is_image;
      go_together = subst (λ (k : ℕ). GoTogether (image_of s.base.now s.laid.items) (now_of s.base.now s.laid.items (set s.made.items (c.len-last.result - 1) new)) (map made_of (set s.made.items (c.len-last.result - 1) new)) k) all goes;
      keeps_fuse = s.keeps_fuse;
    }

pub returns-then-self-len-clause-stands : goal.returns-then-self-len-clause-stands
returns-then-self-len-clause-stands g c =
    let s = c.args.self.now in
    let counts : c.len-last.result - 1 + 1 ≡ length s.made.items = omega (arith, s.made.ok) in
    let waits : s.standing < length s.made.items = omega (arith, s.made.ok) in
    inl (settled_stands s.base.now s.laid.items s.made.items s.standing s.go_together (c.len-last.result - 1) counts waits c.index_mut.result.now c.index_mut.ensures.value)
