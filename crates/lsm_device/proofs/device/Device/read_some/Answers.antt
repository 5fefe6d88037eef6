use Rattle.std.proofs.Common.{◌∙◌, List, ℕ, Some, ap, sym, drop, length-take-le, take_at}
use Rattle.lsm_device.proofs.device.Device.read_some.Goals as goal

pub copy_from_slice-requires : goal.copy_from_slice-requires
copy_from_slice-requires g c = length-take-le 512 c.args.out.now c.requires.some ∙ sym c.read.array_long

pub returns-clause-bytes : goal.returns-clause-bytes
returns-clause-bytes g c = λ t.
    let got = c.copy_from_slice.ensures.after in
    let front = take_at c.copy_from_slice.new.self (drop 512 c.args.out.now) 512 (c.copy_from_slice.ensures.len ∙ length-take-le 512 c.args.out.now c.requires.some) in
    c.in_ok-read.ensures.bytes t ∙ sym (ap (λ (l : List ℕ). Some l) (front ∙ got))
