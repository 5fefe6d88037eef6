use Rattle.std.proofs.Common.{[], refl, sym, arith}
use Rattle.lsm_codec.specs.LogSectors.{lent_part}
use Rattle.lsm_log.proofs.Gathering.{ends_no_part, ends_other, number_is, taken_more}
use Rattle.lsm_log.proofs.Taking.{taken_last}
use Rattle.lsm_log.proofs.read_batches.ReadBatches.take.Goals as goal

pub returns-in_default-clause-taken : goal.returns-in_default-clause-taken
returns-in_default-clause-taken g c = λ rest.
    let s = c.args.self.now in
    ends_no_part s.epoch s.number s.part s.parts s.text.items c.args.bytes.now rest s.batches.items (sym c.in_default.ensures.answer)

pub returns-then-not-is_awaited-clause-taken : goal.returns-then-not-is_awaited-clause-taken
returns-then-not-is_awaited-clause-taken g c = λ rest.
    let s = c.args.self.now in
    ends_other s.epoch s.number s.part s.parts s.text.items c.args.bytes.now rest (lent_part c.in-Some.sector) (sym c.in-Some.ensures.answer) s.batches.items (sym c.if-not-is_awaited.ensures)

pub returns-clause-taken : goal.returns-clause-taken
returns-clause-taken g c = λ rest.
    let s = c.args.self.now in
    taken_more s.epoch s.number s.part s.parts s.text.items c.args.bytes.now rest (lent_part c.in-Some.sector) (sym c.in-Some.ensures.answer) (sym c.if-not-is_awaited.ensures) (λ e. absurd (c.if-sector.false e))
    c.extend_from_slice.new.self.items s.batches.items c.in_ok-extend_from_slice.ensures.items

pub returns-then-sector-clause-taken : goal.returns-then-sector-clause-taken
returns-then-sector-clause-taken g c =
    let s = c.args.self.now in
    taken_last s _ c.end_batch.new.self c.args.bytes.now (lent_part c.in-Some.sector) (sym c.in-Some.ensures.answer) (sym c.if-not-is_awaited.ensures) c.if-sector.true c.in_ok-extend_from_slice.ensures.items refl refl refl _ c.in_ok-end_batch.ensures.ended

pub end_batch-requires : goal.end_batch-requires
end_batch-requires g c =
    let s = c.args.self.now in
    let same = number_is s.epoch s.number s.part s.parts s.text.items c.args.bytes.now [] (lent_part c.in-Some.sector) (sym c.in-Some.ensures.answer) (sym c.if-not-is_awaited.ensures) in
    omega (arith, same, c.in-Some.ensures.exact.found.0.batch_high)
