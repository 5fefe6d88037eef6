use Rattle.std.proofs.Common.{◌+◌, take, subst, arith}
use Rattle.std.specs.Io.KnownBytes.{Consumes}
use Rattle.std.specs.Io.BufRead.{FillKeeps}
use Rattle.std.proofs.BufReadLemmas.{Consumes_shown}
use Rattle.lsm_language.proofs.ReadingLaws.{newline_taken}
use Rattle.lsm_language.proofs.reading.take_piece.Goals as goal

pub returns-then-end-read-clause-takes : goal.returns-then-end-read-clause-takes
returns-then-end-read-clause-takes g c =
    let shown = c.in-Ok.read.now in
    let end = c.end_of_line-end in
    let rested = c.fill_buf.follows.lender-at-none in
    let filled = subst (FillKeeps _ (g.I.Read.remaining rested) (g.I.BufRead.consumable_len rested)) c.in-Ok.is c.fill_buf.follows.holds-at-none in
    let moved = Consumes_shown _ _ _ _ shown end.result end.ensures.within c.in-Ok.ensures.front c.in-Ok.ensures.end filled.0 filled.1 c.consume.ensures.bytes in
    (take end.result shown, end.ensures.before, c.in_ok-keep.ensures, moved.0)

pub returns-clause-takes : goal.returns-clause-takes
returns-clause-takes g c =
    let shown = c.in-Ok.read.now in
    let end = c.end_of_line-end in
    let rested = c.fill_buf.follows.lender-at-none in
    let filled = subst (FillKeeps _ (g.I.Read.remaining rested) (g.I.BufRead.consumable_len rested)) c.in-Ok.is c.fill_buf.follows.holds-at-none in
    let moved = Consumes_shown _ _ _ _ shown (end.result + 1) (omega (arith, end.ensures.within, c.if-end-read.false)) c.in-Ok.ensures.front c.in-Ok.ensures.end filled.0 filled.1 c.consume-2.ensures.bytes in
    let whole = newline_taken shown end.result (omega (arith, end.ensures.within, c.if-end-read.false)) (end.ensures.newline (omega (arith, end.ensures.within, c.if-end-read.false))) in
    (take end.result shown, end.ensures.before, c.in_ok-keep.ensures, subst (Consumes _ _) whole moved.0)
