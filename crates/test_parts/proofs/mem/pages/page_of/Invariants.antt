use Rattle.std.proofs.Common.{◌≡◌, None}
use Rattle.test_parts.proofs.mem.pages.page_of.Given as goal

abbrev pub invariant-loop-version : goal.invariant-loop-version
invariant-loop-version g l = l.builder.next ≡ None
