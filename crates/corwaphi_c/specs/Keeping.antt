-- What a handle and a slot own, and how a proof stores what they lead to.
use Rattle.std.specs.Prelude.{Option, Some, None}
use Rattle.std.specs.Box.Ownership.{box_owns}
use Rattle.std.specs.Coded.{coded_option}
use base.Fml.{Fml, ftrue}
use base.Stored.{Coded}
use denote.RawPtr.{Ptr}
use mir.Syntax.{Ty}
use Rattle.corwaphi_c.specs.contracts.kept.Kept.{the_row}

abbrev pub kept_coded : Coded the_row.Denot
kept_coded = the_row.coded

abbrev pub perhaps_coded : Coded (Option the_row.Denot)
perhaps_coded = coded_option kept_coded

-- the box that was put into a slot, if one was
abbrev pub slot_owns : (Ty → Ptr → Fml) → Ptr → Option the_row.Denot → Fml
slot_owns holds at (Some kept) = box_owns holds the_row at kept
slot_owns holds at None = ftrue
