use Rattle.std.proofs.Common.{◌≡◌, ◌≤◌, ◌++◌, length, string_bytes}
use Rattle.reading.specs.Line.{most_left}
use Rattle.tally.specs.Desks.{desk_of}
use Rattle.tally.specs.Sheets.{sheet_text}
use Rattle.tally.proofs.Stepping.{rest_text}
use Rattle.tally.proofs.sheet.write_up.Given as goal

-- what is written, and what the rest writes
abbrev pub invariant-loop-line : goal.invariant-loop-line
invariant-loop-line l =
    (string_bytes l.out ++ rest_text (desk_of l.desk) l.reader.line l.reader.rest.now ≡ sheet_text l.sheet)
    × (l.reader.line ≤ most_left)

abbrev pub decreases-loop-line : goal.decreases-loop-line
decreases-loop-line l = length l.reader.rest.now
