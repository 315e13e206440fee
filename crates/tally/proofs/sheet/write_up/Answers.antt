use Rattle.std.proofs.Common.{true, false, length, string_bytes, sym, ap, ◌∙◌, subst, append-nil}
use Rattle.tally.specs.Desks.{desk_of}
use Rattle.tally.specs.Taking.{Written}
use Rattle.tally.proofs.Stepping.{wrote_on, goes_down, line_next, none_next, wrote_up}
use Rattle.tally.proofs.sheet.write_up.Goals as goal
use Rattle.tally.proofs.sheet.write_up.Goals.{in-Some+in_ok-put_taken+then-not-branch, in_default}

pub loop-line-preserved : goal.loop-line-preserved
loop-line-preserved c =
    let d = desk_of c.loop-line.desk in
    let after = desk_of c.take_line-taken.new.desk in
    let line = c.loop-line.reader.line in
    let next = c.take_line-taken.new.reader.line in
    let bytes = c.loop-line.reader.rest.now in
    let rest = c.take_line-taken.new.reader.rest.now in
    let r = c.take_line-taken.result in
    let at = line_next (length bytes) line c.in-Some.line c.next_line.result c.next_line.ensures c.in-Some.is in
    let wrote = c.in_ok-put_taken.ensures in
    let goes : Written c.in-Some.line r wrote.0 true = subst (Written c.in-Some.line r wrote.0) c.if-not-branch.false wrote.2 in
    let t = c.take_line-taken.ensures in (
      wrote_on d after line next bytes rest r c.in-Some.line _ _ _ wrote.0 true at.0 c.loop-line.invariant.0 t.taken t.long at.1 wrote.1 goes,
      (goes_down d after line next bytes rest r wrote.0 t.taken t.long (subst (λ m. Written m r wrote.0 true) at.1 goes)).1,
    )

pub returns : goal.returns
returns c =
    let d = desk_of c.loop-line.desk in
    let line = c.loop-line.reader.line in
    let bytes = c.loop-line.reader.rest.now in
    elim c.match-next_line.branch [
      | in_default w ↦
          ap string_bytes w.out-is ∙ wrote_up d line bytes _ _ (none_next bytes line c.next_line.result c.next_line.ensures w.in_default.is) c.loop-line.invariant.1 c.loop-line.invariant.0
      | in-Some+in_ok-put_taken+then-not-branch w ↦
          let after = desk_of w.take_line-taken.new.desk in
          let next = w.take_line-taken.new.reader.line in
          let rest = w.take_line-taken.new.reader.rest.now in
          let r = w.take_line-taken.result in
          let at = line_next (length bytes) line w.in-Some.line c.next_line.result c.next_line.ensures w.in-Some.is in
          let wrote = w.in_ok-put_taken.ensures in
          let stops : Written w.in-Some.line r wrote.0 false = subst (Written w.in-Some.line r wrote.0) w.if-not-branch.true wrote.2 in
          let t = w.take_line-taken.ensures in
          ap string_bytes w.out-is ∙ sym (append-nil _)
          ∙ wrote_on d after line next bytes rest r w.in-Some.line _ _ _ wrote.0 false at.0 c.loop-line.invariant.0 t.taken t.long at.1 wrote.1 stops
    ]
