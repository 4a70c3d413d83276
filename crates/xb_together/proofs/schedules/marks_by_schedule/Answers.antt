use Rattle.std.proofs.Common.{◌∙◌}
use Rattle.xb_together.proofs.schedules.marks_by_schedule.Goals as goal

pub returns-clause-whole : goal.returns-clause-whole
returns-clause-whole c has_ended =
    let table = c.in_ok-play.ensures.table ∙ c.in_ok-replay.ensures.table in
    let rows = c.in_ok-play.ensures.rows ∙ c.in_ok-replay.ensures.rows in
    c.in_ok-marks.ensures.items ∙ rw (← table, ← rows) (c.marks.ensures.whole (c.ended.ensures.ended.0 has_ended))
