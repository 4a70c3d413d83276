use Rattle.std.proofs.Common.{◌≡◌, ◌++◌, replicate, string_bytes}
use Rattle.std.specs.List.{flat_map}
use Rattle.xb_model.specs.declared.row.TheConstants.{GREATEST_MS}
use Rattle.xb_rows.specs.WrittenRows.{record_text}
use Rattle.xb_contact.specs.Holds.{hold_of}
use Rattle.xb_loop.specs.RowsOfHolds.{rows_of_holds}
use Rattle.xb_loop.proofs.rows.write_days.Given as goal

abbrev pub invariant-loop-day : goal.invariant-loop-day
invariant-loop-day l =
    string_bytes l.rows
    ≡ string_bytes l.initial.rows
    ++ flat_map record_text (rows_of_holds l.fn.line (replicate l._day (hold_of l.fn.level GREATEST_MS)))
