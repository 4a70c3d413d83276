-- Rows whose makes and breaks are exchanged, as those of a wire that was recorded the wrong way round.
use Rattle.std.specs.Prelude.{max, List, map}
use Rattle.xb_model.specs.declared.limits.Limits.{Limits}
use Rattle.xb_model.specs.declared.row.Contact.{Contact}
use Rattle.xb_model.specs.declared.row.Contact.TheVariants.{Make, Brk, Close}
use Rattle.xb_model.specs.Rows.{LoopRow, row_of}
use Rattle.xb_doubts.specs.declared.exchanged.TheConstants.{DIAL_MS}

abbrev pub other_contact : Contact → Contact
other_contact Make = Brk
other_contact Brk = Make
other_contact Close = Close

abbrev pub exchanged_row : LoopRow → LoopRow
exchanged_row row = row_of row.line (other_contact row.contact) row.ms

-- a make where a break was, and a break where a make was
abbrev pub exchanged_rows : List LoopRow → List LoopRow
exchanged_rows rows = map exchanged_row rows

-- the limits by which no half period of a bell is a pulse
abbrev pub dial_limits : Limits → Limits
dial_limits limits = record {
  pulse_min = max limits.pulse_min DIAL_MS;
  pulse_max = limits.pulse_max;
  make_min = limits.make_min;
  pause = limits.pause;
  release = limits.release;
  timeout = limits.timeout;
}
