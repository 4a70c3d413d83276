-- What a clock tells is what is printed.
use Rattle.std.proofs.Common.{◌≡◌, ◌∙◌, ◌*◌, ℕ, ℤ, pos, ◌+ℤ◌, false, List, ◌++◌, codes, Option, Some, None, ap, refl, sym}
use Rattle.jiff_core.specs.declared.timestamp.Timestamp.{Timestamp}
use Rattle.jiff_fmt.specs.declared.temporal.printer.DateTimePrinter.{DateTimePrinter}
use Rattle.jiff_core.specs.declared.civil.datetime.DateTime.{DateTime}
use Rattle.jiff_fmt.specs.Printer.{IsTimestampText, datetime_text as printed_text, options}
use Rattle.jiff_fmt.specs.Text.{datetime_text, zulu_text}
use Rattle.xb_clock.specs.Clocks.{Clock, IsClockSince, IsTimeText, TellsTime, time_at}

pub told-time : (since : Option Timestamp) (clock : Clock) (ms : ℕ) (text : Option (List ℕ)) → IsClockSince since clock → TellsTime since ms text → text ≡ time_at since clock ms
told-time None clock ms text tells told = told
told-time (Some since) clock ms None tells told = absurd told
told-time (Some since) clock ms (Some text) tells told = ap Some (sym (tells ms text told))

plain-text : (p : DateTimePrinter) (time : DateTime) (text : List ℕ) → p.lowercase ≡ false → p.separator ≡ 84 → p.precision ≡ None
    → text ≡ printed_text p time ++ zulu_text p.lowercase → text ≡ datetime_text false 84 None time ++ codes "Z"
plain-text p time text lower separator precision is = rw (is, lower, separator, precision) refl

-- what a plain printer writes of an instant is its time of day
pub time-printed : (p : DateTimePrinter) (since time : Timestamp) (ms : ℕ) (nanos : ℤ) (text : List ℕ) → options p ≡ (false, 84, None)
    → time.nanosecond ≡ since.nanosecond +ℤ nanos → nanos ≡ pos (ms * 1_000_000) → IsTimestampText p time text → IsTimeText since ms text
time-printed p since time ms nanos text plain later are printed = (
  printed.0,
  printed.1 ∙ later ∙ ap (λ n. since.nanosecond +ℤ n) are,
  plain-text p printed.0 text (ap (λ x. x.0) plain) (ap (λ x. x.1) plain) (ap (λ x. x.2) plain) printed.2,
)
