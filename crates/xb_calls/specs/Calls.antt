-- Calls: what is dialled on which line.
use Rattle.std.specs.Prelude.{ℕ, ◌<◌, List}
use Rattle.std.specs.List.{All}
use Rattle.xb_model.specs.declared.digit.TheConstants.{DIGITS}
use Rattle.xb_model.specs.declared.line.TheConstants.{LINES}

-- a call: the line that dials, and the digits
pub record DialledCall : Type 0 where
  pub line : ℕ
  pub digits : List ℕ

abbrev pub call_of : ℕ → List ℕ → DialledCall
call_of line digits = record { line = line; digits = digits }

abbrev pub AreDigits : List ℕ → Type 0
AreDigits digits = All (λ digit. digit < DIGITS) digits

-- a line of the office, and digits
pub record IsCall (call : DialledCall) : Type 0 where
  pub line : call.line < LINES
  pub digits : AreDigits call.digits

abbrev pub AreCalls : List DialledCall → Type 0
AreCalls calls = All IsCall calls
