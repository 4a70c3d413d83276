-- The keys that plain numbers say.
use Rattle.std.specs.Prelude.{ℕ, ◌==◌, nat_lt, if◌then◌else◌}
use Rattle.xb_incoming.specs.declared.key.Symbol.{Symbol}
use Rattle.xb_incoming.specs.declared.key.Symbol.TheVariants.{Digit, Kp, St, Other}
use Rattle.xb_incoming.specs.declared.key.TimedKey.{TimedKey}
use Rattle.xb_model.specs.declared.digit.TheConstants.{DIGITS}
use Rattle.xb_onward.specs.declared.key.PlainKey.{PlainKey}

-- a digit, or another pair where it is none
abbrev pub digit_or_other : ℕ → Symbol
digit_or_other number = if nat_lt number DIGITS then Digit number else Other

abbrev pub symbol_in : PlainKey → Symbol
symbol_in key =
    if key.kind == 1 then digit_or_other key.digit
    else if key.kind == 2 then Kp
    else if key.kind == 3 then St
    else Other

abbrev pub key_in : PlainKey → TimedKey
key_in key = record { what = symbol_in key; begin_ms = key.begin_ms; end_ms = key.end_ms }
