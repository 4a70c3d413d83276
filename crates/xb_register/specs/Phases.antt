-- Where an attempt stands on a line.
use Rattle.std.specs.Prelude.{◌<◌, length}
use Rattle.xb_model.specs.declared.digits.TheConstants.{NUMBER_DIGITS}
use Rattle.xb_register.specs.declared.state.Phase.{Phase}
use Rattle.xb_register.specs.declared.state.Phase.TheVariants.{OnHook, Listening, Done}

-- an attempt that goes on has room for one digit more
abbrev pub HasRoom : Phase → Type 0
HasRoom OnHook = Unit {0}
HasRoom (Listening digits) = length digits < NUMBER_DIGITS
HasRoom Done = Unit {0}
