-- Each state of the register comes back from its plain values.
use Rattle.std.proofs.Common.{length, refl}
use Rattle.std.proofs.lemmas.Bool.{lt-ltb}
use Rattle.xb_model.specs.declared.digits.TheConstants.{NUMBER_DIGITS}
use Rattle.xb_register.specs.declared.state.Phase.TheVariants.{OnHook, Listening, Done}
use Rattle.xb_register.specs.Plain.{StatesComeBack}

pub states_come_back : StatesComeBack
states_come_back OnHook h = refl
states_come_back (Listening digits) h = rw (lt-ltb (length digits) NUMBER_DIGITS h) refl
states_come_back Done h = refl
