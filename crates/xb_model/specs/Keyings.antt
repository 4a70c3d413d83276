-- What a sender keys ("Notes on Distance Dialing"; the mark of a refusal is the profile's own).
use Rattle.std.specs.Prelude.{ℕ, List, [], ◌∷◌, ◌++◌, map, Bool, true, false}
use Rattle.xb_model.specs.declared.key.Key.{Key}
use Rattle.xb_model.specs.declared.key.Key.TheVariants.{Digit, Kp, St}
use Rattle.xb_model.specs.declared.mark.Mark.{Mark}
use Rattle.xb_model.specs.declared.mark.Mark.TheVariants.{Trunk, Tone, Refused}
use Rattle.xb_model.specs.declared.order.Order.{Order}
use Rattle.xb_model.specs.declared.order.Order.TheVariants as orders
use Rattle.xb_model.specs.MfPairs.{mf_pair}

-- the mark of a key
abbrev pub tone : Key → Mark
tone key = Tone key (mf_pair key)

-- a keying: the trunk group, KP, the digits in order, ST
abbrev pub keying : ℕ → List ℕ → List Mark
keying trunk digits = Trunk trunk ∷ tone Kp ∷ (map (λ d. tone (Digit d)) digits ++ tone St ∷ [])

-- what an order puts on the tape
abbrev pub marks_of : Order → List Mark
marks_of (orders.Key trunk digits) = keying trunk digits
marks_of (orders.Refused reason heard) = Refused reason heard ∷ []

abbrev pub is_st : Key → Bool
is_st (Digit d) = false
is_st Kp = false
is_st St = true

-- an entry ends with the tone of ST, or with a refusal
abbrev pub is_ending : Mark → Bool
is_ending (Trunk t) = false
is_ending (Tone key pair) = is_st key
is_ending (Refused reason heard) = true
