-- What options are given that take a text of their own form.
use Rattle.std.specs.Prelude.{ℕ, ◌==◌, List, [], ◌∷◌, Bool, true, false, if◌then◌else◌, Option, Some, None, nat_le, option_map, ℤ, pos, neg_ℤ}
use Rattle.std.specs.Option.{option_and_then}
use Rattle.clap.specs.Walk.{Text}
use Rattle.xb_contact.specs.Numbers.{number_of, tenths_said}
use Rattle.xb_tone.specs.declared.given.Given.{Given}
use Rattle.xb_tone.specs.declared.given.Given.TheVariants.{Absent, Wrong, Said}

-- a figure without a sign, up to 100, in tenths
abbrev pub magnitude : List ℕ → Option ℕ
magnitude text = option_and_then (λ tenths. if nat_le tenths 1000 then Some tenths else None) (tenths_said text)

-- a time of a key, up to 10,000 ms
abbrev pub ms_said : List ℕ → Option ℕ
ms_said text = option_and_then (λ ms. if nat_le ms 10000 then Some ms else None) (number_of text)

-- with a `-` before it a figure is below 0
abbrev pub is_below : List ℕ → Bool
is_below [] = false
is_below (byte ∷ rest) = byte == 45

abbrev pub after_sign : List ℕ → List ℕ
after_sign [] = []
after_sign (byte ∷ rest) = if byte == 45 then rest else byte ∷ rest

abbrev pub signed : Bool → ℕ → ℤ
signed below size = if below then neg_ℤ (pos size) else pos size

abbrev pub signed_tenths : List ℕ → Option ℤ
signed_tenths text = option_map (λ tenths. signed (is_below text) tenths) (magnitude (after_sign text))

abbrev pub signed_ms : List ℕ → Option ℤ
signed_ms text = option_map (λ ms. signed (is_below text) ms) (ms_said (after_sign text))

module _ {T : Type 0} where
  -- what is made of the text of an option
  abbrev pub given_as : Option T → Given T
  given_as None = Wrong
  given_as (Some it) = Said it

  -- and of an option that may not be there, by what its text says
  abbrev pub given_of : (Text → Option T) → Option Text → Given T
  given_of says None = Absent
  given_of says (Some text) = given_as (says text)

  abbrev pub is_given : Given T → Bool
  is_given Absent = false
  is_given Wrong = true
  is_given (Said it) = true

  -- what an option says, or what stands for it where it is not there
  abbrev pub said_or : Given T → T → Option T
  said_or Absent standard = Some standard
  said_or Wrong standard = None
  said_or (Said it) standard = Some it

abbrev pub figure_of : Option Text → Given ℤ
figure_of text = given_of signed_tenths text

abbrev pub time_of_key : Option Text → Given ℤ
time_of_key text = given_of signed_ms text
