-- What words give, as clap reads them.
use Rattle.std.specs.Prelude.{ℕ, ◌≡◌, ◌<◌, ◌^◌, List, [], Bool, true, false, Option, Some, None, SomeIff, codes}
use Rattle.std.specs.Str.Parse.{IsNumeral, digits_value, without_leading_plus}
use Rattle.clap.specs.Faults.{fault_of}
use Rattle.clap.specs.Simple.{App}
use Rattle.clap.specs.Walk.{Row, Text, one_of}

-- the text that an option was given
abbrev pub given_by : List Row → Text → Option Text
given_by rows name = one_of name rows

-- the number of an option: none where it was not given, or its text is no number of 32 bits, which clap
-- refuses
abbrev pub ReadsNumber : Option Text → Option ℕ → Type 0
ReadsNumber None number = number ≡ None
ReadsNumber (Some text) number =
    let digits = without_leading_plus text in
    SomeIff number (IsNumeral 10 digits × (digits_value 10 digits < 2 ^ 32)) (digits_value 10 digits)

-- whether a flag was given
pub record ReadsFlag (text : Option Text) (given : Bool) : Type 0 where
  pub absent : text ≡ None → given ≡ false
  pub yes : text ≡ Some (codes "true") → given ≡ true
  pub no : text ≡ Some (codes "false") → given ≡ false

-- clap takes the words
abbrev pub IsTaken : App → List Text → Type 0
IsTaken command words = fault_of command words ≡ []
