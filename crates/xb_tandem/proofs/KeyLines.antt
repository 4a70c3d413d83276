-- What a text line says, by what JSON is read of it.
use Rattle.std.proofs.Common.{◌≡◌, ◌∙◌, ℕ, ◌≤◌, ◌<◌, Bool, true, false, List, length, Some, None, Ok, Err, ap, inr, refl, le-leb}
use Rattle.std.specs.Prelude.{IfErr, IfOk, if◌then◌else◌}
use Rattle.std.specs.Str.{IsUtf8, is_utf8}
use Rattle.std.proofs.lemmas.Bool.{cond-true, cond-false, lt-leb}
use Rattle.std.proofs.lemmas.Str.{IsUtf8-from_is_utf8, is_utf8-from_IsUtf8}
use Rattle.serde_json.specs.Data.{Data}
use Rattle.serde_json.specs.Read.{read}
use Rattle.xb_tandem.specs.declared.fault.LineFault.TheVariants as fault
use Rattle.xb_tandem.specs.declared.lines.TheConstants.{MOST_LINE_BYTES}
use Rattle.xb_tandem.specs.KeyLines.{IsFaultOfLine, Said, key_in, key_of_data, key_of_line}

within : (line : List ℕ) → length line ≤ MOST_LINE_BYTES
    → key_of_line line ≡ key_of_data (if is_utf8 line then read line else None)
within line few = cond-true _ _ _ (le-leb (length line) MOST_LINE_BYTES few)

pub line-said : (line : List ℕ) (value : Data) → length line ≤ MOST_LINE_BYTES → IsUtf8 line → read line ≡ Some value
    → key_of_line line ≡ key_in value
line-said line value few utf8 is =
    within line few ∙ ap key_of_data (cond-true _ _ _ (is_utf8-from_IsUtf8 line utf8) ∙ is)

pub line-refused : (line : List ℕ) → length line ≤ MOST_LINE_BYTES → (IsUtf8 line → read line ≡ None)
    → key_of_line line ≡ Err fault.NoObject
line-refused line few none = within line few ∙ ap key_of_data (at (is_utf8 line) refl)
  where
    at : (utf8 : Bool) → is_utf8 line ≡ utf8 → (if utf8 then read line else None) ≡ None
    at true e = none (IsUtf8-from_is_utf8 line e)
    at false e = refl

pub line-long : (line : List ℕ) → MOST_LINE_BYTES < length line → key_of_line line ≡ Err fault.TooLong
line-long line long = cond-false _ _ _ (lt-leb (length line) MOST_LINE_BYTES long)

-- what is returned of a line is what it says
pub said-ok : (line : List ℕ) (r : Said) → key_of_line line ≡ r → IfOk r (λ key. key_of_line line ≡ Ok key)
said-ok line (Ok key) is = is
said-ok line (Err f) is = tt

pub said-err : (line : List ℕ) (r : Said) → key_of_line line ≡ r → IfErr r (IsFaultOfLine line)
said-err line (Ok key) is = tt
said-err line (Err f) is = inr is
