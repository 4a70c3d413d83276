-- The head of a WAV file that was taken at once.
use Rattle.std.proofs.Common.{◌≡◌, ℕ, List, [], ◌++◌, Some, None, ap, sym, ◌∙◌, append-nil}
use Rattle.std.specs.Prelude.{Ok, Err}
use Rattle.xb_riff.specs.declared.head.HeadFault.{HeadFault}
use Rattle.xb_riff.specs.declared.head.WavFormat.{WavFormat}
use Rattle.xb_riff.specs.Heads.{HeadSoFar, IsNewHead, RefusesHead, TakesHead, head_of, rest_of}
use Rattle.xb_loop.specs.Wires.{format_in}

all-read : (head : HeadSoFar) (bytes : List ℕ) → IsNewHead head → head_of bytes ≡ rest_of head (bytes ++ [])
all-read head bytes new =
    ap head_of (sym (append-nil bytes)) ∙ ap (λ (h : HeadSoFar). rest_of h (bytes ++ [])) (sym new)

pub head_refused :
    (head : HeadSoFar) (bytes : List ℕ) (fault : HeadFault) → IsNewHead head → RefusesHead head bytes fault
    → Err fault ≡ format_in (head_of bytes)
head_refused head bytes fault new refused = sym (ap format_in (all-read head bytes new ∙ refused []))

pub head_found :
    (head after : HeadSoFar) (bytes : List ℕ) (format : WavFormat) (count : ℕ) → IsNewHead head
    → TakesHead head bytes (Some (format, count)) after → Ok format ≡ format_in (head_of bytes)
head_found head after bytes format count new taken = sym (ap format_in (all-read head bytes new ∙ taken []))

pub head_ended :
    (head after : HeadSoFar) (bytes : List ℕ) (fault : HeadFault) → IsNewHead head → TakesHead head bytes None after
    → rest_of after [] ≡ Err fault → Err fault ≡ format_in (head_of bytes)
head_ended head after bytes fault new taken ended =
    sym (ap format_in (all-read head bytes new ∙ taken [] ∙ ended))
