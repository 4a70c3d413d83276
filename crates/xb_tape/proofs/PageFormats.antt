-- What the hole `{n:04}` of a format writes, and the lines that have one.
use Rattle.std.proofs.Common.{◌≡◌, ◌++◌, ◌-◌, ℕ, List, Option, Some, None, replicate, length, decimal, ap, arith, codes, append_assoc}
use Rattle.std.proofs.lemmas.List.{append-nil}
use Rattle.std.specs.Fmt.{char_count, format_spec, padded_integral, styled_decimal}
use Rattle.xb_model.specs.Page.{entry_body, entry_body_by, entry_head, entry_text, entry_text_by, four_digits, last_refusal, mark_text}
use Rattle.xb_model.specs.declared.reason.Reason.{Reason}
use Rattle.xb_model.specs.declared.mark.Mark.{Mark}
use Rattle.xb_tape.specs.MarkLines.{mark_line, word_before}

-- the hole writes four digits
pub styled : (n : ℕ) → styled_decimal (format_spec 32 0 4 4 18446744073709551615) n ≡ four_digits n
unfolding padded_integral char_count
styled n =
    let e : 4 - length (decimal n) - 0 - 0 ≡ 4 - length (decimal n) = omega arith in
    rw append-nil (ap (λ (k : ℕ). replicate k 48 ++ decimal n) e)

body-by : (line n : ℕ) (entry : List Mark) (refusal : Option (Reason × ℕ))
    → entry_text_by line n entry refusal ≡ entry_head line n ++ entry_body_by entry refusal ++ codes "\n"
body-by line n entry None = simp append_assoc
body-by line n entry (Some refusal) = simp append_assoc

-- the line of an entry: the line and the number, what is said of it, and its end
pub entry_text-body : (line n : ℕ) (entry : List Mark)
    → entry_text line n entry ≡ entry_head line n ++ entry_body entry ++ codes "\n"
entry_text-body line n entry = body-by line n entry (last_refusal entry)

-- the same, from its head on
pub entry : (out out1 out2 out3 : List ℕ) (line n : ℕ) (marks : List Mark)
    → out1 ≡ out ++ (styled_decimal (format_spec 32 0 4 4 18446744073709551615) line ++ (codes " " ++ decimal n))
    → out2 ≡ out1 ++ entry_body marks → out3 ≡ out2 ++ codes "\n" → out3 ≡ out ++ entry_text line n marks
entry out out1 out2 out3 line n marks head body end =
    rw (end, body, head, styled line, entry_text-body line n marks) (simp append_assoc)

-- the line of a mark, from its head on
pub alone : (out out1 out2 out3 : List ℕ) (line n : ℕ) (mark : Mark)
    → out1 ≡ out ++ (styled_decimal (format_spec 32 0 4 4 18446744073709551615) line ++ (codes " " ++ (decimal n ++ word_before mark)))
    → out2 ≡ out1 ++ mark_text mark → out3 ≡ out2 ++ codes "\n" → out3 ≡ out ++ mark_line line n mark
alone out out1 out2 out3 line n mark head text end =
    rw (end, text, head, styled line) (simp append_assoc)
