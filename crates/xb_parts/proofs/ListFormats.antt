-- The lines of a list, and the names in them, as they are written.
use Rattle.std.proofs.Common.{◌≡◌, ◌∙◌, ◌++◌, ◌-◌, ℕ, List, replicate, length, decimal, ap, arith, codes, append_assoc}
use Rattle.std.proofs.lemmas.List.{append-nil}
use Rattle.std.specs.Fmt.{char_count, format_spec, padded_integral, styled_decimal}
use Rattle.xb_model.specs.Page.{four_digits}
use Rattle.xb_parts.specs.declared.range.LineRange.{LineRange}
use Rattle.xb_parts.specs.declared.list.ListedPart.{ListedPart}
use Rattle.xb_parts.specs.Lists.{deck_name, listed_part}

-- the hole writes four digits
styled : (n : ℕ) → styled_decimal (format_spec 32 0 4 4 18446744073709551615) n ≡ four_digits n
unfolding padded_integral char_count
styled n =
    let e : 4 - length (decimal n) - 0 - 0 ≡ 4 - length (decimal n) = omega arith in
    rw append-nil (ap (λ (k : ℕ). replicate k 48 ++ decimal n) e)

pub name : (range : LineRange)
    → styled_decimal (format_spec 32 0 4 4 18446744073709551615) range.first
    ++ (codes "-" ++ (styled_decimal (format_spec 32 0 4 4 18446744073709551615) (range.end - 1) ++ codes ".deck"))
    ≡ deck_name range
name range = rw (styled range.first, styled (range.end - 1)) (simp append_assoc)

line : (out name first last records : List ℕ)
    → (out ++ name) ++ (codes " " ++ (first ++ (codes " " ++ (last ++ (codes " " ++ (records ++ codes "\n"))))))
    ≡ out ++ (name ++ codes " " ++ first ++ codes " " ++ last ++ codes " " ++ records ++ codes "\n")
line out name first last records = simp append_assoc

pub part_line : (out out1 out2 : List ℕ) (part : ListedPart) → out1 ≡ out ++ deck_name part.lines
    → out2 ≡ out1
    ++ (codes " " ++ (decimal part.lines.first ++ (codes " " ++ (decimal (part.lines.end - 1) ++ (codes " " ++ (decimal part.records ++ codes "\n"))))))
    → out2 ≡ out ++ listed_part part
part_line out out1 out2 part head rest =
    rest ∙ ap (λ (t : List ℕ). t ++ (codes " " ++ (decimal part.lines.first ++ (codes " " ++ (decimal (part.lines.end - 1) ++ (codes " " ++ (decimal part.records ++ codes "\n"))))))) head
    ∙ line out (deck_name part.lines) (decimal part.lines.first) (decimal (part.lines.end - 1)) (decimal part.records)
