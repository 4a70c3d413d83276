use Rattle.std.proofs.Common.{◌≡◌, ◌∙◌, ◌++◌, ◌-◌, ◌/◌, ◌%◌, ℕ, codes, decimal, length, replicate, ap, arith}
use Rattle.std.specs.Fmt.{char_count, format_spec, padded_integral, styled_decimal}
use Rattle.std.proofs.lemmas.List.{append-nil}
use Rattle.std.proofs.lemmas.Result.{IfOk-weaker}
use Rattle.xb_measured.specs.Seconds.{three_digits}
use Rattle.xb_measured.proofs.seconds.seconds_text.Goals as goal

-- what the hole `{n:03}` writes
three : (n : ℕ) → styled_decimal (format_spec 32 0 4 3 18446744073709551615) n ≡ three_digits n
unfolding padded_integral char_count
three n =
    let e : 3 - length (decimal n) - 0 - 0 ≡ 3 - length (decimal n) = omega arith in
    rw append-nil (ap (λ (k : ℕ). replicate k 48 ++ decimal n) e)

pub returns : goal.returns
returns c =
    IfOk-weaker c.format.result _ _
    (λ text e. e ∙ ap (λ t. decimal (c.args.ms / 1000) ++ (codes "." ++ t)) (three (c.args.ms % 1000)))
    (rw c.laid_out.ensures at c.format.ensures.ok)
