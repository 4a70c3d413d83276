use Rattle.std.proofs.Common.{◌≡◌, ◌∙◌, ◌++◌, ◌-◌, ℕ, codes, decimal, ap, rules}
use Rattle.std.proofs.lemmas.Result.{IfOk-weaker}
use Rattle.xb_measured.proofs.doubt_lines.gap_reason.Goals as goal

pub returns : goal.returns
returns c =
    let key : ℕ = c.args.key in
    let ms : ℕ = c.args.ms in
    let usual : ℕ = c.args.usual in
    let before : c.saturating_sub-before.result ≡ key - 1 = search rules in
    IfOk-weaker c.format.result _ _
    (λ text e. e
    ∙ ap (λ (n : ℕ). decimal ms ++ (codes " ms between its keys " ++ (decimal n ++ (codes " and " ++ (decimal key
    ++ (codes ", where " ++ (decimal usual ++ codes " are usual"))))))) before)
    c.format.ensures.ok
