use Rattle.std.proofs.Common.{◌≡◌, ◌∙◌, ℕ, List, ◌++◌, ap, codes, decimal}
use Rattle.std.specs.Prelude.{OnOk, string_bytes}
use Rattle.std.proofs.lemmas.Result.{on_ok_weaker}
use Rattle.xb_tone.proofs.cuts.push_line.Goals as goal

pub returns : goal.returns
returns c =
    let old : List ℕ = string_bytes c.args.text.now in
    let new : List ℕ = string_bytes c.write.new.self in
    let text : ℕ → ℕ → List ℕ = λ line by. old ++ (c.args.program.now ++ (codes ": entry "
    ++ (decimal c.args.before.now.number ++ (codes " of line " ++ (decimal line ++ (codes " is cut at "
    ++ (decimal c.args.entry.now.at_ms ++ (codes " ms by entry " ++ (decimal c.args.entry.now.number
    ++ (codes " of line " ++ (decimal by ++ codes "\n"))))))))))) in
    let written : OnOk c.write.result (new ≡ text c.get-line.result c.get-by_line.result) = c.write.ensures.bytes in
    let same : text c.get-line.result c.get-by_line.result ≡ text c.args.before.now.line c.args.entry.now.line =
    ap (λ line. text line c.get-by_line.result) c.get-line.ensures.value
    ∙ ap (text c.args.before.now.line) c.get-by_line.ensures.value in
    on_ok_weaker c.write.result (λ (is : new ≡ text c.get-line.result c.get-by_line.result). is ∙ same) written
