use Rattle.std.proofs.Common.{◌≡◌, ◌++◌, codes, rules, string_bytes}
use Rattle.xb_json.proofs.line.line_of.Goals as goal

pub returns-clause-reads_back : goal.returns-clause-reads_back
returns-clause-reads_back c =
    let text : string_bytes c.push.new.self ≡ string_bytes c.in_ok-line.line ++ codes "\n" = search rules in
    (string_bytes c.in_ok-line.line, text, c.in_ok-line.ensures.reads_back)
