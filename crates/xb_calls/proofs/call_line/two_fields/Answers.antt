use Rattle.std.proofs.Common.{◌≡◌, ℕ, List, [], Option, None, length, take, drop, sym, ap, ◌∙◌, arith}
use Rattle.std.specs.List.{position}
use Rattle.std.specs.Option.{unwrap_or}
use Rattle.std.proofs.lemmas.List.{drop_all, take_all, take_rest}
use Rattle.xb_calls.specs.Lists.{is_blank}
use Rattle.xb_calls.proofs.call_line.two_fields.Goals as goal

abbrev pair : List ℕ → List ℕ → List ℕ × List ℕ
pair first rest = (first, rest)

-- the fields of a text that is cut there, or not at all
abbrev fields_at : List ℕ → Option ℕ → List ℕ × List ℕ
fields_at call at = pair (take (unwrap_or at (length call)) call) (drop (unwrap_or at (length call)) call)

abbrev fields_of : List ℕ → List ℕ × List ℕ
fields_of call = fields_at call (position is_blank call)

whole : (call : List ℕ) → pair call [] ≡ fields_at call None
whole call =
    ap (λ (first : List ℕ). pair first []) (sym (take_all (length call) call (omega arith)))
    ∙ ap (pair (take (length call) call)) (sym (drop_all (length call) call (omega arith)))

pub returns-in-Some : goal.returns-in-Some
returns-in-Some c =
    let call = c.after_blanks-call.result.now in
    let n = c.in-Some.n in
    ap (pair (take n call)) (take_rest call n)
    ∙ ap (fields_at call) c.in-Some.ensures
    ∙ ap fields_of c.after_blanks-call.ensures

pub returns-in-None : goal.returns-in-None
returns-in-None c =
    let call = c.after_blanks-call.result.now in
    whole call ∙ ap (fields_at call) c.in-None.ensures ∙ ap fields_of c.after_blanks-call.ensures
