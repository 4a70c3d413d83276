use Rattle.std.proofs.Common.{◌≡◌, ◌++◌, ◌∷◌, [], sym, ap, ◌∙◌, subst, rules}
use Rattle.std.proofs.lemmas.List.{map-append}
use Rattle.xb_route.specs.TextSteps.{TakesText, digits_of_numbers}
use Rattle.xb_route.proofs.NumberLines.{stops_by, takes_text}
use Rattle.xb_route.proofs.number_texts.take_number.Goals as goal

pub returns-in-Err-clause-fault : goal.returns-in-Err-clause-fault
returns-in-Err-clause-fault c = stops_by c.args.place c.args.text.now c.in-Err.fault c.in-Err.ensures.fault

pub returns-clause-taken : goal.returns-clause-taken
returns-clause-taken c =
    let old = digits_of_numbers c.args.numbers.now.items in
    let number = c.in-Ok.number in
    let items : c.push.new.self.items ≡ c.args.numbers.now.items ++ number ∷ [] = search rules in
    let digits : digits_of_numbers c.push.new.self.items ≡ old ++ number.items ∷ []
    = ap digits_of_numbers items ∙ map-append (λ n. n.items) c.args.numbers.now.items (number ∷ []) in
    subst (TakesText c.args.place c.args.text.now old) (sym digits)
    (takes_text c.args.place c.args.text.now old number.items c.in-Ok.ensures.number)
