use Rattle.std.proofs.Common.{◌+◌, map, ap, ◌∙◌, drop_of_length-le}
use Rattle.std.specs.List.{enumerate_from}
use Rattle.xb_route.specs.NumberTexts.{numbers_of}
use Rattle.xb_route.specs.TextSteps.{after, digits_of_numbers}
use Rattle.xb_route.proofs.NumberLines.{numbers-none}
use Rattle.xb_route.proofs.number_texts.numbers_of_words.Goals as goal

pub returns-clause-numbers : goal.returns-clause-numbers
returns-clause-numbers c =
    let n = c.loop-word.place + 1 in
    let numbers = digits_of_numbers c.loop-word.numbers.items in
    c.loop-word.invariant.numbers
    ∙ ap (λ left. after numbers (numbers_of (enumerate_from n (map (λ word. word.now) left))))
    (drop_of_length-le c.args.words.now c.loop-word-test.false)
    ∙ numbers-none numbers
