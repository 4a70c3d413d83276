use Rattle.std.proofs.Common.{ℕ, ◌+◌, List, map, sym, ap, ◌∙◌, arith}
use Rattle.std.specs.List.{enumerate_from}
use Rattle.std.specs.Prelude.{option_copied}
use Rattle.std.specs.Str.Lines.{strip_carriage_return}
use Rattle.xb_calls.specs.Lists.{line_feed}
use Rattle.xb_calls.proofs.TextLines.{few-lines}
use Rattle.xb_text.specs.Pieces.{pieces, pieces_left}
use Rattle.xb_route.specs.NumberTexts.{Numbers, lines_read, numbers_of}
use Rattle.xb_route.specs.TextSteps.{after, digits_of_numbers}
use Rattle.xb_route.proofs.NumberLines.{after-none, numbers-none}
use Rattle.xb_route.proofs.number_texts.numbers_of_text.Goals as goal

-- the numbers of the text lines of a text
abbrev numbers_in : List ℕ → Numbers
numbers_in text = numbers_of (lines_read (enumerate_from 1 (map strip_carriage_return (pieces line_feed text))))

pub loop-left-init : goal.loop-left-init
loop-left-init c =
    let plain = c.without_mark-plain.result.now in
    let all = numbers_in plain in
    let few = few-lines plain in
    let short = c.without_mark-plain.ensures.short in
    record {
      numbers = ap numbers_in (sym c.without_mark-plain.ensures.text)
          ∙ sym (ap (λ numbers. after (digits_of_numbers numbers) all) c.new-numbers.ensures.items ∙ after-none all);
      few = omega (arith, few, short);
    }

pub returns-clause-numbers : goal.returns-clause-numbers
returns-clause-numbers c =
    let n = c.loop-left.place + 1 in
    let numbers = digits_of_numbers c.loop-left.numbers.items in
    c.loop-left.invariant.numbers
    ∙ ap (λ left. after numbers
    (numbers_of (lines_read (enumerate_from n (map strip_carriage_return (pieces_left line_feed (option_copied left)))))))
    c.in_default.is
    ∙ numbers-none numbers
