use Rattle.std.proofs.Common.{◌≡◌, ◌+◌, drop, map}
use Rattle.std.specs.List.{enumerate_from}
use Rattle.xb_route.specs.NumberTexts.{numbers_of, numbers_of_words}
use Rattle.xb_route.specs.TextSteps.{after, digits_of_numbers}
use Rattle.xb_route.proofs.number_texts.numbers_of_words.Given as goal

abbrev pub invariant-loop-word : goal.invariant-loop-word
invariant-loop-word l = record {
  numbers :
      numbers_of_words (map (λ word. word.now) l.words)
      ≡ after (digits_of_numbers l.numbers.items)
      (numbers_of (enumerate_from (l.place + 1) (map (λ word. word.now) (drop l.word-index l.words))));
  place : l.place ≡ l.word-index;
}
