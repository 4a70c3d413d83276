use Rattle.std.proofs.Common.{◌≡◌, ℕ, List, Option, Some, None, Ok, Err, Result, ap, ◌∙◌}
use Rattle.std.specs.Str.Parse.{ExplainsUnsignedError, HasUnsignedDigitsIfOk, ParsesUnsigned}
use Rattle.clap.specs.Matches.{ReadsOne, found_of, one_text}
use Rattle.clap.specs.Walk.{one_of}
use Rattle.clap.proofs.WalkLemmas.{one_text-rows}
use Rattle.xb_command.specs.Given.{ReadsNumber, given_by}
use Rattle.xb_command.proofs.reading.Words.number.Goals as goal

-- what a text is read as
reads : {E : Type 0} (G : List ℕ → Result ℕ E → Type 0)
    → ((t : List ℕ) (r : Result ℕ E) → G t r → ParsesUnsigned 32 10 t r)
    → (text : List ℕ) (number : Option ℕ) → ReadsOne G text number → ReadsNumber (Some text) number
reads G parses text (Some n) h = parses text (Ok n) h
reads G parses text None h = parses text (Err h.0) h.1

pub returns : goal.returns
returns c = at (given_by c.args.self.now c.args.name.now) (one_text-rows (found_of c.self.inside.matches) c.args.name.now
    ∙ ap (one_of c.args.name.now) c.self.view_is)
  where
    at : (o : Option (List ℕ)) → one_text (found_of c.self.inside.matches) c.args.name.now ≡ o
        → ReadsNumber o c.get_one.result
    at None e = c.get_one.ensures.none e
    at (Some text) e =
        reads (λ bs r. ParsesUnsigned 32 10 bs r × ExplainsUnsignedError 10 bs r
        × HasUnsignedDigitsIfOk bs r) (λ t r g. g.0) text c.get_one.result
        (c.get_one.ensures.value text e)
