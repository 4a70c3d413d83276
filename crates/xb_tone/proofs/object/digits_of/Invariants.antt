use Rattle.std.proofs.Common.{◌≡◌, ◌++◌, drop, length, option_map}
use Rattle.xb_tone.specs.Objects.{digits_of_text}
use Rattle.xb_tone.proofs.object.digits_of.Given as goal

abbrev pub invariant-loop-character : goal.invariant-loop-character
invariant-loop-character l = record {
  count : length l.digits ≡ l.character-index;
  digits : digits_of_text l.text ≡ option_map (λ rest. l.digits ++ rest) (digits_of_text (drop l.character-index l.text));
}
