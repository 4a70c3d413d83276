-- How a route table is walked over, turn by turn.
use Rattle.std.proofs.Common.{◌≡◌, ◌∙◌, ℕ, zero, suc, true, false, List, length, refl, sym, ap}
use Rattle.std.specs.Prelude.{◌==◌}
use Rattle.std.proofs.lemmas.Bool.{cond-true, cond-false}
use Rattle.toml_parser.specs.Lexical.{skip_blank}
use Rattle.xb_keys.specs.declared.sections.Section.{Section}
use Rattle.xb_keys.specs.declared.walk.Want.TheVariants as want
use Rattle.xb_keys.specs.Spots.{Walk, after_turn, before_value, key_turn, turn, turn_by, value_turn, walked}

-- no turn is left
pub walked_out : (total : ℕ) (walk : Walk) (text : List ℕ) → walked 0 total walk text ≡ walk.spots
unfolding walked
walked_out total walk text = refl

-- nothing is left of the text
pub walked_over : (n total : ℕ) (walk : Walk) (text : List ℕ) → (length text == 0) ≡ true → walked n total walk text ≡ walk.spots
unfolding walked
walked_over zero total walk text over = refl
walked_over (suc n) total walk text over = cond-true _ _ _ over

-- a turn
pub walked_turn : (n m total : ℕ) (walk : Walk) (text : List ℕ) (next : Walk) (rest : List ℕ) → n ≡ suc m
    → (length text == 0) ≡ false → (next, rest) ≡ turn total walk text → walked n total walk text ≡ walked m total next rest
unfolding walked
walked_turn n m total walk text next rest more some is =
    ap (λ k. walked k total walk text) more ∙ cond-false _ _ _ some ∙ ap (λ p. walked m total p.0 p.1) (sym is)

module _ (total : ℕ) (walk : Walk) (text : List ℕ) where
  -- a turn by what is wanted
  pub turn_of_key : (rest : List ℕ) → walk.want ≡ want.Key → rest ≡ skip_blank text
      → key_turn total walk rest ≡ turn total walk text
  unfolding turn
  turn_of_key rest wants is =
      ap (λ r. key_turn total walk r) is ∙ sym (ap (λ w. turn_by w total walk text) wants)

  pub turn_of_value : (here : Section) (rest : List ℕ) → walk.want ≡ want.Value here
      → rest ≡ before_value walk.nests text → value_turn total here walk rest ≡ turn total walk text
  unfolding turn
  turn_of_value here rest wants is =
      ap (λ r. value_turn total here walk r) is ∙ sym (ap (λ w. turn_by w total walk text) wants)

  pub turn_of_after : walk.want ≡ want.After → after_turn total walk text ≡ turn total walk text
  unfolding turn
  turn_of_after wants = sym (ap (λ w. turn_by w total walk text) wants)
