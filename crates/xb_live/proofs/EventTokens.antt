-- The tokens of a digit's object, in the order in which they are written.
use Rattle.std.proofs.Common.{◌≡◌, ℕ, List, ◌∷◌, ◌++◌, codes, Option, Some, None, refl}
use Rattle.json.specs.Token.{begin_object}
use Rattle.xb_json.specs.Keys.{digits_text}
use Rattle.xb_live.specs.EventObjects.{digit_object}
use Rattle.xb_live.specs.EventTokens.{dialled_tokens, name_tokens, time_tokens, tokens_at}

pub digit_tokens : (time : Option (List ℕ)) (line at : ℕ) (dialled : List ℕ) (digit : Option ℕ)
    → tokens_at time (digit_object line at dialled digit)
    ≡ begin_object ∷ (time_tokens time at ++ (dialled_tokens (digits_text dialled) digit ++ name_tokens (codes "DIGIT") line))
digit_tokens None line at dialled digit = refl
digit_tokens (Some text) line at dialled digit = refl
