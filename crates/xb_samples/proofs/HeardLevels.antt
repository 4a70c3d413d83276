-- What is heard of disturbed samples.
use Rattle.std.proofs.Common.{◌≡◌, ℤ, ◌+ℤ◌, ◌-ℤ◌, ◌≤ℤ◌, [], ◌∷◌, refl, ap, ◌∙◌, arith}
use Rattle.std.proofs.lemmas.Int.{ints}
use Rattle.xb_contact.specs.declared.level.Level.{Level}
use Rattle.xb_contact.specs.declared.level.Level.TheVariants.{Open, Closed}
use Rattle.xb_samples.specs.Hysteresis.{IsHeard, IsNear, HearsEachLevel, value_of}

-- the level of one sample
one_level :
    (low high most u v : ℤ) (was heard level : Level) (sample : ℤ) → (u +ℤ most) ≤ℤ low → high ≤ℤ (v -ℤ most)
    → IsHeard low high was sample heard → IsNear most (value_of u v level) sample → heard ≡ level
one_level low high most u v was heard Closed sample a b is near = is.rises (omega (arith, ints, b, near.above))
one_level low high most u v was heard Open sample a b is near = is.falls (omega (arith, ints, a, near.below))

pub hears_each_level : HearsEachLevel
hears_each_level low high most u v was [] [] [] a b is near = refl
hears_each_level low high most u v was (s ∷ ss) (h ∷ hs) (l ∷ ls) a b is near =
    ap (λ x. x ∷ hs) (one_level low high most u v was h l s a b is.0 near.0)
    ∙ ap (λ xs. l ∷ xs) (hears_each_level low high most u v h ss hs ls a b is.1 near.1)
hears_each_level low high most u v was [] [] (l ∷ ls) a b is near = elim near [ ]
hears_each_level low high most u v was [] (h ∷ hs) levels a b is near = elim is [ ]
hears_each_level low high most u v was (s ∷ ss) [] levels a b is near = elim is [ ]
hears_each_level low high most u v was (s ∷ ss) (h ∷ hs) [] a b is near = elim near [ ]
