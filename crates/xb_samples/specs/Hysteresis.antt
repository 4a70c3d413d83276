-- Levels of samples by two thresholds.
use Rattle.std.specs.Prelude.{◌≡◌, ℤ, ◌+ℤ◌, ◌-ℤ◌, ◌≤ℤ◌, ◌<ℤ◌, List, [], ◌∷◌}
use Rattle.xb_contact.specs.declared.level.Level.{Level}
use Rattle.xb_contact.specs.declared.level.Level.TheVariants.{Open, Closed}

-- the level of a sample after another one: closed from `high` on, open up to `low`, between them as before
pub record IsHeard (low high : ℤ) (was : Level) (sample : ℤ) (level : Level) : Type 0 where
  pub rises : high ≤ℤ sample → level ≡ Closed
  pub falls : sample ≤ℤ low → level ≡ Open
  pub stays : low <ℤ sample → sample <ℤ high → level ≡ was

-- the levels of samples, one after the other
abbrev pub AreHeard : ℤ → ℤ → Level → List ℤ → List Level → Type 0
AreHeard low high was [] [] = Unit {0}
AreHeard low high was (sample ∷ samples) (level ∷ levels) =
    IsHeard low high was sample level × AreHeard low high level samples levels
AreHeard low high was [] (level ∷ levels) = ⊥
AreHeard low high was (sample ∷ samples) [] = ⊥

-- the sample of a level, disturbed by `most` at most
abbrev pub value_of : ℤ → ℤ → Level → ℤ
value_of open_value closed_value Closed = closed_value
value_of open_value closed_value Open = open_value

pub record IsNear (most value sample : ℤ) : Type 0 where
  pub above : (value -ℤ most) ≤ℤ sample
  pub below : sample ≤ℤ (value +ℤ most)

abbrev pub AreSamples : ℤ → ℤ → ℤ → List ℤ → List Level → Type 0
AreSamples most open_value closed_value [] [] = Unit {0}
AreSamples most open_value closed_value (sample ∷ samples) (level ∷ levels) =
    IsNear most (value_of open_value closed_value level) sample
    × AreSamples most open_value closed_value samples levels
AreSamples most open_value closed_value [] (level ∷ levels) = ⊥
AreSamples most open_value closed_value (sample ∷ samples) [] = ⊥

-- where the thresholds stand between the two values, each farther from its own than any sample is, what is
-- heard of the samples are the levels
abbrev pub HearsEachLevel : Type 0
HearsEachLevel =
    (low high most open_value closed_value : ℤ) (was : Level) (samples : List ℤ) (heard levels : List Level)
    → (open_value +ℤ most) ≤ℤ low → high ≤ℤ (closed_value -ℤ most)
    → AreHeard low high was samples heard → AreSamples most open_value closed_value samples levels
    → heard ≡ levels
