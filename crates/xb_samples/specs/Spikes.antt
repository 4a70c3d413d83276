-- What the first spike of a wire tells.
use Rattle.std.specs.Prelude.{◌≡◌, ℤ, List, [], ◌∷◌, ◌++◌, Some, None, true}
use Rattle.std.specs.List.{AllByRecursion}
use Rattle.xb_contact.specs.declared.level.Level.{Level}
use Rattle.xb_samples.specs.declared.sound.Heard.{Heard}
use Rattle.xb_samples.specs.declared.sound.Heard.TheVariants as heard
use Rattle.xb_samples.specs.Sounds.{heard_by, is_at_rest, level_in, side_of}

-- what was heard of a wire after samples of its channel
abbrev pub heard_after : ℤ → Heard → List ℤ → Heard
heard_after high own [] = own
heard_after high own (sample ∷ rest) = heard_after high (heard_by high own sample) rest

-- a sample is on the side of a level
abbrev pub IsOnSide : ℤ → Level → ℤ → Type 0
IsOnSide high level sample = side_of high sample ≡ Some level

pub record SpikesTellLevels : Type 0 where
  pub after_rest :
      (high : ℤ) (early : List ℤ) (quiet sample : ℤ) (level : Level) → side_of high quiet ≡ None
      → is_at_rest high quiet ≡ true → IsOnSide high level sample
      → level_in (heard_after high heard.Nothing (early ++ quiet ∷ sample ∷ [])) ≡ Some level
  pub on_one_side :
      (high : ℤ) (level : Level) (samples : List ℤ) → AllByRecursion (IsOnSide high level) samples
      → level_in (heard_after high heard.Nothing samples) ≡ None
