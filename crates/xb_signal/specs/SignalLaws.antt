-- What is heard of keys by their names, and what ties the waves to the tones of marks.
use Rattle.std.specs.Prelude.{◌≡◌, ℕ, ◌+◌, ◌*◌, ◌^◌, ◌<◌, ◌+ℤ◌, List, [], ◌∷◌, Bool, true, false, ◌&&◌, codes, map, nat_le, reverse, Ok, ℤ}
use Rattle.std.specs.List.{AllByRecursion, flat_map}
use Rattle.xb_model.specs.declared.key.Key.{Key as PageKey}
use Rattle.xb_model.specs.declared.key.Tone.{Tone as Pair}
use Rattle.xb_model.specs.declared.mark.Mark.TheVariants.{Trunk}
use Rattle.xb_model.specs.Keyings.{tone}
use Rattle.xb_model.specs.MfPairs.{pair}
use Rattle.xb_sound.specs.declared.cadence.Cadence.{Cadence}
use Rattle.xb_sound.specs.Cadences.{IsSetApart}
use Rattle.xb_sound.specs.HeardKeys.{IsKey, frequencies_of, keys_heard}
use Rattle.xb_sound.specs.Receiver.{heard}
use Rattle.xb_sound.specs.Sines.{sine_sample}
use Rattle.xb_sound.specs.Sounds.{sound_of}
use Rattle.xb_sound.specs.WorkedSounds.{short}
use Rattle.xb_signal.specs.declared.key_name.Name.{Name}
use Rattle.xb_signal.specs.declared.key_name.Name.TheVariants.{Key, Kp2, StPrime, StTwoPrimes, StThreePrimes}
use Rattle.xb_signal.specs.Names.{pair_of}
use Rattle.xb_signal.specs.declared.segment.Segment.{Segment}
use Rattle.xb_signal.specs.declared.setting.Setting.{Setting}
use Rattle.xb_signal.specs.declared.segment.Sound.TheVariants.{Keyed, Written}
use Rattle.xb_signal.specs.Segments.{pair_segment, signal_of, silent, sound_fits}
use Rattle.xb_signal.specs.Settings.{standard_setting}
use Rattle.xb_signal.specs.declared.steady.Steady.{Steady}
use Rattle.xb_signal.specs.Moments.{moment_after, start}
use Rattle.xb_signal.specs.declared.moment.Moment.{Moment}
use Rattle.xb_chance.specs.Swings.{swing}
use Rattle.xb_signal.specs.OneSample.{clean_sample, quiet_sample, sample_at}
use Rattle.xb_signal.specs.Steadies.{steady_sample}
use Rattle.xb_signal.specs.declared.shape.Shape.{Shape}
use Rattle.xb_signal.specs.Texts.{segments_of_text}
use Rattle.xb_signal.specs.Waves.{quarter, wave_sample}
use Rattle.xb_signal.specs.Words.{key_segments}

-- of a multiple of 100 Hz each sample is that of the tones of marks
abbrev pub WavesAreSines : Type 0
WavesAreSines = (h n : ℕ) → wave_sample (h * 100) n ≡ sine_sample (h * 100) n

abbrev is_near : ℕ → ℕ → Bool
is_near x y = nat_le (x ^ 2 + y ^ 2) (10 ^ 8 + 15000) && nat_le (10 ^ 8) (x ^ 2 + y ^ 2 + 15000)

-- whether sample by sample two lists lie on a circle of radius 10,000, to three quarters of a unit
unfoldable pub lie_on_circle : List ℕ → List ℕ → Bool
lie_on_circle [] ys = true
lie_on_circle (x ∷ xs) [] = true
lie_on_circle (x ∷ xs) (y ∷ ys) = is_near x y && lie_on_circle xs ys

-- the quarter forwards is a sine, and backwards its cosine
abbrev pub QuarterIsRound : Type 0
QuarterIsRound = lie_on_circle quarter (reverse quarter) ≡ true

abbrev pub IsName : Name → Type 0
IsName (Key key) = IsKey key
IsName Kp2 = Unit {0}
IsName StPrime = Unit {0}
IsName StTwoPrimes = Unit {0}
IsName StThreePrimes = Unit {0}

-- keys by their names, after the silence before them
abbrev pub named : Cadence → List Name → List ℤ
named cadence names = signal_of standard_setting (silent cadence.lead_ms ∷ flat_map (key_segments cadence) names)

abbrev pub names_of : List PageKey → List Name
names_of keys = map (λ key. Key key) keys

-- keys that a page has sound as its marks do
abbrev pub KeysSoundAsMarks : Type 0
KeysSoundAsMarks = (cadence : Cadence) (trunk : ℕ) (keys : List PageKey) → AllByRecursion IsKey keys
    → named cadence (names_of keys) ≡ sound_of cadence (Trunk trunk ∷ map tone keys)

-- so these keys are heard
abbrev pub KeysAreHeard : Type 0
KeysAreHeard = (cadence : Cadence) (keys : List PageKey) → IsSetApart cadence → AllByRecursion IsKey keys
    → keys_heard (named cadence (names_of keys)) ≡ keys

-- and of any keys the two frequencies of each
abbrev pub NamesAreHeard : Type 0
NamesAreHeard = (cadence : Cadence) (names : List Name) → IsSetApart cadence → AllByRecursion IsName names
    → heard (named cadence names) ≡ map (λ name. frequencies_of (pair_of name)) names

-- nothing disturbs the tones of a key: no hole does that has 0 ms, wherever it is
pub record IsPlain (shape : Shape) : Type 0 where
  pub pitch : shape.pitch ≡ 1000
  pub low : shape.low_late_ms ≡ 0
  pub high : shape.high_late_ms ≡ 0
  pub hole : shape.hole_ms ≡ 0
  pub start : shape.is_drawn ≡ false

-- then a key sounds as its two frequencies that are written
abbrev pub PlainKeysAreWritten : Type 0
PlainKeysAreWritten = (setting : Setting) (state : ℕ) (tones : Pair) (n : ℕ) → IsPlain setting.shape
    → clean_sample setting state (Keyed tones) n ≡ clean_sample setting state (Written (tones.low ∷ tones.high ∷ [])) n

-- what sounds all through goes on from one segment to the next: a later sample of it is that of its number
abbrev pub SteadyGoesOn : Type 0
SteadyGoesOn = (steady : Steady) (seed m n : ℕ)
    → steady_sample steady ((moment_after (start seed) m).place + n) ≡ steady_sample steady (m + n)

-- of a segment that fits no sample is cut, whatever is added and whenever it sounds
abbrev pub NothingIsCut : Type 0
NothingIsCut = (setting : Setting) (moment : Moment) (segment : Segment) (n : ℕ)
    → sound_fits setting segment.sound segment.ms ≡ true → n < segment.ms * 8
    → sample_at setting moment segment.sound n
    ≡ quiet_sample setting moment segment.sound n +ℤ swing setting.noise_peak moment.noise n

-- a text with tones and silences of 1 ms
abbrev pub WorkedText : Type 0
WorkedText = segments_of_text short standard_setting (codes "KP 40 ST'' 2600+2400:3 silence:2") ≡ Ok (
    silent 1
    ∷ pair_segment (pair 1100 1700) 1 ∷ silent 1
    ∷ pair_segment (pair 700 1300) 1 ∷ silent 1
    ∷ pair_segment (pair 1300 1500) 1 ∷ silent 1
    ∷ pair_segment (pair 1300 1700) 1 ∷ silent 1
    ∷ record { sound = Written (2600 ∷ 2400 ∷ []); ms = 3 }
    ∷ silent 2 ∷ [])
