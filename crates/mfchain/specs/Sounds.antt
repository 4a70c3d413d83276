-- The samples of a mark, for C.
use Rattle.std.specs.Prelude.{◌≡◌, ◌⊎◌, ℕ, ◌<◌, ◌≤◌, ◌^◌, ℤ, List, length, take}
use Rattle.xb_structs.specs.declared.mark.PlainMark.{PlainMark}
use Rattle.xb_structs.specs.EntryLines.{IsKind, mark_in}
use Rattle.xb_sound.specs.declared.cadence.Cadence.{Cadence}
use Rattle.xb_sound.specs.Cadences.{IsLawful}
use Rattle.xb_sound.specs.Sounds.{mark_sound}
use Rattle.mfchain.specs.declared.status.TheConstants.{NO_ROOM, WRONG_CADENCE, WRONG_MARKS}

-- of a kind that a mark has, and with tones of 16 bits
pub record IsMark (mark : PlainMark) : Type 0 where
  pub kind : IsKind mark
  pub low : mark.low < 2 ^ 16
  pub high : mark.high < 2 ^ 16

-- the samples of a mark by a lawful cadence, so many, are at the front of the room
pub record Plays (mark : PlainMark) (cadence : Cadence) (room : List ℤ) (count : ℕ) : Type 0 where
  pub is : IsMark mark
  pub lawful : IsLawful cadence
  pub sound : take count room ≡ mark_sound cadence (mark_in mark)
  pub few : count ≤ length room

-- the first that is so: it is no mark, a time of the cadence is out of its range, or there is too little room
abbrev pub IsNotPlayed : PlainMark → Cadence → List ℤ → ℕ → Type 0
IsNotPlayed mark cadence room status =
    (status ≡ WRONG_MARKS) × (IsMark mark → ⊥)
    ⊎ ((status ≡ WRONG_CADENCE) × IsMark mark × (IsLawful cadence → ⊥)
    ⊎ (status ≡ NO_ROOM) × IsMark mark × IsLawful cadence
    × (length room < length (mark_sound cadence (mark_in mark))))

-- the status says why nothing is played, and the room is as it was
pub record DoesNotPlay (mark : PlainMark) (cadence : Cadence) (room given : List ℤ) (count status : ℕ) : Type 0 where
  pub why : IsNotPlayed mark cadence room status
  pub none : count ≡ 0
  pub same : given ≡ room
