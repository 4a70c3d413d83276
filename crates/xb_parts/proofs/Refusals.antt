-- What is refused, and what a fault leaves.
use Rattle.std.proofs.Common.{ℕ, List, Option, Some, None, subst, refl, inl}
use Rattle.std.specs.Prelude.{Bool}
use Rattle.std.specs.Io.KnownBytes.{Keeps}
use Rattle.xb_parts.specs.PartDecks.{Decks}
use Rattle.xb_parts.specs.SplitFaults.{IsFaultOfFolder, IsFaultOfNumber, IsSplitFault, LeavesList}
use Rattle.xb_parts.specs.Splits.{Begins, Ends, LeavesNone, Unfinished}
use Rattle.xb_parts.specs.declared.split_fault.SplitFault.{SplitFault}
use Rattle.xb_parts.specs.declared.split_fault.SplitFault.TheVariants as fault

-- a number of parts that is refused
pub number_refused : (deck : Option (List ℕ)) (has_any : Option Bool) (parts : Option ℕ) (f : SplitFault)
    → IsFaultOfNumber parts f → IsSplitFault deck has_any parts f
number_refused deck has_any parts fault.NoParts is = is
number_refused deck has_any parts (fault.TooMany count) is = (is.0, inl is.1)
number_refused deck has_any parts f is = absurd is

-- a folder that is refused
pub folder_refused : (deck : Option (List ℕ)) (has_any : Option Bool) (parts : Option ℕ) (f : SplitFault)
    → IsFaultOfFolder has_any f → IsSplitFault deck has_any parts f
folder_refused deck has_any parts fault.NotEmpty is = is
folder_refused deck has_any parts (fault.Folder error) is = tt
folder_refused deck has_any parts f is = absurd is

-- a list that stays as it was
pub list_left : (deck fresh : Option (List ℕ)) (parts : Option ℕ) (f : SplitFault) (decks : Decks)
    (old new : Option (List ℕ)) → Keeps old new → LeavesList deck fresh parts f decks old new
list_left deck fresh parts (fault.Folder error) decks old new kept = inl kept
list_left deck fresh parts f decks old new kept = kept

-- decks that were begun, and then got their names, or were given up
pub begun_ended : (folder : List ℕ) (old mid new : Unfinished) → Begins folder old mid → Ends folder mid new
    → LeavesNone old new
begun_ended folder None mid new begun ended = tt
begun_ended folder (Some folders) mid new begun ended = subst (λ o. Ends folder o new) begun ended refl

pub LeavesNone-refl : (o : Unfinished) → LeavesNone o o
LeavesNone-refl None = tt
LeavesNone-refl (Some folders) = refl
