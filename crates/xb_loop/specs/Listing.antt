-- The wires of a recording, with how many edges each has.
use Rattle.std.specs.Prelude.{ℕ, ◌≡◌, ◌⊎◌, ◌-◌, ◌^◌, ◌≤◌, min, List, [], ◌++◌, Bool, true, false, Option, Some, None, IfNone, IfSome, length, map, option_map, slice_get}
use Rattle.std.specs.Io.KnownBytes.{Consumes}
use Rattle.xb_contact.specs.declared.event.Event.{Event}
use Rattle.xb_recording.specs.declared.format.Format.{Format}
use Rattle.xb_recording.specs.declared.wanted.Wanted.{Wanted}
use Rattle.xb_recording.specs.Beginnings.{form_told, tells_nothing_yet, why_untold}
use Rattle.xb_recording.specs.Says.{RestSays, Says, Takes, names_in}
use Rattle.xb_samples.specs.Thresholds.{Percent}
use Rattle.xb_loop.specs.declared.counts.Seen.{Seen}
use Rattle.xb_loop.specs.declared.listing.Counter.{Counter}
use Rattle.xb_loop.specs.declared.listing.ListFault.{ListFault}
use Rattle.xb_loop.specs.declared.listing.ListFault.TheVariants as faults
use Rattle.xb_loop.specs.declared.listing.Listing.{Listing}
use Rattle.xb_loop.specs.declared.listing.TheConstants.{MOST_BEGINNING_BYTES}
use Rattle.xb_loop.specs.Counts.{IsCountedAfter, edges_in, said_of}
use Rattle.xb_loop.specs.Names.{named_by, named_in}
use Rattle.xb_loop.specs.Wires.{names_told}

-- bytes were taken, and what they say was counted
pub record CountsOn (old : Counter) (bytes : List ℕ) (new : Counter) : Type 0 where
  pub said : List Event
  pub takes : Takes old.reader new.reader bytes said
  pub seen : IsCountedAfter old.counts.seen.items said new.counts.seen.items

-- those that an input gave
pub record CountsMore (old new : Counter) (input left : Option (List ℕ)) : Type 0 where
  pub bytes : List ℕ
  pub read : Consumes input left bytes
  pub counts : CountsOn old bytes new

-- all that follows up to the end of the recording
pub record CountsRest (old : Counter) (text : List ℕ) (seen : List Seen) : Type 0 where
  pub events : List Event
  pub says : RestSays old.reader text events
  pub counted : IsCountedAfter old.counts.seen.items events seen

abbrev pub edges_of : List Seen → List ℕ
edges_of seen = map (λ own. own.edges) seen

-- the wires that are wanted of a recording have these edges: of each those of what is said of it, up to 2^64 - 1
pub record HasEdges (format : Format) (wanted : Wanted) (text edges : List ℕ) : Type 0 where
  pub events : List Event
  pub said : Says format wanted text events
  pub are : (wire : ℕ) → slice_get edges wire
      ≡ option_map (λ name. min (edges_in (said_of wire events)) (2 ^ 64 - 1))
      (slice_get (names_in wanted) wire)

-- so have the wires of these names, by so many samples a second and this threshold, where edges may be lost
pub record IsCount
    (format : Format) (names : List (List ℕ)) (rate : Option ℕ) (threshold : Percent) (text edges : List ℕ)
    : Type 0 where
  pub wanted : Wanted
  pub wires : names_in wanted ≡ names
  pub rate_is : wanted.rate ≡ rate
  pub threshold_is : wanted.threshold ≡ threshold
  pub lossy : wanted.lossy ≡ true
  pub edges_are : HasEdges format wanted text edges

-- the form is the one that is asked for, or else that which the recording tells
pub record IsFormOf (asked : Option Format) (text : List ℕ) (format : Format) : Type 0 where
  pub named : IfSome asked (λ it. format ≡ it)
  pub told : IfNone asked (form_told text ≡ Some format)

-- a recording tells no form: as a whole, or so many first bytes of it tell nothing yet
pub record TellsNothingLong (text : List ℕ) : Type 0 where
  pub beginning : List ℕ
  pub later : List ℕ
  pub are : text ≡ beginning ++ later
  pub long : MOST_BEGINNING_BYTES ≤ length beginning
  pub nothing : tells_nothing_yet beginning ≡ true

abbrev pub TellsNoForm : List ℕ → Type 0
TellsNoForm text = (form_told text ≡ None) ⊎ TellsNothingLong text

-- a beginning of it tells none, whatever follows, or it tells nothing yet
abbrev pub BeginsUntold : List ℕ → Bool → ListFault → Type 0
BeginsUntold beginning is_end (faults.Untold reason) =
    (reason ≡ why_untold beginning)
    × (((later : List ℕ) → (is_end ≡ true → later ≡ []) → form_told (beginning ++ later) ≡ None)
    ⊎ ((is_end ≡ false) × (tells_nothing_yet beginning ≡ true)))
BeginsUntold beginning is_end fault = ⊥

-- a read failed, or memory ran out
abbrev pub IsFromOutside : ListFault → Type 0
IsFromOutside (faults.Untold reason) = ⊥
IsFromOutside (faults.Read unread) = Unit {0}
IsFromOutside faults.NoMemory = Unit {0}

-- why the wires of a recording are not listed: no form is asked for, the recording tells none, and why; or a read
-- failed, or memory ran out
abbrev pub IsUnlisted : Option Format → List ℕ → ListFault → Type 0
IsUnlisted asked text (faults.Untold reason) = (asked ≡ None) × (reason ≡ why_untold text) × TellsNoForm text
IsUnlisted asked text (faults.Read unread) = Unit {0}
IsUnlisted asked text faults.NoMemory = Unit {0}

-- the wires of a recording: the names that its beginning tells, of 131,072 bytes or all of it, and their edges, if these
-- are counted
pub record ListsWires
    (asked : Option Format) (rate : Option ℕ) (threshold : Percent) (text : List ℕ) (listing : Listing) : Type 0 where
  pub format : Format
  pub form : IsFormOf asked text format
  pub beginning : List ℕ
  pub later : List ℕ
  pub are : text ≡ beginning ++ later
  pub is_end : Bool
  pub all : is_end ≡ true → later ≡ []
  pub long : is_end ≡ false → MOST_BEGINNING_BYTES ≤ length beginning
  pub names : named_in listing.wires ≡ named_by (names_told format is_end beginning)
  pub counted : IfSome listing.edges (λ edges.
      IsCount format (named_by (names_told format is_end beginning)).names rate threshold text edges.items)
