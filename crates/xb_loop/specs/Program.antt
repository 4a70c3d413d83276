-- What the program did, by its status.
use Rattle.std.specs.Prelude.{ℕ, ◌≡◌, ◌⊎◌, ◌==◌, List, codes, length, Bool, Option, None, Some, Result, Err, Ok, IfSome, false, option_map, true}
use Rattle.std.specs.Io.KnownBytes.{Appends, Keeps}
use Rattle.clap.specs.Walk.{Text}
use Rattle.xb_command.specs.Files.{Bytes}
use Rattle.xb_command.specs.Programs.{Streams}
use Rattle.xb_command.specs.Telling.{Tells}
use Rattle.xb_command.specs.Works.{Rules, file_source}
use Rattle.xb_command.specs.declared.telling.TheConstants.{DONE, FAULT}
use Rattle.xb_text.specs.Writing.{AppendsBeginning}
use Rattle.xb_loop.specs.declared.fault.LoopFault.{LoopFault}
use Rattle.xb_loop.specs.declared.words.Asked.{Asked}
use Rattle.xb_loop.specs.declared.fault.LoopFault.TheVariants as faults
use Rattle.xb_feed.specs.declared.fault.RecordingFault.{RecordingFault}
use Rattle.xb_feed.specs.declared.request.Request.{Request}
use Rattle.xb_loop.specs.declared.common.Common.{Common}
use Rattle.xb_feed.specs.LackedWires.{missing_name}
use Rattle.xb_recording.specs.Says.{names_in}
use Rattle.xb_feed.specs.Feeding.{FailsToListen, ListensTo}
use Rattle.xb_loop.specs.Options.{AskNothing, Asks}
use Rattle.xb_loop.specs.Watching.{by_rows}
use Rattle.xb_loop.specs.Listing.{IsUnlisted, ListsWires}
use Rattle.xb_loop.specs.declared.listing.ListFault.{ListFault}
use Rattle.xb_loop.specs.declared.listing.Listing.{Listing}
use Rattle.xb_loop.specs.Tables.{IsBeforeRows, IsFaultOfTable, IsReleaseOf}
use Rattle.xb_loop.specs.WireLines.{listing_text, more_note}
use Rattle.xb_loop.specs.FaultTexts.{loop_text}

-- the line before the rows
abbrev pub header : List ℕ
header = codes "line,state,ms\n"

-- what is asked for, where so long a break releases a line
abbrev pub with_release : Request Common → ℕ → Request Common
with_release request release = record request { common = record request.common { release_ms = release } }

-- what comes before the rows, and the release limit, by the table that is asked for, if one is
pub record HasBegun (files : Bytes) (request : Request Common) (before : List ℕ) (release : ℕ) : Type 0 where
  pub text : IsBeforeRows files (option_map (λ name. name.now) request.table) before
  pub release_is : IsReleaseOf files (option_map (λ name. name.now) request.table) release

-- an output got the table that is asked for, if one is, and then exactly the rows of the recording
abbrev pub PrintsDeck : Bytes → Request Common → List ℕ → Option (List ℕ) → Option (List ℕ) → Option (List ℕ) → Type 0
PrintsDeck files request told input output after =
    (before : List ℕ) × (release : ℕ) × HasBegun files request before release
    × ListensTo by_rows header (with_release request release) before told input output after

-- the fault of a recording, and what an output got before it
abbrev pub FailsToGo :
    Bytes → Request Common → RecordingFault → Option (List ℕ) → Option (List ℕ) → Option (List ℕ) → Type 0
FailsToGo files request fault input output after =
    (before : List ℕ) × (release : ℕ) × HasBegun files request before release
    × FailsToListen by_rows header (with_release request release) before fault input output after

-- a fault that tells the wires of a recording, or that they cannot be listed
abbrev pub IsListed : LoopFault → Type 0
IsListed (faults.NoLine listing) = Unit {0}
IsListed (faults.Unlisted fault) = Unit {0}
IsListed fault = ⊥

-- where no line is asked for, the wires of the recording are told, or why they cannot be listed
abbrev pub TellsWires : Request Common → List ℕ → LoopFault → Type 0
TellsWires request text (faults.NoLine listing) =
    ListsWires request.format request.wanted.rate request.wanted.threshold text listing
TellsWires request text (faults.Unlisted fault) = IsUnlisted request.format text fault
TellsWires request text fault = ⊥

-- nothing was written then
abbrev pub ListsInstead : Request Common → LoopFault → Option (List ℕ) → Option (List ℕ) → Option (List ℕ) → Type 0
ListsInstead request fault input output after =
    ((length request.lines.items == 0) ≡ true) × Keeps output after × IfSome input (λ text. TellsWires request text fault)

-- the fault of a recording as it is told: where it lacks a wire, with the first of the names that are asked for of which
-- it has none
abbrev pub IsFaultOfRecording : List (List ℕ) → RecordingFault → LoopFault → Type 0
IsFaultOfRecording names fault (faults.Recording own) = (own ≡ fault) × (missing_name fault names ≡ None)
IsFaultOfRecording names fault (faults.NoWire own name) = (own ≡ fault) × (missing_name fault names ≡ Some name.now)
IsFaultOfRecording names fault told = ⊥

-- what a fault says of the table and the recording, and what an output got before it; where the recording lacks a wire,
-- the first such name that is asked for is told
abbrev pub FailsToPrint : Bytes → Request Common → LoopFault → Option (List ℕ) → Option (List ℕ) → Option (List ℕ) → Type 0
FailsToPrint files request (faults.Recording fault) input output after =
    (missing_name fault (names_in request.wanted) ≡ None) × FailsToGo files request fault input output after
FailsToPrint files request (faults.NoWire fault name) input output after =
    (missing_name fault (names_in request.wanted) ≡ Some name.now) × FailsToGo files request fault input output after
FailsToPrint files request (faults.NoLine listing) input output after =
    ListsInstead request (faults.NoLine listing) input output after
FailsToPrint files request (faults.Unlisted fault) input output after =
    ListsInstead request (faults.Unlisted fault) input output after
FailsToPrint files request fault input output after =
    Keeps output after × IsFaultOfTable files (option_map (λ name. name.now) request.table) fault

-- exactly what is asked for was written, and told
pub record WritesRows (files : Bytes) (request : Request Common) (old new : Streams) : Type 0 where
  pub some : (length request.lines.items == 0) ≡ false
  pub told : List ℕ
  pub rows : PrintsDeck files request told old.input old.output new.output
  pub errors : Appends old.errors new.errors told

-- there was a fault of which a line was told; or all was written, what is told of the bounces was not, and a line that
-- says so
abbrev pub HadFault : Text → Bytes → Request Common → Streams → Streams → Type 0
HadFault program files request old new =
    ((fault : LoopFault) × FailsToPrint files request fault old.input old.output new.output
    × Tells program (loop_text fault) old.errors new.errors)
    ⊎ ((told : List ℕ) × (begun : Option (List ℕ)) × PrintsDeck files request told old.input old.output new.output
    × AppendsBeginning old.errors begun told × Tells program (loop_text faults.Tell) begun new.errors)

-- what is told of bounces, and the status
abbrev pub TellsOfBounces : Text → List ℕ → Option (List ℕ) → Option (List ℕ) → ℕ → Type 0
TellsOfBounces program told old new status =
    ((status ≡ DONE) × Appends old new told)
    ⊎ ((status ≡ FAULT) × ((begun : Option (List ℕ)) × AppendsBeginning old begun told
    × Tells program (loop_text faults.Tell) begun new))

-- the wires of an input are listed so, where its bytes are known; or this is why they are not
abbrev pub IsListing : Request Common → Option (List ℕ) → Listing → Type 0
IsListing request input listing =
    IfSome input (λ text. ListsWires request.format request.wanted.rate request.wanted.threshold text listing)

abbrev pub IsNoListing : Request Common → Option (List ℕ) → ListFault → Type 0
IsNoListing request input fault = IfSome input (λ text. IsUnlisted request.format text fault)

-- what is returned of a listing, whether there are more wires, and what an output got: a line for each wire on Ok, their
-- beginning where a write failed, and nothing where memory ran out
abbrev pub WritesListing : Listing → Result Bool LoopFault → Option (List ℕ) → Option (List ℕ) → Type 0
WritesListing listing (Ok are_more) output after =
    (are_more ≡ listing.wires.are_more) × Appends output after (listing_text listing)
WritesListing listing (Err faults.Wires) output after = AppendsBeginning output after (listing_text listing)
WritesListing listing (Err faults.NoMemory) output after = Keeps output after
WritesListing listing (Err fault) output after = ⊥

-- the same of the wires of a recording; nothing was written where they cannot be listed
abbrev pub DeliversWires :
    Request Common → Option (List ℕ) → Result Bool LoopFault → Option (List ℕ) → Option (List ℕ) → Type 0
DeliversWires request input (Ok are_more) output after =
    (listing : Listing) × IsListing request input listing × WritesListing listing (Ok are_more) output after
DeliversWires request input (Err faults.Wires) output after =
    (listing : Listing) × IsListing request input listing × WritesListing listing (Err faults.Wires) output after
DeliversWires request input (Err faults.NoMemory) output after = Keeps output after
DeliversWires request input (Err (faults.Unlisted fault)) output after =
    IsNoListing request input fault × Keeps output after
DeliversWires request input (Err fault) output after = ⊥

-- it could not be told that there are more wires, and a line was told that says so
abbrev pub IsUntold : Text → Bool → Option (List ℕ) → Option (List ℕ) → Type 0
IsUntold program are_more old new =
    (begun : Option (List ℕ)) × AppendsBeginning old begun (more_note are_more)
    × Tells program (loop_text faults.More) begun new

-- what is told of more wires, and the status
abbrev pub TellsMore : Text → Bool → Option (List ℕ) → Option (List ℕ) → ℕ → Type 0
TellsMore program are_more old new status =
    ((status ≡ DONE) × Appends old new (more_note are_more)) ⊎ ((status ≡ FAULT) × IsUntold program are_more old new)

-- exactly the wires of the recording were written, a line each, and it was told that there are more, if there are
pub record WritesWires (request : Request Common) (old new : Streams) : Type 0 where
  pub are_more : Bool
  pub wires : DeliversWires request old.input (Ok are_more) old.output new.output
  pub note : Appends old.errors new.errors (more_note are_more)

-- there was a fault of which a line was told; or all was written, and it could not be told that there are more wires
abbrev pub FailsToList : Text → Request Common → Streams → Streams → Type 0
FailsToList program request old new =
    ((fault : LoopFault) × DeliversWires request old.input (Err fault) old.output new.output
    × Tells program (loop_text fault) old.errors new.errors)
    ⊎ ((are_more : Bool) × DeliversWires request old.input (Ok are_more) old.output new.output
    × IsUntold program are_more old.errors new.errors)

-- what is asked for was done: the wires of the recording were written, or rows
abbrev pub IsDone : Bool → Bytes → Request Common → Streams → Streams → Type 0
IsDone true files request old new = WritesWires request old new
IsDone false files request old new = WritesRows files request old new

-- there was a fault of it
abbrev pub HasFailed : Bool → Text → Bytes → Request Common → Streams → Streams → Type 0
HasFailed true program files request old new = FailsToList program request old new
HasFailed false program files request old new = HadFault program files request old new

-- what the words ask for, what is read, and what is done
abbrev pub by_loop : Rules Asked
by_loop = record {
  Asks = Asks;
  Misfits = AskNothing;
  source = λ asked. file_source asked.request.recording;
  Done = λ asked program bytes old new. IsDone asked.list bytes asked.request old new;
  Fails = λ asked program bytes old new. HasFailed asked.list program.name.now bytes asked.request old new;
}
