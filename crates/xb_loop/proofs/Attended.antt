-- What the program did, by its status.
use Rattle.std.proofs.Common.{◌≡◌, ◌∙◌, ◌==◌, ℕ, List, length, Bool, Option, None, Some, Result, Err, Ok, ap, false, inl, inr, subst, sym, true, arith}
use Rattle.std.specs.Prelude.{IfSome}
use Rattle.std.proofs.KnownBytes.{Keeps-refl}
use Rattle.clap.specs.Walk.{Row, Text}
use Rattle.xb_command.specs.Answers.{Takes}
use Rattle.xb_command.specs.Files.{Bytes}
use Rattle.xb_command.specs.Programs.{Streams}
use Rattle.xb_command.specs.Telling.{Tells}
use Rattle.xb_command.specs.Works.{IsWrong, Runs}
use Rattle.xb_command.specs.declared.asking.Answer.{Answer}
use Rattle.xb_command.specs.declared.asking.Answer.TheVariants as answer
use Rattle.xb_command.specs.declared.table.Call.{Call}
use Rattle.xb_command.specs.declared.telling.TheConstants.{FAULT}
use Rattle.xb_text.specs.Writing.{AppendsBeginning}
use Rattle.xb_feed.proofs.UnfitWords.{unfit_is_wrong}
use Rattle.xb_feed.specs.Options.{IsUnfit, SayNothing}
use Rattle.xb_loop.specs.Options.{AskNothing}
use Rattle.xb_loop.specs.FaultTexts.{loop_text}
use Rattle.xb_loop.specs.WireLines.{more_note}
use Rattle.xb_loop.specs.declared.common.Common.{Common}
use Rattle.xb_loop.specs.declared.fault.LoopFault.{LoopFault}
use Rattle.xb_loop.specs.declared.fault.LoopFault.TheVariants as faults
use Rattle.xb_feed.specs.declared.fault.RecordingFault.{RecordingFault}
use Rattle.xb_feed.specs.declared.request.Request.{Request}
use Rattle.xb_loop.specs.declared.listing.ListFault.{ListFault}
use Rattle.xb_loop.specs.declared.listing.Listing.{Listing}
use Rattle.xb_feed.specs.LackedWires.{missing_name}
use Rattle.xb_recording.specs.Says.{names_in}
use Rattle.xb_loop.specs.Listing.{IsUnlisted}
use Rattle.xb_loop.specs.Program.{DeliversWires, FailsToGo, FailsToList, HadFault, FailsToPrint, IsFaultOfRecording, IsListing, PrintsDeck, IsListed, TellsMore, TellsOfBounces, TellsWires, WritesListing, WritesRows, WritesWires}

-- all was written, and told or not
pub told_or_not :
    (name : Text) (files : Bytes) (request : Request Common) (told : List ℕ) (old new : Streams) (status : ℕ)
    → (length request.lines.items == 0) ≡ false → PrintsDeck files request told old.input old.output new.output
    → TellsOfBounces name told old.errors new.errors status
    → Runs (WritesRows files request) (HadFault name files request) old new status
told_or_not name files request told old new status some rows (inl (is, wrote)) = record {
  statuses = omega (arith, is);
  done = λ e. record { some = some; told = told; rows = rows; errors = wrote };
  fault = λ e. absurd (omega (arith, is, e));
}
told_or_not name files request told old new status some rows (inr (is, (begun, first, line))) = record {
  statuses = omega (arith, is);
  done = λ e. absurd (omega (arith, is, e));
  fault = λ e. inr (told, begun, rows, first, line);
}

-- the fault of a recording as it is told
pub fails_to_print :
    (files : Bytes) (request : Request Common) (fault : RecordingFault) (told : LoopFault) (input output after : Option (List ℕ))
    → IsFaultOfRecording (names_in request.wanted) fault told
    → FailsToGo files request fault input output after → FailsToPrint files request told input output after
fails_to_print files request fault (faults.Recording own) input output after is goes =
    let G : RecordingFault → Type 0 = λ f. FailsToGo files request f input output after in
    (ap (λ f. missing_name f (names_in request.wanted)) is.0 ∙ is.1, subst G (sym is.0) goes)
fails_to_print files request fault (faults.NoWire own name) input output after is goes =
    let G : RecordingFault → Type 0 = λ f. FailsToGo files request f input output after in
    (ap (λ f. missing_name f (names_in request.wanted)) is.0 ∙ is.1, subst G (sym is.0) goes)
fails_to_print files request fault (faults.Table name error) input output after is goes = absurd is
fails_to_print files request fault (faults.Routes own) input output after is goes = absurd is
fails_to_print files request fault (faults.NoLine listing) input output after is goes = absurd is
fails_to_print files request fault (faults.Unlisted own) input output after is goes = absurd is
fails_to_print files request fault faults.Wires input output after is goes = absurd is
fails_to_print files request fault faults.More input output after is goes = absurd is
fails_to_print files request fault faults.Tell input output after is goes = absurd is
fails_to_print files request fault faults.NoMemory input output after is goes = absurd is

-- no line was asked for
pub lists_instead :
    (files : Bytes) (request : Request Common) (told : LoopFault) (input output : Option (List ℕ)) → (length request.lines.items == 0) ≡ true
    → IfSome input (λ text. TellsWires request text told) → IsListed told → FailsToPrint files request told input output output
lists_instead files request (faults.NoLine listing) input output none tells is = (none, Keeps-refl output, tells)
lists_instead files request (faults.Unlisted fault) input output none tells is = (none, Keeps-refl output, tells)
lists_instead files request (faults.Table name error) input output none tells is = absurd is
lists_instead files request (faults.Routes fault) input output none tells is = absurd is
lists_instead files request (faults.Recording fault) input output none tells is = absurd is
lists_instead files request (faults.NoWire fault name) input output none tells is = absurd is
lists_instead files request faults.Wires input output none tells is = absurd is
lists_instead files request faults.More input output none tells is = absurd is
lists_instead files request faults.Tell input output none tells is = absurd is
lists_instead files request faults.NoMemory input output none tells is = absurd is

-- the wires could not be listed
pub unlisted :
    (request : Request Common) (fault : ListFault) (input : Option (List ℕ))
    → IfSome input (λ text. IsUnlisted request.format text fault)
    → IfSome input (λ text. TellsWires request text (faults.Unlisted fault))
unlisted request fault None is = tt
unlisted request fault (Some text) is = is

-- the wires of a listing were written, or not
pub wires_listed :
    (request : Request Common) (input : Option (List ℕ)) (listing : Listing) (result : Result Bool LoopFault)
    (output after : Option (List ℕ)) → IsListing request input listing → WritesListing listing result output after
    → DeliversWires request input result output after
wires_listed request input listing (Ok are_more) output after is wrote = (listing, is, wrote)
wires_listed request input listing (Err faults.Wires) output after is wrote = (listing, is, wrote)
wires_listed request input listing (Err faults.NoMemory) output after is wrote = wrote
wires_listed request input listing (Err (faults.Table name error)) output after is wrote = absurd wrote
wires_listed request input listing (Err (faults.Routes fault)) output after is wrote = absurd wrote
wires_listed request input listing (Err (faults.Recording fault)) output after is wrote = absurd wrote
wires_listed request input listing (Err (faults.NoWire fault name)) output after is wrote = absurd wrote
wires_listed request input listing (Err (faults.NoLine other)) output after is wrote = absurd wrote
wires_listed request input listing (Err (faults.Unlisted fault)) output after is wrote = absurd wrote
wires_listed request input listing (Err faults.More) output after is wrote = absurd wrote
wires_listed request input listing (Err faults.Tell) output after is wrote = absurd wrote

-- the wires were written, and that there are more was told, or not
pub more_or_not :
    (name : Text) (request : Request Common) (are_more : Bool) (old new : Streams) (status : ℕ)
    → DeliversWires request old.input (Ok are_more) old.output new.output
    → TellsMore name are_more old.errors new.errors status
    → Runs (WritesWires request) (FailsToList name request) old new status
more_or_not name request are_more old new status wires (inl (is, note)) = record {
  statuses = omega (arith, is);
  done = λ e. record { are_more = are_more; wires = wires; note = note };
  fault = λ e. absurd (omega (arith, is, e));
}
more_or_not name request are_more old new status wires (inr (is, untold)) = record {
  statuses = omega (arith, is);
  done = λ e. absurd (omega (arith, is, e));
  fault = λ e. inr (are_more, wires, untold);
}

-- it could not be told that there are more wires
pub more_untold :
    (name : Text) (are_more : Bool) (begun old new : Option (List ℕ)) (status : ℕ) → are_more ≡ true
    → AppendsBeginning old begun (more_note true) → status ≡ FAULT → Tells name (loop_text faults.More) begun new
    → TellsMore name are_more old new status
more_untold name true begun old new status is first fails line = inr (fails, (begun, first, line))
more_untold name false begun old new status is first fails line = cc

-- the words of a call say nothing that there is
pub is_wrong :
    (call : Call) (rows : List Row) (a : Answer) → Takes call rows → IsUnfit (SayNothing rows) a
    → IsWrong AskNothing call a
is_wrong call rows a takes is =
    unfit_is_wrong (SayNothing rows) AskNothing call a (λ misfit says. record { rows = rows; takes = takes; says = says }) is
