-- What the program did, by its status.
use Rattle.std.specs.Prelude.{ℕ, ◌≡◌, ◌≢◌, ◌⊎◌, List, [], Option, Some, None}
use Rattle.std.specs.Io.KnownBytes.{Appends, Keeps}
use Rattle.xb_command.specs.Programs.{Streams}
use Rattle.xb_command.specs.Telling.{Tells}
use Rattle.xb_command.specs.Works.{Rules, file_source}
use Rattle.xb_command.specs.declared.table.Program.{Program}
use Rattle.xb_feed.specs.declared.fault.RecordingFault.{RecordingFault}
use Rattle.xb_feed.specs.declared.fault.RecordingFault.TheVariants as recording
use Rattle.xb_feed.specs.declared.request.Request.{Request}
use Rattle.xb_feed.specs.LackedWires.{missing_name}
use Rattle.xb_feed.specs.Feeding.{FailsToListen, ListensTo}
use Rattle.xb_recording.specs.Says.{names_in}
use Rattle.xb_bench.specs.declared.fault.BenchFault.{BenchFault}
use Rattle.xb_bench.specs.declared.words.Asked.{Asked}
use Rattle.xb_bench.specs.declared.fault.BenchFault.TheVariants as faults
use Rattle.xb_bench.specs.declared.setting.Setting.{Setting}
use Rattle.xb_bench.specs.declared.setting.Form.{Form}
use Rattle.xb_bench.specs.declared.setting.Form.TheVariants.{Lines, Objects, Page, Picture}
use Rattle.xb_bench.specs.Benches.{by_digits}
use Rattle.xb_bench.specs.Drawn.{by_plots}
use Rattle.xb_bench.specs.Options.{AskNothing, Asks}
use Rattle.xb_bench.specs.Told.{first_text, last_text}
use Rattle.xb_text.specs.Writing.{AppendsBeginning}
use Rattle.xb_bench.specs.FaultTexts.{bench_text}

-- an output got what stands first, and then exactly what is told of the digits of the recording, or drawn of them
abbrev pub PrintsBy : Form → List ℕ → Request Setting → Option (List ℕ) → Option (List ℕ) → Option (List ℕ) → Type 0
PrintsBy Lines first request input output after =
    (notes : List ℕ) × ListensTo by_digits first request [] notes input output after
PrintsBy Objects first request input output after =
    (notes : List ℕ) × ListensTo by_digits first request [] notes input output after
PrintsBy Page first request input output after =
    (notes : List ℕ) × ListensTo by_plots first request [] notes input output after
PrintsBy Picture first request input output after =
    (notes : List ℕ) × ListensTo by_plots first request [] notes input output after

-- and after that what stands last
abbrev pub PrintsWhole :
    Form → List ℕ → List ℕ → Request Setting → Option (List ℕ) → Option (List ℕ) → Option (List ℕ) → Type 0
PrintsWhole form first last request input output after =
    (before : Option (List ℕ)) × PrintsBy form first request input output before × Appends before after last

abbrev pub PrintsDigits : Request Setting → Option (List ℕ) → Option (List ℕ) → Option (List ℕ) → Type 0
PrintsDigits request input output after =
    PrintsWhole request.common.form (first_text request.common) (last_text request.common) request input output after

-- the fault of a recording, and what an output got before it
abbrev pub FailsBy :
    Form → List ℕ → Request Setting → RecordingFault → Option (List ℕ) → Option (List ℕ) → Option (List ℕ) → Type 0
FailsBy Lines first request fault input output after = FailsToListen by_digits first request [] fault input output after
FailsBy Objects first request fault input output after = FailsToListen by_digits first request [] fault input output after
FailsBy Page first request fault input output after = FailsToListen by_plots first request [] fault input output after
FailsBy Picture first request fault input output after = FailsToListen by_plots first request [] fault input output after

-- or what stands last was not written
abbrev pub FailsWhole :
    Form → List ℕ → List ℕ → Request Setting → RecordingFault → Option (List ℕ) → Option (List ℕ) → Option (List ℕ)
    → Type 0
FailsWhole form first last request fault input output after =
    FailsBy form first request fault input output after
    ⊎ ((fault ≡ recording.Write) × ((before : Option (List ℕ)) × PrintsBy form first request input output before
    × AppendsBeginning before after last))

abbrev pub FailsToGo : Request Setting → RecordingFault → Option (List ℕ) → Option (List ℕ) → Option (List ℕ) → Type 0
FailsToGo request fault input output after =
    FailsWhole request.common.form (first_text request.common) (last_text request.common) request fault input output after

-- the fault of a recording as it is told: where it lacks a wire, with the first of the names that are asked for of which
-- it has none
abbrev pub IsFaultTold : List (List ℕ) → RecordingFault → BenchFault → Type 0
IsFaultTold names fault faults.Write = fault ≡ recording.Write
IsFaultTold names fault (faults.NoWire own name) = (own ≡ fault) × (missing_name fault names ≡ Some name.now)
IsFaultTold names fault (faults.Recording own) =
    (own ≡ fault) × (fault ≢ recording.Write) × (missing_name fault names ≡ None)
IsFaultTold names fault faults.NoMemory = ⊥

-- where memory ran out nothing was written
abbrev pub FailsToPrint :
    Request Setting → BenchFault → Option (List ℕ) → Option (List ℕ) → Option (List ℕ) → Type 0
FailsToPrint request told input output after =
    ((told ≡ faults.NoMemory) × Keeps output after)
    ⊎ ((fault : RecordingFault) × IsFaultTold (names_in request.wanted) fault told
    × FailsToGo request fault input output after)

-- exactly what is asked for was written
pub record WritesDigits (request : Request Setting) (old new : Streams) : Type 0 where
  pub digits : PrintsDigits request old.input old.output new.output
  pub errors : Keeps old.errors new.errors

-- there was a fault, and a line says so
pub record HasFault (request : Request Setting) (program : Program) (old new : Streams) : Type 0 where
  pub fault : BenchFault
  pub fails : FailsToPrint request fault old.input old.output new.output
  pub told : Tells program.name.now (Some (bench_text fault)) old.errors new.errors

-- what the words ask for, what is read, and what is done
abbrev pub by_bench : Rules Asked
by_bench = record {
  Asks = Asks;
  Misfits = AskNothing;
  source = λ asked. file_source asked.request.recording;
  Done = λ asked program bytes old new. WritesDigits asked.request old new;
  Fails = λ asked program bytes old new. HasFault asked.request program old new;
}
