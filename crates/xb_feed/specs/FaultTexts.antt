-- The text of each fault.
use Rattle.std.specs.Prelude.{ℕ, ◌++◌, List, codes, decimal, string_bytes}
use Rattle.xb_contact.specs.FaultTexts.{refusal_text}
use Rattle.xb_feed.specs.declared.fault.RecordingFault.{RecordingFault}
use Rattle.xb_feed.specs.declared.fault.RecordingFault.TheVariants as recording

-- of a recording
abbrev pub recording_text : RecordingFault → List ℕ
recording_text (recording.Line number refusal text) =
    codes "text line " ++ decimal number ++ codes ": " ++ refusal_text refusal ++ codes ": "
    ++ string_bytes text
recording_text (recording.Sample number refusal) =
    codes "sample " ++ decimal number ++ codes ": " ++ refusal_text refusal
recording_text (recording.Beginning refusal) = codes "the recording: " ++ refusal_text refusal
recording_text (recording.End refusal) = codes "the end of the recording: " ++ refusal_text refusal
recording_text (recording.NoLevel line) =
    codes "the wire of line " ++ decimal line ++ codes " has no level in the recording"
recording_text (recording.Read _) = codes "the recording could not be read"
recording_text recording.Write = codes "the rows could not be written"
recording_text recording.NoMemory = codes "out of memory"
