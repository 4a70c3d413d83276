-- What is written of a recording as it comes.
use Rattle.std.specs.Prelude.{◌≡◌, ◌≢◌, ◌⊎◌, ℕ, List, [], ◌∷◌, ◌++◌, Bool, true, Option, Some, None, IfNone, IfSome, string_bytes}
use Rattle.std.specs.Io.KnownBytes.{Appends, Consumes, Keeps}
use Rattle.xb_text.specs.Writing.{AppendsBeginning}
use Rattle.xb_contact.specs.declared.event.Event.{Event}
use Rattle.xb_contact.specs.declared.event.Refusal.{Refusal}
use Rattle.xb_contact.specs.declared.event.Refusal.TheVariants as refusals
use Rattle.xb_recording.specs.declared.format.Format.{Format}
use Rattle.xb_recording.specs.declared.reader.Reader.{Reader}
use Rattle.xb_recording.specs.declared.wanted.Wanted.{Wanted}
use Rattle.xb_recording.specs.Places.{lines_ended, lines_ended_by}
use Rattle.xb_recording.specs.Says.{IsRefused, KeepsRefusals, RefusesEnd, RefusesForm, RestRefused, RestSays, Says, Takes, is_text}
use Rattle.xb_feed.specs.declared.fault.RecordingFault.{RecordingFault}
use Rattle.xb_feed.specs.declared.fault.RecordingFault.TheVariants as faults
use Rattle.xb_feed.specs.declared.feed.Intake.{Intake}
use Rattle.xb_feed.specs.declared.request.Request.{Request}
use Rattle.xb_feed.specs.Beginnings.{IsUntold, TellsForm}
use Rattle.xb_feed.specs.Faults.{IsFaultAfter, IsFaultAtEnd, IsFaultOf, IsTooLate}
use Rattle.xb_feed.specs.Watches.{watch_of}
use Rattle.xb_feed.specs.Followers.{Follower}
use Rattle.xb_feed.specs.Watching.{CanHearAll, Watch, begun_watch, certain_text, notes_of, silent_line, text_of_events, watch_after}

-- what a recording says could be heard and was put down: what is told of it stands at the end of what is not written
-- yet, and it is known
pub record PutsDown {C G : Type 0} (f : Follower C G)
    (old : List ℕ) (before : Watch C G) (said : List Event) (new : List ℕ) (after : Watch C G) : Type 0 where
  pub records : new ≡ old ++ certain_text f before said
  pub known : after ≡ watch_after f before said
  pub hears : CanHearAll f before said

-- so much of it, up to what is too late
abbrev pub PutsDownUntilLate :
    {C G : Type 0} → Follower C G → List ℕ → Watch C G → List Event → List ℕ → Type 0
PutsDownUntilLate f old before said new =
    (put : List Event) × (new ≡ old ++ certain_text f before put) × IsTooLate f before said put

-- the fault of that where the reader stands
abbrev pub IsLateFault :
    {C G : Type 0} → Follower C G → List ℕ → Watch C G → List Event → List ℕ → Reader → RecordingFault → Type 0
IsLateFault f old before said new reader fault =
    (fault ≡ faults.NoMemory) ⊎ (IsFaultOf reader refusals.TooLate fault × PutsDownUntilLate f old before said new)

-- how many lines have ended after bytes
abbrev pub lines_ended_after : List ℕ → ℕ → ℕ
lines_ended_after [] ended = ended
lines_ended_after (byte ∷ rest) ended = lines_ended_after rest (lines_ended_by byte ended)

-- what a reader took says these events, whatever follows, and what is refused then was refused before; the lines of a
-- text are counted
pub record Follows (old new : Reader) (bytes : List ℕ) (said : List Event) : Type 0 where
  pub takes : Takes old new bytes said
  pub refusals : KeepsRefusals old new bytes
  pub form : is_text new.source ≡ is_text old.source
  pub place : is_text old.source ≡ true → lines_ended new ≡ lines_ended_after bytes (lines_ended old)

-- a reader stands so after the beginning of a recording, which says these events
pub record StandsAfter
    (format : Format) (wanted : Wanted) (taken : List ℕ) (said : List Event) (reader : Reader) : Type 0 where
  pub says : (text : List ℕ) (later : List Event) → RestSays reader text later
      → Says format wanted (taken ++ text) (said ++ later)
  pub refusals : (text : List ℕ) (refusal : Refusal) → RestRefused reader text refusal
      → IsRefused format wanted (taken ++ text) refusal
  pub place : is_text reader.source ≡ true → lines_ended reader ≡ lines_ended_after taken 0

-- bytes were taken, and what they say was put down
pub record GoesOn {C G : Type 0} (f : Follower C G)
    (old : Intake C G) (bytes : List ℕ) (new : Intake C G) : Type 0 where
  pub said : List Event
  pub follows : Follows old.reader new.reader bytes said
  pub down : PutsDown f (string_bytes old.text) (watch_of old.lines) said (string_bytes new.text) (watch_of new.lines)

-- bytes have a fault, after the first of them: why, and all that they say before it was put down
pub record Halts {C G : Type 0} (f : Follower C G)
    (old : Intake C G) (bytes : List ℕ) (new : Intake C G) (fault : RecordingFault) : Type 0 where
  pub taken : List ℕ
  pub refused : List ℕ
  pub rest : List ℕ
  pub are : bytes ≡ taken ++ (refused ++ rest)
  pub reader : Reader
  pub said : List Event
  pub put : List Event
  pub follows : Follows old.reader reader taken said
  pub why : IsFaultAfter f reader (watch_after f (watch_of old.lines) said) refused put new.reader fault
  pub records : string_bytes new.text ≡ string_bytes old.text ++ certain_text f (watch_of old.lines) (said ++ put)

abbrev pub IsFaultOfPiece :
    {C G : Type 0} → Follower C G → Intake C G → List ℕ → Intake C G → RecordingFault → Type 0
IsFaultOfPiece f old bytes new fault = (fault ≡ faults.NoMemory) ⊎ Halts f old bytes new fault

-- what the end of a recording says was put down
abbrev pub PutsDownLast : {C G : Type 0} → Follower C G → Intake C G → List ℕ → Watch C G → Type 0
PutsDownLast f old new after =
    (events : List Event) × RestSays old.reader [] events
    × PutsDown f (string_bytes old.text) (watch_of old.lines) events new after

-- where there was a fault this is told, and this text was written, but none of it where memory ran out
abbrev pub WritesBefore :
    List ℕ → RecordingFault → RecordingFault → Option (List ℕ) → Option (List ℕ) → Type 0
WritesBefore text fault told output after =
    ((told ≡ faults.NoMemory) × Appends output after [])
    ⊎ ((fault ≢ faults.NoMemory) × (((told ≡ fault) × Appends output after text)
    ⊎ ((told ≡ faults.Write) × AppendsBeginning output after text)))

-- why the last text was not written
abbrev pub WritesLast : List ℕ → Option (List ℕ) → Option (List ℕ) → RecordingFault → Type 0
WritesLast text output after fault =
    ((fault ≡ faults.NoMemory) × Appends output after [])
    ⊎ ((fault ≡ faults.Write) × AppendsBeginning output after text)

-- bytes were taken, and all that they say was written
pub record Writes {C G : Type 0} (f : Follower C G)
    (old : Intake C G) (bytes : List ℕ) (new : Intake C G) (output after : Option (List ℕ)) : Type 0 where
  pub said : List Event
  pub follows : Follows old.reader new.reader bytes said
  pub known : watch_of new.lines ≡ watch_after f (watch_of old.lines) said
  pub hears : CanHearAll f (watch_of old.lines) said
  pub wrote : Appends output after (certain_text f (watch_of old.lines) said)
  pub none_left : string_bytes new.text ≡ []

-- an input gave bytes, and all that they say was written to an output
pub record Feeds {C G : Type 0} (f : Follower C G)
    (old new : Intake C G) (input left output after : Option (List ℕ)) : Type 0 where
  pub bytes : List ℕ
  pub read : Consumes input left bytes
  pub writes : Writes f old bytes new output after

-- all bytes that follow were taken up to the end of the recording, each wire has had a level, all that is told
-- was written, and these are the notes
pub record Ends {C G : Type 0} (f : Follower C G)
    (old : Intake C G) (said : Bool) (told text : List ℕ) (output after : Option (List ℕ)) : Type 0 where
  pub events : List Event
  pub says : RestSays old.reader text events
  pub hears : CanHearAll f (watch_of old.lines) events
  pub levels : silent_line (watch_after f (watch_of old.lines) events).lines ≡ None
  pub heard : told ≡ notes_of f said (watch_after f (watch_of old.lines) events)
  pub wrote : Appends output after (text_of_events f (watch_of old.lines) events)

-- the first that is said of bytes
pub record SaysFirst (reader : Reader) (later : List ℕ) (put : List Event) : Type 0 where
  pub bytes : List ℕ
  pub rest : List ℕ
  pub are : later ≡ bytes ++ rest
  pub after : Reader
  pub more : List Event
  pub takes : Takes reader after bytes (put ++ more)

-- a fault within bytes, and the text of what they say before it
pub record IsWithin {C G : Type 0} (f : Follower C G)
    (reader : Reader) (watch : Watch C G) (later : List ℕ) (fault : RecordingFault) (text : List ℕ) : Type 0 where
  pub refused : List ℕ
  pub rest : List ℕ
  pub are : later ≡ refused ++ rest
  pub after : Reader
  pub put : List Event
  pub why : IsFaultAfter f reader watch refused put after fault
  pub records : text ≡ certain_text f watch put

abbrev pub IsLate :
    {C G : Type 0} → Follower C G → Reader → Watch C G → List ℕ → RecordingFault → List ℕ → Type 0
IsLate f reader watch later fault text =
    IsWithin f reader watch later fault text ⊎ ((later ≡ []) × (text ≡ []) × IsFaultAtEnd f reader watch fault)

-- what a fault says of what follows where the reader stands, and the text of what is put down before it: a refusal is
-- that of the reader, or of a time that is too late; at the end it may lack a level; else a write or a read
-- failed, or memory ran out
abbrev pub IsFaultOfRest :
    {C G : Type 0} → Follower C G → Reader → Watch C G → List ℕ → RecordingFault → List ℕ → Type 0
IsFaultOfRest f reader watch later (faults.Line number reason shown) text =
    IsLate f reader watch later (faults.Line number reason shown) text
IsFaultOfRest f reader watch later (faults.Sample number reason) text =
    IsLate f reader watch later (faults.Sample number reason) text
IsFaultOfRest f reader watch later (faults.Beginning reason) text =
    IsLate f reader watch later (faults.Beginning reason) text
IsFaultOfRest f reader watch later (faults.End reason) text =
    (later ≡ []) × (text ≡ []) × (reason ≢ refusals.NoMemory) × RefusesEnd reader reason
IsFaultOfRest f reader watch later (faults.NoLevel line) text =
    (later ≡ []) × (text ≡ []) × ((events : List Event) × RestSays reader [] events
    × (silent_line (watch_after f watch events).lines ≡ Some line))
IsFaultOfRest f reader watch later faults.Write text =
    ((put : List Event) × SaysFirst reader later put × (text ≡ certain_text f watch put))
    ⊎ ((events : List Event) × (later ≡ []) × RestSays reader [] events
    × (silent_line (watch_after f watch events).lines ≡ None) × (text ≡ text_of_events f watch events))
IsFaultOfRest f reader watch later (faults.Read unread) text = text ≡ []
IsFaultOfRest f reader watch later faults.NoMemory text = text ≡ []

-- an output got a text, or its beginning where a write failed
abbrev pub Wrote : RecordingFault → Option (List ℕ) → Option (List ℕ) → List ℕ → Type 0
Wrote faults.Write output after text = AppendsBeginning output after text
Wrote fault output after text = Appends output after text

-- a fault of bytes, after the first of them: all that they say before it was written
pub record Stops {C G : Type 0} (f : Follower C G)
    (reader : Reader) (watch : Watch C G) (bytes : List ℕ) (fault : RecordingFault) (output after : Option (List ℕ))
    : Type 0 where
  pub taken : List ℕ
  pub later : List ℕ
  pub are : bytes ≡ taken ++ later
  pub there : Reader
  pub said : List Event
  pub follows : Follows reader there taken said
  pub text : List ℕ
  pub why : IsFaultOfRest f there (watch_after f watch said) later fault text
  pub wrote : Wrote fault output after (certain_text f watch said ++ text)

-- the same of the input that follows, where its bytes are known
abbrev pub StopsOf :
    {C G : Type 0} → Follower C G → Intake C G → Option (List ℕ) → RecordingFault → Option (List ℕ) → Option (List ℕ) → Type 0
StopsOf f old input fault output after =
    IfSome input (λ text. Stops f old.reader (watch_of old.lines) text fault output after)

abbrev pub EndsOf :
    {C G : Type 0} → Follower C G → Intake C G → Bool → List ℕ → Option (List ℕ) → Option (List ℕ) → Option (List ℕ) → Type 0
EndsOf f old said told input output after = IfSome input (λ text. Ends f old said told text output after)

-- the lines that are asked for, before anything is known of them
abbrev pub watch_asked : {C G : Type 0} → Request G → Watch C G
watch_asked request = begun_watch request.common request.lines.items

-- nothing has been read of a recording of this form, which says these events already
pub record Starts {C G : Type 0} (f : Follower C G)
    (format : Format) (request : Request G) (intake : Intake C G) : Type 0 where
  pub said : List Event
  pub stands : StandsAfter format request.wanted [] said intake.reader
  pub down : PutsDown f [] (watch_asked request) said (string_bytes intake.text) (watch_of intake.lines)

-- the form of a recording is the one that is asked for, or else that which it tells
pub record IsOfForm {G : Type 0} (request : Request G) (text : List ℕ) (format : Format) : Type 0 where
  pub asked : IfSome request.format (λ asked. format ≡ asked)
  pub told : IfNone request.format (TellsForm text format)

-- what is written of a recording: a header, and exactly what is told, by its form, of what it says of the wires that are
-- asked for, of which each has had a level, and whose times can all be heard; and the notes
pub record Listens {C G : Type 0} (f : Follower C G) (header : List ℕ)
    (request : Request G) (text rows told : List ℕ) : Type 0 where
  pub format : Format
  pub form : IsOfForm request text format
  pub events : List Event
  pub said : Says format request.wanted text events
  pub printed : rows ≡ header ++ text_of_events f (watch_asked request) events
  pub hears : CanHearAll f (watch_asked request) events
  pub levels : silent_line (watch_after f (watch_asked request) events).lines ≡ None
  pub heard : told ≡ notes_of f request.said (watch_after f (watch_asked request) events)

-- an output got a text and then what is written of an input, where their bytes are known, and these are its notes
abbrev pub ListensTo :
    {C G : Type 0} → Follower C G → List ℕ → Request G → List ℕ → List ℕ → Option (List ℕ) → Option (List ℕ) → Option (List ℕ) → Type 0
ListensTo f header request before told input output after =
    IfSome input (λ text. (rows : List ℕ) × Listens f header request text rows told × Appends output after (before ++ rows))

-- no recording of a form can be read: memory ran out, or each one of it is refused
abbrev pub CannotRead : Format → Wanted → RecordingFault → Type 0
CannotRead format wanted fault =
    (fault ≡ faults.NoMemory)
    ⊎ ((reason : Refusal) × (fault ≡ faults.Beginning reason) × (reason ≢ refusals.NoMemory)
    × RefusesForm format wanted reason)

-- a recording of a form cannot begin: it cannot be read, or what it says before anything is read is too late
abbrev pub CannotBegin : {C G : Type 0} → Follower C G → Format → Request G → RecordingFault → Type 0
CannotBegin f format request fault =
    CannotRead format request.wanted fault
    ⊎ ((reader : Reader) × (said : List Event) × (put : List Event)
    × StandsAfter format request.wanted [] said reader × IsTooLate f (watch_asked request) said put
    × IsFaultOf reader refusals.TooLate fault)

-- a fault before anything was written: the form is not told, or a recording of it cannot begin
abbrev pub FailsAtOnce : {C G : Type 0} → Follower C G → Request G → List ℕ → RecordingFault → Type 0
FailsAtOnce f request text fault =
    ((request.format ≡ None) × IsUntold text fault)
    ⊎ ((format : Format) × IsOfForm request text format × CannotBegin f format request fault)

-- a fault after the beginning of a recording, of which all that is told was written
pub record FailsLater {C G : Type 0} (f : Follower C G) (header : List ℕ)
    (request : Request G) (text before : List ℕ) (fault : RecordingFault) (output after : Option (List ℕ)) : Type 0 where
  pub format : Format
  pub form : IsOfForm request text format
  pub taken : List ℕ
  pub later : List ℕ
  pub are : text ≡ taken ++ later
  pub reader : Reader
  pub said : List Event
  pub stands : StandsAfter format request.wanted taken said reader
  pub more : List ℕ
  pub why : IsFaultOfRest f reader (watch_after f (watch_asked request) said) later fault more
  pub wrote : Wrote fault output after (before ++ (header ++ certain_text f (watch_asked request) said) ++ more)

-- what a fault says of an input, where its bytes are known, and what an output got before it: nothing, or a text, the
-- header and then what is told of what comes before the fault
abbrev pub FailsToListen :
    {C G : Type 0} → Follower C G → List ℕ → Request G → List ℕ → RecordingFault → Option (List ℕ) → Option (List ℕ) → Option (List ℕ) → Type 0
FailsToListen f header request before fault input output after =
    IfSome input (λ text. (Keeps output after × FailsAtOnce f request text fault)
    ⊎ FailsLater f header request text before fault output after)
