-- Over a whole record the rows send its signals, however its runs are cut into rows.
use Rattle.std.proofs.Common.{◌≡◌, ℕ, ◌==◌, List, [], ◌∷◌, ◌++◌, Bool, true, false, cond, refl, sym, ap, ◌∙◌, if◌then◌else◌, append_assoc, append-nil}
use Rattle.std.specs.List.{AllByRecursion}
use Rattle.std.proofs.lemmas.Bool.{cond_both}
use Rattle.xb_model.specs.declared.row.Contact.{Contact}
use Rattle.xb_model.specs.declared.row.Contact.TheVariants.{Make, Brk}
use Rattle.xb_model.specs.declared.row.Contact.TheVariants as contacts
use Rattle.xb_model.specs.declared.limits.Limits.{Limits}
use Rattle.xb_model.specs.declared.line.LineNo.{LineNo}
use Rattle.xb_model.specs.declared.signal.Signal.{Signal}
use Rattle.xb_model.specs.declared.signal.Signal.TheVariants.{Close}
use Rattle.xb_model.specs.Rows.{LoopRow}
use Rattle.xb_model.specs.Records.{closes, record_up_to_close, rows_of, joined, make, break}
use Rattle.xb_model.specs.Signals.{signals_of}
use Rattle.xb_model.specs.LawfulLimits.{IsLawful}
use Rattle.xb_model.specs.Image.{image_on}
use Rattle.xb_model.specs.Lines.{row_line, on_line_of}
use Rattle.xb_model.specs.OnLines.{on_line, whats_from}
use Rattle.xb_model.proofs.Lines.{of_line-on}
use Rattle.xb_model.proofs.Images.{image-of_line}
use Rattle.xb_model.proofs.OnLines.{on_line-append, image_from-on_lines}
use Rattle.xb_pulse.specs.Laws.{HearsTheRecord, HearsTheRecordOfEach, HearsSoFar, HearsSoFarOfEach, heard_on}
use Rattle.xb_pulse.specs.declared.state.Phase.{Phase}
use Rattle.xb_pulse.specs.declared.state.Phase.TheVariants.{OnHook, BetweenTrains, InBreak, InMake, TimedOut, Closed}
use Rattle.xb_pulse.specs.declared.step.Step.{Step}
use Rattle.xb_pulse.specs.Machine.{enter, with_first, take_make, take_break, take_row, phase_after, signals_by, machine}
use Rattle.xb_pulse.specs.Outputs.{outs_on_line}
use Rattle.xb_pulse.proofs.RemainingSignals.{to_send}
use Rattle.xb_pulse.proofs.Steps.{IsOpen, BeginsWith, take_make-begins, take_break-begins, take_make-open, take_break-open, to_send-none}

-- what rows of one line send, from a phase on
abbrev sent : Limits → Phase → List LoopRow → List Signal
sent L s rows = whats_from (phase_after L) (signals_by L) s rows

-- the close, if it has not come
abbrev pub unless_closed : List LoopRow → List Signal
unless_closed rows = if closes rows then [] else Close ∷ []

-- after the close no row sends anything

-- a row after the close leaves the closed phase, and sends nothing
closed_stays : (L : Limits) (c : Contact) (ms : ℕ) → take_row L Closed c ms ≡ enter Closed
closed_stays L Make ms = cond_both (ms == 0) _ _ (λ step. step ≡ enter Closed) (λ t. refl) (λ f. refl)
closed_stays L Brk ms = cond_both (ms == 0) _ _ (λ step. step ≡ enter Closed) (λ t. refl) (λ f. refl)
closed_stays L contacts.Close ms = refl

-- nor do any rows
sent-closed : (L : Limits) (rows : List LoopRow) → sent L Closed rows ≡ []
sent-closed L [] = refl
sent-closed L (row ∷ rows) =
    ap (λ step. step.sent.items ++ sent L step.phase rows) (closed_stays L row.contact row.ms)
    ∙ sent-closed L rows

-- from an open phase a close row sends the close
sends_close :
    (L : Limits) (s : Phase) (ms : ℕ) → IsOpen L s
    → take_row L s contacts.Close ms ≡ with_first Close (enter Closed)
sends_close L OnHook ms o = refl
sends_close L (BetweenTrains t) ms o = refl
sends_close L (InBreak t tally) ms o = refl
sends_close L (InMake t tally) ms o = refl
sends_close L (TimedOut t) ms o = refl
sends_close L Closed ms o = absurd o

-- what these rows send, and a close unless they have one, is what is to be sent from a phase on
abbrev Hears : Limits → Phase → List LoopRow → Type 0
Hears L s rows = sent L s rows ++ unless_closed rows ≡ to_send L s (joined (record_up_to_close rows))

-- a step that sends the beginning, and rows that are heard after it
beginning_heard :
    (L : Limits) (step : Step) (rows : List LoopRow) (all : List Signal)
    → BeginsWith L step (joined (record_up_to_close rows)) all → Hears L step.phase rows
    → (step.sent.items ++ sent L step.phase rows) ++ unless_closed rows ≡ all
beginning_heard L step rows all beginning heard =
    append_assoc step.sent.items (sent L step.phase rows) (unless_closed rows)
    ∙ ap (λ rest. step.sent.items ++ rest) heard
    ∙ sym beginning

module _ (L : Limits) (l : IsLawful L) (rows : List LoopRow)
    (heard : (s : Phase) → IsOpen L s → Hears L s rows) where
  -- a row before rows that are heard from every open phase
  row_heard :
      (s : Phase) (line : LineNo) (c : Contact) (ms : ℕ) → IsOpen L s
      → Hears L s (record { line = line; contact = c; ms = ms } ∷ rows)
  row_heard s line Make ms o = at (ms == 0)
    where
      at :
          (b : Bool)
          → ((cond b (enter s) (take_make L s ms)).sent.items
          ++ sent L (cond b (enter s) (take_make L s ms)).phase rows) ++ unless_closed rows
          ≡ to_send L s (joined (cond b (record_up_to_close rows) (make ms ∷ record_up_to_close rows)))
      at true = heard s o
      at false =
          beginning_heard L (take_make L s ms) rows _
          (take_make-begins L s ms (joined (record_up_to_close rows)) l o)
          (heard (take_make L s ms).phase (take_make-open L s ms l o))
  row_heard s line Brk ms o = at (ms == 0)
    where
      at :
          (b : Bool)
          → ((cond b (enter s) (take_break L s ms)).sent.items
          ++ sent L (cond b (enter s) (take_break L s ms)).phase rows) ++ unless_closed rows
          ≡ to_send L s (joined (cond b (record_up_to_close rows) (break ms ∷ record_up_to_close rows)))
      at true = heard s o
      at false =
          beginning_heard L (take_break L s ms) rows _
          (take_break-begins L s ms (joined (record_up_to_close rows)) l o)
          (heard (take_break L s ms).phase (take_break-open L s ms o))
  row_heard s line contacts.Close ms o =
      ap (λ step. (step.sent.items ++ sent L step.phase rows) ++ []) (sends_close L s ms o)
      ∙ ap (λ rest. Close ∷ rest ++ []) (sent-closed L rows)
      ∙ sym (to_send-none L s l o)

-- rows are heard from every open phase
rows_heard : (L : Limits) → IsLawful L → (rows : List LoopRow) (s : Phase) → IsOpen L s → Hears L s rows
rows_heard L l [] s o = sym (to_send-none L s l o)
rows_heard L l (row ∷ rows) s o = row_heard L l rows (rows_heard L l rows) s row.line row.contact row.ms o

-- what the stage sends for rows of one line, and a close unless they have one, are the signals
signals_heard :
    (L : Limits) (line : LineNo) (rows : List LoopRow) → IsLawful L
    → AllByRecursion (λ row. row_line row ≡ line) rows
    → image_on (machine L) rows ++ on_line line (unless_closed rows)
    ≡ on_line line (signals_of L (record_up_to_close rows))
signals_heard L line rows l a =
    ap (λ sent. sent ++ on_line line (unless_closed rows))
    (image_from-on_lines row_line OnHook (phase_after L) (signals_by L) line OnHook rows a)
    ∙ sym (on_line-append line (sent L OnHook rows) (unless_closed rows))
    ∙ ap (on_line line) (rows_heard L l rows OnHook tt)

-- a line's closed record gives its signals
pub record_heard : (L : Limits) → HearsTheRecord L (machine L)
record_heard L line rows l a e = sym (append-nil _) ∙ rw e at (signals_heard L line rows l a)

-- a line's open record gives its signals, all but the close
pub open_record_heard : (L : Limits) → HearsSoFar L (machine L)
open_record_heard L line rows l a e = rw e at (signals_heard L line rows l a)

-- among the rows of all lines

-- of what is sent for all rows, a line's items are what its own rows send
line_image :
    (L : Limits) (line : LineNo) (rows : List LoopRow)
    → heard_on (machine L) line rows ≡ image_on (machine L) (rows_of line rows)
line_image L line rows = image-of_line row_line on_line_of (machine L) (outs_on_line L) line rows

-- a line's closed record among all rows gives its signals on the line
pub line_record_heard : (L : Limits) → HearsTheRecordOfEach L (machine L)
line_record_heard L line rows l e =
    line_image L line rows ∙ record_heard L line (rows_of line rows) l (of_line-on row_line line rows) e

-- a line's open record among all rows gives its signals on the line, all but the close
pub open_line_record_heard : (L : Limits) → HearsSoFarOfEach L (machine L)
open_line_record_heard L line rows l e =
    ap (λ sent. sent ++ on_line line (Close ∷ [])) (line_image L line rows)
    ∙ open_record_heard L line (rows_of line rows) l (of_line-on row_line line rows) e
