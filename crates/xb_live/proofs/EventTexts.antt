-- The text of signals, where one of them is an event and where none is.
use Rattle.std.proofs.Common.{◌≡◌, ◌≢◌, true, false, List, [], ◌∷◌, ◌++◌, ℕ, codes, map, refl, ap}
use Rattle.std.specs.List.{filter, flat_map, list_any}
use Rattle.xb_model.specs.declared.signal.Signal.{Signal}
use Rattle.xb_model.specs.declared.signal.Signal.TheVariants.{Seize, Digit, TimeOut, Release, Close}
use Rattle.xb_live.specs.declared.line_hearing.Hearing.{Hearing}
use Rattle.xb_live.specs.declared.entry_text.EntryForm.TheVariants.{Events}
use Rattle.jiff_core.specs.declared.timestamp.Timestamp.{Timestamp}
use Rattle.std.specs.Prelude.{Option}
use Rattle.xb_clock.specs.Clocks.{Clock}
use Rattle.json.specs.Print.{print}
use Rattle.serde_json.specs.Data.{Data}
use Rattle.serde_json.proofs.Texts.{print-outline}
use Rattle.xb_model.specs.Numbers.{digit_of_count}
use Rattle.xb_live.specs.EventObjects.{bare_object, digit_object, is_event, line_at, object_by}
use Rattle.xb_live.specs.EventTokens.{tokens_in, tokens_of}
use Rattle.xb_clock.specs.Objects.{with_time}
use Rattle.xb_live.specs.Objects.{line_of}
use Rattle.xb_live.specs.Events.{event_with}
use Rattle.xb_live.specs.Texts.{event_text}

pub no-text : (since : Option Timestamp) (clock : Clock) (line : ℕ) (heard : Hearing) (signals : List Signal) → list_any is_event signals ≡ false
    → flat_map (event_text (Events since) clock) (map (event_with line heard) signals) ≡ []
no-text since clock line heard [] none = refl
no-text since clock line heard (Close ∷ signals) none = no-text since clock line heard signals none
no-text since clock line heard (Seize ∷ signals) none = absurd (cc none)
no-text since clock line heard (Digit count bad ∷ signals) none = absurd (cc none)
no-text since clock line heard (TimeOut ∷ signals) none = absurd (cc none)
no-text since clock line heard (Release ∷ signals) none = absurd (cc none)

pub some-events : (signals : List Signal) → list_any is_event signals ≡ true → filter is_event signals ≢ []
some-events [] some = absurd (cc some)
some-events (Close ∷ signals) some = some-events signals some
some-events (Seize ∷ signals) some = λ none. cc none
some-events (Digit count bad ∷ signals) some = λ none. cc none
some-events (TimeOut ∷ signals) some = λ none. cc none
some-events (Release ∷ signals) some = λ none. cc none

printed : (value : Data) → print (tokens_of value) ++ codes "\n" ≡ line_of value
printed value = ap (λ text. text ++ codes "\n") (print-outline value)

-- the tokens of an event's object, and a line feed, are its text line
pub event-line : (time : Option (List ℕ)) (line at : ℕ) (dialled : List ℕ) (signal : Signal) → is_event signal ≡ true
    → print (tokens_in time (object_by line at dialled signal)) ++ codes "\n" ≡ line_at time (object_by line at dialled signal)
event-line time line at dialled Close some = absurd (cc some)
event-line time line at dialled Seize some = printed (with_time (codes "at") time (bare_object line at (codes "SEIZED")))
event-line time line at dialled (Digit count bad) some = printed (with_time (codes "at") time (digit_object line at dialled (digit_of_count count bad)))
event-line time line at dialled TimeOut some = printed (with_time (codes "at") time (bare_object line at (codes "TIMEDOUT")))
event-line time line at dialled Release some = printed (with_time (codes "at") time (bare_object line at (codes "RELEASED")))
