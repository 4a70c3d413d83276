-- The end of a recording.
use Rattle.std.proofs.Common.{◌≡◌, ◌⊎◌, ℕ, List, [], ◌++◌, Bool, Option, None, refl, ap, sym, subst, ◌∙◌, inl, inr, string_bytes}
use Rattle.std.specs.Io.KnownBytes.{Appends}
use Rattle.std.proofs.KnownBytes.{Appends-nil}
use Rattle.xb_text.specs.Writing.{AppendsBeginning}
use Rattle.xb_contact.specs.declared.event.Event.{Event}
use Rattle.xb_recording.specs.declared.reader.Reader.{Reader}
use Rattle.xb_feed.specs.declared.feed.Intake.{Intake}
use Rattle.xb_feed.specs.declared.fault.RecordingFault.{RecordingFault}
use Rattle.xb_feed.specs.declared.fault.RecordingFault.TheVariants as faults
use Rattle.xb_feed.specs.Faults.{IsFaultAtEnd, IsSilence}
use Rattle.xb_feed.specs.Feeding.{Ends, IsFaultOfRest, PutsDownLast, Stops, WritesLast}
use Rattle.xb_feed.specs.Followers.{Follower}
use Rattle.xb_feed.specs.Watches.{watch_of}
use Rattle.xb_feed.specs.Watching.{Watch, certain_text, left_text, notes_of, silent_line, text_of_events, watch_after}
use Rattle.xb_feed.proofs.Fed.{text_is}
use Rattle.xb_feed.proofs.Stopped.{stops_at_once, stops_no_memory, why_at_end, wrote_nothing}

-- the end
pub end_fault :
    {C G : Type 0} (kind : Follower C G)
    (old : Intake C G) (fault : RecordingFault) (a : Option (List ℕ))
    → IsFaultOfRest kind old.reader (watch_of old.lines) [] fault [] → Stops kind old.reader (watch_of old.lines) [] fault a a
end_fault kind old fault a why = stops_at_once kind old.reader (watch_of old.lines) [] [] fault a a why (wrote_nothing fault a)

pub end_silent :
    {C G : Type 0} (kind : Follower C G)
    (old new : Intake C G) (fault : RecordingFault) (a : Option (List ℕ))
    → PutsDownLast kind old (string_bytes new.text) (watch_of new.lines) → IsSilence (watch_of new.lines) fault
    → Stops kind old.reader (watch_of old.lines) [] fault a a
end_silent kind old new fault a down (inl is) = stops_no_memory kind old.reader (watch_of old.lines) [] fault a a is (Appends-nil a)
end_silent kind old new fault a (events, says, down) (inr (number, is, silent)) =
    let P : RecordingFault → Type 0 = λ f. Stops kind old.reader (watch_of old.lines) [] f a a in
    subst P (sym is)
    (end_fault kind old (faults.NoLevel number) a
    (refl, refl, (events, says, ap (λ w. silent_line w.lines) (sym down.known) ∙ silent)))

last_text :
    {C G : Type 0} (kind : Follower C G)
    (old new : Intake C G) (events : List Event) → string_bytes old.text ≡ []
    → string_bytes new.text ≡ string_bytes old.text ++ certain_text kind (watch_of old.lines) events
    → watch_of new.lines ≡ watch_after kind (watch_of old.lines) events
    → string_bytes new.text ++ left_text kind (watch_of new.lines) ≡ text_of_events kind (watch_of old.lines) events
last_text kind old new events empty rows known =
    ap (λ r. r ++ left_text kind (watch_of new.lines)) (rows ∙ ap (λ r. r ++ certain_text kind (watch_of old.lines) events) empty)
    ∙ ap (λ w. certain_text kind (watch_of old.lines) events ++ left_text kind w) known ∙ sym (text_is kind (watch_of old.lines) events)

pub end_unwritten :
    {C G : Type 0} (kind : Follower C G)
    (old new : Intake C G) (fault : RecordingFault) (a b : Option (List ℕ)) → string_bytes old.text ≡ []
    → PutsDownLast kind old (string_bytes new.text) (watch_of new.lines) → silent_line (watch_of new.lines).lines ≡ None
    → WritesLast (string_bytes new.text ++ left_text kind (watch_of new.lines)) a b fault
    → Stops kind old.reader (watch_of old.lines) [] fault a b
end_unwritten kind old new fault a b empty down levels (inl (is, kept)) =
    stops_no_memory kind old.reader (watch_of old.lines) [] fault a b is kept
end_unwritten kind old new fault a b empty (events, says, down) levels (inr (is, wrote)) =
    let P : RecordingFault → Type 0 = λ f. Stops kind old.reader (watch_of old.lines) [] f a b in
    let A : List ℕ → Type 0 = λ text. AppendsBeginning a b text in
    subst P (sym is)
    (stops_at_once kind old.reader (watch_of old.lines) [] (text_of_events kind (watch_of old.lines) events) faults.Write a b
    (inr (events, refl, says, ap (λ w. silent_line w.lines) (sym down.known) ∙ levels, refl))
    (subst A (last_text kind old new events empty down.records down.known) wrote))

pub ends :
    {C G : Type 0} (kind : Follower C G)
    (old new : Intake C G) (said : Bool) (told : List ℕ) (a b : Option (List ℕ)) → string_bytes old.text ≡ []
    → PutsDownLast kind old (string_bytes new.text) (watch_of new.lines) → silent_line (watch_of new.lines).lines ≡ None
    → told ≡ notes_of kind said (watch_of new.lines)
    → Appends a b (string_bytes new.text ++ left_text kind (watch_of new.lines)) → Ends kind old said told [] a b
ends kind old new said told a b empty (events, says, down) levels heard wrote =
    let A : List ℕ → Type 0 = λ text. Appends a b text in
    record {
      events = events;
      says = says;
      hears = down.hears;
      levels = ap (λ w. silent_line w.lines) (sym down.known) ∙ levels;
      heard = heard ∙ ap (notes_of kind said) down.known;
      wrote = subst A (last_text kind old new events empty down.records down.known) wrote;
    }

pub at_end_fault :
    {C G : Type 0} (kind : Follower C G)
    (reader : Reader) (watch : Watch C G) (fault : RecordingFault)
    → (fault ≡ faults.NoMemory) ⊎ IsFaultAtEnd kind reader watch fault → IsFaultOfRest kind reader watch [] fault []
at_end_fault kind reader watch fault (inl is) =
    let P : RecordingFault → Type 0 = λ f. IsFaultOfRest kind reader watch [] f [] in
    subst P (sym is) refl
at_end_fault kind reader watch fault (inr e) = why_at_end kind reader watch fault e
