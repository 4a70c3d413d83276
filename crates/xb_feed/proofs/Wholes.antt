-- All of a recording, from its first piece to its end.
use Rattle.std.proofs.Common.{◌≡◌, ℕ, List, [], ◌++◌, Bool, Option, Some, None, ap, sym, subst, ◌∙◌}
use Rattle.std.specs.Io.KnownBytes.{Appends, IsAtEnd, prepend_known}
use Rattle.std.proofs.KnownBytes.{Appends-trans}
use Rattle.xb_feed.specs.declared.feed.Intake.{Intake}
use Rattle.xb_feed.specs.declared.fault.RecordingFault.{RecordingFault}
use Rattle.xb_feed.specs.Feeding.{Ends, EndsOf, Feeds, Stops, StopsOf, Writes}
use Rattle.xb_feed.specs.Followers.{Follower}
use Rattle.xb_feed.specs.Watches.{watch_of}
use Rattle.xb_feed.specs.Watching.{Watch, certain_text, notes_of, silent_line, text_of_events, watch_after}
use Rattle.xb_feed.proofs.Fed.{hears_then, text_then, watch_after-append}
use Rattle.xb_feed.proofs.Pieces.{stops_later}

-- all of a recording
ends_later :
    {C G : Type 0} (kind : Follower C G)
    (old mid : Intake C G) (said : Bool) (told bytes more : List ℕ) (a b c : Option (List ℕ)) → Writes kind old bytes mid a b
    → Ends kind mid said told more b c → Ends kind old said told (bytes ++ more) a c
ends_later {C = C} {G = G} kind old mid said told bytes more a b c p e =
    let start : Watch C G = watch_of old.lines in
    let A : List ℕ → Type 0 = λ text. Appends a c text in
    let before : List ℕ = certain_text kind start p.said in
    let known : watch_after kind (watch_of mid.lines) e.events ≡ watch_after kind start (p.said ++ e.events) =
    ap (λ w. watch_after kind w e.events) p.known ∙ sym (watch_after-append kind start p.said e.events) in
    record {
      events = p.said ++ e.events;
      says = p.follows.takes more e.events e.says;
      hears = hears_then kind start (watch_of mid.lines) p.said e.events p.hears p.known e.hears;
      levels = ap (λ w. silent_line w.lines) (sym known) ∙ e.levels;
      heard = e.heard ∙ ap (notes_of kind said) known;
      wrote =
          subst A
          (ap (λ w. before ++ text_of_events kind w e.events) p.known ∙ sym (text_then kind start p.said e.events))
          (Appends-trans a b c before (text_of_events kind (watch_of mid.lines) e.events) p.wrote e.wrote);
    }

pub whole_ends :
    {C G : Type 0} (kind : Follower C G)
    (old mid new : Intake C G) (said : Bool) (told piece : List ℕ) (input left a b c d : Option (List ℕ))
    → Writes kind old piece mid a b → Feeds kind mid new input left b c → IsAtEnd left → Ends kind new said told [] c d
    → EndsOf kind old said told (prepend_known piece input) a d
whole_ends kind old mid new said told piece None left a b c d first fed end e = tt
whole_ends kind old mid new said told piece (Some text) None a b c d first fed end e = absurd fed.read
whole_ends kind old mid new said told piece (Some text) (Some rest) a b c d first fed end e =
    let P : List ℕ → Type 0 = λ t. Ends kind old said told (piece ++ t) a d in
    subst P (sym (fed.read ∙ ap (λ l. fed.bytes ++ l) end))
    (ends_later kind old mid said told piece (fed.bytes ++ []) a b d first
    (ends_later kind mid new said told fed.bytes [] b c d fed.writes e))

pub whole_begins_fault :
    {C G : Type 0} (kind : Follower C G)
    (old : Intake C G) (piece : List ℕ) (fault : RecordingFault) (input a b : Option (List ℕ))
    → ((later : List ℕ) → Stops kind old.reader (watch_of old.lines) (piece ++ later) fault a b)
    → StopsOf kind old (prepend_known piece input) fault a b
whole_begins_fault kind old piece fault None a b stops = tt
whole_begins_fault kind old piece fault (Some text) a b stops = stops text

pub whole_fault :
    {C G : Type 0} (kind : Follower C G)
    (old mid : Intake C G) (piece : List ℕ) (fault : RecordingFault) (input a b c : Option (List ℕ))
    → Writes kind old piece mid a b → StopsOf kind mid input fault b c → StopsOf kind old (prepend_known piece input) fault a c
whole_fault kind old mid piece fault None a b c first stops = tt
whole_fault kind old mid piece fault (Some text) a b c first stops =
    stops_later kind old mid piece text fault a b c first stops

pub whole_end_fault :
    {C G : Type 0} (kind : Follower C G)
    (old mid new : Intake C G) (piece : List ℕ) (fault : RecordingFault) (input left a b c d : Option (List ℕ))
    → Writes kind old piece mid a b → Feeds kind mid new input left b c → IsAtEnd left
    → Stops kind new.reader (watch_of new.lines) [] fault c d → StopsOf kind old (prepend_known piece input) fault a d
whole_end_fault kind old mid new piece fault None left a b c d first fed end stops = tt
whole_end_fault kind old mid new piece fault (Some text) None a b c d first fed end stops = absurd fed.read
whole_end_fault kind old mid new piece fault (Some text) (Some rest) a b c d first fed end stops =
    let P : List ℕ → Type 0 = λ t. Stops kind old.reader (watch_of old.lines) (piece ++ t) fault a d in
    subst P (sym (fed.read ∙ ap (λ l. fed.bytes ++ l) end))
    (stops_later kind old mid piece (fed.bytes ++ []) fault a b d first
    (stops_later kind mid new fed.bytes [] fault b c d fed.writes stops))
