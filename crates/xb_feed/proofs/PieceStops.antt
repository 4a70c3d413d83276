-- A piece of a recording: its rows were written, or it has a fault.
use Rattle.std.proofs.Common.{◌≡◌, ◌≢◌, ℕ, List, [], ◌∷◌, ◌++◌, Option, refl, ap, sym, subst, ◌∙◌, append_assoc, append-nil, inl, inr, string_bytes}
use Rattle.std.specs.Prelude.{IfErr, OnOk, Result, Ok, Err}
use Rattle.std.specs.Io.KnownBytes.{Appends}
use Rattle.xb_text.specs.Writing.{AppendsBeginning}
use Rattle.xb_contact.specs.declared.event.Event.{Event}
use Rattle.xb_recording.specs.declared.reader.Reader.{Reader}
use Rattle.xb_recording.specs.Says.{Takes}
use Rattle.xb_feed.specs.declared.feed.Intake.{Intake}
use Rattle.xb_feed.specs.declared.fault.RecordingFault.{RecordingFault}
use Rattle.xb_feed.specs.declared.fault.RecordingFault.TheVariants as faults
use Rattle.xb_feed.specs.Faults.{IsFaultAfter}
use Rattle.xb_feed.specs.Feeding.{GoesOn, Halts, IsFaultOfPiece, IsFaultOfRest, SaysFirst, Stops, Writes, WritesBefore, Wrote}
use Rattle.xb_feed.specs.Followers.{Follower}
use Rattle.xb_feed.specs.Watches.{watch_of}
use Rattle.xb_feed.specs.Watching.{Watch, certain_text, watch_after}
use Rattle.xb_feed.proofs.Fed.{certain-append}
use Rattle.xb_feed.proofs.Stopped.{says_nothing, stops_no_memory, why_within, wrote_all}

-- a piece whose rows were written
pub wrote_piece :
    {C G : Type 0} (kind : Follower C G)
    (old mid new : Intake C G) (piece : List ℕ) (a b : Option (List ℕ)) → string_bytes old.text ≡ [] → GoesOn kind old piece mid
    → new.reader ≡ mid.reader → watch_of new.lines ≡ watch_of mid.lines → string_bytes new.text ≡ []
    → Appends a b (string_bytes mid.text) → Writes kind old piece new a b
wrote_piece kind old mid new piece a b empty p reader watch none wrote =
    let P : Reader → Type 0 = λ r. Takes old.reader r piece p.said in
    let A : List ℕ → Type 0 = λ text. Appends a b text in
    record {
      said = p.said;
      follows = (rw reader p.follows);
      known = watch ∙ p.down.known;
      hears = p.down.hears;
      wrote =
          subst A (p.down.records ∙ ap (λ rows. rows ++ certain_text kind (watch_of old.lines) p.said) empty) wrote;
      none_left = none;
    }

-- one that was not written
pub stops_writing :
    {C G : Type 0} (kind : Follower C G)
    (old mid : Intake C G) (piece later : List ℕ) (fault : RecordingFault) (a b : Option (List ℕ))
    → string_bytes old.text ≡ [] → GoesOn kind old piece mid → fault ≡ faults.Write
    → AppendsBeginning a b (string_bytes mid.text)
    → Stops kind old.reader (watch_of old.lines) (piece ++ later) fault a b
stops_writing kind old mid piece later fault a b empty p is wrote =
    let P : RecordingFault → Type 0 = λ f. Stops kind old.reader (watch_of old.lines) (piece ++ later) f a b in
    let A : List ℕ → Type 0 = λ text. AppendsBeginning a b text in
    let rows : string_bytes mid.text ≡ certain_text kind (watch_of old.lines) p.said ++ [] =
    p.down.records ∙ ap (λ rows. rows ++ certain_text kind (watch_of old.lines) p.said) empty
    ∙ sym (append-nil (certain_text kind (watch_of old.lines) p.said)) in
    subst P (sym is) (record {
      taken = piece;
      later = later;
      are = refl;
      there = mid.reader;
      said = p.said;
      follows = p.follows;
      text = [];
      why = inl ([], says_nothing mid.reader later, refl);
      wrote = subst A rows wrote;
    })

-- a fault within a piece
said_first :
    {C G : Type 0} (kind : Follower C G)
    (reader after : Reader) (refused rest : List ℕ) (watch : Watch C G) (put : List Event) (fault : RecordingFault)
    → IsFaultAfter kind reader watch refused put after fault
    → SaysFirst reader (refused ++ rest) put
said_first kind reader after refused rest watch put fault why =
    let S : List Event → Type 0 = λ p. SaysFirst reader (refused ++ rest) p in
    elim (why.why) [
      | inl (refuses, none) ↦ subst S (sym none) (says_nothing reader (refused ++ rest))
      | inr (late, (events, takes, is_late)) ↦ record {
        bytes = refused;
        rest = rest;
        are = refl;
        after = after;
        more = is_late.event ∷ is_late.later;
        takes = (let T : List Event → Type 0 = λ e. Takes reader after refused e in subst T is_late.are takes);
      }
    ]

module _ {C G : Type 0} (kind : Follower C G) (old mid : Intake C G) (piece later : List ℕ) (fault : RecordingFault) (a b : Option (List ℕ))
    (empty : string_bytes old.text ≡ []) (h : Halts kind old piece mid fault) where
  abbrev start : Watch C G
  start = watch_of old.lines

  abbrev there : Watch C G
  there = watch_after kind start h.said

  abbrev following : List ℕ
  following = h.refused ++ (h.rest ++ later)

  whole : piece ++ later ≡ h.taken ++ following
  whole =
      ap (λ p. p ++ later) h.are ∙ append_assoc h.taken (h.refused ++ h.rest) later
      ∙ ap (λ r. h.taken ++ r) (append_assoc h.refused h.rest later)

  rows : string_bytes mid.text ≡ certain_text kind start h.said ++ certain_text kind there h.put
  rows =
      h.records ∙ ap (λ r. r ++ certain_text kind start (h.said ++ h.put)) empty ∙ certain-append kind start h.said h.put

  with_text :
      (told : RecordingFault) → IsFaultOfRest kind h.reader there following told (certain_text kind there h.put)
      → Wrote told a b (certain_text kind start h.said ++ certain_text kind there h.put)
      → Stops kind old.reader start (piece ++ later) told a b
  with_text told why wrote = record {
    taken = h.taken;
    later = following;
    are = whole;
    there = h.reader;
    said = h.said;
    follows = h.follows;
    text = certain_text kind there h.put;
    why = why;
    wrote = wrote;
  }

  pub refused_there : fault ≢ faults.NoMemory → Appends a b (string_bytes mid.text)
      → Stops kind old.reader (watch_of old.lines) (piece ++ later) fault a b
  refused_there ne wrote =
      let A : List ℕ → Type 0 = λ text. Appends a b text in
      with_text fault
      (why_within kind h.reader there following fault (certain_text kind there h.put) ne (record {
        refused = h.refused;
        rest = h.rest ++ later;
        are = refl;
        after = mid.reader;
        put = h.put;
        why = h.why;
        records = refl;
      }))
      (wrote_all fault mid.reader h.why.refusal a b (certain_text kind start h.said ++ certain_text kind there h.put) h.why.told
      (subst A rows wrote))

  pub unwritten_there : AppendsBeginning a b (string_bytes mid.text)
      → Stops kind old.reader (watch_of old.lines) (piece ++ later) faults.Write a b
  unwritten_there wrote =
      let A : List ℕ → Type 0 = λ text. AppendsBeginning a b text in
      with_text faults.Write
      (inl (h.put, said_first kind h.reader mid.reader h.refused (h.rest ++ later) there h.put fault h.why, refl))
      (subst A rows wrote)

pub stops_within :
    {C G : Type 0} (kind : Follower C G)
    (old mid : Intake C G) (piece later : List ℕ) (fault told : RecordingFault) (a b : Option (List ℕ))
    → string_bytes old.text ≡ [] → IsFaultOfPiece kind old piece mid fault
    → WritesBefore (string_bytes mid.text) fault told a b
    → Stops kind old.reader (watch_of old.lines) (piece ++ later) told a b
stops_within kind old mid piece later fault told a b empty f (inl (is, kept)) =
    stops_no_memory kind old.reader (watch_of old.lines) (piece ++ later) told a b is kept
stops_within kind old mid piece later fault told a b empty (inl none) (inr (ne, wrote)) = absurd (ne none)
stops_within kind old mid piece later fault told a b empty (inr h) (inr (ne, inl (is, wrote))) =
    let P : RecordingFault → Type 0 = λ f. Stops kind old.reader (watch_of old.lines) (piece ++ later) f a b in
    subst P (sym is) (refused_there kind old mid piece later fault a b empty h ne wrote)
stops_within kind old mid piece later fault told a b empty (inr h) (inr (ne, inr (is, wrote))) =
    let P : RecordingFault → Type 0 = λ f. Stops kind old.reader (watch_of old.lines) (piece ++ later) f a b in
    subst P (sym is) (unwritten_there kind old mid piece later fault a b empty h wrote)

-- what a call returned
pub writes_ok :
    {C G : Type 0} (kind : Follower C G)
    (r : Result (Unit {0}) RecordingFault) (old mid new : Intake C G) (piece : List ℕ) (a b : Option (List ℕ))
    → string_bytes old.text ≡ [] → GoesOn kind old piece mid → new.reader ≡ mid.reader
    → watch_of new.lines ≡ watch_of mid.lines → OnOk r (string_bytes new.text ≡ [])
    → OnOk r (Appends a b (string_bytes mid.text)) → OnOk r (Writes kind old piece new a b)
writes_ok kind (Ok u) old mid new piece a b empty p reader watch none wrote =
    wrote_piece kind old mid new piece a b empty p reader watch none wrote
writes_ok kind (Err fault) old mid new piece a b empty p reader watch none wrote = tt

pub writes_err :
    {C G : Type 0} (kind : Follower C G)
    (r : Result (Unit {0}) RecordingFault) (old mid : Intake C G) (piece : List ℕ) (a b : Option (List ℕ))
    → string_bytes old.text ≡ [] → GoesOn kind old piece mid
    → IfErr r (λ fault. (fault ≡ faults.Write) × AppendsBeginning a b (string_bytes mid.text))
    → IfErr r (λ fault. (later : List ℕ) → Stops kind old.reader (watch_of old.lines) (piece ++ later) fault a b)
writes_err kind (Ok u) old mid piece a b empty p failed = tt
writes_err kind (Err fault) old mid piece a b empty p failed =
    λ later. stops_writing kind old mid piece later fault a b empty p failed.0 failed.1

pub stops_err :
    {C G : Type 0} (kind : Follower C G)
    (r : Result (Unit {0}) RecordingFault) (old mid : Intake C G) (piece : List ℕ) (fault : RecordingFault)
    (a b : Option (List ℕ)) → string_bytes old.text ≡ [] → IsFaultOfPiece kind old piece mid fault
    → IfErr r (λ told. WritesBefore (string_bytes mid.text) fault told a b)
    → IfErr r (λ told. (later : List ℕ) → Stops kind old.reader (watch_of old.lines) (piece ++ later) told a b)
stops_err kind (Ok u) old mid piece fault a b empty f wrote = tt
stops_err kind (Err told) old mid piece fault a b empty f wrote =
    λ later. stops_within kind old mid piece later fault told a b empty f wrote

pub never_ok : (r : Result (Unit {0}) RecordingFault) (P : Type 0) → OnOk r ⊥ → OnOk r P
never_ok (Ok u) P never = absurd never
never_ok (Err fault) P never = tt
