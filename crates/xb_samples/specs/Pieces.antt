-- What samples say, in pieces as they come.
use Rattle.std.specs.Prelude.{◌≡◌, ◌≢◌, ℕ, ◌+◌, ◌^◌, ◌≤◌, List, [], ◌∷◌, ◌++◌, Bool, false, if◌then◌else◌, nat_le}
use Rattle.xb_contact.specs.declared.event.Event.{Event}
use Rattle.xb_contact.specs.declared.event.Event.TheVariants.{At, Edge, Level, Ticks}
use Rattle.xb_contact.specs.declared.event.Refusal.{Refusal}
use Rattle.xb_contact.specs.declared.event.Refusal.TheVariants.{NoMemory}

-- how samples are read: what each says, what is known after it, how many ticks have gone by, and what is said where they
-- end
pub record Reading (S A : Type 0) : Type 0 where
  pub says : S → A → List Event
  pub next : S → A → S
  pub now : S → ℕ
  pub rests : S → List Event

-- what samples say, one after the other, and what is known after them
abbrev pub piece_events : {S A : Type 0} → Reading S A → S → List A → List Event
piece_events {S} {A} reading state [] = []
piece_events {S} {A} reading state (sample ∷ rest) =
    reading.says state sample ++ piece_events reading (reading.next state sample) rest

abbrev pub after_piece : {S A : Type 0} → Reading S A → S → List A → S
after_piece {S} {A} reading state [] = state
after_piece {S} {A} reading state (sample ∷ rest) = after_piece reading (reading.next state sample) rest

-- all samples, up to where they go
abbrev pub ends_at : {S A : Type 0} → Reading S A → S → List Event
ends_at {S} {A} reading state = At (reading.now state) ∷ reading.rests state

abbrev pub samples_events : {S A : Type 0} → Reading S A → S → List A → List Event
samples_events {S} {A} reading state samples =
    piece_events reading state samples ++ ends_at reading (after_piece reading state samples)

-- whether what is said begins with a tick from this one on
abbrev pub begins_from : ℕ → List Event → Bool
begins_from tick [] = false
begins_from tick (At later ∷ rest) = nat_le tick later
begins_from tick (Level wire level ∷ rest) = false
begins_from tick (Edge wire level ∷ rest) = false
begins_from tick (Ticks scale ∷ rest) = false

-- that the levels hold up to a tick says nothing where they hold up to that or a later one: a reader says it
-- where a piece ends. A tick that is greater than the next one stays
abbrev pub until : ℕ → List Event → List Event
until tick said = if begins_from tick said then said else At tick ∷ said

abbrev pub without_waits : List Event → List Event
without_waits [] = []
without_waits (At tick ∷ rest) = until tick (without_waits rest)
without_waits (Level wire level ∷ rest) = Level wire level ∷ without_waits rest
without_waits (Edge wire level ∷ rest) = Edge wire level ∷ without_waits rest
without_waits (Ticks scale ∷ rest) = Ticks scale ∷ without_waits rest

abbrev pub SayTheSame : List Event → List Event → Type 0
SayTheSame events others = without_waits events ≡ without_waits others

-- further samples say these events
abbrev pub SamplesSay : {S A : Type 0} → Reading S A → S → List A → List Event → Type 0
SamplesSay {S} {A} reading state samples events = SayTheSame events (samples_events reading state samples)

-- it was refused: unless memory ran out, so many ticks more cannot be counted below 2^64
abbrev pub RunsOver : ℕ → ℕ → Refusal → Type 0
RunsOver count more refusal = refusal ≢ NoMemory → 2 ^ 64 ≤ count + more
