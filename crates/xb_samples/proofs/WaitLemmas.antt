-- What samples say in pieces.
use Rattle.std.proofs.Common.{◌≡◌, ℕ, ◌+◌, ◌<◌, ◌≤◌, List, [], ◌∷◌, ◌++◌, Bool, true, false, cond, drop, get_or, length, refl, ap, sym, subst, ◌∙◌, append_assoc, append-nil, arith}
use Rattle.std.proofs.lemmas.Bool.Decides.{nat_tests}
use Rattle.std.proofs.lemmas.List.{at_drop_all, at_drop_more}
use Rattle.xb_contact.specs.declared.event.Event.{Event}
use Rattle.xb_contact.specs.declared.event.Event.TheVariants.{At, Edge, Level, Ticks}
use Rattle.xb_samples.specs.Pieces.{Reading, SamplesSay, SayTheSame, after_piece, begins_from, ends_at, piece_events, samples_events, until, without_waits}

-- what stands before does not matter
pub same-after : (said a b : List Event) → SayTheSame a b → SayTheSame (said ++ a) (said ++ b)
same-after [] a b h = h
same-after (At tick ∷ rest) a b h = ap (until tick) (same-after rest a b h)
same-after (Level wire level ∷ rest) a b h = ap (λ said. Level wire level ∷ said) (same-after rest a b h)
same-after (Edge wire level ∷ rest) a b h = ap (λ said. Edge wire level ∷ said) (same-after rest a b h)
same-after (Ticks scale ∷ rest) a b h = ap (λ said. Ticks scale ∷ said) (same-after rest a b h)

-- what begins from a tick on begins from an earlier one on
begins-before :
    (tick count : ℕ) (said : List Event) → tick ≤ count → begins_from count said ≡ true → begins_from tick said ≡ true
begins-before tick count [] less h = h
begins-before tick count (At later ∷ rest) less h = grind (arith, nat_tests)
begins-before tick count (Level wire level ∷ rest) less h = h
begins-before tick count (Edge wire level ∷ rest) less h = h
begins-before tick count (Ticks scale ∷ rest) less h = h

pub until-begins : (tick count : ℕ) (said : List Event) → tick ≤ count → begins_from tick (until count said) ≡ true
until-begins tick count said less = at (begins_from count said) refl
  where
    at : (later : Bool) → begins_from count said ≡ later → begins_from tick (cond later said (At count ∷ said)) ≡ true
    at true e = begins-before tick count said less e
    at false e = grind (arith, nat_tests)

-- each sample says nothing, or first up to when something held; and no tick is before the last one
abbrev pub SayWhen : {S A : Type 0} → Reading S A → Type 0
SayWhen {S} {A} reading =
    (state : S) (sample : A) → (reading.now state ≤ reading.now (reading.next state sample))
    × ((tick : ℕ) (later : List Event) → tick ≤ reading.now state → begins_from tick (without_waits later) ≡ true
    → begins_from tick (without_waits (reading.says state sample ++ later)) ≡ true)

-- so samples do
samples-begin :
    {S A : Type 0} (reading : Reading S A) (state : S) (tick : ℕ) (samples : List A) → SayWhen reading
    → tick ≤ reading.now state → begins_from tick (without_waits (samples_events reading state samples)) ≡ true
samples-begin reading state tick [] when less = until-begins tick (reading.now state) (without_waits (reading.rests state)) less
samples-begin reading state tick (sample ∷ rest) when less =
    let whole = append_assoc (reading.says state sample) (piece_events reading (reading.next state sample) rest)
    (ends_at reading (after_piece reading (reading.next state sample) rest)) in
    let grows : reading.now state ≤ reading.now (reading.next state sample) = (when state sample).0 in
    ap (λ said. begins_from tick (without_waits said)) whole
    ∙ (when state sample).1 tick (samples_events reading (reading.next state sample) rest) less
    (samples-begin reading (reading.next state sample) tick rest when (omega (arith, less, grows)))

-- and a wait before them says nothing more
waits :
    {S A : Type 0} (reading : Reading S A) (state : S) (tick : ℕ) (samples : List A) (later : List Event) → SayWhen reading
    → tick ≤ reading.now state → SamplesSay reading state samples later → SamplesSay reading state samples (At tick ∷ later)
waits reading state tick samples later when less h =
    ap (until tick) h
    ∙ ap (λ b. cond b (without_waits (samples_events reading state samples))
    (At tick ∷ without_waits (samples_events reading state samples))) (samples-begin reading state tick samples when less)

-- a piece, and then the rest
pub after-piece :
    {S A : Type 0} (reading : Reading S A) (state : S) (piece text : List A)
    → after_piece reading state (piece ++ text) ≡ after_piece reading (after_piece reading state piece) text
after-piece reading state [] text = refl
after-piece reading state (sample ∷ rest) text = after-piece reading (reading.next state sample) rest text

pub piece-piece :
    {S A : Type 0} (reading : Reading S A) (state : S) (piece text : List A)
    → piece_events reading state (piece ++ text)
    ≡ piece_events reading state piece ++ piece_events reading (after_piece reading state piece) text
piece-piece reading state [] text = refl
piece-piece reading state (sample ∷ rest) text =
    ap (λ later. reading.says state sample ++ later) (piece-piece reading (reading.next state sample) rest text)
    ∙ sym (append_assoc (reading.says state sample) (piece_events reading (reading.next state sample) rest)
    (piece_events reading (after_piece reading (reading.next state sample) rest) text))

samples-piece :
    {S A : Type 0} (reading : Reading S A) (state : S) (piece text : List A)
    → samples_events reading state (piece ++ text)
    ≡ piece_events reading state piece ++ samples_events reading (after_piece reading state piece) text
samples-piece {S} {A} reading state piece text =
    let mid : S = after_piece reading state piece in
    ap (λ said. said ++ ends_at reading (after_piece reading state (piece ++ text))) (piece-piece reading state piece text)
    ∙ append_assoc (piece_events reading state piece) (piece_events reading mid text)
    (ends_at reading (after_piece reading state (piece ++ text)))
    ∙ ap (λ s. piece_events reading state piece ++ (piece_events reading mid text ++ ends_at reading s))
    (after-piece reading state piece text)

-- so a piece that ends in a wait says what its samples do
pub piece_says :
    {S A : Type 0} (reading : Reading S A) (old new : S) (piece text : List A) (mid said later : List Event) → SayWhen reading
    → mid ≡ piece_events reading old piece → new ≡ after_piece reading old piece → said ≡ mid ++ At (reading.now new) ∷ []
    → SamplesSay reading new text later → SamplesSay reading old (piece ++ text) (said ++ later)
piece_says {S} reading old new piece text mid said later when e f g h =
    let before : List Event = piece_events reading old piece in
    let waiting : List Event = At (reading.now new) ∷ later in
    let Q : S → Type 0 = λ s. SayTheSame (before ++ waiting) (before ++ samples_events reading s text) in
    let R : List Event → Type 0 = λ m. SayTheSame m (samples_events reading old (piece ++ text)) in
    let here : SayTheSame (before ++ waiting) (before ++ samples_events reading new text) =
    same-after before waiting (samples_events reading new text) (waits reading new (reading.now new) text later when (omega arith) h) in
    let there : SayTheSame (before ++ waiting) (before ++ samples_events reading (after_piece reading old piece) text) =
    subst Q f here in
    let whole : SayTheSame (before ++ waiting) (samples_events reading old (piece ++ text)) =
    there ∙ ap without_waits (sym (samples-piece reading old piece text)) in
    let told : said ++ later ≡ before ++ waiting =
    ap (λ m. m ++ later) (g ∙ ap (λ m. m ++ At (reading.now new) ∷ []) e)
    ∙ append_assoc before (At (reading.now new) ∷ []) later in
    subst R (sym told) whole

-- one more sample of a piece
pub events_more :
    {S A : Type 0} (reading : Reading S A) (old new : S) (samples : List A) (i : ℕ) (none : A) (mid now all : List Event)
    → i < length samples → new ≡ reading.next old (get_or samples i none)
    → now ≡ mid ++ reading.says old (get_or samples i none)
    → mid ++ piece_events reading old (drop i samples) ≡ all
    → now ++ piece_events reading new (drop (i + 1) samples) ≡ all
events_more {S} {A} reading old new samples i none mid now all h is e so_far =
    let says : List Event = reading.says old (get_or samples i none) in
    let rest : List A = drop (i + 1) samples in
    ap (λ (n : List Event). n ++ piece_events reading new rest) e ∙ append_assoc mid says (piece_events reading new rest)
    ∙ ap (λ (s : S). mid ++ (says ++ piece_events reading s rest)) is
    ∙ sym (at_drop_more (λ (k : List A). mid ++ piece_events reading old k) samples i none h) ∙ so_far

pub state_more :
    {S A : Type 0} (reading : Reading S A) (old new all : S) (samples : List A) (i : ℕ) (none : A)
    → i < length samples → new ≡ reading.next old (get_or samples i none)
    → after_piece reading old (drop i samples) ≡ all → after_piece reading new (drop (i + 1) samples) ≡ all
state_more {S} {A} reading old new all samples i none h is so_far =
    ap (λ (s : S). after_piece reading s (drop (i + 1) samples)) is
    ∙ sym (at_drop_more (λ (k : List A). after_piece reading old k) samples i none h) ∙ so_far

-- all of it
pub events_whole :
    {S A : Type 0} (reading : Reading S A) (state : S) (samples : List A) (i : ℕ) (now all : List Event)
    → length samples ≤ i → now ++ piece_events reading state (drop i samples) ≡ all → now ≡ all
events_whole {S} {A} reading state samples i now all h so_far =
    sym (append-nil now) ∙ sym (at_drop_all (λ (k : List A). now ++ piece_events reading state k) samples i h) ∙ so_far

pub state_whole :
    {S A : Type 0} (reading : Reading S A) (state all : S) (samples : List A) (i : ℕ)
    → length samples ≤ i → after_piece reading state (drop i samples) ≡ all → state ≡ all
state_whole {S} {A} reading state all samples i h so_far =
    sym (at_drop_all (λ (k : List A). after_piece reading state k) samples i h) ∙ so_far
