-- Which words of a VCD say an event.
use Rattle.std.proofs.Common.{◌≡◌, ℕ, ◌+◌, ◌<◌, ◌≤◌, ◌==◌, List, [], ◌∷◌, ◌++◌, Bool, true, false, cond, ◌||◌, Option, length, get_or, drop, refl, ap, sym, subst, ◌∙◌, append_assoc, arith}
use Rattle.std.specs.Prelude.{Ok, Err, slice_range}
use Rattle.std.specs.List.{list_any}
use Rattle.xb_contact.specs.declared.event.Event.{Event}
use Rattle.xb_contact.specs.declared.level.Level.{Level}
use Rattle.xb_contact.specs.Steps.{Adds, Said, all_say}
use Rattle.xb_contact.proofs.StepLemmas.{adds_after}
use Rattle.xb_vcd.specs.VcdChanges.{VcdState, has_code, level_events}
use Rattle.xb_vcd.specs.VcdEvents.{HasEvent, SayAnEvent}
use Rattle.xb_vcd.specs.VcdTexts.{is_blank, word_before, word_says, words_in}
use Rattle.xb_vcd.proofs.WordLemmas.{slice_range-next, slice_range-none, words-at_blank, words-at_byte}

-- where a wire has a code, its change is said
pub some_level :
    (i code : ℕ) (level : Level) (codes : List (Option ℕ)) → list_any (has_code code) codes ≡ true
    → 0 < length (level_events i code level codes)
some_level i code level [] h = cc
some_level i code level (own ∷ rest) h = at (has_code code own) h (some_level (i + 1) code level rest)
  where
    at :
        (has : Bool) → has || list_any (has_code code) rest ≡ true
        → (list_any (has_code code) rest ≡ true → 0 < length (level_events (i + 1) code level rest))
        → 0 < length (cond has (Rattle.xb_contact.specs.declared.event.Event.TheVariants.Level i level ∷ level_events (i + 1) code level rest) (level_events (i + 1) code level rest))
    at true e f = omega arith
    at false e f = f e

-- what was said, and the state then
said_is :
    {S : Type 0} (said : Said S) (old new : List Event) (state : S) → Adds said old new state
    → (events : List Event) × (said ≡ Ok (events, state))
said_is (Err refusal) old new state h = elim h [ ]
said_is (Ok (events, there)) old new state h = (events, ap (λ s. Ok (events, s)) (sym h.1))

is_said : {S : Type 0} (said : Said S) (old events : List Event) (state : S) → said ≡ Ok (events, state) → Adds said old (old ++ events) state
is_said {S} said old events state e = let P : Said S → Type 0 = λ s. Adds s old (old ++ events) state in subst P (sym e) (refl, refl)

-- a word that says an event stands among more words
pub event_first :
    (state : VcdState) (words later : List (List ℕ)) → SayAnEvent state words → SayAnEvent state (words ++ later)
event_first state words later e = record {
  before = e.before;
  word = e.word;
  later = e.later ++ later;
  are = ap (λ w. w ++ later) e.are ∙ append_assoc e.before (e.word ∷ e.later) later;
  said = e.said;
  there = e.there;
  taken = e.taken;
  event = e.event;
}

pub event_after :
    (state there : VcdState) (words later : List (List ℕ)) (old mid : List Event)
    → Adds (all_say word_says state words) old mid there → SayAnEvent there later → SayAnEvent state (words ++ later)
event_after state there words later old mid h e =
    let first = said_is (all_say word_says state words) old mid there h in
    let both =
    said_is (all_say word_says state (words ++ e.before)) [] (first.0 ++ e.said) e.there
    (adds_after word_says words e.before [] first.0 (first.0 ++ e.said) state there e.there
    (is_said (all_say word_says state words) [] first.0 there first.1)
    (is_said (all_say word_says there e.before) first.0 e.said e.there e.taken)) in
    record {
      before = words ++ e.before;
      word = e.word;
      later = e.later;
      are = ap (λ w. words ++ w) e.are ∙ sym (append_assoc words e.before (e.word ∷ e.later));
      said = both.0;
      there = e.there;
      taken = both.1;
      event = e.event;
    }

-- a piece that is a word
pub piece_event :
    (state : VcdState) (piece : List ℕ) → (length piece == 0) ≡ false → HasEvent (word_says state piece)
    → SayAnEvent state (word_before piece)
piece_event state piece some h = record {
  before = [];
  word = piece;
  later = [];
  are = ap (λ none. cond none [] (piece ∷ [])) some;
  said = [];
  there = state;
  taken = refl;
  event = h;
}

-- the word before a blank, or what follows it
pub blank_event :
    (line : List ℕ) (start end : ℕ) (before : VcdState) → end < length line → is_blank (get_or line end 0) ≡ true
    → SayAnEvent before (word_before (slice_range line start end))
    → SayAnEvent before (words_in (slice_range line start end) (drop end line))
blank_event line start end before h b e =
    subst (SayAnEvent before) (sym (words-at_blank line (slice_range line start end) end h b))
    (event_first before (word_before (slice_range line start end)) (words_in [] (drop (end + 1) line)) e)

pub event_after_blank :
    (line : List ℕ) (start end begin : ℕ) (before now taken : VcdState) (old mid : List Event)
    → end < length line → is_blank (get_or line end 0) ≡ true → now ≡ taken → begin ≡ end + 1
    → Adds (all_say word_says before (word_before (slice_range line start end))) old mid taken
    → SayAnEvent now (words_in (slice_range line begin (end + 1)) (drop (end + 1) line))
    → SayAnEvent before (words_in (slice_range line start end) (drop end line))
event_after_blank line start end begin before now taken old mid h b e g first rest =
    let Q : ℕ → Type 0 = λ n. SayAnEvent now (words_in (slice_range line n (end + 1)) (drop (end + 1) line)) in
    let R : List ℕ → Type 0 = λ word. SayAnEvent now (words_in word (drop (end + 1) line)) in
    let S : VcdState → Type 0 = λ s. SayAnEvent s (words_in [] (drop (end + 1) line)) in
    subst (SayAnEvent before) (sym (words-at_blank line (slice_range line start end) end h b))
    (event_after before taken (word_before (slice_range line start end)) (words_in [] (drop (end + 1) line)) old mid first
    (subst S e (subst R (slice_range-none line (end + 1)) (subst Q g rest))))

-- any other byte
pub event_after_byte :
    (line : List ℕ) (start end begin : ℕ) (before now : VcdState) → start ≤ end → end < length line
    → is_blank (get_or line end 0) ≡ false → now ≡ before → begin ≡ start
    → SayAnEvent now (words_in (slice_range line begin (end + 1)) (drop (end + 1) line))
    → SayAnEvent before (words_in (slice_range line start end) (drop end line))
event_after_byte line start end begin before now h k b e g rest =
    let Q : ℕ → Type 0 = λ n. SayAnEvent now (words_in (slice_range line n (end + 1)) (drop (end + 1) line)) in
    let S : VcdState → Type 0 = λ s. SayAnEvent s (words_in (slice_range line start (end + 1)) (drop (end + 1) line)) in
    let R : List ℕ → Type 0 = λ word. SayAnEvent before (words_in word (drop (end + 1) line)) in
    subst (SayAnEvent before) (sym (words-at_byte line (slice_range line start end) end k b))
    (subst R (slice_range-next line start end h k) (subst S e (subst Q g rest)))
