-- What the words of a VCD say.
use Rattle.std.proofs.Common.{◌≡◌, ℕ, ◌+◌, ◌<◌, ◌≤◌, ◌==◌, List, [], ◌∷◌, Bool, true, false, cond, length, get_or, drop, refl, sym, subst, append-nil}
use Rattle.std.specs.Prelude.{slice_range}
use Rattle.xb_contact.specs.declared.event.Event.{Event}
use Rattle.xb_contact.specs.Steps.{Adds, all_say}
use Rattle.xb_vcd.specs.VcdChanges.{VcdState}
use Rattle.xb_vcd.specs.VcdTexts.{is_blank, word_before, word_says, words_in}
use Rattle.xb_contact.proofs.StepLemmas.{adds_next}
use Rattle.xb_vcd.proofs.WordLemmas.{words_after_blank, words_after_byte}

-- a piece that is a word
pub piece_adds :
    (state now : VcdState) (piece : List ℕ) (old new : List Event) → (length piece == 0) ≡ false
    → Adds (word_says state piece) old new now → Adds (all_say word_says state (word_before piece)) old new now
piece_adds state now piece old new some h =
    let P : Bool → Type 0 = λ none. Adds (all_say word_says state (cond none [] (piece ∷ []))) old new now in
    subst P (sym some)
    (adds_next word_says piece [] old new new state now now h (sym (append-nil new), refl))

-- a blank, where the piece before it was taken
pub blank_adds :
    (line : List ℕ) (start end begin : ℕ) (before now taken state : VcdState) (old mid said new : List Event)
    → end < length line → is_blank (get_or line end 0) ≡ true → now ≡ taken → mid ≡ said → begin ≡ end + 1
    → Adds (all_say word_says before (word_before (slice_range line start end))) old said taken
    → Adds (all_say word_says now (words_in (slice_range line begin (end + 1)) (drop (end + 1) line))) mid new state
    → Adds (all_say word_says before (words_in (slice_range line start end) (drop end line))) old new state
blank_adds line start end begin before now taken state old mid said new h b e f g first rest =
    let P : VcdState → Type 0 = λ s. Adds (all_say word_says before (word_before (slice_range line start end))) old said s in
    let Q : List Event → Type 0 = λ m. Adds (all_say word_says before (word_before (slice_range line start end))) old m now in
    let R : ℕ → Type 0 = λ n. Adds (all_say word_says now (words_in (slice_range line n (end + 1)) (drop (end + 1) line))) mid new state in
    words_after_blank line start end before now state old mid new h b (subst Q (sym f) (subst P (sym e) first)) (subst R g rest)

-- any other byte
pub byte_adds :
    (line : List ℕ) (start end begin : ℕ) (before now state : VcdState) (old mid new : List Event)
    → start ≤ end → end < length line → is_blank (get_or line end 0) ≡ false → now ≡ before → mid ≡ old → begin ≡ start
    → Adds (all_say word_says now (words_in (slice_range line begin (end + 1)) (drop (end + 1) line))) mid new state
    → Adds (all_say word_says before (words_in (slice_range line start end) (drop end line))) old new state
byte_adds line start end begin before now state old mid new k h b e f g rest =
    let P : VcdState → Type 0 = λ s. Adds (all_say word_says s (words_in (slice_range line begin (end + 1)) (drop (end + 1) line))) mid new state in
    let Q : List Event → Type 0 = λ m. Adds (all_say word_says before (words_in (slice_range line begin (end + 1)) (drop (end + 1) line))) m new state in
    let R : ℕ → Type 0 = λ n. Adds (all_say word_says before (words_in (slice_range line n (end + 1)) (drop (end + 1) line))) old new state in
    words_after_byte line start end before state old new k h b (subst R g (subst Q f (subst P e rest)))
