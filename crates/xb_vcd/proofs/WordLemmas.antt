-- The words of a line, byte by byte.
use Rattle.std.proofs.Common.{◌≡◌, ℕ, suc, ◌+◌, ◌-◌, ◌<◌, ◌≤◌, List, [], ◌∷◌, ◌++◌, true, false, cond, length, get_or, take, drop, ap, sym, subst, ◌∙◌, add-one, arith}
use Rattle.std.specs.Prelude.{Err, slice_range}
use Rattle.std.proofs.Math.Seq.{drop-cons, drop-length, take-suc}
use Rattle.std.proofs.lemmas.List.{get_or-drop, length-drop, take_rest}
use Rattle.xb_contact.specs.declared.event.Event.{Event}
use Rattle.xb_contact.specs.declared.event.Refusal.{Refusal}
use Rattle.xb_contact.specs.Steps.{Adds, all_say}
use Rattle.xb_vcd.specs.VcdChanges.{VcdState}
use Rattle.xb_vcd.specs.VcdTexts.{is_blank, word_before, word_says, words_in}
use Rattle.xb_contact.proofs.StepLemmas.{adds_after, refused_after, refused_first}

-- a blank ends the word before it
pub words-at_blank :
    (line word : List ℕ) (end : ℕ) → end < length line → is_blank (get_or line end 0) ≡ true
    → words_in word (drop end line) ≡ word_before word ++ words_in [] (drop (end + 1) line)
words-at_blank line word end h b =
    ap (words_in word) (drop-cons line end 0 h)
    ∙ ap (λ t. cond t (word_before word ++ words_in [] (drop (suc end) line))
    (words_in (word ++ get_or line end 0 ∷ []) (drop (suc end) line))) b
    ∙ ap (λ n. word_before word ++ words_in [] (drop n line)) (sym (add-one end))

-- any other byte belongs to it
pub words-at_byte :
    (line word : List ℕ) (end : ℕ) → end < length line → is_blank (get_or line end 0) ≡ false
    → words_in word (drop end line) ≡ words_in (word ++ get_or line end 0 ∷ []) (drop (end + 1) line)
words-at_byte line word end h b =
    ap (words_in word) (drop-cons line end 0 h)
    ∙ ap (λ t. cond t (word_before word ++ words_in [] (drop (suc end) line))
    (words_in (word ++ get_or line end 0 ∷ []) (drop (suc end) line))) b
    ∙ ap (λ n. words_in (word ++ get_or line end 0 ∷ []) (drop n line)) (sym (add-one end))

-- a part of a line with one byte more
pub slice_range-next :
    (line : List ℕ) (start end : ℕ) → start ≤ end → end < length line
    → slice_range line start (end + 1) ≡ slice_range line start end ++ get_or line end 0 ∷ []
slice_range-next line start end h k =
    let more : end + 1 - start ≡ suc (end - start) = omega arith in
    let within : end - start < length (drop start line) = omega (arith, length-drop {A = ℕ} start line) in
    let place : start + (end - start) ≡ end = omega arith in
    ap (λ n. take n (drop start line)) more
    ∙ take-suc (drop start line) (end - start) 0 within
    ∙ ap (λ byte. take (end - start) (drop start line) ++ byte ∷ [])
    (get_or-drop start line (end - start) 0 ∙ ap (λ n. get_or line n 0) place)

pub slice_range-none : (line : List ℕ) (at : ℕ) → slice_range line at at ≡ []
slice_range-none line at = let none : at - at ≡ 0 = omega arith in ap (λ n. take n (drop at line)) none

-- the words up to a blank were said, and then those after it
pub words_after_blank :
    (line : List ℕ) (start end : ℕ) (before now state : VcdState) (old mid new : List Event)
    → end < length line → is_blank (get_or line end 0) ≡ true
    → Adds (all_say word_says before (word_before (slice_range line start end))) old mid now
    → Adds (all_say word_says now (words_in (slice_range line (end + 1) (end + 1)) (drop (end + 1) line))) mid new state
    → Adds (all_say word_says before (words_in (slice_range line start end) (drop end line))) old new state
words_after_blank line start end before now state old mid new h b first rest =
    let P : List (List ℕ) → Type 0 = λ words. Adds (all_say word_says before words) old new state in
    let Q : List ℕ → Type 0 = λ word. Adds (all_say word_says now (words_in word (drop (end + 1) line))) mid new state in
    subst P (sym (words-at_blank line (slice_range line start end) end h b))
    (adds_after word_says (word_before (slice_range line start end)) (words_in [] (drop (end + 1) line)) old mid new before now state
    first (subst Q (slice_range-none line (end + 1)) rest))

pub words_after_byte :
    (line : List ℕ) (start end : ℕ) (before state : VcdState) (old new : List Event)
    → start ≤ end → end < length line → is_blank (get_or line end 0) ≡ false
    → Adds (all_say word_says before (words_in (slice_range line start (end + 1)) (drop (end + 1) line))) old new state
    → Adds (all_say word_says before (words_in (slice_range line start end) (drop end line))) old new state
words_after_byte line start end before state old new h k b rest =
    let P : List (List ℕ) → Type 0 = λ words. Adds (all_say word_says before words) old new state in
    let Q : List ℕ → Type 0 = λ word. Adds (all_say word_says before (words_in word (drop (end + 1) line))) old new state in
    subst P (sym (words-at_byte line (slice_range line start end) end k b))
    (subst Q (slice_range-next line start end h k) rest)

-- all of a line from a place on
pub all_left : (line : List ℕ) (start : ℕ) → slice_range line start (length line) ≡ drop start line
all_left line start = take_rest line start

-- at the end of a line its last word is what is left
pub words_at_end :
    (line : List ℕ) (start : ℕ) → words_in (slice_range line start (length line)) (drop (length line) line)
    ≡ word_before (drop start line)
words_at_end line start =
    ap (words_in (slice_range line start (length line))) (drop-length line) ∙ ap word_before (all_left line start)

-- where the word before a blank is refused, or what follows it
pub blank_refused :
    (line : List ℕ) (start end : ℕ) (before : VcdState) (refusal : Refusal)
    → end < length line → is_blank (get_or line end 0) ≡ true
    → all_say word_says before (word_before (slice_range line start end)) ≡ Err refusal
    → all_say word_says before (words_in (slice_range line start end) (drop end line)) ≡ Err refusal
blank_refused line start end before refusal h b e =
    ap (all_say word_says before) (words-at_blank line (slice_range line start end) end h b)
    ∙ refused_first word_says (word_before (slice_range line start end)) (words_in [] (drop (end + 1) line)) before refusal e

pub refused_after_blank :
    (line : List ℕ) (start end begin : ℕ) (before now taken : VcdState) (old mid : List Event) (refusal : Refusal)
    → end < length line → is_blank (get_or line end 0) ≡ true → now ≡ taken → begin ≡ end + 1
    → Adds (all_say word_says before (word_before (slice_range line start end))) old mid taken
    → all_say word_says now (words_in (slice_range line begin (end + 1)) (drop (end + 1) line)) ≡ Err refusal
    → all_say word_says before (words_in (slice_range line start end) (drop end line)) ≡ Err refusal
refused_after_blank line start end begin before now taken old mid refusal h b e g first rest =
    let Q : ℕ → Type 0 = λ n. all_say word_says now (words_in (slice_range line n (end + 1)) (drop (end + 1) line)) ≡ Err refusal in
    let R : List ℕ → Type 0 = λ word. all_say word_says now (words_in word (drop (end + 1) line)) ≡ Err refusal in
    let S : VcdState → Type 0 = λ s. all_say word_says s (words_in [] (drop (end + 1) line)) ≡ Err refusal in
    ap (all_say word_says before) (words-at_blank line (slice_range line start end) end h b)
    ∙ refused_after word_says (word_before (slice_range line start end)) (words_in [] (drop (end + 1) line)) old mid before taken
    refusal first (subst S e (subst R (slice_range-none line (end + 1)) (subst Q g rest)))

pub refused_after_byte :
    (line : List ℕ) (start end begin : ℕ) (before now : VcdState) (refusal : Refusal) → start ≤ end → end < length line
    → is_blank (get_or line end 0) ≡ false → now ≡ before → begin ≡ start
    → all_say word_says now (words_in (slice_range line begin (end + 1)) (drop (end + 1) line)) ≡ Err refusal
    → all_say word_says before (words_in (slice_range line start end) (drop end line)) ≡ Err refusal
refused_after_byte line start end begin before now refusal h k b e g rest =
    let Q : ℕ → Type 0 = λ n. all_say word_says now (words_in (slice_range line n (end + 1)) (drop (end + 1) line)) ≡ Err refusal in
    let S : VcdState → Type 0 = λ s. all_say word_says s (words_in (slice_range line start (end + 1)) (drop (end + 1) line)) ≡ Err refusal in
    let R : List ℕ → Type 0 = λ word. all_say word_says before (words_in word (drop (end + 1) line)) ≡ Err refusal in
    ap (all_say word_says before) (words-at_byte line (slice_range line start end) end k b)
    ∙ subst R (slice_range-next line start end h k) (subst S e (subst Q g rest))

-- no word has come
pub none_at_blank :
    (line : List ℕ) (start end : ℕ) → start ≡ end → end < length line → is_blank (get_or line end 0) ≡ true
    → words_in (slice_range line start end) (drop end line) ≡ words_in [] line
    → words_in (slice_range line (end + 1) (end + 1)) (drop (end + 1) line) ≡ words_in [] line
none_at_blank line start end none within blank so_far =
    ap (λ word. words_in word (drop (end + 1) line)) (slice_range-none line (end + 1))
    ∙ ap (λ word. word_before word ++ words_in [] (drop (end + 1) line)) (sym (slice_range-none line end))
    ∙ sym (words-at_blank line (slice_range line end end) end within blank)
    ∙ ap (λ n. words_in (slice_range line n end) (drop end line)) (sym none) ∙ so_far

pub more_at_byte :
    (line : List ℕ) (start end : ℕ) → start ≤ end → end < length line → is_blank (get_or line end 0) ≡ false
    → words_in (slice_range line start end) (drop end line) ≡ words_in [] line
    → words_in (slice_range line start (end + 1)) (drop (end + 1) line) ≡ words_in [] line
more_at_byte line start end places within byte so_far =
    ap (λ word. words_in word (drop (end + 1) line)) (slice_range-next line start end places within)
    ∙ sym (words-at_byte line (slice_range line start end) end within byte) ∙ so_far
