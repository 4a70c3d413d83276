-- Marks that are printed are read.
use Rattle.std.proofs.Common.{◌≡◌, ◌≢◌, ◌∙◌, ℕ, ◌≤◌, ◌<◌, ◌+◌, true, false, List, [], ◌∷◌, ◌++◌, map, Option, Some, None, ap, append_assoc, append-nil, arith, refl, sym, subst, codes, eqb, eqb-true, Bool, cond, ◌&&◌}
use Rattle.std.specs.Prelude.{decimal, option_and_then, option_map, nat_lt}
use Rattle.std.specs.List.{AllByRecursion, list_all, range_with_len}
use Rattle.xb_model.specs.declared.key.Key.{Key}
use Rattle.xb_model.specs.declared.key.Key.TheVariants.{Digit, Kp, St}
use Rattle.xb_model.specs.declared.key.Tone.{Tone as Pair}
use Rattle.xb_model.specs.declared.mark.Mark.{Mark}
use Rattle.xb_model.specs.declared.mark.Mark.TheVariants.{Trunk, Tone, Refused}
use Rattle.xb_model.specs.MfPairs.{key_of_pair, mf_pair}
use Rattle.xb_model.specs.Page.{four_digits, key_text, mark_text, marks_text, pair_text}
use Rattle.xb_model.proofs.WrittenFields.{field_number-decimal}
use Rattle.std.proofs.lemmas.Bool.{false≢true, ltb-true}
use Rattle.xb_page.specs.ReadBack.{IsKey, IsMark}
use Rattle.xb_page.specs.ReadPages.{before, hz_of, mark_of, mark_of_two, marks_of, named_tone, pair_of, pair_of_two, tone_of, two_of}
use Rattle.xb_text.specs.Pieces.{pieces}
use Rattle.xb_page.proofs.Avoiding.{Avoids, both, pieces-cut, pieces-whole, weaker}
use Rattle.xb_page.proofs.NumbersBack.{IsDigitByte, and-both, avoids-colon, avoids-plus, bytes_eq-same, decimal-bytes, four_digits-back, four_digits-bytes, holds_below}

-- a mark of a keyed entry
abbrev pub IsKeyMark : Mark → Type 0
IsKeyMark (Trunk t) = IsMark (Trunk t)
IsKeyMark (Tone key pair) = IsMark (Tone key pair)
IsKeyMark (Refused reason heard) = ⊥

-- what is printed of it, without the space before
abbrev pub mark_field : Mark → List ℕ
mark_field (Trunk t) = four_digits t
mark_field (Tone key pair) = key_text key ++ codes ":" ++ pair_text pair
mark_field (Refused reason heard) = []

-- the pair of a key is that of no other
abbrev is_digit : ℕ → Option Key → Bool
is_digit d None = false
is_digit d (Some (Digit e)) = eqb d e
is_digit d (Some Kp) = false
is_digit d (Some St) = false

is_digit-true : (d : ℕ) (key : Option Key) → is_digit d key ≡ true → key ≡ Some (Digit d)
is_digit-true d None e = absurd (false≢true e)
is_digit-true d (Some (Digit k)) e = ap (λ (n : ℕ). Some (Digit n)) (sym (eqb-true d k e))
is_digit-true d (Some Kp) e = absurd (false≢true e)
is_digit-true d (Some St) e = absurd (false≢true e)

abbrev is_own : ℕ → Bool
is_own d = is_digit d (key_of_pair (mf_pair (Digit d)))

all_are_own : list_all is_own (range_with_len 0 10) ≡ true
all_are_own = refl

key-back : (key : Key) → IsKey key → key_of_pair (mf_pair key) ≡ Some key
key-back (Digit d) is =
    is_digit-true d (key_of_pair (mf_pair (Digit d)))
    (holds_below is_own 10 0 all_are_own d (omega arith) (omega arith))
key-back Kp is = refl
key-back St is = refl

-- the bytes of a key, and of a field
abbrev IsWordByte : ℕ → Type 0
IsWordByte x = (48 ≤ x) × (x ≢ 58)

abbrev IsFieldByte : ℕ → Type 0
IsFieldByte x = 43 ≤ x

digit-word : (x : ℕ) → IsDigitByte x → IsWordByte x
digit-word x digit = (digit.0, λ e. absurd (omega arith))

key-bytes : (key : Key) → IsKey key → AllByRecursion IsWordByte (key_text key)
key-bytes (Digit d) is = weaker IsDigitByte IsWordByte digit-word (decimal d) (decimal-bytes d (omega arith))
key-bytes Kp is = ((omega arith, λ e. absurd (omega arith)), ((omega arith, λ e. absurd (omega arith)), tt))
key-bytes St is = ((omega arith, λ e. absurd (omega arith)), ((omega arith, λ e. absurd (omega arith)), tt))

-- the two frequencies of a key have at most four digits
abbrev IsShort : Pair → Type 0
IsShort pair = (pair.low < 10000) × (pair.high < 10000)

abbrev are_short : ℕ → Bool
are_short d = nat_lt (mf_pair (Digit d)).low 10000 && nat_lt (mf_pair (Digit d)).high 10000

all_are_short : list_all are_short (range_with_len 0 10) ≡ true
all_are_short = refl

own-short : (key : Key) → IsKey key → IsShort (mf_pair key)
own-short (Digit d) is =
    let short = and-both _ _ (holds_below are_short 10 0 all_are_short d (omega arith) (omega arith)) in
    (ltb-true _ _ short.0, ltb-true _ _ short.1)
own-short Kp is = (omega arith, omega arith)
own-short St is = (omega arith, omega arith)

key_pair-short : (key : Key) (pair : Pair) → IsMark (Tone key pair) → IsShort pair
key_pair-short key pair is = subst IsShort (sym is.1) (own-short key is.0)

hz-back : (hz : ℕ) → hz < 10000 → hz_of (decimal hz) ≡ Some hz
hz-back hz below = field_number-decimal 4 hz (omega arith) (omega arith) (omega arith)

pair-back : (pair : Pair) → IsShort pair → pair_of (pair_text pair) ≡ Some pair
pair-back pair short =
    let low_bytes = decimal-bytes pair.low (omega (arith, short.0)) in
    let high_bytes = decimal-bytes pair.high (omega (arith, short.1)) in
    let cut : pieces 43 (pair_text pair) ≡ decimal pair.low ∷ decimal pair.high ∷ [] =
    ap (λ (text : List ℕ). pieces 43 text) (append_assoc (decimal pair.low) (codes "+") (decimal pair.high))
    ∙ pieces-cut 43 (decimal pair.low) (decimal pair.high) (avoids-plus (decimal pair.low) low_bytes)
    ∙ ap (λ (rest : List (List ℕ)). decimal pair.low ∷ rest)
    (pieces-whole 43 (decimal pair.high) (avoids-plus (decimal pair.high) high_bytes)) in
    ap (λ (parts : List (List ℕ)). option_and_then (λ (two : List ℕ × List ℕ). pair_of_two (hz_of two.0) (hz_of two.1)) (two_of parts)) cut
    ∙ ap (λ (l : Option ℕ). pair_of_two l (hz_of (decimal pair.high))) (hz-back pair.low short.0)
    ∙ ap (λ (h : Option ℕ). pair_of_two (Some pair.low) h) (hz-back pair.high short.1)

pair-field : (pair : Pair) → IsShort pair → AllByRecursion (λ x. (43 ≤ x) × (x ≢ 58)) (pair_text pair)
pair-field pair short =
    let P : ℕ → Type 0 = λ x. (43 ≤ x) × (x ≢ 58) in
    let digits_are : (x : ℕ) → IsDigitByte x → P x = λ x digit. (omega arith, λ e. absurd (omega arith)) in
    both P (decimal pair.low ++ codes "+") (decimal pair.high)
    (both P (decimal pair.low) (codes "+")
    (weaker IsDigitByte P digits_are (decimal pair.low) (decimal-bytes pair.low (omega (arith, short.0))))
    ((omega arith, λ e. absurd (omega arith)), tt))
    (weaker IsDigitByte P digits_are (decimal pair.high) (decimal-bytes pair.high (omega (arith, short.1))))

-- the name of a key is taken for it, beside its pair
name-taken : (key : Key) (pair : Pair) → IsMark (Tone key pair) → tone_of (key_text key) pair ≡ Some (Tone key pair)
name-taken key pair is =
    let own : key_of_pair pair ≡ Some key = ap key_of_pair is.1 ∙ key-back key is.0 in
    ap (λ (k : Option Key). option_and_then (λ k. named_tone (key_text key) pair k) k) own
    ∙ ap (λ (b : Bool). cond b (Some (Tone key pair)) None) (bytes_eq-same (key_text key))

tone-back : (key : Key) (pair : Pair) → IsMark (Tone key pair)
    → mark_of (key_text key ++ codes ":" ++ pair_text pair) ≡ Some (Tone key pair)
tone-back key pair is =
    let short = key_pair-short key pair is in
    let key_avoids = weaker IsWordByte (λ x. x ≢ 58) (λ x word. word.1) (key_text key) (key-bytes key is.0) in
    let pair_avoids = weaker (λ x. (43 ≤ x) × (x ≢ 58)) (λ x. x ≢ 58) (λ x word. word.1) (pair_text pair)
    (pair-field pair short) in
    let cut : pieces 58 (key_text key ++ codes ":" ++ pair_text pair) ≡ key_text key ∷ pair_text pair ∷ [] =
    ap (λ (text : List ℕ). pieces 58 text) (append_assoc (key_text key) (codes ":") (pair_text pair))
    ∙ pieces-cut 58 (key_text key) (pair_text pair) key_avoids
    ∙ ap (λ (rest : List (List ℕ)). key_text key ∷ rest) (pieces-whole 58 (pair_text pair) pair_avoids) in
    ap (λ (parts : List (List ℕ)). mark_of_two (key_text key ++ codes ":" ++ pair_text pair) (two_of parts)) cut
    ∙ ap (λ (p : Option Pair). option_and_then (λ tones. tone_of (key_text key) tones) p) (pair-back pair short)
    ∙ name-taken key pair is

trunk-back : (t : ℕ) → t < 10000 → mark_of (four_digits t) ≡ Some (Trunk t)
trunk-back t below =
    let avoids = avoids-colon (four_digits t) (four_digits-bytes t below) in
    ap (λ (parts : List (List ℕ)). mark_of_two (four_digits t) (two_of parts)) (pieces-whole 58 (four_digits t) avoids)
    ∙ ap (λ (o : Option ℕ). option_map (λ n. Trunk n) o) (four_digits-back t below)

-- a mark is read back
pub mark-back : (mark : Mark) → IsKeyMark mark → mark_of (mark_field mark) ≡ Some mark
mark-back (Trunk t) is = trunk-back t is
mark-back (Tone key pair) is = tone-back key pair is
mark-back (Refused reason heard) is = absurd is

pub marks-back : (marks : List Mark) → AllByRecursion IsKeyMark marks → marks_of (map mark_field marks) ≡ Some marks
marks-back [] are = refl
marks-back (mark ∷ marks) are =
    ap (λ (m : Option Mark). before m (marks_of (map mark_field marks))) (mark-back mark are.0)
    ∙ ap (λ (ms : Option (List Mark)). before (Some mark) ms) (marks-back marks are.1)

-- the bytes of a field
field-bytes : (mark : Mark) → IsKeyMark mark → AllByRecursion IsFieldByte (mark_field mark)
field-bytes (Trunk t) is =
    weaker IsDigitByte IsFieldByte (λ x digit. omega arith) (four_digits t) (four_digits-bytes t is)
field-bytes (Tone key pair) is =
    both IsFieldByte (key_text key ++ codes ":") (pair_text pair)
    (both IsFieldByte (key_text key) (codes ":")
    (weaker IsWordByte IsFieldByte (λ x word. omega (arith, word.0)) (key_text key) (key-bytes key is.0))
    (omega arith, tt))
    (weaker (λ x. (43 ≤ x) × (x ≢ 58)) IsFieldByte (λ x word. word.0) (pair_text pair) (pair-field pair (key_pair-short key pair is)))
field-bytes (Refused reason heard) is = absurd is

mark_text-field : (mark : Mark) → IsKeyMark mark → mark_text mark ≡ 32 ∷ mark_field mark
mark_text-field (Trunk t) is = refl
mark_text-field (Tone key pair) is = refl
mark_text-field (Refused reason heard) is = absurd is

-- marks that are printed after a field are the fields after it
pub marks-pieces : (first : List ℕ) (marks : List Mark) → Avoids 32 first → AllByRecursion IsKeyMark marks
    → pieces 32 (first ++ marks_text marks) ≡ first ∷ map mark_field marks
unfolding marks_text
marks-pieces first [] avoids are = pieces-whole 32 (first ++ []) (both (λ x. x ≢ 32) first [] avoids tt)
    ∙ ap (λ (text : List ℕ). text ∷ []) (append-nil first)
marks-pieces first (mark ∷ marks) avoids are =
    let field = mark_field mark in
    let field_avoids = weaker IsFieldByte (λ x. x ≢ 32) (λ x is e. absurd (omega arith)) field (field-bytes mark are.0) in
    ap (λ (text : List ℕ). pieces 32 (first ++ (text ++ marks_text marks))) (mark_text-field mark are.0)
    ∙ pieces-cut 32 first (field ++ marks_text marks) avoids
    ∙ ap (λ (rest : List (List ℕ)). first ∷ rest) (marks-pieces field marks field_avoids are.1)

-- no mark writes an LF
pub marks-no_line_feed : (marks : List Mark) → AllByRecursion IsKeyMark marks → Avoids 10 (marks_text marks)
unfolding marks_text
marks-no_line_feed [] are = tt
marks-no_line_feed (mark ∷ marks) are =
    let P : ℕ → Type 0 = λ x. x ≢ 10 in
    both P (mark_text mark) (marks_text marks)
    (rw (mark_text-field mark are.0)
    ((λ e. absurd (omega arith)), weaker IsFieldByte P (λ x is e. absurd (omega arith)) (mark_field mark) (field-bytes mark are.0)))
    (marks-no_line_feed marks are.1)
