-- The texts of what is given of a line.
use Rattle.std.proofs.Common.{◌≡◌, ℕ, List, [], ◌++◌, Option, Some, None, refl, ap, sym, ◌∙◌, append-nil, append_assoc}
use Rattle.std.specs.List.{flat_map}
use Rattle.std.proofs.lemmas.Grind.{flat_map-append}
use Rattle.xb_rows.specs.WrittenRows.{record_text}
use Rattle.xb_contact.specs.declared.hold.Hold.{Hold}
use Rattle.xb_contact.specs.Machine.{pieces_of}
use Rattle.xb_contact.specs.Ringing.{Ringing, all_rung, piece_rung, rung_past}
use Rattle.xb_contact.specs.Seizing.{Seizing, all_passed, line_past, piece_passed, withheld}
use Rattle.xb_contact.proofs.Seized.{piece_passes}
use Rattle.xb_loop.specs.RowsOfHolds.{written_rows}
use Rattle.xb_loop.proofs.WireRows.{written-append}

-- what is given of a piece, and then of what comes later
pub piece_rings :
    (line : Ringing) (piece : Option Hold) (later : List Hold)
    → all_rung line (pieces_of piece ++ later) ≡ pieces_of (piece_rung line piece) ++ all_rung (rung_past line piece) later
piece_rings line None later = refl
piece_rings line (Some hold) later = refl

last_rings : (line : Ringing) (piece : Option Hold) → pieces_of (piece_rung line piece) ≡ all_rung line (pieces_of piece)
last_rings line None = refl
last_rings line (Some hold) = refl

-- of two pieces
pub both_rung :
    (line next : Ringing) (first last : Option Hold) (told : List Hold) → pieces_of first ++ pieces_of last ≡ told
    → next ≡ rung_past line first
    → pieces_of (piece_rung line first) ++ pieces_of (piece_rung next last) ≡ all_rung line told
both_rung line next first last told is past =
    ap (λ n. pieces_of (piece_rung line first) ++ pieces_of (piece_rung n last)) past
    ∙ ap (λ them. pieces_of (piece_rung line first) ++ them) (last_rings (rung_past line first) last)
    ∙ sym (piece_rings line first (pieces_of last))
    ∙ ap (all_rung line) is

-- the text of holds
abbrev pub text : ℕ → List Hold → List ℕ
text line holds = flat_map record_text (written_rows line holds)

text_append : (line : ℕ) (holds more : List Hold) → text line (holds ++ more) ≡ text line holds ++ text line more
text_append line holds more =
    ap (flat_map record_text) (written-append line holds more)
    ∙ flat_map-append record_text (written_rows line holds) (written_rows line more)

-- three texts after another one
three_texts :
    (line : ℕ) (old : List ℕ) (a b c : List Hold)
    → ((old ++ text line a) ++ text line b) ++ text line c ≡ old ++ text line (a ++ (b ++ c))
three_texts line old a b c =
    append_assoc (old ++ text line a) (text line b) (text line c)
    ∙ append_assoc old (text line a) (text line b ++ text line c)
    ∙ ap (λ rest. old ++ (text line a ++ rest)) (sym (text_append line b c))
    ∙ ap (λ all. old ++ all) (sym (text_append line a (b ++ c)))

pub three_written :
    (line : ℕ) (old first second third : List ℕ) (a b c : List Hold) → first ≡ old ++ text line a
    → second ≡ first ++ text line b → third ≡ second ++ text line c → third ≡ old ++ text line (a ++ (b ++ c))
three_written line old first second third a b c one two three =
    three ∙ ap (λ s. s ++ text line c) (two ∙ ap (λ s. s ++ text line b) one) ∙ three_texts line old a b c

-- those of what is left where the recording ends
ends_so :
    (seizing : Seizing) (first last : Option Hold)
    → all_passed seizing (pieces_of first ++ pieces_of last)
    ≡ piece_passed seizing first ++ (piece_passed (line_past seizing first) last
    ++ pieces_of (withheld (line_past (line_past seizing first) last)))
ends_so seizing first last =
    let next : Seizing = line_past seizing first in
    piece_passes seizing first (pieces_of last)
    ∙ ap (λ rest. piece_passed seizing first ++ rest)
    (ap (all_passed next) (sym (append-nil (pieces_of last))) ∙ piece_passes next last [])

pub end_written :
    (line : ℕ) (old one two all : List ℕ) (seizing next after : Seizing) (first last left : Option Hold) (told : List Hold)
    → pieces_of first ++ pieces_of last ≡ told → next ≡ line_past seizing first → after ≡ line_past next last
    → left ≡ withheld after → one ≡ old ++ text line (piece_passed seizing first)
    → two ≡ one ++ text line (piece_passed next last) → all ≡ two ++ text line (pieces_of left)
    → all ≡ old ++ text line (all_passed seizing told)
end_written line old one two all seizing next after first last left told is first_past last_past rest a b c =
    let same : after ≡ line_past (line_past seizing first) last =
    last_past ∙ ap (λ line. line_past line last) first_past in
    three_written line old one two all (piece_passed seizing first) (piece_passed next last) (pieces_of left) a b c
    ∙ ap (λ X. old ++ text line (piece_passed seizing first ++ (piece_passed X last ++ pieces_of left))) first_past
    ∙ ap (λ X. old ++ text line
    (piece_passed seizing first ++ (piece_passed (line_past seizing first) last ++ pieces_of X))) (rest ∙ ap withheld same)
    ∙ ap (λ holds. old ++ text line holds) (sym (ends_so seizing first last) ∙ ap (all_passed seizing) is)
