-- How a page is read back (own format).
use Rattle.std.specs.Prelude.{◌≡◌, ◌⊎◌, ℕ, ◌&&◌, if◌then◌else◌, nat_lt, List, [], ◌∷◌, ◌++◌, codes, decimal, Bool, true, false, Option, Some, None, option_and_then, option_map, Result, Ok, Err, bytes_eq}
use Rattle.xb_model.specs.declared.key.Key.{Key}
use Rattle.xb_model.specs.declared.key.Tone.{Tone as Pair}
use Rattle.xb_model.specs.declared.mark.Mark.{Mark}
use Rattle.xb_model.specs.declared.mark.Mark.TheVariants.{Trunk, Tone, Refused}
use Rattle.xb_model.specs.declared.reason.Reason.{Reason}
use Rattle.xb_model.specs.declared.reason.Reason.TheVariants.{Mutilated, Unknown, Abandoned, TimedOut}
use Rattle.xb_model.specs.MfPairs.{key_of_pair, pair}
use Rattle.xb_model.specs.Page.{key_text}
use Rattle.xb_text.specs.Pieces.{pieces}
use Rattle.xb_model.specs.Fields.{field_number}
use Rattle.xb_page.specs.Entries.{Entry, entry_with}
use Rattle.xb_page.specs.Places.{Head, field_at, four_digits_of, head_and, head_of_fields, line_feed, or_fault, place_after, place_with, space, text_line}
use Rattle.xb_page.specs.declared.fault.PageFault.{PageFault}
use Rattle.xb_page.specs.declared.fault.PageFault.TheVariants as fault
use Rattle.xb_page.specs.declared.page_place.PagePlace.{PagePlace}

-- plus, colon
abbrev pub plus : ℕ
plus = 43

abbrev pub colon : ℕ
colon = 58

-- the frequency that a text writes
abbrev pub hz_of : List ℕ → Option ℕ
hz_of text = field_number 4 text

abbrev pub pair_of_two : Option ℕ → Option ℕ → Option Pair
pair_of_two low high = option_and_then (λ l. option_map (λ h. pair l h) high) low

-- what stands on both sides of the one such byte
abbrev pub two_of : List (List ℕ) → Option (List ℕ × List ℕ)
two_of (a ∷ b ∷ []) = Some (a, b)
two_of other = None

-- the pair that a text writes, as 1100+1700
abbrev pub pair_of : List ℕ → Option Pair
pair_of text = option_and_then (λ two. pair_of_two (hz_of two.0) (hz_of two.1)) (two_of (pieces plus text))

-- the mark of a key, if this is its name
abbrev pub named_tone : List ℕ → Pair → Key → Option Mark
named_tone name tones key = if bytes_eq name (key_text key) then Some (Tone key tones) else None

-- the mark of the key that sounds by these tones
abbrev pub tone_of : List ℕ → Pair → Option Mark
tone_of name tones = option_and_then (λ key. named_tone name tones key) (key_of_pair tones)

-- a trunk group is four digits
abbrev pub trunk_of : List ℕ → Option Mark
trunk_of text = option_map (λ t. Trunk t) (four_digits_of text)

abbrev pub mark_of_two : List ℕ → Option (List ℕ × List ℕ) → Option Mark
mark_of_two field None = trunk_of field
mark_of_two field (Some two) = option_and_then (λ tones. tone_of two.0 tones) (pair_of two.1)

-- the mark that a field writes, as 0017 or KP:1100+1700
abbrev pub mark_of : List ℕ → Option Mark
mark_of field = mark_of_two field (two_of (pieces colon field))

abbrev pub before : Option Mark → Option (List Mark) → Option (List Mark)
before mark marks = option_and_then (λ m. option_map (λ ms. m ∷ ms) marks) mark

-- the marks that fields write
abbrev pub marks_of : List (List ℕ) → Option (List Mark)
marks_of [] = Some []
marks_of (field ∷ fields) = before (mark_of field) (marks_of fields)

-- the reason that a text names
abbrev pub reason_of : List ℕ → Option Reason
reason_of text =
    if bytes_eq text (codes "MUTILATED") then Some Mutilated
    else (if bytes_eq text (codes "UNKNOWN") then Some Unknown
    else (if bytes_eq text (codes "ABANDONED") then Some Abandoned
    else (if bytes_eq text (codes "TIMEDOUT") then Some TimedOut else None)))

-- the count that a text writes, of one byte
abbrev pub heard_of : List ℕ → Option ℕ
heard_of text = option_and_then (λ n. if nat_lt n 256 then Some n else None) (field_number 3 text)

abbrev pub refusal_of_two : Option Reason → Option ℕ → Option Mark
refusal_of_two reason heard = option_and_then (λ r. option_map (λ h. Refused r h) heard) reason

-- the refusal that two fields write, as UNKNOWN 3
abbrev pub refusal_of_fields : List (List ℕ) → Option Mark
refusal_of_fields fields = option_and_then (λ two. refusal_of_two (reason_of two.0) (heard_of two.1)) (two_of fields)

-- the entry of a head in text line n
abbrev pub entry_of_head : ℕ → Head → Result Entry PageFault
entry_of_head n head =
    if head.refused
    then or_fault (fault.Refusal n) (refusal_of_fields head.rest)
    (λ mark. Ok (entry_with head.line head.number (mark ∷ [])))
    else or_fault (fault.Key n) (marks_of head.rest) (λ marks. Ok (entry_with head.line head.number marks))

-- the entry that the text line at a place writes, or its first fault
abbrev pub entry_of_fields : PagePlace → List (List ℕ) → Result Entry PageFault
entry_of_fields place fields =
    head_and (head_of_fields place fields) (λ head. entry_of_head (text_line place) head)

abbrev pub entry_and : {A : Type 0} → Result Entry PageFault → (Entry → Result A PageFault) → Result A PageFault
entry_and (Err f) next = Err f
entry_and (Ok entry) next = next entry

-- the place after the entry that a text line writes, or its first fault
abbrev pub after_entry : PagePlace → List (List ℕ) → Result PagePlace PageFault
after_entry place fields = entry_and (entry_of_fields place fields) (λ entry. Ok (place_after place entry))

-- a fault where there is nothing
abbrev pub if_there : {A : Type 0} → PageFault → Option A → Result (Unit {0}) PageFault
if_there f found = or_fault f found (λ _. Ok tt)

-- whether a refusal follows a head in text line n, or marks do
abbrev pub check_rest : ℕ → Bool → List (List ℕ) → Result (Unit {0}) PageFault
check_rest n refused fields =
    if refused then if_there (fault.Refusal n) (refusal_of_fields fields) else if_there (fault.Key n) (marks_of fields)

-- four pieces
abbrev pub four_of : List (List ℕ) → Option (List ℕ × List ℕ × List ℕ × List ℕ)
four_of [] = None
four_of (a ∷ []) = None
four_of (a ∷ b ∷ more) = option_map (λ two. (a, b, two.0, two.1)) (two_of more)

-- a text line that begins with KEYED is one of totals
abbrev pub is_totals : List (List ℕ) → Bool
is_totals fields = bytes_eq (field_at fields 0) (codes "KEYED")

abbrev pub are_four : ℕ → ℕ → Option (List ℕ × List ℕ × List ℕ × List ℕ) → Bool
are_four keyed refused None = false
are_four keyed refused (Some f) =
    bytes_eq f.0 (codes "KEYED") && bytes_eq f.1 (decimal keyed) && bytes_eq f.2 (codes "REFUSED")
    && bytes_eq f.3 (decimal refused)

-- whether these are the totals, as KEYED 1 REFUSED 0
abbrev pub says_totals : PagePlace → List (List ℕ) → Bool
says_totals place fields = are_four place.keyed place.refused (four_of fields)

-- nothing stands after the last LF
abbrev pub is_end : List (List ℕ) → Bool
is_end ([] ∷ []) = true
is_end other = false

-- nothing is left, not even an LF
abbrev pub is_cut : List (List ℕ) → Bool
is_cut [] = true
is_cut other = false

-- the end of a page: its totals are those of the entries, and end it
abbrev pub end_of : PagePlace → List (List ℕ) → List (List ℕ) → Result (List Entry) PageFault
end_of place fields lines =
    if says_totals place fields
    then (if is_end lines then Ok []
    else (if is_cut lines then Err (fault.NoTotals (text_line place)) else Err (fault.GoesOn (text_line place))))
    else Err (fault.Totals (text_line place))

-- an entry before the later ones, or the first fault
abbrev pub before_entries : Entry → Result (List Entry) PageFault → Result (List Entry) PageFault
before_entries entry (Err f) = Err f
before_entries entry (Ok entries) = Ok (entry ∷ entries)

abbrev pub entry_and_rest : Result Entry PageFault → (Entry → Result (List Entry) PageFault)
    → Result (List Entry) PageFault
entry_and_rest (Err f) rest = Err f
entry_and_rest (Ok entry) rest = before_entries entry (rest entry)

-- the entries of the text lines from a place on; the last one has the totals
unfoldable pub entries_from : PagePlace → List (List ℕ) → Result (List Entry) PageFault
entries_from place [] = Err (fault.NoTotals (text_line place))
entries_from place (line ∷ lines) =
    if is_end (line ∷ lines) then Err (fault.NoTotals (text_line place))
    else (if is_totals (pieces space line) then end_of place (pieces space line) lines
    else entry_and_rest (entry_of_fields place (pieces space line))
    (λ entry. entries_from (place_after place entry) lines))

-- before the first entry
abbrev pub first_place : PagePlace
first_place = place_with 0 0 0 0

-- the entries of a page, or its first fault; text lines count from 1
abbrev pub entries_of_page : List ℕ → Result (List Entry) PageFault
entries_of_page text = entries_from first_place (pieces line_feed text)

-- entries after earlier ones, or their fault
abbrev pub after : List Entry → Result (List Entry) PageFault → Result (List Entry) PageFault
after earlier (Ok later) = Ok (earlier ++ later)
after earlier (Err f) = Err f

-- marks after earlier ones
abbrev pub with_earlier : List Mark → Option (List Mark) → Option (List Mark)
with_earlier earlier marks = option_map (λ later. earlier ++ later) marks

-- the entry of a text line is taken, and the place goes on, whatever lines come after it
abbrev pub TakesLine : PagePlace → List ℕ → List Entry → PagePlace → List Entry → Type 0
TakesLine place line old next new =
    (later : List (List ℕ))
    → after old (entry_and_rest (entry_of_fields place (pieces space line))
    (λ entry. entries_from (place_after place entry) later))
    ≡ after new (entries_from next later)

-- memory ran out, or a field writes no mark
abbrev pub IsWrongKey : ℕ → Option (List Mark) → PageFault → Type 0
IsWrongKey n marks f = (f ≡ fault.NoMemory) ⊎ ((marks ≡ None) × (f ≡ fault.Key n))

-- memory ran out, or the fields write no refusal
abbrev pub IsWrongRefusal : ℕ → Option Mark → PageFault → Type 0
IsWrongRefusal n mark f = (f ≡ fault.NoMemory) ⊎ ((mark ≡ None) × (f ≡ fault.Refusal n))

-- memory ran out, or this is the fault
abbrev pub IsFaultOf : {T : Type 0} → Result T PageFault → PageFault → Type 0
IsFaultOf says f = (f ≡ fault.NoMemory) ⊎ (says ≡ Err f)
