-- The text of the page: ASCII, each line ended by one LF.
use Rattle.std.specs.Prelude.{ℕ, ◌+◌, ◌-◌, replicate, length, List, [], ◌∷◌, ◌++◌, codes, decimal, Bool, not, Option, Some, None, is_some, option_and_then, slice_get, sum_by, count_by}
use Rattle.xb_model.specs.declared.key.Key.{Key}
use Rattle.xb_model.specs.declared.key.Key.TheVariants as key
use Rattle.xb_model.specs.declared.key.Tone.{Tone}
use Rattle.xb_model.specs.declared.mark.Mark.{Mark}
use Rattle.xb_model.specs.declared.mark.Mark.TheVariants as mark
use Rattle.xb_model.specs.declared.reason.Reason.{Reason}
use Rattle.xb_model.specs.declared.reason.Reason.TheVariants as reason
use Rattle.xb_model.specs.Tapes.{entries_of}

-- the byte of the digit 0
abbrev pub zero_byte : ℕ
zero_byte = 48

-- a number in four digits, with leading zeros
abbrev pub four_digits : ℕ → List ℕ
four_digits n = replicate (4 - length (decimal n)) zero_byte ++ decimal n

abbrev pub key_text : Key → List ℕ
key_text (key.Digit d) = decimal d
key_text key.Kp = codes "KP"
key_text key.St = codes "ST"

-- a pair, as 1100+1700
abbrev pub pair_text : Tone → List ℕ
pair_text pair = decimal pair.low ++ codes "+" ++ decimal pair.high

abbrev pub reason_text : Reason → List ℕ
reason_text reason.Mutilated = codes "MUTILATED"
reason_text reason.Unknown = codes "UNKNOWN"
reason_text reason.Abandoned = codes "ABANDONED"
reason_text reason.TimedOut = codes "TIMEDOUT"

-- a mark, after a blank
abbrev pub mark_text : Mark → List ℕ
mark_text (mark.Trunk t) = codes " " ++ four_digits t
mark_text (mark.Tone k pair) = codes " " ++ key_text k ++ codes ":" ++ pair_text pair
mark_text (mark.Refused r heard) = codes " " ++ reason_text r ++ codes " " ++ decimal heard

-- what a mark refuses
abbrev pub refusal_of : Mark → Option (Reason × ℕ)
refusal_of (mark.Trunk t) = None
refusal_of (mark.Tone k pair) = None
refusal_of (mark.Refused r heard) = Some (r, heard)

-- what the last mark of an entry refuses
abbrev pub last_refusal : List Mark → Option (Reason × ℕ)
last_refusal entry = option_and_then refusal_of (slice_get entry (length entry - 1))

unfoldable pub marks_text : List Mark → List ℕ
marks_text [] = []
marks_text (m ∷ ms) = mark_text m ++ marks_text ms

-- how entry n of a line begins
abbrev pub entry_head : ℕ → ℕ → List ℕ
entry_head line n = four_digits line ++ codes " " ++ decimal n

-- a keying writes its marks in order
abbrev pub keyed_text : ℕ → ℕ → List Mark → List ℕ
keyed_text line n entry = entry_head line n ++ codes " KEYED" ++ marks_text entry ++ codes "\n"

-- a refusal writes its reason and its count
abbrev pub refused_text : ℕ → ℕ → Reason → ℕ → List ℕ
refused_text line n r heard =
    entry_head line n ++ codes " REFUSED " ++ reason_text r ++ codes " " ++ decimal heard ++ codes "\n"

abbrev pub entry_text_by : ℕ → ℕ → List Mark → Option (Reason × ℕ) → List ℕ
entry_text_by line n entry None = keyed_text line n entry
entry_text_by line n entry (Some refusal) = refused_text line n refusal.0 refusal.1

-- entry n of a line: the line of a refusal where one ends it, else that of a keying
abbrev pub entry_text : ℕ → ℕ → List Mark → List ℕ
entry_text line n entry = entry_text_by line n entry (last_refusal entry)

abbrev pub entry_body_by : List Mark → Option (Reason × ℕ) → List ℕ
entry_body_by entry None = codes " KEYED" ++ marks_text entry
entry_body_by entry (Some refusal) = codes " REFUSED " ++ reason_text refusal.0 ++ codes " " ++ decimal refusal.1

-- what a line says of its entry after the line and the number
abbrev pub entry_body : List Mark → List ℕ
entry_body entry = entry_body_by entry (last_refusal entry)

-- the entries of a line, from entry n on
unfoldable pub entries_text : ℕ → ℕ → List (List Mark) → List ℕ
entries_text line n [] = []
entries_text line n (entry ∷ entries) = entry_text line n entry ++ entries_text line (n + 1) entries

-- the tape of a line: its entries, counted from 1
abbrev pub tape_text : ℕ → List Mark → List ℕ
tape_text line marks = entries_text line 1 (entries_of marks)

-- the tapes of the lines, from a line on
unfoldable pub tapes_text : ℕ → List (List Mark) → List ℕ
tapes_text line [] = []
tapes_text line (marks ∷ tapes) = tape_text line marks ++ tapes_text (line + 1) tapes

-- an entry that a refusal ends
abbrev pub is_refused : List Mark → Bool
is_refused entry = is_some (last_refusal entry)

-- an entry that ends otherwise
abbrev pub is_keyed : List Mark → Bool
is_keyed entry = not (is_refused entry)

-- how many entries of the tapes pass a test
abbrev pub count_entries : (List Mark → Bool) → List (List Mark) → ℕ
count_entries test tapes = sum_by (λ marks. count_by test (entries_of marks)) tapes

-- the last line: the totals of keyed and of refused entries
abbrev pub totals_text : ℕ → ℕ → List ℕ
totals_text keyed refused =
    codes "KEYED " ++ decimal keyed ++ codes " REFUSED " ++ decimal refused ++ codes "\n"

-- the page of the tapes of all lines, from line 0 on
abbrev pub page_text : List (List Mark) → List ℕ
page_text tapes =
    tapes_text 0 tapes ++ totals_text (count_entries is_keyed tapes) (count_entries is_refused tapes)
