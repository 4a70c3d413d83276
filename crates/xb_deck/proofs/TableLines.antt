-- How the table of a stream is read, byte by byte.
use Rattle.std.proofs.Common.{◌≡◌, ◌≤◌, ◌<◌, ◌+◌, ℕ, List, [], ◌∷◌, ◌++◌, length, get_or, take, drop, Option, Some, None, IfSome, Result, Ok, Err, Bool, true, false, ltb, refl, sym, ap, subst, ◌∙◌, arith, append_assoc, append-nil, length-append}
use Rattle.std.specs.Prelude.{option_map, codes, bytes_eq, is_err, OnOk}
use Rattle.std.specs.Io.KnownBytes.{Consumes, IsAtEnd}
use Rattle.std.specs.List.{All, position}
use Rattle.std.proofs.lemmas.List.{length-take, get_or_append_left}
use Rattle.std.proofs.lemmas.Bool.{ltb-false, ltb-true}
use Rattle.std.proofs.lemmas.Slice.Eq.{bytes_eq-Decides}
use Rattle.std.proofs.lemmas.List.Elements.{All-get_or}
use Rattle.std.proofs.lemmas.List.Quantifiers.{position-Some}
use Rattle.std.proofs.lemmas.List.Splits.{slice_split_at, slice_split_none, join_with_byte-slice_split}
use Rattle.xb_text.proofs.PlacedPieces.{first_piece, one_piece}
use Rattle.xb_deck.specs.Deck.{Parts, with_earlier, deck_parts, ends_line, is_cut, line_feed}
use Rattle.xb_deck.specs.Tables.{IsCutAfter, IsReadSoFar, IsTableFault, ReadsByte}
use Rattle.xb_deck.specs.declared.table.TableFault.TheVariants as fault
use Rattle.xb_deck.proofs.Lines.{with_earlier-with_earlier}

-- the end of a line was read
pub end_read : (old new : Option (List ℕ)) (read : Option ℕ) (byte : ℕ) → read ≡ Some byte → byte ≡ line_feed
    → ReadsByte old new (Ok read) → Consumes old new (line_feed ∷ [])
end_read old new read byte is e h = rw e at (rw is at h)

-- no byte was read
pub none_read : (old new : Option (List ℕ)) (read : Option ℕ) → read ≡ None → ReadsByte old new (Ok read)
    → Consumes old new [] × IsAtEnd new
none_read old new read is h = rw is at h

-- what holds of a call that did not fail
pub on_success : {X Y P : Type 0} (r : Result X Y) → false ≡ is_err r → OnOk r P → P
on_success (Ok x) e h = h
on_success (Err y) e h = cc e

-- a line that has no end
abbrev pub HasNoEnd : List ℕ → Type 0
HasNoEnd line = All (λ byte. ends_line byte ≡ false) line

-- nothing was read
pub so_far-start : (deck : Option (List ℕ)) → IsReadSoFar deck [] [] deck
so_far-start None = tt
so_far-start (Some deck) = (whole (deck_parts deck), omega arith)
  where
    whole : (o : Option Parts) → o ≡ option_map (with_earlier []) o
    whole None = refl
    whole (Some parts) = refl

-- a byte of a line
pub so_far-byte : (deck : Option (List ℕ)) (table line : List ℕ) (byte : ℕ) (old new : Option (List ℕ))
    → IsReadSoFar deck table line old → Consumes old new (byte ∷ [])
    → IsReadSoFar deck table (line ++ byte ∷ []) new
so_far-byte None table line byte old new h c = tt
so_far-byte (Some deck) table line byte None new h c = absurd h
so_far-byte (Some deck) table line byte (Some rest) None h c = absurd c
so_far-byte (Some deck) table line byte (Some rest) (Some left) h c =
    let whole : line ++ rest ≡ (line ++ byte ∷ []) ++ left = rw c (sym (append_assoc line (byte ∷ []) left)) in
    let longer = ap length c in (
      h.0 ∙ ap (λ bytes. option_map (with_earlier table) (deck_parts bytes)) whole,
      omega (arith, h.1, longer, length-append line (byte ∷ [])),
    )

-- a line ends, which is not the cut
pub so_far-line : (deck : Option (List ℕ)) (table line : List ℕ) (old new : Option (List ℕ))
    → IsReadSoFar deck table line old → Consumes old new (line_feed ∷ []) → HasNoEnd line
    → is_cut line ≡ false → IsReadSoFar deck (table ++ line ++ line_feed ∷ []) [] new
so_far-line None table line old new h c no_end is = tt
so_far-line (Some deck) table line None new h c no_end is = absurd h
so_far-line (Some deck) table line (Some rest) None h c no_end is = absurd c
so_far-line (Some deck) table line (Some rest) (Some left) h c no_end is =
    let split = slice_split_at ends_line line line_feed left no_end refl in
    let here : deck_parts (line ++ line_feed ∷ left) ≡ option_map (with_earlier (line ++ codes "\n")) (deck_parts left)
    = rw (split, is) refl in
    let whole = ap (λ bytes. option_map (with_earlier table) (deck_parts (line ++ bytes))) c in
    let longer = ap length c in (
      h.0 ∙ whole ∙ ap (option_map (with_earlier table)) here
          ∙ with_earlier-with_earlier table (line ++ codes "\n") (deck_parts left)
          ∙ ap (λ bytes. option_map (with_earlier bytes) (deck_parts left)) (sym (append_assoc table line (line_feed ∷ []))),
      omega (arith, h.1, longer, length-append table line, length-append (table ++ line) (line_feed ∷ [])),
    )

-- a line ends, which is the cut
pub so_far-cut : (deck : Option (List ℕ)) (table line : List ℕ) (old new : Option (List ℕ))
    → IsReadSoFar deck table line old → Consumes old new (line_feed ∷ []) → HasNoEnd line
    → is_cut line ≡ true → IsCutAfter table deck new
so_far-cut None table line old new h c no_end is = tt
so_far-cut (Some deck) table line None new h c no_end is = absurd h
so_far-cut (Some deck) table line (Some rest) None h c no_end is = absurd c
so_far-cut (Some deck) table line (Some rest) (Some left) h c no_end is =
    let split = slice_split_at ends_line line line_feed left no_end refl in
    let here : deck_parts (line ++ line_feed ∷ left) ≡ Some (record { table = []; rows = left })
    = rw (split, is) (rw (join_with_byte-slice_split line_feed left) refl) in
    let whole = ap (λ bytes. option_map (with_earlier table) (deck_parts (line ++ bytes))) c in
    h.0 ∙ whole ∙ ap (option_map (with_earlier table)) here ∙ rw (append-nil table) refl

-- the stream ends with a line that is the cut
pub so_far-last : (deck : Option (List ℕ)) (table line : List ℕ) (old new : Option (List ℕ))
    → IsReadSoFar deck table line old → Consumes old new [] × IsAtEnd new → HasNoEnd line
    → is_cut line ≡ true → IsCutAfter table deck new
so_far-last None table line old new h c no_end is = tt
so_far-last (Some deck) table line None new h c no_end is = absurd h
so_far-last (Some deck) table line (Some rest) None h c no_end is = absurd c.0
so_far-last (Some deck) table line (Some rest) (Some left) h c no_end is =
    let none : rest ≡ [] = c.0 ∙ c.1 in
    let here : deck_parts line ≡ Some (record { table = []; rows = [] })
    = rw (slice_split_none ends_line line no_end, is) refl in
    let whole = ap (λ bytes. option_map (with_earlier table) (deck_parts (line ++ bytes))) none
    ∙ ap (λ bytes. option_map (with_earlier table) (deck_parts bytes)) (append-nil line) in
    rw c.1 (h.0 ∙ whole ∙ ap (option_map (with_earlier table)) here ∙ rw (append-nil table) refl)

-- the stream ends, and has no cut
pub so_far-none : (deck : Option (List ℕ)) (table line : List ℕ) (old new : Option (List ℕ))
    → IsReadSoFar deck table line old → Consumes old new [] × IsAtEnd new → HasNoEnd line
    → is_cut line ≡ false → IfSome deck (λ bytes. deck_parts bytes ≡ None)
so_far-none None table line old new h c no_end is = tt
so_far-none (Some deck) table line None new h c no_end is = absurd h
so_far-none (Some deck) table line (Some rest) None h c no_end is = absurd c.0
so_far-none (Some deck) table line (Some rest) (Some left) h c no_end is =
    let none : rest ≡ [] = c.0 ∙ c.1 in
    let here : deck_parts line ≡ None = rw (slice_split_none ends_line line no_end, is) refl in
    let whole = ap (λ bytes. option_map (with_earlier table) (deck_parts (line ++ bytes))) none
    ∙ ap (λ bytes. option_map (with_earlier table) (deck_parts bytes)) (append-nil line) in
    h.0 ∙ whole ∙ ap (option_map (with_earlier table)) here

-- bytes differ from fewer bytes
differs : (line other : List ℕ) → length other < length line → bytes_eq line other ≡ false
differs line other short = at (bytes_eq line other) (bytes_eq-Decides line other).0
  where
    at : (b : Bool) → (b ≡ true → line ≡ other) → b ≡ false
    at false same = refl
    at true same = absurd (omega (arith, ap length (same refl)))

-- a line of more than four bytes is not the cut
long-no_cut : (line : List ℕ) → 4 < length line → is_cut line ≡ false
long-no_cut line long = rw (differs line (codes "---") (omega arith), differs line (codes "---\r") (omega arith)) refl

-- no byte of a line ends it
past_line : (line rest : List ℕ) (n : ℕ) → HasNoEnd line → ends_line (get_or (line ++ rest) n 0) ≡ true
    → length line ≤ n
past_line line rest n no_end is = at (ltb n (length line)) refl
  where
    at : (b : Bool) → ltb n (length line) ≡ b → length line ≤ n
    at false e = ltb-false n (length line) e
    at true e =
        let below = ltb-true n (length line) e in
        let same = get_or_append_left line rest 0 n below in
        let ends : ends_line (get_or line n 0) ≡ true = rw (sym same) is in
        let not = All-get_or (λ byte. ends_line byte ≡ false) line n 0 below no_end in
        cc (sym not ∙ ends)

-- a line so long stands in the table, if there is one
long-line : (line rest : List ℕ) → HasNoEnd line → 4 < length line
    → IfSome (deck_parts (line ++ rest)) (λ parts. length line < length parts.table)
long-line line rest no_end long = by (position ends_line (line ++ rest)) refl
  where
    total : length (line ++ rest) ≡ length line + length rest
    total = length-append line rest

    longer : (first : List ℕ) (o : Option Parts) → length line ≤ length first
        → IfSome (option_map (with_earlier (first ++ codes "\n")) o) (λ parts. length line < length parts.table)
    longer first None h = tt
    longer first (Some parts) h = omega (arith, h, length-append first (codes "\n"), length-append (first ++ codes "\n") parts.table)

    by : (o : Option ℕ) → position ends_line (line ++ rest) ≡ o
        → IfSome (deck_parts (line ++ rest)) (λ parts. length line < length parts.table)
    by None e =
        let no_cut = long-no_cut (line ++ rest) (omega (arith, total)) in
        rw (one_piece line_feed (line ++ rest) e, no_cut) tt
    by (Some n) e =
        let (inside, is, before) = position-Some ends_line (line ++ rest) n 0 e in
        let whole : length line ≤ n = past_line line rest n no_end is in
        let size = length-take n (line ++ rest) in
        let no_cut = long-no_cut (take n (line ++ rest)) (omega (arith, size, total)) in
        rw (first_piece line_feed (line ++ rest) n e, no_cut)
        (longer (take n (line ++ rest)) (deck_parts (drop (n + 1) (line ++ rest))) (omega (arith, size, total)))

-- a table that goes on beyond the most bytes
pub so_far-long : (most : ℕ) (deck : Option (List ℕ)) (table line : List ℕ) (left : Option (List ℕ))
    → IsReadSoFar deck table line left → HasNoEnd line → most + 4 < length table + length line
    → IsTableFault most deck (fault.TooLong most)
so_far-long most None table line left h no_end long = (refl, tt)
so_far-long most (Some deck) table line None h no_end long = absurd h
so_far-long most (Some deck) table line (Some rest) h no_end long = (refl, (omega (arith, h.1), subst IsOver (sym h.0) over))
  where
    IsOver : Option Parts → Type 0
    IsOver o = IfSome o (λ parts. most < length parts.table)

    by_line : (o : Option Parts) → IfSome o (λ parts. length line < length parts.table)
        → IsOver (option_map (with_earlier table) o)
    by_line None h = tt
    by_line (Some parts) more = omega (arith, long, more, length-append table parts.table)

    by_table : (o : Option Parts) → most < length table → IsOver (option_map (with_earlier table) o)
    by_table None h = tt
    by_table (Some parts) more = omega (arith, more, length-append table parts.table)

    at : (b : Bool) → ltb 4 (length line) ≡ b → IsOver (option_map (with_earlier table) (deck_parts (line ++ rest)))
    at true e = by_line (deck_parts (line ++ rest)) (long-line line rest no_end (ltb-true 4 (length line) e))
    at false e = by_table (deck_parts (line ++ rest)) (omega (arith, long, ltb-false 4 (length line) e))

    over : IsOver (option_map (with_earlier table) (deck_parts (line ++ rest)))
    over = at (ltb 4 (length line)) refl

-- a cut after a table that is too long
pub so_far-beyond : (most : ℕ) (deck : Option (List ℕ)) (table line : List ℕ) (old new : Option (List ℕ))
    → IsReadSoFar deck table line old → IsCutAfter table deck new → most < length table
    → IsTableFault most deck (fault.TooLong most)
so_far-beyond most None table line old new h cut long = (refl, tt)
so_far-beyond most (Some deck) table line None new h cut long = absurd h
so_far-beyond most (Some deck) table line (Some rest) None h cut long = absurd cut
so_far-beyond most (Some deck) table line (Some rest) (Some left) h cut long = (refl, (omega (arith, h.1), rw cut long))
