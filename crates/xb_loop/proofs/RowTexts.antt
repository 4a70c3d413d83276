-- The texts of rows of holds.
use Rattle.std.proofs.Common.{◌≡◌, ℕ, ◌+◌, List, [], ◌∷◌, ◌++◌, replicate, ap, ◌∙◌, append-nil}
use Rattle.std.specs.List.{flat_map}
use Rattle.std.proofs.lemmas.Grind.{flat_map-append, replicate_next}
use Rattle.std.proofs.lemmas.List.{map-append}
use Rattle.xb_rows.specs.WrittenRows.{record_text}
use Rattle.xb_contact.specs.declared.hold.Hold.{Hold}
use Rattle.xb_loop.specs.RowsOfHolds.{row_of_hold, rows_of_holds}

-- the text of a hold after others
pub text_after :
    (line : ℕ) (holds : List Hold) (hold : Hold)
    → flat_map record_text (rows_of_holds line (holds ++ hold ∷ []))
    ≡ flat_map record_text (rows_of_holds line holds) ++ record_text (row_of_hold line hold)
text_after line holds hold =
    ap (flat_map record_text) (map-append (row_of_hold line) holds (hold ∷ []))
    ∙ flat_map-append record_text (rows_of_holds line holds) (row_of_hold line hold ∷ [])
    ∙ ap (λ text. flat_map record_text (rows_of_holds line holds) ++ text) (append-nil (record_text (row_of_hold line hold)))

-- the text of one more of the same
pub text_next :
    (line n : ℕ) (hold : Hold)
    → flat_map record_text (rows_of_holds line (replicate (n + 1) hold))
    ≡ flat_map record_text (rows_of_holds line (replicate n hold)) ++ record_text (row_of_hold line hold)
text_next line n hold =
    ap (λ holds. flat_map record_text (rows_of_holds line holds)) (replicate_next n hold)
    ∙ text_after line (replicate n hold) hold
