-- Text lines that end at CR LF.
use Rattle.std.specs.Prelude.{ℕ, ◌==◌, ◌&&◌, if◌then◌else◌, List, [], ◌∷◌, Bool, false}

-- whether a text begins with CR LF
abbrev pub begins_with_crlf : List ℕ → Bool
begins_with_crlf [] = false
begins_with_crlf (a ∷ []) = false
begins_with_crlf (a ∷ b ∷ bytes) = a == 13 && b == 10

-- a text whose lines end at CR LF or at LF, as one whose lines end at LF: a line's text is what stands before
-- its LF, without one CR at its end
unfoldable pub lf_ended : List ℕ → List ℕ
lf_ended [] = []
lf_ended (byte ∷ bytes) =
    if begins_with_crlf (byte ∷ bytes) then lf_ended bytes else byte ∷ lf_ended bytes
