-- Words as XML and HTML want them.
use Rattle.std.specs.Prelude.{ℕ, List, codes, chars, encode_utf8, eqb, if◌then◌else◌}
use Rattle.std.specs.List.{flat_map}

-- a character: `&`, `<`, `>` and `"` by their names, a cross and three dots by their numbers, another one as it is
abbrev pub sign_text : ℕ → List ℕ
sign_text sign =
    if eqb sign 38 then codes "&amp;" else
    if eqb sign 60 then codes "&lt;" else
    if eqb sign 62 then codes "&gt;" else
    if eqb sign 34 then codes "&quot;" else
    if eqb sign 215 then codes "&#215;" else
    if eqb sign 8230 then codes "&#8230;" else encode_utf8 sign

-- each character of the words so
abbrev pub escaped : List ℕ → List ℕ
escaped words = flat_map sign_text (chars words)
