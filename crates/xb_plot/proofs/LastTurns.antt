-- Of digits that are taken one by one the last are kept.
use Rattle.std.proofs.Common.{◌≡◌, ◌≤◌, ◌<◌, ◌+◌, ◌-◌, ◌^◌, ◌∷◌, ◌++◌, ◌∙◌, [], List, ⊎_elim, ap, ap₂, append-nil, append_assoc, arith, drop, false, length, min, nat_le, refl, sym, true}
use Rattle.std.proofs.lemmas.Bool.Decides.{leb_tells}
use Rattle.std.proofs.lemmas.List.{drop-append-le, drop-drop, length-append, length-drop}
use Rattle.xb_plot.specs.declared.turns.Turn.{Turn}
use Rattle.xb_plot.specs.Turns.{with_turn}
use Rattle.xb_plot.specs.TurnLaws.{before_last, last_of, last_turns, with_turns}

-- how many are kept, and how many there are with one more
kept-length : (seen : List Turn) → length (last_of seen) ≡ length seen - (length seen - 1000)
kept-length seen = length-drop (length seen - 1000) seen

one-more : (seen : List Turn) (turn : Turn) → length (seen ++ turn ∷ []) ≡ length seen + 1
one-more seen turn = length-append seen (turn ∷ [])

-- with one more, where they are enough, and where they are few
full : (seen : List Turn) (turn : Turn) → nat_le 1000 (length (last_of seen)) ≡ true → 1000 ≤ length (last_of seen)
    → with_turn (last_turns seen) turn ≡ last_turns (seen ++ turn ∷ [])
full seen turn test many =
    let n = length seen in
    let kept = kept-length seen in
    let more = one-more seen turn in
    let enough : 1000 ≤ n = omega (arith, kept, many) in
    let cut : length (seen ++ turn ∷ []) - 1000 ≡ (n - 1000) + 1 = omega (arith, more, enough) in
    let within : (n - 1000) + 1 ≤ n = omega (arith, enough) in
    let turns : drop 1 (last_of seen) ++ turn ∷ [] ≡ last_of (seen ++ turn ∷ []) =
    rw cut (ap (λ l. l ++ turn ∷ []) (drop-drop 1 (n - 1000) seen)
    ∙ sym (drop-append-le ((n - 1000) + 1) seen (turn ∷ []) within)) in
    let older : min (before_last seen + 1) (2 ^ 64 - 1) ≡ before_last (seen ++ turn ∷ []) = rw cut (omega arith) in
    rw test (ap₂ (λ t o. record { turns = t; older = o }) turns older)

few : (seen : List Turn) (turn : Turn) → nat_le 1000 (length (last_of seen)) ≡ false → length (last_of seen) < 1000
    → with_turn (last_turns seen) turn ≡ last_turns (seen ++ turn ∷ [])
few seen turn test some =
    let n = length seen in
    let kept = kept-length seen in
    let more = one-more seen turn in
    let less : n < 1000 = omega (arith, kept, some) in
    let none : n - 1000 ≡ 0 = omega (arith, less) in
    let cut : length (seen ++ turn ∷ []) - 1000 ≡ 0 = omega (arith, more, less) in
    let turns : last_of seen ++ turn ∷ [] ≡ last_of (seen ++ turn ∷ []) = rw (none, cut) refl in
    let older : before_last seen ≡ before_last (seen ++ turn ∷ []) = rw (none, cut) refl in
    rw test (ap₂ (λ t o. record { turns = t; older = o }) turns older)

step : (seen : List Turn) (turn : Turn) → with_turn (last_turns seen) turn ≡ last_turns (seen ++ turn ∷ [])
step seen turn =
    ⊎_elim (λ many. full seen turn many.0 many.1) (λ some. few seen turn some.0 some.1)
    (leb_tells 1000 (length (last_of seen)))

pub kept : (seen turns : List Turn) → with_turns (last_turns seen) turns ≡ last_turns (seen ++ turns)
kept seen [] = ap last_turns (sym (append-nil seen))
kept seen (turn ∷ turns) =
    ap (λ k. with_turns k turns) (step seen turn) ∙ kept (seen ++ turn ∷ []) turns
    ∙ ap last_turns (append_assoc seen (turn ∷ []) turns)
