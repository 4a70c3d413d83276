-- The rows of a call, pulse by pulse and digit by digit.
use Rattle.std.proofs.Common.{◌≡◌, ℕ, suc, ◌+◌, ◌-◌, ◌<◌, ◌≤◌, List, [], ◌∷◌, ◌++◌, sym, ap, ◌∙◌, arith, append_assoc, length, take, get_or}
use Rattle.std.specs.List.{flat_map}
use Rattle.std.proofs.lemmas.List.{flat_map_more, map-append, take_more}
use Rattle.xb_model.specs.Records.{break, make}
use Rattle.xb_model.specs.Rows.{LoopRow, row_of}
use Rattle.xb_model.specs.declared.row.Contact.TheVariants.{Make, Brk}
use Rattle.xb_calls.specs.declared.speed.Speed.{Speed}
use Rattle.xb_calls.specs.Dialling.{digit_runs, on_line, pulses}

-- a pulse that is not the last, and those after it
pulses-more : (speed : Speed) (n : ℕ)
    → pulses speed (n + 2) ≡ break speed.break_ms ∷ make speed.make_ms ∷ pulses speed (n + 1)
unfolding pulses
pulses-more speed n =
    let two : n + 2 ≡ suc (suc n) = omega arith in
    let one : n + 1 ≡ suc n = omega arith in
    ap (pulses speed) two ∙ ap (λ k. break speed.break_ms ∷ make speed.make_ms ∷ pulses speed k) (sym one)

-- one pulse is dialled, which is not the last
pub pulse-more : (speed : Speed) (line count pulse : ℕ) (old earlier between new : List LoopRow)
    → 1 ≤ pulse → pulse < count
    → earlier ++ on_line line (pulses speed (count + 1 - pulse)) ≡ old ++ on_line line (pulses speed count)
    → between ≡ earlier ++ row_of line Brk speed.break_ms ∷ []
    → new ≡ between ++ row_of line Make speed.make_ms ∷ []
    → new ++ on_line line (pulses speed (count + 1 - (pulse + 1))) ≡ old ++ on_line line (pulses speed count)
pulse-more speed line count pulse old earlier between new from below so_far breaks makes =
    let n : ℕ = count - pulse - 1 in
    let now : count + 1 - pulse ≡ n + 2 = omega arith in
    let later : count + 1 - (pulse + 1) ≡ n + 1 = omega arith in
    let rest = on_line line (pulses speed (n + 1)) in
    ap (λ k. new ++ on_line line (pulses speed k)) later
    ∙ ap (λ rows. rows ++ rest) makes
    ∙ append_assoc between (row_of line Make speed.make_ms ∷ []) rest
    ∙ ap (λ rows. rows ++ row_of line Make speed.make_ms ∷ rest) breaks
    ∙ append_assoc earlier (row_of line Brk speed.break_ms ∷ []) (row_of line Make speed.make_ms ∷ rest)
    ∙ ap (λ runs. earlier ++ on_line line runs) (sym (pulses-more speed n))
    ∙ ap (λ k. earlier ++ on_line line (pulses speed k)) (sym now)
    ∙ so_far

-- the last pulse
pub pulse-last : (speed : Speed) (line count pulse : ℕ) (old earlier between new : List LoopRow)
    → pulse ≤ count → count ≤ pulse
    → earlier ++ on_line line (pulses speed (count + 1 - pulse)) ≡ old ++ on_line line (pulses speed count)
    → between ≡ earlier ++ row_of line Brk speed.break_ms ∷ []
    → new ≡ between ++ row_of line Make speed.pause_ms ∷ []
    → new ≡ old ++ on_line line (pulses speed count)
unfolding pulses
pulse-last speed line count pulse old earlier between new low high so_far breaks makes =
    let one : count + 1 - pulse ≡ 1 = omega arith in
    makes
    ∙ ap (λ rows. rows ++ row_of line Make speed.pause_ms ∷ []) breaks
    ∙ append_assoc earlier (row_of line Brk speed.break_ms ∷ []) (row_of line Make speed.pause_ms ∷ [])
    ∙ ap (λ k. earlier ++ on_line line (pulses speed k)) (sym one)
    ∙ so_far

-- one digit more of a call
pub digit-more : (speed : Speed) (line i : ℕ) (digits : List ℕ) (digit : ℕ) (old earlier new : List LoopRow)
    → i < length digits → digit ≡ get_or digits i digit
    → earlier ≡ old ++ on_line line (make speed.seize_ms ∷ flat_map (digit_runs speed) (take i digits))
    → new ≡ earlier ++ on_line line (digit_runs speed digit)
    → new ≡ old ++ on_line line (make speed.seize_ms ∷ flat_map (digit_runs speed) (take (i + 1) digits))
digit-more speed line i digits digit old earlier new below is so_far more =
    let first = make speed.seize_ms ∷ flat_map (digit_runs speed) (take i digits) in
    let next : take (i + 1) digits ≡ take i digits ++ digit ∷ [] =
    take_more digits i digit below ∙ ap (λ one. take i digits ++ one ∷ []) (sym is) in
    more
    ∙ ap (λ rows. rows ++ on_line line (digit_runs speed digit)) so_far
    ∙ append_assoc old (on_line line first) (on_line line (digit_runs speed digit))
    ∙ ap (λ rows. old
    ++ rows) (sym (map-append (λ run. row_of line run.contact run.ms) first (digit_runs speed digit)))
    ∙ ap (λ runs. old
    ++ on_line line runs) (flat_map_more (digit_runs speed) (make speed.seize_ms ∷ []) (take i digits)
    digit)
    ∙ ap (λ all. old ++ on_line line (make speed.seize_ms ∷ flat_map (digit_runs speed) all)) (sym next)
