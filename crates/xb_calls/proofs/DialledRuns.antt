-- What the runs of dialled calls are: makes and breaks in turn, of which none times out and only a
-- hang-up releases.
use Rattle.std.proofs.Common.{◌≡◌, ℕ, zero, suc, ◌<◌, Bool, true, false, List, [], ◌∷◌, ◌++◌, refl, sym, ap, ◌∙◌, arith, append_assoc, append-nil, le-leb, ne_eqb, subst}
use Rattle.std.specs.Prelude.{◌==◌}
use Rattle.std.specs.List.{AllByRecursion, flat_map}
use Rattle.std.proofs.lemmas.Bool.{cond-true, cond-false, lt-leb}
use Rattle.xb_model.specs.declared.limits.Limits.{Limits}
use Rattle.xb_model.specs.declared.row.Contact.TheVariants.{Make, Brk}
use Rattle.xb_model.specs.LawfulLimits.{IsLawful}
use Rattle.xb_model.specs.Records.{Run, Attempt, break, make, heard, into_first, is_release, join, joined, pieces_of, reaches_timeout, record_up_to_close, run_of, runs_of, without_first_break}
use Rattle.xb_calls.specs.declared.speed.Speed.{Speed}
use Rattle.xb_calls.specs.Speeds.{Fits}
use Rattle.xb_calls.specs.Dialling.{call_runs, digit_runs, line_runs, on_line, pulse_count, pulses}

-- a list and a further one
pub AllByRecursion-append : {X : Type 0} (P : X → Type 0) (xs ys : List X) → AllByRecursion P xs
    → AllByRecursion P ys
    → AllByRecursion P (xs ++ ys)
AllByRecursion-append P [] ys hx hy = hy
AllByRecursion-append P (x ∷ xs) ys hx hy = (hx.0, AllByRecursion-append P xs ys hx.1 hy)

-- what holds of each run that a speed makes within a call
pub record EachRun (P : Run → Type 0) (speed : Speed) : Type 0 where
  pub breaks : P (break speed.break_ms)
  pub makes : P (make speed.make_ms)
  pub pauses : P (make speed.pause_ms)
  pub seizes : P (make speed.seize_ms)

all-pulses : (P : Run → Type 0) (speed : Speed) → EachRun P speed → (n : ℕ)
    → AllByRecursion P (pulses speed n)
unfolding pulses
all-pulses P speed each zero = tt
all-pulses P speed each (suc zero) = (each.breaks, (each.pauses, tt))
all-pulses P speed each (suc (suc n)) = (each.breaks, (each.makes, all-pulses P speed each (suc n)))

all-digits : (P : Run → Type 0) (speed : Speed) → EachRun P speed → (number : List ℕ)
    → AllByRecursion P (flat_map (digit_runs speed) number)
all-digits P speed each [] = tt
all-digits P speed each (digit ∷ number) =
    AllByRecursion-append P _ _ (all-pulses P speed each (pulse_count digit)) (all-digits P speed each number)

-- it holds of each run of a call
all-call : (P : Run → Type 0) (speed : Speed) → EachRun P speed → (number : List ℕ)
    → AllByRecursion P (call_runs speed number)
all-call P speed each number = (each.seizes, all-digits P speed each number)

-- no make times out
timely : (limits : Limits) (speed : Speed) → IsLawful limits → Fits limits speed
    → EachRun (λ run. reaches_timeout limits run ≡ false) speed
timely limits speed lawful fits =
    record {
      breaks = refl;
      makes = lt-leb _ _ (omega (arith, fits.make_fits.1, lawful.pause_under));
      pauses = lt-leb _ _ fits.pause_fits.1;
      seizes = lt-leb _ _ fits.seize_fits.1;
    }

-- where no make times out, all is heard
heard-all : (limits : Limits) (runs : List Run)
    → AllByRecursion (λ run. reaches_timeout limits run ≡ false) runs
    → heard limits runs ≡ runs
heard-all limits [] h = refl
heard-all limits (run ∷ runs) h = rw h.0 (ap (λ rest. run ∷ rest) (heard-all limits runs h.1))

-- a call is heard whole
pub heard-call : (limits : Limits) (speed : Speed) → IsLawful limits → Fits limits speed → (number : List ℕ)
    → heard limits (call_runs speed number) ≡ call_runs speed number
heard-call limits speed lawful fits number =
    heard-all limits _ (all-call _ speed (timely limits speed lawful fits) number)

-- no run of a call releases the line
holding : (limits : Limits) (speed : Speed) → IsLawful limits → Fits limits speed
    → EachRun (λ run. is_release limits run ≡ false) speed
holding limits speed lawful fits =
    record {
      breaks = lt-leb _ _ (omega (arith, fits.break_fits.1, lawful.pulses_under));
      makes = refl;
      pauses = refl;
      seizes = refl;
    }

-- one piece
abbrev pub piece : List Run → Bool → Attempt
piece runs released = record { runs = runs; released = released }

-- runs of which none releases are one piece
pieces-last : (limits : Limits) (run : Run) (runs : List Run)
    → AllByRecursion (λ r. is_release limits r ≡ false) (run ∷ runs)
    → pieces_of limits (run ∷ runs) ≡ piece (run ∷ runs) false ∷ []
pieces-last limits run [] h = rw h.0 refl
pieces-last limits run (next ∷ runs) h = cond-false _ _ _ h.0
    ∙ ap (into_first run) (pieces-last limits next runs h.1)

-- up to a release they are one piece too
pieces-released : (limits : Limits) (runs : List Run) (end : Run) (rest : List Run)
    → AllByRecursion (λ r. is_release limits r ≡ false) runs → is_release limits end ≡ true
    → pieces_of limits (runs ++ end ∷ rest) ≡ piece runs true ∷ pieces_of limits rest
pieces-released limits [] end rest h e = cond-true _ _ _ e
pieces-released limits (run ∷ runs) end rest h e =
    cond-false _ _ _ h.0 ∙ ap (into_first run) (pieces-released limits runs end rest h.1 e)

-- the last call of a line
pub pieces-call : (limits : Limits) (speed : Speed) → IsLawful limits → Fits limits speed → (number : List ℕ)
    → pieces_of limits (call_runs speed number) ≡ piece (call_runs speed number) false ∷ []
pieces-call limits speed lawful fits number =
    pieces-last limits _ _ (all-call _ speed (holding limits speed lawful fits) number)

-- a call that is hung up
pub pieces-hung_up : (limits : Limits) (speed : Speed) → IsLawful limits → Fits limits speed
    → (number : List ℕ) (rest : List Run)
    → pieces_of limits (call_runs speed number ++ break speed.hang_up_ms ∷ rest)
    ≡ piece (call_runs speed number) true ∷ pieces_of limits rest
pieces-hung_up limits speed lawful fits number rest =
    pieces-released limits (call_runs speed number) (break speed.hang_up_ms) rest
    (all-call _ speed (holding limits speed lawful fits) number) (le-leb _ _ fits.hang_up_fits.0)

-- makes and breaks in turn, of which none lasts 0 ms; true says that the first is a make
abbrev pub Alternate : Bool → List Run → Type 0
Alternate closed [] = Unit {0}
Alternate true (run ∷ runs) = (run.contact ≡ Make) × (0 < run.ms) × Alternate false runs
Alternate false (run ∷ runs) = (run.contact ≡ Brk) × (0 < run.ms) × Alternate true runs

-- each time of the speed is over 0 ms
record Lasts (speed : Speed) : Type 0 where
  breaks : 0 < speed.break_ms
  makes : 0 < speed.make_ms
  pauses : 0 < speed.pause_ms
  seizes : 0 < speed.seize_ms
  hangs_up : 0 < speed.hang_up_ms

lasts : (limits : Limits) (speed : Speed) → IsLawful limits → Fits limits speed → Lasts speed
lasts limits speed lawful fits =
    record {
      breaks = omega (arith, fits.break_fits.0, lawful.each.pulse_min.0);
      makes = omega (arith, fits.make_fits.0, lawful.each.make_min.0);
      pauses = omega (arith, fits.pause_fits.0, lawful.each.pause.0);
      seizes = fits.seize_fits.0;
      hangs_up = omega (arith, fits.hang_up_fits.0, lawful.each.release.0);
    }

alternate-pulses : (speed : Speed) → Lasts speed → (n : ℕ) (rest : List Run) → Alternate false rest
    → Alternate false (pulses speed n ++ rest)
unfolding pulses
alternate-pulses speed last zero rest h = h
alternate-pulses speed last (suc zero) rest h = (refl, last.breaks, (refl, last.pauses, h))
alternate-pulses speed last (suc (suc n)) rest h =
    (refl, last.breaks, (refl, last.makes, alternate-pulses speed last (suc n) rest h))

alternate-digits : (speed : Speed) → Lasts speed → (number : List ℕ) (rest : List Run) → Alternate false rest
    → Alternate false (flat_map (digit_runs speed) number ++ rest)
alternate-digits speed last [] rest h = h
alternate-digits speed last (digit ∷ number) rest h =
    subst (Alternate false) (sym (append_assoc (digit_runs speed digit) (flat_map (digit_runs speed) number)
    rest))
    (alternate-pulses speed last (pulse_count digit) _ (alternate-digits speed last number rest h))

alternate-call : (speed : Speed) → Lasts speed → (number : List ℕ) (rest : List Run) → Alternate false rest
    → Alternate true (call_runs speed number ++ rest)
alternate-call speed last number rest h = (refl, last.seizes, alternate-digits speed last number rest h)

alternate-line : (speed : Speed) → Lasts speed → (numbers : List (List ℕ))
    → Alternate true (line_runs speed numbers)
alternate-line speed last [] = tt
alternate-line speed last (number ∷ []) =
    subst (Alternate true) (append-nil (call_runs speed number)) (alternate-call speed last number [] tt)
alternate-line speed last (number ∷ next ∷ more) =
    alternate-call speed last number (break speed.hang_up_ms ∷ line_runs speed (next ∷ more))
    (refl, last.hangs_up, alternate-line speed last (next ∷ more))

-- such runs are the record of their rows
pub record-alternate : (l : ℕ) (closed : Bool) (runs : List Run) → Alternate closed runs
    → record_up_to_close (on_line l runs) ≡ runs
record-alternate l closed [] h = refl
record-alternate l true (run ∷ runs) h =
    let some : (run.ms == 0) ≡ false = ne_eqb run.ms 0 (λ e. omega (arith, e, h.1)) in
    rw (h.0, some) (ap (λ rest. run_of Make run.ms ∷ rest) (record-alternate l false runs h.2))
record-alternate l false (run ∷ runs) h =
    let some : (run.ms == 0) ≡ false = ne_eqb run.ms 0 (λ e. omega (arith, e, h.1)) in
    rw (h.0, some) (ap (λ rest. run_of Brk run.ms ∷ rest) (record-alternate l true runs h.2))

-- they are joined already
join-alternate : (closed : Bool) (run : Run) (runs : List Run) → Alternate closed (run ∷ runs)
    → join run runs ≡ run ∷ runs
join-alternate closed run [] h = refl
join-alternate true run (next ∷ runs) h = rw (h.0, h.2.0) refl
join-alternate false run (next ∷ runs) h = rw (h.0, h.2.0) refl

pub joined-alternate : (closed : Bool) (runs : List Run) → Alternate closed runs → joined runs ≡ runs
joined-alternate closed [] h = refl
joined-alternate true (run ∷ runs) h =
    ap (join run) (joined-alternate false runs h.2) ∙ join-alternate true run runs h
joined-alternate false (run ∷ runs) h =
    ap (join run) (joined-alternate true runs h.2) ∙ join-alternate false run runs h

pub kept-first : (runs : List Run) → Alternate true runs → without_first_break runs ≡ runs
kept-first [] h = refl
kept-first (run ∷ runs) h = rw h.0 refl

-- the calls of a line are the record of its rows, and its runs
pub record-line : (limits : Limits) (speed : Speed) → IsLawful limits → Fits limits speed
    → (l : ℕ) (numbers : List (List ℕ))
    → record_up_to_close (on_line l (line_runs speed numbers)) ≡ line_runs speed numbers
record-line limits speed lawful fits l numbers =
    record-alternate l true _ (alternate-line speed (lasts limits speed lawful fits) numbers)

pub runs-line : (limits : Limits) (speed : Speed) → IsLawful limits → Fits limits speed
    → (numbers : List (List ℕ))
    → runs_of (line_runs speed numbers) ≡ line_runs speed numbers
runs-line limits speed lawful fits numbers =
    let alternate = alternate-line speed (lasts limits speed lawful fits) numbers in
    ap without_first_break (joined-alternate true _ alternate) ∙ kept-first _ alternate
