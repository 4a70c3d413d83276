-- The text of changes, part by part.
use Rattle.std.proofs.Common.{◌≡◌, ◌∙◌, ℕ, ◌+◌, ◌-◌, List, [], ◌∷◌, ◌++◌, refl, ap, sym, append_assoc, add_assoc, add-zero, zero-add, codes, arith}
use Rattle.xb_contact.specs.declared.level.Level.{Level}
use Rattle.xb_contact.specs.declared.hold.Hold.{Hold}
use Rattle.xb_contact.specs.Bounces.{Bounce, bounce_ticks, bounced, recorded, recorded_run}
use Rattle.xb_contact.specs.Changes.{Change}
use Rattle.xb_contact.specs.Holds.{hold_of, other_level, total_of}
use Rattle.xb_chance.specs.Words.{state_after}
use Rattle.xb_vcd.specs.WrittenVcd.{change_lines, time_line}
use Rattle.xb_dial.specs.Drawn.{bounces_of, disturbed_by, disturbed_from}
use Rattle.xb_dial.specs.Traces.{change_at, change_text, changes_from, run_text, text_of}
use Rattle.xb_dial.proofs.Bounded.{bounces-end}

pub text-append : (first rest : List (List ℕ)) → text_of (first ++ rest) ≡ text_of first ++ text_of rest
text-append [] rest = refl
text-append (line ∷ first) rest =
    ap (λ xs. (line ++ codes "\n") ++ xs) (text-append first rest)
    ∙ sym (append_assoc (line ++ codes "\n") (text_of first) (text_of rest))

lines-append : (first rest : List Change) → change_lines (first ++ rest) ≡ change_lines first ++ change_lines rest
lines-append [] rest = refl
lines-append (change ∷ first) rest = ap (λ xs. (change_lines (change ∷ [])) ++ xs) (lines-append first rest)

changes-append :
    (tick : ℕ) (first rest : List Hold)
    → changes_from tick (first ++ rest) ≡ changes_from tick first ++ changes_from (tick + total_of first) rest
changes-append tick [] rest = ap (λ n. changes_from n rest) (sym (add-zero tick))
changes-append tick (hold ∷ first) rest =
    ap (λ xs. change_at tick hold.level ∷ xs) (changes-append (tick + hold.ticks) first rest
    ∙ ap (λ n. changes_from (tick + hold.ticks) first ++ changes_from n rest) (add_assoc tick hold.ticks (total_of first)))

-- a change before others
change-first :
    (change : Change) (rest : List Change)
    → text_of (change_lines (change ∷ rest)) ≡ text_of (change_lines (change ∷ [])) ++ text_of (change_lines rest)
change-first change rest = text-append (change_lines (change ∷ [])) (change_lines rest)

-- what is left of a run, of whose bounces these are left
abbrev pub run_left : ℕ → Level → List Bounce → ℕ → List ℕ
run_left now level bounces ticks =
    text_of (change_lines (changes_from now (bounced level bounces ++ hold_of level ticks ∷ [])))

pub bounce-first :
    (now : ℕ) (level : Level) (bounce : Bounce) (rest : List Bounce) (ticks : ℕ)
    → run_left now level (bounce ∷ rest) ticks
    ≡ (change_text now level ++ change_text (now + bounce.holds) (other_level level))
    ++ run_left (now + (bounce.holds + bounce.leaves)) level rest ticks
bounce-first now level bounce rest ticks =
    let later : ℕ → List Change = λ n. changes_from n (bounced level rest ++ hold_of level ticks ∷ []) in
    let other : Change = change_at (now + bounce.holds) (other_level level) in
    change-first (change_at now level) (other ∷ later (now + bounce.holds + bounce.leaves))
    ∙ ap (λ xs. change_text now level ++ xs) (change-first other (later (now + bounce.holds + bounce.leaves))
    ∙ ap (λ n. text_of (change_lines (other ∷ [])) ++ text_of (change_lines (later n))) (add_assoc now bounce.holds bounce.leaves))
    ∙ sym (append_assoc (change_text now level) (text_of (change_lines (other ∷ [])))
    (text_of (change_lines (later (now + (bounce.holds + bounce.leaves))))))

-- a run takes its own time
bounced-total : (level : Level) (bounces : List Bounce) (rest : List Hold)
    → total_of (bounced level bounces ++ rest) ≡ bounce_ticks bounces + total_of rest
bounced-total level [] rest = sym (zero-add (total_of rest))
bounced-total level (bounce ∷ bounces) rest =
    ap (λ n. bounce.holds + (bounce.leaves + n)) (bounced-total level bounces rest)
    ∙ omega arith

pub run-total : (us state : ℕ) (run : Hold) → total_of (recorded_run (disturbed_by us state run)) ≡ run.ticks
run-total us state run =
    let end = bounces-end us state run.ticks in
    let bounces : List Bounce = bounces_of us state run.ticks in
    bounced-total run.level bounces (hold_of run.level (run.ticks - bounce_ticks bounces) ∷ [])
    ∙ omega (arith, end.1)

-- what is left of runs
abbrev pub runs_left : ℕ → ℕ → ℕ → ℕ → List Hold → ℕ → List ℕ
runs_left tick first us state runs end =
    text_of (change_lines (changes_from tick (recorded (disturbed_from first us state runs))) ++ time_line end ∷ [])

pub run-first :
    (tick first us state : ℕ) (run : Hold) (rest : List Hold) (end : ℕ)
    → runs_left tick first us state (run ∷ rest) end
    ≡ run_text tick first state run ++ runs_left (tick + run.ticks) us us (state_after state 9) rest end
run-first tick first us state run rest end =
    let one : List Hold = recorded_run (disturbed_by first state run) in
    let later : List Hold = recorded (disturbed_from us us (state_after state 9) rest) in
    let last : List (List ℕ) = time_line end ∷ [] in
    ap (λ changes. text_of (change_lines changes ++ last)) (changes-append tick one later
    ∙ ap (λ n. changes_from tick one ++ changes_from (tick + n) later) (run-total first state run))
    ∙ ap (λ lines. text_of (lines ++ last)) (lines-append (changes_from tick one) (changes_from (tick + run.ticks) later))
    ∙ ap text_of (append_assoc (change_lines (changes_from tick one)) (change_lines (changes_from (tick + run.ticks) later)) last)
    ∙ text-append (change_lines (changes_from tick one)) (change_lines (changes_from (tick + run.ticks) later) ++ last)
