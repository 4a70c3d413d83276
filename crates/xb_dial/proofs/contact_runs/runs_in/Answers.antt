use Rattle.std.proofs.Common.{rules, ◌≡◌, ◌∙◌, ℕ, ◌≤◌, ◌++◌, List, [], ◌∷◌, length, drop, map, ap, sym, arith}
use Rattle.std.proofs.lemmas.List.{drop_all}
use Rattle.xb_model.specs.Rows.{LoopRow}
use Rattle.xb_contact.specs.declared.hold.Hold.{Hold}
use Rattle.xb_contact.specs.Holds.{hold_of, join, runs_of}
use Rattle.xb_contact.specs.declared.level.Level.TheVariants.{Open}
use Rattle.xb_dial.specs.Runs.{hold_of_row, on_hook, runs_in}
use Rattle.xb_dial.proofs.contact_runs.runs_in.Goals as goal

-- no row is left, and the line is on hook
last-is :
    (runs next : List Hold) (last end : Hold) (hold : Hold) (rows : List LoopRow) (i : ℕ) → length rows ≤ i → hold ≡ on_hook
    → runs ++ join last (runs_of (map hold_of_row (drop i rows) ++ on_hook ∷ [])) ≡ runs_in rows
    → ((later : List Hold) → runs ++ join last (runs_of (hold ∷ later)) ≡ next ++ join end (runs_of later))
    → next ++ end ∷ [] ≡ runs_in rows
last-is runs next last end hold rows i past is before after =
    sym (after [])
    ∙ ap (λ (h : Hold). runs ++ join last (runs_of (h ∷ []))) is
    ∙ sym (ap (λ (left : List LoopRow). runs ++ join last (runs_of (map hold_of_row left ++ on_hook ∷ []))) (drop_all i rows past))
    ∙ before

pub returns : goal.returns
returns c =
    c.in_ok-push.ensures.items
    ∙ last-is c.loop-row.runs.items c.last_after-2.new.runs.items c.loop-row.last c.in_ok-last-2.last _ c.args.rows.now
    c.loop-row.row-index (omega (arith, c.loop-row-test.false)) (ap (λ (n : ℕ). hold_of Open n) (search rules))
    c.loop-row.invariant.runs c.in_ok-last-2.ensures.runs
