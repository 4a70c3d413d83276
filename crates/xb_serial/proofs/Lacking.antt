-- What the entries of the settled attempts of a record lack of its tape.
use Rattle.std.proofs.Common.{◌≡◌, ℕ, true, false, cond, Bool, ◌||◌, not, ◌⊎◌, inl, inr, List, [], ◌∷◌, ◌++◌, refl, sym, ap, ◌∙◌, subst, append_assoc, append-nil}
use Rattle.std.specs.List.{filter, flat_map}
use Rattle.std.proofs.lemmas.List.Folds.{flat_map-map}
use Rattle.xb_model.specs.declared.dialled.Dialled.{Dialled}
use Rattle.xb_model.specs.declared.dialled.Dialled.TheVariants as dialled
use Rattle.xb_model.specs.declared.mark.Mark.{Mark}
use Rattle.xb_model.specs.declared.mark.Mark.TheVariants.{Refused}
use Rattle.xb_model.specs.declared.reason.Reason.{Reason}
use Rattle.xb_model.specs.declared.reason.Reason.TheVariants.{Mutilated, Unknown, Abandoned, TimedOut}
use Rattle.xb_model.specs.Keyings.{marks_of}
use Rattle.xb_model.specs.Numbers.{outcome_of, outcomes_of}
use Rattle.xb_model.specs.Records.{Attempt, attempts_of, has_runs, pieces_of, record_of, runs_of}
use Rattle.xb_model.specs.Routing.{order_of}
use Rattle.xb_model.specs.Rows.{LoopRow}
use Rattle.xb_register.proofs.Attempts.{AllButLastReleased, released-filter, released-pieces_of}
use Rattle.xb_routes.specs.Table.{Table}
use Rattle.xb_serial.specs.Promises.{is_abandonment, is_abandoned, is_settled, tape_on, settled_tape, LackARefusalAtMost}

neither : (x y : Bool) → (x || not y) ≡ false → (x ≡ false) × (y ≡ true)
neither true y h = absurd (cc h)
neither false true h = (refl, refl)
neither false false h = absurd (cc h)

module _ (table : Table) where
  abbrev marks_by : Dialled → List Mark
  marks_by outcome = marks_of (order_of table.routes outcome)

  abbrev outcome : Attempt → Dialled
  outcome attempt = outcome_of table.plan table.limits attempt.runs

  abbrev entry : Attempt → List Mark
  entry attempt = marks_by (outcome attempt)

  -- the mark of an abandoned attempt
  abbrev IsOneRefusal : List Mark → Type 0
  IsOneRefusal marks = (heard : ℕ) × (marks ≡ Refused Abandoned heard ∷ [])

  one_refusal : (reason : Reason) (heard : ℕ) → is_abandonment reason ≡ true
      → IsOneRefusal (marks_by (dialled.Refused reason heard))
  one_refusal Mutilated heard h = absurd (cc h)
  one_refusal Unknown heard h = absurd (cc h)
  one_refusal Abandoned heard h = (heard, refl)
  one_refusal TimedOut heard h = absurd (cc h)

  abandoned_marks : (outcome : Dialled) → is_abandoned outcome ≡ true → IsOneRefusal (marks_by outcome)
  abandoned_marks (dialled.Number digits) h = absurd (cc h)
  abandoned_marks (dialled.Refused reason heard) h = one_refusal reason heard h

  lacking : (attempts : List Attempt) → AllButLastReleased attempts
      → LackARefusalAtMost (flat_map entry (filter (is_settled table) attempts)) (flat_map entry attempts)
  lacking [] r = inl refl
  lacking (attempt ∷ more) r = at (is_settled table attempt) refl (lacking more r.1)
    where
      some : List Mark
      some = flat_map entry (filter (is_settled table) more)

      all : List Mark
      all = flat_map entry more

      grown : LackARefusalAtMost some all → LackARefusalAtMost (entry attempt ++ some) (entry attempt ++ all)
      grown (inl e) = inl (ap (λ marks. entry attempt ++ marks) e)
      grown (inr (heard, e)) = inr
          (heard, ap (λ marks. entry attempt ++ marks) e ∙ sym (append_assoc (entry attempt) some (Refused Abandoned heard ∷ [])))

      -- only the last attempt goes on
      goes_on : (attempt.released ≡ true) ⊎ (more ≡ []) → (attempt.released ≡ false) × (is_abandoned (outcome attempt) ≡ true)
          → LackARefusalAtMost some (entry attempt ++ all)
      goes_on (inl e) h = absurd (cc (e, h.0))
      goes_on (inr e) h =
          let refusal : IsOneRefusal (entry attempt) = abandoned_marks (outcome attempt) h.1 in
          inr (refusal.0, subst (λ others. entry attempt ++ flat_map entry others ≡ flat_map entry (filter (is_settled table) others) ++ Refused Abandoned refusal.0 ∷ []) (sym e) (append-nil (entry attempt) ∙ refusal.1))

      at : (settled : Bool) → is_settled table attempt ≡ settled → LackARefusalAtMost some all
          → LackARefusalAtMost (flat_map entry (cond settled (attempt ∷ filter (is_settled table) more) (filter (is_settled table) more))) (entry attempt ++ all)
      at true e ih = grown ih
      at false e ih = goes_on r.0 (neither attempt.released (is_abandoned (outcome attempt)) e)

  module _ (l : ℕ) (rows : List LoopRow) where
    abbrev attempts : List Attempt
    attempts = attempts_of table.limits (record_of l rows)

    tape-entries : tape_on table l rows ≡ flat_map entry attempts
    tape-entries =
        flat_map-map (λ marks. marks) marks_by (outcomes_of table.plan table.limits (record_of l rows))
        ∙ flat_map-map marks_by outcome attempts

    pub settled-lacks : LackARefusalAtMost (settled_tape table l rows) (tape_on table l rows)
    settled-lacks =
        subst (LackARefusalAtMost (settled_tape table l rows)) (sym tape-entries)
        (lacking attempts
        (released-filter (λ piece. has_runs piece.runs) (pieces_of table.limits (runs_of (record_of l rows)))
        (released-pieces_of table.limits (runs_of (record_of l rows)))))
