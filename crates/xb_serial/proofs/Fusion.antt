-- The stages in one pass make of all rows what they make one after another.
use Rattle.std.proofs.Common.{◌≡◌, ℕ, List, [], ◌∷◌, ◌++◌, fold, refl, sym, ap, ◌∙◌}
use mathlib.Core.List.{IsPrefix}
use Rattle.std.specs.List.{AllByRecursion, flat_map}
use Rattle.std.proofs.lemmas.List.Concat.{flat_map-append}
use Rattle.std.proofs.lemmas.List.Sums.{fold-append}
use Rattle.xb_model.specs.declared.dialled.Dialled.{Dialled}
use Rattle.xb_model.specs.declared.mark.Mark.{Mark}
use Rattle.xb_model.specs.declared.on.On.{On}
use Rattle.xb_model.specs.declared.order.Order.{Order}
use Rattle.xb_model.specs.declared.signal.Signal.{Signal}
use Rattle.xb_model.specs.Keyings.{marks_of}
use Rattle.xb_model.specs.Lines.{row_line, on_line_of, of_line}
use Rattle.xb_model.specs.Routing.{order_of}
use Rattle.xb_model.specs.Rows.{LoopRow}
use Rattle.xb_model.specs.Image.{Machine, state_after, image_after, image, image_from, image_on}
use Rattle.xb_model.specs.OnLines.{on_line, all_on}
use Rattle.xb_model.proofs.Images.{image_after-none, image_after-append, image_after-one, image-one, image-push, image-of_line, image-line}
use Rattle.xb_model.proofs.Stateless.{image_all-stateless}
use Rattle.xb_pulse.specs.declared.state.PulseState.{PulseState}
use Rattle.xb_pulse.specs.Machine.{machine as pulse_machine}
use Rattle.xb_pulse.specs.Outputs.{outs_on_line}
use Rattle.xb_register.specs.declared.state.RegisterState.{RegisterState}
use Rattle.xb_register.specs.Machine.{machine as register_machine}
use Rattle.xb_routes.specs.Table.{Table}
use Rattle.xb_routes.specs.Machine.{machine as translate_machine}
use Rattle.xb_sender.specs.Machine.{machine as sender_machine}
use Rattle.xb_serial.specs.declared.line.Line.{Line}
use Rattle.xb_serial.specs.Chain.{line_state, keyed, outcomes_of_row, marks_of_row, live_machine}
use Rattle.xb_serial.specs.Office.{marks_of_rows}
use Rattle.xb_serial.proofs.OneLine.{flat_all, image_from-on}

module _ (table : Table) where
  abbrev p : Machine LoopRow (On Signal) PulseState
  p = pulse_machine table.limits

  abbrev r : Machine (On Signal) (On Dialled) RegisterState
  r = register_machine table.plan

  abbrev m : Machine LoopRow (On Mark) Line
  m = live_machine table

  -- rows of one line leave the pulse stage and the register what each leaves
  states-from : (s : Line) (rows : List LoopRow) → fold m.next s rows ≡ line_state (fold p.next s.pulse rows) (fold r.next s.register (image_from p s.pulse rows))
  states-from s [] = refl
  states-from s (row ∷ rows) =
      states-from (m.next s row) rows
      ∙ ap (line_state (fold p.next (p.next s.pulse row) rows))
      (sym (fold-append r.next s.register (p.outs s.pulse row) (image_from p (p.next s.pulse row) rows)))

  -- so do rows of all lines, on each
  states-are : (l : ℕ) (earlier : List LoopRow) → state_after row_line m earlier l ≡ line_state (state_after row_line p earlier l) (state_after on_line_of r (image row_line p earlier) l)
  unfolding state_after
  states-are l earlier =
      states-from m.start (of_line row_line l earlier)
      ∙ ap (λ signals. line_state (fold p.next p.start (of_line row_line l earlier)) (fold r.next r.start signals))
      (sym (image-of_line row_line on_line_of p (outs_on_line table.limits) l earlier))

  -- what comes of attempts, by the pulse stage and the register one after another
  abbrev outcomes : List LoopRow → List LoopRow → List (On Dialled)
  outcomes earlier rows = image_after on_line_of r (image row_line p earlier) (image_after row_line p earlier rows)

  fuse : (earlier rows : List LoopRow) → image_after row_line m earlier rows ≡ flat_map (keyed table) (outcomes earlier rows)
  unfolding image_after
  fuse earlier [] = refl
  fuse earlier (row ∷ rows) =
      let l : ℕ = row_line row in
      let before : List (On Signal) = image row_line p earlier in
      let q : PulseState = state_after row_line p earlier l in
      let k : RegisterState = state_after on_line_of r before l in
      let now : List (On Signal) = p.outs q row in
      let later : List (On Signal) = image_after row_line p (earlier ++ row ∷ []) rows in
      ap (λ s. marks_of_row table s row ++ image_after row_line m (earlier ++ row ∷ []) rows) (states-are l earlier)
      ∙ ap (λ marks. marks_of_row table (line_state q k) row ++ marks) (fuse (earlier ++ row ∷ []) rows)
      ∙ sym (flat_map-append (keyed table) (image_from r k now) (outcomes (earlier ++ row ∷ []) rows))
      ∙ ap (flat_map (keyed table))
      (sym (image_after-append on_line_of r before now later
      ∙ ap (λ front. front ++ image_after on_line_of r (before ++ now) later) (image_after-one on_line_of r l before now (outs_on_line table.limits q row))
      ∙ ap (λ signals. image_from r k now ++ image_after on_line_of r signals later) (sym (image-push row_line p earlier row))))

  -- translation and the sender, one after another
  pub keyed-in_turn : (dialled : List (On Dialled)) → image on_line_of sender_machine (image on_line_of (translate_machine table.routes) dialled) ≡ flat_map (keyed table) dialled
  keyed-in_turn dialled =
      ap (image on_line_of sender_machine) (image_all-stateless (λ outcome. order_of table.routes outcome ∷ []) dialled)
      ∙ image_all-stateless marks_of (orders dialled)
      ∙ joined dialled
    where
      orders : List (On Dialled) → List (On Order)
      orders items = flat_map (λ (item : On Dialled). on_line item.line (order_of table.routes item.what ∷ [])) items

      joined : (items : List (On Dialled)) → flat_map (λ (order : On Order). on_line order.line (marks_of order.what)) (flat_map (λ (item : On Dialled). on_line item.line (order_of table.routes item.what ∷ [])) items) ≡ flat_map (keyed table) items
      joined [] = refl
      joined (item ∷ items) = ap (λ marks. keyed table item ++ marks) (joined items)

  -- all four in one pass
  pub fusion : (rows : List LoopRow) → image row_line (live_machine table) rows ≡ marks_of_rows table rows
  fusion rows =
      fuse [] rows
      ∙ ap (λ signals. flat_map (keyed table) (image_after on_line_of r signals (image row_line p rows))) (image_after-none row_line p [])
      ∙ sym (keyed-in_turn (image on_line_of r (image row_line p rows)))

  -- what a row gives is on its line
  pub row_marks-on : (s : Line) (row : LoopRow) → AllByRecursion (λ (mark : On Mark). on_line_of mark ≡ row_line row) (marks_of_row table s row)
  row_marks-on s row =
      flat_all (λ (mark : On Mark). on_line_of mark ≡ row_line row) (λ (item : On Dialled). on_line_of item ≡ row_line row) (keyed table) each
      (outcomes_of_row table s row)
      (image_from-on r on_line_of on_line_of (λ q x. all_on x.line _) (row_line row) s.register (p.outs s.pulse row) (outs_on_line table.limits s.pulse row))
    where
      along : (line l : ℕ) (marks : List (On Mark)) → line ≡ l → AllByRecursion (λ (mark : On Mark). on_line_of mark ≡ line) marks → AllByRecursion (λ (mark : On Mark). on_line_of mark ≡ l) marks
      along line l [] e a = tt
      along line l (mark ∷ marks) e a = (a.0 ∙ e, along line l marks e a.1)

      each : (item : On Dialled) → on_line_of item ≡ row_line row → AllByRecursion (λ (mark : On Mark). on_line_of mark ≡ row_line row) (keyed table item)
      each item e = along item.line (row_line row) (keyed table item) e (all_on item.line (marks_of (order_of table.routes item.what)))

  -- the marks of a line are those of its rows
  pub marks_of_line : (l : ℕ) (rows : List LoopRow) → of_line on_line_of l (marks_of_rows table rows) ≡ marks_of_rows table (of_line row_line l rows)
  marks_of_line l rows =
      ap (of_line on_line_of l) (sym (fusion rows))
      ∙ image-line row_line on_line_of (live_machine table) row_marks-on l rows
      ∙ fusion (of_line row_line l rows)

  -- more rows give more marks: none that was given is taken back
  pub marks-prefix : (rows later : List LoopRow)
      → IsPrefix (marks_of_rows table rows) (marks_of_rows table (rows ++ later))
  marks-prefix rows later = (
    image_after row_line m rows later,
    ap (λ marks. marks ++ image_after row_line m rows later) (sym (fusion rows))
        ∙ sym (image_after-append row_line m [] rows later)
        ∙ fusion (rows ++ later),
  )

  -- on rows of one line the chain is one machine
  pub fusion-one : (l : ℕ) (rows : List LoopRow) → AllByRecursion (λ row. row_line row ≡ l) rows
      → image_on (live_machine table) rows ≡ marks_of_rows table rows
  fusion-one l rows on = sym (image-one row_line (live_machine table) l rows on) ∙ fusion rows
