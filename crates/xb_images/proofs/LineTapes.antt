-- The tapes of the four images are the tapes of the lines.
use Rattle.std.proofs.Common.{◌≡◌, ℕ, ◌<◌, List, [], ◌∷◌, length, map, None, refl, sym, ap, ◌∙◌}
use Rattle.std.specs.List.{flat_map}
use Rattle.std.proofs.lemmas.List.Folds.{flat_map-map}
use Rattle.std.proofs.lemmas.Simd.{map-map}
use Rattle.std.proofs.lemmas.List.FromFn.{fill_by_all}
use Rattle.xb_model.specs.declared.limits.Limits.{Limits}
use Rattle.xb_model.specs.declared.line.TheConstants.{LINES}
use Rattle.xb_model.specs.declared.on.On.{On}
use Rattle.xb_model.specs.declared.mark.Mark.{Mark}
use Rattle.xb_model.specs.declared.plan.Plan.{Plan}
use Rattle.xb_model.specs.declared.signal.Signal.{Signal}
use Rattle.xb_model.specs.declared.dialled.Dialled.{Dialled}
use Rattle.xb_model.specs.declared.order.Order.{Order}
use Rattle.xb_model.specs.LawfulLimits.{IsLawful}
use Rattle.xb_model.specs.Rows.{LoopRow}
use Rattle.xb_model.specs.Records.{rows_of, record_of}
use Rattle.xb_model.specs.Routing.{CodedRoute, order_of}
use Rattle.xb_model.specs.Keyings.{marks_of}
use Rattle.xb_model.specs.Numbers.{outcomes_of}
use Rattle.xb_model.specs.Tapes.{tape_of, joined_tape, entries_of}
use Rattle.xb_model.specs.Lines.{row_line, on_line_of, of_line}
use Rattle.xb_model.specs.Image.{image, image_on}
use Rattle.xb_model.specs.OnLines.{on_line, all_on}
use Rattle.xb_model.proofs.Images.{image-of_line}
use Rattle.xb_pulse.specs.Machine.{machine as pulse_machine}
use Rattle.xb_pulse.specs.Outputs.{outs_on_line}
use Rattle.xb_register.specs.Machine.{machine as register_machine}
use Rattle.xb_routes.specs.Machine.{machine as translate_machine}
use Rattle.xb_sender.specs.Machine.{machine as sender_machine}
use Rattle.xb_model.proofs.Entries.{entries_of-flat_map}
use Rattle.xb_closes.specs.Fed.{fed}
use Rattle.xb_model.specs.Lines.{lines_below}
use Rattle.xb_images.specs.Images.{serial_image}
use Rattle.xb_model.specs.Tapes.{marks_at, tapes_of}
use Rattle.xb_tape.specs.GatheredMarks.{whats_of, AreTapes}
use Rattle.xb_images.proofs.Chain.{chain, chain-fed}

pub whats_of-on_line : (l : ℕ) (marks : List Mark) → whats_of (on_line l marks) ≡ marks
whats_of-on_line l [] = refl
whats_of-on_line l (mark ∷ marks) = ap (λ ms. mark ∷ ms) (whats_of-on_line l marks)

-- the entries of joined entries are those entries
entries_of-orders : {A : Type 0} (f : A → Order) (xs : List A) → entries_of (flat_map (λ entry. entry) (map (λ x. marks_of (f x)) xs)) ≡ map (λ x. marks_of (f x)) xs
entries_of-orders f xs =
    ap entries_of (flat_map-map (λ entry. entry) (λ x. marks_of (f x)) xs ∙ sym (flat_map-map marks_of f xs))
    ∙ entries_of-flat_map (map f xs)
    ∙ map-map marks_of f xs

-- lists that have this value at each line are those of all lines
each_line : (f : ℕ → List Mark) (tapes : List (List Mark)) → length tapes ≡ LINES → ((l : ℕ) → l < LINES → marks_at tapes l ≡ f l) → tapes ≡ map f (lines_below LINES)
unfolding lines_below
each_line f tapes lines each = fill_by_all f tapes LINES [] lines each

module _ (plan : Plan) (limits : Limits) (routes : List CodedRoute) where
  -- the items of a line in the four images are the four images of the line's items
  pub serial_image-line : (l : ℕ) (rows : List LoopRow) → of_line on_line_of l (serial_image plan limits routes rows) ≡ chain plan limits routes (rows_of l rows)
  serial_image-line l rows =
      let signals : List (On Signal) = image row_line (pulse_machine limits) rows in
      let dialled : List (On Dialled) = image on_line_of (register_machine plan) signals in
      let orders : List (On Order) = image on_line_of (translate_machine routes) dialled in
      image-of_line on_line_of on_line_of sender_machine (λ q x. all_on x.line _) l orders
      ∙ ap (λ xs. image_on sender_machine xs) (image-of_line on_line_of on_line_of (translate_machine routes) (λ q x. all_on x.line (order_of routes x.what ∷ [])) l dialled)
      ∙ ap (λ xs. image_on sender_machine (image_on (translate_machine routes) xs)) (image-of_line on_line_of on_line_of (register_machine plan) (λ q x. all_on x.line _) l signals)
      ∙ ap (λ xs. image_on sender_machine (image_on (translate_machine routes) (image_on (register_machine plan) xs))) (image-of_line row_line on_line_of (pulse_machine limits) (outs_on_line limits) l rows)

  -- where the chain makes of each line's given rows the tape of its rows
  module _ (given rows : List LoopRow) (made : (l : ℕ) → l < LINES → chain plan limits routes (rows_of l given) ≡ on_line l (joined_tape plan limits routes l rows))
      (tapes : List (List Mark)) (marks : List (On Mark)) (are : AreTapes tapes marks) (e : marks ≡ serial_image plan limits routes given) where
    -- each line has its tape
    pub marks_at-made : (l : ℕ) → l < LINES → marks_at tapes l ≡ joined_tape plan limits routes l rows
    marks_at-made l below =
        are.each l below
        ∙ ap whats_of (ap (of_line on_line_of l) e ∙ serial_image-line l given ∙ made l below)
        ∙ whats_of-on_line l (joined_tape plan limits routes l rows)

    -- its entries are those of the tape
    pub entries-made : (l : ℕ) → l < LINES → entries_of (marks_at tapes l) ≡ tape_of plan limits routes l rows
    entries-made l below = ap entries_of (marks_at-made l below) ∙ entries_of-orders (order_of routes) (outcomes_of plan limits (record_of l rows))

    -- so the tapes are those of the rows
    pub tapes-made : tapes ≡ tapes_of plan limits routes rows
    tapes-made = each_line (λ l. joined_tape plan limits routes l rows) tapes are.lines marks_at-made

  -- so it does of the fed rows
  module _ (lawful : IsLawful limits) (tapes : List (List Mark)) (marks : List (On Mark)) (rows : List LoopRow)
      (are : AreTapes tapes marks) (e : marks ≡ serial_image plan limits routes (fed rows None)) where
    abbrev made : (l : ℕ) → l < LINES → chain plan limits routes (rows_of l (fed rows None)) ≡ on_line l (joined_tape plan limits routes l rows)
    made l below = chain-fed plan limits routes l rows lawful below

    pub marks_at-serial : (l : ℕ) → l < LINES → marks_at tapes l ≡ joined_tape plan limits routes l rows
    marks_at-serial = marks_at-made (fed rows None) rows made tapes marks are e

    pub entries-serial : (l : ℕ) → l < LINES → entries_of (marks_at tapes l) ≡ tape_of plan limits routes l rows
    entries-serial = entries-made (fed rows None) rows made tapes marks are e

    pub tapes-serial : tapes ≡ tapes_of plan limits routes rows
    tapes-serial = tapes-made (fed rows None) rows made tapes marks are e
