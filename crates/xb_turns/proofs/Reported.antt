-- The digits that are told are those of the report.
use Rattle.std.proofs.Common.{◌≡◌, ℕ, ◌+◌, ◌<◌, ◌^◌, List, [], ◌∷◌, ◌++◌, Bool, true, false, Option, Some, None, map, max, nat_le, refl, ap, ap₂, sym, ◌∙◌, arith, cond, add-zero}
use Rattle.std.specs.List.{flat_map}
use Rattle.xb_model.specs.declared.limits.Limits.{Limits}
use Rattle.xb_model.specs.declared.plan.Plan.{Plan}
use Rattle.xb_model.specs.declared.row.Contact.TheVariants.{Make, Brk}
use Rattle.xb_contact.specs.declared.level.Level.{Level}
use Rattle.xb_contact.specs.declared.level.Level.TheVariants.{Closed, Open}
use Rattle.xb_heard.specs.declared.run.PlacedRun.{PlacedRun}
use Rattle.xb_heard.specs.PlacedRuns.{placed}
use Rattle.xb_heard.specs.Digits.{digits_of_parts}
use Rattle.xb_heard.specs.Faults.{fault_at}
use Rattle.xb_heard.specs.Parts.{RunsPart, heard_placed, onto_part, part_of}
use Rattle.xb_turns.specs.declared.dial.Place.{Place}
use Rattle.xb_turns.specs.declared.dial.Place.TheVariants.{OnHook, Waiting, Pulsing, Over}
use Rattle.xb_turns.specs.declared.dial.Said.TheVariants.{Digit}
use Rattle.xb_turns.specs.declared.train.Timed.{Timed}
use Rattle.xb_turns.specs.declared.train.Train.{Train}
use Rattle.xb_turns.specs.declared.train.Wrong.{Wrong}
use Rattle.xb_turns.specs.Dials.{hung_up, place_after_level, pulse_more, said_of}
use Rattle.xb_turns.specs.Digits.{said_list}
use Rattle.xb_turns.specs.ReportLaws.{contact_of, judged_digit, judged_said}
use Rattle.xb_turns.specs.Trains.{one_more, or_fault, with_make}
use Rattle.xb_turns.proofs.ReportParts.{Judged, after, all_digits, at_pauses, digits_from, from-none, from-onto, or-nothing, split, up_to}

-- what is heard of the rest of an attempt, cut at the pauses
abbrev rest_parts : Limits → List PlacedRun → List RunsPart
rest_parts limits runs = at_pauses limits (heard_placed limits (up_to limits runs))

-- the digits that the report tells of the runs from a place on
abbrev pub digits_at : Plan → Limits → Place → List PlacedRun → List Judged
digits_at plan limits OnHook runs = all_digits plan limits runs
digits_at plan limits Waiting runs =
    digits_from limits 0 None (rest_parts limits runs) ++ all_digits plan limits (after limits runs)
digits_at plan limits (Pulsing train) runs =
    digits_from limits train.pulses train.wrong (rest_parts limits runs) ++ all_digits plan limits (after limits runs)
digits_at plan limits Over runs = all_digits plan limits (after limits runs)

-- the levels that can come at a place
abbrev pub fits : Place → Level → Bool
fits OnHook Closed = true
fits OnHook Open = false
fits Waiting Closed = false
fits Waiting Open = true
fits (Pulsing train) level = true
fits Over level = true

abbrev pub pulses_at : Place → ℕ
pulses_at OnHook = 0
pulses_at Waiting = 0
pulses_at (Pulsing train) = train.pulses
pulses_at Over = 0

abbrev pub judged_now : Limits → Place → Level → Timed → ℕ → List Judged
judged_now limits place level run edge = flat_map judged_said (said_list (said_of limits place level run edge))

-- a run as the report has it
abbrev pub run_at : Level → Timed → ℕ → ℕ → PlacedRun
run_at level run start number = placed (contact_of level) run.ms start number

abbrev Steps : Plan → Limits → Place → Level → Timed → ℕ → List PlacedRun → ℕ → ℕ → Type 0
Steps plan limits place level run edge runs start number =
    digits_at plan limits place (run_at level run start number ∷ runs)
    ≡ judged_now limits place level run edge ++ digits_at plan limits (place_after_level limits place level run) runs

module _ (plan : Plan) (limits : Limits) (run : Timed) (edge : ℕ) (runs : List PlacedRun) (start number : ℕ) where
  abbrev make : PlacedRun
  make = run_at Closed run start number

  abbrev break : PlacedRun
  break = run_at Open run start number

  seizes : Steps plan limits OnHook Closed run edge runs start number
  seizes = split plan limits (make ∷ runs) ∙ by (nat_le limits.timeout run.ms)
    where
      by :
          (b : Bool)
          → map judged_digit (digits_of_parts limits
          (at_pauses limits (cond b [] (heard_placed limits (up_to limits runs)))))
          ++ all_digits plan limits (after limits runs)
          ≡ digits_at plan limits (cond b Over Waiting) runs
      by true = refl
      by false =
          ap (λ digits. digits ++ all_digits plan limits (after limits runs)) (sym (from-none limits (rest_parts limits runs)))

  begins : Steps plan limits Waiting Open run edge runs start number
  begins = by (nat_le limits.release run.ms)
    where
      by :
          (b : Bool)
          → digits_from limits 0 None (at_pauses limits (heard_placed limits (cond b [] (break ∷ up_to limits runs))))
          ++ all_digits plan limits (cond b runs (after limits runs))
          ≡ flat_map judged_said (said_list (cond b (hung_up Waiting edge) None))
          ++ digits_at plan limits (cond b OnHook (pulse_more limits Waiting run)) runs
      by true = refl
      by false =
          ap (λ digits. digits ++ all_digits plan limits (after limits runs))
          (from-onto limits 0 None break (rest_parts limits runs))

  goes-on : (train : Train) → one_more train.pulses ≡ train.pulses + 1
      → Steps plan limits (Pulsing train) Open run edge runs start number
  goes-on train more = by (nat_le limits.release run.ms)
    where
      by :
          (b : Bool)
          → digits_from limits train.pulses train.wrong
          (at_pauses limits (heard_placed limits (cond b [] (break ∷ up_to limits runs))))
          ++ all_digits plan limits (cond b runs (after limits runs))
          ≡ flat_map judged_said (said_list (cond b (hung_up (Pulsing train) edge) None))
          ++ digits_at plan limits (cond b OnHook (pulse_more limits (Pulsing train) run)) runs
      by true = refl
      by false =
          ap (λ digits. digits ++ all_digits plan limits (after limits runs))
          (from-onto limits train.pulses train.wrong break (rest_parts limits runs)
          ∙ ap (λ (n : ℕ). digits_from limits n (or_fault train.wrong (fault_at limits n Brk run.ms) run.ms) (rest_parts limits runs))
          (sym more))

  rests : (train : Train) → Steps plan limits (Pulsing train) Closed run edge runs start number
  rests train = by (nat_le limits.timeout run.ms) (nat_le limits.pause run.ms)
    where
      by :
          (over ended : Bool)
          → digits_from limits train.pulses train.wrong
          (cond ended
          (part_of [] (Some make) ∷ at_pauses limits (cond over [] (heard_placed limits (up_to limits runs))))
          (onto_part make (at_pauses limits (cond over [] (heard_placed limits (up_to limits runs))))))
          ++ all_digits plan limits (after limits runs)
          ≡ flat_map judged_said (said_list (cond ended (Some (Digit train (max train.bounce edge))) None))
          ++ digits_at plan limits (cond over Over (cond ended Waiting (Pulsing (with_make limits train run)))) runs
      by true true =
          ap₂ (λ (n : ℕ) (wrong : Option Wrong). (n, wrong) ∷ all_digits plan limits (after limits runs))
          (add-zero train.pulses) (or-nothing train.wrong)
      by true false = refl
      by false true =
          ap₂ (λ (n : ℕ) (wrong : Option Wrong). (n, wrong)
          ∷ (map judged_digit (digits_of_parts limits (rest_parts limits runs)) ++ all_digits plan limits (after limits runs)))
          (add-zero train.pulses) (or-nothing train.wrong)
          ∙ ap (λ digits. (train.pulses, train.wrong) ∷ (digits ++ all_digits plan limits (after limits runs)))
          (sym (from-none limits (rest_parts limits runs)))
      by false false =
          ap (λ digits. digits ++ all_digits plan limits (after limits runs))
          (from-onto limits train.pulses train.wrong make (rest_parts limits runs)
          ∙ ap (λ (n : ℕ). digits_from limits n (or_fault train.wrong (fault_at limits n Make run.ms) run.ms) (rest_parts limits runs))
          (add-zero train.pulses))

  stays-over : Steps plan limits Over Closed run edge runs start number
  stays-over = by (nat_le limits.timeout run.ms)
    where
      by : (b : Bool) → all_digits plan limits (after limits runs) ≡ digits_at plan limits (cond b Over Over) runs
      by true = refl
      by false = refl

  is-released : Steps plan limits Over Open run edge runs start number
  is-released = by (nat_le limits.release run.ms)
    where
      by :
          (b : Bool)
          → all_digits plan limits (cond b runs (after limits runs))
          ≡ flat_map judged_said (said_list (cond b (hung_up Over edge) None)) ++ digits_at plan limits (cond b OnHook Over) runs
      by true = refl
      by false = refl

  pub steps :
      (place : Place) (level : Level) → fits place level ≡ true → pulses_at place + 1 < 2 ^ 64
      → Steps plan limits place level run edge runs start number
  steps OnHook Closed fit room = seizes
  steps OnHook Open fit room = cc
  steps Waiting Closed fit room = cc
  steps Waiting Open fit room = begins
  steps (Pulsing train) Closed fit room = rests train
  steps (Pulsing train) Open fit room = goes-on train (omega (arith, room))
  steps Over Closed fit room = stays-over
  steps Over Open fit room = is-released
