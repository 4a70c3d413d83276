-- What an office sends are digits, by each table that a text writes.
use Rattle.std.proofs.Common.{◌≡◌, ◌<◌, ◌%◌, ℕ, zero, suc, Bool, List, [], ◌∷◌, ◌++◌, drop, fold, length, map, Option, Some, None, refl, sym, subst, arith}
use Rattle.std.specs.Prelude.{IfSome}
use Rattle.std.specs.List.{AllByRecursion}
use Rattle.std.specs.Option.{option_to_list}
use Rattle.std.proofs.lemmas.Bool.{cond_both}
use Rattle.xb_model.specs.declared.dialled.Dialled.{Dialled}
use Rattle.xb_model.specs.declared.dialled.Dialled.TheVariants as dialled
use Rattle.xb_model.specs.declared.digit.TheConstants.{DIGITS}
use Rattle.xb_model.specs.declared.mark.Mark.{Mark}
use Rattle.xb_model.specs.declared.on.On.{On}
use Rattle.xb_model.specs.declared.order.Order.{Order}
use Rattle.xb_model.specs.declared.order.Order.TheVariants as orders
use Rattle.xb_model.specs.declared.plan.Plan.{Plan}
use Rattle.xb_model.specs.declared.signal.Signal.{Signal}
use Rattle.xb_model.specs.declared.signal.Signal.TheVariants.{Seize, Digit, TimeOut, Release, Close}
use Rattle.xb_model.specs.declared.signal.TheConstants.{MOST_PULSES}
use Rattle.xb_model.specs.Image.{Machine, image, image_after, state_after}
use Rattle.xb_model.specs.Keyings.{marks_of}
use Rattle.xb_model.specs.Lines.{of_line, on_line_of}
use Rattle.xb_model.specs.Numbers.{digit_of_count}
use Rattle.xb_model.specs.OnLines.{on_line}
use Rattle.xb_model.specs.Plans.{plan_len}
use Rattle.xb_model.specs.Routing.{AreRoutes, CodedRoute, IsRoute, order_by, order_of, route_for}
use Rattle.xb_model.specs.Rows.{LoopRow}
use Rattle.xb_model.specs.TwoOfFive.{digit_of_pattern, pattern_of_count}
use Rattle.xb_model.proofs.FoundRoutes.{found-is}
use Rattle.xb_model.proofs.Spelled.{spells}
use Rattle.xb_register.specs.declared.state.Phase.{Phase}
use Rattle.xb_register.specs.declared.state.Phase.TheVariants.{OnHook, Listening, Done}
use Rattle.xb_register.specs.Machine.{advance, enter, give, machine as register_machine, reaches, store}
use Rattle.xb_routes.specs.Table.{Table}
use Rattle.xb_serial.proofs.OneLine.{both_all}
use Rattle.xb_live.specs.Entries.{Entry, Numbered, entries_of_rows, numbered_after}
use Rattle.xb_live.specs.TimedEntries.{TimedEntry, entry_in, told_of_rows}
use Rattle.xb_live.proofs.Completed.{dialled_of, entries-dialled, entry_from}
use Rattle.xb_live.proofs.ToldRows.{told-all}

abbrev pub AreDigits : List ℕ → Type 0
AreDigits digits = AllByRecursion (λ digit. digit < DIGITS) digits

-- the marks of an entry are those of an order, and what it sends are digits
abbrev pub Sends : Order → Type 0
Sends (orders.Key trunk sent) = AreDigits sent
Sends (orders.Refused reason heard) = Unit {0}

pub record AreKeyed (marks : List Mark) : Type 0 where
  pub order : Order
  pub are : marks ≡ marks_of order
  pub sends : Sends order

-- a machine whose states keep to P gives what keeps to Q
module _ {I O S : Type 0} (line : I → ℕ) (m : Machine I O S) (P : S → Type 0) (Q : O → Type 0)
    (first : P m.start) (keeps : (state : S) (item : I) → P state → P (m.next state item))
    (gives : (state : S) (item : I) → P state → AllByRecursion Q (m.outs state item)) where
  folded : (state : S) (items : List I) → P state → P (fold m.next state items)
  folded state [] p = p
  folded state (item ∷ items) p = folded (m.next state item) items (keeps state item p)

  state-keeps : (earlier : List I) (l : ℕ) → P (state_after line m earlier l)
  unfolding state_after
  state-keeps earlier l = folded m.start (of_line line l earlier) first

  image-keeps : (earlier items : List I) → AllByRecursion Q (image_after line m earlier items)
  unfolding image_after
  image-keeps earlier [] = tt
  image-keeps earlier (item ∷ items) =
      both_all Q (m.outs (state_after line m earlier (line item)) item) _
      (gives (state_after line m earlier (line item)) item (state-keeps earlier (line item)))
      (image-keeps (earlier ++ item ∷ []) items)

-- what a train gives is a digit
abbrev IsDigitOf : Option ℕ → Type 0
IsDigitOf None = Unit {0}
IsDigitOf (Some d) = d < DIGITS

counted : (n : ℕ) (bad : Bool) → IsDigitOf (digit_of_count n bad)
counted n bad = cond_both _ (Some (n % MOST_PULSES)) None IsDigitOf (λ e. let small : n % MOST_PULSES < DIGITS = omega arith in small) (λ e. tt)

-- what a register keeps, and what it gives
abbrev Keeps : Phase → Type 0
Keeps OnHook = Unit {0}
Keeps (Listening digits) = AreDigits digits
Keeps Done = Unit {0}

abbrev IsDialled : Dialled → Type 0
IsDialled (dialled.Number digits) = AreDigits digits
IsDialled (dialled.Refused reason heard) = Unit {0}

abbrev Steps : Phase → Option Dialled → Type 0
Steps phase outcome = Keeps phase × AllByRecursion IsDialled (option_to_list outcome)

stored : (plan : Plan) (digits : List ℕ) (digit : Option ℕ) → AreDigits digits → IsDigitOf digit
    → Steps (store plan digits digit).phase (store plan digits digit).outcome
stored plan digits None are is = (tt, (tt, tt))
stored plan digits (Some d) are is =
    let more : List ℕ = digits ++ d ∷ [] in
    let all : AreDigits more = both_all (λ (digit : ℕ). digit < DIGITS) digits (d ∷ []) are (is, tt) in
    cond_both (reaches (plan_len plan more) (length more)) (give (dialled.Number more) Done) (enter (Listening more)) (λ step. Steps step.phase step.outcome)
    (λ _. (tt, (all, tt))) (λ _. (all, tt))

advanced : (plan : Plan) (phase : Phase) (signal : Signal) → Keeps phase → Steps (advance plan phase signal).phase (advance plan phase signal).outcome
advanced plan OnHook Seize are = (tt, tt)
advanced plan OnHook (Digit count bad) are = (tt, tt)
advanced plan OnHook TimeOut are = (tt, tt)
advanced plan OnHook Release are = (tt, tt)
advanced plan OnHook Close are = (tt, tt)
advanced plan (Listening digits) Seize are = (are, tt)
advanced plan (Listening digits) (Digit count bad) are =
    stored plan digits (digit_of_pattern (pattern_of_count count bad)) are (subst IsDigitOf (sym (spells count bad)) (counted count bad))
advanced plan (Listening digits) TimeOut are = (tt, (tt, tt))
advanced plan (Listening digits) Release are = (tt, (tt, tt))
advanced plan (Listening digits) Close are = (tt, (tt, tt))
advanced plan Done Seize are = (tt, tt)
advanced plan Done (Digit count bad) are = (tt, tt)
advanced plan Done TimeOut are = (tt, tt)
advanced plan Done Release are = (tt, tt)
advanced plan Done Close are = (tt, tt)

-- on its line
put-on : (line : ℕ) (outcomes : List Dialled) → AllByRecursion IsDialled outcomes → AllByRecursion (λ (o : On Dialled). IsDialled o.what) (on_line line outcomes)
put-on line [] are = tt
put-on line (outcome ∷ outcomes) are = (are.0, put-on line outcomes are.1)

-- each number that is dialled has digits
dialled-digits : (plan : Plan) (signals : List (On Signal)) → AllByRecursion (λ (o : On Dialled). IsDialled o.what) (image on_line_of (register_machine plan) signals)
dialled-digits plan signals =
    image-keeps on_line_of (register_machine plan) Keeps (λ (o : On Dialled). IsDialled o.what) tt
    (λ phase signal are. (advanced plan phase signal.what are).0)
    (λ phase signal are. put-on signal.line (option_to_list (advance plan phase signal.what).outcome) (advanced plan phase signal.what are).1)
    [] signals

all-drop : (k : ℕ) (digits : List ℕ) → AreDigits digits → AreDigits (drop k digits)
all-drop zero digits are = are
all-drop (suc k) [] are = tt
all-drop (suc k) (d ∷ digits) are = all-drop k digits are.1

-- so the order of what is dialled sends digits
order-sends : (routes : List CodedRoute) (outcome : Dialled) → AreRoutes routes → IsDialled outcome → Sends (order_of routes outcome)
order-sends routes (dialled.Refused reason heard) are is = tt
order-sends routes (dialled.Number digits) are is = by (route_for routes digits) (found-is routes digits are)
  where
    by : (found : Option CodedRoute) → IfSome found IsRoute → Sends (order_by found digits)
    by None route = tt
    by (Some route) of = both_all (λ (digit : ℕ). digit < DIGITS) route.prefixed (drop route.deleted digits) of.1 (all-drop route.deleted digits is)

module _ (table : Table) (are : AreRoutes table.routes) where
  entries-keyed : (outcomes : List (On Dialled)) → AllByRecursion (λ (o : On Dialled). IsDialled o.what) outcomes
      → AllByRecursion (λ (entry : Entry). AreKeyed entry.what) (map (entry_from table) outcomes)
  entries-keyed [] is = tt
  entries-keyed (outcome ∷ outcomes) is = (
    record { order = order_of table.routes outcome.what; are = refl; sends = order-sends table.routes outcome.what are is.0 },
    entries-keyed outcomes is.1,
  )

  numbered-keyed : (earlier entries : List Entry) → AllByRecursion (λ (entry : Entry). AreKeyed entry.what) entries
      → AllByRecursion (λ (entry : Numbered). AreKeyed entry.marks) (numbered_after earlier entries)
  unfolding numbered_after
  numbered-keyed earlier [] keyed = tt
  numbered-keyed earlier (entry ∷ entries) keyed = (keyed.0, numbered-keyed (earlier ++ entry ∷ []) entries keyed.1)

  of-told : (tolds : List TimedEntry) → AllByRecursion (λ (entry : Numbered). AreKeyed entry.marks) (map entry_in tolds)
      → AllByRecursion (λ (told : TimedEntry). AreKeyed told.marks) tolds
  of-told [] keyed = tt
  of-told (told ∷ tolds) keyed = (keyed.0, of-told tolds keyed.1)

  -- and so is each entry that rows complete
  pub told-keyed : (rows : List LoopRow) → AllByRecursion (λ (told : TimedEntry). AreKeyed told.marks) (told_of_rows table rows)
  told-keyed rows =
      of-told (told_of_rows table rows)
      (subst (AllByRecursion (λ (entry : Numbered). AreKeyed entry.marks)) (sym (told-all table rows))
      (numbered-keyed [] (entries_of_rows table rows)
      (subst (AllByRecursion (λ (entry : Entry). AreKeyed entry.what)) (sym (entries-dialled table rows))
      (entries-keyed (dialled_of table rows) (dialled-digits table.plan _)))))
