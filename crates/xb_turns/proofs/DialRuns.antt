-- What is told piece by piece is what is told of the joined runs.
use Rattle.std.proofs.Common.{◌≡◌, ℕ, ◌+◌, ◌-◌, ◌^◌, ◌<◌, ◌≤◌, max, List, [], ◌∷◌, ◌++◌, Bool, true, false, Option, Some, None, map, refl, ap, sym, ◌∙◌, append_assoc, arith, cond, nat_le}
use Rattle.std.proofs.lemmas.Grind.{common_steps}
use Rattle.xb_model.specs.declared.limits.Limits.{Limits}
use Rattle.xb_contact.specs.declared.level.Level.{Level}
use Rattle.xb_contact.specs.declared.level.Level.TheVariants.{Closed, Open}
use Rattle.xb_contact.specs.declared.scale.Scale.{Scale}
use Rattle.xb_contact.specs.Holds.{same_level, total_of}
use Rattle.xb_contact.specs.Times.{ms_at}
use Rattle.xb_contact.proofs.RoundedHolds.{ms_at_grows}
use Rattle.xb_turns.specs.declared.dial.Dial.{Dial}
use Rattle.xb_turns.specs.declared.dial.Place.{Place}
use Rattle.xb_turns.specs.declared.dial.Place.TheVariants.{OnHook, Waiting, Pulsing, Over}
use Rattle.xb_turns.specs.declared.dial.Said.{Said}
use Rattle.xb_turns.specs.declared.train.Timed.{Timed}
use Rattle.xb_turns.specs.Trains.{plus}
use Rattle.xb_turns.specs.Dials.{begun_dial, dial_after, hung_up, lengthened, ms_between, place_after, run_of, said_by, said_now, said_of, said_then, turned}
use Rattle.xb_turns.specs.Digits.{Run, joined_runs, merged, onto_runs, run_by, said_list, timed_run, told_of_runs}
use Rattle.xb_turns.specs.DialLaws.{Piece, TellsTheRuns, holds_in, run_of_piece, told_of_pieces}

-- levels
pub same-closed : (a b c : Level) → same_level a b ≡ true → same_level a c ≡ same_level b c
same-closed Open Open c e = refl
same-closed Closed Closed c e = refl
same-closed Open Closed c e = cc
same-closed Closed Open c e = cc

same-turned : (a b : Level) → same_level a b ≡ same_level b a
same-turned Open Open = refl
same-turned Open Closed = refl
same-turned Closed Open = refl
same-turned Closed Closed = refl

-- two runs of one level in front of others
merged-merged : (a b c : Run) → merged a (merged b c) ≡ merged (merged a b) c
merged-merged a b c =
    let ticks : a.hold.ticks + (b.hold.ticks + c.hold.ticks) ≡ a.hold.ticks + b.hold.ticks + c.hold.ticks = omega arith in
    let bounce : max a.bounce (max b.bounce c.bounce) ≡ max (max a.bounce b.bounce) c.bounce = omega arith in
    ap (λ n. run_by a.hold.level n a.edge (max a.bounce (max b.bounce c.bounce))) ticks
    ∙ ap (run_by a.hold.level (a.hold.ticks + b.hold.ticks + c.hold.ticks) a.edge) bounce

onto-same :
    (a b : Run) (runs : List Run) → same_level a.hold.level b.hold.level ≡ true
    → onto_runs a (onto_runs b runs) ≡ onto_runs (merged a b) runs
onto-same a b [] e = ap (λ t. cond t (merged a b ∷ []) (a ∷ b ∷ [])) e
onto-same a b (c ∷ rest) e = by (same_level b.hold.level c.hold.level) refl
  where
    by :
        (t : Bool) → same_level b.hold.level c.hold.level ≡ t
        → onto_runs a (cond t (merged b c ∷ rest) (b ∷ c ∷ rest)) ≡ onto_runs (merged a b) (c ∷ rest)
    by true is =
        let there : same_level a.hold.level c.hold.level ≡ true = same-closed a.hold.level b.hold.level c.hold.level e ∙ is in
        ap (λ t. cond t (merged a (merged b c) ∷ rest) (a ∷ merged b c ∷ rest)) e
        ∙ ap (λ r. r ∷ rest) (merged-merged a b c)
        ∙ sym (ap (λ t. cond t (merged (merged a b) c ∷ rest) (merged a b ∷ c ∷ rest)) there)
    by false is =
        let there : same_level a.hold.level c.hold.level ≡ false = same-closed a.hold.level b.hold.level c.hold.level e ∙ is in
        ap (λ t. cond t (merged a b ∷ c ∷ rest) (a ∷ b ∷ c ∷ rest)) e
        ∙ sym (ap (λ t. cond t (merged (merged a b) c ∷ rest) (merged a b ∷ c ∷ rest)) there)

-- a run in front of others that begin with one of its level
onto-level : (a : Run) (runs : List Run) → (k : Run) × (later : List Run) × (onto_runs a runs ≡ k ∷ later) × (k.hold.level ≡ a.hold.level)
onto-level a [] = (a, [], refl, refl)
onto-level a (b ∷ rest) = by (same_level a.hold.level b.hold.level)
  where
    by :
        (t : Bool)
        → (k : Run) × (later : List Run) × (cond t (merged a b ∷ rest) (a ∷ b ∷ rest) ≡ k ∷ later) × (k.hold.level ≡ a.hold.level)
    by true = (merged a b, rest, refl, refl)
    by false = (a, b ∷ rest, refl, refl)

onto-other :
    (a b : Run) (runs : List Run) → same_level a.hold.level b.hold.level ≡ false
    → onto_runs a (onto_runs b runs) ≡ a ∷ onto_runs b runs
onto-other a b runs e =
    let (k, later, is, level) = onto-level b runs in
    let there : same_level a.hold.level k.hold.level ≡ false = ap (same_level a.hold.level) level ∙ e in
    ap (onto_runs a) is ∙ ap (λ t. cond t (merged a k ∷ later) (a ∷ k ∷ later)) there ∙ ap (λ r. a ∷ r) (sym is)

-- what was told of a run stays told as it grows
grows-make :
    (limits : Limits) (place : Place) (run longer : Timed) (edge : ℕ) (said : Said) → run.ms ≤ longer.ms
    → said_of limits place Closed run edge ≡ Some said → said_of limits place Closed longer edge ≡ Some said
grows-make limits OnHook run longer edge said le e = cc
grows-make limits Waiting run longer edge said le e = cc
grows-make limits (Pulsing train) run longer edge said le e = grind (arith, common_steps, le, e)
grows-make limits Over run longer edge said le e = cc

grows :
    (limits : Limits) (place : Place) (level : Level) (run longer : Timed) (edge : ℕ) (said : Said) → run.ms ≤ longer.ms
    → said_of limits place level run edge ≡ Some said → said_of limits place level longer edge ≡ Some said
grows limits place Closed run longer edge said le e = grows-make limits place run longer edge said le e
grows limits place Open run longer edge said le e = grind (arith, common_steps, le, e)

-- the ms of a run that goes on
ms-grows : (scale : Scale) (from until more : ℕ) → 0 < scale.ticks → ms_between scale from until ≤ ms_between scale from (until + more)
ms-grows scale from until more some =
    let late : ms_at scale until ≤ ms_at scale (until + more) = ms_at_grows scale until more some in
    grind (arith, common_steps, late)

-- the run under way, as one of a record
abbrev run_in : Dial → Run
run_in dial = run_by dial.level (dial.until - dial.from) dial.edge dial.bounce

under-way : (dial : Dial) → dial.from ≤ dial.until → timed_run dial.scale dial.from (run_in dial) ≡ run_of dial
under-way dial le =
    let until : dial.from + (dial.until - dial.from) ≡ dial.until = omega arith in
    ap (λ (n : ℕ). record {
      from = dial.from;
      ticks = dial.until - dial.from;
      ms = ms_between dial.scale dial.from n;
      bounce = dial.bounce;
    }) until

-- what is told with one piece more of a run
then-told :
    (before after : Option Said) → ((said : Said) → before ≡ Some said → after ≡ Some said)
    → said_list before ++ said_list (said_then before after) ≡ said_list after
then-told None after grows = refl
then-told (Some said) after grows = ap said_list (sym (grows said refl))

abbrev told_by_runs : Dial → List Run → List Said
told_by_runs dial runs = told_of_runs dial.limits dial.scale dial.place dial.from runs

-- all that is told of a dial and of pieces
abbrev Tells : List Piece → Type 0
Tells pieces =
    (dial : Dial) → 0 < dial.scale.ticks → dial.from ≤ dial.until → dial.until + total_of (holds_in pieces) < 2 ^ 64
    → said_list (said_by dial) ++ told_of_pieces dial pieces
    ≡ told_by_runs dial (joined_runs (run_in dial ∷ map run_of_piece pieces))

tells-one : (dial : Dial) → dial.from ≤ dial.until → said_list (said_by dial) ++ [] ≡ told_by_runs dial (run_in dial ∷ [])
tells-one dial le =
    ap (λ (run : Timed). said_list (said_of dial.limits dial.place dial.level run dial.edge) ++ []) (sym (under-way dial le))

module _ (piece : Piece) (rest : List Piece) (later : Tells rest) (dial : Dial) (some : 0 < dial.scale.ticks)
    (le : dial.from ≤ dial.until) (room : dial.until + (piece.hold.ticks + total_of (holds_in rest)) < 2 ^ 64) where
  abbrev ticks : ℕ
  ticks = piece.hold.ticks

  sum : plus dial.until ticks ≡ dial.until + ticks
  sum = omega arith

  abbrev runs : List Run
  runs = joined_runs (map run_of_piece rest)

  -- of the level of the run under way
  abbrev longer : Dial
  longer = lengthened dial ticks piece.bounce

  run-longer : same_level dial.level piece.hold.level ≡ true → run_in longer ≡ merged (run_in dial) (run_of_piece piece)
  run-longer e =
      let n : plus dial.until ticks - dial.from ≡ dial.until - dial.from + ticks = omega (arith, sum) in
      ap (λ (m : ℕ). run_by dial.level m dial.edge (max dial.bounce piece.bounce)) n

  tells-longer :
      same_level dial.level piece.hold.level ≡ true
      → said_list (said_by dial) ++ (said_list (said_then (said_by dial) (said_by longer)) ++ told_of_pieces longer rest)
      ≡ told_by_runs dial (joined_runs (run_in dial ∷ (run_of_piece piece ∷ map run_of_piece rest)))
  tells-longer e =
      let ms : (run_of dial).ms ≤ (run_of longer).ms =
      rw sum (ms-grows dial.scale dial.from dial.until ticks some) in
      let all : said_list (said_by longer) ++ told_of_pieces longer rest
      ≡ told_by_runs dial (joined_runs (run_in longer ∷ map run_of_piece rest)) =
      later longer some (omega (arith, sum)) (omega (arith, sum)) in
      sym (append_assoc (said_list (said_by dial)) (said_list (said_then (said_by dial) (said_by longer))) (told_of_pieces longer rest))
      ∙ ap (λ said. said ++ told_of_pieces longer rest)
      (then-told (said_by dial) (said_by longer)
      (λ said is. grows dial.limits dial.place dial.level (run_of dial) (run_of longer) dial.edge said ms is))
      ∙ all
      ∙ ap (told_by_runs dial)
      (ap (λ run. onto_runs run runs) (run-longer e) ∙ sym (onto-same (run_in dial) (run_of_piece piece) runs e))

  -- of the other level
  abbrev turns : Dial
  turns = turned dial piece.hold piece.bounce

  run-turned : run_in turns ≡ run_of_piece piece
  run-turned =
      let n : plus dial.until ticks - dial.until ≡ ticks = omega (arith, sum) in
      ap (λ (m : ℕ). run_by piece.hold.level m piece.bounce piece.bounce) n

  tells-turned :
      same_level dial.level piece.hold.level ≡ false
      → said_list (said_by dial) ++ (said_list (said_by turns) ++ told_of_pieces turns rest)
      ≡ told_by_runs dial (joined_runs (run_in dial ∷ (run_of_piece piece ∷ map run_of_piece rest)))
  tells-turned e =
      let all : said_list (said_by turns) ++ told_of_pieces turns rest
      ≡ told_by_runs turns (joined_runs (run_in turns ∷ map run_of_piece rest)) =
      later turns some (omega (arith, sum)) (omega (arith, sum)) in
      let until : dial.from + (dial.until - dial.from) ≡ dial.until = omega arith in
      let run = under-way dial le in
      let others : List Run = joined_runs (run_of_piece piece ∷ map run_of_piece rest) in
      ap (λ told. said_list (said_by dial) ++ told) (all ∙ ap (λ r. told_by_runs turns (joined_runs (r ∷ map run_of_piece rest))) run-turned)
      ∙ sym
      (ap (told_by_runs dial) (onto-other (run_in dial) (run_of_piece piece) runs e)
      ∙ ap (λ (r : Timed). said_list (said_of dial.limits dial.place dial.level r dial.edge)
      ++ told_of_runs dial.limits dial.scale (place_after dial.limits dial.place dial.level r)
      (dial.from + (dial.until - dial.from)) others) run
      ∙ ap (λ (n : ℕ). said_list (said_by dial)
      ++ told_of_runs dial.limits dial.scale (place_after dial.limits dial.place dial.level (run_of dial)) n others) until)

  tells-next :
      said_list (said_by dial)
      ++ (said_list (said_now dial piece.hold piece.bounce) ++ told_of_pieces (dial_after dial piece.hold piece.bounce) rest)
      ≡ told_by_runs dial (joined_runs (run_in dial ∷ (run_of_piece piece ∷ map run_of_piece rest)))
  tells-next = by (same_level piece.hold.level dial.level) (same-turned piece.hold.level dial.level)
    where
      by :
          (b : Bool) → b ≡ same_level dial.level piece.hold.level
          → said_list (said_by dial)
          ++ (said_list (cond b (said_then (said_by dial) (said_by longer)) (said_by turns))
          ++ told_of_pieces (cond b longer turns) rest)
          ≡ told_by_runs dial (joined_runs (run_in dial ∷ (run_of_piece piece ∷ map run_of_piece rest)))
      by true e = tells-longer (sym e)
      by false e = tells-turned (sym e)

tells : (pieces : List Piece) → Tells pieces
tells [] dial some le room = tells-one dial le
tells (piece ∷ rest) dial some le room = tells-next piece rest (tells rest) dial some le room

-- nothing is told of a line on hook
pub silent : (limits : Limits) (level : Level) (run : Timed) (edge : ℕ) → said_of limits OnHook level run edge ≡ None
silent limits Closed run edge = refl
silent limits Open run edge = by (nat_le limits.release run.ms)
  where
    by : (b : Bool) → cond b (hung_up OnHook edge) None ≡ None
    by true = refl
    by false = refl

pub tells_the_runs : TellsTheRuns
tells_the_runs limits scale first pieces some room =
    let dial : Dial = begun_dial limits scale first in
    sym (ap (λ said. said_list said ++ told_of_pieces dial pieces) (silent limits first (run_of dial) 0))
    ∙ tells pieces dial some (omega arith) (omega (arith, room))
