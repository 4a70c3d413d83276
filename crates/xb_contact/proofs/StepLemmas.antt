-- What is said step by step.
use Rattle.std.proofs.Common.{◌≡◌, List, [], ◌∷◌, ◌++◌, refl, ap, sym, subst, ◌∙◌, append_assoc, append-nil}
use Rattle.std.specs.Prelude.{Result, Ok, Err}
use Rattle.xb_contact.specs.declared.event.Event.{Event}
use Rattle.xb_contact.specs.declared.event.Refusal.{Refusal}
use Rattle.xb_contact.specs.Steps.{Adds, AddsAll, Said, all_say, result_and_then, said_before, say_to_end, then_later}

-- what was said, and then the rest
said_then :
    {S : Type 0} (said old mid new : List Event) (rest : Said S) (state : S)
    → mid ≡ old ++ said → Adds rest mid new state → Adds (said_before said rest) old new state
said_then said old mid new (Err refusal) state e h = h
said_then said old mid new (Ok later) state e h =
    (h.0 ∙ ap (λ m. m ++ later.0) e ∙ append_assoc old said later.0, h.1)

-- the rest of what was said
then_only :
    {S : Type 0} (said old mid : List Event) (now : S) (later : Said S)
    → Adds (said_before said later) old mid now → Adds later (old ++ said) mid now
then_only said old mid now (Err refusal) e = e
then_only said old mid now (Ok later) e = (e.0 ∙ sym (append_assoc old said later.0), e.1)

-- a part that was said, and then the rest
adds_then :
    {S P : Type 0} (says : S → P → Said S) (rest : List P) (first : Said S)
    (old mid new : List Event) (now state : S)
    → Adds first old mid now → Adds (all_say says now rest) mid new state
    → Adds (result_and_then (λ said. said_before said.0 (all_say says said.1 rest)) first) old new state
adds_then says rest (Err refusal) old mid new now state h k = elim h [ ]
adds_then {S} says rest (Ok said) old mid new now state h k =
    let P : S → Type 0 = λ s. Adds (all_say says s rest) mid new state in
    said_then said.0 old mid new (all_say says said.1 rest) state h.0 (subst P h.1 k)

pub adds_next :
    {S P : Type 0} (says : S → P → Said S) (part : P) (rest : List P) (old mid new : List Event)
    (before now state : S)
    → Adds (says before part) old mid now → Adds (all_say says now rest) mid new state
    → Adds (all_say says before (part ∷ rest)) old new state
adds_next says part rest old mid new before now state h k =
    adds_then says rest (says before part) old mid new now state h k

-- parts that were said, and then the rest
pub adds_after :
    {S P : Type 0} (says : S → P → Said S) (parts rest : List P) (old mid new : List Event)
    (before now state : S)
    → Adds (all_say says before parts) old mid now → Adds (all_say says now rest) mid new state
    → Adds (all_say says before (parts ++ rest)) old new state
adds_after {S} says [] rest old mid new before now state h k =
    let P : S → Type 0 = λ s. Adds (all_say says s rest) old new state in
    let Q : List Event → Type 0 = λ m. Adds (all_say says now rest) m new state in
    subst P h.1 (subst Q (h.0 ∙ append-nil old) k)
adds_after {S} says (part ∷ parts) rest old mid new before now state h k =
    at (says before part) h (λ start s m. adds_after says parts rest start mid new s now state m k)
  where
    at :
        (first : Said S)
        → Adds (result_and_then (λ said. said_before said.0 (all_say says said.1 parts)) first) old mid now
        → ((start : List Event) (s : S) → Adds (all_say says s parts) start mid now
        → Adds (all_say says s (parts ++ rest)) start new state)
        → Adds (result_and_then (λ said. said_before said.0 (all_say says said.1 (parts ++ rest))) first) old new state
    at (Err refusal) e f = elim e [ ]
    at (Ok said) e f =
        said_then said.0 old (old ++ said.0) new (all_say says said.1 (parts ++ rest)) state refl
        (f (old ++ said.0) said.1 (then_only said.0 old mid now (all_say says said.1 parts) e))

-- parts of which one is refused
before_refused :
    {S : Type 0} (said : List Event) (refusal : Refusal) (later : Said S)
    → said_before said later ≡ Err refusal → later ≡ Err refusal
before_refused said refusal (Err own) e = cc
before_refused said refusal (Ok rest) e = cc

pub refused_first :
    {S P : Type 0} (says : S → P → Said S) (parts rest : List P) (before : S) (refusal : Refusal)
    → all_say says before parts ≡ Err refusal → all_say says before (parts ++ rest) ≡ Err refusal
refused_first says [] rest before refusal e = cc
refused_first {S} says (part ∷ parts) rest before refusal e =
    at (says before part) e (λ s f. refused_first says parts rest s refusal f)
  where
    at :
        (first : Said S)
        → result_and_then (λ said. said_before said.0 (all_say says said.1 parts)) first ≡ Err refusal
        → ((s : S) → all_say says s parts ≡ Err refusal → all_say says s (parts ++ rest) ≡ Err refusal)
        → result_and_then (λ said. said_before said.0 (all_say says said.1 (parts ++ rest))) first ≡ Err refusal
    at (Err own) e f = cc
    at (Ok said) e f =
        ap (said_before said.0) (f said.1 (before_refused said.0 refusal (all_say says said.1 parts) e))

pub refused_after :
    {S P : Type 0} (says : S → P → Said S) (parts rest : List P) (old mid : List Event) (before now : S)
    (refusal : Refusal)
    → Adds (all_say says before parts) old mid now → all_say says now rest ≡ Err refusal
    → all_say says before (parts ++ rest) ≡ Err refusal
refused_after {S} says [] rest old mid before now refusal h k =
    let P : S → Type 0 = λ s. all_say says s rest ≡ Err refusal in
    subst P h.1 k
refused_after {S} says (part ∷ parts) rest old mid before now refusal h k =
    at (says before part) h (λ start s m. refused_after says parts rest start mid s now refusal m k)
  where
    at :
        (first : Said S)
        → Adds (result_and_then (λ said. said_before said.0 (all_say says said.1 parts)) first) old mid now
        → ((start : List Event) (s : S) → Adds (all_say says s parts) start mid now
        → all_say says s (parts ++ rest) ≡ Err refusal)
        → result_and_then (λ said. said_before said.0 (all_say says said.1 (parts ++ rest))) first ≡ Err refusal
    at (Err own) e f = elim e [ ]
    at (Ok said) e f =
        ap (said_before said.0) (f (old ++ said.0) said.1 (then_only said.0 old mid now (all_say says said.1 parts) e))

-- a part that was said after nothing, and then the rest up to the end
pub said_to_end :
    {S P : Type 0} (says : S → P → Said S) (ends : S → Result (List Event) Refusal) (part : P) (rest : List P)
    (old new : List Event) (before now : S) (later : Result (List Event) Refusal)
    → old ≡ [] → Adds (says before part) old new now → say_to_end says ends now rest ≡ later
    → say_to_end says ends before (part ∷ rest) ≡ then_later new later
said_to_end {S} says ends part rest old new before now later none h k = at (says before part) h
  where
    at :
        (first : Said S) → Adds first old new now
        → result_and_then (λ said. then_later said.0 (say_to_end says ends said.1 rest)) first ≡ then_later new later
    at (Err own) f = elim f [ ]
    at (Ok said) f =
        ap (λ m. then_later m (say_to_end says ends said.1 rest)) (sym (f.0 ∙ ap (λ o. o ++ said.0) none))
        ∙ ap (λ s. then_later new (say_to_end says ends s rest)) (sym f.1)
        ∙ ap (then_later new) k

-- a part that was refused
pub refused_to_end :
    {S P : Type 0} (says : S → P → Said S) (ends : S → Result (List Event) Refusal) (part : P) (rest : List P)
    (before : S) (refusal : Refusal)
    → says before part ≡ Err refusal → say_to_end says ends before (part ∷ rest) ≡ Err refusal
refused_to_end says ends part rest before refusal e =
    ap (result_and_then (λ said. then_later said.0 (say_to_end says ends said.1 rest))) e

-- the last part, and what is said at the end
pub ends_after :
    {S P : Type 0} (says : S → P → Said S) (ends : S → Result (List Event) Refusal) (part : P)
    (old mid new : List Event) (before now : S)
    → old ≡ [] → Adds (says before part) old mid now → AddsAll (ends now) mid new
    → say_to_end says ends before (part ∷ []) ≡ Ok new
ends_after says ends part old mid new before now none h k =
    said_to_end says ends part [] old mid before now (ends now) none h refl ∙ at (ends now) k
  where
    at : (left : Result (List Event) Refusal) → AddsAll left mid new → then_later mid left ≡ Ok new
    at (Err own) f = elim f [ ]
    at (Ok left) f = ap Ok (sym f)

-- the last part, after which the end is refused
pub refused_at_end :
    {S P : Type 0} (says : S → P → Said S) (ends : S → Result (List Event) Refusal) (part : P)
    (old mid : List Event) (before now : S) (refusal : Refusal)
    → old ≡ [] → Adds (says before part) old mid now → ends now ≡ Err refusal
    → say_to_end says ends before (part ∷ []) ≡ Err refusal
refused_at_end says ends part old mid before now refusal none h e =
    said_to_end says ends part [] old mid before now (Err refusal) none h e

-- a part that says these events, and then the rest
pub part_says :
    {S P : Type 0} (says : S → P → Said S) (before after : S) (part : P) (rest : List P) (events : List Event)
    → says before part ≡ Ok (events, after)
    → all_say says before (part ∷ rest) ≡ said_before events (all_say says after rest)
part_says says before after part rest events e =
    ap (λ first. result_and_then (λ said. said_before said.0 (all_say says said.1 rest)) first) e

-- a part that says nothing
said-none : {S : Type 0} (later : Said S) → said_before [] later ≡ later
said-none (Err refusal) = refl
said-none (Ok later) = refl

pub part_is_quiet :
    {S P : Type 0} (says : S → P → Said S) (before after : S) (part : P) (rest : List P)
    → says before part ≡ Ok ([], after) → all_say says before (part ∷ rest) ≡ all_say says after rest
part_is_quiet says before after part rest e =
    part_says says before after part rest [] e ∙ said-none (all_say says after rest)

-- the same up to the end
pub line_says :
    {S P : Type 0} (says : S → P → Said S) (ends : S → Result (List Event) Refusal) (before after : S) (line : P)
    (rest : List P) (events : List Event) → says before line ≡ Ok (events, after)
    → say_to_end says ends before (line ∷ rest) ≡ then_later events (say_to_end says ends after rest)
line_says says ends before after line rest events e =
    ap (λ first. result_and_then (λ said. then_later said.0 (say_to_end says ends said.1 rest)) first) e

later-none : (later : Result (List Event) Refusal) → then_later [] later ≡ later
later-none (Err refusal) = refl
later-none (Ok later) = refl

pub line_is_quiet :
    {S P : Type 0} (says : S → P → Said S) (ends : S → Result (List Event) Refusal) (before after : S) (line : P)
    (rest : List P) → says before line ≡ Ok ([], after)
    → say_to_end says ends before (line ∷ rest) ≡ say_to_end says ends after rest
line_is_quiet says ends before after line rest e =
    line_says says ends before after line rest [] e ∙ later-none (say_to_end says ends after rest)

-- a last part that says nothing, wherever it stands
pub last_is_quiet :
    {S P : Type 0} (says : S → P → Said S) (ends : S → Result (List Event) Refusal) (none : P)
    → ((state : S) → says state none ≡ Ok ([], state)) → (state : S) (parts : List P)
    → say_to_end says ends state (parts ++ none ∷ []) ≡ say_to_end says ends state parts
last_is_quiet says ends none quiet state [] = line_is_quiet says ends state state none [] (quiet state)
last_is_quiet {S} {P} says ends none quiet state (part ∷ parts) =
    at (says state part) (λ later. last_is_quiet says ends none quiet later parts)
  where
    at :
        (first : Said S)
        → ((later : S) → say_to_end says ends later (parts ++ none ∷ []) ≡ say_to_end says ends later parts)
        → result_and_then (λ said. then_later said.0 (say_to_end says ends said.1 (parts ++ none ∷ []))) first
        ≡ result_and_then (λ said. then_later said.0 (say_to_end says ends said.1 parts)) first
    at (Err refusal) same = refl
    at (Ok said) same = ap (then_later said.0) (same said.1)
