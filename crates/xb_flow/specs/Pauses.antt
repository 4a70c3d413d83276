-- What a wait does next, and what its end makes of the next one.
use Rattle.std.specs.Prelude.{ℕ, ◌+◌, ◌-◌, ◌*◌, ◌/◌, ◌^◌, ◌==◌, min, nat_lt, Bool, if◌then◌else◌}
use Rattle.xb_flow.specs.declared.pause.TheConstants.{AWAKE, LONGEST_NAP, MOST_CAUTION}

-- how often this wait has yielded or slept, how long it sleeps at once in microseconds (0 where it yields
-- first), how many waits that find little are still to come before one sleeps at once, and how many that
-- was the last time
pub record PauseView : Type 0 where
  pub waited : ℕ
  pub nap : ℕ
  pub wary : ℕ
  pub caution : ℕ

-- twice as much and one more, `most` at most
abbrev pub more : ℕ → ℕ → ℕ
more n most = if nat_lt n (most / 2) then n * 2 + 1 else most

-- after one yield, while it may yield, or else one sleep
abbrev pub after_wait : PauseView → PauseView
after_wait p = record p {
  waited = min (p.waited + 1) (2 ^ 32 - 1);
  nap =
      if p.nap == 0
      then (if nat_lt p.waited AWAKE then 0 else more 0 LONGEST_NAP)
      else more p.nap LONGEST_NAP;
}

-- after a wait that did not sleep
abbrev pub after_yields : (little : Bool) → PauseView → PauseView
after_yields little p =
    if little
    then (if p.wary == 0 then record p { nap = 1 } else record p { wary = p.wary - 1 })
    else p

-- after a wait that slept, and found half of the ring or more
abbrev pub after_long_nap : PauseView → PauseView
after_long_nap p =
    if p.nap / 4 == 0
    then record p { nap = 0; caution = more p.caution MOST_CAUTION; wary = more p.caution MOST_CAUTION }
    else record p { nap = p.nap / 4 }

-- after a wait that slept, and found less
abbrev pub after_nap : (little : Bool) → PauseView → PauseView
after_nap little p = record p { caution = 0; nap = if little then p.nap else p.nap / 2 }

-- after a wait that found so many, in a ring with so much room
abbrev pub after_found : ℕ → ℕ → PauseView → PauseView
after_found found room p =
    if p.nap == 0
    then after_yields (nat_lt found (room / 8)) p
    else (if nat_lt found (room / 2) then after_nap (nat_lt found (room / 8)) p else after_long_nap p)

-- after the wait, where there was one
abbrev pub after_over : ℕ → ℕ → PauseView → PauseView
after_over found room p = if p.waited == 0 then p else after_found found room (record p { waited = 0 })
