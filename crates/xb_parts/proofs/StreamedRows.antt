-- Rows that are given one after the other.
use Rattle.std.proofs.Common.{◌≡◌, ◌∙◌, ◌≤◌, ◌-◌, ◌^◌, List, [], ◌∷◌, ◌++◌, length, refl, sym, ap, append_assoc, append-nil, length-append, subst, inl, inr, arith}
use Rattle.std.specs.Prelude.{Err, IfSome, None, Ok, Option, Result, Some}
use Rattle.xb_model.specs.declared.fault.RowFault.{RowFault}
use Rattle.xb_model.specs.declared.fault.RowFault.TheVariants.{Read, TooMany}
use Rattle.xb_model.specs.Rows.{LoopRow}
use Rattle.xb_model.specs.Sources.{Rest, told}
use Rattle.xb_rows.specs.Scanning.{GivesRead}
use Rattle.xb_parts.specs.RowStreams.{HasFailed, HasGiven, HasGivenAll, IsStop, StopsRows}

-- what one call gives of rows: the next, or the end, or their fault
abbrev GivesNext : Option Rest → Result (Option LoopRow) RowFault → Option Rest → Type 0
GivesNext None result new = Unit {0}
GivesNext (Some old) (Ok (Some row)) None = ⊥
GivesNext (Some old) (Ok (Some row)) (Some new) = (old.rows ≡ row ∷ new.rows) × (new.stop ≡ old.stop)
GivesNext (Some old) (Ok None) new = (old.rows ≡ []) × (old.stop ≡ None)
GivesNext (Some old) (Err f) new = IsStop old.stop f

pub HasGiven-start : (start : Option Rest) → HasGiven [] start start
HasGiven-start None = tt
HasGiven-start (Some rest) = (refl, refl)

more : (before : List LoopRow) (start old new : Option Rest) (row : LoopRow) → HasGiven before start old
    → GivesNext old (Ok (Some row)) new → HasGiven (before ++ row ∷ []) start new
more before None old new row given gives = tt
more before (Some start) None new row given gives = absurd given
more before (Some start) (Some old) None row given gives = absurd gives
more before (Some start) (Some old) (Some new) row given gives = (
  given.0 ∙ ap (λ (rows : List LoopRow). before ++ rows) gives.0 ∙ sym (append_assoc before (row ∷ []) new.rows),
  gives.1 ∙ given.1,
)

at_end : (before : List LoopRow) (start old new : Option Rest) → HasGiven before start old
    → GivesNext old (Ok None) new → HasGivenAll before start
at_end before None old new given gives = tt
at_end before (Some start) None new given gives = absurd given
at_end before (Some start) (Some old) new given gives = (
  given.0 ∙ ap (λ (rows : List LoopRow). before ++ rows) gives.0 ∙ append-nil before,
  sym given.1 ∙ gives.1,
)

at_stop : (before : List LoopRow) (start old new : Option Rest) (f : RowFault) → HasGiven before start old
    → GivesNext old (Err f) new → IfSome start (λ rest. IsStop rest.stop f)
at_stop before None old new f given gives = tt
at_stop before (Some start) None new f given gives = absurd given
at_stop before (Some start) (Some old) new f given gives =
    subst (λ (stop : Option RowFault). IsStop stop f) given.1 gives

ok_is_err : {row : Option LoopRow} {f : RowFault} → Ok row ≡ Err f → ⊥
ok_is_err e = cc

abbrev the_err : RowFault → Result (Option LoopRow) RowFault
the_err f = Err f

err_is : {f g : RowFault} → the_err f ≡ the_err g → f ≡ g
err_is e = cc

-- what a reader of rows gives
GivesNext-read : (old : Option Rest) (result : Result (Option LoopRow) RowFault) (new : Option Rest)
    → GivesRead old result new → GivesNext old result new
GivesNext-read None result new gives = tt
GivesNext-read (Some old) result None gives = absurd gives
GivesNext-read (Some old) (Ok (Some row)) (Some new) (inl gives) = (gives.0, gives.1)
GivesNext-read (Some old) (Ok (Some row)) (Some new) (inr fails) = absurd (ok_is_err fails.1)
GivesNext-read (Some old) (Ok None) (Some new) (inl gives) = (gives.0, gives.1)
GivesNext-read (Some old) (Ok None) (Some new) (inr fails) = absurd (ok_is_err fails.1)
GivesNext-read (Some old) (Err f) (Some new) (inl (inl stopped, after)) = inl stopped.1
GivesNext-read (Some old) (Err f) (Some new) (inl (inr runs_out, after)) = inr (inr runs_out.1)
GivesNext-read (Some old) (Err f) (Some new) (inr fails) = inr (inl (err_is fails.1))

stopped : (start : Option Rest) (f : RowFault) → IfSome start (λ rest. IsStop rest.stop f)
    → IfSome start (λ rest. StopsRows rest f)
stopped None f stops = tt
stopped (Some start) f stops = inl stops

-- the same of a reader of rows
pub HasGiven-more : (before : List LoopRow) (start old new : Option Rest) (row : LoopRow) → HasGiven before start old
    → GivesRead old (Ok (Some row)) new → HasGiven (before ++ row ∷ []) start new
HasGiven-more before start old new row given gives =
    more before start old new row given (GivesNext-read old (Ok (Some row)) new gives)

pub HasGiven-end : (before : List LoopRow) (start old new : Option Rest) → HasGiven before start old
    → GivesRead old (Ok None) new → HasGivenAll before start
HasGiven-end before start old new given gives = at_end before start old new given (GivesNext-read old (Ok None) new gives)

pub HasGiven-stop : (before : List LoopRow) (start old new : Option Rest) (f : RowFault) → HasGiven before start old
    → GivesRead old (Err f) new → IfSome start (λ rest. StopsRows rest f)
HasGiven-stop before start old new f given gives =
    stopped start f (at_stop before start old new f given (GivesNext-read old (Err f) new gives))

-- so many rows were given, and no stop was told
pub HasGiven-many : (before : List LoopRow) (start now : Option Rest) → 2 ^ 64 - 1 ≤ length before
    → HasGiven before start now → IfSome start (λ rest. StopsRows rest TooMany)
HasGiven-many before None now many given = tt
HasGiven-many before (Some start) None many given = absurd given
HasGiven-many before (Some start) (Some now) many given =
    inr (refl, omega (arith, many, ap length given.0, length-append before now.rows))

-- a fault that was told is told from then on
pub told-failed : (old new : Option Rest) (f : RowFault) → GivesRead old (Err f) new → f ≡ Read → HasFailed new
told-failed None new f gives e = gives ∙ ap (λ g. Some (told (Some g))) e
told-failed (Some old) None f gives e = absurd gives
told-failed (Some old) (Some new) f (inl gives) e = ap Some (gives.1 ∙ ap (λ g. told (Some g)) e)
told-failed (Some old) (Some new) f (inr fails) e = ap Some fails.2
