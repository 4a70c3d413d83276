use Rattle.std.proofs.Common.{◌≡◌, ◌++◌, ℕ, ◌≤◌, ◌+◌, List, [], length, Option, Result, Ok, Err, sym, arith}
use Rattle.std.proofs.lemmas.List.{length-append, length-take}
use Rattle.std.proofs.KnownBytes.{Consumes-kept, Consumes-nil, Consumes-trans}
use Rattle.std.specs.Io.KnownBytes.{Consumes}
use Rattle.xb_text.specs.declared.reading.ReadFault.{ReadFault}
use Rattle.xb_text.specs.declared.reading.ReadFault.TheVariants.{Failed, NoMemory, TooLong}
use Rattle.xb_text.specs.Reading.{ReadsMore, TakesSome, TakesUpTo}
use Rattle.xb_text.proofs.reading.read_whole.Goals as goal

-- one read takes no more than there is room for, whatever comes of it
one-read : (room : ℕ) (old new : Option (List ℕ)) (before after : List ℕ) (r : Result ℕ ReadFault)
    → ReadsMore room old new before after r → TakesUpTo room old new
one-read room old new before after (Ok n) h = (h.more, h.taken, omega (arith, h.count, h.within))
one-read room old new before after (Err Failed) h =
    ([], Consumes-kept old old new [] (Consumes-nil old) h, omega arith)
one-read room old new before after (Err NoMemory) (more, taken, some, within) = (more, taken, within)
one-read room old new before after (Err TooLong) h = absurd h

-- what was gathered, and one read more
and-more : (most room : ℕ) (a b c : Option (List ℕ)) (gathered : List ℕ) → Consumes a b gathered
    → length gathered + room ≤ most → TakesUpTo room b c → TakesUpTo most a c
and-more most room a b c gathered before few more = (
  gathered ++ more.0,
  Consumes-trans a b c gathered more.0 before more.1,
  simp (length-append) (omega (arith, few, more.2)),
)

-- what was gathered, and a read whose bytes found no memory
and-lost : (room : ℕ) (a b c : Option (List ℕ)) (gathered before after : List ℕ) (f : ReadFault)
    → Consumes a b gathered → ReadsMore room b c before after (Err f) → f ≡ NoMemory → TakesSome a c
and-lost room a b c gathered before after NoMemory read (more, taken, some, within) e = (
  gathered ++ more,
  Consumes-trans a b c gathered more read taken,
  simp (length-append) (omega (arith, some)),
)
and-lost room a b c gathered before after Failed read h e = cc
and-lost room a b c gathered before after TooLong read h e = absurd h

pub returns-in_err-read_more-clause-taken : goal.returns-in_err-read_more-clause-taken
returns-in_err-read_more-clause-taken g c =
    and-more _ _ _ _ _ _ c.loop-buffer.invariant.read
    (omega (arith, length-take {A = ℕ}, c.min-room.ensures, c.len.ensures, c.loop-buffer-test.true, c.loop-buffer.bytes.ok.0))
    (one-read _ _ _ _ _ _ c.read_more.ensures)

pub returns-in_err-read_more-clause-no_memory : goal.returns-in_err-read_more-clause-no_memory
returns-in_err-read_more-clause-no_memory g c = λ e.
    and-lost _ _ _ _ c.loop-buffer.bytes.items c.loop-buffer.bytes.items c.read_more.new.bytes.items _
    c.loop-buffer.invariant.read c.in_err-read_more.ensures (sym (rw e at c.from_residual.ensures.1))
