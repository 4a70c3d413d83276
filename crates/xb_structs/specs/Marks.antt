-- Marks as plain numbers.
use Rattle.std.specs.Prelude.{ℕ}
use Rattle.xb_model.specs.declared.key.Key.{Key}
use Rattle.xb_model.specs.declared.key.Key.TheVariants.{Digit, Kp, St}
use Rattle.xb_model.specs.declared.mark.Mark.{Mark}
use Rattle.xb_model.specs.declared.mark.Mark.TheVariants.{Trunk, Tone as Sounds, Refused}
use Rattle.xb_model.specs.declared.on.On.{On}
use Rattle.xb_model.specs.declared.reason.Reason.{Reason}
use Rattle.xb_model.specs.declared.reason.Reason.TheVariants.{Mutilated, Unknown, Abandoned, TimedOut}
use Rattle.xb_structs.specs.declared.mark.PlainMark.{PlainMark}

abbrev pub plain : ℕ → ℕ → ℕ → ℕ → ℕ → PlainMark
plain line kind value low high = record { line = line; kind = kind; value = value; low = low; high = high }

abbrev pub key_mark : ℕ → Key → ℕ → ℕ → PlainMark
key_mark line (Digit d) low high = plain line 1 d low high
key_mark line Kp low high = plain line 2 0 low high
key_mark line St low high = plain line 3 0 low high

abbrev pub refusal_mark : ℕ → Reason → ℕ → PlainMark
refusal_mark line Mutilated heard = plain line 4 heard 0 0
refusal_mark line Unknown heard = plain line 5 heard 0 0
refusal_mark line Abandoned heard = plain line 6 heard 0 0
refusal_mark line TimedOut heard = plain line 7 heard 0 0

abbrev pub mark_on : ℕ → Mark → PlainMark
mark_on line (Trunk trunk) = plain line 0 trunk 0 0
mark_on line (Sounds key tone) = key_mark line key tone.low tone.high
mark_on line (Refused reason heard) = refusal_mark line reason heard

abbrev pub plain_mark : On Mark → PlainMark
plain_mark mark = mark_on mark.line mark.what
