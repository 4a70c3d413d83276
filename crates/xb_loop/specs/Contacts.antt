-- A contact that is followed through a recording.
use Rattle.std.specs.Prelude.{ℕ, ◌+◌, ◌-◌, ◌^◌, ◌≤◌, min, List, Bool, Option, not, ◌&&◌, if◌then◌else◌}
use Rattle.xb_contact.specs.declared.level.Level.{Level}
use Rattle.xb_contact.specs.declared.hold.Hold.{Hold}
use Rattle.xb_contact.specs.Holds.{hold_of}
use Rattle.xb_contact.specs.Listening.{Heard, CanTake, given_now, heard_after, now_of, told_at_end}
use Rattle.xb_contact.specs.Ringing.{Ringing, all_rung, is_answering, piece_rung, rung_past}
use Rattle.xb_contact.specs.Seizing.{Seizing, all_passed, line_past, piece_passed}
use Rattle.xb_feed.specs.declared.tally.Tally.{Tally}
use Rattle.xb_loop.specs.declared.common.Common.{Common}
use Rattle.xb_feed.specs.Tallies.{tally_after}

-- what is heard of it so far, how it is watched for ringing and for seizures, the tick of its first level,
-- its level, what was counted of its short runs, what holds for all lines, how many levels were said that it had, and how
-- many calls answered its bell
pub record Followed : Type 0 where
  pub heard : Heard
  pub ringing : Ringing
  pub seizing : Seizing
  pub start : ℕ
  pub level : Level
  pub tally : Tally
  pub common : Common
  pub repeats : ℕ
  pub answers : ℕ

abbrev pub followed_of : Heard → Ringing → Seizing → ℕ → Level → Tally → Common → ℕ → ℕ → Followed
followed_of heard ringing seizing start level tally common repeats answers =
    record {
      heard = heard;
      ringing = ringing;
      seizing = seizing;
      start = start;
      level = level;
      tally = tally;
      common = common;
      repeats = repeats;
      answers = answers;
    }

-- a call answers the bell from the hold on with which the line is in it, up to 2^64 - 1 times
abbrev pub answers_by : ℕ → Bool → Bool → ℕ
answers_by answers before after = if not before && after then min (answers + 1) (2 ^ 64 - 1) else answers

abbrev pub answers_with : ℕ → Ringing → Ringing → ℕ
answers_with answers before after = answers_by answers (is_answering before) (is_answering after)

-- it may hold its level up to a tick
abbrev pub CanHold : Followed → ℕ → Type 0
CanHold contact tick = (contact.start ≤ tick) × CanTake contact.heard (tick - contact.start)

-- the hold up to a tick
abbrev pub hold_to : Followed → ℕ → Hold
hold_to contact tick = hold_of contact.level (tick - contact.start - now_of contact.heard)

-- what it gives, and what is known then
abbrev pub piece_until : Followed → ℕ → Option Hold
piece_until contact tick = given_now contact.heard (hold_to contact tick)

abbrev pub given_until : Followed → ℕ → List Hold
given_until contact tick = piece_passed contact.seizing (piece_rung contact.ringing (piece_until contact tick))

abbrev pub held_until : Followed → ℕ → Followed
held_until contact tick =
    record contact {
      heard = heard_after contact.heard (hold_to contact tick);
      ringing = rung_past contact.ringing (piece_until contact tick);
      seizing = line_past contact.seizing (piece_rung contact.ringing (piece_until contact tick));
      tally = tally_after contact.tally (hold_to contact tick);
      answers = answers_with contact.answers contact.ringing (rung_past contact.ringing (piece_until contact tick));
    }

-- what is left to be given where the recording ends
abbrev pub left_at_end : Followed → List Hold
left_at_end contact = all_passed contact.seizing (all_rung contact.ringing (told_at_end contact.heard))
