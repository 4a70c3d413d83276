use Rattle.std.proofs.Common.{◌≡◌, ◌≤◌, List, [], drop}
use Rattle.std.specs.Prelude.{Err, slice_range}
use Rattle.xb_contact.specs.declared.event.Event.{Event}
use Rattle.xb_contact.specs.declared.event.Refusal.{Refusal}
use Rattle.xb_contact.specs.Steps.{Adds, all_say}
use Rattle.xb_vcd.specs.VcdChanges.{VcdState, vcd_state}
use Rattle.xb_vcd.specs.VcdEvents.{SayAnEvent}
use Rattle.xb_vcd.specs.VcdTexts.{word_says, words_in}
use Rattle.xb_vcd.proofs.vcd.Vcd.take_words.Given as goal

abbrev pub invariant-loop-end : goal.invariant-loop-end
invariant-loop-end l = record {
  places : l.start ≤ l.end;
  said : (new : List Event) (state : VcdState)
      → Adds (all_say word_says (vcd_state l.self) (words_in (slice_range l.line l.start l.end) (drop l.end l.line)))
      l.events.items new state
      → Adds (all_say word_says (vcd_state l.initial.self) (words_in [] l.line)) l.initial.events.items new state;
  refused : (refusal : Refusal)
      → all_say word_says (vcd_state l.self) (words_in (slice_range l.line l.start l.end) (drop l.end l.line)) ≡ Err refusal
      → all_say word_says (vcd_state l.initial.self) (words_in [] l.line) ≡ Err refusal;
  memory : SayAnEvent (vcd_state l.self) (words_in (slice_range l.line l.start l.end) (drop l.end l.line))
      → SayAnEvent (vcd_state l.initial.self) (words_in [] l.line);
}
