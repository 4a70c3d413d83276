-- Which words of a VCD say an event: memory is taken for these alone.
use Rattle.std.specs.Prelude.{ℕ, ◌≡◌, ◌<◌, List, ◌∷◌, ◌++◌, Ok, Err, length}
use Rattle.xb_contact.specs.declared.event.Event.{Event}
use Rattle.xb_contact.specs.Steps.{Said, all_say}
use Rattle.xb_vcd.specs.VcdChanges.{VcdState}
use Rattle.xb_vcd.specs.VcdTexts.{word_says}

-- what is said has an event
abbrev pub HasEvent : Said VcdState → Type 0
HasEvent (Err refusal) = ⊥
HasEvent (Ok said) = 0 < length said.0

-- a word says one, and those before it are taken
pub record SayAnEvent (state : VcdState) (words : List (List ℕ)) : Type 0 where
  pub before : List (List ℕ)
  pub word : List ℕ
  pub later : List (List ℕ)
  pub are : words ≡ before ++ word ∷ later
  pub said : List Event
  pub there : VcdState
  pub taken : all_say word_says state before ≡ Ok (said, there)
  pub event : HasEvent (word_says there word)
