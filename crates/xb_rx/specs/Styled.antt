-- What is written of a text whose pictures look somehow: it is known but for the looks of one after the other.
use Rattle.std.specs.Prelude.{ℕ, ◌≡◌, List, ◌++◌, Option, Result, Ok, Err}
use Rattle.std.specs.Io.KnownBytes.{Appends}
use Rattle.xb_measured.specs.declared.heard.Heard.{Heard}
use Rattle.xb_svg.specs.Drawings.{Looks}
use Rattle.xb_text.specs.Writing.{AppendsBeginning}
use Rattle.xb_rx.specs.Pages.{Ends}

-- some keys were taken by some looks, and a writer got what leaves the second text of the first; or it got the beginning
pub record Leaves (before : List Heard → (ℕ → Looks) → List ℕ) (keys : List Heard)
    (after : List Heard → (ℕ → Looks) → List ℕ) (old new : Option (List ℕ)) : Type 0 where
  pub by : (ℕ → Looks) → ℕ → Looks
  pub bytes : List ℕ
  pub wrote : Appends old new bytes
  pub rest : (later : List Heard) (styles : ℕ → Looks) → before (keys ++ later) (by styles) ≡ bytes ++ after later styles

pub record Begins (before : List Heard → (ℕ → Looks) → List ℕ) (keys : List Heard) (old new : Option (List ℕ))
    : Type 0 where
  pub by : (ℕ → Looks) → ℕ → Looks
  pub begun : (later : List Heard) (styles : ℕ → Looks) → AppendsBeginning old new (before (keys ++ later) (by styles))

abbrev pub WritesBy : {F : Type 0} → (List Heard → (ℕ → Looks) → List ℕ) → List Heard
    → (List Heard → (ℕ → Looks) → List ℕ) → Result (Unit {0}) F → Option (List ℕ) → Option (List ℕ) → Type 0
WritesBy before keys after (Ok u) old new = Leaves before keys after old new
WritesBy before keys after (Err f) old new = Begins before keys old new

-- all of a text was written by some looks, or on an Err the beginning
abbrev pub EndsBy : {F : Type 0} → ((ℕ → Looks) → List ℕ) → Result (Unit {0}) F → Option (List ℕ) → Option (List ℕ)
    → Type 0
EndsBy text result old new = (styles : ℕ → Looks) × Ends (text styles) result old new
